-- What `list` promises of the listing that it printed, and when each other answer comes.
use Rattle.std.specs.Prelude.{ℕ, ◌≡◌, ◌≤◌, ◌⊎◌, List, Bool, length, take, Option, Some, None}
use Rattle.std.specs.FinMap.{get}
use Rattle.std.specs.Io.KnownBytes.{Appends}
use Rattle.ec_space.specs.declared.Core.{Core}
use Rattle.ec_io.specs.Causes.{Rose}
use Rattle.ec_io.specs.Disk.{Files, Disk}
use Rattle.ec_io.specs.Views.{StoreView, SinkCall}
use Rattle.ec_hex.specs.Denotes.{Denotes}
use Rattle.ec_list.specs.Lists.{Lists, listing}
use Rattle.ec_commands.specs.Runs.{HasHexFault}
use Rattle.ec_commands.specs.Shown.{Told, StopsReading}
use Rattle.ec_commands.specs.Words.{Words, listed_name}
use Rattle.ec_commands.specs.declared.stop.Limit.TheVariants.{HexBytes}
use Rattle.ec_commands.specs.declared.stop.CommandError.{CommandError}
use Rattle.ec_commands.specs.declared.stop.CommandError.TheVariants.{NoMemory, CannotWrite}

-- the HEX file holds this text, which is within its limit
pub record IsHex (words : Words) (disk : Option Disk) (text : List ℕ) : Type 0 where
  pub told : Told (λ files. get files (listed_name words) ≡ Some text) disk
  pub fits : length text ≤ 1048576

-- a HEX text that denotes the image of a core
pub record HexOf (words : Words) (core : Core) (disk : Option Disk) : Type 0 where
  pub text : List ℕ
  pub is_hex : IsHex words disk text
  pub bytes : List ℕ
  pub written : List Bool
  pub denotes : Denotes core text bytes written

-- `out` received the listing of the image that the HEX file denotes, and this text lists that image
pub record Listed (words : Words) (core : Core) (disk : Option Disk) (out : SinkCall) : Type 0 where
  pub hex : HexOf words core disk
  pub shown : Appends out.before out.after (listing hex.bytes hex.written)
  pub lists : Lists core (listing hex.bytes hex.written) hex.bytes hex.written

-- the HEX file was read, and has a fault
abbrev pub StopsHex : Words → Core → Option Disk → CommandError → Type 0
StopsHex words core disk stop = (text : List ℕ) × (IsHex words disk text × HasHexFault core text stop)

-- why nothing is printed
abbrev pub StopsBefore : Words → Core → StoreView → StoreView → CommandError → Type 0
StopsBefore words core old new stop =
    (stop ≡ NoMemory) ⊎ (StopsReading words 2 HexBytes old new stop ⊎ StopsHex words core old.disk stop)

-- a write failed, after a prefix of the listing
abbrev pub StopsPrinting : Words → Core → Option Disk → SinkCall → CommandError → Type 0
StopsPrinting words core disk out stop =
    (stop ≡ CannotWrite) × (Rose out.faults_before out.faults_after
    × ((hex : HexOf words core disk) × ((n : ℕ) × Appends out.before out.after (take n (listing hex.bytes hex.written)))))

-- none but out of memory comes where an earlier one has its cause, and `out` receives nothing before the listing is made
abbrev pub ListStops : Words → Core → StoreView → StoreView → SinkCall → CommandError → Type 0
ListStops words core old new out stop =
    (StopsBefore words core old new stop × (out.after ≡ out.before)) ⊎ StopsPrinting words core old.disk out stop

-- the store told its files, and the HEX file is within its limit and denotes an image
pub record AcceptsHex (words : Words) (core : Core) (files : Files) : Type 0 where
  pub text : List ℕ
  pub there : get files (listed_name words) ≡ Some text
  pub fits : length text ≤ 1048576
  pub image : (bytes : List ℕ) × ((written : List Bool) × Denotes core text bytes written)

abbrev pub CanList : Words → Core → Option Disk → Type 0
CanList words core None = ⊥
CanList words core (Some disk) = AcceptsHex words core disk.files

-- the listing has at most so many bytes
abbrev pub FitsListing : Words → Core → Option Disk → ℕ → Type 0
FitsListing words core disk room = (hex : HexOf words core disk) → length (listing hex.bytes hex.written) ≤ room
