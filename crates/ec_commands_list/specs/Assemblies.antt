-- What `assemble` promises of the text that it wrote, and when each other answer comes.
use Rattle.std.specs.Prelude.{ℕ, ◌≡◌, ◌≤◌, ◌⊎◌, List, [], ◌∷◌, Bool, length, take, Option, Some, None, IsSomeAnd, ⊤}
use Rattle.std.specs.FinMap.{get, remove}
use Rattle.ec_space.specs.declared.Core.{Core}
use Rattle.ec_io.specs.Causes.{Rose}
use Rattle.ec_io.specs.Disk.{Files, Disk, content}
use Rattle.ec_io.specs.Views.{StoreView}
use Rattle.ec_hex.specs.Denotes.{Denotes}
use Rattle.ec_hex.specs.Text.{hex_text}
use Rattle.ec_list.specs.Lists.{Lists, StopsAt}
use Rattle.ec_commands.specs.Shown.{Told, KeepsAll, Holds, StopsReading}
use Rattle.ec_commands.specs.Words.{Words, listing_name, assembled_name}
use Rattle.ec_commands.specs.declared.stop.Limit.TheVariants.{ListingBytes}
use Rattle.ec_commands.specs.declared.stop.CommandError.{CommandError}
use Rattle.ec_commands.specs.declared.stop.CommandError.TheVariants.{NoMemory, CannotWrite, AsmLine}

-- the names of the files that it reads
abbrev pub assemble_inputs : Words → List (List ℕ)
assemble_inputs words = listing_name words ∷ []

-- the listing file holds this text, which is within its limit
pub record IsAsm (words : Words) (text : List ℕ) (files : Files) : Type 0 where
  pub there : get files (listing_name words) ≡ Some text
  pub fits : length text ≤ 4194304

-- it lists this image of a core
pub record IsListedIn (words : Words) (core : Core) (bytes : List ℕ) (written : List Bool) (files : Files) : Type 0 where
  pub text : List ℕ
  pub is_asm : IsAsm words text files
  pub lists : Lists core text bytes written

-- OUT holds the HEX text of the image that the listing file lists, and no other text; it denotes that image. All other
-- files are as before
pub record IsAssembledTo (words : Words) (core : Core) (old new : Disk) : Type 0 where
  pub bytes : List ℕ
  pub written : List Bool
  pub listed : IsListedIn words core bytes written old.files
  pub text : content new.files (assembled_name words) ≡ hex_text bytes written
  pub denotes : Denotes core (content new.files (assembled_name words)) bytes written
  pub others : remove new.files (assembled_name words) ≡ remove old.files (assembled_name words)

-- where the store told its files, it tells what was assembled
abbrev pub Assembles : Words → Core → Option Disk → Option Disk → Type 0
Assembles words core None new = ⊤
Assembles words core (Some old) new = IsSomeAnd new (IsAssembledTo words core old)

-- ---- when each answer other than 0 comes; none but out of memory comes where an earlier one has its cause

-- the line is the first that breaks a rule, and the rule the least that it breaks
abbrev pub IsBrokenAt : Words → Core → ℕ → ℕ → Files → Type 0
IsBrokenAt words core line rule files = (text : List ℕ) × (IsAsm words text files × StopsAt core text line rule)

-- there is an image
abbrev pub HasImage : Words → Core → Files → Type 0
HasImage words core files = (bytes : List ℕ) × ((written : List Bool) × IsListedIn words core bytes written files)

abbrev pub AssembleCause : Words → Core → StoreView → StoreView → CommandError → Type 0
AssembleCause words core old new NoMemory = ⊤
AssembleCause words core old new (AsmLine line rule) = Told (IsBrokenAt words core line rule) old.disk
AssembleCause words core old new CannotWrite =
    Rose old.write_faults new.write_faults × Told (HasImage words core) old.disk
AssembleCause words core old new stop = StopsReading words 2 ListingBytes old new stop

-- OUT holds a prefix of the HEX text of the image, and all other files are as at entry
abbrev pub HoldsPrefix : Words → Core → Disk → Disk → Type 0
HoldsPrefix words core old new =
    (bytes : List ℕ) × ((written : List Bool) × (IsListedIn words core bytes written old.files
    × ((n : ℕ) × Holds (assembled_name words) (take n (hex_text bytes written)) old new)))

-- what a failed creation or a failed write leaves, where the store told its files
abbrev pub LeavesPrefix : Words → Core → Option Disk → Option Disk → Type 0
LeavesPrefix words core None new = ⊤
LeavesPrefix words core (Some old) new = IsSomeAnd new (λ now. (now.files ≡ old.files) ⊎ HoldsPrefix words core old now)

-- the files after each answer other than 0
abbrev pub LeavesFiles : Words → Core → Option Disk → Option Disk → CommandError → Type 0
LeavesFiles words core old new CannotWrite = LeavesPrefix words core old new
LeavesFiles words core old new _ = KeepsAll old new

pub record AssembleStops (words : Words) (core : Core) (old new : StoreView) (stop : CommandError) : Type 0 where
  pub cause : AssembleCause words core old new stop
  pub files : LeavesFiles words core old.disk new.disk stop

-- why a text lists no image
abbrev pub RefusesText : Core → List ℕ → CommandError → Type 0
RefusesText core text NoMemory = ⊤
RefusesText core text (AsmLine line rule) = StopsAt core text line rule
RefusesText core text stop = ⊥

-- ---- what is accepted

-- the store told its files, and the listing file is within its limit and lists an image
abbrev pub CanAssemble : Words → Core → Option Disk → Type 0
CanAssemble words core None = ⊥
CanAssemble words core (Some disk) = HasImage words core disk.files

-- the HEX text of the image has at most so many bytes
abbrev pub FitsHex : Words → Core → Option Disk → ℕ → Type 0
FitsHex words core disk room =
    (bytes : List ℕ) (written : List Bool) → Told (IsListedIn words core bytes written) disk
    → length (hex_text bytes written) ≤ room
