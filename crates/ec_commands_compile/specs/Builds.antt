-- What `build` promises of the text that it wrote, and when each other answer comes.
use Rattle.std.specs.Prelude.{ℕ, ◌≤◌, ◌<◌, ◌≡◌, ◌⊎◌, true, false, List, take, length, Option, Some, None, IsSomeAnd, ⊤}
use Rattle.std.specs.FinMap.{remove}
use Rattle.ec_io.specs.Causes.{Rose}
use Rattle.ec_io.specs.Disk.{Files, Disk, content}
use Rattle.ec_io.specs.Views.{StoreView}
use Rattle.ec_hex.specs.Denotes.{Denotes}
use Rattle.ec_hex.specs.Text.{image_text}
use Rattle.ec_build.specs.Builds.{IsBuilt}
use Rattle.ec_build.specs.Causes.{HasCause}
use Rattle.ec_build.specs.Accepted.{IsAccepted}
use Rattle.ec_build.specs.declared.building.Built.{Built}
use Rattle.ec_build.specs.declared.stop.BuildStop.{BuildStop}
use Rattle.ec_commands.specs.Shown.{Told, KeepsAll, Holds}
use Rattle.ec_commands.specs.Words.{Words, is_build, IsBuild, out_name, words_from}
use Rattle.ec_commands.specs.declared.stop.Limit.TheVariants.{Sources}
use Rattle.ec_commands.specs.declared.stop.CommandError.TheVariants.{Usage, CannotWrite, TooMany}
use Rattle.ec_commands_compile.specs.Inputs.{AreInputs, StopsReadingBuild}
use Rattle.ec_commands_compile.specs.declared.stop.CompileStop.{CompileStop}
use Rattle.ec_commands_compile.specs.declared.stop.CompileStop.TheVariants.{Command, Build}

-- ---- what is built

-- the program of the named sources, placed by the named map
pub record IsBuiltFrom (words : Words) (first : ℕ) (b : Built) (files : Files) : Type 0 where
  pub map : List ℕ
  pub sources : List (List ℕ)
  pub inputs : AreInputs words first map sources files
  pub built : IsBuilt sources map b

-- what was read, and built of it; where the store told its files, these hold it
pub record IsBuiltOf (words : Words) (first : ℕ) (disk : Option Disk) (b : Built) : Type 0 where
  pub map : List ℕ
  pub sources : List (List ℕ)
  pub inputs : Told (AreInputs words first map sources) disk
  pub built : IsBuilt sources map b

-- OUT holds the HEX text of the image of a program, and no other text; it denotes that image. The program is that of the
-- named sources, placed by the named map, and from every reset state does what they say. All other files are as before
pub record IsBuiltTo (words : Words) (old new : Disk) : Type 0 where
  pub built : Built
  pub from : IsBuiltFrom words 3 built old.files
  pub text : content new.files (out_name words) ≡ image_text built.located.image
  pub denotes : Denotes built.located.image.core (content new.files (out_name words)) built.located.image.bytes.items
      built.located.image.written.items
  pub others : remove new.files (out_name words) ≡ remove old.files (out_name words)

-- where the store told its files, it tells what was built
abbrev pub Builds : Words → Option Disk → Option Disk → Type 0
Builds words None new = ⊤
Builds words (Some old) new = IsSomeAnd new (IsBuiltTo words old)

-- ---- when each answer other than 0 comes; none but out of memory comes where an earlier one has its cause

-- the map and the sources are refused for this
abbrev pub RefusesBuild : List (List ℕ) → List ℕ → CompileStop → Type 0
RefusesBuild sources map (Command stop) = ⊥
RefusesBuild sources map (Build stop) = HasCause sources map stop

-- so are those that the words name
pub record IsRefusedFor (words : Words) (first : ℕ) (stop : BuildStop) (files : Files) : Type 0 where
  pub map : List ℕ
  pub sources : List (List ℕ)
  pub inputs : AreInputs words first map sources files
  pub cause : HasCause sources map stop

-- why nothing is built of the map and the sources that the words name
abbrev pub StopsBuilding : Words → ℕ → StoreView → StoreView → CompileStop → Type 0
StopsBuilding words first old new (Command stop) = StopsReadingBuild words first old new stop
StopsBuilding words first old new (Build stop) = Told (IsRefusedFor words first stop) old.disk

-- there is an image
abbrev pub HasImage : Words → ℕ → Files → Type 0
HasImage words first files = (b : Built) × IsBuiltFrom words first b files

abbrev pub BuildCause : Words → StoreView → StoreView → CompileStop → Type 0
BuildCause words old new (Command Usage) = is_build words ≡ false
BuildCause words old new (Command (TooMany Sources)) = (is_build words ≡ true) × (16 < words_from words 3)
BuildCause words old new (Command CannotWrite) =
    IsBuild words × Rose old.write_faults new.write_faults × Told (HasImage words 3) old.disk
BuildCause words old new stop = IsBuild words × StopsBuilding words 3 old new stop

-- OUT holds a prefix of the HEX text of the image, and all other files are as at entry
abbrev pub HoldsPrefix : Words → Disk → Disk → Type 0
HoldsPrefix words old new =
    (b : Built) × (IsBuiltFrom words 3 b old.files
    × ((n : ℕ) × Holds (out_name words) (take n (image_text b.located.image)) old new))

-- what a failed creation or a failed write leaves, where the store told its files
abbrev pub LeavesPrefix : Words → Option Disk → Option Disk → Type 0
LeavesPrefix words None new = ⊤
LeavesPrefix words (Some old) new = IsSomeAnd new (λ now. (now.files ≡ old.files) ⊎ HoldsPrefix words old now)

-- the files after each answer other than 0
abbrev pub LeavesFiles : Words → Option Disk → Option Disk → CompileStop → Type 0
LeavesFiles words old new (Command CannotWrite) = LeavesPrefix words old new
LeavesFiles words old new _ = KeepsAll old new

pub record BuildStops (words : Words) (old new : StoreView) (stop : CompileStop) : Type 0 where
  pub cause : BuildCause words old new stop
  pub files : LeavesFiles words old.disk new.disk stop

-- ---- what is accepted

-- the named map and sources are within their limits, and nothing stands against them
pub record AreAccepted (words : Words) (first : ℕ) (files : Files) : Type 0 where
  pub map : List ℕ
  pub sources : List (List ℕ)
  pub inputs : AreInputs words first map sources files
  pub accepted : IsAccepted sources map

-- the store told its files, and they are accepted
abbrev pub Accepts : Words → ℕ → Option Disk → Type 0
Accepts words first None = ⊥
Accepts words first (Some disk) = AreAccepted words first disk.files

-- ---- the text of a build

-- it is the HEX text of an image of the named files
pub record IsTextOf (words : Words) (first : ℕ) (files : Files) (text : List ℕ) : Type 0 where
  pub built : Built
  pub from : IsBuiltFrom words first built files
  pub is : text ≡ image_text built.located.image

-- they have one, or none
abbrev pub BuildsHaveOneText : Type 0
BuildsHaveOneText =
    (words : Words) (first : ℕ) (files : Files) (text other : List ℕ) → IsTextOf words first files text
    → IsTextOf words first files other → text ≡ other

-- the text of the named files has at most so many bytes
pub record HasTextWithin (words : Words) (room : ℕ) (files : Files) : Type 0 where
  pub text : List ℕ
  pub of_files : IsTextOf words 3 files text
  pub most : length text ≤ room

-- where there is an image of the named files, its text has at most so many bytes; where the store tells no files, that of
-- any image has
abbrev pub FitsText : Words → Option Disk → ℕ → Type 0
FitsText words None room = (b : Built) → length (image_text b.located.image) ≤ room
FitsText words (Some disk) room = HasImage words 3 disk.files → HasTextWithin words room disk.files
