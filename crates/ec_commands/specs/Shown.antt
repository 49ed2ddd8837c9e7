-- What reading and writing the files of a store leaves.
use Rattle.std.specs.Prelude.{ℕ, ◌+◌, ◌≤◌, ◌<◌, ◌≡◌, ◌⊎◌, List, length, take, Option, Some, None, IsSomeAnd, Result}
use Rattle.std.specs.Prelude.{MatchResult, ⊤}
use Rattle.std.specs.FinMap.{get, remove}
use Rattle.ec_io.specs.Causes.{Rose, Counted}
use Rattle.ec_io.specs.Disk.{Files, Disk, content, known_name}
use Rattle.ec_io.specs.Views.{StoreView}
use Rattle.ec_commands.specs.Words.{Words, word}
use Rattle.ec_commands.specs.declared.stop.Limit.{Limit}
use Rattle.ec_commands.specs.declared.stop.CommandError.{CommandError}
use Rattle.ec_commands.specs.declared.stop.CommandError.TheVariants.{CannotRead, TooMany, NoMemory}
use Rattle.ec_commands.specs.Stops.{most_of}

-- P holds of the files, where the store tells them
abbrev pub Told : (Files → Type 0) → Option Disk → Type 0
Told P None = ⊤
Told P (Some disk) = P disk.files

-- the file is there and has at most so many bytes
abbrev pub IsWithin : List ℕ → ℕ → Files → Type 0
IsWithin name most files = IsSomeAnd (get files name) (λ bytes. length bytes ≤ most)

-- the file is there and has more bytes
abbrev pub IsPast : List ℕ → ℕ → Files → Type 0
IsPast name most files = most < length (content files name)

-- all files are as at entry
abbrev pub KeepsAll : Option Disk → Option Disk → Type 0
KeepsAll None new = new ≡ None
KeepsAll (Some old) new = IsSomeAnd new (λ now. now.files ≡ old.files)

-- the named file holds these bytes, and all other files are as at entry
pub record Holds (name bytes : List ℕ) (old new : Disk) : Type 0 where
  pub content : content new.files name ≡ bytes
  pub others : remove new.files name ≡ remove old.files name

-- what creating and writing a file left, where the store told its files: the text, a prefix of it, or the files as they
-- were
abbrev pub WritesFile : {E : Type 0} → List ℕ → Option Disk → Option Disk → Result Unit E → List ℕ → Type 0
WritesFile name None new r text = ⊤
WritesFile name (Some old) new r text =
    MatchResult r (λ _. IsSomeAnd new (Holds name text old))
    (λ _. IsSomeAnd new (λ now. (now.files ≡ old.files) ⊎ ((n : ℕ) × Holds name (take n text) old now)))

-- a file was not read: opening or reading it failed, and no other file failed later
pub record IsUnread (name : List ℕ) (old new : StoreView) : Type 0 where
  pub rose : Rose old.read_faults new.read_faults
  pub missed : new.missed ≡ Some (known_name name)

-- why a file was not read
abbrev pub StopsReading : Words → ℕ → Limit → StoreView → StoreView → CommandError → Type 0
StopsReading words i limit old new (CannotRead j) = (j ≡ i) × IsUnread (word words i) old new
StopsReading words i limit old new (TooMany passed) =
    (passed ≡ limit) × Told (IsPast (word words i) (most_of limit)) old.disk
    × Counted old.received new.received (most_of limit + 1)
StopsReading words i limit old new NoMemory = ⊤
StopsReading words i limit old new _ = ⊥

-- a file was read
pub record Reads (words : Words) (i : ℕ) (limit : Limit) (old new : StoreView) (bytes : List ℕ) : Type 0 where
  pub told : Told (λ files. get files (word words i) ≡ Some bytes) old.disk
  pub within : length bytes ≤ most_of limit
  pub received : Counted old.received new.received (length bytes)
