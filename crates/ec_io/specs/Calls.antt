-- What the calls of a store and a sink do where they tell what they hold. What they do not tell, they never tell.
use Rattle.std.specs.Prelude.{ℕ, ◌-◌, ◌<◌, ◌≤◌, ◌≡◌, Bool, List, length, take, drop, Option, Some, None, Result}
use Rattle.std.specs.Prelude.{MatchResult, IsSome, IsSomeAnd, is_some}
use Rattle.std.specs.FinMap.{get}
use Rattle.ec_io.specs.Disk.{Disk, content, known_name, input_name, opened, created, read_on, appended}
use Rattle.ec_io.specs.Causes.{Counted}

-- opening a file that is there puts reading at its start; a refusal leaves all as it was
abbrev pub Opens : {E : Type 0} → List ℕ → Option Disk → Option Disk → Result Unit E → Type 0
Opens name None new r = new ≡ None
Opens name (Some disk) new r =
    MatchResult r (λ _. IsSome (get disk.files name) × (new ≡ Some (opened name disk))) (λ _. new ≡ Some disk)

-- the named file is told as the one that failed last, where it could not be opened
abbrev pub MissesOpened : {E : Type 0} → List ℕ → Option (List ℕ) → Option (List ℕ) → Result Unit E → Type 0
MissesOpened name before now r = MatchResult r (λ _. now ≡ before) (λ _. now ≡ Some (known_name name))

-- so is the file that is read, where it could not be read; none, where no file is opened
abbrev pub MissesRead : {E : Type 0} → Option (List ℕ) → Option (List ℕ) → Option (List ℕ) → Result ℕ E → Type 0
MissesRead reading before now r = MatchResult r (λ _. now ≡ before) (λ _. now ≡ reading)

-- creating a file makes it empty; a refusal leaves all as it was
abbrev pub Creates : {E : Type 0} → List ℕ → Option Disk → Option Disk → Result Unit E → Type 0
Creates name None new r = new ≡ None
Creates name (Some disk) new r = MatchResult r (λ _. new ≡ Some (created name disk)) (λ _. new ≡ Some disk)

-- n bytes of a file, from the place of reading, stand at the buffer's front
pub record ReadsOn (disk : Disk) (new : Option Disk) (n : ℕ) (buf : List ℕ) (place : List ℕ × ℕ) : Type 0 where
  pub bytes : take n buf ≡ take n (drop place.1 (content disk.files place.0))
  pub within : n ≤ length (content disk.files place.0) - place.1
  pub ended : n ≡ 0 → 0 < length buf → length (content disk.files place.0) ≤ place.1
  pub moved : new ≡ Some (read_on place n disk)

-- a read goes on in the opened file; a refusal leaves all as it was
abbrev pub Reads : {E : Type 0} → Option Disk → Option Disk → Result ℕ E → List ℕ → Type 0
Reads None new r buf = new ≡ None
Reads (Some disk) new r buf = MatchResult r (λ n. IsSomeAnd disk.input (ReadsOn disk new n buf)) (λ _. new ≡ Some disk)

-- n is a number of bytes that a write may take of these
pub record IsTaken (n : ℕ) (bytes : List ℕ) : Type 0 where
  pub within : n ≤ length bytes
  pub some : 0 < length bytes → 0 < n

-- a write appends a prefix of the bytes to the created file; a refusal leaves all as it was
abbrev pub Writes : {E : Type 0} → Option Disk → Option Disk → Result ℕ E → List ℕ → Type 0
Writes None new r bytes = new ≡ None
Writes (Some disk) new r bytes =
    MatchResult r (λ n. IsSomeAnd disk.output (λ name. new ≡ Some (appended name (take n bytes) disk)))
    (λ _. new ≡ Some disk)

-- the count of received bytes rises by those that a read gave
abbrev pub Counts : {E : Type 0} → ℕ → ℕ → Result ℕ E → Type 0
Counts before now r = MatchResult r (λ n. Counted before now n) (λ _. now ≡ before)

-- the name and the flag say what the told places say
pub record IsFlagged (disk : Disk) (reading : Option (List ℕ)) (writing : Bool) : Type 0 where
  pub input : reading ≡ input_name disk
  pub output : writing ≡ is_some disk.output
