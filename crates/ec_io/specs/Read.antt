-- What reading a whole file answers.
use Rattle.std.specs.Prelude.{ℕ, ◌≡◌, ◌≤◌, ◌<◌, ◌+◌, List, length, Option, Some, None, Result, Ok, Err, IsSomeAnd, IfOk}
use Rattle.std.specs.Prelude.{IsErrOf}
use Rattle.std.specs.FinMap.{get}
use Rattle.ec_space.specs.Listed.{Listed}
use Rattle.ec_io.specs.Causes.{Counted}
use Rattle.ec_io.specs.Disk.{Disk, content}
use Rattle.ec_io.specs.declared.read.ReadStop.{ReadStop}
use Rattle.ec_io.specs.declared.read.ReadStop.TheVariants.{NoMemory, ReadFault, TooLong}

-- the files and the file that is written stay
abbrev pub KeepsFiles : Disk → Option Disk → Type 0
KeepsFiles disk new = IsSomeAnd new (λ now. (now.files ≡ disk.files) × (now.output ≡ disk.output))

-- the answer is the whole file, or says that the file is longer
pub record ReadsTold (name : List ℕ) (limit : ℕ) (disk : Disk) (new : Option Disk)
    (r : Result (Listed ℕ) ReadStop) : Type 0 where
  pub files : KeepsFiles disk new
  pub bytes : IfOk r (λ seq. get disk.files name ≡ Some seq.items)
  pub long : (n : ℕ) → IsErrOf r (TooLong n) → limit < length (content disk.files name)

abbrev pub ReadsFile : List ℕ → ℕ → Option Disk → Option Disk → Result (Listed ℕ) ReadStop → Type 0
ReadsFile name limit None new r = new ≡ None
ReadsFile name limit (Some disk) new r = ReadsTold name limit disk new r

-- so many bytes came in the call: all of the answer, one past the limit where the file is too long, and else at most
-- the limit
abbrev pub Receives : ℕ → ℕ → ℕ → Result (Listed ℕ) ReadStop → Type 0
Receives limit before now (Ok seq) = (length seq.items ≤ limit) × (Counted before now (length seq.items))
Receives limit before now (Err (TooLong n)) = (n ≡ limit) × (Counted before now (limit + 1))
Receives limit before now (Err ReadFault) = (came : ℕ) × ((came ≤ limit) × (Counted before now came))
Receives limit before now (Err NoMemory) = (came : ℕ) × ((came ≤ limit) × (Counted before now came))
