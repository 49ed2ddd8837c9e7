-- What is written for a line of the tool.
use Rattle.std.specs.Prelude.{ℕ, ◌<◌, ◌≡◌, ◌⊎◌, List, ◌++◌, codes, length, Option, Some, None, ⊤, IsUtf8}
use Rattle.std.specs.FinMap.{get}
use Rattle.ec_io.specs.Causes.{Rose}
use Rattle.ec_io.specs.Disk.{Disk}
use Rattle.ec_where_lines.specs.declared.fault.Fault.{Fault}
use Rattle.ec_where_lines.specs.Fault.{Names}
use Rattle.ec_where_lines.specs.Notices.{FileTexts, notice_of}
use Rattle.ec_where.specs.declared.telling.Untold.{Untold}
use Rattle.ec_where.specs.declared.telling.Untold.TheVariants.{NoMemory, Unknown, Absent}
use Rattle.ec_where.specs.Located.{Holds, IsExplained, IsIn, place_of}
use Rattle.ec_where.specs.Messages.{Says}
use Rattle.ec_where.specs.Position.{first_line}
use Rattle.ec_where.specs.Recursion.{IsRecursionTold}

-- the text points at the fault in the source, and tells of it what is told of such a fault
pub record IsToldIn (source name : List ℕ) (fault : Fault) (text : List ℕ) : Type 0 where
  pub message : List ℕ
  pub says : Says source fault message
  pub explained : IsExplained name source (place_of fault) message text

-- the text explains the fault in the file of this name
pub record IsFound (disk : Option Disk) (name : List ℕ) (fault : Fault) (text : List ℕ) : Type 0 where
  pub source : List ℕ
  pub held : Holds disk name source
  pub told : IsToldIn source name fault text

-- the file of this name has more than 65,536 bytes, or no place where the fault could stand, where the store tells what
-- its files hold
abbrev pub IsUnread : Option Disk → List ℕ → Fault → Type 0
IsUnread None name fault = ⊤
IsUnread (Some disk) name fault =
    (source : List ℕ) × (get disk.files name ≡ Some source)
    × ((65_536 < length source) ⊎ ((at : ℕ) → IsIn source (place_of fault) at → ⊥))

-- the line names no place of a source
abbrev pub NamesNone : List ℕ → Type 0
NamesNone line = (name : List ℕ) (fault : Fault) → Names line name fault → ⊥

-- the text points at the function that the line tells of as recursive, in one of these files
abbrev pub IsRecursionOf : Option Disk → List (List ℕ) → List ℕ → List ℕ → Type 0
IsRecursionOf disk files line text =
    (name : List ℕ) × (line ≡ codes "recursion " ++ name) × IsRecursionTold disk files name text

-- the text explains the fault that the line tells in the source that it names; or points at a recursive function in one of
-- these files; or is what is said of another line
abbrev pub IsExplanation : Option Disk → List (List ℕ) → FileTexts → List ℕ → List ℕ → Type 0
IsExplanation disk files names line text =
    ((name : List ℕ) × (fault : Fault) × Names line name fault × IsFound disk name fault text)
    ⊎ (NamesNone line × (IsRecursionOf disk files line text ⊎ (notice_of names line ≡ Some text)))

-- the line is none of the tool's
abbrev pub IsUnknown : FileTexts → List ℕ → Type 0
IsUnknown names line = (IsUtf8 line → ⊥) ⊎ (NamesNone line × (notice_of names line ≡ None))

-- the line names a source that has no such place, or is too long, or could not be read: then the count of faults rose
abbrev pub IsAbsent : Option Disk → ℕ → ℕ → List ℕ → Type 0
IsAbsent disk before after line =
    (name : List ℕ) × (fault : Fault) × Names line name fault × (IsUnread disk name fault ⊎ Rose before after)

-- why a line is not explained: memory ran out, or it is none of the tool's, or what it names is not there
abbrev pub IsCause : Option Disk → ℕ → ℕ → FileTexts → List ℕ → Untold → Type 0
IsCause disk before after names line NoMemory = ⊤
IsCause disk before after names line Unknown = IsUnknown names line
IsCause disk before after names line Absent = IsAbsent disk before after line

-- why nothing is said of a line that names no place of a source
abbrev pub IsUnsaid : FileTexts → List ℕ → Untold → Type 0
IsUnsaid names line NoMemory = ⊤
IsUnsaid names line Unknown = notice_of names line ≡ None
IsUnsaid names line Absent = ⊥

-- What is written for a line, with counts of read faults before and after: what explains it, or the line as it came, for
-- this cause.
abbrev pub IsTold : Option Disk → ℕ → ℕ → List (List ℕ) → FileTexts → List ℕ → Option Untold → List ℕ → Type 0
IsTold disk before after files names line None text = IsExplanation disk files names (first_line line) text
IsTold disk before after files names line (Some why) text =
    (text ≡ line) × IsCause disk before after names (first_line line) why
