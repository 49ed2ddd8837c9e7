-- What a script is. A line may break four rules:
--   1  the line has no form, or names a core where it is not the first line that is neither empty nor a comment
--   2  its address is that of no port of the core
--   3  a line before it has the same address
--   4  it names another core
use Rattle.std.specs.Prelude.{ℕ, ◌+◌, ◌≡◌, ◌==◌, Bool, true, false, not, if◌then◌else◌, Option, Some, None, List, []}
use Rattle.std.specs.Prelude.{◌∷◌, map, take, slice_get, bytes_eq}
use Rattle.std.specs.List.{list_all, list_any}
use Rattle.std.specs.Str.Lines.{lines}
use Rattle.ec_space.specs.declared.Core.{Core}
use Rattle.ec_space.specs.declared.Core.TheVariants.{Small, Large}
use Rattle.ec_avr.specs.State.{is_port}
use Rattle.ec_emu.specs.declared.read.ScriptStop.{ScriptStop}
use Rattle.ec_emu.specs.declared.read.ScriptStop.TheVariants as stops
use Rattle.ec_emu.specs.declared.script.ScriptLine.{ScriptLine}
use Rattle.ec_emu.specs.Forms.{Form, Passed, CoreName, Listed, NoForm, form_of, core_line, first_counting}

-- the form of each line of a text
abbrev pub forms_of : List ℕ → List Form
forms_of text = map form_of (lines text)

-- the core that a text names in its first line that counts, and the small one where it names none
abbrev pub core_of_text : List ℕ → Core
core_of_text text = if bytes_eq (first_counting (lines text)) (core_line Large) then Large else Small

abbrev pub is_passed : Form → Bool
is_passed Passed = true
is_passed _ = false

-- a port's line, without its spare room
pub record Entry : Type 0 where
  pub port : ℕ
  pub hook : Bool
  pub bytes : List ℕ

-- what lines say of ports
abbrev pub entries : List Form → List Entry
entries [] = []
entries (Listed port hook bytes ∷ more) = record { port = port; hook = hook; bytes = bytes } ∷ entries more
entries (_ ∷ more) = entries more

abbrev pub entry_of : ScriptLine → Entry
entry_of line = record { port = line.port; hook = line.hook; bytes = line.bytes.items }

abbrev pub is_same : Core → Core → Bool
is_same Small Small = true
is_same Small Large = false
is_same Large Small = false
is_same Large Large = true

-- the least rule that a line of a script for a core breaks after the lines before it
abbrev pub broken : Core → List Form → Form → Option ℕ
broken core before Passed = None
broken core before (CoreName named) =
    if list_all is_passed before then (if is_same named core then None else Some 4) else Some 1
broken core before (Listed port hook bytes) =
    if not (is_port core port) then Some 2
    else (if list_any (λ entry. entry.port == port) (entries before) then Some 3 else None)
broken core before NoForm = Some 1

-- each line keeps the rules
abbrev pub AreKept : Core → List Form → Type 0
AreKept core forms = (n : ℕ) (form : Form) → slice_get forms n ≡ Some form → broken core (take n forms) form ≡ None

-- a line, counted from 1, breaks a rule and none below it, and the lines before it keep all
pub record BreaksAt (core : Core) (forms : List Form) (line rule : ℕ) : Type 0 where
  pub n : ℕ
  pub place : line ≡ n + 1
  pub before : AreKept core (take n forms)
  pub form : Form
  pub at : slice_get forms n ≡ Some form
  pub breaks : broken core (take n forms) form ≡ Some rule

-- a text is no script for a core for this reason
abbrev pub IsNoScript : Core → List ℕ → ScriptStop → Type 0
IsNoScript core text (stops.Line line rule) = BreaksAt core (forms_of text) line rule
IsNoScript core text stops.NoMemory = Unit {0}
