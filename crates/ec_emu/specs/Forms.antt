-- The lines of a script, by their form. The format is this project's own.
use Rattle.std.specs.Prelude.{ℕ, ◌≡◌, ◌+◌, ◌*◌, ◌==◌, MatchBool, Bool, true, false, not, ◌&&◌, if◌then◌else◌, Option}
use Rattle.std.specs.Prelude.{Some, None, option_map, option_and_then, List, [], ◌∷◌, ◌++◌, length, filter, bytes_eq}
use Rattle.std.specs.Prelude.{codes}
use Rattle.std.specs.Char.{digit_value, is_digit}
use Rattle.std.specs.List.{slice_split, list_all}
use Rattle.std.specs.Option.{option_map_or}
use Rattle.ec_space.specs.declared.Core.{Core}
use Rattle.ec_space.specs.declared.Core.TheVariants.{Small, Large}

pub data Form : Type 0 where
  -- an empty line, or one that begins with `#`
  Passed : Form
  -- the name of a core
  CoreName : (core : Core) → Form
  -- what a port answers: it is hooked, or answers these bytes in turn
  Listed : (port : ℕ) (hook : Bool) (bytes : List ℕ) → Form
  -- any other line
  NoForm : Form

abbrev pub filled : List (List ℕ) → List (List ℕ)
filled parts = filter (λ word. not (length word == 0)) parts

-- the words between spaces
abbrev pub words : List ℕ → List (List ℕ)
words text = filled (slice_split (λ c. c == 32) text)

-- the byte of a word of two digits, of either case
abbrev pub byte_of : List ℕ → Option ℕ
byte_of (c ∷ d ∷ []) = if is_digit c 16 && is_digit d 16 then Some (16 * digit_value c + digit_value d) else None
byte_of _ = None

-- the bytes of words; none where a word is no byte
abbrev pub bytes_of : List (List ℕ) → Option (List ℕ)
bytes_of [] = Some []
bytes_of (word ∷ more) = option_and_then (λ byte. option_map (λ bytes. byte ∷ bytes) (bytes_of more)) (byte_of word)

-- the byte of a word, or nothing of an empty one, stands behind others; or the word is neither
abbrev pub PutsWord : List ℕ → List ℕ → List ℕ → Bool → Type 0
PutsWord word old new fits =
    MatchBool fits ((more : List ℕ) × ((bytes_of (filled (word ∷ [])) ≡ Some more) × (new ≡ old ++ more)))
    (bytes_of (filled (word ∷ [])) ≡ None)

-- the bytes behind a colon, each after one space or more. Spaces may come last
abbrev pub bytes_behind : List ℕ → Option (List ℕ)
bytes_behind [] = Some []
bytes_behind (c ∷ text) = if c == 32 then bytes_of (words text) else None

-- ` hook` with exactly one space before it. Spaces may come last
abbrev pub is_hook : List ℕ → Bool
is_hook (a ∷ b ∷ c ∷ d ∷ e ∷ spaces) =
    bytes_eq (a ∷ b ∷ c ∷ d ∷ e ∷ []) (codes " hook") && list_all (λ c. c == 32) spaces
is_hook _ = false

abbrev pub listed : ℕ → List ℕ → Form
listed port text =
    if is_hook text then Listed port true []
    else option_map_or (λ bytes. Listed port false bytes) (bytes_behind text) NoForm

-- two digits and a colon, and what stands behind it
abbrev pub port_form : List ℕ → Form
port_form (c ∷ d ∷ colon ∷ text) =
    if (is_digit c 16 && is_digit d 16) && (colon == 58) then listed (16 * digit_value c + digit_value d) text
    else NoForm
port_form _ = NoForm

abbrev pub core_line : Core → List ℕ
core_line Small = codes "core small"
core_line Large = codes "core large"

-- an empty line, or a comment
abbrev pub counts_not : List ℕ → Bool
counts_not [] = true
counts_not (c ∷ text) = c == 35

abbrev pub form_of : List ℕ → Form
form_of text =
    if counts_not text then Passed
    else (if bytes_eq text (core_line Small) then CoreName Small
    else (if bytes_eq text (core_line Large) then CoreName Large else port_form text))

-- the first line that is neither empty nor a comment, and an empty one where there is none
abbrev pub first_counting : List (List ℕ) → List ℕ
first_counting [] = []
first_counting (line ∷ more) = if counts_not line then first_counting more else line
