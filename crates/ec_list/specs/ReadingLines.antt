-- The line of a text: it is guessed, printed again and compared.
use Rattle.std.specs.Prelude.{ℕ, ◌≡◌, ◌+◌, ◌*◌, ◌<◌, if◌then◌else◌, List, drop, Option, Some, None, slice_index, bytes_eq}
use Rattle.std.specs.Char.{digit_value, is_digit}
use Rattle.ec_isa.specs.declared.instructions.Instr.{Instr}
use Rattle.ec_list.specs.Reading.{instruction_of}
use Rattle.ec_list.specs.Lines.{line_text, IsInRange}
use Rattle.ec_list.specs.declared.line.Item.{Item}
use Rattle.ec_list.specs.declared.line.Item.TheVariants.{Byte, Instruction}
use Rattle.ec_list.specs.declared.line.Line.{Line}

-- the number of a digit, or 0
abbrev pub digit_guess : ℕ → ℕ
digit_guess c = if is_digit c 16 then digit_value c else 0

abbrev pub digit_in : List ℕ → ℕ → ℕ
digit_in text k = digit_guess (slice_index text k)

abbrev pub address_guess : List ℕ → ℕ
address_guess text =
    65536 * digit_in text 0 + 4096 * digit_in text 1 + 256 * digit_in text 2 + 16 * digit_in text 3 + digit_in text 4

abbrev pub item_by : Option Instr → List ℕ → Item
item_by (Some i) text = Instruction i
item_by None text = Byte (16 * digit_in text 6 + digit_in text 7)

abbrev pub item_guess : List ℕ → Item
item_guess text = item_by (instruction_of text) text

abbrev pub line_guess : List ℕ → Line
line_guess text = record { at = address_guess text; item = item_guess (drop 7 text) }

-- the line of a text without its end
abbrev pub line_of : List ℕ → Option Line
line_of text = if bytes_eq (line_text (line_guess text)) text then Some (line_guess text) else None

-- a text is that of a line, whose address has five digits
pub record IsLineOf (text : List ℕ) (l : Line) : Type 0 where
  pub address : l.at < 1048576
  pub range : IsInRange l.item
  pub text_is : text ≡ line_text l
