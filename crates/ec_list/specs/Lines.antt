-- The lines of a listing, and what they put where.
use Rattle.std.specs.Prelude.{ℕ, ◌+◌, ◌-◌, ◌/◌, ◌%◌, ◌<◌, ◌≤◌, ◌≡◌, ◌&&◌, nat_lt, nat_le, if◌then◌else◌, ⊤, IsTrue}
use Rattle.std.specs.Prelude.{List, [], ◌∷◌, ◌++◌, length, codes, Option, Some, None, slice_get}
use Rattle.std.specs.List.{AllByRecursion}
use Rattle.ec_space.specs.declared.Core.{Core}
use Rattle.ec_isa.specs.Table.{in_table, first_word, second_word}
use Rattle.ec_avr.specs.Flash.{flash_size}
use Rattle.ec_hex.specs.Bytes.{digit, digits_of}
use Rattle.ec_list.specs.Texts.{instruction_text}
use Rattle.ec_list.specs.declared.line.Item.{Item}
use Rattle.ec_list.specs.declared.line.Item.TheVariants.{Byte, Instruction}
use Rattle.ec_list.specs.declared.line.Line.{Line}

-- ---- the text

-- five hexadecimal digits in upper case
abbrev pub address_text : ℕ → List ℕ
address_text at =
    digit (at / 65536 % 16) ∷ digit (at / 4096 % 16) ∷ digit (at / 256 % 16) ∷ digit (at / 16 % 16) ∷ digit (at % 16)
    ∷ []

abbrev pub item_text : Item → List ℕ
item_text (Byte b) = codes ".byte " ++ digits_of (b ∷ [])
item_text (Instruction i) = instruction_text i

-- the address, a colon, a space and the item, without the line's end
abbrev pub line_text : Line → List ℕ
line_text l = address_text l.at ++ codes ": " ++ item_text l.item

-- each line ends with LF
abbrev pub text_of : List Line → List ℕ
text_of [] = []
text_of (l ∷ ls) = line_text l ++ 10 ∷ text_of ls

-- ---- the bytes

-- a word as bytes, the low one first
abbrev pub word_bytes : ℕ → List ℕ
word_bytes w = w % 256 ∷ w / 256 ∷ []

abbrev pub second_bytes : Option ℕ → List ℕ
second_bytes None = []
second_bytes (Some w) = word_bytes w

abbrev pub item_bytes : Item → List ℕ
item_bytes (Byte b) = b ∷ []
item_bytes (Instruction i) = word_bytes (first_word i) ++ second_bytes (second_word i)

-- the address behind a line
abbrev pub end_of : Line → ℕ
end_of l = l.at + length (item_bytes l.item)

-- ---- which lines may stand

-- the operands are in the ranges of the decode table
abbrev pub IsInRange : Item → Type 0
IsInRange (Byte b) = b < 256
IsInRange (Instruction i) = IsTrue (in_table i)

abbrev pub IsAligned : ℕ → Item → Type 0
IsAligned at (Byte b) = ⊤
IsAligned at (Instruction i) = at % 2 ≡ 0

-- its bytes lie in flash, and an instruction's address is even
pub record Suits (core : Core) (l : Line) : Type 0 where
  pub in_flash : end_of l ≤ flash_size core
  pub aligned : IsAligned l.at l.item

pub record IsLine (core : Core) (l : Line) : Type 0 where
  pub range : IsInRange l.item
  pub suits : Suits core l

-- each line begins at or after the end of the one before
abbrev pub AreInOrder : ℕ → List Line → Type 0
AreInOrder from [] = ⊤
AreInOrder from (l ∷ ls) = (from ≤ l.at) × AreInOrder (end_of l) ls

-- the end of the last line, or a number from which the first one may begin
abbrev pub end_after : ℕ → List Line → ℕ
end_after from [] = from
end_after from (l ∷ ls) = end_after (end_of l) ls

pub record AreLines (core : Core) (lines : List Line) : Type 0 where
  pub each : AllByRecursion (IsLine core) lines
  pub order : AreInOrder 0 lines

-- the byte that lines have at an address
abbrev pub byte_by : List Line → ℕ → Option ℕ
byte_by [] k = None
byte_by (l ∷ ls) k =
    if nat_le l.at k && nat_lt k (end_of l) then slice_get (item_bytes l.item) (k - l.at) else byte_by ls k
