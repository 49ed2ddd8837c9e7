-- The items of an image, by rising addresses.
use Rattle.std.specs.Prelude.{ℕ, zero, suc, ◌+◌, ◌-◌, ◌*◌, ◌%◌, ◌==◌, ◌||◌, if◌then◌else◌, List, [], ◌∷◌, length, drop}
use Rattle.std.specs.Prelude.{Option, Some, None, is_some, is_none, unwrap_or, option_and_then, option_map, slice_get}
use Rattle.ec_isa.specs.declared.instructions.Instr.{Instr}
use Rattle.ec_isa.specs.Table.{second_word}
use Rattle.ec_isa.specs.Reading.{instruction_at}
use Rattle.ec_list.specs.Lines.{item_bytes}
use Rattle.ec_list.specs.declared.line.Item.{Item}
use Rattle.ec_list.specs.declared.line.Item.TheVariants.{Byte, Instruction}
use Rattle.ec_list.specs.declared.line.Line.{Line}

-- the byte at a place, where it is written
abbrev pub byte_in : List (Option ℕ) → ℕ → Option ℕ
byte_in cells k = unwrap_or (slice_get cells k) None

abbrev pub word_of : Option ℕ → Option ℕ → Option ℕ
word_of None high = None
word_of (Some low) None = None
word_of (Some low) (Some high) = Some (low + 256 * high)

-- the word at the front, where both of its bytes are written
abbrev pub word_in : List (Option ℕ) → Option ℕ
word_in cells = word_of (byte_in cells 0) (byte_in cells 1)

-- an instruction, where its second word, if it has one, is written
abbrev pub whole : Instr → Option ℕ → Option Instr
whole i next = if is_none (second_word i) || is_some next then Some i else None

-- the instruction of a word, and of the next one where it has two
abbrev pub instruction_of_word : ℕ → Option ℕ → Option Instr
instruction_of_word word next = option_and_then (λ i. whole i next) (instruction_at word (unwrap_or next 0))

-- the instruction at an address, from which on stand these bytes
abbrev pub instruction_in : ℕ → List (Option ℕ) → Option Instr
instruction_in at cells =
    if at % 2 == 0 then option_and_then (λ word. instruction_of_word word (word_in (drop 2 cells))) (word_in cells) else None

abbrev pub item_of : ℕ → Option Instr → Item
item_of b None = Byte b
item_of b (Some i) = Instruction i

-- the item at an address whose byte is written
abbrev pub item_in : ℕ → List (Option ℕ) → Option Item
item_in at cells = option_map (λ b. item_of b (instruction_in at cells)) (byte_in cells 0)

-- the lines of the bytes that stand from an address on, of which the first `skip` are listed already
abbrev pub lines_from : ℕ → ℕ → List (Option ℕ) → List Line
lines_from at skip [] = []
lines_from at (suc skip) (c ∷ cells) = lines_from (at + 1) skip cells
lines_from at zero (None ∷ cells) = lines_from (at + 1) 0 cells
lines_from at zero (Some b ∷ cells) =
    let item = item_of b (instruction_in at (Some b ∷ cells)) in
    record { at = at; item = item } ∷ lines_from (at + 1) (length (item_bytes item) - 1) cells
