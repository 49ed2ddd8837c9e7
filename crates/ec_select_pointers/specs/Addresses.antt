-- Pieces of code for the address of a place put to a pointer, and for a pointer moved by an offset. A pointer has its
-- address in two bytes, the low one first. That of the unnamed space has a third byte, its tag, which tells the bank.
-- R30 is a work register, and for two bytes in registers below R16 R31 is one too.
use Rattle.std.specs.Prelude.{ℕ, zero, suc, ◌+◌, ◌-◌, ◌/◌, ◌%◌, ◌==◌, nat_le, nat_lt, Bool, ◌&&◌, if◌then◌else◌}
use Rattle.std.specs.Prelude.{List, [], ◌∷◌, ◌++◌, Option, Some, None}
use Rattle.ec_isa.specs.declared.instructions.Instr.{Instr}
use Rattle.ec_isa.specs.declared.instructions.Instr.TheVariants.{Ldi, Mov, Movw, Subi, Sbci}
use Rattle.ec_asm.specs.declared.items.AsmItem.{AsmItem}
use Rattle.ec_asm.specs.declared.items.AsmItem.TheVariants.{Plain, LoadPart, LoadObj, StoreObj}
use Rattle.ec_asm.specs.declared.pieces.Location.{Location}
use Rattle.ec_asm.specs.declared.pieces.Location.TheVariants.{InRegisters, InMemory}

-- ---- tags

-- the tags of the two banks
abbrev pub flash_tag : ℕ
flash_tag = 0x00

abbrev pub data_tag : ℕ
data_tag = 0x80

-- the bytes of a pointer with a tag or without one
abbrev pub pointer_bytes : Option ℕ → ℕ
pointer_bytes None = 2
pointer_bytes (Some tag) = 3

-- two bytes in registers below R16 that one MOVW reaches
abbrev pub is_low_pair : (r : ℕ) → Bool
is_low_pair r = nat_lt r 16 && r % 2 == 0

-- ---- the address of a place

-- A byte that one item can set a register to, from R16 up: put to byte i, through R30 where the item does not reach it
abbrev pub set_byte : (ℕ → AsmItem) → Location → ℕ → List AsmItem
set_byte make (InRegisters r) i =
    if nat_le 16 (r + i) then make (r + i) ∷ [] else make 30 ∷ Plain (Mov (r + i) 30) ∷ []
set_byte make (InMemory o k) i = make 30 ∷ StoreObj o (k + i) 30 ∷ []

-- byte i of the address of a place
abbrev pub part_byte : (object offset : ℕ) → Location → ℕ → List AsmItem
part_byte object offset q i = set_byte (λ d. LoadPart d object offset i) q i

abbrev pub tag_code : Option ℕ → Location → List AsmItem
tag_code None q = []
tag_code (Some tag) q = set_byte (λ d. Plain (Ldi d tag)) q 2

-- its two bytes, one after another
abbrev pub parts_code : (object offset : ℕ) → Location → List AsmItem
parts_code object offset q = part_byte object offset q 0 ++ part_byte object offset q 1

-- or at once, by R30 and R31
abbrev pub parts_pair : (object offset r : ℕ) → List AsmItem
parts_pair object offset r = LoadPart 30 object offset 0 ∷ LoadPart 31 object offset 1 ∷ Plain (Movw r 30) ∷ []

abbrev pub both_parts : (object offset : ℕ) → Location → List AsmItem
both_parts object offset (InRegisters r) =
    if is_low_pair r then parts_pair object offset r else parts_code object offset (InRegisters r)
both_parts object offset (InMemory o k) = parts_code object offset (InMemory o k)

abbrev pub address_code : (object offset : ℕ) → Option ℕ → Location → List AsmItem
address_code object offset tag q = both_parts object offset q ++ tag_code tag q

-- ---- a pointer moved by an offset

-- what is missing from an offset to a multiple of 65,536
abbrev pub rest_of : ℕ → ℕ
rest_of offset = 65536 - offset % 65536

-- a constant subtracted from a byte: the lowest byte takes no borrow
abbrev pub subtracts : ℕ → (d k : ℕ) → Instr
subtracts zero d k = Subi d k
subtracts (suc i) d k = Sbci d k

-- from byte i, through R30 where SUBI and SBCI do not reach it
abbrev pub subtract_byte : (k : ℕ) → Location → ℕ → List AsmItem
subtract_byte k (InRegisters r) i =
    if nat_le 16 (r + i) then Plain (subtracts i (r + i) k) ∷ []
    else Plain (Mov 30 (r + i)) ∷ Plain (subtracts i 30 k) ∷ Plain (Mov (r + i) 30) ∷ []
subtract_byte k (InMemory o j) i = LoadObj 30 o (j + i) ∷ Plain (subtracts i 30 k) ∷ StoreObj o (j + i) 30 ∷ []

-- two bytes of a constant subtracted, one after another
abbrev pub subtract_each : (k : ℕ) → Location → List AsmItem
subtract_each k q = subtract_byte (k % 256) q 0 ++ subtract_byte (k / 256) q 1

-- or from two registers at once, in R30 and R31
abbrev pub subtract_pair : (k r : ℕ) → List AsmItem
subtract_pair k r =
    Plain (Movw 30 r) ∷ Plain (Subi 30 (k % 256)) ∷ Plain (Sbci 31 (k / 256)) ∷ Plain (Movw r 30) ∷ []

abbrev pub subtract_both : (k : ℕ) → Location → List AsmItem
subtract_both k (InRegisters r) = if is_low_pair r then subtract_pair k r else subtract_each k (InRegisters r)
subtract_both k (InMemory o j) = subtract_each k (InMemory o j)

-- what is missing is subtracted, which adds the offset modulo 65,536
abbrev pub field_code : Location → (offset : ℕ) → List AsmItem
field_code q offset = if offset % 65536 == 0 then [] else subtract_both (rest_of offset) q
