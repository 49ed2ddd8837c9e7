-- Long division of numbers of up to four bytes, without signs: the number that is divided stands at a location, where
-- the quotient takes its place bit by bit. R8 and the registers above it hold the remainder, R12, R13, R26 and R27 the
-- divisor, each with as many bytes as the number, and R30 counts the bits. After k bits the remainder is at most what the
-- highest k bits of the number are, so that it fits in these bytes.
use Rattle.std.specs.Prelude.{ℕ, zero, suc, ◌+◌, ◌*◌, ◌^◌, nat_lt, Bool, true, false, if◌then◌else◌, pos, negsuc, List, [], ◌∷◌}
use Rattle.std.specs.Prelude.{◌++◌}
use Rattle.ec_isa.specs.declared.instructions.Instr.TheVariants.{Adc, Inc, Dec, Brbs, Brbc}
use Rattle.ec_asm.specs.declared.items.AsmItem.{AsmItem}
use Rattle.ec_asm.specs.declared.items.AsmItem.TheVariants.{Plain, LoadObj, StoreObj}
use Rattle.ec_asm.specs.declared.pieces.Location.{Location}
use Rattle.ec_asm.specs.declared.pieces.Location.TheVariants.{InRegisters, InMemory}
use Rattle.ec_asm.specs.declared.pieces.Operator.TheVariants.{Sum, Difference}
use Rattle.ec_asm.specs.Items.{chain}
use Rattle.ec_asm.specs.Pieces.{instruction, compares, operate_code}

-- ---- the registers

abbrev pub remainder_row : Location
remainder_row = InRegisters 8

-- of byte i of the divisor: R12, R13, R26 and R27
abbrev pub divisor_register : ℕ → ℕ
divisor_register i = if nat_lt i 2 then 12 + i else 24 + i

-- the number of n bytes, the lowest one first
abbrev pub number_of : (byte : ℕ → ℕ) → ℕ → ℕ
number_of byte zero = 0
number_of byte (suc n) = number_of byte n + byte n * 256 ^ n

-- ---- a bit

-- the remainder doubled, with C as its lowest bit
abbrev pub rotate_byte : ℕ → List AsmItem
rotate_byte i = Plain (Adc (8 + i) (8 + i)) ∷ []

abbrev pub rotate_code : ℕ → List AsmItem
rotate_code n = chain rotate_byte n

-- it is compared with the divisor
abbrev pub test_byte : ℕ → List AsmItem
test_byte i = Plain (compares i (8 + i) (divisor_register i)) ∷ []

abbrev pub test_code : ℕ → List AsmItem
test_code n = chain test_byte n

abbrev pub rows_code : ℕ → List AsmItem
rows_code n = rotate_code n ++ test_code n

-- the next bit of the number goes to the remainder, which is compared with the divisor
abbrev pub bring_code : Location → ℕ → List AsmItem
bring_code p n = operate_code Sum p p n ++ rows_code n

-- the divisor is taken from the remainder
abbrev pub less_byte : ℕ → List AsmItem
less_byte i = Plain (instruction Difference i (8 + i) (divisor_register i)) ∷ []

abbrev pub less_code : ℕ → List AsmItem
less_code n = chain less_byte n

-- the lowest bit of the quotient, which is 0, becomes 1
abbrev pub mark_code : Location → List AsmItem
mark_code (InRegisters r) = Plain (Inc (r + 0)) ∷ []
mark_code (InMemory o k) = LoadObj 0 o (k + 0) ∷ Plain (Inc 0) ∷ StoreObj o (k + 0) 0 ∷ []

abbrev pub mark_words : Location → ℕ
mark_words (InRegisters r) = 1
mark_words (InMemory o k) = 5

-- where only the remainder is wanted, the quotient is not noted
abbrev pub note_code : (remainder : Bool) → Location → List AsmItem
note_code true p = []
note_code false p = mark_code p

abbrev pub note_words : (remainder : Bool) → Location → ℕ
note_words true p = 0
note_words false p = mark_words p

abbrev pub take_code : (remainder : Bool) → Location → ℕ → List AsmItem
take_code r p n = less_code n ++ note_code r p

abbrev pub take_words : (remainder : Bool) → Location → ℕ → ℕ
take_words r p n = n + note_words r p

abbrev pub bring_words : Location → ℕ → ℕ
bring_words (InRegisters r) n = n + (n + n)
bring_words (InMemory o k) n = 7 * n + (n + n)

-- ---- all bits

-- over the taking where the remainder is less, and back to the next bit
abbrev pub skip_code : (remainder : Bool) → Location → ℕ → List AsmItem
skip_code r p n = Plain (Brbs 0 (pos (take_words r p n))) ∷ []

abbrev pub back_words : (remainder : Bool) → Location → ℕ → ℕ
back_words r p n = bring_words p n + 1 + take_words r p n + 1

abbrev pub count_code : (remainder : Bool) → Location → ℕ → List AsmItem
count_code r p n = Plain (Dec 30) ∷ Plain (Brbc 1 (negsuc (back_words r p n))) ∷ []

abbrev pub divide_code : (remainder : Bool) → Location → ℕ → List AsmItem
divide_code r p n = bring_code p n ++ (skip_code r p n ++ (take_code r p n ++ count_code r p n))
