-- Quotients and remainders with signs: the magnitudes are divided, and the result is negated where it has to be. The
-- quotient is truncated towards 0, and the remainder has the sign of the number that is divided. A number has top + 1
-- bytes. R31 is 255 where the result is negative and else 0, and R1 so of the divisor.
use Rattle.std.specs.Prelude.{ℕ, zero, suc, ◌+◌, ◌-◌, ◌*◌, ◌/◌, ◌%◌, ◌^◌, ◌==◌, nat_lt, bit_xor, Bool, true, false, if◌then◌else◌}
use Rattle.std.specs.Prelude.{List, [], ◌∷◌, ◌++◌}
use Rattle.ec_isa.specs.declared.instructions.Instr.TheVariants.{Mov, Movw, Eor, Add, Sbc, Ldi}
use Rattle.ec_asm.specs.declared.items.AsmItem.{AsmItem}
use Rattle.ec_asm.specs.declared.items.AsmItem.TheVariants.{Plain, LoadObj, StoreObj}
use Rattle.ec_asm.specs.declared.pieces.Location.{Location}
use Rattle.ec_asm.specs.declared.pieces.Location.TheVariants.{InRegisters, InMemory}
use Rattle.ec_asm.specs.declared.pieces.Operator.TheVariants.{Difference}
use Rattle.ec_asm.specs.Items.{chain}
use Rattle.ec_asm.specs.Pieces.{instruction, copy_code}
use Rattle.ec_select_quotients.specs.Quotients.{remainder_row, divisor_register, divide_code}

-- ---- meaning

-- a number of n bytes, negated where the sign is 1
abbrev pub negated_if : (sign n x : ℕ) → ℕ
negated_if zero n x = x
negated_if (suc s) n x = (256 ^ n - x) % 256 ^ n

-- the highest byte of a number
abbrev pub top_byte : (top x : ℕ) → ℕ
top_byte top x = x / 256 ^ top

-- the quotient or the remainder
abbrev pub part_of : (remainder : Bool) → (x z : ℕ) → ℕ
part_of true x z = x % z
part_of false x z = x / z

-- the byte whose highest bit is the sign of the result
abbrev pub sign_byte : (remainder : Bool) → (top x z : ℕ) → ℕ
sign_byte true top x z = top_byte top x
sign_byte false top x z = bit_xor (top_byte top x) (top_byte top z)

abbrev pub quotient_of : (remainder signed : Bool) → (top x z : ℕ) → ℕ
quotient_of r false top x z = part_of r x z
quotient_of r true top x z =
    negated_if (sign_byte r top x z / 128) (suc top)
    (part_of r (negated_if (top_byte top x / 128) (suc top) x) (negated_if (top_byte top z / 128) (suc top) z))

-- ---- the divisor is fetched

abbrev pub fetch_byte : Location → ℕ → List AsmItem
fetch_byte (InRegisters r) i = Plain (Mov (divisor_register i) (r + i)) ∷ []
fetch_byte (InMemory o k) i = LoadObj (divisor_register i) o (k + i) ∷ []

-- from an even register on, two bytes at a time: a byte above the number does not matter
abbrev pub fetch_pairs : (r top : ℕ) → List AsmItem
fetch_pairs r top =
    if nat_lt top 2 then Plain (Movw 12 r) ∷ [] else Plain (Movw 12 r) ∷ Plain (Movw 26 (r + 2)) ∷ []

abbrev pub fetch_code : Location → ℕ → List AsmItem
fetch_code (InRegisters r) top =
    if r % 2 == 0 then fetch_pairs r top else chain (fetch_byte (InRegisters r)) (suc top)
fetch_code (InMemory o k) top = chain (fetch_byte (InMemory o k)) (suc top)

-- ---- signs

-- a byte becomes 255 where its highest bit is set, and else 0
abbrev pub spread_code : ℕ → List AsmItem
spread_code s = Plain (Add s s) ∷ Plain (Sbc s s) ∷ []

-- the highest byte of the number to R31, and that of the divisor to R1
abbrev pub top_code : Location → ℕ → List AsmItem
top_code (InRegisters r) top = Plain (Mov 31 (r + top)) ∷ []
top_code (InMemory o k) top = LoadObj 31 o (k + top) ∷ []

abbrev pub divisor_top_code : ℕ → List AsmItem
divisor_top_code top = Plain (Mov 1 (divisor_register top)) ∷ []

-- a byte of a number that is negated where R31 is 255: its bits are turned, and 255 is subtracted from each byte
abbrev pub turn_byte : Location → ℕ → List AsmItem
turn_byte (InRegisters r) i = Plain (Eor (r + i) 31) ∷ Plain (instruction Difference i (r + i) 31) ∷ []
turn_byte (InMemory o k) i =
    LoadObj 0 o (k + i) ∷ Plain (Eor 0 31) ∷ Plain (instruction Difference i 0 31) ∷ StoreObj o (k + i) 0 ∷ []

abbrev pub turn_code : Location → ℕ → List AsmItem
turn_code p n = chain (turn_byte p) n

-- so of the divisor where R1 is
abbrev pub turn_divisor_byte : ℕ → List AsmItem
turn_divisor_byte i =
    Plain (Eor (divisor_register i) 1) ∷ Plain (instruction Difference i (divisor_register i) 1) ∷ []

abbrev pub turn_divisor_code : ℕ → List AsmItem
turn_divisor_code n = chain turn_divisor_byte n

-- the sign of a quotient: that of the number, turned where the divisor has one
abbrev pub cross_code : (remainder : Bool) → List AsmItem
cross_code true = []
cross_code false = Plain (Eor 31 1) ∷ []

abbrev pub number_sign_code : Location → ℕ → List AsmItem
number_sign_code p top = top_code p top ++ (spread_code 31 ++ turn_code p (suc top))

abbrev pub divisor_sign_code : (remainder : Bool) → ℕ → List AsmItem
divisor_sign_code r top =
    divisor_top_code top ++ (spread_code 1 ++ (turn_divisor_code (suc top) ++ cross_code r))

-- the magnitudes, and the sign of the result
abbrev pub signs_code : (remainder signed : Bool) → Location → ℕ → List AsmItem
signs_code r false p top = []
signs_code r true p top = number_sign_code p top ++ divisor_sign_code r top

-- ---- the division

abbrev pub clear_byte : ℕ → List AsmItem
clear_byte i = Plain (Eor (8 + i) (8 + i)) ∷ []

abbrev pub clear_code : ℕ → List AsmItem
clear_code n = chain clear_byte n

-- the count of bits in R30, and no remainder
abbrev pub start_code : ℕ → List AsmItem
start_code n = Plain (Ldi 30 (8 * n)) ∷ clear_code n

-- the remainder to an even register and those above it, two bytes at a time
abbrev pub put_pairs : (r n : ℕ) → List AsmItem
put_pairs r zero = []
put_pairs r (suc zero) = Plain (Mov r 8) ∷ []
put_pairs r (suc (suc zero)) = Plain (Movw r 8) ∷ []
put_pairs r (suc (suc (suc zero))) = Plain (Movw r 8) ∷ Plain (Mov (r + 2) 10) ∷ []
put_pairs r n = Plain (Movw r 8) ∷ Plain (Movw (r + 2) 10) ∷ []

abbrev pub put_code : Location → ℕ → List AsmItem
put_code (InRegisters r) n =
    if r % 2 == 0 then put_pairs r n else copy_code remainder_row (InRegisters r) n
put_code (InMemory o k) n = copy_code remainder_row (InMemory o k) n

abbrev pub result_code : (remainder : Bool) → Location → ℕ → List AsmItem
result_code true p n = put_code p n
result_code false p n = []

abbrev pub sign_code : (signed : Bool) → Location → ℕ → List AsmItem
sign_code true p n = turn_code p n
sign_code false p n = []

-- the division, and its result with its sign
abbrev pub finish_code : (remainder signed : Bool) → Location → ℕ → List AsmItem
finish_code r signed p n = divide_code r p n ++ (result_code r p n ++ sign_code signed p n)

-- the number at p is divided by that in the divisor's registers
abbrev pub divided_code : (remainder signed : Bool) → Location → ℕ → List AsmItem
divided_code r signed p top =
    signs_code r signed p top ++ (start_code (suc top) ++ finish_code r signed p (suc top))

-- the number at p is divided by that at q
abbrev pub quotient_code : (remainder signed : Bool) → (p q : Location) → (top : ℕ) → List AsmItem
quotient_code r signed p q top = fetch_code q top ++ divided_code r signed p top
