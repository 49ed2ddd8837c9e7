-- Pieces of code that put a known number to a place, that change a number by a known one where it stands, and that compare
-- it with a known one. A register of R16 and above takes a byte of the known number as it is; for other places R30 is the
-- work register, for two bytes in lower registers R31 too, and of comparisons R0.
use Rattle.std.specs.Prelude.{ℕ, zero, suc, ◌+◌, ◌-◌, ◌/◌, ◌%◌, ◌^◌, ◌==◌, nat_le, nat_lt, Bool, false, not, ◌&&◌}
use Rattle.std.specs.Prelude.{if◌then◌else◌, List, [], ◌∷◌, ◌++◌}
use Rattle.ec_isa.specs.declared.instructions.Instr.{Instr}
use Rattle.ec_isa.specs.declared.instructions.Instr.TheVariants.{Subi, Sbci, Andi, Ori, Cpi, Ldi, Mov, Movw}
use Rattle.ec_asm.specs.declared.items.AsmItem.{AsmItem}
use Rattle.ec_asm.specs.declared.items.AsmItem.TheVariants.{Plain, LoadObj, StoreObj}
use Rattle.ec_asm.specs.declared.pieces.Location.{Location}
use Rattle.ec_asm.specs.declared.pieces.Location.TheVariants.{InRegisters, InMemory}
use Rattle.ec_asm.specs.declared.pieces.Operator.{Operator}
use Rattle.ec_asm.specs.declared.pieces.Operator.TheVariants.{Difference, BitAnd, BitOr}
use Rattle.ec_asm.specs.Items.{chain}
use Rattle.ec_asm.specs.Pieces.{compares}
use Rattle.ec_select_bytes.specs.Values.{byte_of, constant_code}
use Rattle.ec_select_numbers.specs.declared.operators.ByNumber.{ByNumber}
use Rattle.ec_select_numbers.specs.declared.operators.ByNumber.TheVariants.{Subtract, Mask, Set}

-- ---- two bytes in registers below R16

-- n bytes in registers, of which the first two are below R16 and are reached by one MOVW
abbrev pub is_low_pair : (r n : ℕ) → Bool
is_low_pair r n = nat_lt r 16 && (r % 2 == 0 && nat_le 2 n)

-- ---- a number put to a place

abbrev pub put_pair_code : (r number : ℕ) → List AsmItem
put_pair_code r number = Plain (Ldi 30 (byte_of number 0)) ∷ Plain (Ldi 31 (byte_of number 1)) ∷ Plain (Movw r 30) ∷ []

-- n bytes of it
abbrev pub put_code : Location → (number n : ℕ) → List AsmItem
put_code (InRegisters r) number n =
    if is_low_pair r n then put_pair_code r number ++ constant_code (InRegisters (r + 2)) (number / 65536) (n - 2)
    else constant_code (InRegisters r) number n
put_code (InMemory o k) number n = constant_code (InMemory o k) number n

-- ---- operators

-- the operator of two numbers
abbrev pub as_operator : ByNumber → Operator
as_operator Subtract = Difference
as_operator Mask = BitAnd
as_operator Set = BitOr

-- the instruction that changes a register by a byte: of a difference the lowest byte takes no borrow
abbrev pub immediate : ByNumber → ℕ → (d k : ℕ) → Instr
immediate Subtract zero d k = Subi d k
immediate Subtract (suc i) d k = Sbci d k
immediate Mask i d k = Andi d k
immediate Set i d k = Ori d k

-- a byte that leaves each other one as it is
abbrev pub is_neutral : ByNumber → ℕ → Bool
is_neutral Subtract k = false
is_neutral Mask k = k == 255
is_neutral Set k = k == 0

-- byte i of a place is changed by a byte
abbrev pub immediate_byte : (ℕ → ℕ → Instr) → Location → (k i : ℕ) → List AsmItem
immediate_byte op (InRegisters r) k i =
    if nat_le 16 (r + i) then Plain (op (r + i) k) ∷ []
    else Plain (Mov 30 (r + i)) ∷ Plain (op 30 k) ∷ Plain (Mov (r + i) 30) ∷ []
immediate_byte op (InMemory o j) k i = LoadObj 30 o (j + i) ∷ Plain (op 30 k) ∷ StoreObj o (j + i) 30 ∷ []

abbrev pub changed_byte : ByNumber → Location → (k i : ℕ) → List AsmItem
changed_byte op p k i = if is_neutral op k then [] else immediate_byte (immediate op i) p k i

-- n bytes of a place are changed by those of a number, one after another
abbrev pub each_changed : ByNumber → Location → (number n : ℕ) → List AsmItem
each_changed op p number n = chain (λ i. changed_byte op p (byte_of number i) i) n

-- two bytes are changed in R30 and R31
abbrev pub changed_pair : ByNumber → (r number : ℕ) → List AsmItem
changed_pair op r number =
    Plain (Movw 30 r) ∷ Plain (immediate op 0 30 (byte_of number 0)) ∷ Plain (immediate op 1 31 (byte_of number 1))
    ∷ Plain (Movw r 30) ∷ []

-- n bytes behind them
abbrev pub rest_changed : ByNumber → (r number n : ℕ) → List AsmItem
rest_changed op r number n = chain (λ i. changed_byte op (InRegisters r) (byte_of number (2 + i)) (2 + i)) n

-- which is fewer steps where both bytes of the number change something
abbrev pub changes_pair : ByNumber → (r number n : ℕ) → Bool
changes_pair op r number n =
    is_low_pair r n && (not (is_neutral op (byte_of number 0)) && not (is_neutral op (byte_of number 1)))

-- n bytes of a place are changed by those of a number
abbrev pub changed_code : ByNumber → Location → (number n : ℕ) → List AsmItem
changed_code op (InRegisters r) number n =
    if changes_pair op r number n then changed_pair op r number ++ rest_changed op r number (n - 2)
    else each_changed op (InRegisters r) number n
changed_code op (InMemory o k) number n = each_changed op (InMemory o k) number n

-- what is subtracted where a number is added: modulo 256 ^ n, for up to 16 bytes, both together are 0
abbrev pub negated : ℕ → ℕ
negated number = (256 ^ 16 - number) % 256 ^ 16

abbrev pub added_code : Location → (number n : ℕ) → List AsmItem
added_code p number n = changed_code Subtract p (negated number) n

-- ---- comparisons

-- byte i of a register and a byte: CPI reaches R16 and above, and takes no borrow
abbrev pub register_compared : (r k i : ℕ) → List AsmItem
register_compared r k zero =
    if nat_le 16 r then Plain (Cpi r k) ∷ [] else Plain (Ldi 30 k) ∷ Plain (compares zero (r + zero) 30) ∷ []
register_compared r k (suc i) = Plain (Ldi 30 k) ∷ Plain (compares (suc i) (r + suc i) 30) ∷ []

abbrev pub compared_byte : Location → (k i : ℕ) → List AsmItem
compared_byte (InRegisters r) k i = register_compared r k i
compared_byte (InMemory o j) k i = LoadObj 0 o (j + i) ∷ Plain (Ldi 30 k) ∷ Plain (compares i 0 30) ∷ []

-- n bytes of a place are compared with those of a number
abbrev pub compared_code : Location → (number n : ℕ) → List AsmItem
compared_code p number n = chain (λ i. compared_byte p (byte_of number i) i) n
