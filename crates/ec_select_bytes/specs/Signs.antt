-- The code for the signs of numbers that are divided, and for the registers of a division. R31 holds a sign.
use Rattle.std.specs.Prelude.{ℕ, ◌+◌, ◌*◌, Bool, true, false, pos, List, [], ◌∷◌, ◌++◌}
use Rattle.ec_isa.specs.declared.instructions.Instr.TheVariants.{Mov, Add, Eor, Ldi, Brbc}
use Rattle.ec_asm.specs.declared.items.AsmItem.{AsmItem}
use Rattle.ec_asm.specs.declared.items.AsmItem.TheVariants.{Plain}
use Rattle.ec_asm.specs.declared.pieces.Location.{Location}
use Rattle.ec_asm.specs.declared.pieces.Location.TheVariants.{InRegisters, InMemory}
use Rattle.ec_select_bytes.specs.Complements.{negation_code}

abbrev pub negation_words : Location → ℕ → ℕ
negation_words (InRegisters r) n = 1 * n + (1 + 1 * n)
negation_words (InMemory o k) n = 5 * n + (1 + 5 * n)

-- the highest bit of a register into C
abbrev pub sign_test : ℕ → List AsmItem
sign_test r = Plain (Mov 0 r) ∷ Plain (Add 0 0) ∷ []

abbrev pub sign_skip : Location → ℕ → List AsmItem
sign_skip p n = Plain (Brbc 0 (pos (negation_words p n))) ∷ []

-- a number is negated where the highest bit of a register is 1
abbrev pub negate_if_code : (register : ℕ) → Location → ℕ → List AsmItem
negate_if_code r p n = sign_test r ++ (sign_skip p n ++ negation_code p n)

-- the sign of a quotient: that of the number, turned where the highest byte of the divisor has one
abbrev pub cross_code : (remainder : Bool) → ℕ → List AsmItem
cross_code true top = []
cross_code false top = Plain (Eor 31 (8 + top)) ∷ []

-- the count of bits in R13, and a zero byte above the divisor
abbrev pub registers_code : ℕ → List AsmItem
registers_code n = Plain (Ldi 30 (8 * n)) ∷ Plain (Mov 13 30) ∷ Plain (Eor (8 + n) (8 + n)) ∷ []
