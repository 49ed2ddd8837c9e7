-- Code that shifts a fixed-point number where it stands, by the count in R30: to the left, and without a sign, as an
-- integer; and in two's complement to the right by single bits, each of which rounds toward zero: R31 becomes 255 where
-- the number is negative, and taken from it as a number of all its bytes adds 1 before the number is halved. R0, R1, R30
-- and R31 are work registers.
use Rattle.std.specs.Prelude.{ℕ, ◌+◌, ◌*◌, Bool, true, false, pos, negsuc, List, [], ◌∷◌, ◌++◌}
use Rattle.ec_isa.specs.declared.instructions.Instr.TheVariants.{Dec, Brbs, Rjmp}
use Rattle.ec_asm.specs.declared.items.AsmItem.{AsmItem}
use Rattle.ec_asm.specs.declared.items.AsmItem.TheVariants.{Plain, LoadObj, StoreObj}
use Rattle.ec_asm.specs.declared.pieces.Location.{Location}
use Rattle.ec_asm.specs.declared.pieces.Location.TheVariants.{InRegisters, InMemory}
use Rattle.ec_asm.specs.declared.pieces.Operator.TheVariants.{Difference}
use Rattle.ec_asm.specs.Items.{chain}
use Rattle.ec_asm.specs.Pieces.{instruction, halve_code}
use Rattle.ec_select_shifts.specs.declared.shifts.Direction.TheVariants.{Left, Right}
use Rattle.ec_select_shifts.specs.Shifts.{shift_code}
use Rattle.ec_fxcode.specs.Clamps.{sign_code}

-- ---- one bit

-- R31 is taken from byte i, with the borrow
abbrev pub raise_byte : Location → ℕ → List AsmItem
raise_byte (InRegisters r) i = Plain (instruction Difference i (r + i) 31) ∷ []
raise_byte (InMemory o k) i = LoadObj 0 o (k + i) ∷ Plain (instruction Difference i 0 31) ∷ StoreObj o (k + i) 0 ∷ []

abbrev pub raise_code : Location → ℕ → List AsmItem
raise_code p n = chain (raise_byte p) n

-- half of the number, rounded toward zero
abbrev pub half_code : Location → ℕ → List AsmItem
half_code p n = sign_code p n ++ (raise_code p n ++ halve_code true p n)

abbrev pub half_words : Location → ℕ → ℕ
half_words (InRegisters r) n = 3 + (1 * n + 1 * n)
half_words (InMemory o k) n = 4 + (5 * n + 5 * n)

-- ---- as many as R30 tells

-- over the first half, to where R30 is counted down
abbrev pub enter_code : Location → ℕ → List AsmItem
enter_code p n = Plain (Rjmp (pos (half_words p n))) ∷ []

-- over the jump back where R30 is below 0
abbrev pub again_code : Location → ℕ → List AsmItem
again_code p n = Plain (Dec 30) ∷ Plain (Brbs 2 (pos 1)) ∷ Plain (Rjmp (negsuc (half_words p n + 2))) ∷ []

abbrev pub rounded_code : Location → ℕ → List AsmItem
rounded_code p n = enter_code p n ++ (half_code p n ++ again_code p n)

-- ---- the whole code

abbrev pub placed_code : (left signed : Bool) → Location → ℕ → List AsmItem
placed_code true signed p n = shift_code Left p n
placed_code false true p n = rounded_code p n
placed_code false false p n = shift_code (Right false) p n
