-- The product of two bytes, each signed or unsigned: the code, and the number that it leaves.
use Rattle.std.specs.Prelude.{ℕ, ◌+◌, ◌-◌, ◌*◌, ◌%◌, Bool, true, false, List, [], ◌∷◌, ◌++◌}
use Rattle.ec_isa.specs.declared.instructions.Instr.TheVariants.{Mul, Sbrc, Sub, Mov}
use Rattle.ec_asm.specs.declared.items.AsmItem.{AsmItem}
use Rattle.ec_asm.specs.declared.items.AsmItem.TheVariants.{Plain, StoreObj}
use Rattle.ec_asm.specs.declared.pieces.Location.{Location}
use Rattle.ec_asm.specs.declared.pieces.Location.TheVariants.{InRegisters, InMemory}
use Rattle.ec_asm.specs.Items.{chain}
use Rattle.ec_asm.specs.Pieces.{copy_code, sign_of}

-- ---- meaning

-- A byte that is signed and has its top bit set stands for itself less 256. The product in two's complement of two
-- bytes: 131,072, twice their power, keeps the difference from falling below 0
abbrev pub product_of : (left right : Bool) → (x z : ℕ) → ℕ
product_of left right x z = (x * z + 131072 - 256 * (sign_of left x * z + sign_of right z * x)) % 65536

-- ---- code

-- MUL takes both bytes as unsigned ones
abbrev pub factors_code : (left right : Location) → List AsmItem
factors_code a b = copy_code a (InRegisters 30) 1 ++ (copy_code b (InRegisters 31) 1 ++ Plain (Mul 30 31) ∷ [])

-- where the factor is negative, its 256 is taken from the product, times the other factor
abbrev pub less_code : Bool → (factor other : ℕ) → List AsmItem
less_code true factor other = Plain (Sbrc factor 7) ∷ Plain (Sub 1 other) ∷ []
less_code false factor other = []

abbrev pub corrected_code : (left right : Bool) → List AsmItem
corrected_code left right = less_code left 30 31 ++ less_code right 31 30

-- the product in R1:R0
abbrev pub multiply_code : (left right : Bool) → (a b : Location) → List AsmItem
multiply_code left right a b = factors_code a b ++ corrected_code left right

-- the byte of register i put to byte i
abbrev pub put_byte : Location → ℕ → List AsmItem
put_byte (InRegisters r) i = Plain (Mov (r + i) i) ∷ []
put_byte (InMemory o k) i = StoreObj o (k + i) i ∷ []

abbrev pub puts_code : Location → ℕ → List AsmItem
puts_code p n = chain (put_byte p) n

abbrev pub product_code : (left right : Bool) → (a b to : Location) → ℕ → List AsmItem
product_code left right a b to n = multiply_code left right a b ++ puts_code to n
