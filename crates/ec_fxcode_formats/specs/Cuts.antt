-- Code that drops bits behind the point of a number of up to 4 bytes, rounded toward zero: the magnitude of the number is
-- brought to R8 and above, and dropped are whole bytes of it, and where 7 bits more are, one byte more after it was
-- doubled. What is left is brought to its place with the sign of the number. R31 is 255 where that is negative; R0, R1,
-- R8 to R13 and R31 are work registers.
use Rattle.std.specs.Prelude.{ℕ, suc, ◌+◌, ◌-◌, ◌/◌, ◌%◌, ◌==◌, Bool, if◌then◌else◌, List, [], ◌∷◌, ◌++◌}
use Rattle.ec_isa.specs.declared.instructions.Instr.TheVariants.{Eor}
use Rattle.ec_asm.specs.declared.items.AsmItem.{AsmItem}
use Rattle.ec_asm.specs.declared.items.AsmItem.TheVariants.{Plain}
use Rattle.ec_asm.specs.declared.pieces.Location.{Location}
use Rattle.ec_asm.specs.declared.pieces.Location.TheVariants.{InRegisters}
use Rattle.ec_asm.specs.declared.pieces.Operator.TheVariants.{Sum}
use Rattle.ec_asm.specs.Items.{chain}
use Rattle.ec_asm.specs.Pieces.{operate_code}
use Rattle.ec_fxcode_shifts.specs.Shifts.{mark_code, turned_code}

-- the registers from byte i of the magnitude on
abbrev pub row_from : ℕ → Location
row_from i = InRegisters (8 + i)

-- the bytes below what is left of d bits less
abbrev pub bytes_below : (d : ℕ) → ℕ
bytes_below d = (d + 7) / 8

-- byte i of the row becomes 0
abbrev pub clear_byte : ℕ → List AsmItem
clear_byte i = Plain (Eor (8 + i) (8 + i)) ∷ []

-- and so do all from byte m up to byte top
abbrev pub clear_code : (m top : ℕ) → List AsmItem
clear_code m top = chain (λ i. clear_byte (m + i)) (top - m)

-- the bytes that are left and the one below them are doubled, where not only whole bytes are dropped
abbrev pub double_code : (n d : ℕ) → List AsmItem
double_code n d = if d % 8 == 0 then [] else operate_code Sum (row_from (d / 8)) (row_from (d / 8)) (suc n)

-- the number of m bytes at p without d bits, in n bytes at q
abbrev pub less_code : (p q : Location) → (m n d : ℕ) → List AsmItem
less_code p q m n d =
    turned_code p (row_from 0) m
    ++ (clear_code m (bytes_below d + n) ++ (double_code n d ++ turned_code (row_from (bytes_below d)) q n))

abbrev pub cut_code : (signed : Bool) → (p q : Location) → (m n d : ℕ) → List AsmItem
cut_code signed p q m n d = mark_code signed p m ++ less_code p q m n d
