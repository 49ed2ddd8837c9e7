-- Code that adds bits behind the point of a number of up to 8 bytes, whole bytes or 7 bits more: its low bytes are
-- brought to R8 and above, with bytes of its sign above them. Where 7 bits more are added, they stand one byte higher
-- there, and are halved with the byte below them. So many bytes of the row become the upper bytes of the result, and
-- the lower ones become 0. R0, R1, R8 to R13 and R31 are work registers.
use Rattle.std.specs.Prelude.{ℕ, suc, ◌+◌, ◌-◌, ◌/◌, ◌%◌, ◌==◌, nat_lt, min, Bool, false, if◌then◌else◌, List, [], ◌∷◌, ◌++◌}
use Rattle.ec_isa.specs.declared.instructions.Instr.TheVariants.{Eor}
use Rattle.ec_asm.specs.declared.items.AsmItem.{AsmItem}
use Rattle.ec_asm.specs.declared.items.AsmItem.TheVariants.{Plain, StoreObj}
use Rattle.ec_asm.specs.declared.pieces.Location.{Location}
use Rattle.ec_asm.specs.declared.pieces.Location.TheVariants.{InRegisters, InMemory}
use Rattle.ec_asm.specs.Items.{chain}
use Rattle.ec_asm.specs.Pieces.{copy_code, halve_code}
use Rattle.ec_fxcode.specs.Clamps.{put_byte, fills_code}
use Rattle.ec_fxcode_shifts.specs.Shifts.{mark_code}
use Rattle.ec_fxcode_formats.specs.Cuts.{row_from, bytes_below, clear_code}

-- the byte of the row below the number: there is one where not only whole bytes are added
abbrev pub spare : (u : ℕ) → ℕ
spare u = bytes_below u - u / 8

-- R31 becomes the byte of the sign of m bytes, where k bytes are more
abbrev pub signed_code : (signed : Bool) → Location → (m k : ℕ) → List AsmItem
signed_code signed p m k = if nat_lt m k then mark_code signed p m else []

-- k low bytes of a number of m bytes from byte s of the row on, and 0 below them
abbrev pub entered_code : Location → (m s k : ℕ) → List AsmItem
entered_code p m s k =
    clear_code 0 s ++ (copy_code p (row_from s) (min m k) ++ fills_code (row_from s) (min m k) k)

-- they are halved with the byte below them, where not only whole bytes are added
abbrev pub half_code : (k u : ℕ) → List AsmItem
half_code k u = if u % 8 == 0 then [] else halve_code false (row_from 0) (suc k)

-- k bytes of the row to those of a number from byte i on
abbrev pub puts_code : Location → (i k : ℕ) → List AsmItem
puts_code q i k = chain (λ j. put_byte (8 + j) q (i + j)) k

abbrev pub zero_byte : Location → ℕ → List AsmItem
zero_byte (InRegisters r) i = Plain (Eor (r + i) (r + i)) ∷ []
zero_byte (InMemory o k) i = Plain (Eor 0 0) ∷ StoreObj o (k + i) 0 ∷ []

-- the lower bytes become 0
abbrev pub zeros_code : Location → ℕ → List AsmItem
zeros_code q i = chain (zero_byte q) i

-- the number of m bytes at p with k bytes of it in the row, u bits more, to i and k bytes at q
abbrev pub more_code : (p q : Location) → (m u i k : ℕ) → List AsmItem
more_code p q m u i k = entered_code p m (spare u) k ++ (half_code k u ++ (puts_code q i k ++ zeros_code q i))

abbrev pub placed_code : (signed : Bool) → (p q : Location) → (m u i k : ℕ) → List AsmItem
placed_code signed p q m u i k = signed_code signed p m k ++ more_code p q m u i k

-- the number of m bytes at p with u bits more, in n bytes at q
abbrev pub raise_code : (signed : Bool) → (p q : Location) → (m n u : ℕ) → List AsmItem
raise_code signed p q m n u = placed_code signed p q m u (u / 8) (n - u / 8)
