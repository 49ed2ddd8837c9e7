-- Code that multiplies and divides a number of several bytes by a power of two. A format's fraction bits are whole
-- bytes or one bit less, so those of two formats differ by whole bytes, or by one bit more or less: the number is moved
-- by whole bytes, and by one bit. R31 is 255 where the number is negative. R0, R1 and R31 are work registers.
use Rattle.std.specs.Prelude.{ℕ, ◌+◌, ◌-◌, ◌/◌, ◌%◌, ◌==◌, Bool, true, false, List, [], ◌∷◌, ◌++◌}
use Rattle.ec_isa.specs.declared.instructions.Instr.TheVariants.{Eor}
use Rattle.ec_asm.specs.declared.items.AsmItem.{AsmItem}
use Rattle.ec_asm.specs.declared.items.AsmItem.TheVariants.{Plain}
use Rattle.ec_asm.specs.declared.pieces.Location.{Location}
use Rattle.ec_asm.specs.Items.{chain}
use Rattle.ec_select_shifts.specs.declared.shifts.Direction.{Direction}
use Rattle.ec_select_shifts.specs.declared.shifts.Direction.TheVariants.{Left, Right}
use Rattle.ec_select_shifts.specs.Shifts.{turn_code}
use Rattle.ec_fxcode.specs.Clamps.{take_byte, put_byte, sign_code, fills_code}
use Rattle.ec_fxcode_shifts.specs.Shifts.{mark_code, turned_code}

-- ---- by whole bytes

-- the whole bytes that are nearest to so many bits
abbrev pub nearest : ℕ → ℕ
nearest d = (d + 1) / 8

-- the bytes from the j-th up to the k-th become 0
abbrev pub clears_code : Location → (j k : ℕ) → List AsmItem
clears_code w j k = Plain (Eor 1 1) ∷ chain (λ i. put_byte 1 w (j + i)) (k - j)

-- n bytes from byte j of one place to byte k of another: the i-th of them, and all
abbrev pub moved_byte : (p w : Location) → (j k i : ℕ) → List AsmItem
moved_byte p w j k i = take_byte p (j + i) ++ put_byte 0 w (k + i)

abbrev pub moved_code : (p w : Location) → (j k n : ℕ) → List AsmItem
moved_code p w j k n = chain (moved_byte p w j k) n

-- ---- by one bit

-- the number of n bytes moved by one bit to the left or to the right, or not at all
abbrev pub bit_code : (moves : Bool) → Direction → Location → ℕ → List AsmItem
bit_code true way w n = turn_code way w n
bit_code false way w n = []

-- the bits are one more than whole bytes, or one less
abbrev pub is_one_more : ℕ → Bool
is_one_more d = d % 8 == 1

abbrev pub is_one_less : ℕ → Bool
is_one_less d = d % 8 == 7

-- ---- times a power of two

-- the number of n bytes at p with z bytes of 0 below it, and bytes of its sign above it up to m bytes
abbrev pub placed_code : (p w : Location) → (n m z : ℕ) → List AsmItem
placed_code p w n m z = clears_code w 0 z ++ (moved_code p w 0 z n ++ fills_code w (z + n) m)

-- the number of n bytes at p, in two's complement where it has a sign, times two to the power of d, as a number of m
-- bytes in two's complement at w
abbrev pub scale_code : (signed : Bool) → (p w : Location) → (n m d : ℕ) → List AsmItem
scale_code signed p w n m d =
    mark_code signed p n
    ++ (placed_code p w n m (nearest d)
    ++ (bit_code (is_one_more d) Left w m ++ bit_code (is_one_less d) (Right true) w m))

-- ---- divided by a power of two

-- the number of m bytes at w without its lowest z bytes, and halved where that is asked for
abbrev pub lowered_code : (halves : Bool) → Location → (m z : ℕ) → List AsmItem
lowered_code halves w m z =
    moved_code w w z 0 (m - z) ++ (bit_code halves (Right false) w (m - z) ++ clears_code w (m - z) m)

-- the number of m bytes in two's complement at w, divided by two to the power of d and rounded toward zero: its
-- magnitude is divided
abbrev pub cut_code : Location → (m d : ℕ) → List AsmItem
cut_code w m d =
    sign_code w m
    ++ (turned_code w w m
    ++ (bit_code (is_one_less d) Left w m ++ (lowered_code (is_one_more d) w m (nearest d) ++ turned_code w w m)))
