-- The form of the code: it is straight, and has so many steps and words.
use Rattle.std.proofs.Common.{ℕ, ◌+◌, ◌-◌, ◌*◌, ◌%◌, ◌≤◌, ◌==◌, inl, inr, if◌then◌else◌, Bool, true, false, [], ◌∷◌, ◌++◌, refl, arith}
use Rattle.ec_isa.specs.declared.instructions.Instr.TheVariants.{Eor}
use Rattle.ec_asm.specs.declared.items.AsmItem.TheVariants.{Plain}
use Rattle.ec_asm.specs.declared.pieces.Location.{Location}
use Rattle.ec_asm.specs.declared.pieces.Location.TheVariants.{InRegisters, InMemory}
use Rattle.ec_asm.specs.declared.pieces.Operator.TheVariants.{Sum}
use Rattle.ec_asm.specs.Items.{chain}
use Rattle.ec_asm.proofs.Results.{pieces_are_straight, pieces_take}
use Rattle.ec_select_shifts.specs.declared.shifts.Direction.{Direction}
use Rattle.ec_select_shifts.specs.declared.shifts.Direction.TheVariants.{Left, Right}
use Rattle.ec_select_shifts.specs.Shifts.{turn_code, turn_words}
use Rattle.ec_select_shifts.proofs.Words.{turn_has_words}
use Rattle.ec_fxcode.specs.Clamps.{take_byte, put_byte, sign_code, fills_code}
use Rattle.ec_fxcode.proofs.Short.{IsShort, joined, chained, weaker, take_short, put_short, sign_short}
use Rattle.ec_fxcode_shifts.specs.Shifts.{mark_code, turned_code}
use Rattle.ec_fxcode_shifts.proofs.Steps.{mark_short, turned_short}
use Rattle.ec_fxcode_scales.specs.Scales.{nearest, clears_code, moved_byte, moved_code, bit_code, is_one_more, is_one_less, placed_code}
use Rattle.ec_fxcode_scales.specs.Scales.{scale_code, lowered_code, cut_code}
use Rattle.ec_fxcode_scales.specs.ScaleLaws.{IsScale, ScalesHave, CutsHave}

-- ---- the pieces

clears_short : (w : Location) (j k : ℕ) → IsShort (clears_code w j k) (1 + (k - j) * 1) (1 + (k - j) * 2)
clears_short w j k =
    joined (Plain (Eor 1 1) ∷ []) (chain (λ i. put_byte 1 w (j + i)) (k - j)) 1 ((k - j) * 1) 1 ((k - j) * 2)
    (record { straight = refl; steps_are = omega arith; words_are = omega arith })
    (chained (λ i. put_byte 1 w (j + i)) (k - j) 1 2 (λ i. put_short 1 w (j + i)))

moved_short : (p w : Location) (j k n : ℕ) → IsShort (moved_code p w j k n) (n * 2) (n * 4)
moved_short p w j k n =
    chained (moved_byte p w j k) n 2 4 (λ i. joined (take_byte p (j + i)) (put_byte 0 w (k + i)) 1 1 2 2 (take_short p (j + i))
    (put_short 0 w (k + i)))

fills_short : (w : Location) (j k : ℕ) → IsShort (fills_code w j k) ((k - j) * 1) ((k - j) * 2)
fills_short w j k = chained (λ i. put_byte 31 w (j + i)) (k - j) 1 2 (λ i. put_short 31 w (j + i))

most : (way : Direction) (w : Location) (n : ℕ) → turn_words way w n ≤ 7 * n
most way (InRegisters r) n = omega arith
most Left (InMemory o k) n = omega arith
most (Right signed) (InMemory o k) n = omega arith

turn_short : (way : Direction) (w : Location) (n : ℕ) → IsShort (turn_code way w n) (4 * n) (7 * n)
turn_short Left w n =
    let t = (pieces_take Sum w w n).1.1 in
    let h = turn_has_words Left w n in
    let l = most Left w n in
    record { straight = (pieces_are_straight Sum w w n).1; steps_are = omega (arith, t); words_are = omega (arith, h, l) }
turn_short (Right signed) w n =
    let t = ((pieces_take Sum w w n).3 signed).1 in
    let h = turn_has_words (Right signed) w n in
    let l = most (Right signed) w n in
    record { straight = (pieces_are_straight Sum w w n).3 signed; steps_are = omega (arith, t); words_are = omega (arith, h, l) }

-- the words of one bit
abbrev bit_words : Bool → ℕ → ℕ
bit_words true n = 7 * n
bit_words false n = 0

bit_short : (b : Bool) (way : Direction) (w : Location) (n : ℕ) → IsShort (bit_code b way w n) (4 * n) (bit_words b n)
bit_short true way w n = turn_short way w n
bit_short false way w n = record { straight = refl; steps_are = omega arith; words_are = omega arith }

fewer_words : (b : Bool) (n m : ℕ) → n ≤ m → bit_words b n ≤ bit_words b m
fewer_words true n m l = omega arith
fewer_words false n m l = omega arith

both_words : (d m : ℕ) → IsScale d
    → bit_words (is_one_more d) m + bit_words (is_one_less d) m ≤ (if d % 8 == 0 then 0 else 7 * m)
both_words d m (inl e) = rw e (omega arith)
both_words d m (inr (inl e)) = rw e (omega arith)
both_words d m (inr (inr e)) = rw e (omega arith)

-- ---- times a power of two

placed_short : (p w : Location) (n m z : ℕ) → z + n ≤ m → IsShort (placed_code p w n m z) (1 + 2 * m) (1 + 4 * m)
placed_short p w n m z l =
    weaker (placed_code p w n m z) (1 + (z - 0) * 1 + (n * 2 + (m - (z + n)) * 1)) (1 + 2 * m)
    (1 + (z - 0) * 2 + (n * 4 + (m - (z + n)) * 2)) (1 + 4 * m) (omega arith) (omega arith)
    (joined (clears_code w 0 z) (moved_code p w 0 z n ++ fills_code w (z + n) m) (1 + (z - 0) * 1) (n * 2 + (m - (z + n)) * 1)
    (1 + (z - 0) * 2) (n * 4 + (m - (z + n)) * 2) (clears_short w 0 z)
    (joined (moved_code p w 0 z n) (fills_code w (z + n) m) (n * 2) ((m - (z + n)) * 1) (n * 4) ((m - (z + n)) * 2)
    (moved_short p w 0 z n) (fills_short w (z + n) m)))

pub scale_short : (signed : Bool) (p w : Location) (n m d : ℕ) → nearest d + n ≤ m
    → IsShort (scale_code signed p w n m d) (3 + (1 + 2 * m + (4 * m + 4 * m)))
    (4 + (1 + 4 * m + (bit_words (is_one_more d) m + bit_words (is_one_less d) m)))
scale_short signed p w n m d l =
    let up = bit_code (is_one_more d) Left w m in
    let down = bit_code (is_one_less d) (Right true) w m in
    let a = bit_words (is_one_more d) m in
    let b = bit_words (is_one_less d) m in
    joined (mark_code signed p n) (placed_code p w n m (nearest d) ++ (up ++ down)) 3 (1 + 2 * m + (4 * m + 4 * m)) 4
    (1 + 4 * m + (a + b)) (mark_short signed p n)
    (joined (placed_code p w n m (nearest d)) (up ++ down) (1 + 2 * m) (4 * m + 4 * m) (1 + 4 * m) (a + b)
    (placed_short p w n m (nearest d) l)
    (joined up down (4 * m) (4 * m) a b (bit_short (is_one_more d) Left w m) (bit_short (is_one_less d) (Right true) w m)))

pub scales_have : ScalesHave
scales_have signed p w n m d is some l =
    let h = (scale_short signed p w n m d (omega arith)).words_are in
    let b = both_words d m is in
    omega (arith, h, b)

-- ---- divided by a power of two

lowered_short : (b : Bool) (w : Location) (m z : ℕ) → IsShort (lowered_code b w m z) (2 * m + (4 * m + (1 + m)))
    (bit_words b m + (1 + 4 * m))
lowered_short b w m z =
    let r = m - z in
    let down = bit_code b (Right false) w r in
    let f = fewer_words b r m (omega arith) in
    weaker (lowered_code b w m z) (r * 2 + (4 * r + (1 + (m - r) * 1))) (2 * m + (4 * m + (1 + m)))
    (r * 4 + (bit_words b r + (1 + (m - r) * 2))) (bit_words b m + (1 + 4 * m)) (omega arith) (omega (arith, f))
    (joined (moved_code w w z 0 r) (down ++ clears_code w r m) (r * 2) (4 * r + (1 + (m - r) * 1)) (r * 4)
    (bit_words b r + (1 + (m - r) * 2)) (moved_short w w z 0 r)
    (joined down (clears_code w r m) (4 * r) (1 + (m - r) * 1) (bit_words b r) (1 + (m - r) * 2) (bit_short b (Right false) w r)
    (clears_short w r m)))

pub cut_short : (w : Location) (m d : ℕ)
    → IsShort (cut_code w m d) (3 + (m * 4 + (4 * m + (2 * m + (4 * m + (1 + m)) + m * 4))))
    (4 + (m * 6 + (bit_words (is_one_less d) m + (bit_words (is_one_more d) m + (1 + 4 * m) + m * 6))))
cut_short w m d =
    let up = bit_code (is_one_less d) Left w m in
    let low = lowered_code (is_one_more d) w m (nearest d) in
    let turned = turned_code w w m in
    let a = bit_words (is_one_less d) m in
    let b = bit_words (is_one_more d) m in
    let k = 2 * m + (4 * m + (1 + m)) in
    let t = turned_short w w m in
    joined (sign_code w m) (turned ++ (up ++ (low ++ turned))) 3 (m * 4 + (4 * m + (k + m * 4))) 4
    (m * 6 + (a + (b + (1 + 4 * m) + m * 6))) (sign_short w m)
    (joined turned (up ++ (low ++ turned)) (m * 4) (4 * m + (k + m * 4)) (m * 6) (a + (b + (1 + 4 * m) + m * 6)) t
    (joined up (low ++ turned) (4 * m) (k + m * 4) a (b + (1 + 4 * m) + m * 6) (bit_short (is_one_less d) Left w m)
    (joined low turned k (m * 4) (b + (1 + 4 * m)) (m * 6) (lowered_short (is_one_more d) w m (nearest d)) t)))

pub cuts_have : CutsHave
cuts_have w m d is =
    let h = (cut_short w m d).words_are in
    let b = both_words d m is in
    omega (arith, h, b)
