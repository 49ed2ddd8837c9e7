-- The form of the code: it is straight, and has so many steps and words.
use Rattle.std.proofs.Common.{ℕ, zero, suc, ◌+◌, ◌-◌, ◌*◌, ◌/◌, ◌%◌, ◌==◌, min, Bool, true, false, refl, arith, [], ◌++◌}
use Rattle.std.specs.Prelude.{nat_lt, if◌then◌else◌}
use Rattle.ec_asm.specs.declared.pieces.Location.{Location}
use Rattle.ec_asm.specs.declared.pieces.Location.TheVariants.{InRegisters, InMemory}
use Rattle.ec_asm.specs.declared.pieces.Operator.TheVariants.{Sum}
use Rattle.ec_asm.specs.Pieces.{operate_byte, operate_code, copy_byte, copy_code, halve_code}
use Rattle.ec_asm.proofs.Results.{pieces_are_straight, pieces_take}
use Rattle.ec_select_shifts.specs.declared.shifts.Direction.TheVariants.{Right}
use Rattle.ec_select_shifts.proofs.Words.{turn_has_words}
use Rattle.ec_fxcode.specs.Clamps.{put_byte, fills_code}
use Rattle.ec_fxcode.proofs.Short.{IsShort, joined, chained, weaker, copy_short, put_short}
use Rattle.ec_fxcode_shifts.specs.Shifts.{mark_code, turned_code}
use Rattle.ec_fxcode_shifts.proofs.Steps.{mark_short, turned_short}
use Rattle.ec_fxcode_formats.specs.Cuts.{row_from, bytes_below, clear_byte, clear_code, double_code, less_code}
use Rattle.ec_fxcode_formats.specs.Raises.{spare, signed_code, entered_code, half_code, puts_code, zero_byte, zeros_code}
use Rattle.ec_fxcode_formats.specs.Raises.{more_code, placed_code}
use Rattle.ec_fxcode_formats.specs.FormatLaws.{CutsHave}

add_short : (r i : ℕ) → IsShort (operate_byte Sum (InRegisters r) (InRegisters r) i) 1 1
add_short r zero = record { straight = refl; steps_are = omega arith; words_are = omega arith }
add_short r (suc i) = record { straight = refl; steps_are = omega arith; words_are = omega arith }

pub clear_short : (m top : ℕ) → IsShort (clear_code m top) ((top - m) * 1) ((top - m) * 1)
clear_short m top =
    chained (λ i. clear_byte (m + i)) (top - m) 1 1 (λ i. record { straight = refl; steps_are = omega arith; words_are = omega arith })

pub double_short : (n d : ℕ) → IsShort (double_code n d) (suc n) (suc n)
double_short n d = by_rest (d % 8 == 0)
  where
    by_rest : (b : Bool) → IsShort (if b then [] else operate_code Sum (row_from (d / 8)) (row_from (d / 8)) (suc n)) (suc n) (suc n)
    by_rest true = record { straight = refl; steps_are = omega arith; words_are = omega arith }
    by_rest false =
        weaker (operate_code Sum (row_from (d / 8)) (row_from (d / 8)) (suc n)) (suc n * 1) (suc n) (suc n * 1) (suc n) (omega arith)
        (omega arith) (chained (operate_byte Sum (row_from (d / 8)) (row_from (d / 8))) (suc n) 1 1 (add_short (8 + d / 8)))

pub cuts_have : CutsHave
cuts_have signed p q m n d room =
    let top = bytes_below d + n in
    let all = joined (mark_code signed p m) (less_code p q m n d) 3 (m * 4 + ((top - m) * 1 + (suc n + n * 4))) 4
    (m * 6 + ((top - m) * 1 + (suc n + n * 6))) (mark_short signed p m)
    (joined (turned_code p (row_from 0) m) (clear_code m top ++ (double_code n d ++ turned_code (row_from (bytes_below d)) q n)) (m * 4)
    ((top - m) * 1 + (suc n + n * 4)) (m * 6) ((top - m) * 1 + (suc n + n * 6)) (turned_short p (row_from 0) m)
    (joined (clear_code m top) (double_code n d ++ turned_code (row_from (bytes_below d)) q n) ((top - m) * 1) (suc n + n * 4)
    ((top - m) * 1) (suc n + n * 6) (clear_short m top)
    (joined (double_code n d) (turned_code (row_from (bytes_below d)) q n) (suc n) (n * 4) (suc n) (n * 6) (double_short n d)
    (turned_short (row_from (bytes_below d)) q n)))) in
    let w = all.words_are in
    omega (arith, w, room)

-- ---- with bits more

signed_short : (signed : Bool) (p : Location) (m k : ℕ) → IsShort (signed_code signed p m k) 3 4
signed_short signed p m k = by_test (nat_lt m k)
  where
    by_test : (b : Bool) → IsShort (if b then mark_code signed p m else []) 3 4
    by_test true = mark_short signed p m
    by_test false = record { straight = refl; steps_are = omega arith; words_are = omega arith }

entered_short : (p : Location) (m s k : ℕ)
    → IsShort (entered_code p m s k) ((s - 0) * 1 + (min m k * 2 + (k - min m k) * 1)) ((s - 0) * 1 + (min m k * 4 + (k - min m k) * 2))
entered_short p m s k =
    let few = min m k in
    joined (clear_code 0 s) (copy_code p (row_from s) few ++ fills_code (row_from s) few k) ((s - 0) * 1) (few * 2 + (k - few) * 1)
    ((s - 0) * 1) (few * 4 + (k - few) * 2) (clear_short 0 s)
    (joined (copy_code p (row_from s) few) (fills_code (row_from s) few k) (few * 2) ((k - few) * 1) (few * 4) ((k - few) * 2)
    (chained (copy_byte p (row_from s)) few 2 4 (copy_short p (row_from s)))
    (chained (λ i. put_byte 31 (row_from s) (few + i)) (k - few) 1 2 (λ i. put_short 31 (row_from s) (few + i))))

half_short : (k u : ℕ) → IsShort (half_code k u) (3 * suc k) (suc k)
half_short k u = by_rest (u % 8 == 0)
  where
    by_rest : (b : Bool) → IsShort (if b then [] else halve_code false (row_from 0) (suc k)) (3 * suc k) (suc k)
    by_rest true = record { straight = refl; steps_are = omega arith; words_are = omega arith }
    by_rest false =
        let row = row_from 0 in
        let steps = ((pieces_take Sum row row (suc k)).3 false).1 in
        let words = turn_has_words (Right false) row (suc k) in
        record {
          straight = (pieces_are_straight Sum row row (suc k)).3 false;
          steps_are = omega (arith, steps);
          words_are = omega (arith, words);
        }

zero_short : (q : Location) (i : ℕ) → IsShort (zero_byte q i) 2 3
zero_short (InRegisters r) i = record { straight = refl; steps_are = omega arith; words_are = omega arith }
zero_short (InMemory o k) i = record { straight = refl; steps_are = omega arith; words_are = omega arith }

out_short : (q : Location) (i k : ℕ) → IsShort (puts_code q i k ++ zeros_code q i) (k * 1 + i * 2) (k * 2 + i * 3)
out_short q i k =
    joined (puts_code q i k) (zeros_code q i) (k * 1) (i * 2) (k * 2) (i * 3)
    (chained (λ j. put_byte (8 + j) q (i + j)) k 1 2 (λ j. put_short (8 + j) q (i + j))) (chained (zero_byte q) i 2 3 (zero_short q))

pub raise_short : (signed : Bool) (p q : Location) (m u i k : ℕ)
    → IsShort (placed_code signed p q m u i k) (6 + spare u + 6 * k + 2 * i) (5 + spare u + 4 * m + 5 * k + 3 * i)
raise_short signed p q m u i k =
    let s = spare u in
    let few = min m k in
    weaker (placed_code signed p q m u i k)
    (3 + ((s - 0) * 1 + (few * 2 + (k - few) * 1) + (3 * suc k + (k * 1 + i * 2)))) (6 + spare u + 6 * k + 2 * i)
    (4 + ((s - 0) * 1 + (few * 4 + (k - few) * 2) + (suc k + (k * 2 + i * 3)))) (5 + spare u + 4 * m + 5 * k + 3 * i)
    (omega arith) (omega arith)
    (joined (signed_code signed p m k) (more_code p q m u i k) 3
    ((s - 0) * 1 + (few * 2 + (k - few) * 1) + (3 * suc k + (k * 1 + i * 2))) 4
    ((s - 0) * 1 + (few * 4 + (k - few) * 2) + (suc k + (k * 2 + i * 3))) (signed_short signed p m k)
    (joined (entered_code p m s k) (half_code k u ++ (puts_code q i k ++ zeros_code q i)) ((s - 0) * 1 + (few * 2 + (k - few) * 1))
    (3 * suc k + (k * 1 + i * 2)) ((s - 0) * 1 + (few * 4 + (k - few) * 2)) (suc k + (k * 2 + i * 3)) (entered_short p m s k)
    (joined (half_code k u) (puts_code q i k ++ zeros_code q i) (3 * suc k) (k * 1 + i * 2) (suc k) (k * 2 + i * 3) (half_short k u)
    (out_short q i k))))
