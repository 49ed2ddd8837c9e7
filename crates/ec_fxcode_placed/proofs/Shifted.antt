-- A fixed-point number that was shifted where it stands.
use Rattle.std.proofs.Common.{◌≡◌, ℕ, suc, ◌+◌, ◌-◌, ◌*◌, ◌/◌, ◌%◌, ◌^◌, ◌<◌, ◌≤◌, ⊎_elim, Bool, true, false, refl, sym, ap, ◌∙◌}
use Rattle.std.proofs.Common.{subst, arith, pos, negsuc, neg_ℤ, ◌*ℤ◌}
use Rattle.std.proofs.lemmas.Bool.{cases_lt}
use Rattle.std.proofs.lemmas.Int.{ints}
use Rattle.std.proofs.lemmas.Nat.{mul-le, mod-mul-add, pow_pos}
use Rattle.ec_fx.specs.declared.formats.Format.{Format}
use Rattle.ec_fx.specs.declared.numbers.Mode.{Mode}
use Rattle.ec_fx.specs.declared.numbers.Fx.TheVariants.{Overflow}
use Rattle.ec_fx.specs.Arithmetic.{exact_shift}
use Rattle.ec_fx.specs.Results.{fit, result_of}
use Rattle.ec_fx.specs.Rounding.{trunc}
use Rattle.ec_asm.specs.declared.pieces.Location.{Location}
use Rattle.ec_asm.specs.View.{View}
use Rattle.ec_asm.specs.Change.{Env, Own}
use Rattle.ec_asm.specs.Items.{HasAt}
use Rattle.ec_asm.specs.Pieces.{StandsFrom, value}
use Rattle.ec_asm.specs.PieceLaws.{HoldsNumbers}
use Rattle.ec_asm.proofs.Numbers.{value_below, pow_pos as bytes_pos}
use Rattle.ec_select_shifts.specs.declared.shifts.Direction.{Direction}
use Rattle.ec_select_shifts.specs.declared.shifts.Direction.TheVariants.{Left, Right}
use Rattle.ec_select_shifts.specs.Shifts.{shifted_by, shift_code}
use Rattle.ec_select_shifts.proofs.Loops.{shifts_are_right}
use Rattle.ec_fxcode.specs.ClampLaws.{signed_number, HoldsResult, IsClearOfEnds}
use Rattle.ec_fxcode.proofs.Clamped.{bits_power, half_power, two_halves, some_half}
use Rattle.ec_fxcode.proofs.Fits.{plus, minus, signed_inside, negative_inside, unsigned_inside}
use Rattle.ec_fxcode_shifts.specs.ShiftLaws.{number_in}
use Rattle.ec_fxcode_shifts.proofs.Entered.{format_width}
use Rattle.ec_fxcode_shifts.proofs.Shifted.{div_one, small, right_plus, right_unsigned, right_minus}
use Rattle.ec_fxcode_scales.specs.ScaleLaws.{Brings}
use Rattle.ec_fxcode_placed.specs.Shifts.{placed_code}
use Rattle.ec_fxcode_placed.specs.ShiftLaws.{PlacedShiftsAreRight}
use Rattle.ec_fxcode_placed.proofs.Toward.{IsToward}
use Rattle.ec_fxcode_placed.proofs.Loop.{beside_30, rounds}

-- ---- to the right

pub toward_holds : (f : Format) (mode : Mode) (n A p Y : ℕ) → f.signed ≡ true → f.bits ≡ 8 * suc n → A < 256 ^ suc n → 1 ≤ p
    → IsToward (256 ^ suc n) A p Y → HoldsResult (suc n) (fit f mode (trunc (signed_number (suc n) A) p)) Y
toward_holds f mode n A p Y s e l one is =
    let k = suc n in
    let N = 256 ^ k in
    let h = 128 * 256 ^ n in
    let half : 2 ^ (f.bits - 1) ≡ h = ap (λ t. 2 ^ (t - 1)) e ∙ half_power n in
    let two = two_halves n in
    ⊎_elim
    (λ (less : 2 * A < N). rw (plus k A less) (right_plus f mode k A h p Y s half (omega (arith, less, two)) one (is.plus less)))
    (λ (more : N ≤ 2 * A).
    let r = is.minus more in
    rw (minus k A more l)
    (right_minus f mode k h (N - A) p Y r.0 s half two (omega (arith, l)) (omega (arith, more, two)) one is.below r.1 r.2))
    (cases_lt (2 * A) N)

pub plain_holds : (f : Format) (mode : Mode) (n A p : ℕ) → f.signed ≡ false → f.bits ≡ 8 * suc n → A < 256 ^ suc n → 1 ≤ p
    → HoldsResult (suc n) (fit f mode (trunc (pos A) p)) (A / p)
plain_holds f mode n A p s e l one =
    right_unsigned f mode (suc n) A (256 ^ suc n) p (A / p) s (ap (λ t. 2 ^ t) e ∙ bits_power (suc n)) l one refl

-- ---- to the left

-- out of range there is no result where the mode does not saturate
past_top : (f : Format) (mode : Mode) (x h : ℕ) → mode.saturate ≡ false → f.signed ≡ true → 2 ^ (f.bits - 1) ≡ h → 1 ≤ h → h ≤ x
    → fit f mode (pos x) ≡ Overflow
past_top f mode x h sat s p o l = rw (s, p, sat) (grind (arith, ints))

past_bottom : (f : Format) (mode : Mode) (x h : ℕ) → mode.saturate ≡ false → f.signed ≡ true → 2 ^ (f.bits - 1) ≡ h → 1 ≤ h → h ≤ x
    → fit f mode (negsuc x) ≡ Overflow
past_bottom f mode x h sat s p o l =
    let e : neg_ℤ (pos h) ≡ negsuc (h - 1) = omega (arith, ints) in
    rw (s, p, e, sat) (grind (arith, ints))

past_plain : (f : Format) (mode : Mode) (x m : ℕ) → mode.saturate ≡ false → f.signed ≡ false → 2 ^ f.bits ≡ m → 1 ≤ m → m ≤ x
    → fit f mode (pos x) ≡ Overflow
past_plain f mode x m sat s p o l = rw (s, p, sat) (grind (arith, ints))

times_negative : (m p y : ℕ) → suc m * p ≡ suc y → negsuc m *ℤ pos p ≡ negsuc y
times_negative m p y e = ap (λ (t : ℕ). neg_ℤ (pos t)) e

-- the low bytes of a negative number with magnitude M, times p
low_minus : (N M p : ℕ) → 1 ≤ M → M ≤ N → 1 ≤ p → 1 ≤ M * p → M * p ≤ N → (N - M) * p % N ≡ N - M * p
low_minus N M p some most one more less =
    let a : (N - M + M) * p ≡ N * p = ap (λ t. t * p) (omega (arith, most)) in
    let b : (p - 1 + 1) * N ≡ p * N = ap (λ t. t * N) (omega (arith, one)) in
    let whole : (N - M) * p ≡ (p - 1) * N + (N - M * p) = omega (arith, a, b, less) in
    ap (λ t. t % N) whole ∙ mod-mul-add (p - 1) N (N - M * p) (omega (arith, more, less))

pub left_holds : (f : Format) (mode : Mode) (n A p : ℕ) → f.signed ≡ true → f.bits ≡ 8 * suc n → mode.saturate ≡ false → A < 256 ^ suc n
    → 1 ≤ p → HoldsResult (suc n) (fit f mode (signed_number (suc n) A *ℤ pos p)) (A * p % 256 ^ suc n)
left_holds f mode n A p s e sat l one =
    let k = suc n in
    let N = 256 ^ k in
    let h = 128 * 256 ^ n in
    let half : 2 ^ (f.bits - 1) ≡ h = ap (λ t. 2 ^ (t - 1)) e ∙ half_power n in
    let two = two_halves n in
    let some = some_half n in
    ⊎_elim
    (λ (less : 2 * A < N).
    ⊎_elim
    (λ (inside : A * p < h).
    rw (plus k A less, signed_inside f mode (A * p) h s half inside) (small (A * p) N (omega (arith, inside, two))))
    (λ (past : h ≤ A * p). rw (plus k A less, past_top f mode (A * p) h sat s half some past) tt)
    (cases_lt (A * p) h))
    (λ (more : N ≤ 2 * A).
    let M = N - A in
    let times : 1 * 1 ≤ M * p = mul-le 1 1 M p (omega (arith, l)) one in
    let up : (M - 1 + 1) * p ≡ M * p = ap (λ t. t * p) (omega (arith, l)) in
    let z : negsuc (M - 1) *ℤ pos p ≡ negsuc (M * p - 1) = times_negative (M - 1) p (M * p - 1) (omega (arith, up, times)) in
    let back : N - M ≡ A = omega (arith, l) in
    ⊎_elim
    (λ (inside : M * p - 1 < h).
    let low : A * p % N ≡ N - M * p =
    ap (λ t. t * p % N) (sym back)
    ∙ low_minus N M p (omega (arith, l)) (omega arith) one (omega (arith, times)) (omega (arith, inside, times, two)) in
    let number : A * p % N ≡ N - (M * p - 1 + 1) = omega (arith, low, times) in
    rw (minus k A more l, z, negative_inside f mode (M * p - 1) h s half inside) number)
    (λ (past : h ≤ M * p - 1). rw (minus k A more l, z, past_bottom f mode (M * p - 1) h sat s half some past) tt)
    (cases_lt (M * p - 1) h))
    (cases_lt (2 * A) N)

pub plain_left_holds : (f : Format) (mode : Mode) (n A p : ℕ) → f.signed ≡ false → f.bits ≡ 8 * suc n → mode.saturate ≡ false
    → HoldsResult (suc n) (fit f mode (pos A *ℤ pos p)) (A * p % 256 ^ suc n)
plain_left_holds f mode n A p s e sat =
    let N = 256 ^ suc n in
    let bits : 2 ^ f.bits ≡ N = ap (λ t. 2 ^ t) e ∙ bits_power (suc n) in
    let some : 0 < N = bytes_pos (suc n) in
    ⊎_elim
    (λ (inside : A * p < N). rw (unsigned_inside f mode (A * p) N s bits inside) (small (A * p) N inside))
    (λ (past : N ≤ A * p). rw (past_plain f mode (A * p) N sat s bits some past) tt)
    (cases_lt (A * p) N)

-- ---- the runs

module _ (f : Format) (mode : Mode) (e : Env) (p : Location) (n a pc end : ℕ) (v : View) (bits : f.bits ≡ 8 * suc n)
    (st : StandsFrom e p (suc n) a Own) (clear : IsClearOfEnds a (suc n)) (numbers : HoldsNumbers v) (few : v.at 30 < 128) where
  below : value v.at a (suc n) < 256 ^ suc n
  below = let two = st.clear in value_below v.at a (suc n) (λ j l. numbers (a + j) (omega arith))

  -- those of integers
  as_integer : (s : Direction) (Holds : ℕ → Type 0) → HasAt e (shift_code s p (suc n)) pc end
      → Holds (shifted_by s (suc n) (value v.at a (suc n)) (v.at 30))
      → Brings e (3 + v.at 30 * (6 + 6 * suc n)) pc v end a (suc n) Holds
  as_integer s Holds stands holds =
      let r = shifts_are_right s e p n a pc end v st (beside_30 a (suc n) clear) numbers few stands in
      let most = r.at_most in
      let wider : v.at 30 * (2 + 4 * suc n) ≤ v.at 30 * (6 + 6 * suc n) =
      mul-le (v.at 30) (2 + 4 * suc n) (v.at 30) (6 + 6 * suc n) (omega arith) (omega arith) in
      record {
        steps = r.steps;
        at_most = omega (arith, most, wider);
        last = r.last;
        goes = r.goes;
        holds = subst Holds (sym r.number_is) holds;
        numbers = r.numbers;
        same = λ j x y z w o. r.same j x y z o;
        inputs = r.inputs;
        safe = r.safe;
        seen = r.seen;
      }

  abbrev Done : (left signed : Bool) → Type 0
  Done left signed =
      f.signed ≡ signed → HasAt e (placed_code left signed p (suc n)) pc end
      → Brings e (3 + v.at 30 * (6 + 6 * suc n)) pc v end a (suc n)
      (HoldsResult (suc n) (result_of (exact_shift (number_in signed (suc n) (value v.at a (suc n))) (v.at 30) left) f mode))

  to_the_left : (signed : Bool) → mode.saturate ≡ false → Done true signed
  to_the_left true sat s stands =
      as_integer Left _ stands
      (subst (λ z. HoldsResult (suc n) (fit f mode z) (value v.at a (suc n) * 2 ^ v.at 30 % 256 ^ suc n))
      (sym (div_one (signed_number (suc n) (value v.at a (suc n)) *ℤ pos (2 ^ v.at 30))))
      (left_holds f mode n (value v.at a (suc n)) (2 ^ v.at 30) s bits sat below (pow_pos (v.at 30))))
  to_the_left false sat s stands =
      as_integer Left _ stands
      (subst (λ z. HoldsResult (suc n) (fit f mode z) (value v.at a (suc n) * 2 ^ v.at 30 % 256 ^ suc n))
      (sym (div_one (pos (value v.at a (suc n)) *ℤ pos (2 ^ v.at 30))))
      (plain_left_holds f mode n (value v.at a (suc n)) (2 ^ v.at 30) s bits sat))

  to_the_right : (signed : Bool) → Done false signed
  to_the_right true s stands =
      let r = rounds e p n a pc end v st clear numbers few stands in
      record {
        steps = r.steps;
        at_most = r.at_most;
        last = r.last;
        goes = r.goes;
        holds = toward_holds f mode n (value v.at a (suc n)) (2 ^ v.at 30) (value r.last.at a (suc n)) s bits below (pow_pos (v.at 30))
            r.holds;
        numbers = r.numbers;
        same = r.same;
        inputs = r.inputs;
        safe = r.safe;
        seen = r.seen;
      }
  to_the_right false s stands =
      as_integer (Right false) _ stands (plain_holds f mode n (value v.at a (suc n)) (2 ^ v.at 30) s bits below (pow_pos (v.at 30)))

  done : (left : Bool) → (left ≡ true → mode.saturate ≡ false) → Done left f.signed
  done true sat = to_the_left f.signed (sat refl)
  done false sat = to_the_right f.signed

pub placed_shifts_are_right : PlacedShiftsAreRight
placed_shifts_are_right left f mode e p n a pc end v is bits sat st clear numbers few stands =
    let wide = format_width f (suc n) is bits in
    let most = wide.most in
    done f mode e p n a pc end v bits st clear numbers (omega (arith, few, bits, most)) left sat refl stands
