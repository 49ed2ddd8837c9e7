-- A conversion to the same format keeps the number.
use Rattle.std.proofs.Common.{◌≡◌, ◌⊎◌, ⊎_elim, ℕ, suc, ◌+◌, ◌-◌, ◌*◌, ◌/◌, ◌^◌, ◌<◌, ◌≤◌, Bool, true, false, ℤ, pos, negsuc, ◌*ℤ◌, ◌-ℤ◌}
use Rattle.std.proofs.Common.{refl, sym, ap, ◌∙◌, subst, arith}
use Rattle.std.specs.Prelude.{if◌then◌else◌, nat_lt, int_lt, ◌≤ℤ◌}
use Rattle.std.proofs.lemmas.Bool.{cases_lt}
use Rattle.std.proofs.lemmas.Int.{ints}
use Rattle.std.proofs.lemmas.Nat.{pow_pos}
use native.Mathlib.Nat.{pow-suc}
use Rattle.ec_fx.specs.declared.formats.Format.{Format}
use Rattle.ec_fx.specs.declared.numbers.Fx.TheVariants.{Got}
use Rattle.ec_fx.specs.declared.numbers.Mode.{Mode}
use Rattle.ec_fx.specs.declared.numbers.Num.TheVariants.{Fixed as FixedNum}
use Rattle.ec_fx.specs.Conversions.{conversion_of}
use Rattle.ec_fx.specs.Ranges.{least, greatest, IsWithin}
use Rattle.ec_fx.specs.Results.{clamped, fit}
use Rattle.ec_fx.specs.Rounding.{trunc}
use Rattle.ec_fx.proofs.Scaling.{trunc-common}
use Rattle.ec_fxcode.specs.ClampLaws.{signed_number}
use Rattle.ec_fxcode.proofs.Fits.{plus, minus}
use Rattle.ec_fxcode_shifts.specs.ShiftLaws.{number_in, fixed_in}
use Rattle.ec_fxcode_shifts.proofs.Shifted.{div_one}
use Rattle.ec_select_fixed.proofs.Values.{powers}

-- ---- the number in bytes is in range

within_signed : (P h x : ℕ) (n : ℤ) → P ≡ h * 2 → x < P → (2 * x < P → n ≡ pos x) → (P ≤ 2 * x → n ≡ negsuc (P - x - 1))
    → (least_is : ℤ) → (greatest_is : ℤ) → least_is ≡ pos 0 -ℤ pos h → greatest_is ≡ pos (h - 1) → 1 ≤ h
    → (least_is ≤ℤ n) × (n ≤ℤ greatest_is)
within_signed P h x n e l a b low high f g o =
    ⊎_elim
    (λ (y : 2 * x < P). let i : n ≡ pos x = a y in (omega (arith, ints, i, f, e), omega (arith, ints, i, g, e)))
    (λ (y : P ≤ 2 * x). let i : n ≡ negsuc (P - x - 1) = b y in (omega (arith, ints, i, f, e), omega (arith, ints, i, g, e)))
    (cases_lt (2 * x) P)

half_of : (width k : ℕ) → width ≡ 8 * k → 1 ≤ k → 256 ^ k ≡ 2 ^ (width - 1) * 2
half_of width k e l =
    let w : width - 1 + 1 ≡ width = omega arith in
    sym (powers k) ∙ ap (λ t. 2 ^ t) (sym e ∙ sym w) ∙ last (width - 1)
  where
    last : (m : ℕ) → 2 ^ (m + 1) ≡ 2 ^ m * 2
    last m = let e : m + 1 ≡ suc m = omega arith in ap (λ t. 2 ^ t) e ∙ pow-suc 2 m

pub number_within : (signed : Bool) (width k x : ℕ) → width ≡ 8 * k → 1 ≤ k → x < 256 ^ k → IsWithin signed width (number_in signed k x)
number_within true width k x e l m =
    let h = 2 ^ (width - 1) in
    let o : 1 ≤ h = pow_pos (width - 1) in
    let r = within_signed (256 ^ k) h x (signed_number k x) (half_of width k e l) m (plus k x) (λ y. minus k x y m)
    (least true width) (greatest true width) (omega (arith, ints)) refl o in
    record { low = r.0; high = r.1 }
number_within false width k x e l m =
    let q : 2 ^ width ≡ 256 ^ k = ap (λ t. 2 ^ t) e ∙ powers k in
    record { low = omega (arith, ints); high = omega (arith, ints, q, m) }

-- ---- a number that is in range

pub fit_inside : (to : Format) (mode : Mode) (n : ℤ) → IsWithin to.signed to.bits n → fit to mode n ≡ Got (record { format = to; n = n })
fit_inside to mode n h = by_tests (int_lt (greatest to.signed to.bits) n) (int_lt n (least to.signed to.bits)) refl refl
  where
    by_tests : (b c : Bool) → int_lt (greatest to.signed to.bits) n ≡ b → int_lt n (least to.signed to.bits) ≡ c
        → fit to mode n ≡ Got (record { format = to; n = n })
    by_tests true c e f = let g = h.high in absurd (omega (arith, ints, e, g))
    by_tests false true e f = let g = h.low in absurd (omega (arith, ints, f, g))
    by_tests false false e f = rw (e, f) refl

same_units : (n : ℤ) (r : ℕ) → trunc (n *ℤ pos (2 ^ r)) (2 ^ r) ≡ n
same_units n r =
    let e : 2 ^ r ≡ 1 * 2 ^ r = omega arith in
    ap (trunc (n *ℤ pos (2 ^ r))) e ∙ trunc-common n 1 (2 ^ r) (pow_pos r) ∙ div_one n

pub conversion_keeps : (f : Format) (mode : Mode) (k x : ℕ) → f.bits ≡ 8 * k → 1 ≤ k → x < 256 ^ k
    → conversion_of (FixedNum (fixed_in f k x)) f mode ≡ Got (record { format = f; n = number_in f.signed k x })
conversion_keeps f mode k x e l m =
    ap (fit f mode) (same_units (number_in f.signed k x) f.frac)
    ∙ fit_inside f mode (number_in f.signed k x) (number_within f.signed f.bits k x e l m)
