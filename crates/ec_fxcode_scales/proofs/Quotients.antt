-- Magnitudes divided by a power of two, and their signs.
use Rattle.std.proofs.Common.{◌≡◌, ℕ, zero, suc, ◌+◌, ◌-◌, ◌*◌, ◌/◌, ◌^◌, ◌<◌, ◌≤◌, inl, inr, ⊎_elim, false, refl, sym, ap, ◌∙◌, arith}
use Rattle.std.proofs.Common.{pos, negsuc, neg_ℤ, unsigned_abs}
use Rattle.std.proofs.lemmas.Bool.{cases_lt}
use Rattle.std.proofs.Math.Nat.{mul-div-mul_right, div-div-eq-div-mul, div-le_self}
use Rattle.ec_select_shifts.specs.declared.shifts.Direction.TheVariants.{Left, Right}
use Rattle.ec_fx.specs.Rounding.{trunc}
use Rattle.ec_fxcode.specs.ClampLaws.{signed_number}
use Rattle.ec_fxcode.proofs.Fits.{plus, minus}
use Rattle.ec_fxcode.proofs.Parts.{IsSign}
use Rattle.ec_fxcode_shifts.proofs.Right.{IsNegatedBy, magnitude_is}
use Rattle.ec_fxcode_scales.specs.Scales.{nearest, is_one_more, is_one_less}
use Rattle.ec_fxcode_scales.specs.ScaleLaws.{IsScale}
use Rattle.ec_fxcode_scales.proofs.Numbers.{whole_power, more_power, less_power, after_bit, doubled_plus}

-- ---- the quotient

-- twice the magnitude or itself, without the lowest bytes, and half of that or itself
abbrev pub divided : (m d M : ℕ) → ℕ
divided m d M =
    after_bit (is_one_more d) (Right false) (m - nearest d) (after_bit (is_one_less d) Left m M / 256 ^ nearest d)

pub divided_is : (m d M : ℕ) → IsScale d → 2 * M < 256 ^ m → divided m d M ≡ M / 2 ^ d
divided_is m d M (inl e) l = let p = sym (whole_power d e) in rw e (ap (λ t. M / t) p)
divided_is m d M (inr (inl e)) l =
    let p : 256 ^ nearest d * 2 ≡ 2 ^ d = (let q = more_power d e in omega (arith, q)) in
    rw e (div-div-eq-div-mul M (256 ^ nearest d) 2 ∙ ap (λ t. M / t) p)
divided_is m d M (inr (inr e)) l =
    let p : 256 ^ nearest d ≡ 2 ^ d * 2 = (let q = less_power d e in omega (arith, q)) in
    let two : 2 * M ≡ M * 2 = omega arith in
    rw e
    (ap (λ t. t / 256 ^ nearest d) (doubled_plus m M (2 * M) refl l ∙ two) ∙ ap (λ t. M * 2 / t) p
    ∙ mul-div-mul_right {m = 2} M (2 ^ d) (omega arith))

-- ---- the sign

-- Y is S negated, in m bytes
negative_is : (m S Y c : ℕ) → c ≤ 1 → Y < 256 ^ m → 2 * S < 256 ^ m → Y + S ≡ c * 256 ^ m
    → signed_number m Y ≡ neg_ℤ (pos S)
negative_is m zero Y zero b l h e = let z : Y ≡ 0 = omega (arith, e) in ap (signed_number m) z ∙ plus m 0 (omega (arith, h))
negative_is m (suc s) Y zero b l h e = absurd (omega (arith, e))
negative_is m zero Y (suc zero) b l h e = absurd (omega (arith, e, l))
negative_is m (suc s) Y (suc zero) b l h e =
    let same : 256 ^ m - Y - 1 ≡ s = omega (arith, e, l) in
    minus m Y (omega (arith, e, h)) l ∙ ap negsuc same
negative_is m S Y (suc (suc c)) b l h e = absurd (omega (arith, b))

-- V is the number, M its magnitude, Y the magnitude's quotient with the sign of V
pub cut_value : (m d V M Y byte : ℕ) → IsScale d → V < 256 ^ m → Y < 256 ^ m
    → 2 * unsigned_abs (signed_number m V) < 256 ^ m → IsSign V (256 ^ m) byte → IsNegatedBy byte (256 ^ m) V M
    → IsNegatedBy byte (256 ^ m) (divided m d M) Y → signed_number m Y ≡ trunc (signed_number m V) (2 ^ d)
cut_value m d V M Y byte is lv ly room sign in_ out =
    let N = 256 ^ m in
    let P = 2 ^ d in
    ⊎_elim
    (λ (less : 2 * V < N).
    let z = sign.plus less in
    let q = in_.plus_is z in
    let r : Y ≡ V / P = out.plus_is z ∙ ap (divided m d) q ∙ divided_is m d V is less in
    let b = div-le_self V P in
    ap (signed_number m) r ∙ plus m (V / P) (omega (arith, b, less)) ∙ ap (λ x. trunc x P) (sym (plus m V less)))
    (λ (more : N ≤ 2 * V).
    let z = sign.minus more in
    let i = in_.minus_is z in
    let o = out.minus_is z in
    let mag : M ≡ N - V = magnitude_is M V N i.0 i.1 i.2 lv more in
    let is_minus = minus m V more lv in
    let small : 2 * suc (N - V - 1) < N = (let t : 2 * unsigned_abs (negsuc (N - V - 1)) < N = rw is_minus at room in t) in
    let fit : 2 * M < N = omega (arith, mag, small, lv) in
    let q = divided_is m d M is fit in
    let b = div-le_self M P in
    let up : suc (N - V - 1) ≡ M = omega (arith, mag, lv) in
    let there : Y + M / P ≡ o.0 * N = ap (λ t. Y + t) (sym q) ∙ o.2 in
    let t : trunc (negsuc (N - V - 1)) P ≡ neg_ℤ (pos (M / P)) = ap (λ (x : ℕ). neg_ℤ (pos (x / P))) up in
    negative_is m (M / P) Y o.0 o.1 ly (omega (arith, b, fit)) there ∙ sym t ∙ ap (λ x. trunc x P) (sym is_minus))
    (cases_lt (2 * V) N)
