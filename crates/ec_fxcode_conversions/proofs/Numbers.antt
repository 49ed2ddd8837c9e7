-- The number in units of the result, and the room that it has.
use Rattle.std.proofs.Common.{◌≡◌, ℕ, suc, ◌+◌, ◌-◌, ◌*◌, ◌/◌, ◌%◌, ◌^◌, ◌<◌, ◌≤◌, min, ◌⊎◌, inl, inr, ⊎_elim, Bool, true, false}
use Rattle.std.proofs.Common.{if◌then◌else◌, refl, sym, ap, ◌∙◌, subst, arith, pow-add, ℤ, pos, negsuc, neg_ℤ, ◌*ℤ◌, unsigned_abs}
use Rattle.std.proofs.lemmas.Bool.{cases_lt}
use Rattle.std.proofs.lemmas.Int.{unsigned_abs-mul}
use Rattle.std.proofs.lemmas.Nat.{mul-le, pow_pos}
use Rattle.std.proofs.Math.Nat.{pow-le-pow_right}
use native.Mathlib.Nat.{pow-suc}
use Rattle.ec_fx.specs.declared.formats.Format.{Format}
use Rattle.ec_fx.specs.Formats.{IsFormat, step_of}
use Rattle.ec_fx.specs.Rounding.{trunc}
use Rattle.ec_fx.proofs.Scaling.{trunc-common, scale_pow}
use Rattle.ec_fxcode.proofs.Clamped.{bits_power}
use Rattle.ec_fxcode.proofs.Fits.{plus, minus}
use Rattle.ec_fxcode_shifts.specs.ShiftLaws.{number_in}
use Rattle.ec_fxcode_quotients.specs.QuotientLaws.{IsOperandFormat}
use Rattle.ec_fxcode_scales.specs.ScaleLaws.{IsScale}
use Rattle.ec_fxcode_conversions.specs.Conversions.{scaled_bytes}

-- ---- the fraction bits of formats

-- whole bytes, or one bit less
abbrev pub IsStep : ℕ → Type 0
IsStep frac = (frac % 8 ≡ 0) ⊎ (frac % 8 ≡ 7)

step_by : (frac one step : ℕ) → one ≤ 1 → step ≡ frac + one → (step ≡ 8) ⊎ ((step ≡ 16) ⊎ (step ≡ 32)) → IsStep frac
step_by frac one step l e s =
    let whole : step % 8 ≡ 0 = ⊎_elim (λ (x : step ≡ 8). omega arith)
    (λ r. ⊎_elim (λ (x : step ≡ 16). omega arith) (λ (x : step ≡ 32). omega arith) r) s in
    ⊎_elim (λ (x : one < 1). inl (omega arith)) (λ (x : 1 ≤ one). inr (omega arith)) (cases_lt one 1)

sign_bit : (b : Bool) → (if b then 1 else 0) ≤ 1
sign_bit true = omega arith
sign_bit false = omega arith

pub format_step : (f : Format) → IsFormat f → IsStep f.frac
format_step f h = step_by f.frac (if f.signed then 1 else 0) (step_of f) (sign_bit f.signed) refl h.step

pub operand_step : (f : Format) → IsOperandFormat f → IsStep f.frac
operand_step f (inl h) = format_step f h
operand_step f (inr h) = let z = h.whole in inl (rw z refl)

-- two formats differ by a scale
pub scale_between : (x y : ℕ) → IsStep x → IsStep y → IsScale (x - y)
scale_between x y (inl a) (inl b) = inl (omega arith)
scale_between x y (inr a) (inr b) = inl (omega arith)
scale_between x y (inl a) (inr b) =
    ⊎_elim (λ (l : x < y). inl (omega arith)) (λ (l : y ≤ x). inr (inl (omega arith))) (cases_lt x y)
scale_between x y (inr a) (inl b) =
    ⊎_elim (λ (l : x < y). inl (omega arith)) (λ (l : y ≤ x). inr (inr (omega arith))) (cases_lt x y)

pub step_scale : (x : ℕ) → IsStep x → IsScale x
step_scale x (inl a) = inl a
step_scale x (inr a) = inr (inr a)

-- ---- in units of the result

-- the powers that numerator and denominator have in common do not matter
pub units_reduced : (x : ℤ) (f r : ℕ) → trunc (x *ℤ pos (2 ^ (r - f))) (2 ^ (f - r)) ≡ trunc (x *ℤ pos (2 ^ r)) (2 ^ f)
units_reduced x f r =
    let c = min f r in
    let num : x *ℤ pos (2 ^ (r - f)) *ℤ pos (2 ^ c) ≡ x *ℤ pos (2 ^ r) = scale_pow x (r - f) c r (omega arith) in
    let den : 2 ^ (f - r) * 2 ^ c ≡ 2 ^ f = sym (pow-add 2 (f - r) c) ∙ ap (λ (t : ℕ). 2 ^ t) (omega arith) in
    sym (trunc-common (x *ℤ pos (2 ^ (r - f))) (2 ^ (f - r)) (2 ^ c) (pow_pos c))
    ∙ ap (λ (z : ℤ). trunc z (2 ^ (f - r) * 2 ^ c)) num
    ∙ ap (trunc (x *ℤ pos (2 ^ r))) den

pub times_one : (x : ℤ) → x *ℤ pos (2 ^ 0) ≡ x
times_one (pos n) = let e : n * 1 ≡ n = omega arith in ap pos e
times_one (negsuc n) = let e : suc n * 1 ≡ suc n = omega arith in ap (λ (t : ℕ). neg_ℤ (pos t)) e

pub by_one : (x : ℤ) → trunc x (2 ^ 0) ≡ x
by_one (pos n) = let e : n / 1 ≡ n = omega arith in ap pos e
by_one (negsuc n) = let e : suc n / 1 ≡ suc n = omega arith in ap (λ (t : ℕ). neg_ℤ (pos t)) e

-- ---- room

pub number_below : (signed : Bool) (n x : ℕ) → x < 256 ^ n → unsigned_abs (number_in signed n x) < 256 ^ n
number_below false n x l = l
number_below true n x l =
    ⊎_elim (λ (less : 2 * x < 256 ^ n). rw (plus n x less) l)
    (λ (more : 256 ^ n ≤ 2 * x). rw (minus n x more l) (omega arith))
    (cases_lt (2 * x) (256 ^ n))

-- so many bytes have room for a power of two
room_for : (u : ℕ) → 2 ^ u ≤ 256 ^ ((u + 7) / 8)
room_for u =
    let c = (u + 7) / 8 in
    subst (λ (t : ℕ). 2 ^ u ≤ t) (bits_power c) (pow-le-pow_right {n = 2} (omega arith) {i = u} {j = 8 * c} (omega arith))

-- a number that is scaled up has a bit to spare
pub scaled_room : (signed : Bool) (n x u : ℕ) → x < 256 ^ n
    → 2 * unsigned_abs (number_in signed n x *ℤ pos (2 ^ u)) < 256 ^ scaled_bytes n u
scaled_room signed n x u l =
    let c = (u + 7) / 8 in
    let A = unsigned_abs (number_in signed n x) in
    let below = number_below signed n x l in
    let room = room_for u in
    let whole : 256 ^ scaled_bytes n u ≡ 256 ^ n * 256 ^ c * 256 =
    (let e : n + c + 1 ≡ suc (n + c) = omega arith in
    ap (λ (t : ℕ). 256 ^ t) e ∙ pow-suc 256 (n + c) ∙ ap (λ (t : ℕ). t * 256) (pow-add 256 n c)) in
    let some = pow_pos u in
    let product : A * 2 ^ u ≤ 256 ^ n * 256 ^ c = mul-le A (2 ^ u) (256 ^ n) (256 ^ c) (omega arith) room in
    let one : 1 * 1 ≤ 256 ^ n * 256 ^ c = mul-le 1 1 (256 ^ n) (256 ^ c) (omega arith) (omega (arith, room, some)) in
    let abs : unsigned_abs (number_in signed n x *ℤ pos (2 ^ u)) ≡ A * 2 ^ u = unsigned_abs-mul (number_in signed n x) (pos (2 ^ u)) in
    rw (abs, whole) (omega (arith, product, one))
