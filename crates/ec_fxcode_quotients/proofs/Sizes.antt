-- How many bits and bytes a division has.
use Rattle.std.proofs.Common.{◌≡◌, ℕ, ◌+◌, ◌-◌, ◌*◌, ◌≤◌, ◌⊎◌, inl, inr, ⊎_elim, Bool, true, false, if◌then◌else◌, refl, arith}
use Rattle.ec_fx.specs.declared.formats.Format.{Format}
use Rattle.ec_fx.specs.Formats.{IsFormat, step_of}
use Rattle.ec_fxcode_quotients.specs.Quotients.{bits_of}
use Rattle.ec_fxcode_quotients.specs.QuotientLaws.{IsOperandFormat}

pub record IsSized (bits frac : ℕ) : Type 0 where
  pub some : 8 ≤ bits
  pub most : bits ≤ 64
  pub inside : frac ≤ bits
  pub few : frac ≤ 32
  pub above : bits ≤ frac + 33

sized_by : (bits frac step one : ℕ) → one ≤ 1 → step ≡ frac + one → (step ≡ 8) ⊎ ((step ≡ 16) ⊎ (step ≡ 32))
    → (bits ≡ step) ⊎ (bits ≡ 2 * step) → IsSized bits frac
sized_by bits frac step one l e s w =
    let range : (8 ≤ step) × (step ≤ 32) = ⊎_elim (λ (x : step ≡ 8). (omega arith, omega arith))
    (λ r. ⊎_elim (λ (x : step ≡ 16). (omega arith, omega arith)) (λ (x : step ≡ 32). (omega arith, omega arith)) r) s in
    let low = range.0 in
    let high = range.1 in
    ⊎_elim
    (λ (x : bits ≡ step). record { some = omega arith; most = omega arith; inside = omega arith; few = omega arith; above = omega arith })
    (λ (x : bits ≡ 2 * step). record {
      some = omega arith;
      most = omega arith;
      inside = omega arith;
      few = omega arith;
      above = omega arith;
    })
    w

sign_bit : (b : Bool) → (if b then 1 else 0) ≤ 1
sign_bit true = omega arith
sign_bit false = omega arith

pub format_sized : (f : Format) → IsFormat f → IsSized f.bits f.frac
format_sized f h = sized_by f.bits f.frac (step_of f) (if f.signed then 1 else 0) (sign_bit f.signed) refl h.step h.width

pub operand_sized : (f : Format) → IsOperandFormat f → IsSized f.bits f.frac
operand_sized f (inl h) = format_sized f h
operand_sized f (inr h) =
    let z = h.whole in
    ⊎_elim
    (λ (x : f.bits ≡ 8). record { some = omega arith; most = omega arith; inside = omega arith; few = omega arith; above = omega arith })
    (λ r. ⊎_elim (λ (x : f.bits ≡ 16). record {
      some = omega arith;
      most = omega arith;
      inside = omega arith;
      few = omega arith;
      above = omega arith;
    }) (λ (x : f.bits ≡ 32). record {
      some = omega arith;
      most = omega arith;
      inside = omega arith;
      few = omega arith;
      above = omega arith;
    }) r) h.width

-- 1 to 8 bytes
pub bytes_of : (bits frac k : ℕ) → IsSized bits frac → bits ≡ 8 * k → (1 ≤ k) × (k ≤ 8)
bytes_of bits frac k h e =
    let a = h.some in
    let b = h.most in
    (omega (arith, a, e), omega (arith, b, e))

pub few_bits : (f g to : Format) (a : ℕ) → IsOperandFormat f → f.bits ≡ 8 * a → IsOperandFormat g → IsFormat to
    → bits_of f g to a ≤ 97
few_bits f g to a hf e hg ht =
    let x = operand_sized f hf in
    let y = operand_sized g hg in
    let z = format_sized to ht in
    let above = x.above in
    let inside = x.inside in
    let few1 = y.few in
    let few2 = z.few in
    omega (arith, e, above, inside, few1, few2)

pub bits_below : (f g to : Format) → IsOperandFormat f → IsOperandFormat g → IsFormat to
    → f.bits + (g.frac + to.frac) - f.frac ≤ 97
bits_below f g to hf hg ht =
    let x = operand_sized f hf in
    let y = operand_sized g hg in
    let z = format_sized to ht in
    let above = x.above in
    let few1 = y.few in
    let few2 = z.few in
    omega (arith, above, few1, few2)
