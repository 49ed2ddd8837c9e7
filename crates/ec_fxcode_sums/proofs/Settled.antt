-- A number in the work bytes is cut, and brought into the format of the result.
use Rattle.std.proofs.Common.{◌≡◌, ◌≢◌, ℕ, zero, suc, ◌+◌, ◌*◌, ◌/◌, ◌^◌, ◌<◌, ◌≤◌, max, false, if◌then◌else◌, ◌==◌, [], refl}
use Rattle.std.proofs.Common.{sym, ap, ◌∙◌, subst, arith, ℤ, pos, negsuc, neg_ℤ, unsigned_abs}
use Rattle.std.proofs.lemmas.Bool.{ne_eqb}
use Rattle.ec_fx.specs.declared.formats.Format.{Format}
use Rattle.ec_fx.specs.declared.numbers.Mode.{Mode}
use Rattle.ec_fx.specs.Formats.{IsFormat}
use Rattle.ec_fx.specs.Results.{fit}
use Rattle.ec_fx.specs.Rounding.{trunc}
use Rattle.ec_asm.specs.declared.pieces.Location.{Location}
use Rattle.ec_asm.specs.View.{View}
use Rattle.ec_asm.specs.Change.{Env, Own}
use Rattle.ec_asm.specs.Items.{HasAt}
use Rattle.ec_asm.specs.Pieces.{StandsFrom, Outside, value}
use Rattle.ec_asm.specs.PieceLaws.{HoldsNumbers}
use Rattle.ec_asm.specs.Takes.{Goes}
use Rattle.ec_fxcode.specs.Clamps.{clamp_code}
use Rattle.ec_fxcode.specs.ClampLaws.{signed_number, HoldsResult, IsClearOfEnds, AreApart, ClampsAreRight}
use Rattle.ec_fxcode_scales.specs.Scales.{cut_code}
use Rattle.ec_fxcode_scales.specs.ScaleLaws.{IsScale, Brings, CutsAreRight}
use Rattle.ec_fxcode_sums.specs.Sums.{cut_if, settle_code}
use Rattle.ec_fxcode_sums.proofs.Known.{Base}

-- a division by 1
pub trunc_one : (z : ℤ) → z ≡ trunc z (2 ^ 0)
trunc_one (pos n) = let e : n / 1 ≡ n = omega arith in sym (ap pos e)
trunc_one (negsuc n) = let e : suc n / 1 ≡ suc n = omega arith in sym (ap (λ t. neg_ℤ (pos t)) e)

stays : (e : Env) (m s pc : ℕ) (v : View) → HoldsNumbers v
    → Brings e (64 * m) pc v pc s m (λ x. signed_number m x ≡ trunc (signed_number m (value v.at s m)) (2 ^ 0))
stays e m s pc v numbers = record {
  steps = 0;
  at_most = omega arith;
  last = v;
  goes = record { by = refl };
  holds = trunc_one (signed_number m (value v.at s m));
  numbers = numbers;
  same = λ j y1 y2 y3 y4 out. refl;
  inputs = refl;
  safe = refl;
  seen = refl;
}

cut : CutsAreRight → (e : Env) (w : Location) (m d s pc end : ℕ) (v : View) → IsScale d → 1 ≤ m → m ≤ 16 → (d + 7) / 8 ≤ m
    → StandsFrom e w m s Own → IsClearOfEnds s m → HoldsNumbers v → 2 * unsigned_abs (signed_number m (value v.at s m)) < 256 ^ m
    → HasAt e (cut_if w m d) pc end
    → Brings e (64 * m) pc v end s m (λ x. signed_number m x ≡ trunc (signed_number m (value v.at s m)) (2 ^ d))
cut cuts e w m zero s pc end v scale some few room stands clear numbers small at =
    subst (λ t. Brings e (64 * m) pc v t s m (λ x. signed_number m x ≡ trunc (signed_number m (value v.at s m)) (2 ^ 0)))
    (sym at) (stays e m s pc v numbers)
cut cuts e w m (suc d) s pc end v scale some few room stands clear numbers small at =
    let cuts_some : (suc d == 0) ≡ false = ne_eqb (suc d) 0 (λ z. omega arith) in
    let there = subst (λ b. HasAt e (if b then [] else cut_code w m (suc d)) pc end) cuts_some at in
    cuts e w m (suc d) s pc end v scale some few room stands clear numbers small there

-- a run that leaves a number in the format of the result, and changes no more than it and the number in the work bytes
pub record Settles (e : Env) (most pc : ℕ) (v : View) (end m k s o : ℕ) (to : Format) (mode : Mode) (z : ℤ) : Type 0 where
  pub steps : ℕ
  pub at_most : steps ≤ most
  pub last : View
  pub goes : Goes e steps pc v end last
  pub holds : HoldsResult k (fit to mode z) (value last.at o k)
  pub numbers : HoldsNumbers last
  pub same : (l : ℕ) → l ≢ 0 → l ≢ 1 → l ≢ 30 → l ≢ 31 → Outside o k l → Outside s m l → last.at l ≡ v.at l
  pub inputs : last.inputs ≡ v.inputs
  pub safe : last.safe ≡ v.safe
  pub seen : last.seen ≡ v.seen

pub settles : Base → CutsAreRight → ClampsAreRight → (to : Format) (mode : Mode) (e : Env) (w q : Location)
    (m k d s o pc end : ℕ) (v : View)
    → IsFormat to → to.bits ≡ 8 * k → IsScale d → 1 ≤ m → m ≤ 16 → (d + 7) / 8 ≤ m → StandsFrom e w m s Own
    → StandsFrom e q k o Own → AreApart s m o k → IsClearOfEnds s m → IsClearOfEnds o k → HoldsNumbers v
    → 2 * unsigned_abs (signed_number m (value v.at s m)) < 256 ^ m → HasAt e (settle_code to mode w q m k d) pc end
    → Settles e (60 + 64 * m + 20 * max m k) pc v end m k s o to mode (trunc (signed_number m (value v.at s m)) (2 ^ d))
settles base cuts clamps to mode e w q m k d s o pc end v ht tb scale some few room sw sq apart cw cq numbers small at =
    let parts = base.parts e (cut_if w m d) (clamp_code to mode w q m k) pc end at in
    let one = cut cuts e w m d s pc parts.0 v scale some few room sw cw numbers small parts.1 in
    let two = clamps to mode e w q m k s o parts.0 end one.last ht tb some sw sq apart cw cq one.numbers parts.2 in
    let h1 = one.at_most in
    let h2 = two.at_most in
    record {
      steps = one.steps + two.steps;
      at_most = omega (arith, h1, h2);
      last = two.last;
      goes = base.joins e one.steps two.steps pc parts.0 end v one.last two.last one.goes two.goes;
      holds = subst (λ z. HoldsResult k (fit to mode z) (value two.last.at o k)) one.holds two.holds;
      numbers = two.numbers;
      same = λ l y1 y2 y3 y4 f g. two.same l y1 y2 y3 y4 f ∙ one.same l y1 y2 y3 y4 g;
      inputs = two.inputs ∙ one.inputs;
      safe = two.safe ∙ one.safe;
      seen = two.seen ∙ one.seen;
    }
