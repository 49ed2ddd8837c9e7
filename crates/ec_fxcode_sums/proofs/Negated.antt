-- The whole code of a negation.
use Rattle.std.proofs.Common.{◌≡◌, zero, suc, ◌+◌, ◌*◌, ◌^◌, ◌<◌, ◌++◌, inl, refl, sym, ap, ◌∙◌, subst, arith, ℤ, pos, negsuc}
use Rattle.std.proofs.Common.{neg_ℤ, ◌*ℤ◌, unsigned_abs}
use native.Mathlib.Nat.{pow-suc}
use Rattle.ec_fx.specs.Results.{fit}
use Rattle.ec_asm.specs.Items.{block, code_steps}
use Rattle.ec_asm.specs.Pieces.{value}
use Rattle.ec_select_bytes.specs.Complements.{negation_code}
use Rattle.ec_fxcode.specs.Clamps.{clamp_code}
use Rattle.ec_fxcode.specs.ClampLaws.{signed_number, HoldsResult}
use Rattle.ec_fxcode.proofs.Moves.{part_stands}
use Rattle.ec_fxcode_shifts.specs.ShiftLaws.{number_in}
use Rattle.ec_fxcode_shifts.proofs.Entered.{numbers_after}
use Rattle.ec_fxcode_scales.specs.Scales.{scale_code}
use Rattle.ec_fxcode_quotients.proofs.Sizes.{format_sized, bytes_of}
use Rattle.ec_fxcode_sums.specs.SumLaws.{NegationsAreRight}
use Rattle.ec_fxcode_sums.proofs.Aligning.{above_all, clear_above, apart_part, apart_back}
use Rattle.ec_fxcode_sums.proofs.Exact.{number_small}
use Rattle.ec_fxcode_sums.proofs.Known.{Base, NegationParts}
use Rattle.ec_fxcode_sums.proofs.Settled.{trunc_one}
use Rattle.ec_fxcode_sums.proofs.TwosComplement.{read_negation}

times_one : (z : ℤ) → z *ℤ pos (2 ^ 0) ≡ z
times_one (pos n) = let e : n * 1 ≡ n = omega arith in ap pos e
times_one (negsuc n) = let e : suc n * 1 ≡ suc n = omega arith in ap (λ t. neg_ℤ (pos t)) e

negated_size : (z : ℤ) → unsigned_abs (neg_ℤ z) ≡ unsigned_abs z
negated_size (pos zero) = refl
negated_size (pos (suc n)) = refl
negated_size (negsuc n) = refl

pub negations_are_right : Base → NegationParts → NegationsAreRight
negations_are_right base known f mode e p q w k i o s pc end v hf fb slots numbers at =
    let m = suc k in
    let size = bytes_of f.bits f.frac k (format_sized f hf) fb in
    let some = size.0 in
    let few = size.1 in
    let high = above_all s slots.clear.2 in
    let low = slots.number.clear in
    let code = negation_code w m in
    let split = base.parts e (scale_code f.signed p w k m 0) (code ++ clamp_code f mode w q m k) pc end at in
    let rest = base.parts e code (clamp_code f mode w q m k) split.0 end split.2 in
    let sw = part_stands e w 40 m s (omega (arith, few)) slots.work in
    let clear = clear_above s m high in
    let one = known.scales f.signed e p w k m 0 i s pc split.0 v (inl refl) some (omega arith)
    (omega (arith, few)) slots.number sw (apart_part i k s m (omega (arith, few)) slots.apart.0) slots.clear.0 clear numbers split.1 in
    let v1 = one.last in
    let held = one.numbers in
    let x = number_in f.signed k (value v.at i k) in
    let first : signed_number m (value v1.at s m) ≡ x = one.holds ∙ times_one x in
    let two = known.negations e w m s v1 sw held in
    let u = block e code v1 in
    let numbers2 = numbers_after v1 u s m held (λ l y1 y2 y3 y4 r. two.keeps.same l y1 y2 r)
    (rw (two.keeps.same 30 (λ y. omega arith) (λ y. omega arith) (λ y. absurd (omega arith))) (held 30 (omega arith)))
    (rw (two.keeps.same 31 (λ y. omega arith) (λ y. omega arith) (λ y. absurd (omega arith))) (held 31 (omega arith))) two.numbers in
    let below1 = base.below v1.at s m (λ l y. held (s + l) (omega arith)) in
    let below = base.below v.at i k (λ l y. numbers (i + l) (omega arith)) in
    let small : 2 * unsigned_abs (neg_ℤ x) < 256 ^ m =
    (let h = number_small f.signed k (value v.at i k) below in
    let n = negated_size x in
    let g = pow-suc 256 k in
    omega (arith, h, n, g)) in
    let total : signed_number m (value u.at s m) ≡ neg_ℤ x = ap (signed_number m) two.number_is ∙ read_negation (256 ^ m)
    (value v1.at s m) below1 (subst (λ z. 2 * unsigned_abs (neg_ℤ z) < 256 ^ m) (sym first) small) ∙ ap neg_ℤ first in
    let go2 = base.goes e code split.0 rest.0 v1 (known.straight w m).1 rest.1 in
    let three = known.clamps f mode e w q m k s o rest.0 end u hf fb (omega arith) sw slots.result
    (apart_back s m o k (omega (arith, few)) (omega arith) slots.apart.1) clear slots.clear.1 numbers2 rest.2 in
    let n = code_steps code in
    let h1 = one.at_most in
    let h2 = (known.steps w m).1 in
    let h3 = three.at_most in
    let goes2 = base.joins e one.steps n pc split.0 rest.0 v v1 u one.goes go2 in
    record {
      steps = one.steps + n + three.steps;
      at_most = omega (arith, h1, h2, h3);
      last = three.last;
      goes = base.joins e (one.steps + n) three.steps pc rest.0 end v u three.last goes2 three.goes;
      holds = subst (λ z. HoldsResult k (fit f mode z) (value three.last.at o k)) (total ∙ trunc_one (neg_ℤ x)) three.holds;
      numbers = three.numbers;
      same = λ l y1 y2 y3 y4 out work.
          three.same l y1 y2 y3 y4 out
          ∙ two.keeps.same l y1 y2 (λ h. let d = work h in omega (arith, d, few)) ∙ one.same l y1 y2 y3 y4
          (λ h. let d = work h in omega (arith, d, few));
      inputs = three.inputs ∙ two.keeps.inputs ∙ one.inputs;
      safe = three.safe ∙ two.keeps.safe ∙ one.safe;
      seen = three.seen ∙ two.keeps.seen ∙ one.seen;
    }
