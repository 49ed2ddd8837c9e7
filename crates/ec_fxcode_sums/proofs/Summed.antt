-- The whole code of a sum or a difference.
use Rattle.std.proofs.Common.{◌≡◌, ℕ, suc, ◌+◌, ◌*◌, ◌^◌, ◌<◌, ◌≤◌, max, Bool, true, false, ◌++◌, refl, sym, ap, ◌∙◌, subst}
use Rattle.std.proofs.Common.{arith, pos, ◌*ℤ◌, unsigned_abs}
use Rattle.ec_fx.specs.declared.formats.Format.{Format}
use Rattle.ec_fx.specs.declared.numbers.Mode.{Mode}
use Rattle.ec_fx.specs.Formats.{IsFormat}
use Rattle.ec_fx.specs.Results.{fit}
use Rattle.ec_fx.specs.Rounding.{trunc}
use Rattle.ec_asm.specs.declared.pieces.Location.{Location}
use Rattle.ec_asm.specs.View.{View}
use Rattle.ec_asm.specs.Change.{Env, Own}
use Rattle.ec_asm.specs.Items.{HasAt, block, code_steps}
use Rattle.ec_asm.specs.Pieces.{StandsFrom, Keeps, operate_code, value}
use Rattle.ec_asm.specs.PieceLaws.{HoldsNumbers}
use Rattle.ec_fxcode.specs.ClampLaws.{signed_number, HoldsResult}
use Rattle.ec_fxcode.proofs.Moves.{part_stands}
use Rattle.ec_fxcode_shifts.specs.ShiftLaws.{number_in}
use Rattle.ec_fxcode_scales.specs.ScaleLaws.{IsScale, Computes}
use Rattle.ec_fxcode_quotients.specs.QuotientLaws.{operand_in, AreSlots}
use Rattle.ec_fxcode_quotients.proofs.Rows.{further_stands}
use Rattle.ec_fxcode_sums.specs.Sums.{raised, raised_bytes, second_at, align_code, surplus, settle_code, operator_of, combine_code}
use Rattle.ec_fxcode_sums.specs.SumLaws.{sum_by, most_sum_words, SumsAreRight}
use Rattle.ec_fxcode_sums.specs.OrderLaws.{AreOrderSlots}
use Rattle.ec_fxcode_sums.proofs.Aligning.{above_all, clear_above, apart_back, aligns}
use Rattle.ec_fxcode_sums.proofs.Exact.{scaled_small, added, added_small, holds_sum}
use Rattle.ec_fxcode_sums.proofs.Known.{Base, SumParts}
use Rattle.ec_fxcode_sums.proofs.Settled.{settles}
use Rattle.ec_fxcode_sums.proofs.Sizes.{IsPair, paired, result_fraction, surplus_scale}
use Rattle.ec_fxcode_sums.proofs.TwosComplement.{read_sum, read_difference}

-- ---- the sum of the scaled operands

record Adds (minus : Bool) (v u : View) (m s : ℕ) : Type 0 where
  is : signed_number m (value u.at s m)
      ≡ added minus (signed_number m (value v.at s m)) (signed_number m (value v.at (s + 16) m))
  numbers : HoldsNumbers u
  keeps : Keeps v u s m

adds : Base → SumParts → (minus : Bool) (e : Env) (w : Location) (m s : ℕ) (v : View) → StandsFrom e (second_at w) m (s + 16) Own
    → StandsFrom e w m s Own → HoldsNumbers v
    → 2 * unsigned_abs (added minus (signed_number m (value v.at s m)) (signed_number m (value v.at (s + 16) m))) < 256 ^ m
    → Adds minus v (block e (operate_code (operator_of minus) (second_at w) w m) v) m s
adds base known true e w m s v sx sy numbers small =
    let low = sy.clear in
    let r = known.differences e (second_at w) w m (s + 16) s v sx sy (λ l. absurd (omega arith)) numbers in
    let below = λ (a : ℕ) (l : 2 ≤ a). base.below v.at a m (λ j k. numbers (a + j) (omega arith)) in
    record {
      is = ap (signed_number m) r.1 ∙ read_difference (256 ^ m) (value v.at (s + 16) m) (value v.at s m)
          (below (s + 16) (omega arith)) (below s low) small;
      numbers = r.0.bytes;
      keeps = r.0.keeps;
    }
adds base known false e w m s v sx sy numbers small =
    let low = sy.clear in
    let r = known.sums e (second_at w) w m (s + 16) s v sx sy (λ l. absurd (omega arith)) numbers in
    let below = λ (a : ℕ) (l : 2 ≤ a). base.below v.at a m (λ j k. numbers (a + j) (omega arith)) in
    record {
      is = ap (signed_number m) r.1 ∙ read_sum (256 ^ m) (value v.at (s + 16) m) (value v.at s m) (below (s + 16) (omega arith))
          (below s low) small;
      numbers = r.0.bytes;
      keeps = r.0.keeps;
    }

-- ---- steps

steps_bound : (a b k t w x y z : ℕ) → a ≤ w → b ≤ w → k ≤ w → t ≤ a + b → x ≤ 128 * (t + 2) → y ≤ (t + 2) * 4
    → z ≤ 60 + 64 * (t + 2) + 20 * max (t + 2) k → x + y + z ≤ 64 * most_sum_words w
steps_bound a b k t w x y z ha hb hk ht hx hy hz = omega (arith, ha, hb, hk, ht, hx, hy, hz)

-- ---- the run

summed : Base → SumParts → (minus : Bool) (f g to : Format) (mode : Mode) (e : Env) (p c q w : Location) (a b k t d W i j o s pc end : ℕ)
    (v : View) → IsPair f g a b t → IsFormat to → to.bits ≡ 8 * k → d ≡ surplus f g to → IsScale d → to.frac ≤ max f.frac g.frac
    → a ≤ W → b ≤ W → k ≤ W → AreSlots e p c q w a b k i j o s → HoldsNumbers v
    → HasAt e (align_code f g p c w a b (suc (suc t)) ++ combine_code minus to mode w q (suc (suc t)) k d) pc end
    → Computes e (64 * most_sum_words W) pc v end o k s
    (HoldsResult k (sum_by minus (operand_in f a (value v.at i a)) (operand_in g b (value v.at j b)) to mode))
summed base known minus f g to mode e p c q w a b k t d W i j o s pc end v pair ht tb de scale inside wa wb wk slots numbers at =
    let m = suc (suc t) in
    let few = pair.few in
    let twice = pair.twice in
    let fraction = pair.fraction in
    let high = above_all s slots.clear.3 in
    let low1 = slots.number.clear in
    let low2 = slots.divisor.clear in
    let ordered : AreOrderSlots e p c w a b i j s = record {
      first = slots.number;
      second = slots.divisor;
      work = slots.work;
      clear = (slots.clear.0, slots.clear.1, slots.clear.3);
      apart = (slots.apart.2, slots.others.1);
    } in
    let code = operate_code (operator_of minus) (second_at w) w m in
    let parts = base.parts e (align_code f g p c w a b m) (combine_code minus to mode w q m k d) pc end at in
    let rest = base.parts e code (settle_code to mode w q m k d) parts.0 end parts.2 in
    let one = aligns base known.scales f g e p c w a b t m i j s pc parts.0 v pair (omega arith)
    (omega (arith, few)) ordered numbers parts.1 in
    let v1 = one.last in
    let X = number_in f.signed a (value v.at i a) *ℤ pos (2 ^ raised f g) in
    let Y = number_in g.signed b (value v.at j b) *ℤ pos (2 ^ raised g f) in
    let below1 = base.below v.at i a (λ l x. numbers (i + l) (omega arith)) in
    let below2 = base.below v.at j b (λ l x. numbers (j + l) (omega arith)) in
    let small : 2 * unsigned_abs (added minus X Y) < 256 ^ m = added_small minus X Y t
    (scaled_small f.signed a (value v.at i a) (raised f g) t below1 pair.first_room)
    (scaled_small g.signed b (value v.at j b) (raised g f) t below2 pair.second_room) in
    let both : added minus (signed_number m (value v1.at s m)) (signed_number m (value v1.at (s + 16) m)) ≡ added minus X Y =
    rw (one.first_is, one.second_is) refl in
    let sw = part_stands e w 40 m s (omega (arith, few)) slots.work in
    let two = adds base known minus e w m s v1 (further_stands e w 40 16 m s (omega (arith, few)) slots.work) sw one.numbers
    (subst (λ z. 2 * unsigned_abs z < 256 ^ m) (sym both) small) in
    let u = block e code v1 in
    let go2 = base.goes e code parts.0 rest.0 v1 (known.straight (operator_of minus) (second_at w) w m).1 rest.1 in
    let total : signed_number m (value u.at s m) ≡ added minus X Y = two.is ∙ both in
    let three = settles base known.cuts known.clamps to mode e w q m k d s o rest.0 end u ht tb scale (omega arith)
    (omega (arith, few)) (omega (arith, fraction, de)) sw slots.result
    (apart_back s m o k (omega (arith, few)) (omega arith) slots.others.2) (clear_above s m high) slots.clear.2 two.numbers
    (subst (λ z. 2 * unsigned_abs z < 256 ^ m) (sym total) small) rest.2 in
    let n = code_steps code in
    let h1 = one.at_most in
    let h2 = (known.steps (operator_of minus) (second_at w) w m).1.1 in
    let h3 = three.at_most in
    let goes2 = base.joins e one.steps n pc parts.0 rest.0 v v1 u one.goes go2 in
    record {
      steps = one.steps + n + three.steps;
      at_most = steps_bound a b k t W one.steps n three.steps wa wb wk twice (omega (arith, h1)) (omega (arith, h2)) (omega (arith, h3));
      last = three.last;
      goes = base.joins e (one.steps + n) three.steps pc rest.0 end v u three.last goes2 three.goes;
      holds = holds_sum minus f g to mode a b (value v.at i a) (value v.at j b) k (value three.last.at o k) inside
          (subst (λ y. HoldsResult k (fit to mode (trunc (added minus X Y) (2 ^ y))) (value three.last.at o k)) de
          (subst (λ z. HoldsResult k (fit to mode (trunc z (2 ^ d))) (value three.last.at o k)) total three.holds));
      numbers = three.numbers;
      same = λ l y1 y2 y3 y4 out work.
          three.same l y1 y2 y3 y4 out (λ h. let d = work h in omega (arith, d, few))
          ∙ two.keeps.same l y1 y2 (λ h. let d = work h in omega (arith, d, few)) ∙ one.same l y1 y2 y3 y4 work;
      inputs = three.inputs ∙ two.keeps.inputs ∙ one.inputs;
      safe = three.safe ∙ two.keeps.safe ∙ one.safe;
      seen = three.seen ∙ two.keeps.seen ∙ one.seen;
    }

pub sums_are_right : Base → SumParts → SumsAreRight
sums_are_right base known minus f g to mode e p c q w a b k i j o s pc end v hf fb hg gb ht tb arithmetic slots numbers at =
    summed base known minus f g to mode e p c q w a b k (max (raised_bytes a (raised f g)) (raised_bytes b (raised g f))) (surplus f g to)
    (max a (max b k)) i j o s pc end v (paired f g a b hf fb hg gb) ht tb refl (surplus_scale f g to hf hg ht)
    (result_fraction f g to arithmetic) (omega arith) (omega arith) (omega arith) slots numbers at
