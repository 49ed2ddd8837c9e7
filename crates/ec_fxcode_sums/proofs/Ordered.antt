-- The whole code of a comparison.
use Rattle.std.proofs.Common.{◌≡◌, ◌≢◌, ℕ, suc, ◌+◌, ◌*◌, ◌^◌, ◌<◌, ◌≤◌, max, ⊎_elim, Bool, true, false, ◌++◌, refl, ap, ◌∙◌}
use Rattle.std.proofs.Common.{arith, pos, ◌*ℤ◌}
use Rattle.std.specs.Int.{from_bool}
use Rattle.std.specs.Ordering.{int_cmp}
use Rattle.std.proofs.lemmas.Bool.{cases_eq}
use Rattle.ec_fx.specs.declared.formats.Format.{Format}
use Rattle.ec_asm.specs.declared.pieces.Location.{Location}
use Rattle.ec_asm.specs.View.{View}
use Rattle.ec_asm.specs.Change.{Env}
use Rattle.ec_asm.specs.Items.{HasAt}
use Rattle.ec_asm.specs.Pieces.{value}
use Rattle.ec_asm.specs.PieceLaws.{HoldsNumbers}
use Rattle.ec_select_order.specs.declared.relations.Relation.{Relation}
use Rattle.ec_select_order.specs.Relations.{stand_so, relation_code}
use Rattle.ec_select_order.specs.Laws.{Tells, RelationsAreTold}
use Rattle.ec_fxcode.proofs.Moves.{part_stands}
use Rattle.ec_fxcode_shifts.specs.ShiftLaws.{number_in}
use Rattle.ec_fxcode_scales.specs.ScaleLaws.{ScalesAreRight}
use Rattle.ec_fxcode_quotients.proofs.Rows.{further_stands}
use Rattle.ec_fxcode_sums.specs.Sums.{raised, raised_bytes, second_at, align_code}
use Rattle.ec_fxcode_sums.specs.SumLaws.{most_sum_words}
use Rattle.ec_fxcode_sums.specs.Orders.{stands_in}
use Rattle.ec_fxcode_sums.specs.OrderLaws.{AreOrderSlots, Orders, OrdersAreRight}
use Rattle.ec_fxcode_sums.proofs.Aligning.{above_all, aligns}
use Rattle.ec_fxcode_sums.proofs.Compared.{order_rises, stands}
use Rattle.ec_fxcode_sums.proofs.Known.{Base}
use Rattle.ec_fxcode_sums.proofs.Sizes.{IsPair, paired}

bit_small : (b : Bool) → from_bool b < 256
bit_small true = omega arith
bit_small false = omega arith

-- a truth value in R30 is a byte
still_numbers : (e : Env) (most pc : ℕ) (v : View) (end : ℕ) (truth : Bool) → (t : Tells e most pc v end truth) → HoldsNumbers v
    → HoldsNumbers t.last
still_numbers e most pc v end truth t h k l =
    ⊎_elim (λ (x : k ≡ 30). rw (x, t.told) (bit_small truth))
    (λ (x : k ≢ 30). rw (t.same k (λ y. omega arith) (λ y. omega arith) x) (h k l)) (cases_eq k 30)

steps_bound : (a b t w x y : ℕ) → a ≤ w → b ≤ w → t ≤ a + b → x ≤ 128 * suc t → y ≤ 3 + 3 * suc t
    → x + y ≤ 64 * most_sum_words w
steps_bound a b t w x y ha hb ht hx hy = omega (arith, ha, hb, ht, hx, hy)

ordered : Base → ScalesAreRight → RelationsAreTold → (r : Relation) (f g : Format) (e : Env) (p c w : Location) (a b t W i j s pc end : ℕ)
    (v : View) → IsPair f g a b t → a ≤ W → b ≤ W → AreOrderSlots e p c w a b i j s → HoldsNumbers v
    → HasAt e (align_code f g p c w a b (suc t) ++ relation_code r true w (second_at w) (suc t)) pc end
    → Orders e (64 * most_sum_words W) pc v end s
    (stands_in r (int_cmp (number_in f.signed a (value v.at i a) *ℤ pos (2 ^ raised f g))
    (number_in g.signed b (value v.at j b) *ℤ pos (2 ^ raised g f))))
ordered base scales relations r f g e p c w a b t W i j s pc end v pair wa wb slots numbers at =
    let m = suc t in
    let few = pair.few in
    let twice = pair.twice in
    let high = above_all s slots.clear.2 in
    let parts = base.parts e (align_code f g p c w a b m) (relation_code r true w (second_at w) m) pc end at in
    let one = aligns base scales f g e p c w a b t m i j s pc parts.0 v pair (omega arith) (omega (arith, few)) slots numbers parts.1 in
    let v1 = one.last in
    let held = one.numbers in
    let below1 = base.below v1.at s m (λ l x. held (s + l) (omega arith)) in
    let below2 = base.below v1.at (s + 16) m (λ l x. held (s + 16 + l) (omega arith)) in
    let two = relations r true e w (second_at w) t s (s + 16) parts.0 end v1
    (part_stands e w 40 m s (omega (arith, few)) slots.work)
    (further_stands e w 40 16 m s (omega (arith, few)) slots.work) held parts.2 in
    let told : stand_so r true m (value v1.at s m) (value v1.at (s + 16) m) ≡ stands_in r
    (int_cmp (number_in f.signed a (value v.at i a) *ℤ pos (2 ^ raised f g))
    (number_in g.signed b (value v.at j b) *ℤ pos (2 ^ raised g f))) =
    stands r t (value v1.at s m) (value v1.at (s + 16) m) below1 below2 ∙ rw (one.first_is, one.second_is) refl in
    let h1 = one.at_most in
    let h2 = two.at_most in
    record {
      steps = one.steps + two.steps;
      at_most = steps_bound a b t W one.steps two.steps wa wb twice h1 h2;
      last = two.last;
      goes = base.joins e one.steps two.steps pc parts.0 end v v1 two.last one.goes two.goes;
      told = two.told ∙ ap from_bool told;
      numbers = still_numbers e (3 + 3 * m) parts.0 v1 end _ two held;
      same = λ l y1 y2 y3 y4 out. two.same l y1 y2 y3 ∙ one.same l y1 y2 y3 y4 out;
      inputs = two.inputs ∙ one.inputs;
      safe = two.safe ∙ one.safe;
      seen = two.seen ∙ one.seen;
    }

pub orders_are_right : Base → ScalesAreRight → RelationsAreTold → OrdersAreRight
orders_are_right base scales relations r f g e p c w a b i j s pc end v hf fb hg gb slots numbers at =
    rw (← order_rises f g a b (value v.at i a) (value v.at j b))
    (ordered base scales relations r f g e p c w a b (max (raised_bytes a (raised f g)) (raised_bytes b (raised g f)))
    (max a b) i j s pc end v
    (paired f g a b hf fb hg gb) (omega arith) (omega arith) slots numbers at)
