-- Both operands scaled to the greater count of fraction bits, in the work bytes.
use Rattle.std.proofs.Common.{◌≡◌, ◌≢◌, ℕ, suc, ◌+◌, ◌*◌, ◌^◌, ◌<◌, ◌≤◌, ⊎_elim, ap, ◌∙◌, arith, ℤ, pos, ◌*ℤ◌}
use Rattle.std.proofs.lemmas.Bool.{cases_lt}
use Rattle.ec_fx.specs.declared.formats.Format.{Format}
use Rattle.ec_asm.specs.declared.pieces.Location.{Location}
use Rattle.ec_asm.specs.View.{View}
use Rattle.ec_asm.specs.Change.{Env}
use Rattle.ec_asm.specs.Items.{HasAt}
use Rattle.ec_asm.specs.Pieces.{Outside, value}
use Rattle.ec_asm.specs.PieceLaws.{HoldsNumbers}
use Rattle.ec_asm.specs.Takes.{Goes}
use Rattle.ec_fxcode.specs.ClampLaws.{signed_number, IsClearOfEnds, AreApart}
use Rattle.ec_fxcode.proofs.Moves.{part_stands}
use Rattle.ec_fxcode_shifts.specs.ShiftLaws.{number_in}
use Rattle.ec_fxcode_scales.specs.Scales.{scale_code}
use Rattle.ec_fxcode_scales.specs.ScaleLaws.{ScalesAreRight}
use Rattle.ec_fxcode_quotients.proofs.Rows.{further_stands}
use Rattle.ec_fxcode_sums.specs.Sums.{raised, second_at, align_code}
use Rattle.ec_fxcode_sums.specs.OrderLaws.{AreOrderSlots}
use Rattle.ec_fxcode_sums.proofs.Known.{Base}
use Rattle.ec_fxcode_sums.proofs.Sizes.{IsPair}

-- ---- places

-- the work bytes stand above the registers
pub above_all : (s : ℕ) → IsClearOfEnds s 40 → 32 ≤ s
above_all s c =
    ⊎_elim (λ (x : s < 30). let y = c.below x in absurd (omega arith)) (λ (x : 30 ≤ s). c.above x) (cases_lt s 30)

pub clear_above : (a n : ℕ) → 32 ≤ a → IsClearOfEnds a n
clear_above a n l = record { below = λ x. absurd (omega arith); above = λ x. l }

-- a number apart from all work bytes is apart from m of them
pub apart_part : (i a s m : ℕ) → m ≤ 40 → AreApart i a s 40 → AreApart i a s m
apart_part i a s m l h = record { first = h.first; second = λ x. let y = h.second x in omega arith }

pub part_apart : (i a s k m : ℕ) → 1 ≤ m → k + m ≤ 40 → AreApart i a s 40 → AreApart i a (s + k) m
part_apart i a s k m some l h = record {
  first = λ x. ⊎_elim (λ (y : i < s). let z = h.first y in omega arith)
      (λ (y : s ≤ i). let z = h.second y in absurd (omega arith)) (cases_lt i s);
  second = λ x. ⊎_elim (λ (y : i < s). absurd (omega arith)) (λ (y : s ≤ i). let z = h.second y in omega arith) (cases_lt i s);
}

-- m of the work bytes are apart from a number that is apart from all
pub apart_back : (s m o k : ℕ) → m ≤ 40 → 1 ≤ m → AreApart o k s 40 → AreApart s m o k
apart_back s m o k few some h = record {
  first = λ x. ⊎_elim (λ (y : o < s). absurd (omega arith)) (λ (y : s ≤ o). let z = h.second y in omega arith) (cases_lt o s);
  second = λ x. ⊎_elim (λ (y : o < s). h.first y) (λ (y : s ≤ o). let z = h.second y in absurd (omega arith)) (cases_lt o s);
}

-- a byte of a number that is apart from the work bytes and from R30 and R31
record IsKeptPlace (s m x : ℕ) : Type 0 where
  first : x ≢ 30
  second : x ≢ 31
  outside : Outside s m x

kept_place : (j b s m l : ℕ) → m ≤ 40 → l < b → IsClearOfEnds j b → AreApart j b s 40 → IsKeptPlace s m (j + l)
kept_place j b s m l few inside clear apart =
    ⊎_elim
    (λ (x : j < 30).
    let y = clear.below x in
    record { first = λ e. omega arith; second = λ e. omega arith; outside = out })
    (λ (x : 30 ≤ j).
    let y = clear.above x in
    record { first = λ e. omega arith; second = λ e. omega arith; outside = out })
    (cases_lt j 30)
  where
    out : Outside s m (j + l)
    out h = ⊎_elim (λ (x : j < s). let y = apart.first x in absurd (omega arith))
        (λ (x : s ≤ j). let y = apart.second x in omega arith) (cases_lt j s)

-- ---- the run

pub record Aligns (e : Env) (most pc : ℕ) (v : View) (end m s : ℕ) (first second : ℤ) : Type 0 where
  pub steps : ℕ
  pub at_most : steps ≤ most
  pub last : View
  pub goes : Goes e steps pc v end last
  pub first_is : signed_number m (value last.at s m) ≡ first
  pub second_is : signed_number m (value last.at (s + 16) m) ≡ second
  pub numbers : HoldsNumbers last
  pub same : (l : ℕ) → l ≢ 0 → l ≢ 1 → l ≢ 30 → l ≢ 31 → Outside s 40 l → last.at l ≡ v.at l
  pub inputs : last.inputs ≡ v.inputs
  pub safe : last.safe ≡ v.safe
  pub seen : last.seen ≡ v.seen

pub aligns : Base → ScalesAreRight → (f g : Format) (e : Env) (p c w : Location) (a b t m i j s pc end : ℕ) (v : View) → IsPair f g a b t
    → suc t ≤ m → m ≤ 16 → AreOrderSlots e p c w a b i j s → HoldsNumbers v → HasAt e (align_code f g p c w a b m) pc end
    → Aligns e (128 * m) pc v end m s (number_in f.signed a (value v.at i a) *ℤ pos (2 ^ raised f g))
    (number_in g.signed b (value v.at j b) *ℤ pos (2 ^ raised g f))
aligns base scales f g e p c w a b t m i j s pc end v pair room few slots numbers at =
    let d = raised f g in
    let d' = raised g f in
    let w' = second_at w in
    let high = above_all s slots.clear.2 in
    let low1 = slots.first.clear in
    let low2 = slots.second.clear in
    let r1 = pair.first_room in
    let r2 = pair.second_room in
    let parts = base.parts e (scale_code f.signed p w a m d) (scale_code g.signed c w' b m d') pc end at in
    let sw = part_stands e w 40 m s (omega arith) slots.work in
    let sw' = further_stands e w 40 16 m s (omega arith) slots.work in
    let one = scales f.signed e p w a m d i s pc parts.0 v pair.first_scale pair.first.0
    (omega (arith, r1, room)) few slots.first sw (apart_part i a s m (omega arith) slots.apart.0) slots.clear.0
    (clear_above s m high) numbers parts.1 in
    let v1 = one.last in
    let two = scales g.signed e c w' b m d' j (s + 16) parts.0 end v1 pair.second_scale pair.second.0
    (omega (arith, r2, room)) few slots.second sw'
    (part_apart j b s 16 m (omega arith) (omega arith) slots.apart.1) slots.clear.1
    (clear_above (s + 16) m (omega arith)) one.numbers parts.2 in
    let v2 = two.last in
    let place = λ (l : ℕ) (x : l < b). kept_place j b s m l (omega arith) x slots.clear.1 slots.apart.1 in
    let operand : value v1.at j b ≡ value v.at j b = base.same v1.at v.at j b
    (λ l x. one.same (j + l) (λ e. omega arith) (λ e. omega arith) (place l x).first (place l x).second (place l x).outside) in
    let kept : value v2.at s m ≡ value v1.at s m = base.same v2.at v1.at s m
    (λ l x. two.same (s + l) (λ e. omega arith) (λ e. omega arith) (λ e. omega arith) (λ e. omega arith) (λ h. absurd (omega arith))) in
    let h1 = one.at_most in
    let h2 = two.at_most in
    record {
      steps = one.steps + two.steps;
      at_most = omega (arith, h1, h2);
      last = v2;
      goes = base.joins e one.steps two.steps pc parts.0 end v v1 v2 one.goes two.goes;
      first_is = ap (signed_number m) kept ∙ one.holds;
      second_is = two.holds ∙ ap (λ y. number_in g.signed b y *ℤ pos (2 ^ d')) operand;
      numbers = two.numbers;
      same = λ l y1 y2 y3 y4 out.
          two.same l y1 y2 y3 y4 (λ h. let d = out (omega arith) in omega arith)
          ∙ one.same l y1 y2 y3 y4 (λ h. let d = out h in omega arith);
      inputs = two.inputs ∙ one.inputs;
      safe = two.safe ∙ one.safe;
      seen = two.seen ∙ one.seen;
    }
