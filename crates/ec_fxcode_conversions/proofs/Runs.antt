-- Runs one after another, which leave what they know in the work bytes and at last the result.
use Rattle.std.proofs.Common.{◌≡◌, ℕ, ◌+◌, ◌<◌, ◌≤◌, ⊎_elim, ◌∙◌, arith}
use Rattle.std.proofs.lemmas.Bool.{cases_lt}
use Rattle.ec_fx.specs.declared.numbers.Fx.{Fx}
use Rattle.ec_asm.specs.View.{View}
use Rattle.ec_asm.specs.Change.{Env}
use Rattle.ec_asm.specs.Pieces.{Outside, value}
use Rattle.ec_asm.proofs.Hoare.{goes_on_to}
use Rattle.ec_select_products.specs.Laws.{Leads}
use Rattle.ec_fxcode.specs.ClampLaws.{HoldsResult, Clamps, IsClearOfEnds, AreApart}
use Rattle.ec_fxcode_scales.specs.ScaleLaws.{Brings, Computes}

-- n bytes from b are work bytes from s on
pub record IsInside (b n s : ℕ) : Type 0 where
  pub low : s ≤ b
  pub high : b + n ≤ s + 40

outside : (b n s j : ℕ) → IsInside b n s → Outside s 40 j → Outside b n j
outside b n s j h o l =
    let low = h.low in
    let high = h.high in
    let far = o (omega (arith, low, l)) in
    omega (arith, high, far)

-- ---- from the runs of the parts

pub from_brings : (e : Env) (most pc end b n s : ℕ) (v : View) (F : ℕ → Type 0) → Brings e most pc v end b n F
    → Computes e most pc v end b n s F
from_brings e most pc end b n s v F x = record {
  steps = x.steps;
  at_most = x.at_most;
  last = x.last;
  goes = x.goes;
  holds = x.holds;
  numbers = x.numbers;
  same = λ j y0 y1 y2 y3 o r. x.same j y0 y1 y2 y3 o;
  inputs = x.inputs;
  safe = x.safe;
  seen = x.seen;
}

pub from_clamps : (e : Env) (most pc end o k s : ℕ) (v : View) (answer : Fx) → Clamps e most pc v end o k answer
    → Computes e most pc v end o k s (HoldsResult k answer)
from_clamps e most pc end o k s v answer x = record {
  steps = x.steps;
  at_most = x.at_most;
  last = x.last;
  goes = x.goes;
  holds = x.holds;
  numbers = x.numbers;
  same = λ j y0 y1 y2 y3 r t. x.same j y0 y1 y2 y3 r;
  inputs = x.inputs;
  safe = x.safe;
  seen = x.seen;
}

pub from_leads : (e : Env) (most pc end b n s number : ℕ) (v : View) → Leads e most pc v end b n number
    → Computes e most pc v end b n s (λ x. x ≡ number)
from_leads e most pc end b n s number v x = record {
  steps = x.steps;
  at_most = x.at_most;
  last = x.last;
  goes = x.goes;
  holds = x.number_is;
  numbers = x.numbers;
  same = λ j y0 y1 y2 y3 r t. x.same j y0 y1 (λ l. omega arith) r;
  inputs = x.inputs;
  safe = x.safe;
  seen = x.seen;
}

-- ---- together

pub computed : (e : Env) (k l most pc mid end b n o q s : ℕ) (v : View) (F G : ℕ → Type 0) → IsInside b n s → k + l ≤ most
    → (x : Computes e k pc v mid b n s F) → Computes e l mid x.last end o q s G → Computes e most pc v end o q s G
computed e k l most pc mid end b n o q s v F G inside le x y =
    let h = x.at_most in
    let g = y.at_most in
    record {
      steps = x.steps + y.steps;
      at_most = omega (arith, h, g, le);
      last = y.last;
      goes = goes_on_to e x.steps y.steps pc mid end v x.last y.last x.goes y.goes;
      holds = y.holds;
      numbers = y.numbers;
      same = λ j y0 y1 y2 y3 r t. y.same j y0 y1 y2 y3 r t ∙ x.same j y0 y1 y2 y3 (outside b n s j inside t) t;
      inputs = y.inputs ∙ x.inputs;
      safe = y.safe ∙ x.safe;
      seen = y.seen ∙ x.seen;
    }

-- what holds of the result tells another fact
pub told : (e : Env) (most pc end o q s : ℕ) (v : View) (F G : ℕ → Type 0) → ((x : ℕ) → F x → G x)
    → Computes e most pc v end o q s F → Computes e most pc v end o q s G
told e most pc end o q s v F G f x = record {
  steps = x.steps;
  at_most = x.at_most;
  last = x.last;
  goes = x.goes;
  holds = f (value x.last.at o q) x.holds;
  numbers = x.numbers;
  same = x.same;
  inputs = x.inputs;
  safe = x.safe;
  seen = x.seen;
}

-- ---- places

-- the work bytes stand above the registers
pub above_all : (s : ℕ) → IsClearOfEnds s 40 → 32 ≤ s
above_all s c =
    ⊎_elim (λ (x : s < 30). let y = c.below x in absurd (omega (arith, y))) (λ (x : 30 ≤ s). c.above x) (cases_lt s 30)

pub clear_above : (b n : ℕ) → 32 ≤ b → IsClearOfEnds b n
clear_above b n l = record { below = λ x. absurd (omega arith); above = λ x. l }

-- a part of the work bytes stands apart from what stands apart from them
pub part_apart : (o k s b m : ℕ) → 1 ≤ m → IsInside b m s → AreApart o k s 40 → AreApart b m o k
part_apart o k s b m some inside h =
    let low = inside.low in
    let high = inside.high in
    record {
      first = λ x. ⊎_elim (λ (y : o < s). let z = h.first y in absurd (omega (arith, z, low, x)))
          (λ (y : s ≤ o). let z = h.second y in omega (arith, z, high)) (cases_lt o s);
      second = λ x. ⊎_elim (λ (y : o < s). let z = h.first y in omega (arith, z, low))
          (λ (y : s ≤ o). let z = h.second y in absurd (omega (arith, z, high, x, some))) (cases_lt o s);
    }

pub apart_part : (o k s b m : ℕ) → 1 ≤ m → IsInside b m s → AreApart o k s 40 → AreApart o k b m
apart_part o k s b m some inside h =
    let r = part_apart o k s b m some inside h in
    record {
      first = λ x. r.second (omega (arith, x));
      second = λ x. ⊎_elim (λ (y : b < o). r.first y)
          (λ (y : o ≤ b). let low = inside.low in let high = inside.high in
          ⊎_elim (λ (z : o < s). let t = h.first z in absurd (omega (arith, t, low, x, y)))
          (λ (z : s ≤ o). let t = h.second z in absurd (omega (arith, t, high, y, some))) (cases_lt o s)) (cases_lt b o);
    }
