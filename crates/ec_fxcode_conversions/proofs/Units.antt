-- The number in units of the result, in the work bytes.
use Rattle.std.proofs.Common.{◌≡◌, ℕ, zero, suc, ◌+◌, ◌*◌, ◌/◌, ◌^◌, ◌<◌, ◌≤◌, Bool, sym, ◌∙◌, ap, refl, arith, ℤ, pos, ◌*ℤ◌, unsigned_abs}
use Rattle.ec_fx.specs.Rounding.{trunc}
use Rattle.ec_asm.specs.declared.pieces.Location.{Location}
use Rattle.ec_asm.specs.View.{View}
use Rattle.ec_asm.specs.Change.{Env, Own}
use Rattle.ec_asm.specs.Run.{Running}
use Rattle.ec_asm.specs.Items.{HasAt}
use Rattle.ec_asm.specs.Pieces.{StandsFrom, value}
use Rattle.ec_asm.specs.PieceLaws.{HoldsNumbers}
use Rattle.ec_asm.proofs.Hoare.{has_parts, goes_on_to}
use Rattle.ec_asm.proofs.Numbers.{value_below}
use Rattle.ec_fxcode.specs.ClampLaws.{signed_number, IsClearOfEnds, AreApart}
use Rattle.ec_fxcode_shifts.specs.ShiftLaws.{number_in}
use Rattle.ec_fxcode_scales.specs.Scales.{scale_code}
use Rattle.ec_fxcode_scales.specs.ScaleLaws.{IsScale, Brings, ScalesAreRight, CutsAreRight}
use Rattle.ec_fxcode_conversions.specs.Conversions.{scaled_bytes, cut_some, units_code}
use Rattle.ec_fxcode_conversions.proofs.Numbers.{by_one, scaled_room}

-- a number of a bytes at i, to be scaled up and then cut in work bytes at s
pub record AreUnits (e : Env) (p w : Location) (a up down i s : ℕ) (v : View) : Type 0 where
  pub up_is : IsScale up
  pub down_is : IsScale down
  pub some : 1 ≤ a
  pub most : scaled_bytes a up ≤ 16
  pub few : (down + 7) / 8 ≤ scaled_bytes a up
  pub number : StandsFrom e p a i Own
  pub work : StandsFrom e w (scaled_bytes a up) s Own
  pub apart : AreApart i a s (scaled_bytes a up)
  pub clear_number : IsClearOfEnds i a
  pub clear_work : IsClearOfEnds s (scaled_bytes a up)
  pub numbers : HoldsNumbers v

-- one run after another
pub brought : (e : Env) (k l pc mid end b n : ℕ) (v : View) (F G : ℕ → Type 0) → (x : Brings e k pc v mid b n F)
    → Brings e l mid x.last end b n G → Brings e (k + l) pc v end b n G
brought e k l pc mid end b n v F G x y =
    let h = x.at_most in
    let g = y.at_most in
    record {
      steps = x.steps + y.steps;
      at_most = omega (arith, h, g);
      last = y.last;
      goes = goes_on_to e x.steps y.steps pc mid end v x.last y.last x.goes y.goes;
      holds = y.holds;
      numbers = y.numbers;
      same = λ j y0 y1 y2 y3 o. y.same j y0 y1 y2 y3 o ∙ x.same j y0 y1 y2 y3 o;
      inputs = y.inputs ∙ x.inputs;
      safe = y.safe ∙ x.safe;
      seen = y.seen ∙ x.seen;
    }

-- a weaker fact, more steps, and the same end
pub weakened : (e : Env) (k l pc mid end b n : ℕ) (v : View) (F G : ℕ → Type 0) → k ≤ l → end ≡ mid
    → ((x : ℕ) → F x → G x) → Brings e k pc v mid b n F → Brings e l pc v end b n G
weakened e k l pc mid end b n v F G le is f x =
    let h = x.at_most in
    let t = x.goes in
    record {
      steps = x.steps;
      at_most = omega (arith, h, le);
      last = x.last;
      goes = rw is t;
      holds = f (value x.last.at b n) x.holds;
      numbers = x.numbers;
      same = x.same;
      inputs = x.inputs;
      safe = x.safe;
      seen = x.seen;
    }

module _ (scales : ScalesAreRight) (cuts : CutsAreRight) where
  -- after the scaling
  cut_after : (e : Env) (w : Location) (m down s pc end : ℕ) (v : View) (z : ℤ) → IsScale down → 1 ≤ m → m ≤ 16
      → (down + 7) / 8 ≤ m → StandsFrom e w m s Own → IsClearOfEnds s m → HoldsNumbers v
      → signed_number m (value v.at s m) ≡ z → 2 * unsigned_abs z < 256 ^ m → HasAt e (cut_some w m down) pc end
      → Brings e (64 * m) pc v end s m (λ x. signed_number m x ≡ trunc z (2 ^ down))
  cut_after e w m zero s pc end v z is some most few stands clear numbers number room at = record {
    steps = 0;
    at_most = omega arith;
    last = v;
    goes = record { by = ap (λ t. Running t v) (sym at) };
    holds = number ∙ sym (by_one z);
    numbers = numbers;
    same = λ j y0 y1 y2 y3 o. refl;
    inputs = refl;
    safe = refl;
    seen = refl;
  }
  cut_after e w m (suc d) s pc end v z is some most few stands clear numbers number room at =
      let r : 2 * unsigned_abs (signed_number m (value v.at s m)) < 256 ^ m = rw number room in
      weakened e (64 * m) (64 * m) pc end end s m v
      (λ x. signed_number m x ≡ trunc (signed_number m (value v.at s m)) (2 ^ suc d)) (λ x. signed_number m x ≡ trunc z (2 ^ suc d))
      (omega arith) refl (λ x h. h ∙ ap (λ t. trunc t (2 ^ suc d)) number)
      (cuts e w m (suc d) s pc end v is some most few stands clear numbers r at)

  pub units_run : (signed : Bool) (e : Env) (p w : Location) (a up down i s pc end : ℕ) (v : View)
      → AreUnits e p w a up down i s v → HasAt e (units_code signed p w a up down) pc end
      → Brings e (128 * scaled_bytes a up) pc v end s (scaled_bytes a up)
      (λ x. signed_number (scaled_bytes a up) x ≡ trunc (number_in signed a (value v.at i a) *ℤ pos (2 ^ up)) (2 ^ down))
  units_run signed e p w a up down i s pc end v h at =
      let m = scaled_bytes a up in
      let z = number_in signed a (value v.at i a) *ℤ pos (2 ^ up) in
      let parts = has_parts e (scale_code signed p w a m up) (cut_some w m down) pc end at in
      let two = h.number.clear in
      let held = λ (j : ℕ) (l : j < a). (let x : v.at (i + j) < 256 = h.numbers (i + j) (omega arith) in x) in
      let room = scaled_room signed a (value v.at i a) up (value_below v.at i a held) in
      let first = scales signed e p w a m up i s pc parts.0 v h.up_is h.some (omega arith) h.most h.number h.work h.apart h.clear_number
      h.clear_work h.numbers parts.1 in
      let second = cut_after e w m down s parts.0 end first.last z h.down_is (omega arith) h.most h.few h.work h.clear_work first.numbers
      first.holds room parts.2 in
      weakened e (64 * m + 64 * m) (128 * m) pc end end s m v (λ x. signed_number m x ≡ trunc z (2 ^ down))
      (λ x. signed_number m x ≡ trunc z (2 ^ down))
      (omega arith) refl (λ x g. g)
      (brought e (64 * m) (64 * m) pc parts.0 end s m v (λ x. signed_number m x ≡ z) (λ x. signed_number m x ≡ trunc z (2 ^ down)) first
      second)
