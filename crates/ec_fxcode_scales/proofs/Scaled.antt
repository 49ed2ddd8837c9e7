-- The code that multiplies by a power of two.
use Rattle.std.proofs.Common.{◌≡◌, ℕ, zero, suc, ◌+◌, ◌*◌, ◌/◌, ◌^◌, ◌<◌, ◌≤◌, Bool, true, ◌++◌, sym, ap, ◌∙◌, subst, arith, pos, ◌*ℤ◌}
use Rattle.ec_asm.specs.declared.pieces.Location.{Location}
use Rattle.ec_asm.specs.View.{View}
use Rattle.ec_asm.specs.Change.{Env, Own}
use Rattle.ec_asm.specs.Items.{HasAt, block, code_steps}
use Rattle.ec_asm.specs.Pieces.{StandsFrom, value}
use Rattle.ec_asm.specs.PieceLaws.{HoldsNumbers}
use Rattle.ec_asm.specs.Takes.{Goes}
use Rattle.ec_asm.proofs.Hoare.{block-append, block_goes}
use Rattle.ec_asm.proofs.Numbers.{value_below}
use Rattle.ec_select_shifts.specs.declared.shifts.Direction.TheVariants.{Left, Right}
use Rattle.ec_fxcode.specs.ClampLaws.{signed_number, IsClearOfEnds, AreApart}
use Rattle.ec_fxcode_shifts.specs.Shifts.{mark_code}
use Rattle.ec_fxcode_shifts.specs.ShiftLaws.{number_in}
use Rattle.ec_fxcode_shifts.proofs.Entered.{mark_of}
use Rattle.ec_fxcode_shifts.proofs.Right.{sign_given, no_sign}
use Rattle.ec_fxcode_scales.specs.Scales.{nearest, bit_code, is_one_more, is_one_less, placed_code, scale_code}
use Rattle.ec_fxcode_scales.specs.ScaleLaws.{IsScale, Brings, ScalesAreRight}
use Rattle.ec_fxcode_scales.proofs.Form.{scale_short}
use Rattle.ec_fxcode_scales.proofs.Moves.{Bits, bits}
use Rattle.ec_fxcode_scales.proofs.Numbers.{after_bit, scaled, scaled_value}
use Rattle.ec_fxcode_scales.proofs.Placed.{Places, places}

module _ (e : Env) (signed : Bool) (p w : Location) (l m d a s pc end : ℕ) (v : View) (is_scale : IsScale d)
    (room : suc l + (d + 7) / 8 + 1 ≤ m) (sp : StandsFrom e p (suc l) a Own) (sw : StandsFrom e w m s Own)
    (apart : AreApart a (suc l) s m) (ca : IsClearOfEnds a (suc l)) (cs : IsClearOfEnds s m) (numbers : HoldsNumbers v) where
  abbrev n : ℕ
  n = suc l

  abbrev placed : View
  placed = block e (mark_code signed p n ++ placed_code p w n m (nearest d)) v

  abbrev doubled : View
  doubled = block e (bit_code (is_one_more d) Left w m) placed

  abbrev last : View
  last = block e (bit_code (is_one_less d) (Right true) w m) doubled

  is : block e (scale_code signed p w n m d) v ≡ last
  is =
      let mark = mark_code signed p n in
      let place = placed_code p w n m (nearest d) in
      let up = bit_code (is_one_more d) Left w m in
      let down = bit_code (is_one_less d) (Right true) w m in
      block-append e mark (place ++ (up ++ down)) v ∙ block-append e place (up ++ down) (block e mark v)
      ∙ ap (block e (up ++ down)) (sym (block-append e mark place v)) ∙ block-append e up down placed

  first : Places v placed a s n m (nearest d) (mark_of signed (v.at (a + l)))
  first = places e signed p w l m (nearest d) a s v sp sw apart ca cs numbers (omega arith)

  second : Bits placed doubled s m (after_bit (is_one_more d) Left m (value placed.at s m))
  second = bits (is_one_more d) Left e w m s placed (λ t. omega arith) sw first.numbers

  third : Bits doubled last s m (after_bit (is_one_less d) (Right true) m (value doubled.at s m))
  third = bits (is_one_less d) (Right true) e w m s doubled (λ t. omega arith) sw second.changes.numbers

  number_is : value last.at s m ≡ scaled m d (value placed.at s m)
  number_is = third.number_is ∙ ap (after_bit (is_one_less d) (Right true) m) second.number_is

  right : signed_number m (value last.at s m) ≡ number_in signed n (value v.at a n) *ℤ pos (2 ^ d)
  right =
      let two = sp.clear in
      let held = λ (j : ℕ) (x : j < n). (let o : v.at (a + j) < 256 = numbers (a + j) (omega arith) in o) in
      let below = value_below v.at a n held in
      ap (signed_number m) number_is
      ∙ scaled_value signed n m d (value v.at a n) (mark_of signed (v.at (a + l))) (value placed.at s m) is_scale (omega arith) below
      (sign_given signed v.at a l held) (no_sign signed (v.at (a + l))) (first.number_is (omega arith))

  brings : HasAt e (scale_code signed p w n m d) pc end
      → Brings e (64 * m) pc v end s m (λ x. signed_number m x ≡ number_in signed n (value v.at a n) *ℤ pos (2 ^ d))
  brings at =
      let code = scale_code signed p w n m d in
      let short = scale_short signed p w n m d (omega arith) in
      let steps = short.steps_are in
      record {
        steps = code_steps code;
        at_most = omega (arith, steps);
        last = last;
        goes = subst (λ t. Goes e (code_steps code) pc v end t) is (block_goes e code pc end v short.straight at);
        holds = right;
        numbers = third.changes.numbers;
        same = λ j x y z t o. third.changes.keeps.same j x y o ∙ second.changes.keeps.same j x y o ∙ first.same j x y t o;
        inputs = third.changes.keeps.inputs ∙ second.changes.keeps.inputs ∙ first.inputs;
        safe = third.changes.keeps.safe ∙ second.changes.keeps.safe ∙ first.safe;
        seen = third.changes.keeps.seen ∙ second.changes.keeps.seen ∙ first.seen;
      }

pub scales_are_right : ScalesAreRight
scales_are_right signed e p w zero m d a s pc end v is some room most sp sw apart ca cs numbers at = absurd (omega arith)
scales_are_right signed e p w (suc l) m d a s pc end v is some room most sp sw apart ca cs numbers at =
    brings e signed p w l m d a s pc end v is room sp sw apart ca cs numbers at
