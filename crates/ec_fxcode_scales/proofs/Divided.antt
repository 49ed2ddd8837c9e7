-- The code that divides by a power of two.
use Rattle.std.proofs.Common.{◌≡◌, ℕ, zero, suc, ◌+◌, ◌-◌, ◌*◌, ◌/◌, ◌%◌, ◌^◌, ◌<◌, ◌≤◌, true, false, ◌++◌, sym, ap, ◌∙◌, subst, arith}
use Rattle.std.specs.Prelude.{unsigned_abs}
use Rattle.std.proofs.lemmas.Bool.{eqb-true}
use Rattle.ec_asm.specs.declared.pieces.Location.{Location}
use Rattle.ec_asm.specs.View.{View}
use Rattle.ec_asm.specs.Change.{Env, Own}
use Rattle.ec_asm.specs.Items.{HasAt, block, code_steps}
use Rattle.ec_asm.specs.Pieces.{StandsFrom, Keeps, value}
use Rattle.ec_asm.specs.PieceLaws.{HoldsNumbers}
use Rattle.ec_asm.specs.Takes.{Goes}
use Rattle.ec_asm.proofs.Hoare.{block-append, block_goes}
use Rattle.ec_asm.proofs.Numbers.{value_below}
use Rattle.ec_asm.proofs.Sum.{value-same}
use Rattle.ec_select_shifts.specs.declared.shifts.Direction.TheVariants.{Left, Right}
use Rattle.ec_fx.specs.Rounding.{trunc}
use Rattle.ec_fxcode.specs.Clamps.{sign_code}
use Rattle.ec_fxcode.specs.ClampLaws.{signed_number, IsClearOfEnds}
use Rattle.ec_fxcode.proofs.Alike.{fill}
use Rattle.ec_fxcode.proofs.Clamped.{fill_is_byte}
use Rattle.ec_fxcode.proofs.Moves.{Signs, signs, clear_byte}
use Rattle.ec_fxcode.proofs.Parts.{sign_is}
use Rattle.ec_fxcode_shifts.specs.Shifts.{turned_code}
use Rattle.ec_fxcode_shifts.proofs.Negated.{TurnsTo, turns}
use Rattle.ec_fxcode_shifts.proofs.Right.{IsNegatedBy}
use Rattle.ec_fxcode_scales.specs.Scales.{nearest, bit_code, is_one_more, is_one_less, lowered_code, cut_code}
use Rattle.ec_fxcode_scales.specs.ScaleLaws.{IsScale, Brings, CutsAreRight}
use Rattle.ec_fxcode_scales.proofs.Form.{cut_short}
use Rattle.ec_fxcode_scales.proofs.Moves.{changes_by, keeps_then, Bits, bits}
use Rattle.ec_fxcode_scales.proofs.Numbers.{after_bit}
use Rattle.ec_fxcode_scales.proofs.Placed.{signs_numbers, clear_of_31}
use Rattle.ec_fxcode_scales.proofs.Quotients.{divided, cut_value}
use Rattle.ec_fxcode_scales.proofs.Lowered.{Lowers, lowers}

-- a number of which only the magnitude's sign was put back: what turned_code leaves
negated_by : (u w : View) (s byte m V : ℕ) → TurnsTo u s s byte m w → value u.at s m ≡ V
    → IsNegatedBy byte (256 ^ m) V (value w.at s m)
negated_by u w s byte m V t e = record {
  plus_is = λ z. (t.plus z).0 ∙ e;
  minus_is = λ z. (_, t.bit, ap (λ x. value w.at s m + x) (sym e) ∙ t.minus z);
}

some_left : (d m : ℕ) → (d + 7) / 8 ≤ m → is_one_more d ≡ true → 1 ≤ m - nearest d
some_left d m l e = let q = eqb-true (d % 8) 1 e in omega (arith, q, l)

module _ (e : Env) (w : Location) (l d s pc end : ℕ) (v : View) (is_scale : IsScale d) (fit : (d + 7) / 8 ≤ suc l)
    (st : StandsFrom e w (suc l) s Own) (clear : IsClearOfEnds s (suc l)) (numbers : HoldsNumbers v) where
  abbrev m : ℕ
  m = suc l

  abbrev byte : ℕ
  byte = fill (v.at (s + l))

  abbrev marked : View
  marked = block e (sign_code w m) v

  abbrev turned : View
  turned = block e (turned_code w w m) marked

  abbrev doubled : View
  doubled = block e (bit_code (is_one_less d) Left w m) turned

  abbrev lowered : View
  lowered = block e (lowered_code (is_one_more d) w m (nearest d)) doubled

  abbrev last : View
  last = block e (turned_code w w m) lowered

  is : block e (cut_code w m d) v ≡ last
  is =
      let turn = turned_code w w m in
      let up = bit_code (is_one_less d) Left w m in
      let low = lowered_code (is_one_more d) w m (nearest d) in
      block-append e (sign_code w m) (turn ++ (up ++ (low ++ turn))) v ∙ block-append e turn (up ++ (low ++ turn)) marked
      ∙ block-append e up (low ++ turn) turned ∙ block-append e low turn doubled

  small : byte < 256
  small = let two = st.clear in fill_is_byte (v.at (s + l)) (numbers (s + l) (omega arith))

  one : Signs v marked byte
  one = let two = st.clear in signs e w l (s + l) v (st.at l (omega arith)) (st.kind l (omega arith)) (numbers (s + l) (omega arith))

  marked_numbers : HoldsNumbers marked
  marked_numbers = signs_numbers v marked byte one small numbers

  two : TurnsTo marked s s byte m turned
  two = turns e w w m s s byte marked st st (λ x. absurd (omega arith)) clear marked_numbers one.sign

  turned_numbers : HoldsNumbers turned
  turned_numbers = (changes_by marked turned s m marked_numbers two.keeps two.held st.clear).numbers

  three : Bits turned doubled s m (after_bit (is_one_less d) Left m (value turned.at s m))
  three = bits (is_one_less d) Left e w m s turned (λ t. omega arith) st turned_numbers

  four : Lowers doubled lowered s m (after_bit (is_one_more d) (Right false) (m - nearest d) (value doubled.at s m / 256 ^ nearest d))
  four = lowers (is_one_more d) e w m (nearest d) s doubled st three.changes.numbers (omega arith) (some_left d m fit)

  kept : Keeps marked lowered s m
  kept = keeps_then marked turned lowered s m two.keeps (keeps_then turned doubled lowered s m three.changes.keeps four.changes.keeps)

  five : TurnsTo lowered s s byte m last
  five =
      let sign : lowered.at 31 ≡ byte = kept.same 31 (omega arith) (omega arith) (clear_of_31 s m s m clear (omega arith) (omega arith))
      ∙ one.sign in
      turns e w w m s s byte lowered st st (λ x. absurd (omega arith)) clear four.changes.numbers sign

  marked_is : value marked.at s m ≡ value v.at s m
  marked_is = value-same marked.at v.at s m (λ j x. let f = clear_byte s m j clear st.clear x in one.same (s + j) f.0 f.3)

  lowered_is : value lowered.at s m ≡ divided m d (value turned.at s m)
  lowered_is = four.number_is ∙ ap (λ x. after_bit (is_one_more d) (Right false) (m - nearest d) (x / 256 ^ nearest d)) three.number_is

  right : 2 * unsigned_abs (signed_number m (value v.at s m)) < 256 ^ m
      → signed_number m (value last.at s m) ≡ trunc (signed_number m (value v.at s m)) (2 ^ d)
  right room =
      let ua = st.clear in
      let held = λ (j : ℕ) (x : j < m). (let o : v.at (s + j) < 256 = numbers (s + j) (omega arith) in o) in
      cut_value m d (value v.at s m) (value turned.at s m) (value last.at s m) byte is_scale (value_below v.at s m held)
      (value_below last.at s m five.held) room (sign_is v.at s l held) (negated_by marked turned s byte m (value v.at s m) two marked_is)
      (negated_by lowered last s byte m (divided m d (value turned.at s m)) five lowered_is)

  pub brings : 2 * unsigned_abs (signed_number m (value v.at s m)) < 256 ^ m → HasAt e (cut_code w m d) pc end
      → Brings e (64 * m) pc v end s m (λ x. signed_number m x ≡ trunc (signed_number m (value v.at s m)) (2 ^ d))
  brings room at =
      let code = cut_code w m d in
      let short = cut_short w m d in
      let steps = short.steps_are in
      record {
        steps = code_steps code;
        at_most = omega (arith, steps);
        last = last;
        goes = subst (λ t. Goes e (code_steps code) pc v end t) is (block_goes e code pc end v short.straight at);
        holds = right room;
        numbers = (changes_by lowered last s m four.changes.numbers five.keeps five.held st.clear).numbers;
        same = λ j x y z t o. five.keeps.same j x y o ∙ kept.same j x y o ∙ one.same j x t;
        inputs = five.keeps.inputs ∙ kept.inputs ∙ one.inputs;
        safe = five.keeps.safe ∙ kept.safe ∙ one.safe;
        seen = five.keeps.seen ∙ kept.seen ∙ one.seen;
      }

pub cuts_are_right : CutsAreRight
cuts_are_right e w zero d s pc end v is some most fit st clear numbers room at = absurd (omega arith)
cuts_are_right e w (suc l) d s pc end v is some most fit st clear numbers room at =
    brings e w l d s pc end v is fit st clear numbers room at
