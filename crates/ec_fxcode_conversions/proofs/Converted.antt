-- The code converts into formats.
use Rattle.std.proofs.Common.{◌≡◌, ℕ, ◌+◌, ◌-◌, ◌*◌, ◌/◌, ◌^◌, ◌≤◌, max, ◌∙◌, subst, arith, ℤ, pos, ◌*ℤ◌}
use Rattle.ec_fx.specs.declared.formats.Format.{Format}
use Rattle.ec_fx.specs.declared.numbers.Mode.{Mode}
use Rattle.ec_fx.specs.Conversions.{conversion_of}
use Rattle.ec_fx.specs.Formats.{IsFormat}
use Rattle.ec_fx.specs.Results.{fit}
use Rattle.ec_fx.specs.Rounding.{trunc}
use Rattle.ec_asm.specs.Pieces.{value}
use Rattle.ec_asm.proofs.Hoare.{has_parts}
use Rattle.ec_fxcode.specs.Clamps.{clamp_code}
use Rattle.ec_fxcode.specs.ClampLaws.{signed_number, HoldsResult, ClampsAreRight}
use Rattle.ec_fxcode.proofs.Moves.{part_stands}
use Rattle.ec_fxcode_shifts.specs.ShiftLaws.{number_in}
use Rattle.ec_fxcode_quotients.specs.QuotientLaws.{IsOperandFormat, operand_in}
use Rattle.ec_fxcode_quotients.proofs.Signs.{scaled_is, fraction_is}
use Rattle.ec_fxcode_quotients.proofs.Sizes.{operand_sized, format_sized, bytes_of}
use Rattle.ec_fxcode_scales.specs.ScaleLaws.{ScalesAreRight, CutsAreRight}
use Rattle.ec_fxcode_conversions.specs.Conversions.{scaled_bytes, units_code}
use Rattle.ec_fxcode_conversions.specs.ConversionLaws.{conversion_words, ConversionsAreRight}
use Rattle.ec_fxcode_conversions.proofs.Numbers.{operand_step, format_step, scale_between, units_reduced}
use Rattle.ec_fxcode_conversions.proofs.Runs.{IsInside, from_brings, from_clamps, computed, told, above_all, clear_above, part_apart}
use Rattle.ec_fxcode_conversions.proofs.Runs.{apart_part}
use Rattle.ec_fxcode_conversions.proofs.Units.{AreUnits, units_run}

-- ---- sizes

-- the work bytes have room
pub record IsRoomy (a k up down : ℕ) : Type 0 where
  pub some : 1 ≤ a
  pub many : 1 ≤ k
  pub most : scaled_bytes a up ≤ 16
  pub wide : scaled_bytes a up ≤ 2 * max a k + 1
  pub few : (down + 7) / 8 ≤ scaled_bytes a up

pub roomy : (f to : Format) (a k : ℕ) → IsOperandFormat f → f.bits ≡ 8 * a → IsFormat to → to.bits ≡ 8 * k
    → IsRoomy a k (to.frac - f.frac) (f.frac - to.frac)
roomy f to a k hf e ht t =
    let x = operand_sized f hf in
    let y = format_sized to ht in
    let l = bytes_of f.bits f.frac a x e in
    let n = bytes_of to.bits to.frac k y t in
    let x1 = x.inside in
    let x2 = x.above in
    let y1 = y.inside in
    let y2 = y.few in
    let l0 = l.0 in
    let l1 = l.1 in
    let n0 = n.0 in
    record {
      some = l0;
      many = n0;
      most = omega (arith, e, x2, y2, l1);
      wide = omega (arith, t, y1);
      few = omega (arith, e, x1);
    }

-- the number in units of the result has few bytes
pub few_bytes : (f to : Format) → IsOperandFormat f → IsFormat to → scaled_bytes (f.bits / 8) (to.frac - f.frac) ≤ 40
few_bytes f to hf ht =
    let x = (operand_sized f hf).most in
    let y = (format_sized to ht).few in
    omega (arith, x, y)

-- so many steps are few enough
pub steps_bound : (a k m : ℕ) → m ≤ 2 * max a k + 1 → 128 * m + (60 + 20 * max m k) ≤ 64 * conversion_words (max a k)
steps_bound a k m l = omega (arith, l)

-- ---- the value

pub holds_conversion : (f to : Format) (mode : Mode) (a x k Y : ℕ) (z : ℤ)
    → z ≡ trunc (number_in f.signed a x *ℤ pos (2 ^ (to.frac - f.frac))) (2 ^ (f.frac - to.frac))
    → HoldsResult k (fit to mode z) Y → HoldsResult k (conversion_of (operand_in f a x) to mode) Y
holds_conversion f to mode a x k Y z e h =
    rw (scaled_is f a x, fraction_is f a x)
    (subst (λ (t : ℤ). HoldsResult k (fit to mode t) Y) (e ∙ units_reduced (number_in f.signed a x) f.frac to.frac) h)

-- ---- the run

module _ (scales : ScalesAreRight) (cuts : CutsAreRight) (clamps : ClampsAreRight) where
  pub conversions_are_right : ConversionsAreRight
  conversions_are_right f to mode e p q w a k i o s pc end v hf fb ht tb slots numbers at =
      let up = to.frac - f.frac in
      let down = f.frac - to.frac in
      let m = scaled_bytes a up in
      let room = roomy f to a k hf fb ht tb in
      let high = above_all s slots.clear.2 in
      let inside : IsInside s m s = (let l = room.most in record { low = omega arith; high = omega (arith, l) }) in
      let work = (let l = room.most in part_stands e w 40 m s (omega (arith, l)) slots.work) in
      let clear = clear_above s m high in
      let parts = has_parts e (units_code f.signed p w a up down) (clamp_code to mode w q m k) pc end at in
      let units : AreUnits e p w a up down i s v = record {
        up_is = scale_between to.frac f.frac (format_step to ht) (operand_step f hf);
        down_is = scale_between f.frac to.frac (operand_step f hf) (format_step to ht);
        some = room.some;
        most = room.most;
        few = room.few;
        number = slots.operand;
        work = work;
        apart = apart_part i a s s m (omega arith) inside slots.apart.0;
        clear_number = slots.clear.0;
        clear_work = clear;
        numbers = numbers;
      } in
      let F = λ (x : ℕ). signed_number m x ≡ trunc (number_in f.signed a (value v.at i a) *ℤ pos (2 ^ up)) (2 ^ down) in
      let first = from_brings e (128 * m) pc parts.0 s m s v F
      (units_run scales cuts f.signed e p w a up down i s pc parts.0 v units parts.1) in
      let u = first.last in
      let z = signed_number m (value u.at s m) in
      let second = clamps to mode e w q m k s o parts.0 end u ht tb (omega arith) work slots.result
      (part_apart o k s s m (omega arith) inside slots.apart.1) clear slots.clear.1 first.numbers parts.2 in
      let G = HoldsResult k (fit to mode z) in
      told e (64 * conversion_words (max a k)) pc end o k s v G (HoldsResult k (conversion_of (operand_in f a (value v.at i a)) to mode))
      (λ x h. holds_conversion f to mode a (value v.at i a) k x z first.holds h)
      (computed e (128 * m) (60 + 20 * max m k) (64 * conversion_words (max a k)) pc parts.0 end s m o k s v F G inside
      (steps_bound a k m room.wide)
      first
      (from_clamps e (60 + 20 * max m k) parts.0 end o k s u (fit to mode z) second))
