-- The code converts into integers.
use Rattle.std.proofs.Common.{◌≡◌, ℕ, zero, suc, ◌+◌, ◌*◌, ◌^◌, ◌≤◌, max, inl, inr, Bool, true, false, if◌then◌else◌, ◌||◌, refl, ap, ◌∙◌}
use Rattle.std.proofs.Common.{subst, arith, ℤ, pos, ◌*ℤ◌, int_lt, Some, None}
use Rattle.ec_fx.specs.declared.formats.Format.{Format}
use Rattle.ec_fx.specs.declared.numbers.Mode.{Mode}
use Rattle.ec_fx.specs.declared.numbers.Fx.TheVariants.{Got}
use Rattle.ec_fx.specs.Conversions.{held, IsIntegerWidth}
use Rattle.ec_fx.specs.Formats.{IsFormat}
use Rattle.ec_fx.specs.Ranges.{least, greatest}
use Rattle.ec_fx.specs.Results.{clamped, fit}
use Rattle.ec_fx.specs.Rounding.{trunc}
use Rattle.ec_asm.specs.declared.pieces.Location.{Location}
use Rattle.ec_asm.specs.View.{View}
use Rattle.ec_asm.specs.Change.{Env, Own}
use Rattle.ec_asm.specs.Items.{HasAt, block, code_steps}
use Rattle.ec_asm.specs.Pieces.{StandsFrom, value}
use Rattle.ec_asm.specs.PieceLaws.{HoldsNumbers}
use Rattle.ec_asm.proofs.Hoare.{has_parts, block_goes}
use Rattle.ec_fxcode.specs.Clamps.{clamp_code}
use Rattle.ec_fxcode.specs.ClampLaws.{signed_number, in_bytes, HoldsResult, IsClearOfEnds, AreApart}
use Rattle.ec_fxcode.proofs.Moves.{part_stands}
use Rattle.ec_fxcode.proofs.Short.{clamp_short}
use Rattle.ec_fxcode.proofs.Whole.{Given, clamp_done}
use Rattle.ec_fxcode_shifts.specs.ShiftLaws.{number_in}
use Rattle.ec_fxcode_shifts.proofs.Entered.{numbers_after}
use Rattle.ec_fxcode_quotients.proofs.Sizes.{format_sized, bytes_of}
use Rattle.ec_fxcode_scales.specs.ScaleLaws.{Computes, ScalesAreRight, CutsAreRight}
use Rattle.ec_fxcode_conversions.specs.Conversions.{scaled_bytes, units_code, container, wrapping}
use Rattle.ec_fxcode_conversions.specs.ConversionLaws.{conversion_words, HoldsWhole, WholesAreRight}
use Rattle.ec_fxcode_conversions.proofs.Numbers.{format_step, step_scale, times_one}
use Rattle.ec_fxcode_conversions.proofs.Runs.{IsInside, from_brings, computed, told, above_all, clear_above, part_apart, apart_part}
use Rattle.ec_fxcode_conversions.proofs.Units.{AreUnits, units_run}
use Rattle.ec_fxcode_conversions.proofs.Converted.{IsRoomy, steps_bound}

-- ---- the value

-- k bytes with a sign or without one
abbrev pub bytes_format : (signed : Bool) → (k : ℕ) → Format
bytes_format true k = container k
bytes_format false k = record { signed = false; bits = 8 * k; frac = 8 * k }

-- k bytes hold the number where it is in range with a sign, and where it is without one
abbrev pub HoldsEither : (k : ℕ) → ℤ → ℕ → Type 0
HoldsEither k z number = (signed : Bool) → HoldsResult k (fit (bytes_format signed k) wrapping z) number

in_range : (to : Format) (mode : Mode) (k Y : ℕ) (z n least greatest : ℤ) (above below : Bool)
    → HoldsResult k (if above then clamped to mode greatest else
    (if below then clamped to mode least else Got (record { format = to; n = z }))) Y
    → (if above || below then None else Some z) ≡ Some n → Y ≡ in_bytes k n
in_range to mode k Y z n least greatest true below h e = absurd (cc)
in_range to mode k Y z n least greatest false true h e = absurd (cc)
in_range to mode k Y z n least greatest false false h e = let same : z ≡ n = cc in h ∙ ap (in_bytes k) same

-- the tests of the range are those of the integer type
held_bytes : (signed : Bool) (k Y : ℕ) (z n : ℤ) → HoldsResult k (fit (bytes_format signed k) wrapping z) Y
    → held signed (8 * k) z ≡ Some n → Y ≡ in_bytes k n
held_bytes true k Y z n h e =
    in_range (container k) wrapping k Y z n (least true (8 * k)) (greatest true (8 * k)) (int_lt (greatest true (8 * k)) z)
    (int_lt z (least true (8 * k))) h e
held_bytes false k Y z n h e =
    in_range (bytes_format false k) wrapping k Y z n (least false (8 * k)) (greatest false (8 * k)) (int_lt (greatest false (8 * k)) z)
    (int_lt z (least false (8 * k))) h e

holds_whole : (f : Format) (a k x Y : ℕ) (z : ℤ) → z ≡ trunc (number_in f.signed a x *ℤ pos (2 ^ 0)) (2 ^ f.frac)
    → HoldsEither k z Y → HoldsWhole f a k x Y
holds_whole f a k x Y z e h signed n is =
    let same : z ≡ trunc (number_in f.signed a x) (2 ^ f.frac) = e
    ∙ ap (λ (t : ℤ). trunc t (2 ^ f.frac)) (times_one (number_in f.signed a x)) in
    held_bytes signed k Y (trunc (number_in f.signed a x) (2 ^ f.frac)) n
    (subst (λ (t : ℤ). HoldsResult k (fit (bytes_format signed k) wrapping t) Y) same (h signed)) is

-- ---- the low bytes

contains : (e : Env) (p q : Location) (n k a b s pc end : ℕ) (v : View) → 1 ≤ n → 1 ≤ k → StandsFrom e p n a Own
    → StandsFrom e q k b Own → AreApart a n b k → IsClearOfEnds a n → IsClearOfEnds b k → HoldsNumbers v
    → HasAt e (clamp_code (container k) wrapping p q n k) pc end
    → Computes e (60 + 20 * max n k) pc v end b k s (HoldsEither k (signed_number n (value v.at a n)))
contains e p q zero k a b s pc end v some many from into apart cf ci numbers at = absurd (omega (arith, some))
contains e p q (suc n) zero a b s pc end v some many from into apart cf ci numbers at = absurd (omega (arith, many))
contains e p q (suc n) (suc k) a b s pc end v some many from into apart cf ci numbers at =
    let code = clamp_code (container (suc k)) wrapping p q (suc n) (suc k) in
    let w = block e code v in
    let short = clamp_short (container (suc k)) wrapping p q (suc n) (suc k) in
    let given = λ (to : Format) (bits : to.bits ≡ 8 * suc k).
    (let g : Given to e p q n k a b v =
    record { bits = bits; from = from; into = into; apart = apart; clear_from = cf; clear_into = ci; numbers = numbers } in g) in
    let d = clamp_done (container (suc k)) wrapping e p q n k a b v (given (container (suc k)) refl) in
    let plain = clamp_done (bytes_format false (suc k)) wrapping e p q n k a b v (given (bytes_format false (suc k)) refl) in
    record {
      steps = code_steps code;
      at_most = short.steps_are;
      last = w;
      goes = block_goes e code pc end v short.straight at;
      holds = either (value w.at b (suc k)) (signed_number (suc n) (value v.at a (suc n))) d.holds plain.holds;
      numbers = numbers_after v w b (suc k) numbers d.keeps.same d.first d.second d.held;
      same = λ j y0 y1 y2 y3 r t. d.keeps.same j y0 y1 y2 y3 r;
      inputs = d.keeps.inputs;
      safe = d.keeps.safe;
      seen = d.keeps.seen;
    }
  where
    either : (Y : ℕ) (z : ℤ) → HoldsResult (suc k) (fit (container (suc k)) wrapping z) Y
        → HoldsResult (suc k) (fit (bytes_format false (suc k)) wrapping z) Y → HoldsEither (suc k) z Y
    either Y z g h true = g
    either Y z g h false = h

-- ---- sizes

pub whole_roomy : (f : Format) (a k : ℕ) → IsFormat f → f.bits ≡ 8 * a → IsIntegerWidth (8 * k) → IsRoomy a k 0 f.frac
whole_roomy f a k hf e w =
    let x = format_sized f hf in
    let l = bytes_of f.bits f.frac a x e in
    let x1 = x.inside in
    let l0 = l.0 in
    let l1 = l.1 in
    record {
      some = l0;
      many = some_byte w;
      most = omega (arith, l1);
      wide = omega arith;
      few = omega (arith, e, x1);
    }
  where
    some_byte : IsIntegerWidth (8 * k) → 1 ≤ k
    some_byte (inl t) = omega (arith, t)
    some_byte (inr (inl t)) = omega (arith, t)
    some_byte (inr (inr t)) = omega (arith, t)

-- ---- the run

module _ (scales : ScalesAreRight) (cuts : CutsAreRight) where
  pub wholes_are_right : WholesAreRight
  wholes_are_right f e p q w a k i o s pc end v hf fb width slots numbers at =
      let m = scaled_bytes a 0 in
      let room = whole_roomy f a k hf fb width in
      let high = above_all s slots.clear.2 in
      let inside : IsInside s m s = (let l = room.most in record { low = omega arith; high = omega (arith, l) }) in
      let work = (let l = room.most in part_stands e w 40 m s (omega (arith, l)) slots.work) in
      let clear = clear_above s m high in
      let parts = has_parts e (units_code f.signed p w a 0 f.frac) (clamp_code (container k) wrapping w q m k) pc end at in
      let units : AreUnits e p w a 0 f.frac i s v = record {
        up_is = inl refl;
        down_is = step_scale f.frac (format_step f hf);
        some = room.some;
        most = room.most;
        few = room.few;
        number = slots.operand;
        work = work;
        apart = apart_part i a s s m (omega arith) inside slots.apart.0;
        clear_number = slots.clear.0;
        clear_work = clear;
        numbers = numbers;
      } in
      let x = value v.at i a in
      let F = λ (y : ℕ). signed_number m y ≡ trunc (number_in f.signed a x *ℤ pos (2 ^ 0)) (2 ^ f.frac) in
      let first = from_brings e (128 * m) pc parts.0 s m s v F
      (units_run scales cuts f.signed e p w a 0 f.frac i s pc parts.0 v units parts.1) in
      let u = first.last in
      let z = signed_number m (value u.at s m) in
      let second = contains e w q m k s o s parts.0 end u (omega arith) room.many work slots.result
      (part_apart o k s s m (omega arith) inside slots.apart.1) clear slots.clear.1 first.numbers parts.2 in
      told e (64 * conversion_words (max a k)) pc end o k s v (HoldsEither k z) (HoldsWhole f a k x)
      (λ y h. holds_whole f a k x y z first.holds h)
      (computed e (128 * m) (60 + 20 * max m k) (64 * conversion_words (max a k)) pc parts.0 end s m o k s v F (HoldsEither k z) inside
      (steps_bound a k m room.wide) first second)
