-- Conversions whose numbers are brought by registers to another number of bits behind the point.
use Rattle.std.proofs.Common.{◌≡◌, ◌≢◌, ◌⊎◌, ℕ, ◌+◌, ◌*◌, ◌/◌, ◌%◌, ◌^◌, ◌<◌, ◌≤◌, Bool, true, false, ◌&&◌, ⊎_elim, refl, sym}
use Rattle.std.proofs.Common.{ap, ◌∙◌, subst, arith, ℤ, pos, ◌*ℤ◌, Some}
use Rattle.std.specs.Prelude.{not, int_lt, if◌then◌else◌}
use Rattle.std.proofs.lemmas.Bool.{and_parts}
use Rattle.ec_fx.specs.declared.formats.Format.{Format}
use Rattle.ec_fx.specs.declared.numbers.Mode.{Mode}
use Rattle.ec_fx.specs.declared.numbers.Fx.TheVariants.{Got}
use Rattle.ec_fx.specs.Conversions.{held}
use Rattle.ec_fx.specs.Formats.{format_of}
use Rattle.ec_fx.specs.Ranges.{least, greatest}
use Rattle.ec_fx.specs.Results.{clamped, fit}
use Rattle.ec_fx.specs.Rounding.{trunc}
use Rattle.ec_fx.proofs.Scaling.{trunc-common}
use Rattle.ec_asm.specs.View.{View}
use Rattle.ec_asm.specs.Change.{Env, Own}
use Rattle.ec_asm.specs.Items.{HasAt}
use Rattle.ec_asm.specs.Pieces.{StandsFrom, Outside, value}
use Rattle.ec_asm.specs.declared.pieces.Location.{Location}
use Rattle.ec_asm.proofs.Numbers.{value_below, value_mod}
use Rattle.ec_core.specs.declared.values.Value.{Value}
use Rattle.ec_core.specs.Layout.{scalar_size}
use Rattle.ec_core.specs.Plain.{PlainType, void, integer, fixed, pointer, array, struct, PlainProgram}
use Rattle.ec_core.specs.State.{Outcome, worked}
use Rattle.ec_ir.specs.declared.operations.Temp.{Temp}
use Rattle.ec_ir.specs.Meaning.{Mach, machine}
use Rattle.ec_ir.specs.Temporaries.{bits, with_content}
use Rattle.ec_fxcode.specs.ClampLaws.{HoldsResult, IsClearOfEnds, AreApart}
use Rattle.ec_fxcode_formats.specs.Brought.{can_bring, bring_code}
use Rattle.ec_fxcode_formats.specs.FormatLaws.{HoldsExact}
use Rattle.ec_fxcode_formats.proofs.Carried.{numbers_are_brought}
use Rattle.ec_fxcode_shifts.specs.ShiftLaws.{number_in}
use Rattle.ec_fxcode_quotients.proofs.Signs.{scaled_is, fraction_is}
use Rattle.ec_select_fixed.specs.FixedLaws.{IsConversionResult}
use Rattle.ec_select_fixed.specs.Types.{IsFixedType, format_in}
use Rattle.ec_select_fixed.proofs.Conversions.{AreConverted, converted_types}
use Rattle.ec_select_fixed.proofs.Converted.{fixed_result, whole_result}
use Rattle.ec_select_fixed.proofs.Formats.{kind_bits}
use Rattle.ec_select_operations.specs.Code.{is_signed, is_brought}
use Rattle.ec_select_operations.specs.Homes.{HasHome}
use Rattle.ec_select_operations.specs.Needs.{Need, wanted, is_fixed}
use Rattle.ec_select_operations.specs.Places.{Apart}
use Rattle.ec_select_functions.specs.Covered.{IsFixedConversion}
use Rattle.ec_select_functions.specs.Relation.{Matches}
use Rattle.ec_select_functions.proofs.FixedRuns.{clear_of_ends}
use Rattle.ec_select_functions.proofs.Follow.{Follows, after}
use Rattle.ec_select_functions.proofs.Match.{kept_left, wanted_most, written_wide}
use Rattle.ec_select_functions.proofs.Moves.{Wide}
use Rattle.ec_select_functions.proofs.Setting.{Setting}

-- ---- results

not_true : (b : Bool) → not b ≡ true → b ≡ false
not_true true e = cc
not_true false e = refl

-- an exact number that is in range is the result, and out of range there is none where the mode does not saturate
exact_fits : (to : Format) (mode : Mode) (k : ℕ) (exact : ℤ) (z : ℕ) → mode.saturate ≡ false → to.bits ≡ 8 * k → HoldsExact k exact z
    → HoldsResult k (fit to mode exact) z
exact_fits to mode k exact z sat bits_are h =
    by_tests (int_lt (greatest to.signed to.bits) exact) (int_lt exact (least to.signed to.bits)) refl refl
  where
    by_tests : (b c : Bool) → int_lt (greatest to.signed to.bits) exact ≡ b → int_lt exact (least to.signed to.bits) ≡ c
        → HoldsResult k (if b then clamped to mode (greatest to.signed to.bits)
        else (if c then clamped to mode (least to.signed to.bits) else Got (record { format = to; n = exact }))) z
    by_tests true c f g = rw sat tt
    by_tests false true f g = rw sat tt
    by_tests false false f g =
        let inside : held to.signed to.bits exact ≡ Some exact = rw (f, g) refl in
        h to.signed exact (subst (λ (i : ℕ). held to.signed i exact ≡ Some exact) bits_are inside)

abbrev exact_of : (ty aty : PlainType) → ℕ → ℤ
exact_of ty aty x =
    trunc (number_in (format_in aty).signed (scalar_size aty) x *ℤ pos (2 ^ (format_in ty).frac)) (2 ^ (format_in aty).frac)

signed_is : (aty : PlainType) → is_signed aty ≡ (format_in aty).signed
signed_is void = refl
signed_is (integer s m) = refl
signed_is (fixed k s) = refl
signed_is (pointer p c z) = refl
signed_is (array z n) = refl
signed_is (struct n) = refl

exact_result : (ty aty : PlainType) (mode : Mode) (x z : ℕ) → AreConverted ty aty → IsFixedType ty ⊎ IsFixedType aty
    → not (is_fixed ty && mode.saturate) ≡ true → HoldsExact (scalar_size ty) (exact_of ty aty x) z → IsConversionResult ty mode aty x z
exact_result void aty mode x z c f sat h = absurd c.result
exact_result (integer signed bytes) aty mode x z c f sat h =
    let g = format_in aty in
    let from = ⊎_elim (λ (y : ⊥). absurd y) (λ (y : IsFixedType aty). y) f in
    let n = number_in g.signed (scalar_size aty) x in
    let one : 2 ^ g.frac * 1 ≡ 2 ^ g.frac = omega arith in
    let whole : trunc n (2 ^ g.frac) ≡ exact_of (integer signed bytes) aty x =
    sym (trunc-common n (2 ^ g.frac) 1 (omega arith)) ∙ ap (trunc (n *ℤ pos 1)) one in
    whole_result signed bytes aty mode x z from c.result c.operand (subst (λ y. HoldsExact bytes y z) (sym whole) h)
exact_result (fixed kind saturates) aty mode x z c f sat h =
    let g = format_in aty in
    let a = scalar_size aty in
    let to = format_of kind in
    fixed_result (fixed kind saturates) aty mode x z tt tt c.operand
    (rw (scaled_is g a x, fraction_is g a x)
    (exact_fits to mode (to.bits / 8) (exact_of (fixed kind saturates) aty x) z (not_true mode.saturate sat) (kind_bits kind) h))
exact_result (pointer space const to) aty mode x z c f sat h = absurd c.result
exact_result (array of len) aty mode x z c f sat h = absurd c.result
exact_result (struct index) aty mode x z c f sat h = absurd c.result

-- ---- the run

as_apart : (a n : ℕ) → Apart a n 8 6 → AreApart a n 8 6
as_apart a n x = record { first = x.left; second = x.right }

module _ (p : PlainProgram) (e : Env) (slots : ℕ) (home : Temp → Location) (base : Temp → ℕ) (place : ℕ → ℕ)
    (y : Setting p e slots home base place) where
  abbrev M : Need → Mach → View → Type 0
  M need m v = Matches p e y.inputs slots base place y.aside y.stands y.active y.called need m v

  -- where a temporary of so many bytes stands
  record Stands (t : Temp) (n : ℕ) : Type 0 where
    there : StandsFrom e (home t) n (base t) Own
    apart : AreApart (base t) n 8 6
    clear : IsClearOfEnds (base t) n
    some : 1 ≤ n

  stands : (t : Temp) (n : ℕ) → HasHome slots t → t.bytes ≡ n → Stands t n
  stands t n it same =
      let work = y.layout.temps_work t it in
      subst (λ (i : ℕ). Stands t i) same (record {
        there = y.layout.temps_at t it;
        apart = as_apart (base t) t.bytes work.low;
        clear = clear_of_ends (base t) t.bytes work;
        some = it.some;
      })

  pub brought_passes : (ty aty : PlainType) (mode : Mode) (c n pc end : ℕ) (t a : Temp) (need need0 : Need) (m : Mach) (v : View)
      (o : Outcome Value)
      → IsFixedConversion slots t a ty aty → is_brought ty aty mode ≡ true → M need0 m v → ((u : ℕ) → u ≢ t.at → need u ≤ need0 u)
      → HasAt e (bring_code (is_signed aty) (home a) (home t) (scalar_size aty) (scalar_size ty) (format_in aty).frac (format_in ty).frac)
      pc end
      → 100 + 2 * scalar_size ty ≤ c
      →
      ((z : ℕ) (v2 : View) → IsConversionResult ty mode aty (value v.at (base a) (scalar_size aty)) z
      → M need (machine (with_content t (bits z) m.temps) (worked c m.state)) v2
      → Follows p place e n (m.state.work + c) end v2 o)
      → Follows p place e n m.state.work pc v o
  brought_passes ty aty mode c n pc end t a need need0 m v o i is h more at room onward =
      let j = scalar_size aty in
      let k = scalar_size ty in
      let f = (format_in aty).frac in
      let r = (format_in ty).frac in
      let parts = and_parts (not (is_fixed ty && mode.saturate)) (can_bring j k f r) is in
      let sa = stands a j i.from i.from_bytes in
      let st = stands t k i.result i.result_bytes in
      let same_t = i.result_bytes in
      let run = numbers_are_brought (is_signed aty) e (home a) (home t) j k f r (base a) (base t) pc end v parts.1 sa.some st.some sa.there
      st.there sa.apart st.apart sa.clear st.clear h.bytes at in
      let v2 = run.last in
      let few = run.at_most in
      let z = value v2.at (base t) k in
      let x = value v.at (base a) j in
      let holds : HoldsExact k (exact_of ty aty x) z =
      subst (λ (s : Bool). HoldsExact k (trunc (number_in s j x *ℤ pos (2 ^ r)) (2 ^ f)) z) (signed_is aty) run.holds in
      let two = st.there.clear in
      let wide : Wide v v2 (base t) t.bytes =
      λ u x1 w lo hi out.
      run.same u x1 w (λ q. let l = hi (omega (arith, q)) in omega (arith, l, q)) lo (subst (λ (q : ℕ). Outside (base t) q u) same_t out) in
      let held = λ (u : ℕ) (l : u < k). (let b : v2.at (base t + u) < 256 = run.numbers (base t + u) (omega (arith, two)) in b) in
      let w = wanted need t in
      let most = wanted_most need t in
      let low : value v2.at (base t) w ≡ z % 256 ^ w = sym (value_mod v2.at (base t) w k (omega (arith, most, same_t)) held) in
      let below : z < 256 ^ t.bytes = subst (λ (u : ℕ). z < 256 ^ u) (sym same_t) (value_below v2.at (base t) k held) in
      let matches = written_wide p e slots home base place y t (bits z) need need0 m (worked c m.state) v v2 i.result h more wide
      (low, below) run.numbers refl (run.seen ∙ h.seen) (kept_left y.inputs m.state v v2 run.inputs h.left) (run.safe ∙ h.safe) in
      after p place e run.steps n n m.state.work (m.state.work + c) pc end v v2 o run.goes (omega arith) (omega (arith, few, room))
      (onward z v2
      (exact_result ty aty mode x z (converted_types ty aty i.types) i.types.fixed parts.0 holds) matches)
