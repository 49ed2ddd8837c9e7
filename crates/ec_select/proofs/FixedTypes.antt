-- Types of operations with a fixed-point number, and of those with integers alone.
use Rattle.std.proofs.Common.{◌≡◌, ◌⊎◌, ⊎_elim, ℕ, ◌/◌, ◌≤◌, Bool, true, false, refl, ◌∙◌, ap, arith, inl, inr}
use Rattle.std.specs.Prelude.{◌||◌}
use Rattle.std.proofs.lemmas.Bool.{false≢true}
use Rattle.ec_core.specs.Layout.{IsIntegerSize, IsScalar, scalar_size}
use Rattle.ec_core.specs.Plain.{PlainType, void, integer, fixed, pointer, array, struct}
use Rattle.ec_fx.specs.declared.formats.FxKind.{FxKind}
use Rattle.ec_fx.specs.declared.formats.FxKind.TheVariants.{ShortFract, Fract, LongFract, ShortAccum, Accum, LongAccum}
use Rattle.ec_fx.specs.declared.formats.FxKind.TheVariants.{UnsignedShortFract, UnsignedFract, UnsignedLongFract}
use Rattle.ec_fx.specs.declared.formats.FxKind.TheVariants.{UnsignedShortAccum, UnsignedAccum, UnsignedLongAccum}
use Rattle.ec_fx.specs.Formats.{format_of}
use Rattle.ec_ir.specs.declared.operations.Temp.{Temp}
use Rattle.ec_space.specs.declared.space.SpaceId.{SpaceId}
use Rattle.ec_space.specs.declared.space.SpaceId.TheVariants.{Flash, FarFlash, Data, Generic}
use Rattle.ec_space.specs.Spaces.{width}
use Rattle.ec_select_fixed.specs.Types.{IsFixedType}
use Rattle.ec_select_operations.specs.declared.families.Family.{Family}
use Rattle.ec_select_operations.specs.declared.families.Family.TheVariants.{Combined, Compared, Multiplied, Shifted}
use Rattle.ec_select_operations.specs.declared.families.Family.TheVariants.{Divided}
use Rattle.ec_select_functions.specs.Covered.{IsBinary, IsUnary, AreConverted}
use Rattle.ec_select_operations.specs.Needs.{is_fixed}

-- ---- whether a type is fixed-point

pub type_fixed : (x : PlainType) → IsFixedType x → is_fixed x ≡ true
type_fixed (fixed k s) h = refl
type_fixed (integer s n) h = absurd h
type_fixed void h = absurd h
type_fixed (pointer s k z) h = absurd h
type_fixed (array of n) h = absurd h
type_fixed (struct n) h = absurd h

pub fixed_type : (x : PlainType) → is_fixed x ≡ true → IsFixedType x
fixed_type (fixed k s) h = tt
fixed_type (integer s n) h = absurd (false≢true h)
fixed_type void h = absurd (false≢true h)
fixed_type (pointer s k z) h = absurd (false≢true h)
fixed_type (array of n) h = absurd (false≢true h)
fixed_type (struct n) h = absurd (false≢true h)

or_true : (b : Bool) → (b || true) ≡ true
or_true true = refl
or_true false = refl

pub either_fixed : (x z : PlainType) → IsFixedType x ⊎ IsFixedType z → (is_fixed x || is_fixed z) ≡ true
either_fixed x z f =
    ⊎_elim
    (λ (q : IsFixedType x). ap (λ b. b || is_fixed z) (type_fixed x q))
    (λ (q : IsFixedType z). ap (λ b. is_fixed x || b) (type_fixed z q) ∙ or_true (is_fixed x))
    f

pub fixed_either : (x z : PlainType) → (is_fixed x || is_fixed z) ≡ true → IsFixedType x ⊎ IsFixedType z
fixed_either x z h = by_first (is_fixed x) refl h where
  by_first : (b : Bool) → is_fixed x ≡ b → (b || is_fixed z) ≡ true → IsFixedType x ⊎ IsFixedType z
  by_first true e k = inl (fixed_type x e)
  by_first false e k = inr (fixed_type z k)

-- ---- integers

pub no_fixed : (x : Family) (slots : ℕ) (t a b : Temp) (ty aty bty : PlainType) → IsBinary x slots t a b ty aty bty
    → (is_fixed aty || is_fixed bty) ≡ false
no_fixed (Combined o) slots t a b ty aty bty k = ap (λ z. is_fixed z || is_fixed bty) k.left_type ∙ ap is_fixed k.right_type
no_fixed (Compared r exchanged) slots t a b ty aty bty k =
    ap (λ z. is_fixed z || is_fixed bty) k.left_type ∙ ap is_fixed k.right_type
no_fixed Multiplied slots t a b ty aty bty k = ap (λ z. is_fixed z || is_fixed bty) k.left_type ∙ ap is_fixed k.right_type
no_fixed (Shifted up) slots t a b ty aty bty k = ap (λ z. is_fixed z || is_fixed bty) k.0.left_type ∙ ap is_fixed k.0.count_type
no_fixed (Divided r) slots t a b ty aty bty k = ap (λ z. is_fixed z || is_fixed bty) k.0.left_type ∙ ap is_fixed k.0.right_type

pub no_fixed_operand : (slots : ℕ) (t a : Temp) (ty : PlainType) → IsUnary slots t a ty → is_fixed ty ≡ false
no_fixed_operand slots t a ty k = ap is_fixed k.result_type

pub none_converted : (slots : ℕ) (t a : Temp) (ty aty : PlainType) → AreConverted slots t a ty aty
    → (is_fixed ty || is_fixed aty) ≡ false
none_converted slots t a ty aty k = ap (λ z. is_fixed z || is_fixed aty) k.result_type ∙ ap is_fixed k.from_type

-- ---- sizes

pub at_most_four : (n : ℕ) → IsIntegerSize n → n ≤ 4
at_most_four n h =
    elim h [ inl e ↦ omega arith | inr r ↦ elim r [ inl e ↦ omega arith | inr e ↦ omega arith ] ]

pub at_most_eight : (ty : PlainType) → IsScalar ty → scalar_size ty ≤ 8
at_most_eight void h = absurd h
at_most_eight (integer s n) h = let m = at_most_four n h in omega arith
at_most_eight (fixed kind sat) h = by_kind kind where
  by_kind : (k : FxKind) → (format_of k).bits / 8 ≤ 8
  by_kind ShortFract = omega arith
  by_kind Fract = omega arith
  by_kind LongFract = omega arith
  by_kind ShortAccum = omega arith
  by_kind Accum = omega arith
  by_kind LongAccum = omega arith
  by_kind UnsignedShortFract = omega arith
  by_kind UnsignedFract = omega arith
  by_kind UnsignedLongFract = omega arith
  by_kind UnsignedShortAccum = omega arith
  by_kind UnsignedAccum = omega arith
  by_kind UnsignedLongAccum = omega arith
at_most_eight (pointer space const to) h = by_space space where
  by_space : (s : SpaceId) → width s ≤ 8
  by_space Flash = omega arith
  by_space Data = omega arith
  by_space FarFlash = omega arith
  by_space Generic = omega arith
at_most_eight (array of len) h = absurd h
at_most_eight (struct index) h = absurd h
