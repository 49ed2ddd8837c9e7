-- The types of members have a byte at least.
use Rattle.std.proofs.Common.{◌≡◌, ◌<◌, ◌≤◌, ℕ, zero, suc, true, false, List, [], length, refl, inl, inr, arith}
use Rattle.std.specs.Prelude.{nat_lt, Option, Some, None, IsSomeAnd, IfSome}
use Rattle.std.proofs.lemmas.Bool.{false≢true}
use Rattle.std.proofs.lemmas.Bool.Decides.{nat_tests}
use Rattle.ec_fx.specs.declared.formats.FxKind.{FxKind}
use Rattle.ec_fx.specs.declared.formats.FxKind.TheVariants.{ShortFract, Fract, LongFract, ShortAccum, Accum, LongAccum}
use Rattle.ec_fx.specs.declared.formats.FxKind.TheVariants.{UnsignedShortFract, UnsignedFract, UnsignedLongFract}
use Rattle.ec_fx.specs.declared.formats.FxKind.TheVariants.{UnsignedShortAccum, UnsignedAccum, UnsignedLongAccum}
use Rattle.ec_space.specs.declared.space.SpaceId.{SpaceId}
use Rattle.ec_space.specs.declared.space.SpaceId.TheVariants.{Flash, FarFlash, Data, Generic}
use Rattle.ec_space.specs.Spaces.{width}
use Rattle.ec_grammar.specs.Trees as t
use Rattle.ec_core.specs.Layout.{IsIntegerSize, Layout, repeated, scalar_size, type_layout, struct_layouts, size_of_type}
use Rattle.ec_core.specs.Plain.{PlainType, void, integer, fixed, pointer, array, struct, PlainStruct}
use Rattle.ec_check_names.specs.declared.specifiers.Specified.{Specified}
use Rattle.ec_check_names.specs.Qualifiers.{own_space_rules}
use Rattle.ec_check_operands.specs.Operands.{with_both}
use Rattle.ec_check_expressions.specs.Known.{Known, is_sized}
use Rattle.ec_check_expressions.specs.TypeNames.{void_rules}
use Rattle.ec_check_expressions.proofs.Sizes.{one_of_three}
use Rattle.ec_check_expression_laws.specs.Laws.{AreUnbroken}
use Rattle.ec_check_expression_laws.proofs.KeptTypes.{no_void, behind_stars}
use Rattle.ec_check_initialisers.specs.Laws.{SizesAreValues}
use Rattle.ec_check_initialisers.specs.Sizes.{array_size}
use Rattle.ec_check_declarations.specs.Declarators.{head_of, head_rules, declared_size}
use Rattle.ec_check_declarations.specs.ObjectTypes.{is_object_type, object_type}
use Rattle.ec_check_statements.proofs.Choices.{if_both}
use Rattle.ec_check_statements.proofs.KeptTypes.{behind_space}
use Rattle.ec_check.specs.Agreement.{AreFilled}

-- ---- types that specifiers and stars say

fixed_some : (kind : FxKind) → 1 ≤ scalar_size (fixed kind false)
fixed_some ShortFract = omega arith
fixed_some Fract = omega arith
fixed_some LongFract = omega arith
fixed_some ShortAccum = omega arith
fixed_some Accum = omega arith
fixed_some LongAccum = omega arith
fixed_some UnsignedShortFract = omega arith
fixed_some UnsignedFract = omega arith
fixed_some UnsignedLongFract = omega arith
fixed_some UnsignedShortAccum = omega arith
fixed_some UnsignedAccum = omega arith
fixed_some UnsignedLongAccum = omega arith

width_some : (s : SpaceId) → 1 ≤ width s
width_some Flash = omega arith
width_some FarFlash = omega arith
width_some Data = omega arith
width_some Generic = omega arith

integer_some : (bytes : ℕ) → IsIntegerSize bytes → 1 ≤ bytes
integer_some bytes (inl e) = omega (arith, e)
integer_some bytes (inr (inl e)) = omega (arith, e)
integer_some bytes (inr (inr e)) = omega (arith, e)

index_below : (i n : ℕ) → nat_lt i n ≡ true → i < n
index_below i n h = grind (arith, nat_tests, h)

sized_some : (structs : List PlainStruct) → AreFilled structs → (ty : PlainType) → is_sized (length structs) ty ≡ true
    → 1 ≤ size_of_type structs ty
sized_some structs filled void h = absurd (false≢true h)
sized_some structs filled (integer signed bytes) h = integer_some bytes (one_of_three bytes _ _ _ refl refl refl h)
sized_some structs filled (fixed kind sat) h = fixed_some kind
sized_some structs filled (pointer s c to) h = width_some s
sized_some structs filled (array of len) h = absurd (false≢true h)
sized_some structs filled (struct i) h = filled i (index_below i (length structs) h)

repeated_some : (n : ℕ) (a : Layout) → 1 ≤ n → 1 ≤ a.size → 1 ≤ (repeated n a).size
repeated_some zero a h k = absurd (omega (arith, h))
repeated_some (suc n) a h k = omega (arith, k)

-- ---- declarators

-- where void is misused it is told
pub unmisused : (s : Specified) (misused : Option ℕ) (stars : List t.Star) → AreUnbroken (head_rules false misused s stars) → misused ≡ None
unmisused s misused stars u =
    no_void misused (behind_space false (head_of s stars).qualities.space (void_rules misused [])
    (behind_stars stars (own_space_rules false (head_of s stars).qualities.space (void_rules misused [])) u))

module _ (structs : List PlainStruct) (filled : AreFilled structs) where
  -- the type of a member
  abbrev pub IsPositive : PlainType → Type 0
  IsPositive ty = (is_object_type (length structs) ty ≡ true) × (1 ≤ size_of_type structs ty)

  abbrev IsSizedType : PlainType → Type 0
  IsSizedType ty = is_sized (length structs) ty ≡ true

  abbrev IsSomeObject : PlainType → Type 0
  IsSomeObject ty = is_object_type (length structs) ty ≡ true → 1 ≤ size_of_type structs ty

  pub tested_positive : (o : Option PlainType) → IfSome o IsSomeObject → IfSome (object_type (length structs) o) IsPositive
  tested_positive None h = tt
  tested_positive (Some ty) h =
      if_both (λ o. IfSome o IsPositive) (is_object_type (length structs) ty) (Some ty) None (λ q. (q, h q)) (λ q. tt)

  pub plain_some : (o : Option PlainType) → IsSomeAnd o IsSizedType → IfSome o IsSomeObject
  plain_some None h = tt
  plain_some (Some ty) h = λ q. sized_some structs filled ty h

  pub array_some : (o : Option PlainType) (size : Option ℕ) → IsSomeAnd o IsSizedType → IfSome size (λ n. 1 ≤ n)
      → IfSome (with_both o size (λ ty n. Some (array ty n))) IsSomeObject
  array_some None size h k = tt
  array_some (Some ty) None h k = tt
  array_some (Some ty) (Some n) h k = λ q. repeated_some n (type_layout (struct_layouts structs) ty) k (sized_some structs filled ty h)

size_by : SizesAreValues → (k : Known) (c : t.Conditional) (o : Option ℕ) → array_size k c ≡ o → IfSome o (λ n. 1 ≤ n)
size_by sizes k c None e = tt
size_by sizes k c (Some n) e = (sizes k c n e).some

-- the size that is given without an initialiser
pub size_some : SizesAreValues → (k : Known) (c : Option t.Conditional) → IfSome (declared_size k c None) (λ n. 1 ≤ n)
size_some sizes k None = tt
size_some sizes k (Some c) = size_by sizes k c (array_size k c) refl
