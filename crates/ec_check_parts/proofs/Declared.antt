-- What declarators declare is what the walk finds.
use Rattle.std.proofs.Common.{◌≡◌, ◌∙◌, ◌+◌, ◌≤◌, ◌-◌, ℕ, Bool, true, false, ◌&&◌, ◌||◌, List, [], ◌∷◌, length, refl, sym, ap, subst}
use Rattle.std.proofs.Common.{inl, inr, arith}
use Rattle.std.specs.Prelude.{◌⊎◌, ◌↔◌, ◌==◌, if◌then◌else◌, nat_le, nat_lt, option_map, pos, Option, Some, None}
use Rattle.std.specs.Bool.{Decides}
use Rattle.std.proofs.lemmas.Bool.{false≢true}
use Rattle.std.proofs.lemmas.Bool.Decides.{Decides-and, Decides-or, nat_tests}
use Rattle.ec_grammar.specs.declared.Qualifier.{Qualifier}
use Rattle.ec_grammar.specs.declared.Spot.{Spot}
use Rattle.ec_grammar.specs.Trees as t
use Rattle.ec_core.specs.Layout.{size_of_type}
use Rattle.ec_core.specs.Plain.{PlainType, void, integer, fixed, pointer, array, struct, PlainStruct}
use Rattle.ec_check_operands.specs.Operands.{Operand}
use Rattle.ec_check_operands.specs.Options.{with_one, with_both}
use Rattle.ec_check_operands.specs.Sorts.{is_void, is_scalar, is_arithmetic}
use Rattle.ec_check_forms.specs.Constraints.{IsScalar, IsArithmetic, IsPointer}
use Rattle.ec_check_forms.specs.Nodes.{used}
use Rattle.ec_check_forms.proofs.Decided.{voids, scalars, arithmetics}
use Rattle.ec_check_names.specs.Qualifiers.{qualities_of, space_in}
use Rattle.ec_check_names.specs.Specifiers.{specified, void_at}
use Rattle.ec_check_names.specs.Spellings.{register_by, register_number}
use Rattle.ec_check_names.specs.Stars.{Declared, declared_by, behind, pointer_to}
use Rattle.ec_check_names.specs.Tags.{Tags}
use Rattle.ec_check_expressions.specs.Expressions.{of_conditional}
use Rattle.ec_check_expressions.specs.Known.{Known, is_sized}
use Rattle.ec_check_expressions.specs.TypeNames.{meant_type}
use Rattle.ec_check_initialisers.specs.Forms.{is_constant_conditional}
use Rattle.ec_check_initialisers.specs.Locals.{items_count}
use Rattle.ec_check_initialisers.specs.Sizes.{array_size, size_of_operand}
use Rattle.ec_check_declarations.specs.Declarators.{head_of, declared_size, shape_size, type_declared}
use Rattle.ec_check_declarations.specs.Declarators.{object_declared}
use Rattle.ec_check_declarations.specs.Functions.{result_type, returned, function_declared}
use Rattle.ec_check_declarations.specs.ObjectTypes.{is_object_type, object_type, small_type}
use Rattle.ec_check_declarations.specs.Params.{scalar_type, param_declared}
use Rattle.ec_check_declarations.specs.Registers.{passes_last, register_type, number_type, type_in, register_declared}
use Rattle.ec_check_meanings.specs.Laws.{WalkGivesMeanings}
use Rattle.ec_check_meanings.specs.Means.{Uses}
use Rattle.ec_check_meanings.specs.Terms.{term_of_conditional}
use Rattle.ec_check_meanings.proofs.Options.{inside, nothing_there, given, granted, unless, with_given, with_granted}
use Rattle.ec_check_meanings.proofs.Stores.{sizes}
use Rattle.ec_check_parts.specs.ConstantForms.{IsConstantTerm}
use Rattle.ec_check_parts.specs.Declared.{IsObject, IsSize, HasElements, stated, counted, DeclareType, alone, in_array, DeclareObject}
use Rattle.ec_check_parts.specs.Declared.{DeclareParam, DeclareResult, no_result, a_result, NamesRegister, by_digit}
use Rattle.ec_check_parts.specs.Declared.{DeclareRegister}
use Rattle.ec_check_parts.specs.Said.{DeclaratorsAreSaid}
use Rattle.ec_check_parts.specs.TypeWords.{Name}
use Rattle.ec_check_parts.specs.Readings.{TypeRegister}
use Rattle.ec_check_parts.specs.Types.{MeanType}
use Rattle.ec_check_parts.proofs.ConstantForms.{constants_are_told}
use Rattle.ec_check_parts.proofs.Expressions.{ExpressionLaws, uses_conditional}
use Rattle.ec_check_parts.proofs.Numbers.{number_sized, size_is}
use Rattle.ec_check_parts.proofs.TypeWords.{name_told}
use Rattle.ec_check_parts.proofs.Types.{type_said, type_meant, const_is, space_is, meant}

-- ---- types of objects

at_most : (a b : ℕ) → Decides (nat_le a b) (a ≤ b)
at_most a b = (λ q. grind (arith, nat_tests, q), λ le. grind (arith, nat_tests, le))

pub object_told : (n : ℕ) (ty : PlainType) → Decides (is_object_type n ty) (IsObject n ty)
object_told n void = sizes n void
object_told n (integer signed bytes) = sizes n (integer signed bytes)
object_told n (fixed kind sat) = sizes n (fixed kind sat)
object_told n (pointer space konst to) = sizes n (pointer space konst to)
object_told n (array of len) = Decides-and (is_sized n of) (nat_le len 32_767) (sizes n of) (at_most len 32_767)
object_told n (struct index) = sizes n (struct index)

-- a type that passes a test
tested : (test : PlainType → Bool) (P : PlainType → Type 0) → ((ty : PlainType) → Decides (test ty) (P ty)) → (o : Option PlainType)
    (ty : PlainType) → with_one o (λ ty. if test ty then Some ty else None) ≡ Some ty ↔ ((o ≡ Some ty) × P ty)
tested test P told None ty = (λ h. absurd (nothing_there ty h), λ h. absurd (nothing_there ty h.0))
tested test P told (Some u) ty = (there, back)
  where
    there : (if test u then Some u else None) ≡ Some ty → (Some u ≡ Some ty) × P ty
    there h = let g = given (test u) u ty h in (ap Some g.1, subst P g.1 ((told u).0 g.0))

    back : (Some u ≡ Some ty) × P ty → (if test u then Some u else None) ≡ Some ty
    back (e, p) = let same : u ≡ ty = inside e in granted (test u) u ty ((told u).1 (subst P (sym same) p)) same

object_is : (n : ℕ) (o : Option PlainType) (ty : PlainType) → object_type n o ≡ Some ty ↔ ((o ≡ Some ty) × IsObject n ty)
object_is n o ty = tested (is_object_type n) (IsObject n) (object_told n) o ty

-- ---- arrays

module _ (meanings : WalkGivesMeanings) (uses : (k : Known) (c : t.Conditional) (x : Operand)
    → Uses k (term_of_conditional c) x ↔ used (of_conditional k c) ≡ Some x) where
  size_stated : (k : Known) (c : t.Conditional) (n : ℕ) → array_size k c ≡ Some n
      ↔ (IsConstantTerm k (term_of_conditional c) × ((x : Operand) × Uses k (term_of_conditional c) x × IsSize x n))
  size_stated k c n = by (is_constant_conditional k c) ((constants_are_told meanings k).conditionals c)
    where
      by : (b : Bool) → b ≡ true ↔ IsConstantTerm k (term_of_conditional c)
          → (if b then with_one (used (of_conditional k c)) size_of_operand else None) ≡ Some n
          ↔ (IsConstantTerm k (term_of_conditional c) × ((x : Operand) × Uses k (term_of_conditional c) x × IsSize x n))
      by true d = (there, back)
        where
          there : with_one (used (of_conditional k c)) size_of_operand ≡ Some n
              → IsConstantTerm k (term_of_conditional c) × ((x : Operand) × Uses k (term_of_conditional c) x × IsSize x n)
          there h =
              let g = with_given (used (of_conditional k c)) size_of_operand n h in
              (d.0 refl, (g.0, (uses k c g.0).1 g.1, (size_is g.0 n).0 g.2))

          back : IsConstantTerm k (term_of_conditional c) × ((x : Operand) × Uses k (term_of_conditional c) x × IsSize x n)
              → with_one (used (of_conditional k c)) size_of_operand ≡ Some n
          back (form, (x, u, s)) =
              with_granted (used (of_conditional k c)) size_of_operand x n ((uses k c x).0 u) ((size_is x n).1 s)
      by false d = (λ h. absurd (nothing_there n h), λ h. absurd (false≢true (d.1 h.0)))

  elements : (k : Known) (size : Option t.Conditional) (start : Option t.Start) (n : ℕ) → declared_size k size start ≡ Some n
      → HasElements k size start n
  elements k (Some c) start n h = let g = (size_stated k c n).0 h in stated g.0 g.1.1 g.1.2
  elements k None None n h = absurd (nothing_there n h)
  elements k None (Some (t.start equals (t.initial_value a))) n h = absurd (nothing_there n h)
  elements k None (Some (t.start equals (t.braces l first more c r))) n h =
      let g = (number_sized (pos (items_count more + 1)) n).0 h in
      let same : items_count more + 1 ≡ n = one_number g.0 in
      subst (HasElements k None (Some (t.start equals (t.braces l first more c r)))) same
      (counted (subst (λ (z : ℕ). z ≤ 32_767) (sym same) g.1.1))
    where
      one_number : pos (items_count more + 1) ≡ pos n → items_count more + 1 ≡ n
      one_number e = cc

  elements_back : (k : Known) (size : Option t.Conditional) (start : Option t.Start) (n : ℕ) → HasElements k size start n
      → declared_size k size start ≡ Some n
  elements_back k _ _ n (stated {c = c} {x = x} form u s) = (size_stated k c n).1 (form, (x, u, s))
  elements_back k _ _ _ (counted {more = more} le) =
      (number_sized (pos (items_count more + 1)) (items_count more + 1)).1 (refl, (omega arith, le))

  -- ---- objects and members

  abbrev walked_type : Known → t.Specs → List t.Star → t.Shape → Option t.Start → Option PlainType
  walked_type k ss stars shape start = type_declared (length k.structs) (specified k.tags ss) stars shape (shape_size k shape start)

  abbrev before : Known → t.Specs → List t.Star → Option PlainType
  before k ss stars = meant_type (void_at (specified k.tags ss).types) (head_of (specified k.tags ss) stars).ty

  array_of : (o : Option PlainType) (size : Option ℕ) (ty : PlainType) → with_both o size (λ ty n. Some (array ty n)) ≡ Some ty
      → (of : PlainType) × (n : ℕ) × (o ≡ Some of) × (size ≡ Some n) × (array of n ≡ ty)
  array_of None size ty h = absurd (nothing_there ty h)
  array_of (Some of) None ty h = absurd (nothing_there ty h)
  array_of (Some of) (Some n) ty h = (of, n, refl, refl, inside h)

  type_to : (k : Known) (ss : t.Specs) (stars : List t.Star) (shape : t.Shape) (start : Option t.Start) (ty : PlainType)
      → walked_type k ss stars shape start ≡ Some ty → DeclareType k ss stars shape start ty
  type_to k ss stars t.object start ty h =
      let g = (object_is (length k.structs) (before k ss stars) ty).0 h in alone ((type_meant k.tags ss stars ty).0 g.0) g.1
  type_to k ss stars (t.array l size r) start ty h =
      let g = (object_is (length k.structs) (with_both (before k ss stars) (declared_size k size start) (λ ty n. Some (array ty n))) ty).0 h in
      let m = array_of (before k ss stars) (declared_size k size start) ty g.0 in
      subst (DeclareType k ss stars (t.array l size r) start) m.4
      (in_array ((type_meant k.tags ss stars m.0).0 m.2) (elements k size start m.1 m.3) (subst (IsObject (length k.structs)) (sym m.4) g.1))
  type_to k ss stars (t.function_shape l ps r) start ty h = absurd (nothing_there ty h)

  type_back : (k : Known) (ss : t.Specs) (stars : List t.Star) (shape : t.Shape) (start : Option t.Start) (ty : PlainType)
      → DeclareType k ss stars shape start ty → walked_type k ss stars shape start ≡ Some ty
  type_back k ss stars _ start _ (alone {ty = ty} m o) =
      (object_is (length k.structs) (before k ss stars) ty).1 ((type_meant k.tags ss stars ty).1 m, o)
  type_back k ss stars _ start _ (in_array {size = size} {of = of} {n = n} m e o) =
      (object_is (length k.structs) (with_both (before k ss stars) (declared_size k size start) (λ ty n. Some (array ty n))) (array of n)).1 (
        ap (λ (z : Option PlainType). with_both z (declared_size k size start) (λ ty n. Some (array ty n))) ((type_meant k.tags ss stars of).1 m)
            ∙ ap (λ (z : Option ℕ). with_both (Some of) z (λ ty n. Some (array ty n))) (elements_back k size start n e),
        o,
      )

  pub type_declares : (k : Known) (ss : t.Specs) (stars : List t.Star) (shape : t.Shape) (start : Option t.Start) (ty : PlainType)
      → walked_type k ss stars shape start ≡ Some ty ↔ DeclareType k ss stars shape start ty
  type_declares k ss stars shape start ty = (type_to k ss stars shape start ty, type_back k ss stars shape start ty)

  -- a type that is not too large
  small_is : (structs : List PlainStruct) (o : Option PlainType) (ty : PlainType) → small_type structs o ≡ Some ty
      ↔ ((o ≡ Some ty) × (size_of_type structs ty ≤ 32_767))
  small_is structs None ty = (λ h. absurd (nothing_there ty h), λ h. absurd (nothing_there ty h.0))
  small_is structs (Some u) ty = by (nat_lt 32_767 (size_of_type structs u)) refl
    where
      by : (b : Bool) → nat_lt 32_767 (size_of_type structs u) ≡ b → (if b then None else Some u) ≡ Some ty
          ↔ ((Some u ≡ Some ty) × (size_of_type structs ty ≤ 32_767))
      by true e = (λ h. absurd (nothing_there ty h), λ h. absurd (large (subst (λ z. size_of_type structs z ≤ 32_767) (sym (inside h.0)) h.1)))
        where
          large : size_of_type structs u ≤ 32_767 → ⊥
          large le = grind (arith, nat_tests, e, le)
      by false e = (λ h. (h, subst (λ z. size_of_type structs z ≤ 32_767) (inside h) little), λ h. h.0)
        where
          little : size_of_type structs u ≤ 32_767
          little = grind (arith, nat_tests, e)

  pub object_declares : (k : Known) (ss : t.Specs) (stars : List t.Star) (name : t.Identifier) (shape : t.Shape) (start : Option t.Start)
      (ty : PlainType) → (object_declared k (specified k.tags ss) (t.declarator stars name shape) start).ty ≡ Some ty
      ↔ DeclareObject k ss stars shape start ty
  object_declares k ss stars name shape start ty =
      let s = small_is k.structs (walked_type k ss stars shape start) ty in (
        λ h. let g = s.0 h in record { typed = type_to k ss stars shape start ty g.0; small = g.1 },
        λ h. s.1 (type_back k ss stars shape start ty h.typed, h.small),
      )

-- ---- functions

scalar_is : (tags : Tags) (n : ℕ) (ss : t.Specs) (stars : List t.Star) (ty : PlainType)
    → scalar_type n (meant_type (void_at (specified tags ss).types) (head_of (specified tags ss) stars).ty) ≡ Some ty
    ↔ DeclareParam tags n ss stars ty
scalar_is tags n ss stars ty = (there, back)
  where
    both_told : (u : PlainType) → Decides (is_scalar u && is_object_type n u) (IsScalar u × IsObject n u)
    both_told u = Decides-and (is_scalar u) (is_object_type n u) (scalars u) (object_told n u)

    law : with_one (meant_type (void_at (specified tags ss).types) (head_of (specified tags ss) stars).ty)
        (λ ty. if is_scalar ty && is_object_type n ty then Some ty else None) ≡ Some ty
        ↔ ((meant_type (void_at (specified tags ss).types) (head_of (specified tags ss) stars).ty ≡ Some ty) × (IsScalar ty × IsObject n ty))
    law =
        tested (λ u. is_scalar u && is_object_type n u) (λ u. IsScalar u × IsObject n u) both_told
        (meant_type (void_at (specified tags ss).types) (head_of (specified tags ss) stars).ty) ty

    there : scalar_type n (meant_type (void_at (specified tags ss).types) (head_of (specified tags ss) stars).ty) ≡ Some ty
        → DeclareParam tags n ss stars ty
    there h = let g = law.0 h in record { meant = (type_meant tags ss stars ty).0 g.0; scalar = g.1.0; object = g.1.1 }

    back : DeclareParam tags n ss stars ty
        → scalar_type n (meant_type (void_at (specified tags ss).types) (head_of (specified tags ss) stars).ty) ≡ Some ty
    back h = law.1 ((type_meant tags ss stars ty).1 h.meant, (h.scalar, h.object))

pub param_declares : (tags : Tags) (n : ℕ) (ss : t.Specs) (stars : List t.Star) (name : Option t.Identifier) (ty : PlainType)
    → (param_declared tags n (t.param (t.type_name ss stars) name)).ty ≡ Some ty ↔ DeclareParam tags n ss stars ty
param_declares tags n ss stars name ty = scalar_is tags n ss stars ty

module _ (tags : Tags) (n : ℕ) (ss : t.Specs) where
  abbrev v : Option ℕ
  v = void_at (specified tags ss).types

  abbrev head : List t.Star → Option PlainType
  head stars = (head_of (specified tags ss) stars).ty

  -- a type is void, or is a scalar one that an object can have
  abbrev IsResult : PlainType → Type 0
  IsResult u = (u ≡ void) ⊎ (IsScalar u × IsObject n u)

  result_told : (u : PlainType) → Decides (is_void u || is_scalar u && is_object_type n u) (IsResult u)
  result_told u =
      Decides-or (is_void u) (is_scalar u && is_object_type n u) (voids u)
      (Decides-and (is_scalar u) (is_object_type n u) (scalars u) (object_told n u))

  result_is : (o : Option PlainType) (ty : PlainType) → result_type n o ≡ Some ty ↔ ((o ≡ Some ty) × IsResult ty)
  result_is o ty = tested (λ u. is_void u || is_scalar u && is_object_type n u) IsResult result_told o ty

  -- behind a star stands a pointer
  pointed : (d : Declared) (stars : List t.Star) (ty : PlainType) → ((u : PlainType) → d.ty ≡ Some u → IsPointer u)
      → (behind d stars).ty ≡ Some ty → IsPointer ty
  pointed d [] ty p h = p ty h
  pointed d (t.star spot qs ∷ more) ty p h =
      pointed (record { ty = pointer_to d; qualities = qualities_of qs }) more ty (made d.ty) h
    where
      made : (o : Option PlainType) (u : PlainType) → option_map (pointer (space_in d.qualities.space) d.qualities.konst) o ≡ Some u → IsPointer u
      made None u e = absurd (nothing_there u e)
      made (Some z) u e = subst IsPointer (inside e) tt

  star_points : (spot : Spot) (qs : List Qualifier) (more : List t.Star) (ty : PlainType) → head (t.star spot qs ∷ more) ≡ Some ty
      → IsPointer ty
  star_points spot qs more ty h =
      pointed (record { ty = pointer_to (declared_by (specified tags ss)); qualities = qualities_of qs }) more ty
      (made (declared_by (specified tags ss)).ty) h
    where
      made : (o : Option PlainType) (u : PlainType)
          → option_map (pointer (space_in (specified tags ss).qualities.space) (specified tags ss).qualities.konst) o ≡ Some u → IsPointer u
      made None u e = absurd (nothing_there u e)
      made (Some z) u e = subst IsPointer (inside e) tt

  -- of no star
  bare_to : (ty : PlainType) → head [] ≡ Some ty → IsResult ty → DeclareResult tags n ss [] ty
  bare_to ty h (inl e) =
      subst (DeclareResult tags n ss []) (sym e) (no_result ((name_told tags ss void).0 (h ∙ ap Some e)))
  bare_to ty h (inr (scalar, object)) = a_result (record {
    meant = record { said = (type_said tags ss [] ty).0 h; no_void = no_void };
    scalar = scalar;
    object = object;
  })
    where
      none : IsScalar void → ⊥
      none (inl a) = a
      none (inr a) = a

      no_void : ¬ Name tags ss void
      no_void e = none (subst IsScalar (inside (sym h ∙ (name_told tags ss void).1 e)) scalar)

  starred_to : (stars : List t.Star) (ty : PlainType) → IsPointer ty → v ≡ None → head stars ≡ Some ty → IsResult ty
      → DeclareResult tags n ss stars ty
  starred_to stars ty p e h (inl same) = absurd (subst IsPointer same p)
  starred_to stars ty p e h (inr (scalar, object)) = a_result (record {
    meant = (type_meant tags ss stars ty).0 ((meant v (head stars) ty).1 (e, h));
    scalar = scalar;
    object = object;
  })

  to_result : (stars : List t.Star) (ty : PlainType) → returned n (specified tags ss) stars ≡ Some ty → DeclareResult tags n ss stars ty
  to_result [] ty h = let g = (result_is (head []) ty).0 h in bare_to ty g.0 g.1
  to_result (t.star spot qs ∷ more) ty h =
      let g = (result_is (meant_type v (head (t.star spot qs ∷ more))) ty).0 h in
      let m = (meant v (head (t.star spot qs ∷ more)) ty).0 g.0 in
      starred_to (t.star spot qs ∷ more) ty (star_points spot qs more ty m.1) m.0 m.1 g.1

  a_result_back : (stars : List t.Star) (ty : PlainType) → DeclareParam tags n ss stars ty → returned n (specified tags ss) stars ≡ Some ty
  a_result_back [] ty h = (result_is (head []) ty).1 ((type_said tags ss [] ty).1 h.meant.said, inr (h.scalar, h.object))
  a_result_back (t.star spot qs ∷ more) ty h =
      (result_is (meant_type v (head (t.star spot qs ∷ more))) ty).1
      ((type_meant tags ss (t.star spot qs ∷ more) ty).1 h.meant, inr (h.scalar, h.object))

  result_back : (stars : List t.Star) (ty : PlainType) → DeclareResult tags n ss stars ty → returned n (specified tags ss) stars ≡ Some ty
  result_back _ _ (no_result e) = (result_is (head []) void).1 ((name_told tags ss void).1 e, inl refl)
  result_back stars ty (a_result h) = a_result_back stars ty h

pub result_declares : (tags : Tags) (n : ℕ) (ss : t.Specs) (stars : List t.Star) (ps : t.Params) (ty : PlainType)
    → (function_declared tags n (specified tags ss) stars ps).returns ≡ Some ty ↔ DeclareResult tags n ss stars ty
result_declares tags n ss stars ps ty = (to_result tags n ss stars ty, result_back tags n ss stars ty)

-- ---- named registers

digit_is : (a b c first : ℕ) → register_by a b c ≡ Some first → NamesRegister (a ∷ b ∷ c ∷ []) first
digit_is a b c first h =
    let g = given (a == 95 && b == 82 && nat_le 50 c && nat_le c 55) (c - 48) first h in
    let t = g.0 in
    let d = g.1 in
    let one : a ≡ 95 = grind (arith, nat_tests, t) in
    let two : b ≡ 82 = grind (arith, nat_tests, t) in
    let least : 50 ≤ c = grind (arith, nat_tests, t) in
    let most : c ≤ 55 = grind (arith, nat_tests, t) in
    let three : c ≡ 48 + first = omega (arith, d, least) in
    subst (λ (x : ℕ). NamesRegister (x ∷ b ∷ c ∷ []) first) (sym one)
    (subst (λ (x : ℕ). NamesRegister (95 ∷ x ∷ c ∷ []) first) (sym two)
    (subst (λ (x : ℕ). NamesRegister (95 ∷ 82 ∷ x ∷ []) first) (sym three)
    (by_digit (omega (arith, d, least)) (omega (arith, d, least, most)))))

pub register_named : (register : List ℕ) (first : ℕ) → register_number register ≡ Some first ↔ NamesRegister register first
register_named register first = (there register, back register first)
  where
    there : (register : List ℕ) → register_number register ≡ Some first → NamesRegister register first
    there [] h = absurd (nothing_there first h)
    there (a ∷ []) h = absurd (nothing_there first h)
    there (a ∷ b ∷ []) h = absurd (nothing_there first h)
    there (a ∷ b ∷ c ∷ []) h = digit_is a b c first h
    there (a ∷ b ∷ c ∷ d ∷ more) h = absurd (nothing_there first h)

    back : (register : List ℕ) (first : ℕ) → NamesRegister register first → register_number register ≡ Some first
    back _ _ (by_digit {n = n} least most) =
        granted (nat_le 50 (48 + n) && nat_le (48 + n) 55) (48 + n - 48) n (digits n least most) (omega arith)
      where
        digits : (n : ℕ) → 2 ≤ n → n ≤ 7 → (nat_le 50 (48 + n) && nat_le (48 + n) 55) ≡ true
        digits n least most = grind (arith, nat_tests, least, most)

number_is : (o : Option PlainType) (ty : PlainType) → number_type o ≡ Some ty ↔ ((o ≡ Some ty) × IsArithmetic ty)
number_is o ty = tested is_arithmetic IsArithmetic arithmetics o ty

pub register_typed : (k : Known) (ss : t.Specs) (ty : PlainType) → register_type (length k.structs) (specified k.tags ss) ≡ Some ty
    ↔ (MeanType k.tags ss [] ty × IsObject (length k.structs) ty)
register_typed k ss ty =
    let o = object_is (length k.structs) (meant_type (void_at (specified k.tags ss).types) (head_of (specified k.tags ss) []).ty) ty in (
      λ h. ((type_meant k.tags ss [] ty).0 (o.0 h).0, (o.0 h).1),
      λ h. o.1 ((type_meant k.tags ss [] ty).1 h.0, h.1),
    )

-- a type that ends at the last register, or before it
passing_is : (structs : List PlainStruct) (first : ℕ) (ty : PlainType) → nat_lt 8 (first + size_of_type structs ty) ≡ false
    → first + size_of_type structs ty ≤ 8
passing_is structs first ty e = grind (arith, nat_tests, e)

passing_back : (structs : List PlainStruct) (first : ℕ) (ty : PlainType) → first + size_of_type structs ty ≤ 8
    → nat_lt 8 (first + size_of_type structs ty) ≡ false
passing_back structs first ty le = grind (arith, nat_tests, le)

abbrev register_typed_by : Known → t.Specs → Option PlainType
register_typed_by k ss = register_type (length k.structs) (specified k.tags ss)

-- the type of an object that lies in registers
pub register_types : (k : Known) (register : List ℕ) (ss : t.Specs) (ty : PlainType)
    → type_in k.structs (register_number register) (register_typed_by k ss) ≡ Some ty ↔ TypeRegister k register ss ty
register_types k register ss ty = (there, back)
  where
    there : type_in k.structs (register_number register) (register_typed_by k ss) ≡ Some ty → TypeRegister k register ss ty
    there h =
        let u = unless (passes_last k.structs (register_number register) (register_typed_by k ss)) (number_type (register_typed_by k ss)) ty h in
        let a = (number_is (register_typed_by k ss) ty).0 u.1 in
        let o = (register_typed k ss ty).0 a.0 in
        record {
          meant = o.0;
          number = a.1;
          object = o.1;
          inside = λ first n.
              passing_is k.structs first ty
              (sym (ap (λ (z : Option ℕ). passes_last k.structs z (register_typed_by k ss)) ((register_named register first).1 n)
              ∙ ap (λ (z : Option PlainType). passes_last k.structs (Some first) z) a.0)
              ∙ u.0);
        }

    fits : (o : Option ℕ) → register_number register ≡ o → TypeRegister k register ss ty → passes_last k.structs o (Some ty) ≡ false
    fits None e h = refl
    fits (Some first) e h = passing_back k.structs first ty (h.inside first ((register_named register first).0 e))

    back : TypeRegister k register ss ty → type_in k.structs (register_number register) (register_typed_by k ss) ≡ Some ty
    back h =
        let o = (register_typed k ss ty).1 (h.meant, h.object) in
        ap (λ (b : Bool). if b then None else number_type (register_typed_by k ss))
        (ap (λ (z : Option PlainType). passes_last k.structs (register_number register) z) o
        ∙ fits (register_number register) refl h)
        ∙ (number_is (register_typed_by k ss) ty).1 (o, h.number)

abbrev said_before : Known → t.Specs → Option PlainType
said_before k ss = meant_type (void_at (specified k.tags ss).types) (head_of (specified k.tags ss) []).ty

pub register_declares : (k : Known) (w : Spot) (at : Spot) (register : List ℕ) (ss : t.Specs) (name : t.Identifier) (e : Spot) (first : ℕ)
    (ty : PlainType)
    → (((register_declared k (t.register_object w (t.identifier at register) ss name e)).first ≡ Some first)
    × ((register_declared k (t.register_object w (t.identifier at register) ss name e)).ty ≡ Some ty))
    ↔ DeclareRegister k register ss first ty
register_declares k w at register ss name e first ty = (there, back)
  where
    there : (register_number register ≡ Some first) × (type_in k.structs (register_number register) (register_typed_by k ss) ≡ Some ty)
        → DeclareRegister k register ss first ty
    there (n, h) =
        let u = unless (passes_last k.structs (register_number register) (register_typed_by k ss)) (number_type (register_typed_by k ss)) ty h in
        let a = (number_is (register_typed_by k ss) ty).0 u.1 in
        let o = (object_is (length k.structs) (said_before k ss) ty).0 a.0 in
        record {
          named = (register_named register first).0 n;
          meant = (type_meant k.tags ss [] ty).0 o.0;
          number = a.1;
          object = o.1;
          inside =
              passing_is k.structs first ty
              (sym (ap (λ (z : Option ℕ). passes_last k.structs z (register_typed_by k ss)) n
              ∙ ap (λ (z : Option PlainType). passes_last k.structs (Some first) z) a.0)
              ∙ u.0);
        }

    back : DeclareRegister k register ss first ty
        → (register_number register ≡ Some first) × (type_in k.structs (register_number register) (register_typed_by k ss) ≡ Some ty)
    back h =
        let n = (register_named register first).1 h.named in
        let o = (object_is (length k.structs) (said_before k ss) ty).1 ((type_meant k.tags ss [] ty).1 h.meant, h.object) in (
          n,
          ap (λ (b : Bool). if b then None else number_type (register_typed_by k ss))
              (ap (λ (z : Option ℕ). passes_last k.structs z (register_typed_by k ss)) n
              ∙ ap (λ (z : Option PlainType). passes_last k.structs (Some first) z) o
              ∙ passing_back k.structs first ty h.inside)
              ∙ (number_is (register_typed_by k ss) ty).1 (o, h.number),
        )

pub declarators_are_said : ExpressionLaws → DeclaratorsAreSaid
declarators_are_said laws = record {
  objects = λ k ss stars name shape start ty. object_declares laws.meanings (uses_conditional laws) k ss stars name shape start ty;
  constness = λ k ss stars name shape start. const_is k.tags ss stars;
  spaces = λ k ss stars name shape start. space_is k.tags ss stars;
  params = param_declares;
  constness_of_params = λ tags n ss stars name. const_is tags ss stars;
  results = result_declares;
  registers = register_declares;
  constness_of_registers = λ k w at register ss name e. const_is k.tags ss [];
}
