-- Parameters have scalar types, and results have scalar types or none.
use Rattle.std.proofs.Common.{◌≡◌, ℕ, Bool, true, false, not, ◌&&◌, ◌||◌, List, [], ◌∷◌, refl, sym, subst, inl, inr}
use Rattle.std.specs.Prelude.{◌⊎◌, Option, Some, None, IsSome, IsSomeAnd, IfSome, option_map}
use Rattle.std.proofs.lemmas.Bool.{both_ways, and_parts, and_from, not-false, true≢false, false≢true}
use Rattle.ec_check_operands.specs.Faults.{Judgement}
use Rattle.ec_grammar.specs.Trees as t
use Rattle.ec_core.specs.Layout.{IsScalar}
use Rattle.ec_core.specs.Plain.{PlainType, void, integer, fixed, pointer, array, struct, PlainStruct}
use Rattle.ec_core.specs.Valid.{IsScalarOrVoid}
use Rattle.ec_check_names.specs.declared.specifiers.Lone.{Lone}
use Rattle.ec_check_names.specs.declared.specifiers.Specified.{Specified}
use Rattle.ec_check_names.specs.declared.tags.TagState.TheVariants.{Struct as StructTag}
use Rattle.ec_check_names.specs.declared.words.BaseType.{BaseType}
use Rattle.ec_check_names.specs.declared.words.BaseType.TheVariants.{Void, Number, Struct}
use Rattle.ec_check_names.specs.Specifiers.{base_of, at_void, specified, specs_rules, void_at}
use Rattle.ec_check_names.specs.Tags.{Tags, tag_state}
use Rattle.ec_check_names.specs.Words.{base_type}
use Rattle.ec_check_operands.specs.Sorts.{is_void, is_scalar}
use Rattle.ec_check_forms.specs.Constraints.{IsStruct}
use Rattle.ec_check_forms.specs.Validity.{IsUsable, IsPlaceType}
use Rattle.ec_check_expressions.specs.Known.{is_sized}
use Rattle.ec_check_expressions.specs.TypeNames.{said_type, void_said, meant_type}
use Rattle.ec_check_expression_laws.specs.Laws.{AreUnbroken, SaidTypesArePlaced, KeptTypesAreSaid}
use Rattle.ec_check_expression_laws.specs.Suits.{IsWholeTag}
use Rattle.ec_check_expression_laws.proofs.KeptTypes.{behind_stars, no_void}
use Rattle.ec_check_declarations.specs.Declarators.{head_of, head_rules}
use Rattle.ec_check_declarations.specs.Functions.{is_no_result, result_type, returned, result_sites}
use Rattle.ec_check_declarations.specs.ObjectTypes.{is_object_type}
use Rattle.ec_check_declarations.specs.Params.{scalar_type, is_no_scalar, param_declared, param_sites}
use Rattle.ec_check_declarations.specs.Sites.{Site, told}
use Rattle.ec_check_statements.specs.Laws.{FunctionTypesAreUsable, KeptFunctionsHaveTypes}
use Rattle.ec_check_statements.proofs.Choices.{if_both}
use Rattle.ec_check_statements.proofs.KeptTypes.{behind_space}
use Rattle.ec_check_statements.proofs.Unbroken.{kept_of, told_of}

-- a type that is void stands where the word does
void_base : (o : Option BaseType) (l : Option Lone) (v : Option ℕ) → at_void o l ≡ v → (v ≡ None) ⊎ (option_map base_type o ≡ Some void)
void_base o l None e = inl refl
void_base None l (Some at) e = cc
void_base (Some Void) l (Some at) e = inr refl
void_base (Some (Number x)) l (Some at) e = cc
void_base (Some (Struct i)) l (Some at) e = cc

module _ (structs : List PlainStruct) where
  placed_scalar : (ty : PlainType) → IsPlaceType structs ty → is_scalar ty ≡ true → IsScalar ty
  placed_scalar void h e = absurd h.object.form
  placed_scalar (integer signed bytes) h e = h.object.form
  placed_scalar (fixed kind sat) h e = tt
  placed_scalar (pointer s k to) h e = tt
  placed_scalar (array of len) h e = absurd (false≢true e)
  placed_scalar (struct i) h e = absurd (false≢true e)

  scalar_placed : (n : ℕ) (o : Option PlainType) → IfSome o (IsPlaceType structs)
      → IfSome (scalar_type n o) (λ ty. IsPlaceType structs ty × IsScalar ty)
  scalar_placed n None h = tt
  scalar_placed n (Some ty) h =
      if_both (λ o. IfSome o (λ ty. IsPlaceType structs ty × IsScalar ty)) (is_scalar ty && is_object_type n ty) (Some ty) None
      (λ e. (h, placed_scalar ty h (and_parts (is_scalar ty) (is_object_type n ty) e).0)) (λ e. tt)

  abbrev IsResult : PlainType → Type 0
  IsResult ty = IsScalarOrVoid ty × IsUsable structs ty

  placed_result : (n : ℕ) (ty : PlainType) → IsPlaceType structs ty
      → (is_void ty || is_scalar ty && is_object_type n ty) ≡ true → IsResult ty
  placed_result n void h e = (inr refl, tt)
  placed_result n (integer signed bytes) h e = (inl h.object.form, h.usable)
  placed_result n (fixed kind sat) h e = (inl tt, tt)
  placed_result n (pointer s k to) h e = (inl tt, h.usable)
  placed_result n (array of len) h e = absurd (false≢true e)
  placed_result n (struct i) h e = absurd (false≢true e)

  some_result : (n : ℕ) (o : Option PlainType) → IfSome o (IsPlaceType structs) → IfSome (result_type n o) IsResult
  some_result n None h = tt
  some_result n (Some ty) h =
      if_both (λ o. IfSome o IsResult) (is_void ty || is_scalar ty && is_object_type n ty) (Some ty) None
      (λ e. placed_result n ty h e) (λ e. tt)

  module _ (said : SaidTypesArePlaced) (tags : Tags)
      (placed : (n : List ℕ) (i : ℕ) → tag_state n tags ≡ StructTag i → IsPlaceType structs (struct i)) where
    said_placed : (ss : t.Specs) (stars : List t.Star)
        → IfSome (meant_type (void_at (specified tags ss).types) (head_of (specified tags ss) stars).ty) (IsPlaceType structs)
    unfolding said_type void_said
    said_placed ss stars = said structs tags placed (t.type_name ss stars)

    plain_result : (n : ℕ) (ss : t.Specs) → (void_at (specified tags ss).types ≡ None) ⊎ ((head_of (specified tags ss) []).ty ≡ Some void)
        → IfSome (result_type n (head_of (specified tags ss) []).ty) IsResult
    plain_result n ss (inl e) =
        some_result n (head_of (specified tags ss) []).ty
        (subst (λ (v : Option ℕ). IfSome (meant_type v (head_of (specified tags ss) []).ty) (IsPlaceType structs)) e (said_placed ss []))
    plain_result n ss (inr e) =
        subst (λ (o : Option PlainType). IfSome (result_type n o) IsResult) (sym e) (inr refl, tt)

    results : (n : ℕ) (ss : t.Specs) (stars : List t.Star) → IfSome (returned n (specified tags ss) stars) IsResult
    results n ss [] =
        plain_result n ss
        (void_base (base_of (specified tags ss).types) (specified tags ss).types.lone (void_at (specified tags ss).types) refl)
    results n ss (first ∷ more) =
        some_result n (meant_type (void_at (specified tags ss).types) (head_of (specified tags ss) (first ∷ more)).ty)
        (said_placed ss (first ∷ more))

    params : (n : ℕ) (x : t.Param) → IfSome (param_declared tags n x).ty (λ ty. IsPlaceType structs ty × IsScalar ty)
    params n (t.param (t.type_name ss stars) name) =
        scalar_placed n (meant_type (void_at (specified tags ss).types) (head_of (specified tags ss) stars).ty) (said_placed ss stars)

pub function_types_are_usable : SaidTypesArePlaced → FunctionTypesAreUsable
function_types_are_usable said structs tags placed n = record {
  params = params structs said tags placed n;
  results = results structs said tags placed n;
}

-- ---- where no rule is broken

module _ (n : ℕ) where
  sized_object : (ty : PlainType) → is_sized n ty ≡ true → is_object_type n ty ≡ true
  sized_object void q = absurd (false≢true q)
  sized_object (integer signed bytes) q = q
  sized_object (fixed kind sat) q = refl
  sized_object (pointer s c to) q = q
  sized_object (array of len) q = absurd (false≢true q)
  sized_object (struct index) q = q

  scalar_there : (o : Option PlainType) → IsSomeAnd o (λ ty. is_sized n ty ≡ true) → is_no_scalar o ≡ false → IsSome (scalar_type n o)
  scalar_there None h q = absurd h
  scalar_there (Some ty) h q =
      if_both IsSome (is_scalar ty && is_object_type n ty) (Some ty) None (λ e. refl)
      (λ e. absurd (both_ways (is_scalar ty && is_object_type n ty) e
      (and_from (is_scalar ty) (is_object_type n ty) (not-false (is_scalar ty) q) (sized_object ty h))))

  -- a result, which is no struct
  abbrev HasResult : Option PlainType → Type 0
  HasResult o = IsSomeAnd (result_type n o) (λ ty. ¬ IsStruct ty)

  no_struct : (ty : PlainType) → not (is_scalar ty || is_void ty) ≡ false → ¬ IsStruct ty
  no_struct void q h = h
  no_struct (integer signed bytes) q h = h
  no_struct (fixed kind sat) q h = h
  no_struct (pointer s k to) q h = h
  no_struct (array of len) q h = h
  no_struct (struct i) q h = true≢false q

  may_return : (ty : PlainType) → is_sized n ty ≡ true → not (is_scalar ty || is_void ty) ≡ false
      → (is_void ty || is_scalar ty && is_object_type n ty) ≡ true
  may_return void h q = refl
  may_return (integer signed bytes) h q = h
  may_return (fixed kind sat) h q = refl
  may_return (pointer s k to) h q = h
  may_return (array of len) h q = absurd (true≢false q)
  may_return (struct i) h q = absurd (true≢false q)

  result_there : (o : Option PlainType) → IsSomeAnd o (λ ty. is_sized n ty ≡ true) → is_no_result o ≡ false → HasResult o
  result_there None h q = absurd h
  result_there (Some ty) h q =
      if_both (λ o. IsSomeAnd o (λ ty. ¬ IsStruct ty)) (is_void ty || is_scalar ty && is_object_type n ty) (Some ty) None
      (λ e. no_struct ty q)
      (λ e. absurd (both_ways (is_void ty || is_scalar ty && is_object_type n ty) e (may_return ty h q)))

  module _ (said : KeptTypesAreSaid) (tags : Tags) (whole : (name : List ℕ) → IsWholeTag n (tag_state name tags)) where
    unbroken_head : (s : Specified) (misused : Option ℕ) (stars : List t.Star) → AreUnbroken (head_rules false misused s stars)
        → misused ≡ None
    unbroken_head s misused stars u =
        no_void misused (behind_space false (head_of s stars).qualities.space _ (behind_stars stars _ u))

    param_kept : (misnamed : Bool) (x : t.Param) (rest : List Site) → told None (param_sites tags misnamed x rest) ≡ None
        → IsSome (param_declared tags n x).ty × (told None rest ≡ None)
    param_kept misnamed (t.param (t.type_name ss stars) name) rest q =
        let u = kept_of (param_sites tags misnamed (t.param (t.type_name ss stars) name) rest) q in
        let v = unbroken_head (specified tags ss) (void_at (specified tags ss).types) stars u.1.0 in
        let h = said n tags whole false ss stars [] u.0 v in (
          subst (λ (o : Option ℕ). IsSome (scalar_type n (meant_type o (head_of (specified tags ss) stars).ty))) (sym v)
              (scalar_there (head_of (specified tags ss) stars).ty h u.1.1.0.1.0),
          told_of rest u.1.1.1,
        )

    plain_kept : (ss : t.Specs) (js : List Judgement) → AreUnbroken (specs_rules tags true ss js)
        → is_no_result (head_of (specified tags ss) []).ty ≡ false
        → (void_at (specified tags ss).types ≡ None) ⊎ ((head_of (specified tags ss) []).ty ≡ Some void)
        → HasResult (head_of (specified tags ss) []).ty
    plain_kept ss js u q (inl v) = result_there (head_of (specified tags ss) []).ty (said n tags whole true ss [] js u v) q
    plain_kept ss js u q (inr e) = subst HasResult (sym e) (λ h. h)

    result_kept : (ss : t.Specs) (js : List Judgement) (stars : List t.Star) (at : ℕ) (rest : List Site)
        → AreUnbroken (specs_rules tags true ss js)
        → told None (result_sites (specified tags ss) stars at rest) ≡ None
        → IsSomeAnd (returned n (specified tags ss) stars) (λ ty. ¬ IsStruct ty) × (told None rest ≡ None)
    result_kept ss js [] at rest u q =
        let k = kept_of (result_sites (specified tags ss) [] at rest) q in (
          plain_kept ss js u k.1.0.0
              (void_base (base_of (specified tags ss).types) (specified tags ss).types.lone (void_at (specified tags ss).types) refl),
          told_of rest k.1.1,
        )
    result_kept ss js (first ∷ more) at rest u q =
        let k = kept_of (result_sites (specified tags ss) (first ∷ more) at rest) q in
        let v = unbroken_head (specified tags ss) (void_at (specified tags ss).types) (first ∷ more) k.0 in (
          subst (λ (o : Option ℕ). HasResult (meant_type o (head_of (specified tags ss) (first ∷ more)).ty)) (sym v)
              (result_there (head_of (specified tags ss) (first ∷ more)).ty (said n tags whole true ss (first ∷ more) js u v) k.1.0.0),
          told_of rest k.1.1,
        )

pub kept_functions_have_types : KeptTypesAreSaid → KeptFunctionsHaveTypes
kept_functions_have_types said n tags whole = record { params = param_kept n said tags whole; results = result_kept n said tags whole }
