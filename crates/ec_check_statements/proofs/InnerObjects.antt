-- An object of a function that is declared, a local one or a parameter: what is known behind its declarator.
use Rattle.std.proofs.Common.{◌≡◌, ◌<◌, ◌+◌, ◌++◌, ℕ, Bool, true, false, List, [], ◌∷◌, length, refl, sym, subst, inl, arith}
use Rattle.std.specs.Prelude.{nat_lt, Option, Some, None, IsSome, IsSomeAnd, IfSome, slice_get, unwrap_or}
use Rattle.std.proofs.lemmas.Bool.{both_ways, false≢true}
use Rattle.std.proofs.lemmas.Bool.Decides.{nat_tests}
use Rattle.ec_space.specs.declared.space.SpaceId.TheVariants.{Generic}
use Rattle.ec_core.specs.Plain.{PlainType, PlainObject, PlainStorage, PlainProgram}
use Rattle.ec_core.specs.Valid.{IsNamedIn, IsAddressable}
use Rattle.ec_check_names.specs.Names.{an_object}
use Rattle.ec_check_forms.specs.Validity.{IsPlaceType}
use Rattle.ec_check_expression_laws.specs.Laws.{DeclarationsKeepSuiting}
use Rattle.ec_check_expression_laws.specs.Suits.{IsObjectKnown, IsOf}
use Rattle.ec_check_declarations.specs.Scopes.{known_in, has_room, inner_object, made_number, with_object}
use Rattle.ec_check_statements.specs.Laws.{InnerObjectsKeepSuiting}
use Rattle.ec_check_statements.specs.Objects.{AreFirst}
use Rattle.ec_check_statements.proofs.Choices.{if_both}
use Rattle.ec_check_statements.proofs.Growth.{first_before, object_appended}
use Rattle.ec_check_statements.proofs.Scopes.{AnyObject, any_type}
use Rattle.ec_check_statements.proofs.ValidLocals.{at_end, no_longer, room_left}

has_place : (n : ℕ) → n < 65_536 → nat_lt n 65_536 ≡ true
has_place n h = grind (arith, nat_tests, h)

one_longer : (os : List PlainObject) (x : PlainObject) → length (os ++ x ∷ []) ≡ length os + 1
one_longer [] x = refl
one_longer (o ∷ os) x = let h = one_longer os x in omega (arith, h)

module _ (unit : ℕ) (n : List ℕ) (konst : Bool) (storage : PlainStorage) (os : List PlainObject) where
  abbrev object : PlainType → PlainObject
  object ty = inner_object unit n konst storage ty

  -- with room left
  number_made : (ty : Option PlainType) → IsSome ty → has_room os ≡ true → made_number ty os ≡ Some (length os)
  number_made None h e = absurd (false≢true h)
  number_made (Some ty) h e =
      if_both (λ o. o ≡ Some (length os)) (has_room os) (Some (length os)) None (λ q. refl) (λ q. absurd (both_ways (has_room os) q e))

  one_more : (ty : Option PlainType) → IsSome ty → has_room os ≡ true → length (with_object ty object os) ≡ length os + 1
  one_more None h e = absurd (false≢true h)
  one_more (Some ty) h e =
      if_both (λ (all : List PlainObject). length all ≡ length os + 1) (has_room os) (os ++ object ty ∷ []) os
      (λ q. one_longer os (object ty))
      (λ q. absurd (both_ways (has_room os) q e))

  stands : (ty : Option PlainType) → has_room os ≡ true
      → IfSome ty (λ ty. slice_get (with_object (Some ty) object os) (length os) ≡ Some (object ty))
  stands None e = tt
  stands (Some ty) e =
      if_both (λ (all : List PlainObject). slice_get all (length os) ≡ Some (object ty)) (has_room os) (os ++ object ty ∷ []) os
      (λ q. at_end os (object ty))
      (λ q. absurd (both_ways (has_room os) q e))

  stay : (ty : Option PlainType) → AreFirst os (with_object ty object os)
  stay ty =
      first_before (AnyObject unit unit) os (with_object ty object os) (with_object ty object os)
      (object_appended (AnyObject unit unit) ty object os (any_type ty)) (λ i x e. e)

  -- the name is the program's
  module _ (p : PlainProgram) (f : ℕ) (nameable : IsNamedIn f storage) (addressed : IsAddressable storage)
      (room : length p.objects < 65_536) where
    is_known : (ty : PlainType) → IsPlaceType p.structs ty → (o : Option ℕ) → o ≡ Some (length os)
        → slice_get p.objects (length os) ≡ Some (object ty)
        → IsSomeAnd (slice_get p.objects (unwrap_or o 0)) (IsObjectKnown p f ty konst Generic false)
    is_known ty h None e q = cc
    is_known ty h (Some i) e q =
        let same : slice_get p.objects i ≡ Some (object ty) = cc in
        subst (λ (o : Option PlainObject). IsSomeAnd o (IsObjectKnown p f ty konst Generic false)) (sym same)
        (record { typed = refl; constness = refl; spaced = refl; kind = h; nameable = nameable; addressed = inl addressed })

    is_of : (ty : Option PlainType) → IfSome ty (IsPlaceType p.structs) → AreFirst (with_object ty object os) p.objects
        → IsOf p f (an_object (Some (unwrap_or (made_number ty os) 0)) ty konst Generic false)
    is_of None h first = tt
    is_of (Some ty) h first =
        let fits = no_longer os p.objects (λ i x e. first i x (stay (Some ty) i x e)) in
        let e = room_left (length os) (length p.objects) fits room in
        is_known ty h (made_number (Some ty) os) (number_made (Some ty) refl e) (first (length os) (object ty) (stands (Some ty) e))

pub inner_objects_keep_suiting : DeclarationsKeepSuiting → InnerObjectsKeepSuiting
inner_objects_keep_suiting keep c unit n ty konst storage s =
    let k = known_in c s.names in
    let what = an_object (Some (unwrap_or (made_number ty s.objects) 0)) ty konst Generic false in
    record {
      suits = λ p io f h placed named addressed room first.
          (keep k n what).inside p io f h (is_of unit n konst storage s.objects p f named addressed room ty placed first);
      types = λ h there. (keep k n what).types_inside h there;
      stay = stay unit n konst storage s.objects ty;
      number = λ there room. number_made unit n konst storage s.objects ty there (has_place (length s.objects) room);
      counted = λ there room. one_more unit n konst storage s.objects ty there (has_place (length s.objects) room);
      stands = λ room. stands unit n konst storage s.objects ty (has_place (length s.objects) room);
    }
