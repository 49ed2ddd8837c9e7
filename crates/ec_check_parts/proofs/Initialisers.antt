-- What is told of initialisers breaks a constraint there, and the other way round.
use Rattle.std.proofs.Common.{◌≡◌, ◌∙◌, ◌+◌, ◌<◌, ℕ, Bool, true, false, not, ◌||◌, List, [], ◌∷◌, refl, sym, ap, subst, inl, inr}
use Rattle.std.specs.Prelude.{◌⊎◌, ◌↔◌, if◌then◌else◌, nat_lt, is_none, Option, Some, None}
use Rattle.std.specs.Bool.{Decides}
use Rattle.std.proofs.lemmas.Bool.{false≢true}
use Rattle.std.proofs.lemmas.Bool.Decides.{Decides-like, Decides-not, Decides-or, Decides-ltb}
use Rattle.ec_grammar.specs.declared.Spot.{Spot}
use Rattle.ec_grammar.specs.Trees as t
use Rattle.ec_core.specs.declared.programs.LeafInit.{LeafInit}
use Rattle.ec_core.specs.Plain.{PlainType, PlainStruct, PlainExpr}
use Rattle.ec_check_operands.specs.declared.faults.Fault.{Fault}
use Rattle.ec_check_operands.specs.Laws.{IsTold}
use Rattle.ec_check_operands.specs.Operands.{Operand, with_one}
use Rattle.ec_check_operands.specs.Sorts.{is_aggregate}
use Rattle.ec_check_forms.specs.Constraints.{IsAggregate}
use Rattle.ec_check_forms.specs.Nodes.{used, use_rules}
use Rattle.ec_check_forms.specs.Sites.{a_use, a_passing}
use Rattle.ec_check_forms.proofs.Decided.{aggregates}
use Rattle.ec_check_names.specs.Firsts.{first_assignment}
use Rattle.ec_check_expressions.specs.Expressions.{of_assignment, assignment_sites}
use Rattle.ec_check_expressions.specs.Known.{Known}
use Rattle.ec_check_expressions.specs.Sites as expressions
use Rattle.ec_check_initialisers.specs.Forms.{is_constant_assignment}
use Rattle.ec_check_initialisers.specs.Items.{leaf_of, is_other, has_no_leaf}
use Rattle.ec_check_initialisers.specs.Locals.{items_count, leaf_sites, items_sites}
use Rattle.ec_check_initialisers.specs.Parts.{part_of, part_count, scalar_of, is_bare, has_no_place}
use Rattle.ec_check_initialisers.specs.Places.{StaticPlace, in_assignment, address_constant, address_form, form_of}
use Rattle.ec_check_initialisers.specs.Sites as initialisers
use Rattle.ec_check_initialisers.specs.Statics.{item_is_null, item_value, item_leaf, walked_leaf, item_sites, walked_sites, static_sites}
use Rattle.ec_check_initialisers.specs.Statics.{static_items_sites}
use Rattle.ec_check_declarations.specs.Sites.{initialiser_in}
use Rattle.ec_check_meanings.specs.Terms.{term_of_assignment}
use Rattle.ec_check_meanings.proofs.Options.{clash, refuted}
use Rattle.ec_check_parts.specs.ConstantForms.{IsConstantTerm}
use Rattle.ec_check_parts.specs.Expressions.{BreakTerm, BreakUsed, in_term}
use Rattle.ec_check_parts.specs.Items.{HasItemValue, IsInitialValue}
use Rattle.ec_check_parts.specs.Initialisers.{IsBare, HasNoPlace, BreakItem, item_used, item_passed, item_bare, HasNoInitialValue}
use Rattle.ec_check_parts.specs.Initialisers.{IsFormless, BreakStaticItem, no_constant_form, formless_bare, static_item, no_initial_value}
use Rattle.ec_check_parts.specs.Initialisers.{BreakInitialiser, BreakPartsFrom, BreakStatic}
use Rattle.ec_check_parts.specs.Laws.{TellAt, InitialisersAreJudged}
use Rattle.ec_check_parts.proofs.Addresses.{address_told}
use Rattle.ec_check_parts.proofs.ConstantForms.{constants_are_told}
use Rattle.ec_check_parts.proofs.Items.{scalar_is, items_have_values}
use Rattle.ec_check_parts.proofs.Joined.{like}
use Rattle.ec_check_parts.proofs.Nested.{IsToldIn, IsToldInside, inside_told, in_expressions}
use Rattle.ec_check_parts.proofs.Expressions.{ExpressionLaws, assignment_told, means_assignment, used_told, uses_is, no_some, same_some}
use Rattle.ec_check_parts.proofs.Expressions.{IsPassing, passing_is}

-- ---- types

bare_told : (ty : Option PlainType) → Decides (is_bare ty) (IsBare ty)
bare_told None = (λ e. absurd (false≢true e), λ h. absurd (no_some h.0 h.1))
bare_told (Some v) =
    (λ e. (v, refl, (aggregates v).0 e), λ h. (aggregates v).1 (subst IsAggregate (sym (same_some v h.0 h.1)) h.2))

-- so many items have no place in a type
abbrev IsWrong : List PlainStruct → (count : ℕ) → PlainType → Type 0
IsWrong structs count u = (¬ IsAggregate u) ⊎ (part_count structs u < count)

wrong_told : (structs : List PlainStruct) (count : ℕ) (u : PlainType)
    → Decides (not (is_aggregate u) || nat_lt (part_count structs u) count) (IsWrong structs count u)
wrong_told structs count u =
    Decides-or (not (is_aggregate u)) (nat_lt (part_count structs u) count) (Decides-not (is_aggregate u) (aggregates u))
    (Decides-ltb (part_count structs u) count)

place_told : (structs : List PlainStruct) (ty : Option PlainType) (count : ℕ)
    → Decides (has_no_place structs ty count) (HasNoPlace structs ty count)
place_told structs None count = (λ e. absurd (false≢true e), λ h. absurd (no_some h.0 h.1))
place_told structs (Some v) count = (
  λ e. (v, refl, (wrong_told structs count v).0 e),
  λ h. (wrong_told structs count v).1 (subst (IsWrong structs count) (sym (same_some v h.0 h.1)) h.2),
)

-- ---- places that follow one another

abbrev TellInside : (List initialisers.Site → List initialisers.Site) → (Fault → Type 0) → Type 0
TellInside sites B = (rest : List initialisers.Site) (f : Fault) → IsToldInside (sites rest) f ↔ (B f ⊎ IsToldInside rest f)

both_inside : (p q : List initialisers.Site → List initialisers.Site) (B C : Fault → Type 0) → TellInside p B → TellInside q C
    → TellInside (λ rest. p (q rest)) (λ f. B f ⊎ C f)
both_inside p q B C h k rest f = (λ a. there ((h (q rest) f).0 a), back)
  where
    later : C f ⊎ IsToldInside rest f → (B f ⊎ C f) ⊎ IsToldInside rest f
    later (inl c) = inl (inr c)
    later (inr a) = inr a

    there : B f ⊎ IsToldInside (q rest) f → (B f ⊎ C f) ⊎ IsToldInside rest f
    there (inl b) = inl (inl b)
    there (inr a) = later ((k rest f).0 a)

    back : (B f ⊎ C f) ⊎ IsToldInside rest f → IsToldInside (p (q rest)) f
    back (inl (inl b)) = (h (q rest) f).1 (inl b)
    back (inl (inr c)) = (h (q rest) f).1 (inr ((k rest f).1 (inl c)))
    back (inr a) = (h (q rest) f).1 (inr ((k rest f).1 (inr a)))

nothing_inside : TellInside (λ rest. rest) (λ f. ⊥)
nothing_inside rest f = (λ h. inr h, back)
  where
    back : ⊥ ⊎ IsToldInside rest f → IsToldInside rest f
    back (inl h) = absurd h
    back (inr h) = h

-- what is told at braces
abbrev BreakBraces : List PlainStruct → Option PlainType → (count at : ℕ) → Fault → Type 0
BreakBraces structs ty count at f = (f.rule ≡ 14) × (f.at ≡ at) × HasNoPlace structs ty count

braces_told : (structs : List PlainStruct) (ty : Option PlainType) (count at : ℕ)
    → TellInside (λ rest. initialisers.braces structs ty count at ∷ rest) (BreakBraces structs ty count at)
braces_told structs ty count at rest f = (there, back)
  where
    there : IsToldInside (initialisers.braces structs ty count at ∷ rest) f → BreakBraces structs ty count at f ⊎ IsToldInside rest f
    there (inl (inl (b, a, r))) = inl (r, a, (place_told structs ty count).0 b)
    there (inl (inr h)) = absurd h
    there (inr h) = inr h

    back : BreakBraces structs ty count at f ⊎ IsToldInside rest f → IsToldInside (initialisers.braces structs ty count at ∷ rest) f
    back (inl (r, a, h)) = inl (inl ((place_told structs ty count).1 h, a, r))
    back (inr h) = inr h

-- an item that has the form of a constant expression: the size of a type
spot : Spot
spot = record { index = 0; at = 0 }

abbrev a_constant : t.Assignment
a_constant = t.value
    (t.plain (t.operand (t.uncast (t.size spot spot (t.type_name (t.specs (t.struct_spec spot (t.identifier spot [])) []) []) spot))))

module _ (laws : ExpressionLaws) (k : Known) where
  -- ---- items

  module _ (ty : Option PlainType) (a : t.Assignment) where
    abbrev m : Option Operand
    m = of_assignment k a

    abbrev at : ℕ
    at = first_assignment a

    abbrev around : List expressions.Site
    around = expressions.on (a_use m at) ∷ expressions.on (a_passing (used m) (scalar_of ty) at) ∷ []

    item_told : TellInside (leaf_sites k (t.initial_value a) ty) (BreakItem k ty a)
    item_told rest f = (
      λ h. there ((in_expressions (assignment_sites k a around) (initialisers.a_bare ty at ∷ rest) f).0 h),
      λ h. (in_expressions (assignment_sites k a around) (initialisers.a_bare ty at ∷ rest) f).1 (back h),
    )
      where
        use_told : BreakTerm k (term_of_assignment a) f ⊎ (IsTold (use_rules m at) f ⊎ ⊥) ↔ BreakUsed k (term_of_assignment a) at f
        use_told = used_told k (term_of_assignment a) m (means_assignment laws k a) at f

        passed : IsPassing (used m) (scalar_of ty) at f → BreakItem k ty a f
        passed (o, e, u, q, b) =
            let s = (scalar_is ty u).0 q in
            item_passed o ((uses_is k (term_of_assignment a) m (means_assignment laws k a) o).1 e) u s.0 s.1 b

        from_items : BreakTerm k (term_of_assignment a) f ⊎ IsToldIn around f → BreakItem k ty a f
        from_items (inl b) = item_used (in_term b)
        from_items (inr (inl h)) = item_used (use_told.0 (inr (inl h)))
        from_items (inr (inr (inl h))) = passed ((passing_is laws.types (used m) (scalar_of ty) at f).0 h)
        from_items (inr (inr (inr h))) = absurd h

        there : IsToldIn (assignment_sites k a around) f ⊎ IsToldInside (initialisers.a_bare ty at ∷ rest) f
            → BreakItem k ty a f ⊎ IsToldInside rest f
        there (inl h) = inl (from_items ((assignment_told laws k a around f).0 h))
        there (inr (inl (inl (b, q, r)))) = inl (item_bare r q ((bare_told ty).0 b))
        there (inr (inl (inr h))) = absurd h
        there (inr (inr h)) = inr h

        to_around : BreakTerm k (term_of_assignment a) f ⊎ (IsTold (use_rules m at) f ⊎ ⊥)
            → BreakTerm k (term_of_assignment a) f ⊎ IsToldIn around f
        to_around (inl b) = inl b
        to_around (inr (inl h)) = inr (inl h)
        to_around (inr (inr h)) = absurd h

        back : BreakItem k ty a f ⊎ IsToldInside rest f
            → IsToldIn (assignment_sites k a around) f ⊎ IsToldInside (initialisers.a_bare ty at ∷ rest) f
        back (inl (item_used b)) = inl ((assignment_told laws k a around f).1 (to_around (use_told.1 b)))
        back (inl (item_passed o v u q n b)) =
            inl ((assignment_told laws k a around f).1 (inr (inr (inl ((passing_is laws.types (used m) (scalar_of ty) at f).1
            (o, (uses_is k (term_of_assignment a) m (means_assignment laws k a) o).0 v, u, (scalar_is ty u).1 (q, n), b))))))
        back (inl (item_bare r q b)) = inr (inl (inl ((bare_told ty).1 b, q, r)))
        back (inr h) = inr (inr h)

  -- ---- objects in blocks

  mutual
    initialiser_told : (i : t.Initialiser) (ty : Option PlainType) → TellInside (leaf_sites k i ty) (BreakInitialiser k ty i)
    initialiser_told (t.initial_value a) ty = item_told ty a
    initialiser_told (t.braces l first more c r) ty =
        both_inside (λ rest. initialisers.braces k.structs ty (items_count more + 1) l.index ∷ rest)
        (λ rest. leaf_sites k first (part_of k.structs ty 0) (items_sites k ty 1 more rest))
        (BreakBraces k.structs ty (items_count more + 1) l.index)
        (λ f. BreakInitialiser k (part_of k.structs ty 0) first f ⊎ BreakPartsFrom (BreakItem k) k.structs ty 1 more f)
        (braces_told k.structs ty (items_count more + 1) l.index)
        (both_inside (leaf_sites k first (part_of k.structs ty 0)) (items_sites k ty 1 more)
        (BreakInitialiser k (part_of k.structs ty 0) first) (BreakPartsFrom (BreakItem k) k.structs ty 1 more)
        (initialiser_told first (part_of k.structs ty 0)) (initialisers_told ty 1 more))

    initialisers_told : (ty : Option PlainType) (i : ℕ) (more : t.Initialisers)
        → TellInside (items_sites k ty i more) (BreakPartsFrom (BreakItem k) k.structs ty i more)
    initialisers_told ty i t.no_initialisers = nothing_inside
    initialisers_told ty i (t.initialisers s x more) =
        both_inside (leaf_sites k x (part_of k.structs ty i)) (items_sites k ty (i + 1) more)
        (BreakInitialiser k (part_of k.structs ty i) x) (BreakPartsFrom (BreakItem k) k.structs ty (i + 1) more)
        (initialiser_told x (part_of k.structs ty i)) (initialisers_told ty (i + 1) more)

  -- ---- static objects

  module _ (a : t.Assignment) where
    none_told : (o : Option LeafInit) → Decides (is_none o) (o ≡ None)
    none_told None = (λ e. refl, λ e. refl)
    none_told (Some x) = (λ e. absurd (false≢true e), λ e. cc)

    -- what has the form of a constant expression or not, and that of an address constant or not
    formless_by : (b : Bool) (p : Option StaticPlace)
        → Decides (is_other (if b then form_of k a_constant else address_form p)) ((b ≡ false) × (p ≡ None))
    formless_by true p = (λ e. absurd (false≢true e), λ h. absurd (false≢true (sym h.0)))
    formless_by false None = (λ e. (refl, refl), λ h. refl)
    formless_by false (Some s) = (λ e. absurd (false≢true e), λ h. absurd (no_some s (sym h.1)))

    formless_told : Decides (is_other (form_of k a)) (IsFormless k a)
    formless_told =
        Decides-like (is_other (form_of k a)) there back
        (formless_by (is_constant_assignment k a) (address_constant (in_assignment k a)))
      where
        constant : Decides (is_constant_assignment k a) (IsConstantTerm k (term_of_assignment a))
        constant = (constants_are_told laws.meanings k).assignments a

        there : (is_constant_assignment k a ≡ false) × (address_constant (in_assignment k a) ≡ None) → IsFormless k a
        there (e, q) = (λ h. clash (constant.1 h) e, λ s h. no_some s (sym q ∙ (address_told laws k a s).1 h))

        back : IsFormless k a → (is_constant_assignment k a ≡ false) × (address_constant (in_assignment k a) ≡ None)
        back (n, m) = (refuted (is_constant_assignment k a) (λ e. n (constant.0 e)), by (address_constant (in_assignment k a)) refl)
          where
            by : (o : Option StaticPlace) → address_constant (in_assignment k a) ≡ o → o ≡ None
            by None e = refl
            by (Some s) e = absurd (m s ((address_told laws k a s).0 e))

    module _ (ty : Option PlainType) where
      -- one that is looked into
      walked_by : (b : Bool) (p : Option StaticPlace) → is_other (if b then form_of k a_constant else address_form p) ≡ false
          → (rest : List initialisers.Site)
          → item_sites k (if b then form_of k a_constant else address_form p) ty a rest
          ≡ walked_sites k (if b then form_of k a_constant else address_form p) ty a rest
      walked_by true p n rest = refl
      walked_by false None n rest = absurd (false≢true (sym n))
      walked_by false (Some s) n rest = refl

      -- and one that is not
      formless_sites : (b : Bool) (p : Option StaticPlace) → is_other (if b then form_of k a_constant else address_form p) ≡ true
          → (rest : List initialisers.Site)
          → item_sites k (if b then form_of k a_constant else address_form p) ty a rest
          ≡ initialisers.a_bare ty (first_assignment a)
          ∷ initialisers.a_leaf (if b then form_of k a_constant else address_form p) false None (first_assignment a) ∷ rest
      formless_sites true p n rest = absurd (false≢true n)
      formless_sites false None n rest = refl
      formless_sites false (Some s) n rest = absurd (false≢true n)

      leaf_by : (o : Option PlainExpr) → Decides (has_no_leaf (form_of k a) (item_is_null k ty a) o)
          ((e : PlainExpr) × (o ≡ Some e) × (leaf_of (form_of k a) (item_is_null k ty a) e ≡ None))
      leaf_by None = (λ e. absurd (false≢true e), λ h. absurd (no_some h.0 h.1))
      leaf_by (Some v) = (
        λ e. (v, refl, (none_told (leaf_of (form_of k a) (item_is_null k ty a) v)).0 e),
        λ h. (none_told (leaf_of (form_of k a) (item_is_null k ty a) v)).1
            (subst (λ z. leaf_of (form_of k a) (item_is_null k ty a) z ≡ None) (sym (same_some v h.0 h.1)) h.2),
      )

      -- the leaf of an item that is looked into
      leaf_walked : (b : Bool) (p : Option StaticPlace) → is_other (if b then form_of k a_constant else address_form p) ≡ false
          → item_leaf k (if b then form_of k a_constant else address_form p) ty a
          ≡ walked_leaf k (if b then form_of k a_constant else address_form p) ty a
      leaf_walked true p n = refl
      leaf_walked false None n = absurd (false≢true (sym n))
      leaf_walked false (Some s) n = refl

      abbrev leaf_by_form : PlainExpr → Option LeafInit
      leaf_by_form e = leaf_of (form_of k a) (item_is_null k ty a) e

      abbrev NoLeaf : Type 0
      NoLeaf = (e : PlainExpr) × (item_value k ty a ≡ Some e) × (leaf_by_form e ≡ None)

      module _ (n : is_other (form_of k a) ≡ false) where
        values : (e : PlainExpr) → item_value k ty a ≡ Some e ↔ HasItemValue k ty a e
        values e = (items_have_values laws).values k ty a e

        leaf_is : (leaf : LeafInit) → with_one (item_value k ty a) leaf_by_form ≡ Some leaf ↔ IsInitialValue k ty a leaf
        leaf_is leaf =
            subst (λ (z : Option LeafInit). z ≡ Some leaf ↔ IsInitialValue k ty a leaf)
            (leaf_walked (is_constant_assignment k a) (address_constant (in_assignment k a)) n) ((items_have_values laws).leaves k ty a leaf)

        no_leaf_there : NoLeaf → HasNoInitialValue k ty a
        no_leaf_there (e, v, q) = (e, (values e).0 v, none)
          where
            none : (leaf : LeafInit) → ¬ IsInitialValue k ty a leaf
            none leaf h =
                no_some leaf
                (sym (ap (λ (z : Option PlainExpr). with_one z leaf_by_form) v ∙ q) ∙ (leaf_is leaf).1 h)

        no_leaf_back : HasNoInitialValue k ty a → NoLeaf
        no_leaf_back (e, h, none) = (e, (values e).1 h, by (leaf_by_form e) refl)
          where
            by : (o : Option LeafInit) → leaf_by_form e ≡ o → o ≡ None
            by None q = refl
            by (Some leaf) q =
                absurd (none leaf ((leaf_is leaf).0 (ap (λ (z : Option PlainExpr). with_one z leaf_by_form) ((values e).1 h) ∙ q)))

      leaf_told : is_other (form_of k a) ≡ false
          → Decides (is_other (form_of k a) || has_no_leaf (form_of k a) (item_is_null k ty a) (item_value k ty a))
          (HasNoInitialValue k ty a)
      leaf_told n =
          subst (λ b. Decides (b || has_no_leaf (form_of k a) (item_is_null k ty a) (item_value k ty a)) (HasNoInitialValue k ty a)) (sym n)
          (Decides-like (has_no_leaf (form_of k a) (item_is_null k ty a) (item_value k ty a)) (no_leaf_there n) (no_leaf_back n)
          (leaf_by (item_value k ty a)))

      abbrev leaf : List initialisers.Site → List initialisers.Site
      leaf rest = initialisers.a_leaf (form_of k a) (item_is_null k ty a) (item_value k ty a) (first_assignment a) ∷ rest

      walked_told : is_other (form_of k a) ≡ false
          → TellInside (λ rest. leaf_sites k (t.initial_value a) ty (leaf rest)) (BreakStaticItem k ty a)
      walked_told n rest f = (λ h. there ((item_told ty a (leaf rest) f).0 h), λ h. (item_told ty a (leaf rest) f).1 (back h))
        where
          formed : ¬ IsFormless k a
          formed h = false≢true (sym n ∙ formless_told.1 h)

          there : BreakItem k ty a f ⊎ IsToldInside (leaf rest) f → BreakStaticItem k ty a f ⊎ IsToldInside rest f
          there (inl b) = inl (static_item formed b)
          there (inr (inl (inl (b, q, r)))) = inl (no_initial_value r q formed ((leaf_told n).0 b))
          there (inr (inl (inr h))) = absurd h
          there (inr (inr h)) = inr h

          back : BreakStaticItem k ty a f ⊎ IsToldInside rest f → BreakItem k ty a f ⊎ IsToldInside (leaf rest) f
          back (inl (no_constant_form r q w)) = absurd (formed w)
          back (inl (formless_bare r q w b)) = absurd (formed w)
          back (inl (static_item w b)) = inl b
          back (inl (no_initial_value r q w h)) = inr (inl (inl ((leaf_told n).1 h, q, r)))
          back (inr h) = inr (inr h)

      abbrev bare_and_leaf : List initialisers.Site → List initialisers.Site
      bare_and_leaf rest =
          initialisers.a_bare ty (first_assignment a) ∷ initialisers.a_leaf (form_of k a) false None (first_assignment a) ∷ rest

      unwalked_told : is_other (form_of k a) ≡ true → TellInside bare_and_leaf (BreakStaticItem k ty a)
      unwalked_told n rest f = (there, back)
        where
          formless : IsFormless k a
          formless = formless_told.0 n

          other : (is_other (form_of k a) || has_no_leaf (form_of k a) false None) ≡ true
          other = subst (λ b. (b || has_no_leaf (form_of k a) false None) ≡ true) (sym n) refl

          there : IsToldInside (bare_and_leaf rest) f → BreakStaticItem k ty a f ⊎ IsToldInside rest f
          there (inl (inl (b, q, r))) = inl (formless_bare r q formless ((bare_told ty).0 b))
          there (inl (inr h)) = absurd h
          there (inr (inl (inl (b, q, r)))) = inl (no_constant_form r q formless)
          there (inr (inl (inr h))) = absurd h
          there (inr (inr h)) = inr h

          back : BreakStaticItem k ty a f ⊎ IsToldInside rest f → IsToldInside (bare_and_leaf rest) f
          back (inl (no_constant_form r q w)) = inr (inl (inl (other, q, r)))
          back (inl (formless_bare r q w b)) = inl (inl ((bare_told ty).1 b, q, r))
          back (inl (static_item w b)) = absurd (w formless)
          back (inl (no_initial_value r q w h)) = absurd (w formless)
          back (inr h) = inr (inr h)

      static_by : (b : Bool) → is_other (form_of k a) ≡ b → TellInside (item_sites k (form_of k a) ty a) (BreakStaticItem k ty a)
      static_by false n rest f =
          subst (λ z. IsToldInside z f ↔ (BreakStaticItem k ty a f ⊎ IsToldInside rest f))
          (sym (walked_by (is_constant_assignment k a) (address_constant (in_assignment k a)) n rest)) (walked_told n rest f)
      static_by true n rest f =
          subst (λ z. IsToldInside z f ↔ (BreakStaticItem k ty a f ⊎ IsToldInside rest f))
          (sym (formless_sites (is_constant_assignment k a) (address_constant (in_assignment k a)) n rest)) (unwalked_told n rest f)

  mutual
    static_told : (i : t.Initialiser) (ty : Option PlainType) → TellInside (static_sites k i ty) (BreakStatic k ty i)
    static_told (t.initial_value a) ty = static_by a ty (is_other (form_of k a)) refl
    static_told (t.braces l first more c r) ty =
        both_inside (λ rest. initialisers.braces k.structs ty (items_count more + 1) l.index ∷ rest)
        (λ rest. static_sites k first (part_of k.structs ty 0) (static_items_sites k ty 1 more rest))
        (BreakBraces k.structs ty (items_count more + 1) l.index)
        (λ f. BreakStatic k (part_of k.structs ty 0) first f ⊎ BreakPartsFrom (BreakStaticItem k) k.structs ty 1 more f)
        (braces_told k.structs ty (items_count more + 1) l.index)
        (both_inside (static_sites k first (part_of k.structs ty 0)) (static_items_sites k ty 1 more)
        (BreakStatic k (part_of k.structs ty 0) first) (BreakPartsFrom (BreakStaticItem k) k.structs ty 1 more)
        (static_told first (part_of k.structs ty 0)) (statics_told ty 1 more))

    statics_told : (ty : Option PlainType) (i : ℕ) (more : t.Initialisers)
        → TellInside (static_items_sites k ty i more) (BreakPartsFrom (BreakStaticItem k) k.structs ty i more)
    statics_told ty i t.no_initialisers = nothing_inside
    statics_told ty i (t.initialisers s x more) =
        both_inside (static_sites k x (part_of k.structs ty i)) (static_items_sites k ty (i + 1) more)
        (BreakStatic k (part_of k.structs ty i) x) (BreakPartsFrom (BreakStaticItem k) k.structs ty (i + 1) more)
        (static_told x (part_of k.structs ty i)) (statics_told ty (i + 1) more)

-- nothing stands behind them
alone : (xs : List initialisers.Site) (B : Fault → Type 0) → ((f : Fault) → IsToldInside xs f ↔ (B f ⊎ ⊥)) → TellAt (initialiser_in xs) B
alone xs B law =
    like (initialiser_in xs) (IsToldInside xs) B (λ f h. one f ((law f).0 h)) (λ f b. (law f).1 (inl b)) (inside_told xs)
  where
    one : (f : Fault) → B f ⊎ ⊥ → B f
    one f (inl b) = b
    one f (inr h) = absurd h

pub initialisers_are_judged : ExpressionLaws → InitialisersAreJudged
initialisers_are_judged laws = record {
  locals = λ k i ty. alone (leaf_sites k i ty []) (BreakInitialiser k ty i) (initialiser_told laws k i ty []);
  statics = λ k i ty. alone (static_sites k i ty []) (BreakStatic k ty i) (static_told laws k i ty []);
}
