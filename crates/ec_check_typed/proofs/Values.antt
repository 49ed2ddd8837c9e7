-- What initialisers of objects in blocks and at file scope give is what the walk gives.
use Rattle.std.proofs.Common.{◌≡◌, ◌∙◌, Bool, true, false, List, refl, sym, ap, subst}
use Rattle.std.specs.Prelude.{◌↔◌, if◌then◌else◌, pos, option_map, Option, Some, None}
use Rattle.std.specs.Bool.{Decides}
use Rattle.ec_grammar.specs.Trees as t
use Rattle.ec_core.specs.declared.programs.LeafInit.{LeafInit}
use Rattle.ec_core.specs.declared.programs.LeafInit.TheVariants.{Number, Null, Address}
use Rattle.ec_core.specs.Laws.{TypesAreTold}
use Rattle.ec_core.specs.Layout.{leaves_of_type}
use Rattle.ec_core.specs.Plain.{PlainType, PlainExpr, PlainExprs}
use Rattle.ec_check_operands.specs.declared.operands.Modes.{Modes}
use Rattle.ec_check_operands.specs.Operands.{Operand, made}
use Rattle.ec_check_operands.specs.Options.{with_one}
use Rattle.ec_check_operands.specs.Passing.{brought}
use Rattle.ec_check_operands.specs.Sorts.{is_aggregate, is_pointer}
use Rattle.ec_check_forms.specs.Constraints.{IsPointer, IsAggregate}
use Rattle.ec_check_forms.specs.Nodes.{used}
use Rattle.ec_check_forms.proofs.Decided.{aggregates, pointers}
use Rattle.ec_check_names.specs.Names.{Names}
use Rattle.ec_check_expressions.specs.Callees.{exprs_of}
use Rattle.ec_check_expressions.specs.Expressions.{of_assignment}
use Rattle.ec_check_expressions.specs.Known.{Known}
use Rattle.ec_check_declarations.specs.Scopes.{Context, known_in}
use Rattle.ec_check_file_scope.specs.FileObjects.{initial_leaves}
use Rattle.ec_check_initialisers.specs.Items.{zero_leaf}
use Rattle.ec_check_initialisers.specs.Locals.{leaf_values, with_items}
use Rattle.ec_check_initialisers.specs.Parts.{scalar_of, zero_node, zero_of}
use Rattle.ec_check_initialisers.specs.Places.{form_of}
use Rattle.ec_check_initialisers.specs.Statics.{item_value, item_leaf, static_leaves, with_static_items}
use Rattle.ec_check_statements.specs.Locals.{initial_values}
use Rattle.ec_check_meanings.specs.Laws.{WalkGivesMeanings}
use Rattle.ec_check_meanings.specs.Conversions.{IsPassed}
use Rattle.ec_check_meanings.specs.Means.{Uses}
use Rattle.ec_check_meanings.specs.Terms.{term_of_assignment}
use Rattle.ec_check_meanings.proofs.Conversions.{brought_is, is_brought}
use Rattle.ec_check_meanings.proofs.Options.{clash, refuted, inside, nothing_there, with_given, with_granted}
use Rattle.ec_check_meanings.proofs.Parts.{uses_of, used_to}
use Rattle.ec_check_parts.specs.Items.{HasItemValue, IsInitialValue, a_null, a_number, an_address}
use Rattle.ec_check_parts.specs.Said.{ItemsHaveValues}
use Rattle.ec_check_typed.specs.Initialisers.{IsValue, passed as a_value, IsZero, null_pointer, zero_number, Starts, unset, set, IsLeaf}
use Rattle.ec_check_typed.specs.Initialisers.{IsZeroLeaf, null_pointer_leaf, zero_number_leaf, StartsStatic}
use Rattle.ec_check_typed.specs.Initialisers.{all_zero, initialised, Gives}
use Rattle.ec_check_typed.specs.Laws.{InitialisersAreSaid}
use Rattle.ec_check_typed.proofs.Initialisers.{IsWalk, zeros_to, zeros_are, given_both}

-- the laws that this stands on
pub record ValueLaws : Type 0 where
  pub told : TypesAreTold
  pub meanings : WalkGivesMeanings
  pub items : ItemsHaveValues

-- ---- types without parts

pub scalar_is : (ty : Option PlainType) (to : PlainType) → scalar_of ty ≡ Some to → (ty ≡ Some to) × (¬ IsAggregate to)
scalar_is None to q = absurd (nothing_there to q)
scalar_is (Some ty) to q = by (is_aggregate ty) refl q
  where
    by : (b : Bool) → is_aggregate ty ≡ b → (if b then None else Some ty) ≡ Some to → (Some ty ≡ Some to) × (¬ IsAggregate to)
    by true e f = absurd (nothing_there to f)
    by false e f = (f, λ h. clash ((aggregates ty).1 (subst IsAggregate (sym (inside f)) h)) e)

pub is_scalar : (ty : PlainType) → ¬ IsAggregate ty → scalar_of (Some ty) ≡ Some ty
is_scalar ty n = ap (λ (b : Bool). if b then None else Some ty) (refuted (is_aggregate ty) (λ e. n ((aggregates ty).0 e)))

abbrev zero_by : Modes → PlainType → Bool → PlainExpr
zero_by m ty b = made m ty (zero_node b)

module _ (laws : ValueLaws) (k : Known) where
  -- ---- items

  abbrev Passing : Option PlainType → t.Assignment → PlainExpr → Type 0
  Passing ty a e =
      (to : PlainType) × (o : Operand) × (scalar_of ty ≡ Some to) × (used (of_assignment k a) ≡ Some o)
      × Uses k (term_of_assignment a) o × IsPassed k.modes to o e

  passing_is : (ty : Option PlainType) (a : t.Assignment) (e : PlainExpr) → item_value k ty a ≡ Some e → Passing ty a e
  passing_is ty a e q =
      let g = with_given (scalar_of ty) (λ to. with_one (used (of_assignment k a)) (λ o. brought k.modes to o)) e q in
      let h = with_given (used (of_assignment k a)) (λ o. brought k.modes g.0 o) e g.2 in (
        g.0,
        h.0,
        g.1,
        h.1,
        uses_of k (term_of_assignment a) (of_assignment k a) ((laws.meanings k).assignments a) h.0 h.1,
        brought_is laws.told k.modes g.0 h.0 e h.2,
      )

  abbrev used_as : (a : t.Assignment) (o : Operand) → Uses k (term_of_assignment a) o → used (of_assignment k a) ≡ Some o
  used_as a o u = used_to k (term_of_assignment a) (of_assignment k a) ((laws.meanings k).assignments a) o u

  is_passing : (ty : PlainType) (a : t.Assignment) (o : Operand) (e : PlainExpr) → ¬ IsAggregate ty → Uses k (term_of_assignment a) o
      → IsPassed k.modes ty o e → item_value k (Some ty) a ≡ Some e
  is_passing ty a o e n u h =
      with_granted (scalar_of (Some ty)) (λ to. with_one (used (of_assignment k a)) (λ o. brought k.modes to o)) ty e (is_scalar ty n)
      (with_granted (used (of_assignment k a)) (λ o. brought k.modes ty o) o e (used_as a o u) (is_brought laws.told k.modes ty o e h))

  -- ---- locals

  value_is : (ty : Option PlainType) (a : t.Assignment) (v : PlainExpr)
      → (item_value k ty a ≡ Some v) ↔ ((to : PlainType) × (ty ≡ Some to) × (¬ IsAggregate to) × IsValue k to a v)
  value_is ty a v = (there, λ h. back h.0 h.1 h.2 h.3)
    where
      there : item_value k ty a ≡ Some v → (to : PlainType) × (ty ≡ Some to) × (¬ IsAggregate to) × IsValue k to a v
      there q =
          let g = passing_is ty a v q in
          let h = scalar_is ty g.0 g.2 in (g.0, h.0, h.1, a_value g.4 g.5)

      back : (to : PlainType) → ty ≡ Some to → ¬ IsAggregate to → IsValue k to a v → item_value k ty a ≡ Some v
      back to e n (a_value {o = o} u p) = ap (λ z. item_value k z a) e ∙ is_passing to a o v n u p

  zero_is : (ty : PlainType) (v : PlainExpr) → IsZero k.modes ty v ↔ (zero_of k.modes ty ≡ v)
  zero_is ty v = (there v, λ e. subst (λ (z : PlainExpr). IsZero k.modes ty z) e (by (is_pointer ty) (pointers ty)))
    where
      there : (v : PlainExpr) → IsZero k.modes ty v → zero_of k.modes ty ≡ v
      there _ (null_pointer h) = ap (λ (b : Bool). zero_by k.modes ty b) ((pointers ty).1 h)
      there _ (zero_number n) = ap (λ (b : Bool). zero_by k.modes ty b) (refuted (is_pointer ty) (λ e. n ((pointers ty).0 e)))

      by : (b : Bool) → Decides b (IsPointer ty) → IsZero k.modes ty (zero_by k.modes ty b)
      by true d = null_pointer (d.0 refl)
      by false d = zero_number (λ h. clash (d.1 h) refl)

  local_walk : IsWalk k.structs (zero_of k.modes) (λ ty a. item_value k ty a) (λ x ty. leaf_values k x ty)
      (λ ty es i more. with_items k ty es i more)
  local_walk = record {
    one = λ ty a. refl;
    all = λ ty l first more c r. refl;
    none = λ ty es i. refl;
    some = λ ty es i s x more. refl;
  }

  pub locals_given : (ty : PlainType) (x : t.Initialiser) (vs : List PlainExpr)
      → Gives (IsValue k) (IsZero k.modes) k.structs ty x vs ↔ leaf_values k x (Some ty) ≡ Some vs
  locals_given ty x vs =
      given_both (IsValue k) (IsZero k.modes) k.structs (zero_of k.modes) (λ ty a. item_value k ty a) (λ x ty. leaf_values k x ty)
      (λ ty es i more. with_items k ty es i more) local_walk zero_is value_is ty x vs

  -- ---- static objects

  zero_leaf_is : (ty : PlainType) (v : LeafInit) → IsZeroLeaf ty v ↔ (zero_leaf ty ≡ v)
  zero_leaf_is ty v = (there v, λ e. subst (λ (z : LeafInit). IsZeroLeaf ty z) e (by (is_pointer ty) (pointers ty)))
    where
      there : (v : LeafInit) → IsZeroLeaf ty v → zero_leaf ty ≡ v
      there _ (null_pointer_leaf h) = ap (λ (b : Bool). if b then Null else Number (pos 0)) ((pointers ty).1 h)
      there _ (zero_number_leaf n) = ap (λ (b : Bool). if b then Null else Number (pos 0)) (refuted (is_pointer ty) (λ e. n ((pointers ty).0 e)))

      by : (b : Bool) → Decides b (IsPointer ty) → IsZeroLeaf ty (if b then Null else Number (pos 0))
      by true d = null_pointer_leaf (d.0 refl)
      by false d = zero_number_leaf (λ h. clash (d.1 h) refl)

  abbrev IsLeafOf : Option PlainType → t.Assignment → LeafInit → Type 0
  IsLeafOf ty a v = (to : PlainType) × (ty ≡ Some to) × (¬ IsAggregate to) × IsLeaf k to a v

  leaf_is : (ty : Option PlainType) (a : t.Assignment) (v : LeafInit) → (item_leaf k (form_of k a) ty a ≡ Some v) ↔ IsLeafOf ty a v
  leaf_is ty a v =
      (λ q. placed v ((laws.items.leaves k ty a v).0 q), λ h. (laws.items.leaves k ty a v).1 (subst (λ z. IsInitialValue k z a v) (sym h.1) h.3))
    where
      at : (e : PlainExpr) → HasItemValue k ty a e → (v : LeafInit) → IsInitialValue k ty a v → IsLeafOf ty a v
      at e h v l = (h.to, h.typed, h.whole, subst (λ z. IsInitialValue k z a v) h.typed l)

      placed : (v : LeafInit) → IsInitialValue k ty a v → IsLeafOf ty a v
      placed _ (a_null {e = e} c h n) = at e h Null (a_null c h n)
      placed _ (a_number {e = e} {n = n} c h m q s) = at e h (Number n) (a_number c h m q s)
      placed _ (an_address {e = e} {p = p} n q r h) = at e h (Address p.object p.offset) (an_address n q r h)

  static_walk : IsWalk k.structs zero_leaf (λ ty a. item_leaf k (form_of k a) ty a) (λ x ty. static_leaves k x ty)
      (λ ty es i more. with_static_items k ty es i more)
  static_walk = record {
    one = λ ty a. refl;
    all = λ ty l first more c r. refl;
    none = λ ty es i. refl;
    some = λ ty es i s x more. refl;
  }

  pub statics_given : (ty : PlainType) (x : t.Initialiser) (vs : List LeafInit)
      → Gives (IsLeaf k) IsZeroLeaf k.structs ty x vs ↔ static_leaves k x (Some ty) ≡ Some vs
  statics_given ty x vs =
      given_both (IsLeaf k) IsZeroLeaf k.structs zero_leaf (λ ty a. item_leaf k (form_of k a) ty a) (λ x ty. static_leaves k x ty)
      (λ ty es i more. with_static_items k ty es i more) static_walk zero_leaf_is leaf_is ty x vs

-- ---- initialisers that may be left out

module _ (laws : ValueLaws) where
  starts_to : (c : Context) (names : Names) (ty : PlainType) (start : Option t.Start) (values : PlainExprs)
      → Starts (known_in c names) ty start values → initial_values c names start (Some ty) ≡ Some values
  unfolding initial_values
  starts_to c names ty _ _ unset = refl
  starts_to c names ty _ _ (set {i = i} {es = es} h) =
      ap (option_map exprs_of) ((locals_given laws (known_in c names) ty i es).0 h)

  mapped : {A B : Type 0} → (f : A → B) (m : Option A) (v : B) → option_map f m ≡ Some v → (a : A) × (m ≡ Some a) × (f a ≡ v)
  mapped f None v q = absurd (nothing_there v q)
  mapped f (Some a) v q = (a, refl, inside q)

  to_starts : (c : Context) (names : Names) (ty : PlainType) (start : Option t.Start) (values : PlainExprs)
      → initial_values c names start (Some ty) ≡ Some values → Starts (known_in c names) ty start values
  unfolding initial_values
  to_starts c names ty None values q = subst (λ (z : PlainExprs). Starts (known_in c names) ty None z) (inside q) unset
  to_starts c names ty (Some (t.start equals i)) values q =
      let g = mapped exprs_of (leaf_values (known_in c names) i (Some ty)) values q in
      subst (λ (z : PlainExprs). Starts (known_in c names) ty (Some (t.start equals i)) z) g.2
      (set ((locals_given laws (known_in c names) ty i g.0).1 g.1))

  statics_to : (k : Known) (ty : PlainType) (start : Option t.Start) (leaves : List LeafInit) → StartsStatic k ty start leaves
      → initial_leaves k start (Some ty) ≡ Some leaves
  statics_to k ty _ leaves (all_zero h) = ap Some (zeros_to IsZeroLeaf zero_leaf (zero_leaf_is laws k) (leaves_of_type k.structs ty) leaves h)
  statics_to k ty _ leaves (initialised {i = i} h) = (statics_given laws k ty i leaves).0 h

  to_statics : (k : Known) (ty : PlainType) (start : Option t.Start) (leaves : List LeafInit)
      → initial_leaves k start (Some ty) ≡ Some leaves → StartsStatic k ty start leaves
  to_statics k ty None leaves q =
      subst (λ (z : List LeafInit). StartsStatic k ty None z) (inside q)
      (all_zero (zeros_are IsZeroLeaf zero_leaf (zero_leaf_is laws k) (leaves_of_type k.structs ty)))
  to_statics k ty (Some (t.start equals i)) leaves q = initialised ((statics_given laws k ty i leaves).1 q)

pub initialisers_are_said : ValueLaws → InitialisersAreSaid
initialisers_are_said laws = record {
  locals = λ c names ty start values. (starts_to laws c names ty start values, to_starts laws c names ty start values);
  statics = λ k ty start leaves. (statics_to laws k ty start leaves, to_statics laws k ty start leaves);
}
