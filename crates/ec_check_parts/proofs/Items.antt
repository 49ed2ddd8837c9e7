-- What the walk makes of items of initialisers is what they mean.
use Rattle.std.proofs.Common.{◌≡◌, ◌∙◌, Bool, true, false, ◌&&◌, [], refl, sym, ap, subst}
use Rattle.std.specs.Prelude.{◌↔◌, if◌then◌else◌, ℤ, Option, Some, None, Result, Ok, Err}
use Rattle.std.specs.Bool.{Decides}
use Rattle.std.proofs.lemmas.Bool.{false≢true}
use Rattle.std.proofs.lemmas.Bool.Decides.{Decides-and}
use Rattle.ec_grammar.specs.declared.Spot.{Spot}
use Rattle.ec_grammar.specs.Trees as t
use Rattle.ec_core.specs.declared.programs.LeafInit.{LeafInit}
use Rattle.ec_core.specs.declared.programs.LeafInit.TheVariants.{Number, Null, Address}
use Rattle.ec_core.specs.declared.values.Undefined.{Undefined}
use Rattle.ec_core.specs.Plain.{PlainType, PlainExpr}
use Rattle.ec_check_constants.specs.Constants.{constant}
use Rattle.ec_check_constants.specs.Tests.{is_constant}
use Rattle.ec_check_operands.specs.Operands.{Operand, is_null, with_one, with_both}
use Rattle.ec_check_operands.specs.Passing.{brought}
use Rattle.ec_check_operands.specs.Sorts.{is_pointer, is_aggregate}
use Rattle.ec_check_forms.proofs.Decided.{pointers, aggregates}
use Rattle.ec_check_forms.specs.Constraints.{IsAggregate}
use Rattle.ec_check_forms.specs.Nodes.{used}
use Rattle.ec_check_expressions.specs.Expressions.{of_assignment}
use Rattle.ec_check_expressions.specs.Known.{Known}
use Rattle.ec_check_initialisers.specs.declared.places.StaticAddress.{StaticAddress}
use Rattle.ec_check_initialisers.specs.Forms.{is_constant_assignment}
use Rattle.ec_check_initialisers.specs.Items.{leaf_of, leaf_of_result, becomes_null, constant_leaf, address_leaf}
use Rattle.ec_check_initialisers.specs.Parts.{scalar_of}
use Rattle.ec_check_initialisers.specs.Places.{StaticPlace, in_assignment, address_constant, address_form, form_of}
use Rattle.ec_check_initialisers.specs.Statics.{item_is_null, item_value, item_leaf}
use Rattle.ec_check_meanings.specs.Means.{Uses}
use Rattle.ec_check_meanings.specs.Terms.{Term, term_of_assignment}
use Rattle.ec_check_meanings.proofs.Conversions.{brought_is, is_brought}
use Rattle.ec_check_meanings.proofs.Options.{inside, nothing_there, refuted}
use Rattle.ec_check_parts.specs.ConstantForms.{IsConstantTerm}
use Rattle.ec_check_parts.specs.Items.{HasItemValue, BecomesNull, IsInitialValue, a_null, a_number, an_address}
use Rattle.ec_check_parts.specs.Said.{ItemsHaveValues}
use Rattle.ec_check_parts.proofs.Addresses.{address_told}
use Rattle.ec_check_parts.proofs.ConstantForms.{constants_are_told}
use Rattle.ec_check_parts.proofs.Expressions.{ExpressionLaws, uses_is, means_assignment}

-- an item that has the form of a constant expression: the size of a type
spot : Spot
spot = record { index = 0; at = 0 }

abbrev a_constant : t.Assignment
a_constant = t.value
    (t.plain (t.operand (t.uncast (t.size spot spot (t.type_name (t.specs (t.struct_spec spot (t.identifier spot [])) []) []) spot))))

-- ---- the value of an item

pub scalar_is : (ty : Option PlainType) (u : PlainType) → scalar_of ty ≡ Some u ↔ ((ty ≡ Some u) × (¬ IsAggregate u))
scalar_is None u = (λ e. absurd (nothing_there u e), λ h. absurd (nothing_there u h.0))
scalar_is (Some v) u = by (is_aggregate v) (aggregates v)
  where
    by : (b : Bool) → Decides b (IsAggregate v) → (if b then None else Some v) ≡ Some u ↔ ((Some v ≡ Some u) × (¬ IsAggregate u))
    by true d = (λ e. absurd (nothing_there u e), λ h. absurd (h.1 (subst IsAggregate (inside h.0) (d.0 refl))))
    by false d = (λ e. (e, λ a. false≢true (d.1 (subst IsAggregate (sym (inside e)) a))), λ h. h.0)

module _ (laws : ExpressionLaws) (k : Known) (ty : Option PlainType) (a : t.Assignment) where
  abbrev x : Term
  x = term_of_assignment a

  uses : (o : Operand) → Uses k x o ↔ used (of_assignment k a) ≡ Some o
  uses o = uses_is k x (of_assignment k a) (means_assignment laws k a) o

  value_by : (to : PlainType) → scalar_of ty ≡ Some to → (o : Operand) → used (of_assignment k a) ≡ Some o → (e : PlainExpr)
      → brought k.modes to o ≡ Some e → HasItemValue k ty a e
  value_by to q o r e h = record {
    to = to;
    typed = ((scalar_is ty to).0 q).0;
    whole = ((scalar_is ty to).0 q).1;
    operand = o;
    used = (uses o).1 r;
    passed = brought_is laws.types k.modes to o e h;
  }

  -- what an item's value is made of
  record Made (e : PlainExpr) : Type 0 where
    to : PlainType
    operand : Operand
    typed : scalar_of ty ≡ Some to
    used : used (of_assignment k a) ≡ Some operand
    brought : brought k.modes to operand ≡ Some e

  made_of : (e : PlainExpr) → item_value k ty a ≡ Some e → Made e
  made_of e h = by (scalar_of ty) refl (used (of_assignment k a)) refl h
    where
      by : (s : Option PlainType) → scalar_of ty ≡ s → (u : Option Operand) → used (of_assignment k a) ≡ u
          → with_both s u (brought k.modes) ≡ Some e → Made e
      by None q u r h = absurd (nothing_there e h)
      by (Some to) q None r h = absurd (nothing_there e h)
      by (Some to) q (Some o) r h = record { to = to; operand = o; typed = q; used = r; brought = h }

  made_is : (e : PlainExpr) → Made e → item_value k ty a ≡ Some e
  made_is e p =
      subst (λ (s : Option PlainType). with_both s (used (of_assignment k a)) (brought k.modes) ≡ Some e) (sym p.typed)
      (subst (λ (u : Option Operand). with_both (Some p.to) u (brought k.modes) ≡ Some e) (sym p.used) p.brought)

  value_of : (e : PlainExpr) → Made e → HasItemValue k ty a e
  value_of e p = value_by p.to p.typed p.operand p.used e p.brought

  made_by : (e : PlainExpr) → HasItemValue k ty a e → Made e
  made_by e h = record {
    to = h.to;
    operand = h.operand;
    typed = (scalar_is ty h.to).1 (h.typed, h.whole);
    used = (uses h.operand).0 h.used;
    brought = is_brought laws.types k.modes h.to h.operand e h.passed;
  }

  -- whether it is the null pointer
  null_is : (e : PlainExpr) (p : Made e) → item_is_null k ty a ≡ (is_null p.operand && is_pointer p.to)
  null_is e p =
      ap (λ (s : Option PlainType). becomes_null s (used (of_assignment k a))) p.typed
      ∙ ap (λ (u : Option Operand). becomes_null (Some p.to) u) p.used

  null_told : (e : PlainExpr) (p : Made e) → Decides (item_is_null k ty a) (BecomesNull p.operand p.to)
  null_told e p =
      subst (λ (b : Bool). Decides b (BecomesNull p.operand p.to)) (sym (null_is e p))
      (Decides-and (is_null p.operand) (is_pointer p.to) (λ e. e, λ e. e) (pointers p.to))

  -- ---- leaves

  -- a value that is there, and what follows from it
  with_value : (g : PlainExpr → Option LeafInit) (leaf : LeafInit) → with_one (item_value k ty a) g ≡ Some leaf
      → (e : PlainExpr) × (item_value k ty a ≡ Some e) × (g e ≡ Some leaf)
  with_value g leaf h = by (item_value k ty a) refl h
    where
      by : (v : Option PlainExpr) → item_value k ty a ≡ v → with_one v g ≡ Some leaf
          → (e : PlainExpr) × (item_value k ty a ≡ Some e) × (g e ≡ Some leaf)
      by None q h = absurd (nothing_there leaf h)
      by (Some e) q h = (e, q, h)

  value_with : (g : PlainExpr → Option LeafInit) (leaf : LeafInit) (e : PlainExpr) → item_value k ty a ≡ Some e → g e ≡ Some leaf
      → with_one (item_value k ty a) g ≡ Some leaf
  value_with g leaf e q h = ap (λ (v : Option PlainExpr). with_one v g) q ∙ h

  number_there : (e : PlainExpr) → IsConstantTerm k x → (p : Made e) → ¬ BecomesNull p.operand p.to → (leaf : LeafInit) → (b : Bool)
      → is_constant e ≡ b → (r : Result ℤ Undefined) → constant e ≡ r → (if b then leaf_of_result r else None) ≡ Some leaf
      → IsInitialValue k ty a leaf
  unfolding value_of value_by
  number_there e c p n leaf false q r s h = absurd (nothing_there leaf h)
  number_there e c p n leaf true q (Err u) s h = absurd (nothing_there leaf h)
  number_there e c p n leaf true q (Ok i) s h =
      subst (IsInitialValue k ty a) (inside h) (a_number c (value_of e p) n q s)

  constant_there : (e : PlainExpr) → IsConstantTerm k x → (p : Made e) → (leaf : LeafInit) → (null : Bool)
      → Decides null (BecomesNull p.operand p.to) → constant_leaf null e ≡ Some leaf → IsInitialValue k ty a leaf
  unfolding value_of value_by
  constant_there e c p leaf true d h = subst (IsInitialValue k ty a) (inside h) (a_null c (value_of e p) (d.0 refl))
  constant_there e c p leaf false d h =
      number_there e c p (λ n. false≢true (d.1 n)) leaf (is_constant e) refl (constant e) refl h

  constant_back : (leaf : LeafInit) → IsConstantTerm k x → IsInitialValue k ty a leaf
      → item_leaf k (form_of k a_constant) ty a ≡ Some leaf
  unfolding made_by
  constant_back _ c (a_null {e = e} d h n) =
      let p = made_by e h in
      value_with (leaf_of (form_of k a_constant) (item_is_null k ty a)) Null e (made_is e p)
      (ap (λ (b : Bool). constant_leaf b e) ((null_told e p).1 n))
  constant_back _ c (a_number {e = e} {n = i} d h n q s) =
      let p = made_by e h in
      value_with (leaf_of (form_of k a_constant) (item_is_null k ty a)) (Number i) e (made_is e p)
      (ap (λ (b : Bool). constant_leaf b e) (refuted (item_is_null k ty a) (λ y. n ((null_told e p).0 y)))
      ∙ ap (λ (b : Bool). if b then leaf_of_result (constant e) else None) q ∙ ap leaf_of_result s)
  constant_back _ c (an_address n q r h) = absurd (n c)

  address_there : (s : StaticPlace) → address_constant (in_assignment k a) ≡ Some s → ¬ IsConstantTerm k x → (leaf : LeafInit)
      → item_leaf k (address_form (Some s)) ty a ≡ Some leaf → IsInitialValue k ty a leaf
  address_there s q n leaf h = by (with_value (leaf_of (address_form (Some s)) (item_is_null k ty a)) leaf h)
    where
      at : (e : PlainExpr) → item_value k ty a ≡ Some e → (o : Option StaticAddress) → s.address ≡ o → address_leaf o ≡ Some leaf
          → IsInitialValue k ty a leaf
      at e v None r g = absurd (nothing_there leaf g)
      at e v (Some p) r g =
          subst (IsInitialValue k ty a) (inside g) (an_address n ((address_told laws k a s).0 q) r (value_of e (made_of e v)))

      by : ((e : PlainExpr) × (item_value k ty a ≡ Some e) × (address_leaf s.address ≡ Some leaf)) → IsInitialValue k ty a leaf
      by (e, v, g) = at e v s.address refl g

  address_back : (s : StaticPlace) → address_constant (in_assignment k a) ≡ Some s → ¬ IsConstantTerm k x → (leaf : LeafInit)
      → IsInitialValue k ty a leaf → item_leaf k (address_form (Some s)) ty a ≡ Some leaf
  address_back s q n _ (a_null c h z) = absurd (n c)
  address_back s q n _ (a_number c h z w y) = absurd (n c)
  address_back s q n _ (an_address {e = e} {s = v} {p = p} m r w h) =
      let same : v ≡ s = inside (sym ((address_told laws k a v).1 r) ∙ q) in
      value_with (leaf_of (address_form (Some s)) (item_is_null k ty a)) (Address p.object p.offset) e (made_is e (made_by e h))
      (ap address_leaf (subst (λ (z : StaticPlace). z.address ≡ Some p) same w))

  no_address_back : (leaf : LeafInit) → address_constant (in_assignment k a) ≡ None → ¬ IsConstantTerm k x
      → IsInitialValue k ty a leaf → ⊥
  no_address_back _ q n (a_null c h z) = n c
  no_address_back _ q n (a_number c h z w y) = n c
  no_address_back _ q n (an_address {s = v} m r w h) = nothing_there v (sym q ∙ (address_told laws k a v).1 r)

  leaf_by : (leaf : LeafInit) (b : Bool) → Decides b (IsConstantTerm k x) → (o : Option StaticPlace)
      → address_constant (in_assignment k a) ≡ o
      → item_leaf k (if b then (form_of k a_constant) else address_form o) ty a ≡ Some leaf ↔ IsInitialValue k ty a leaf
  leaf_by leaf true d o q = (there, constant_back leaf (d.0 refl))
    where
      there : item_leaf k (form_of k a_constant) ty a ≡ Some leaf → IsInitialValue k ty a leaf
      there h =
          let g = with_value (leaf_of (form_of k a_constant) (item_is_null k ty a)) leaf h in
          let p = made_of g.0 g.1 in
          constant_there g.0 (d.0 refl) p leaf (item_is_null k ty a) (null_told g.0 p) g.2
  leaf_by leaf false d None q =
      (λ h. absurd (nothing_there leaf h), λ h. absurd (no_address_back leaf q (λ c. false≢true (d.1 c)) h))
  leaf_by leaf false d (Some s) q =
      (address_there s q (λ c. false≢true (d.1 c)) leaf, address_back s q (λ c. false≢true (d.1 c)) leaf)

pub items_have_values : ExpressionLaws → ItemsHaveValues
items_have_values laws = record {
  addresses = address_told laws;
  values = λ k ty a e. (λ h. value_of laws k ty a e (made_of laws k ty a e h), λ h. made_is laws k ty a e (made_by laws k ty a e h));
  leaves = λ k ty a leaf.
      leaf_by laws k ty a leaf (is_constant_assignment k a) ((constants_are_told laws.meanings k).assignments a)
      (address_constant (in_assignment k a)) refl;
}
