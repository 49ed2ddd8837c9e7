-- Initialisers of static objects have values where no rule is broken at their sites.
use Rattle.std.proofs.Common.{◌≡◌, ◌≤◌, ◌+◌, ℕ, Bool, true, false, not, List, [], ◌∷◌, refl, arith}
use Rattle.std.specs.Prelude.{if◌then◌else◌, nat_lt, is_none, Option, Some, None, IsSome, option_map}
use Rattle.std.proofs.lemmas.Bool.{or_parts, not-false, false≢true, true≢false}
use Rattle.ec_grammar.specs.declared.Spot.{Spot}
use Rattle.ec_grammar.specs.Trees as t
use Rattle.ec_core.specs.declared.programs.LeafInit.{LeafInit}
use Rattle.ec_core.specs.Plain.{PlainType, PlainExpr}
use Rattle.ec_check_initialisers.specs.Forms.{is_constant_assignment}
use Rattle.ec_check_forms.specs.Nodes.{used}
use Rattle.ec_check_names.specs.Firsts.{first_assignment}
use Rattle.ec_check_operands.specs.Operands.{Operand, with_one}
use Rattle.ec_check_operands.specs.Passing.{passed, passing_rules}
use Rattle.ec_check_operands.specs.Sorts.{is_aggregate}
use Rattle.ec_check_forms.specs.Meanings.{KeptFormsHaveMeanings}
use Rattle.ec_check_forms.specs.Sites.{a_use, a_passing}
use Rattle.ec_check_expressions.specs.Expressions.{of_assignment, assignment_sites}
use Rattle.ec_check_expressions.specs.Known.{Known}
use Rattle.ec_check_expressions.specs.Sites as e
use Rattle.ec_check_expression_laws.specs.Laws.{AreUnbroken, KeptExpressionsHaveMeanings}
use Rattle.ec_check_expression_laws.specs.Suits.{HasTypes}
use Rattle.ec_check_expression_laws.proofs.Unbroken.{site_kept}
use Rattle.ec_check_initialisers.specs.Items.{leaf_of, zero_leaf, is_other, has_no_leaf, leaf_rules}
use Rattle.ec_check_initialisers.specs.Locals.{items_count}
use Rattle.ec_check_initialisers.specs.Parts.{part_of, part_count, scalar_of, whole_by, filled_by, joined}
use Rattle.ec_check_initialisers.specs.Places.{StaticPlace, in_assignment, address_constant, address_form, form_of}
use Rattle.ec_check_initialisers.specs.Sites as i
use Rattle.ec_check_initialisers.specs.Statics.{item_is_null, item_value, walked_leaf, walked_sites, item_leaf, item_sites, static_leaves}
use Rattle.ec_check_initialisers.specs.Statics.{with_static_items, static_sites, static_items_sites}
use Rattle.ec_check_statements.proofs.KeptInitialisers.{part_there, has_places}
use Rattle.ec_check_statements.proofs.KeptParts.{IsMeant, used_meant}
use Rattle.ec_check_statements.proofs.Unbroken.{InExpression, InInitialiser, expression_of, expression_told, kept_sites}
use Rattle.ec_check.proofs.Lists.{if_true, if_false}

-- ---- values

passed_meant : KeptFormsHaveMeanings → (m : _) (to : PlainType) (x : Option Operand) (at : ℕ) → IsMeant x
    → AreUnbroken (passing_rules x (Some to) at)
    → IsSome (passed m (Some to) x)
passed_meant forms m to None at h k = absurd h
passed_meant forms m to (Some x) at h k = (forms m x x at h.null h.null).passed to (site_kept (a_passing (Some x) (Some to) at) k)

-- ---- leaves

joined_there : (a b : Option (List LeafInit)) → IsSome a → IsSome b → IsSome (joined a b)
joined_there None b h k = absurd (false≢true h)
joined_there (Some xs) None h k = absurd (false≢true k)
joined_there (Some xs) (Some ys) h k = refl

one_there : (o : Option LeafInit) → IsSome o → IsSome (option_map (λ leaf. leaf ∷ []) o)
one_there None h = absurd (false≢true h)
one_there (Some x) h = refl

some_one : (o : Option LeafInit) → is_none o ≡ false → IsSome o
some_one None q = absurd (true≢false q)
some_one (Some x) q = refl

leaf_there : (form : _) (null : Bool) (v : Option PlainExpr) (at : ℕ) → IsSome v → AreUnbroken (leaf_rules form null v at)
    → IsSome (with_one v (leaf_of form null))
leaf_there form null None at h u = absurd (false≢true h)
leaf_there form null (Some v) at h u = some_one (leaf_of form null v) (or_parts (is_other form) (has_no_leaf form null (Some v)) u.0).1

-- an item that has the form of a constant expression: the size of a type
spot : Spot
spot = record { index = 0; at = 0 }

abbrev a_constant : t.Assignment
a_constant = t.value
    (t.plain (t.operand (t.uncast (t.size spot spot (t.type_name (t.specs (t.struct_spec spot (t.identifier spot [])) []) []) spot))))

module _ (meanings : KeptExpressionsHaveMeanings) (forms : KeptFormsHaveMeanings) (k : Known) (h : HasTypes k) where
  assignment_meant : (x : t.Assignment) (rest : List e.Site) → InExpression (assignment_sites k x rest)
      → IsMeant (of_assignment k x) × InExpression rest
  assignment_meant x rest q =
      let g = (meanings k h).assignments x rest (expression_told (assignment_sites k x rest) q) in
      (g.0, expression_of rest g.1)

  scalar_meant : (ty : PlainType) (x : Option Operand) (at : ℕ) → is_aggregate ty ≡ false → IsMeant x
      → AreUnbroken (passing_rules x (scalar_of (Some ty)) at)
      → IsSome (passed k.modes (scalar_of (Some ty)) x)
  scalar_meant ty x at q g u =
      if_false (λ o. AreUnbroken (passing_rules x o at) → IsSome (passed k.modes o x)) (is_aggregate ty) None (Some ty) q
      (λ v. passed_meant forms k.modes ty x at g v) u

  walked_there : (form : _) (a : t.Assignment) (ty : PlainType) (rest : List i.Site) → InInitialiser (walked_sites k form (Some ty) a rest)
      → IsSome (walked_leaf k form (Some ty) a) × InInitialiser rest
  walked_there form a ty rest q =
      let sites : List e.Site = e.on (a_use (of_assignment k a) (first_assignment a))
      ∷ e.on (a_passing (used (of_assignment k a)) (scalar_of (Some ty)) (first_assignment a)) ∷ [] in
      let leaf = i.a_leaf form (item_is_null k (Some ty) a) (item_value k (Some ty) a) (first_assignment a) in
      let g = kept_sites (assignment_sites k a sites) (i.a_bare (Some ty) (first_assignment a) ∷ leaf ∷ rest) q in
      let b = assignment_meant a sites g.0 in
      let v = scalar_meant ty (used (of_assignment k a)) (first_assignment a) g.1.0.0
      (used_meant (of_assignment k a) (first_assignment a) b.0 b.1.0) b.1.1.0 in
      (leaf_there form (item_is_null k (Some ty) a) (item_value k (Some ty) a) (first_assignment a) v g.1.1.0, g.1.1.1)

  -- by the form: that of a constant expression, or that of an address constant or neither
  form_there : (b : Bool) (p : Option StaticPlace) (a : t.Assignment) (ty : PlainType) (rest : List i.Site)
      → InInitialiser (item_sites k (if b then form_of k a_constant else address_form p) (Some ty) a rest)
      → IsSome (item_leaf k (if b then form_of k a_constant else address_form p) (Some ty) a) × InInitialiser rest
  form_there true p a ty rest q = walked_there (form_of k a_constant) a ty rest q
  form_there false (Some p) a ty rest q = walked_there (address_form (Some p)) a ty rest q
  form_there false None a ty rest q = absurd (true≢false q.1.0.0)

  item_there : (a : t.Assignment) (ty : PlainType) (rest : List i.Site) → InInitialiser (item_sites k (form_of k a) (Some ty) a rest)
      → IsSome (item_leaf k (form_of k a) (Some ty) a) × InInitialiser rest
  item_there a ty rest q = form_there (is_constant_assignment k a) (address_constant (in_assignment k a)) a ty rest q

  whole_there : (ty : PlainType) (v : Option (List LeafInit)) → is_aggregate ty ≡ true → IsSome v
      → IsSome (whole_by zero_leaf k.structs (Some ty) v)
  whole_there ty None q g = absurd (false≢true g)
  whole_there ty (Some es) q g = if_true IsSome (is_aggregate ty) (Some (filled_by zero_leaf k.structs ty es)) None q refl

  mutual
    pub leaves_there : (x : t.Initialiser) (ty : Option PlainType) → IsSome ty → (rest : List i.Site)
        → InInitialiser (static_sites k x ty rest)
        → IsSome (static_leaves k x ty) × InInitialiser rest
    leaves_there (t.initial_value a) None s rest q = absurd (false≢true s)
    leaves_there (t.initial_value a) (Some ty) s rest q =
        let g = item_there a ty rest q in
        (one_there (item_leaf k (form_of k a) (Some ty) a) g.0, g.1)
    leaves_there (t.braces l first more c r) None s rest q = absurd (false≢true s)
    leaves_there (t.braces l first more c r) (Some ty) s rest q =
        let z = or_parts (not (is_aggregate ty)) (nat_lt (part_count k.structs ty) (items_count more + 1)) q.0.0 in
        let places : items_count more + 1 ≤ part_count k.structs ty = has_places (part_count k.structs ty) (items_count more + 1) z.1 in
        let a = leaves_there first (part_of k.structs (Some ty) 0) (part_there k.structs ty 0 (omega (arith, places))) _ q.1 in
        let v = joined (Some []) (static_leaves k first (part_of k.structs (Some ty) 0)) in
        let b = items_there more ty 1 v (joined_there (Some []) (static_leaves k first (part_of k.structs (Some ty) 0)) refl a.0)
        (omega (arith, places)) rest a.1 in
        (whole_there ty (with_static_items k (Some ty) v 1 more) (not-false (is_aggregate ty) z.0) b.0, b.1)

    items_there : (more : t.Initialisers) (ty : PlainType) (n : ℕ) (v : Option (List LeafInit)) → IsSome v
        → n + items_count more ≤ part_count k.structs ty
        → (rest : List i.Site) → InInitialiser (static_items_sites k (Some ty) n more rest)
        → IsSome (with_static_items k (Some ty) v n more) × InInitialiser rest
    items_there t.no_initialisers ty n v s places rest q = (s, q)
    items_there (t.initialisers comma x more) ty n v s places rest q =
        let a = leaves_there x (part_of k.structs (Some ty) n) (part_there k.structs ty n (omega (arith, places))) _ q in
        items_there more ty (n + 1) (joined v (static_leaves k x (part_of k.structs (Some ty) n)))
        (joined_there v (static_leaves k x (part_of k.structs (Some ty) n)) s a.0) (omega (arith, places)) rest a.1
