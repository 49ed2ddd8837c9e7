-- Initialisers have meanings where no rule is broken at their sites.
use Rattle.std.proofs.Common.{◌≡◌, ◌<◌, ◌≤◌, ◌+◌, ℕ, true, false, not, List, [], ◌∷◌, length, refl, arith}
use Rattle.std.specs.Prelude.{if◌then◌else◌, nat_lt, Option, Some, None, IsSome, option_map, option_and_then, slice_get}
use Rattle.std.proofs.lemmas.Bool.{both_ways, or_parts, not-false, false≢true}
use Rattle.std.proofs.lemmas.Bool.Decides.{nat_tests}
use Rattle.ec_grammar.specs.Trees as t
use Rattle.ec_core.specs.Plain.{PlainType, void, integer, fixed, pointer, array, struct, PlainMember, PlainStruct, PlainExpr}
use Rattle.ec_check_forms.specs.Nodes.{used}
use Rattle.ec_check_names.specs.Firsts.{first_assignment}
use Rattle.ec_check_operands.specs.Operands.{Operand}
use Rattle.ec_check_operands.specs.Passing.{passed, passing_rules}
use Rattle.ec_check_operands.specs.Sorts.{is_aggregate}
use Rattle.ec_check_forms.specs.Meanings.{KeptFormsHaveMeanings}
use Rattle.ec_check_forms.specs.Sites.{a_use, a_passing}
use Rattle.ec_check_expressions.specs.Expressions.{of_assignment, assignment_sites}
use Rattle.ec_check_expressions.specs.Known.{Known}
use Rattle.ec_check_expressions.specs.Sites as e
use Rattle.ec_check_expression_laws.specs.Laws.{AreUnbroken, KeptExpressionsHaveMeanings}
use Rattle.ec_check_expression_laws.specs.Suits.{HasTypes}
use Rattle.ec_check_initialisers.specs.Locals.{items_count, leaf_values, with_items, leaf_sites, items_sites}
use Rattle.ec_check_initialisers.specs.Parts.{part_type, part_of, member_count, part_count, scalar_of, whole_values, filled, joined}
use Rattle.ec_check_initialisers.specs.Parts.{one_value, scalar_value}
use Rattle.ec_check_initialisers.specs.Sites as i
use Rattle.ec_check_statements.proofs.Choices.{if_both, stands_at}
use Rattle.ec_check_statements.proofs.KeptParts.{IsMeant, used_meant, passed_meant, assignment_meant}
use Rattle.ec_check_statements.proofs.Unbroken.{InInitialiser, kept_sites}

-- ---- parts

member_there : (s : PlainStruct) (n : ℕ) → n < length s.members → (o : Option PlainMember) → slice_get s.members n ≡ o
    → IsSome (option_map (λ m. m.ty) o)
member_there s n below None q = absurd (stands_at s.members n below q)
member_there s n below (Some m) q = refl

part_in : (n : ℕ) (o : Option PlainStruct) → n < member_count o
    → IsSome (option_and_then (λ s. option_map (λ m. m.ty) (slice_get s.members n)) o)
part_in n None below = absurd (omega (arith, below))
part_in n (Some s) below = member_there s n below (slice_get s.members n) refl

element_there : (n len : ℕ) (of : PlainType) → n < len → IsSome (if nat_lt n len then Some of else None)
element_there n len of below =
    if_both IsSome (nat_lt n len) (Some of) None (λ q. refl) (λ q. absurd (let z : n < len → ⊥ = grind (arith, nat_tests, q) in z below))

pub part_there : (structs : List PlainStruct) (ty : PlainType) (n : ℕ) → n < part_count structs ty → IsSome (part_type structs ty n)
part_there structs void n below = absurd (omega (arith, below))
part_there structs (integer signed bytes) n below = absurd (omega (arith, below))
part_there structs (fixed kind saturates) n below = absurd (omega (arith, below))
part_there structs (pointer space const to) n below = absurd (omega (arith, below))
part_there structs (array of len) n below = element_there n len of below
part_there structs (struct index) n below = part_in n (slice_get structs index) below

pub has_places : (n m : ℕ) → nat_lt n m ≡ false → m ≤ n
has_places n m q = grind (arith, nat_tests, q)

joined_there : (a b : Option (List PlainExpr)) → IsSome a → IsSome b → IsSome (joined a b)
joined_there None b h k = absurd (false≢true h)
joined_there (Some xs) None h k = absurd (false≢true k)
joined_there (Some xs) (Some ys) h k = refl

one_there : (e : Option PlainExpr) → IsSome e → IsSome (one_value e)
one_there None h = absurd (false≢true h)
one_there (Some e) h = refl

module _ (meanings : KeptExpressionsHaveMeanings) (forms : KeptFormsHaveMeanings) (k : Known) (h : HasTypes k) where
  scalar_meant : (ty : PlainType) (x : Option Operand) (at : ℕ) → is_aggregate ty ≡ false → IsMeant x
      → AreUnbroken (passing_rules x (scalar_of (Some ty)) at)
      → IsSome (scalar_value k.modes (Some ty) x)
  scalar_meant ty x at q g u =
      if_both (λ o. AreUnbroken (passing_rules x o at) → IsSome (one_value (passed k.modes o x))) (is_aggregate ty) None (Some ty)
      (λ z. absurd (both_ways (is_aggregate ty) q z))
      (λ z v. one_there (passed k.modes (Some ty) x) (passed_meant forms k.modes ty x at g v)) u

  whole_there : (ty : PlainType) (v : Option (List PlainExpr)) → is_aggregate ty ≡ true → IsSome v
      → IsSome (whole_values k.modes k.structs (Some ty) v)
  whole_there ty None q g = absurd (false≢true g)
  whole_there ty (Some es) q g =
      if_both IsSome (is_aggregate ty) (Some (filled k.modes k.structs ty es)) None (λ z. refl)
      (λ z. absurd (both_ways (is_aggregate ty) z q))

  mutual
    pub initialiser_meant : (x : t.Initialiser) (ty : Option PlainType) → IsSome ty → (rest : List i.Site)
        → InInitialiser (leaf_sites k x ty rest)
        → IsSome (leaf_values k x ty) × InInitialiser rest
    initialiser_meant (t.initial_value a) None s rest q = absurd (false≢true s)
    initialiser_meant (t.initial_value a) (Some ty) s rest q =
        let sites : List e.Site = e.on (a_use (of_assignment k a) (first_assignment a))
        ∷ e.on (a_passing (used (of_assignment k a)) (scalar_of (Some ty)) (first_assignment a)) ∷ [] in
        let g = kept_sites (assignment_sites k a sites) (i.a_bare (Some ty) (first_assignment a) ∷ rest) q in
        let b = assignment_meant meanings k h a sites g.0 in (
          scalar_meant ty (used (of_assignment k a)) (first_assignment a) g.1.0.0
              (used_meant (of_assignment k a) (first_assignment a) b.0 b.1.0) b.1.1.0,
          g.1.1,
        )
    initialiser_meant (t.braces l first more c r) None s rest q = absurd (false≢true s)
    initialiser_meant (t.braces l first more c r) (Some ty) s rest q =
        let z = or_parts (not (is_aggregate ty)) (nat_lt (part_count k.structs ty) (items_count more + 1)) q.0.0 in
        let places : items_count more + 1 ≤ part_count k.structs ty = has_places (part_count k.structs ty) (items_count more + 1) z.1 in
        let a = initialiser_meant first (part_of k.structs (Some ty) 0) (part_there k.structs ty 0 (omega (arith, places))) _ q.1 in
        let v = joined (Some []) (leaf_values k first (part_of k.structs (Some ty) 0)) in
        let b = items_meant more ty 1 v (joined_there (Some []) (leaf_values k first (part_of k.structs (Some ty) 0)) refl a.0)
        (omega (arith, places)) rest a.1 in
        (whole_there ty (with_items k (Some ty) v 1 more) (not-false (is_aggregate ty) z.0) b.0, b.1)

    items_meant : (more : t.Initialisers) (ty : PlainType) (n : ℕ) (v : Option (List PlainExpr)) → IsSome v
        → n + items_count more ≤ part_count k.structs ty
        → (rest : List i.Site) → InInitialiser (items_sites k (Some ty) n more rest)
        → IsSome (with_items k (Some ty) v n more) × InInitialiser rest
    items_meant t.no_initialisers ty n v s places rest q = (s, q)
    items_meant (t.initialisers comma x more) ty n v s places rest q =
        let a = initialiser_meant x (part_of k.structs (Some ty) n) (part_there k.structs ty n (omega (arith, places))) _ q in
        items_meant more ty (n + 1) (joined v (leaf_values k x (part_of k.structs (Some ty) n)))
        (joined_there v (leaf_values k x (part_of k.structs (Some ty) n)) s a.0) (omega (arith, places)) rest a.1
