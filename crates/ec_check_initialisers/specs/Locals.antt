-- Initialisers of locals (ISO/IEC 9899:1999, 6.7.8): the values of all leaves, in order.
use Rattle.std.specs.Prelude.{ℕ, ◌+◌, Option, Some, List, [], ◌∷◌}
use Rattle.ec_grammar.specs.Trees as t
use Rattle.ec_check_names.specs.Firsts.{first_assignment}
use Rattle.ec_core.specs.Plain.{PlainType, PlainExpr}
use Rattle.ec_check_forms.specs.Nodes.{used}
use Rattle.ec_check_forms.specs.Sites.{a_use, a_passing}
use Rattle.ec_check_expressions.specs.Expressions.{of_assignment, assignment_sites}
use Rattle.ec_check_expressions.specs.Known.{Known}
use Rattle.ec_check_expressions.specs.Sites.{on}
use Rattle.ec_check_initialisers.specs.Parts.{part_of, scalar_of, scalar_value, whole_values, joined}
use Rattle.ec_check_initialisers.specs.Sites.{Site, sites_in, a_bare, braces}

-- how many items follow another one
abbrev pub items_count : t.Initialisers → ℕ
items_count t.no_initialisers = 0
items_count (t.initialisers s i more) = items_count more + 1

module _ (k : Known) where
  abbrev mutual
    -- the values of the leaves of an object of a type; None where an item breaks a rule
    pub leaf_values : t.Initialiser → Option PlainType → Option (List PlainExpr)
    leaf_values (t.initial_value a) ty = scalar_value k.modes ty (used (of_assignment k a))
    leaf_values (t.braces l first more c r) ty =
        whole_values k.modes k.structs ty
        (with_items ty (joined (Some []) (leaf_values first (part_of k.structs ty 0))) 1 more)

    -- those so far, and those of the parts from one on
    pub with_items : Option PlainType → Option (List PlainExpr) → ℕ → t.Initialisers → Option (List PlainExpr)
    with_items ty es i t.no_initialisers = es
    with_items ty es i (t.initialisers s x more) =
        with_items ty (joined es (leaf_values x (part_of k.structs ty i))) (i + 1) more

  abbrev mutual
    pub leaf_sites : t.Initialiser → Option PlainType → List Site → List Site
    leaf_sites (t.initial_value a) ty rest =
        sites_in (assignment_sites k a (on (a_use (of_assignment k a) (first_assignment a))
        ∷ on (a_passing (used (of_assignment k a)) (scalar_of ty) (first_assignment a)) ∷ []))
        (a_bare ty (first_assignment a) ∷ rest)
    leaf_sites (t.braces l first more c r) ty rest =
        braces k.structs ty (items_count more + 1) l.index
        ∷ leaf_sites first (part_of k.structs ty 0) (items_sites ty 1 more rest)

    pub items_sites : Option PlainType → ℕ → t.Initialisers → List Site → List Site
    items_sites ty i t.no_initialisers rest = rest
    items_sites ty i (t.initialisers s x more) rest =
        leaf_sites x (part_of k.structs ty i) (items_sites ty (i + 1) more rest)
