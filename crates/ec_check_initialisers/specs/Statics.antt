-- Initialisers of objects with static storage (ISO/IEC 9899:1999, 6.7.8): the initial values of all leaves, in order.
use Rattle.std.specs.Prelude.{ℕ, ◌+◌, Bool, false, Option, Some, None, option_map, List, [], ◌∷◌}
use Rattle.ec_grammar.specs.Trees as t
use Rattle.ec_check_names.specs.Firsts.{first_assignment}
use Rattle.ec_core.specs.declared.programs.LeafInit.{LeafInit}
use Rattle.ec_core.specs.Plain.{PlainType, PlainExpr}
use Rattle.ec_check_operands.specs.Operands.{with_one}
use Rattle.ec_check_operands.specs.Passing.{passed}
use Rattle.ec_check_forms.specs.Nodes.{used}
use Rattle.ec_check_expressions.specs.Expressions.{of_assignment}
use Rattle.ec_check_expressions.specs.Known.{Known}
use Rattle.ec_check_initialisers.specs.declared.places.ItemForm.{ItemForm}
use Rattle.ec_check_initialisers.specs.declared.places.ItemForm.TheVariants as item
use Rattle.ec_check_initialisers.specs.Items.{leaf_of, becomes_null, zero_leaf}
use Rattle.ec_check_initialisers.specs.Locals.{items_count, leaf_sites}
use Rattle.ec_check_initialisers.specs.Parts.{part_of, scalar_of, whole_by, joined}
use Rattle.ec_check_initialisers.specs.Places.{form_of}
use Rattle.ec_check_initialisers.specs.Sites.{Site, a_bare, a_leaf, braces}

module _ (k : Known) where
  -- ---- an item without braces

  abbrev pub item_is_null : Option PlainType → t.Assignment → Bool
  item_is_null ty a = becomes_null (scalar_of ty) (used (of_assignment k a))

  -- brought to the type of an object without parts
  abbrev pub item_value : Option PlainType → t.Assignment → Option PlainExpr
  item_value ty a = passed k.modes (scalar_of ty) (used (of_assignment k a))

  abbrev pub walked_leaf : ItemForm → Option PlainType → t.Assignment → Option LeafInit
  walked_leaf form ty a = with_one (item_value ty a) (leaf_of form (item_is_null ty a))

  abbrev pub walked_sites : ItemForm → Option PlainType → t.Assignment → List Site → List Site
  walked_sites form ty a rest =
      leaf_sites k (t.initial_value a) ty
      (a_leaf form (item_is_null ty a) (item_value ty a) (first_assignment a) ∷ rest)

  -- what is neither a constant expression nor an address constant is not looked into
  abbrev pub item_leaf : ItemForm → Option PlainType → t.Assignment → Option LeafInit
  item_leaf item.Constant ty a = walked_leaf item.Constant ty a
  item_leaf (item.Address address) ty a = walked_leaf (item.Address address) ty a
  item_leaf item.Other ty a = None

  abbrev pub item_sites : ItemForm → Option PlainType → t.Assignment → List Site → List Site
  item_sites item.Constant ty a rest = walked_sites item.Constant ty a rest
  item_sites (item.Address address) ty a rest = walked_sites (item.Address address) ty a rest
  item_sites item.Other ty a rest =
      a_bare ty (first_assignment a) ∷ a_leaf item.Other false None (first_assignment a) ∷ rest

  -- ---- initialisers

  abbrev mutual
    -- the initial values of the leaves of an object of a type; None where an item breaks a rule
    pub static_leaves : t.Initialiser → Option PlainType → Option (List LeafInit)
    static_leaves (t.initial_value a) ty = option_map (λ leaf. leaf ∷ []) (item_leaf (form_of k a) ty a)
    static_leaves (t.braces l first more c r) ty =
        whole_by zero_leaf k.structs ty
        (with_static_items ty (joined (Some []) (static_leaves first (part_of k.structs ty 0))) 1 more)

    -- those so far, and those of the parts from one on
    pub with_static_items : Option PlainType → Option (List LeafInit) → ℕ → t.Initialisers → Option (List LeafInit)
    with_static_items ty leaves i t.no_initialisers = leaves
    with_static_items ty leaves i (t.initialisers s x more) =
        with_static_items ty (joined leaves (static_leaves x (part_of k.structs ty i))) (i + 1) more

  abbrev mutual
    pub static_sites : t.Initialiser → Option PlainType → List Site → List Site
    static_sites (t.initial_value a) ty rest = item_sites (form_of k a) ty a rest
    static_sites (t.braces l first more c r) ty rest =
        braces k.structs ty (items_count more + 1) l.index
        ∷ static_sites first (part_of k.structs ty 0) (static_items_sites ty 1 more rest)

    pub static_items_sites : Option PlainType → ℕ → t.Initialisers → List Site → List Site
    static_items_sites ty i t.no_initialisers rest = rest
    static_items_sites ty i (t.initialisers s x more) rest =
        static_sites x (part_of k.structs ty i) (static_items_sites ty (i + 1) more rest)
