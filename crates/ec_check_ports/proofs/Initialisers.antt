-- Forms of constants, sizes and initialisers by two tables whose ports have the same names.
use Rattle.std.specs.Prelude.{Bool, true, false, not, ◌&&◌, Option, Some, None, ℕ, ◌+◌, if◌then◌else◌, option_map, List, [], ◌∷◌, ◌≡◌}
use Rattle.ec_check_operands.specs.Operands.{with_one}
use Rattle.ec_check_expressions.specs.Known.{Known}
use Rattle.ec_check_initialisers.specs.Forms.{is_value_operator, is_pointer_operand, is_constant_expression, is_constant_assignment}
use Rattle.ec_check_initialisers.specs.Forms.{is_constant_conditional, is_constant_binary, is_constant_cast, is_constant_unary}
use Rattle.ec_check_initialisers.specs.Forms.{is_constant_postfix, is_constant_primary}
use Rattle.ec_core.specs.Plain.{PlainType, PlainExpr}
use Rattle.ec_check_forms.specs.Nodes.{used}
use Rattle.ec_check_constants.specs.Constants.{constant}
use Rattle.ec_check_expressions.specs.Tokens.{is_arrow}
use Rattle.ec_check_initialisers.specs.Places.{index_of_operand, address_designated, part_designated, element_designated, index_value}
use Rattle.ec_check_initialisers.specs.Places.{indexed, in_expression, in_assignment, in_conditional, in_binary, in_cast, in_unary}
use Rattle.ec_check_initialisers.specs.Places.{in_postfix, in_primary, address_constant, address_form, form_of, StaticPlace, Designated}
use Rattle.ec_check_names.specs.Firsts.{first_conditional}
use Rattle.ec_check_forms.specs.Sites.{a_use}
use Rattle.ec_check_initialisers.specs.Parts.{part_of, scalar_of, scalar_value, whole_values, joined, whole_by}
use Rattle.ec_check_initialisers.specs.Sites.{Site, sites_in, size_sites, a_size}
use Rattle.ec_check_initialisers.specs.Locals.{leaf_values, with_items}
use Rattle.ec_core.specs.declared.programs.LeafInit.{LeafInit}
use Rattle.ec_check_operands.specs.Passing.{passed}
use Rattle.ec_check_initialisers.specs.Items.{leaf_of, becomes_null, zero_leaf}
use Rattle.ec_check_initialisers.specs.Statics.{item_leaf, static_leaves, with_static_items}
use Rattle.ec_check_initialisers.specs.Sizes.{size_of_operand, array_size}
use Rattle.std.proofs.Common.{◌≡◌, refl, ap, ◌∙◌}
use Rattle.ec_iohw.specs.declared.table.IoTable.{IoTable}
use Rattle.ec_check_ports.specs.Ports.{LookAlike}
use Rattle.ec_check_ports.proofs.Tables.{known_by}
use Rattle.ec_grammar.specs.declared.Constant.TheVariants.{Whole}
use Rattle.ec_check_ports.proofs.Expressions.{of_cast_same, of_expression_same, of_assignment_same, of_conditional_same}
use Rattle.ec_check_ports.proofs.Expressions.{conditional_sites_same}
use Rattle.ec_grammar.specs.Trees as t
use Rattle.ec_check_expressions.specs.Sites as expressions

module _ (here there : IoTable) (same : LookAlike here there) where
  module _ (k : Known) where
    mutual
      pub is_constant_expression_same : (expression : t.Expression)
          → is_constant_expression (known_by here k) expression ≡ is_constant_expression (known_by there k) expression
      is_constant_expression_same (t.single a) = λ j. is_constant_assignment_same a j
      is_constant_expression_same (t.comma e s a) = refl

      pub is_constant_assignment_same : (assignment : t.Assignment)
          → is_constant_assignment (known_by here k) assignment ≡ is_constant_assignment (known_by there k) assignment
      is_constant_assignment_same (t.value c) = λ j. is_constant_conditional_same c j
      is_constant_assignment_same (t.assign u s op a) = refl

      pub is_constant_conditional_same : (conditional : t.Conditional)
          → is_constant_conditional (known_by here k) conditional ≡ is_constant_conditional (known_by there k) conditional
      is_constant_conditional_same (t.plain b) = λ j. is_constant_binary_same b j
      is_constant_conditional_same (t.choose b q e s c) =
          λ j. is_constant_binary_same b j && (is_constant_expression_same e j && is_constant_conditional_same c j)

      pub is_constant_binary_same : (binary : t.Binary)
          → is_constant_binary (known_by here k) binary ≡ is_constant_binary (known_by there k) binary
      is_constant_binary_same (t.operand c) = λ j. is_constant_cast_same c j
      is_constant_binary_same (t.join a s op b) = λ j. is_constant_binary_same a j && is_constant_binary_same b j

      pub is_constant_cast_same : (cast : t.Cast) → is_constant_cast (known_by here k) cast ≡ is_constant_cast (known_by there k) cast
      is_constant_cast_same (t.uncast u) = λ j. is_constant_unary_same u j
      is_constant_cast_same (t.convert l n r c) =
          λ j. is_constant_cast_same c j && not (is_pointer_operand (of_cast_same here there same k (t.convert l n r c) j))

      pub is_constant_unary_same : (unary : t.Unary)
          → is_constant_unary (known_by here k) unary ≡ is_constant_unary (known_by there k) unary
      is_constant_unary_same (t.postfix p) = λ j. is_constant_postfix_same p j
      is_constant_unary_same (t.step s op u) = refl
      is_constant_unary_same (t.prefix s op c) = λ j. is_value_operator op && is_constant_cast_same c j
      is_constant_unary_same (t.size s l ty r) = refl

      pub is_constant_postfix_same : (postfix : t.Postfix)
          → is_constant_postfix (known_by here k) postfix ≡ is_constant_postfix (known_by there k) postfix
      is_constant_postfix_same (t.primary p) = λ j. is_constant_primary_same p j
      is_constant_postfix_same (t.index p l e r) = refl
      is_constant_postfix_same (t.call p l a r) = refl
      is_constant_postfix_same (t.member p s op n) = refl
      is_constant_postfix_same (t.stepped p s op) = refl

      pub is_constant_primary_same : (primary : t.Primary)
          → is_constant_primary (known_by here k) primary ≡ is_constant_primary (known_by there k) primary
      is_constant_primary_same (t.name n) = refl
      is_constant_primary_same (t.constant s c) = refl
      is_constant_primary_same (t.parenthesised l e r) = λ j. is_constant_expression_same e j
      is_constant_primary_same (t.operation s op l n more r) = refl

  module _ (k : Known) where
    pub index_value_same : (e : t.Expression) → index_value (known_by here k) e ≡ index_value (known_by there k) e
    index_value_same e = λ j. with_one (used (of_expression_same here there same k e j)) index_of_operand

    pub indexed_same : (d : Option Designated) (e : t.Expression) → indexed (known_by here k) d e ≡ indexed (known_by there k) d e
    indexed_same d e = λ j. if is_constant_expression_same k e j then element_designated k.structs (index_value_same e j) d else None

    mutual
      pub in_expression_same : (expression : t.Expression)
          → in_expression (known_by here k) expression ≡ in_expression (known_by there k) expression
      in_expression_same (t.single a) = λ j. in_assignment_same a j
      in_expression_same (t.comma e s a) = refl

      pub in_assignment_same : (assignment : t.Assignment)
          → in_assignment (known_by here k) assignment ≡ in_assignment (known_by there k) assignment
      in_assignment_same (t.value c) = λ j. in_conditional_same c j
      in_assignment_same (t.assign u s op a) = refl

      pub in_conditional_same : (conditional : t.Conditional)
          → in_conditional (known_by here k) conditional ≡ in_conditional (known_by there k) conditional
      in_conditional_same (t.plain b) = λ j. in_binary_same b j
      in_conditional_same (t.choose b q e s c) = refl

      pub in_binary_same : (binary : t.Binary) → in_binary (known_by here k) binary ≡ in_binary (known_by there k) binary
      in_binary_same (t.operand c) = λ j. in_cast_same c j
      in_binary_same (t.join a s op b) = refl

      pub in_cast_same : (cast : t.Cast) → in_cast (known_by here k) cast ≡ in_cast (known_by there k) cast
      in_cast_same (t.uncast u) = λ j. in_unary_same u j
      in_cast_same (t.convert l ty r c) = refl

      pub in_unary_same : (unary : t.Unary) → in_unary (known_by here k) unary ≡ in_unary (known_by there k) unary
      in_unary_same (t.postfix p) = λ j. in_postfix_same p j
      in_unary_same (t.step s op u) = refl
      in_unary_same (t.prefix s op c) = λ j. address_designated op (in_cast_same c j)
      in_unary_same (t.size s l ty r) = refl

      pub in_postfix_same : (postfix : t.Postfix) → in_postfix (known_by here k) postfix ≡ in_postfix (known_by there k) postfix
      in_postfix_same (t.primary p) = λ j. in_primary_same p j
      in_postfix_same (t.index p l e r) = λ j. indexed_same (in_postfix_same p j) e j
      in_postfix_same (t.call p l a r) = refl
      in_postfix_same (t.member p s op (t.identifier at n)) = λ j. part_designated k.structs (is_arrow op) n (in_postfix_same p j)
      in_postfix_same (t.stepped p s op) = refl

      pub in_primary_same : (primary : t.Primary) → in_primary (known_by here k) primary ≡ in_primary (known_by there k) primary
      in_primary_same (t.name (t.identifier s n)) = refl
      in_primary_same (t.constant s c) = refl
      in_primary_same (t.parenthesised l e r) = λ j. in_expression_same e j
      in_primary_same (t.operation s op l n more r) = refl

  -- The form of a constant has no name here: it is that of a number
  abbrev a_number : t.Assignment
  a_number = t.value (t.plain (t.operand (t.uncast (t.postfix (t.primary (t.constant (record { index = 0; at = 0 }) (Whole 0 true 2)))))))

  pub form_of_same : (k : Known) (a : t.Assignment) → form_of (known_by here k) a ≡ form_of (known_by there k) a
  form_of_same k a =
      λ j. if is_constant_assignment_same k a j then form_of k a_number
      else address_form (address_constant (in_assignment_same k a j))

  module _ (k : Known) where
    mutual
      pub leaf_values_same : (initialiser : t.Initialiser) (ty : Option PlainType)
          → leaf_values (known_by here k) initialiser ty ≡ leaf_values (known_by there k) initialiser ty
      leaf_values_same (t.initial_value a) ty = λ j. scalar_value k.modes ty (used (of_assignment_same here there same k a j))
      leaf_values_same (t.braces l first more c r) ty =
          λ j. whole_values k.modes k.structs ty (with_items_same ty (joined (Some []) (leaf_values_same first (part_of k.structs ty 0)
          j)) 1 more j)

      pub with_items_same : (ty : Option PlainType) (es : Option (List PlainExpr)) (i : ℕ) (initialisers : t.Initialisers)
          → with_items (known_by here k) ty es i initialisers ≡ with_items (known_by there k) ty es i initialisers
      with_items_same ty es i t.no_initialisers = refl
      with_items_same ty es i (t.initialisers s x more) =
          λ j. with_items_same ty (joined es (leaf_values_same x (part_of k.structs ty i) j)) (i + 1) more j

  module _ (k : Known) where
    by_form : (l : Known) (constant : Bool) (o : Option StaticPlace) (ty : Option PlainType) (a : t.Assignment)
        → item_leaf (known_by here k) (if constant then form_of l a_number else address_form o) ty a
        ≡ item_leaf (known_by there k) (if constant then form_of l a_number else address_form o) ty a
    by_form l true o ty a =
        λ j. with_one (passed k.modes (scalar_of ty) (used (of_assignment_same here there same k a j)))
        (leaf_of (form_of l a_number) (becomes_null (scalar_of ty) (used (of_assignment_same here there same k a j))))
    by_form l false None ty a = refl
    by_form l false (Some p) ty a =
        λ j. with_one (passed k.modes (scalar_of ty) (used (of_assignment_same here there same k a j)))
        (leaf_of (address_form (Some p)) (becomes_null (scalar_of ty) (used (of_assignment_same here there same k a j))))

    item_leaf_same : (l : Known) (b : t.Assignment) (ty : Option PlainType) (a : t.Assignment)
        → item_leaf (known_by here k) (form_of l b) ty a ≡ item_leaf (known_by there k) (form_of l b) ty a
    item_leaf_same l b ty a = by_form l (is_constant_assignment l b) (address_constant (in_assignment l b)) ty a

    mutual
      pub static_leaves_same : (initialiser : t.Initialiser) (ty : Option PlainType)
          → static_leaves (known_by here k) initialiser ty ≡ static_leaves (known_by there k) initialiser ty
      static_leaves_same (t.initial_value a) ty =
          (λ j. option_map (λ leaf. leaf ∷ []) (item_leaf (known_by here k) (form_of_same k a j) ty a))
          ∙ ap (option_map (λ leaf. leaf ∷ [])) (item_leaf_same (known_by there k) a ty a)
      static_leaves_same (t.braces l first more c r) ty =
          λ j. whole_by zero_leaf k.structs ty (with_static_items_same ty (joined (Some []) (static_leaves_same first (part_of k.structs
          ty 0) j)) 1 more j)

      pub with_static_items_same : (ty : Option PlainType) (leaves : Option (List LeafInit)) (i : ℕ) (initialisers : t.Initialisers)
          → with_static_items (known_by here k) ty leaves i initialisers ≡ with_static_items (known_by there k) ty leaves i initialisers
      with_static_items_same ty leaves i t.no_initialisers = refl
      with_static_items_same ty leaves i (t.initialisers s x more) =
          λ j. with_static_items_same ty (joined leaves (static_leaves_same x (part_of k.structs ty i) j)) (i + 1) more j

  pub array_size_same : (k : Known) (c : t.Conditional) → array_size (known_by here k) c ≡ array_size (known_by there k) c
  array_size_same k c =
      λ j. if is_constant_conditional_same k c j then with_one (used (of_conditional_same here there same k c j)) size_of_operand else
      None

  pub size_sites_same : (k : Known) (c : t.Conditional) (at : ℕ) (rest : List Site)
      → size_sites (known_by here k) c at rest ≡ size_sites (known_by there k) c at rest
  size_sites_same k c at rest =
      λ j. if is_constant_conditional_same k c j then sites_in (conditional_sites_same here there same k c (expressions.on (a_use
      (of_conditional_same here there same k c j) (first_conditional c)) ∷ []) j) (a_size true (used (of_conditional_same here there
      same k c j)) at ∷ rest) else a_size false None at ∷ rest
