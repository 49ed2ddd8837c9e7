-- What an expression means, and the sites in it, by two tables whose ports have the same names.
use Rattle.std.specs.Prelude.{ℕ, ◌+◌, true, false, Some, None, List, [], ◌∷◌}
use Rattle.ec_grammar.specs.declared.Operation.{Operation}
use Rattle.ec_check_names.specs.Firsts.{first_expression, first_assignment, first_binary, first_cast, first_unary, first_postfix}
use Rattle.ec_check_forms.specs.Calls.{group_operation, binding_operation}
use Rattle.ec_check_forms.specs.Nodes.{used, used_part, condition, prefixed, stepped}
use Rattle.ec_check_forms.specs.Accesses.{indexed, member_of}
use Rattle.ec_check_forms.specs.Choices.{sequence, chosen, cast}
use Rattle.ec_check_operands.specs.Operands.{with_one, with_both}
use Rattle.ec_check_operands.specs.Passing.{passed}
use Rattle.ec_check_forms.specs.Sites.{a_use, a_part, a_prefix, a_step, an_index, a_member, a_passing, a_choice, a_cast, a_port, a_group}
use Rattle.ec_check_forms.specs.Sites.{a_binding}
use Rattle.ec_check_expressions.specs.Counts.{further_count, argument_count}
use Rattle.ec_check_expressions.specs.Tokens.{prefix_operator, is_up, is_arrow, joined, a_join, stored, a_storing}
use Rattle.ec_check_expressions.specs.Types.{meant_type}
use Rattle.ec_check_expressions.specs.Arguments.{Wanted, wanted_of, wanted_type, Passed, arguments, operands, with_argument}
use Rattle.ec_check_expressions.specs.Arguments.{arguments_in, access_of}
use Rattle.ec_check_expressions.specs.Callees.{callee, call_of}
use Rattle.ec_check_expressions.specs.Known.{Known}
use Rattle.ec_check_expressions.specs.Sites.{Site, on, a_type_name}
use Rattle.ec_check_expressions.specs.TypeNames.{said_type, void_said}
use Rattle.ec_check_expressions.specs.Expressions.{wanted_by, callee_site, call_sites, wanted_for, operation_of, operation_sites}
use Rattle.ec_check_expressions.specs.Expressions.{of_expression, of_assignment, of_conditional, of_binary, of_cast, of_unary}
use Rattle.ec_check_expressions.specs.Expressions.{of_postfix, passed_arguments, passed_further, of_primary, expression_sites}
use Rattle.ec_check_expressions.specs.Expressions.{assignment_sites, conditional_sites, binary_sites, cast_sites, unary_sites}
use Rattle.ec_check_expressions.specs.Expressions.{postfix_sites, arguments_sites, further_sites, primary_sites}
use Rattle.std.proofs.Common.{◌≡◌, refl}
use Rattle.ec_iohw.specs.declared.table.IoTable.{IoTable}
use Rattle.ec_check_ports.specs.Ports.{LookAlike}
use Rattle.ec_check_ports.proofs.Tables.{known_by, port_named_same, group_named_same, binding_of_same}
use Rattle.ec_grammar.specs.declared.Operation.TheVariants as operations
use Rattle.ec_grammar.specs.declared.token.GroupOp.TheVariants as groups
use Rattle.ec_grammar.specs.Trees as t

module _ (here there : IoTable) (same : LookAlike here there) where
  pub operation_of_same : (k : Known) (operation : Operation) (n : List ℕ) (more : t.Further) (args : Passed)
      → operation_of (known_by here k) operation n more args ≡ operation_of (known_by there k) operation n more args
  operation_of_same k (operations.Port op) n more args =
      λ j. access_of k.modes op (port_named_same here there same n j) (further_count more) args
  operation_of_same k (operations.Group groups.Acquire) n more args =
      λ j. group_operation k.modes true (group_named_same here there same n j) (further_count more)
  operation_of_same k (operations.Group groups.Release) n more args =
      λ j. group_operation k.modes false (group_named_same here there same n j) (further_count more)
  operation_of_same k (operations.Group groups.Map) n more args =
      λ j. binding_operation k.modes (binding_of_same here there same n more j)

  module _ (f g : List Site → List Site) (h : (rest : List Site) → f rest ≡ g rest) where
    pub operation_sites_same : (k : Known) (operation : Operation) (n : List ℕ) (more : t.Further) (at : ℕ) (rest : List Site)
        → operation_sites (known_by here k) operation n more at f rest ≡ operation_sites (known_by there k) operation n more at g rest
    operation_sites_same k (operations.Port op) n more at rest =
        λ j. h (on (a_port op (port_named_same here there same n j) (further_count more) at) ∷ rest) j
    operation_sites_same k (operations.Group groups.Acquire) n more at rest =
        λ j. h (on (a_group (group_named_same here there same n j) (further_count more) at) ∷ rest) j
    operation_sites_same k (operations.Group groups.Release) n more at rest =
        λ j. h (on (a_group (group_named_same here there same n j) (further_count more) at) ∷ rest) j
    operation_sites_same k (operations.Group groups.Map) n more at rest =
        λ j. on (a_binding (binding_of_same here there same n more j) at) ∷ rest

  module _ (k : Known) where
    mutual
      pub of_expression_same : (expression : t.Expression)
          → of_expression (known_by here k) expression ≡ of_expression (known_by there k) expression
      of_expression_same (t.single a) = λ j. of_assignment_same a j
      of_expression_same (t.comma e s a) =
          λ j. with_both (used_part (used (of_expression_same e j))) (used_part (used (of_assignment_same a j))) (sequence k.modes)

      pub of_assignment_same : (assignment : t.Assignment)
          → of_assignment (known_by here k) assignment ≡ of_assignment (known_by there k) assignment
      of_assignment_same (t.value c) = λ j. of_conditional_same c j
      of_assignment_same (t.assign u s op a) = λ j. stored k.modes op (used (of_unary_same u j)) (used (of_assignment_same a j))

      pub of_conditional_same : (conditional : t.Conditional)
          → of_conditional (known_by here k) conditional ≡ of_conditional (known_by there k) conditional
      of_conditional_same (t.plain b) = λ j. of_binary_same b j
      of_conditional_same (t.choose b q e s c) =
          λ j. with_both (of_expression_same e j) (of_conditional_same c j) (λ x y. with_one (condition k.modes (used (of_binary_same b
          j))) (λ w. chosen k.modes w x y))

      pub of_binary_same : (binary : t.Binary) → of_binary (known_by here k) binary ≡ of_binary (known_by there k) binary
      of_binary_same (t.operand c) = λ j. of_cast_same c j
      of_binary_same (t.join a s op b) = λ j. joined k.modes op (used (of_binary_same a j)) (used (of_binary_same b j))

      pub of_cast_same : (cast : t.Cast) → of_cast (known_by here k) cast ≡ of_cast (known_by there k) cast
      of_cast_same (t.uncast u) = λ j. of_unary_same u j
      of_cast_same (t.convert l n r c) =
          λ j. with_both (meant_type (void_said k.tags n) (said_type k.tags n)) (used (of_cast_same c j)) (cast k.modes)

      pub of_unary_same : (unary : t.Unary) → of_unary (known_by here k) unary ≡ of_unary (known_by there k) unary
      of_unary_same (t.postfix p) = λ j. of_postfix_same p j
      of_unary_same (t.step s op u) = λ j. with_one (used (of_unary_same u j)) (stepped k.modes (is_up op) true)
      of_unary_same (t.prefix s op c) = λ j. with_one (used (of_cast_same c j)) (prefixed k.modes (prefix_operator op))
      of_unary_same (t.size s l n r) = refl

      pub of_postfix_same : (postfix : t.Postfix) → of_postfix (known_by here k) postfix ≡ of_postfix (known_by there k) postfix
      of_postfix_same (t.primary p) = λ j. of_primary_same p j
      of_postfix_same (t.index p l e r) = λ j. with_both (used (of_postfix_same p j)) (used (of_expression_same e j)) (indexed k.modes)
      of_postfix_same (t.call p l a r) =
          λ j. with_one (callee k p) (λ f. call_of k.modes f (argument_count a) (arguments_in (passed_arguments_same (wanted_of f.params)
          (arguments (Some [])) a j)))
      of_postfix_same (t.member p s op (t.identifier at n)) =
          λ j. with_one (used (of_postfix_same p j)) (member_of k.modes k.structs n (is_arrow op))
      of_postfix_same (t.stepped p s op) = λ j. with_one (used (of_postfix_same p j)) (stepped k.modes (is_up op) false)

      pub passed_arguments_same : (w : Wanted) (args : Passed) (arguments : t.Arguments)
          → passed_arguments (known_by here k) w args arguments ≡ passed_arguments (known_by there k) w args arguments
      passed_arguments_same w args t.no_arguments = refl
      passed_arguments_same w args (t.arguments a more) =
          λ j. passed_further_same w (with_argument w 0 args (passed k.modes (wanted_type w 0) (used (of_assignment_same a j)))) 1 more j

      pub passed_further_same : (w : Wanted) (args : Passed) (number : ℕ) (further : t.Further)
          → passed_further (known_by here k) w args number further ≡ passed_further (known_by there k) w args number further
      passed_further_same w args i t.no_further = refl
      passed_further_same w args i (t.further s a more) =
          λ j. passed_further_same w (with_argument w i args (passed k.modes (wanted_type w i) (used (of_assignment_same a j)))) (i + 1)
          more j

      pub of_primary_same : (primary : t.Primary) → of_primary (known_by here k) primary ≡ of_primary (known_by there k) primary
      of_primary_same (t.name (t.identifier s n)) = refl
      of_primary_same (t.constant s c) = refl
      of_primary_same (t.parenthesised l e r) = λ j. of_expression_same e j
      of_primary_same (t.operation s op l (t.identifier at n) more r) =
          λ j. operation_of_same k op n more (passed_further_same (wanted_for op) (operands None None) 1 more j) j

    mutual
      pub expression_sites_same : (expression : t.Expression) (rest : List Site)
          → expression_sites (known_by here k) expression rest ≡ expression_sites (known_by there k) expression rest
      expression_sites_same (t.single a) rest = λ j. assignment_sites_same a rest j
      expression_sites_same (t.comma e s a) rest =
          λ j. expression_sites_same e (on (a_use (of_expression_same e j) (first_expression e)) ∷ on (a_part (used (of_expression_same e
          j)) (first_expression e)) ∷ assignment_sites_same a (on (a_use (of_assignment_same a j) (first_assignment a)) ∷ on (a_part
          (used (of_assignment_same a j)) (first_assignment a)) ∷ rest) j) j

      pub assignment_sites_same : (assignment : t.Assignment) (rest : List Site)
          → assignment_sites (known_by here k) assignment rest ≡ assignment_sites (known_by there k) assignment rest
      assignment_sites_same (t.value c) rest = λ j. conditional_sites_same c rest j
      assignment_sites_same (t.assign u s op a) rest =
          λ j. unary_sites_same u (on (a_use (of_unary_same u j) (first_unary u)) ∷ assignment_sites_same a (on (a_use (of_assignment_same
          a j) (first_assignment a)) ∷ a_storing op (used (of_unary_same u j)) (used (of_assignment_same a j)) s.index ∷ rest) j) j

      pub conditional_sites_same : (conditional : t.Conditional) (rest : List Site)
          → conditional_sites (known_by here k) conditional rest ≡ conditional_sites (known_by there k) conditional rest
      conditional_sites_same (t.plain b) rest = λ j. binary_sites_same b rest j
      conditional_sites_same (t.choose b q e s c) rest =
          λ j. binary_sites_same b (on (a_use (of_binary_same b j) (first_binary b)) ∷ expression_sites_same e (conditional_sites_same c
          (on (a_choice (used (of_binary_same b j)) (of_expression_same e j) (of_conditional_same c j) q.index) ∷ rest) j) j) j

      pub binary_sites_same : (binary : t.Binary) (rest : List Site)
          → binary_sites (known_by here k) binary rest ≡ binary_sites (known_by there k) binary rest
      binary_sites_same (t.operand c) rest = λ j. cast_sites_same c rest j
      binary_sites_same (t.join a s op b) rest =
          λ j. binary_sites_same a (on (a_use (of_binary_same a j) (first_binary a)) ∷ binary_sites_same b (on (a_use (of_binary_same b j)
          (first_binary b)) ∷ a_join op (used (of_binary_same a j)) (used (of_binary_same b j)) s.index ∷ rest) j) j

      pub cast_sites_same : (cast : t.Cast) (rest : List Site)
          → cast_sites (known_by here k) cast rest ≡ cast_sites (known_by there k) cast rest
      cast_sites_same (t.uncast u) rest = λ j. unary_sites_same u rest j
      cast_sites_same (t.convert l n r c) rest =
          λ j. cast_sites_same c (on (a_use (of_cast_same c j) (first_cast c)) ∷ a_type_name k.tags n ∷ on (a_cast (said_type k.tags n)
          (used (of_cast_same c j)) l.index) ∷ rest) j

      pub unary_sites_same : (unary : t.Unary) (rest : List Site)
          → unary_sites (known_by here k) unary rest ≡ unary_sites (known_by there k) unary rest
      unary_sites_same (t.postfix p) rest = λ j. postfix_sites_same p rest j
      unary_sites_same (t.step s op u) rest =
          λ j. unary_sites_same u (on (a_use (of_unary_same u j) (first_unary u)) ∷ on (a_step (used (of_unary_same u j)) s.index) ∷ rest)
          j
      unary_sites_same (t.prefix s op c) rest =
          λ j. cast_sites_same c (on (a_use (of_cast_same c j) (first_cast c)) ∷ on (a_prefix (prefix_operator op) (used (of_cast_same c
          j)) s.index) ∷ rest) j
      unary_sites_same (t.size s l n r) rest = refl

      pub postfix_sites_same : (postfix : t.Postfix) (rest : List Site)
          → postfix_sites (known_by here k) postfix rest ≡ postfix_sites (known_by there k) postfix rest
      postfix_sites_same (t.primary p) rest = λ j. primary_sites_same p rest j
      postfix_sites_same (t.index p l e r) rest =
          λ j. postfix_sites_same p (on (a_use (of_postfix_same p j) (first_postfix p)) ∷ expression_sites_same e (on (a_use
          (of_expression_same e j) (first_expression e)) ∷ on (an_index (used (of_postfix_same p j)) (used (of_expression_same e j))
          l.index) ∷ rest) j) j
      postfix_sites_same (t.call p l a r) rest =
          λ j. callee_site k p ∷ call_sites (callee k p) (λ y0. postfix_sites_same p y0 j) (argument_count a) l.index
          (arguments_sites_same (wanted_by (callee k p)) a rest j)
      postfix_sites_same (t.member p s op (t.identifier at n)) rest =
          λ j. postfix_sites_same p (on (a_use (of_postfix_same p j) (first_postfix p)) ∷ on (a_member k.structs n (is_arrow op) (used
          (of_postfix_same p j)) s.index at.index) ∷ rest) j
      postfix_sites_same (t.stepped p s op) rest =
          λ j. postfix_sites_same p (on (a_use (of_postfix_same p j) (first_postfix p)) ∷ on (a_step (used (of_postfix_same p j)) s.index)
          ∷ rest) j

      pub arguments_sites_same : (w : Wanted) (arguments : t.Arguments) (rest : List Site)
          → arguments_sites (known_by here k) w arguments rest ≡ arguments_sites (known_by there k) w arguments rest
      arguments_sites_same w t.no_arguments rest = refl
      arguments_sites_same w (t.arguments a more) rest =
          λ j. assignment_sites_same a (on (a_use (of_assignment_same a j) (first_assignment a)) ∷ on (a_passing (used (of_assignment_same
          a j)) (wanted_type w 0) (first_assignment a)) ∷ further_sites_same w 1 more rest j) j

      pub further_sites_same : (w : Wanted) (number : ℕ) (further : t.Further) (rest : List Site)
          → further_sites (known_by here k) w number further rest ≡ further_sites (known_by there k) w number further rest
      further_sites_same w i t.no_further rest = refl
      further_sites_same w i (t.further s a more) rest =
          λ j. assignment_sites_same a (on (a_use (of_assignment_same a j) (first_assignment a)) ∷ on (a_passing (used (of_assignment_same
          a j)) (wanted_type w i) (first_assignment a)) ∷ further_sites_same w (i + 1) more rest j) j

      pub primary_sites_same : (primary : t.Primary) (rest : List Site)
          → primary_sites (known_by here k) primary rest ≡ primary_sites (known_by there k) primary rest
      primary_sites_same (t.name (t.identifier s n)) rest = refl
      primary_sites_same (t.constant s c) rest = refl
      primary_sites_same (t.parenthesised l e r) rest = λ j. expression_sites_same e rest j
      primary_sites_same (t.operation s op l (t.identifier at n) more r) rest =
          operation_sites_same (further_sites (known_by here k) (wanted_for op) 1 more) (further_sites (known_by there k) (wanted_for op)
          1 more) (λ r. further_sites_same (wanted_for op) 1 more r) k op n more s.index rest
