-- What an expression means at a place, and the sites in it where rules are judged (ISO/IEC 9899:1999, 6.5).
use Rattle.std.specs.Prelude.{ℕ, ◌+◌, true, false, is_some, Option, Some, None, List, [], ◌∷◌}
use Rattle.ec_grammar.specs.declared.Operation.{Operation}
use Rattle.ec_grammar.specs.declared.Operation.TheVariants as operations
use Rattle.ec_grammar.specs.declared.token.GroupOp.TheVariants as groups
use Rattle.ec_grammar.specs.Trees as t
use Rattle.ec_check_names.specs.Firsts.{first_expression, first_assignment, first_binary, first_cast, first_unary}
use Rattle.ec_check_names.specs.Firsts.{first_postfix}
use Rattle.ec_check_names.specs.Names.{found}
use Rattle.ec_check_forms.specs.Calls.{port_named, group_named, group_operation, binding_operation}
use Rattle.ec_check_forms.specs.Nodes.{used, used_part, condition, prefixed, stepped}
use Rattle.ec_check_forms.specs.Accesses.{indexed, member_of}
use Rattle.ec_check_forms.specs.Choices.{sequence}
use Rattle.ec_check_forms.specs.Choices.{chosen, cast}
use Rattle.ec_check_operands.specs.Operands.{Operand, with_one, with_both}
use Rattle.ec_check_operands.specs.Passing.{passed}
use Rattle.ec_check_forms.specs.Sites.{a_name, a_callee, a_use, a_part, a_prefix, a_step, an_index, a_member, a_passing}
use Rattle.ec_check_forms.specs.Sites.{a_choice, a_cast, a_port, a_group, a_binding}
use Rattle.ec_check_expressions.specs.Counts.{further_count, argument_count}
use Rattle.ec_check_expressions.specs.Names.{what_is_meant}
use Rattle.ec_check_expressions.specs.Tokens.{prefix_operator, is_up, is_arrow}
use Rattle.ec_check_expressions.specs.Types.{meant_type}
use Rattle.ec_check_expressions.specs.Arguments.{Wanted, nothing, port_operands, wanted_of, wanted_type, Passed, arguments, operands}
use Rattle.ec_check_expressions.specs.Arguments.{with_argument, arguments_in, access_of}
use Rattle.ec_check_expressions.specs.Bindings.{binding_of}
use Rattle.ec_check_expressions.specs.Callees.{Called, callee, called_sites, call_of}
use Rattle.ec_check_expressions.specs.Known.{Known}
use Rattle.ec_check_expressions.specs.Names.{named, constant_value}
use Rattle.ec_check_expressions.specs.Sites.{Site, on, a_type_name}
use Rattle.ec_check_expressions.specs.Tokens.{joined, a_join, stored, a_storing}
use Rattle.ec_check_expressions.specs.TypeNames.{said_type, void_said, size_of_type_name}

-- what a call gives the types of its arguments by
abbrev pub wanted_by : Option Called → Wanted
wanted_by None = nothing
wanted_by (Some f) = wanted_of f.params

-- what is called, at its first token
abbrev pub callee_site : Known → t.Postfix → Site
callee_site k p = on (a_callee (is_some (callee k p)) (first_postfix p))

-- a function that is called by its name is judged there; what else is called is an expression, whose sites come first
abbrev pub call_sites : Option Called → (List Site → List Site) → (count : ℕ) → (at : ℕ) → List Site → List Site
call_sites None expression count at rest = expression rest
call_sites (Some f) expression count at rest = called_sites f count at rest

-- what gives the types of the operands of an operation of `<iohw.h>`; those of groups have none
abbrev pub wanted_for : Operation → Wanted
wanted_for (operations.Port op) = port_operands op
wanted_for (operations.Group op) = nothing

-- what an operation makes of the arguments behind its first one; those of `iogroup_map` are names
abbrev pub operation_of : Known → Operation → List ℕ → t.Further → Passed → Option Operand
operation_of k (operations.Port op) n more args = access_of k.modes op (port_named k.ports n) (further_count more) args
operation_of k (operations.Group groups.Acquire) n more args =
    group_operation k.modes true (group_named k.ports n) (further_count more)
operation_of k (operations.Group groups.Release) n more args =
    group_operation k.modes false (group_named k.ports n) (further_count more)
operation_of k (operations.Group groups.Map) n more args = binding_operation k.modes (binding_of k.ports n more)

-- it is judged behind its arguments; of `iogroup_map` nothing else is
abbrev pub operation_sites : Known → Operation → List ℕ → t.Further → (at : ℕ) → (List Site → List Site) → List Site
    → List Site
operation_sites k (operations.Port op) n more at others rest =
    others (on (a_port op (port_named k.ports n) (further_count more) at) ∷ rest)
operation_sites k (operations.Group groups.Acquire) n more at others rest =
    others (on (a_group (group_named k.ports n) (further_count more) at) ∷ rest)
operation_sites k (operations.Group groups.Release) n more at others rest =
    others (on (a_group (group_named k.ports n) (further_count more) at) ∷ rest)
operation_sites k (operations.Group groups.Map) n more at others rest =
    on (a_binding (binding_of k.ports n more) at) ∷ rest

module _ (k : Known) where
  -- ---- what each means; None where it breaks a rule and has no type

  abbrev mutual
    pub of_expression : t.Expression → Option Operand
    of_expression (t.single a) = of_assignment a
    of_expression (t.comma e s a) =
        with_both (used_part (used (of_expression e))) (used_part (used (of_assignment a))) (sequence k.modes)

    pub of_assignment : t.Assignment → Option Operand
    of_assignment (t.value c) = of_conditional c
    of_assignment (t.assign u s op a) = stored k.modes op (used (of_unary u)) (used (of_assignment a))

    -- the second and third operands of `?:` may be void
    pub of_conditional : t.Conditional → Option Operand
    of_conditional (t.plain b) = of_binary b
    of_conditional (t.choose b q e s c) =
        with_both (of_expression e) (of_conditional c) (λ x y.
        with_one (condition k.modes (used (of_binary b))) (λ w. chosen k.modes w x y))

    pub of_binary : t.Binary → Option Operand
    of_binary (t.operand c) = of_cast c
    of_binary (t.join a s op b) = joined k.modes op (used (of_binary a)) (used (of_binary b))

    pub of_cast : t.Cast → Option Operand
    of_cast (t.uncast u) = of_unary u
    of_cast (t.convert l n r c) =
        with_both (meant_type (void_said k.tags n) (said_type k.tags n)) (used (of_cast c)) (cast k.modes)

    pub of_unary : t.Unary → Option Operand
    of_unary (t.postfix p) = of_postfix p
    of_unary (t.step s op u) = with_one (used (of_unary u)) (stepped k.modes (is_up op) true)
    of_unary (t.prefix s op c) = with_one (used (of_cast c)) (prefixed k.modes (prefix_operator op))
    of_unary (t.size s l n r) =
        size_of_type_name k.modes k.structs (meant_type (void_said k.tags n) (said_type k.tags n))

    pub of_postfix : t.Postfix → Option Operand
    of_postfix (t.primary p) = of_primary p
    of_postfix (t.index p l e r) = with_both (used (of_postfix p)) (used (of_expression e)) (indexed k.modes)
    of_postfix (t.call p l a r) =
        with_one (callee k p) (λ f. call_of k.modes f (argument_count a)
        (arguments_in (passed_arguments (wanted_of f.params) (arguments (Some [])) a)))
    of_postfix (t.member p s op (t.identifier at n)) =
        with_one (used (of_postfix p)) (member_of k.modes k.structs n (is_arrow op))
    of_postfix (t.stepped p s op) = with_one (used (of_postfix p)) (stepped k.modes (is_up op) false)

    -- what was passed so far, with some arguments more, each brought to its type
    pub passed_arguments : Wanted → Passed → t.Arguments → Passed
    passed_arguments w args t.no_arguments = args
    passed_arguments w args (t.arguments a more) =
        passed_further w (with_argument w 0 args (passed k.modes (wanted_type w 0) (used (of_assignment a)))) 1 more

    pub passed_further : Wanted → Passed → (number : ℕ) → t.Further → Passed
    passed_further w args i t.no_further = args
    passed_further w args i (t.further s a more) =
        passed_further w (with_argument w i args (passed k.modes (wanted_type w i) (used (of_assignment a)))) (i + 1)
        more

    pub of_primary : t.Primary → Option Operand
    of_primary (t.name (t.identifier s n)) = named (found n k.names)
    of_primary (t.constant s c) = Some (constant_value k.modes c)
    of_primary (t.parenthesised l e r) = of_expression e
    of_primary (t.operation s op l (t.identifier at n) more r) =
        operation_of k op n more (passed_further (wanted_for op) (operands None None) 1 more)

  -- ---- the sites in each, and then others

  abbrev mutual
    pub expression_sites : t.Expression → List Site → List Site
    expression_sites (t.single a) rest = assignment_sites a rest
    expression_sites (t.comma e s a) rest =
        expression_sites e (on (a_use (of_expression e) (first_expression e))
        ∷ on (a_part (used (of_expression e)) (first_expression e))
        ∷ assignment_sites a (on (a_use (of_assignment a) (first_assignment a))
        ∷ on (a_part (used (of_assignment a)) (first_assignment a)) ∷ rest))

    pub assignment_sites : t.Assignment → List Site → List Site
    assignment_sites (t.value c) rest = conditional_sites c rest
    assignment_sites (t.assign u s op a) rest =
        unary_sites u (on (a_use (of_unary u) (first_unary u))
        ∷ assignment_sites a (on (a_use (of_assignment a) (first_assignment a))
        ∷ a_storing op (used (of_unary u)) (used (of_assignment a)) s.index ∷ rest))

    pub conditional_sites : t.Conditional → List Site → List Site
    conditional_sites (t.plain b) rest = binary_sites b rest
    conditional_sites (t.choose b q e s c) rest =
        binary_sites b (on (a_use (of_binary b) (first_binary b))
        ∷ expression_sites e (conditional_sites c
        (on (a_choice (used (of_binary b)) (of_expression e) (of_conditional c) q.index) ∷ rest)))

    pub binary_sites : t.Binary → List Site → List Site
    binary_sites (t.operand c) rest = cast_sites c rest
    binary_sites (t.join a s op b) rest =
        binary_sites a (on (a_use (of_binary a) (first_binary a))
        ∷ binary_sites b (on (a_use (of_binary b) (first_binary b))
        ∷ a_join op (used (of_binary a)) (used (of_binary b)) s.index ∷ rest))

    pub cast_sites : t.Cast → List Site → List Site
    cast_sites (t.uncast u) rest = unary_sites u rest
    cast_sites (t.convert l n r c) rest =
        cast_sites c (on (a_use (of_cast c) (first_cast c))
        ∷ a_type_name k.tags n ∷ on (a_cast (said_type k.tags n) (used (of_cast c)) l.index) ∷ rest)

    pub unary_sites : t.Unary → List Site → List Site
    unary_sites (t.postfix p) rest = postfix_sites p rest
    unary_sites (t.step s op u) rest =
        unary_sites u (on (a_use (of_unary u) (first_unary u)) ∷ on (a_step (used (of_unary u)) s.index) ∷ rest)
    unary_sites (t.prefix s op c) rest =
        cast_sites c (on (a_use (of_cast c) (first_cast c))
        ∷ on (a_prefix (prefix_operator op) (used (of_cast c)) s.index) ∷ rest)
    unary_sites (t.size s l n r) rest = a_type_name k.tags n ∷ rest

    pub postfix_sites : t.Postfix → List Site → List Site
    postfix_sites (t.primary p) rest = primary_sites p rest
    postfix_sites (t.index p l e r) rest =
        postfix_sites p (on (a_use (of_postfix p) (first_postfix p))
        ∷ expression_sites e (on (a_use (of_expression e) (first_expression e))
        ∷ on (an_index (used (of_postfix p)) (used (of_expression e)) l.index) ∷ rest))
    postfix_sites (t.call p l a r) rest =
        callee_site k p
        ∷ call_sites (callee k p) (postfix_sites p) (argument_count a) l.index
        (arguments_sites (wanted_by (callee k p)) a rest)
    postfix_sites (t.member p s op (t.identifier at n)) rest =
        postfix_sites p (on (a_use (of_postfix p) (first_postfix p))
        ∷ on (a_member k.structs n (is_arrow op) (used (of_postfix p)) s.index at.index) ∷ rest)
    postfix_sites (t.stepped p s op) rest =
        postfix_sites p (on (a_use (of_postfix p) (first_postfix p))
        ∷ on (a_step (used (of_postfix p)) s.index) ∷ rest)

    pub arguments_sites : Wanted → t.Arguments → List Site → List Site
    arguments_sites w t.no_arguments rest = rest
    arguments_sites w (t.arguments a more) rest =
        assignment_sites a (on (a_use (of_assignment a) (first_assignment a))
        ∷ on (a_passing (used (of_assignment a)) (wanted_type w 0) (first_assignment a)) ∷ further_sites w 1 more rest)

    pub further_sites : Wanted → (number : ℕ) → t.Further → List Site → List Site
    further_sites w i t.no_further rest = rest
    further_sites w i (t.further s a more) rest =
        assignment_sites a (on (a_use (of_assignment a) (first_assignment a))
        ∷ on (a_passing (used (of_assignment a)) (wanted_type w i) (first_assignment a))
        ∷ further_sites w (i + 1) more rest)

    pub primary_sites : t.Primary → List Site → List Site
    primary_sites (t.name (t.identifier s n)) rest = on (a_name (what_is_meant (found n k.names)) s.index) ∷ rest
    primary_sites (t.constant s c) rest = rest
    primary_sites (t.parenthesised l e r) rest = expression_sites e rest
    primary_sites (t.operation s op l (t.identifier at n) more r) rest =
        operation_sites k op n more s.index (further_sites (wanted_for op) 1 more) rest
