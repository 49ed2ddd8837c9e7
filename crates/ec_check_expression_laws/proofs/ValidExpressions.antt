-- What an expression means is as a valid program asks.
use Rattle.std.proofs.Common.{◌≡◌, ◌<◌, ◌+◌, ℕ, Bool, true, false, List, [], ◌∷◌, length, refl, sym, subst, arith}
use Rattle.std.specs.Prelude.{if◌then◌else◌, ◌==◌, ◌⊎◌, Option, Some, None, IsSomeAnd, IfSome, option_map, position, slice_get}
use Rattle.std.specs.Option.{option_or}
use Rattle.std.specs.Str.{bytes_eq}
use Rattle.std.proofs.lemmas.List.Quantifiers.{position-Some}
use Rattle.ec_iohw.specs.declared.operations.IoOp.{IoOp}
use Rattle.ec_iohw.specs.declared.table.Designator.TheVariants as designators
use Rattle.ec_iohw.specs.declared.table.Dynamic.{Dynamic}
use Rattle.ec_iohw.specs.declared.table.IoTable.{IoTable}
use Rattle.ec_iohw.specs.declared.table.Port.{Port}
use Rattle.ec_space.specs.declared.space.SpaceId.{SpaceId}
use Rattle.ec_grammar.specs.declared.token.PunctKind.{PunctKind}
use Rattle.ec_grammar.specs.declared.token.PunctKind.TheVariants as punct
use Rattle.ec_grammar.specs.declared.Constant.{Constant}
use Rattle.ec_grammar.specs.declared.Constant.TheVariants as constants
use Rattle.ec_grammar.specs.declared.Operation.TheVariants as operations
use Rattle.ec_grammar.specs.declared.token.GroupOp.TheVariants as groups
use Rattle.ec_grammar.specs.Spelling as spelling
use Rattle.ec_grammar.specs.Trees as t
use Rattle.ec_grammar.specs.Trees.{Leaf}
use Rattle.ec_core.specs.declared.expressions.BinOp.{BinOp}
use Rattle.ec_core.specs.ArithmeticValues.{is_comparison}
use Rattle.ec_core.specs.Plain.{PlainType, PlainExpr, PlainObject, PlainFunction, PlainProgram, object}
use Rattle.ec_core.specs.PortOperations.{port_operation}
use Rattle.ec_core.specs.Valid.{IsAddressable}
use Rattle.ec_check_names.specs.Names.{Named, an_object, a_function, found}
use Rattle.ec_check_forms.specs.declared.ports.NamedGroup.{NamedGroup}
use Rattle.ec_check_forms.specs.declared.ports.NamedGroup.TheVariants as named_groups
use Rattle.ec_check_forms.specs.Calls.{port_at, port_named, group_at, group_named, group_operation, accessed, operand_count, called}
use Rattle.ec_check_forms.specs.Calls.{choice_of, bound_to, binding_operation}
use Rattle.ec_check_forms.specs.Choices.{cast}
use Rattle.ec_check_forms.specs.Nodes.{used}
use Rattle.ec_check_operands.specs.declared.operands.Modes.{Modes}
use Rattle.ec_check_operands.specs.Operands.{Operand, place, value_type, with_one, with_both}
use Rattle.ec_check_operands.specs.Sorts.{is_void}
use Rattle.ec_check_operands.specs.Passing.{passed}
use Rattle.ec_check_forms.specs.Constraints.{IsArithmetic}
use Rattle.ec_check_forms.specs.Validity.{IsPlaceType, IsOperand, IsOptional, FormsAreOperands, NamesAreOperands, FormsStayValid}
use Rattle.ec_check_forms.specs.Validity.{NamesAreValid, SizesAreValid}
use Rattle.ec_check_expressions.specs.Arguments.{Wanted, parameters, port_operands, wanted_of, wanted_type, Passed, arguments, operands}
use Rattle.ec_check_expressions.specs.Arguments.{with_argument, arguments_in, access_by, access_of}
use Rattle.ec_check_expressions.specs.Bindings.{bare_name, bound_by, binding_of}
use Rattle.ec_check_expressions.specs.Callees.{name_in_postfix, Called, function_named, called_by, callee, further_count, argument_count}
use Rattle.ec_check_expressions.specs.Callees.{takes, exprs_of, call_of}
use Rattle.ec_check_expressions.specs.Expressions.{of_expression, of_assignment, of_conditional, of_binary}
use Rattle.ec_check_expressions.specs.Expressions.{of_cast, of_unary, of_postfix, passed_arguments, passed_further, of_primary}
use Rattle.ec_check_expressions.specs.Known.{Known}
use Rattle.ec_check_expressions.specs.Names.{named, constant_value}
use Rattle.ec_check_expressions.specs.Tokens.{operator_of, joined_by, is_and, compound_operator, stored_by, prefix_operator, is_up}
use Rattle.ec_check_expressions.specs.Tokens.{is_arrow}
use Rattle.ec_check_expressions.specs.TypeNames.{said_type, void_said, meant_type}
use Rattle.ec_check_expression_laws.specs.Laws.{MeanOperands, ExpressionsAreValid}
use Rattle.ec_check_expression_laws.specs.Suits.{IsHeld, AreHeld, IsObjectKnown, IsFunctionKnown, IsOf, Suits}
use Rattle.ec_check_expression_laws.proofs.Members.{members_kept, sizes_valid}
use Rattle.ec_check_expression_laws.proofs.SaidTypes.{if_both, said_placed}
use Rattle.ec_check_expression_laws.proofs.Tokens.{past_type_name, past_expression, past_assignment, past_conditional, past_binary}
use Rattle.ec_check_expression_laws.proofs.Tokens.{past_cast, past_unary, past_postfix, past_primary}
use Rattle.ec_check_expression_laws.proofs.ValidArguments.{IsGiven, ArePassed, one_more, passed_for, call_valid}

-- the operator of a compound assignment is no comparison
compound_compares_not : (op : PunctKind) → IfSome (compound_operator op) (λ o. is_comparison o ≡ false)
compound_compares_not punct.StarAssign = refl
compound_compares_not punct.SlashAssign = refl
compound_compares_not punct.PercentAssign = refl
compound_compares_not punct.PlusAssign = refl
compound_compares_not punct.MinusAssign = refl
compound_compares_not punct.ShiftLeftAssign = refl
compound_compares_not punct.ShiftRightAssign = refl
compound_compares_not punct.AmpersandAssign = refl
compound_compares_not punct.CaretAssign = refl
compound_compares_not punct.BarAssign = refl
compound_compares_not op = tt

-- what is found stands in the list
found_within : {X : Type 0} → (xs : List X) (test : X → Bool) (g : ℕ) → position test xs ≡ Some g → g < length xs
found_within [] test g e = absurd (none_is_none g e)
  where
    none_is_none : (g : ℕ) → ◌≡◌ {A = Option ℕ} None (Some g) → ⊥
    none_is_none g e = cc
found_within (x ∷ xs) test g e = (position-Some test (x ∷ xs) g x e).0

module _ (p : PlainProgram) (io : IoTable) (f : ℕ) where
  used_valid : (x : Option Operand) → IsOptional p io f x → IsOptional p io f (used x)
  used_valid None h = tt
  used_valid (Some x) h = if_both (IsOptional p io f) (is_void (value_type x)) None (Some x) (λ e. tt) (λ e. h)

  -- ---- names

  module _ (names : NamesAreOperands p io f) where
    object_valid : (n : ℕ) (ty : PlainType) (konst : Bool) (space : SpaceId) (register : Bool) (o : Option PlainObject)
        → slice_get p.objects n ≡ o
        → IsSomeAnd o (IsObjectKnown p f ty konst space register) → IsOptional p io f (Some (place ty konst space register (object n)))
    object_valid n ty konst space register None e h = absurd h
    object_valid n ty konst space register (Some x) e h =
        let k = names.objects n x register e (subst (IsPlaceType p.structs) (sym h.typed) h.kind) h.nameable
        (subst (λ (z : PlainType). IsAddressable x.storage ⊎ ((register ≡ true) × IsArithmetic z)) (sym h.typed) h.addressed) in
        subst (λ (z : PlainType). IsOptional p io f (Some (place z konst space register (object n)))) h.typed
        (subst (λ (c : Bool). IsOptional p io f (Some (place x.ty c space register (object n)))) h.constness
        (subst (λ (s : SpaceId). IsOptional p io f (Some (place x.ty x.const s register (object n)))) h.spaced k))

    name_valid : (what : Option Named) → IfSome what (IsOf p f) → IsOptional p io f (named what)
    name_valid None h = tt
    name_valid (Some (a_function number returns params)) h = tt
    name_valid (Some (an_object None ty konst space register)) h = tt
    name_valid (Some (an_object (Some n) None konst space register)) h = tt
    name_valid (Some (an_object (Some n) (Some ty) konst space register)) h =
        object_valid n ty konst space register (slice_get p.objects n) refl h

    constant_valid : (m : Modes) (c : Constant) → IsHeld (spelling.lexeme_of_constant c) → IsOperand p io f (constant_value m c)
    constant_valid m (constants.Whole n signed bytes) h = names.wholes m signed bytes n h
    constant_valid m (constants.Fixed kind n) h = names.fixeds m kind n h

    -- ---- ports and groups

    port_valid : (m : Modes) (op : IoOp) (n i : ℕ) (index v : Option PlainExpr) → IsGiven p io f (port_operands op) i (operands index v)
        → (o : Option Port) → slice_get io.ports.items n ≡ o
        → IsOptional p io f (with_one (option_map (λ q. record { number = n; width = q.width }) o) (accessed m op index v))
    port_valid m op n i index v h None e = tt
    port_valid m op n i index v h (Some q) e = names.ports m op (record { number = n; width = q.width }) q index v e refl h.1 h.2

    found_port_valid : (m : Modes) (op : IoOp) (o : Option ℕ) (i : ℕ) (index v : Option PlainExpr)
        → IsGiven p io f (port_operands op) i (operands index v)
        → IsOptional p io f (with_one (with_one (option_map designators.Port o) (port_at io)) (accessed m op index v))
    found_port_valid m op None i index v h = tt
    found_port_valid m op (Some n) i index v h = port_valid m op n i index v h (slice_get io.ports.items n) refl

    access_by_valid : (m : Modes) (op : IoOp) (name : List ℕ) (i : ℕ) (args : Passed) → IsGiven p io f (port_operands op) i args
        → IsOptional p io f (access_by m op (port_named io name) args)
    access_by_valid m op name i (arguments es) h = tt
    access_by_valid m op name i (operands index v) h =
        found_port_valid m op (position (λ q. bytes_eq q.name.items name) io.ports.items) i index v h

    access_valid : (m : Modes) (op : IoOp) (name : List ℕ) (count i : ℕ) (args : Passed) → IsGiven p io f (port_operands op) i args
        → IsOptional p io f (access_of m op (port_named io name) count args)
    access_valid m op name count i args h =
        if_both (IsOptional p io f) (count == operand_count (port_operation op)) (access_by m op (port_named io name) args) None
        (λ e. access_by_valid m op name i args h) (λ e. tt)

    port_operation_valid : (k : Known) → k.ports ≡ io → (op : IoOp) (name : List ℕ) (count i : ℕ) (args : Passed)
        → IsGiven p io f (port_operands op) i args → IsOptional p io f (access_of k.modes op (port_named k.ports name) count args)
    port_operation_valid k same op name count i args h =
        subst (λ (z : IoTable). IsOptional p io f (access_of k.modes op (port_named z name) count args)) (sym same)
        (access_valid k.modes op name count i args h)

    found_group_valid : (m : Modes) (acquire : Bool) (name : List ℕ) (count : ℕ) (o q : Option ℕ)
        → position (λ g. bytes_eq g.name.items name) io.groups.items ≡ o
        → position (λ d. bytes_eq d.name.items name) io.dynamics.items ≡ q
        → IsOptional p io f (group_operation m acquire
        (with_one (option_or (option_map designators.Group o) (option_map designators.Dynamic q)) group_at) count)
    found_group_valid m acquire name count None None e h = if_both (IsOptional p io f) (count == 0) None None (λ z. tt) (λ z. tt)
    found_group_valid m acquire name count None (Some d) e h =
        names.groups m acquire (named_groups.Dynamic d) count (found_within io.dynamics.items (λ x. bytes_eq x.name.items name) d h)
    found_group_valid m acquire name count (Some g) q e h =
        names.groups m acquire (named_groups.Group g) count (found_within io.groups.items (λ x. bytes_eq x.name.items name) g e)

    group_valid : (k : Known) → k.ports ≡ io → (acquire : Bool) (name : List ℕ) (count : ℕ)
        → IsOptional p io f (group_operation k.modes acquire (group_named k.ports name) count)
    group_valid k same acquire name count =
        subst (λ (z : IoTable). IsOptional p io f (group_operation k.modes acquire (group_named z name) count)) (sym same)
        (found_group_valid k.modes acquire name count (position (λ g. bytes_eq g.name.items name) io.groups.items)
        (position (λ d. bytes_eq d.name.items name) io.dynamics.items) refl refl)

    choice_valid : (m : Modes) (d : ℕ) (x : Dynamic) (g : ℕ) (o : Option ℕ) → slice_get io.dynamics.items d ≡ Some x
        → choice_of x.choices.items g ≡ o
        → IsOptional p io f (binding_operation m (option_map (λ c. record { dynamic = d; choice = c }) o))
    choice_valid m d x g None e h = tt
    choice_valid m d x g (Some c) e h =
        names.bindings m (record { dynamic = d; choice = c }) x e (found_within x.choices.items (λ z. z.group == g) c h)

    dynamic_valid : (m : Modes) (d g : ℕ) (o : Option Dynamic) → slice_get io.dynamics.items d ≡ o
        → IsOptional p io f (binding_operation m
        (with_one o (λ x. option_map (λ c. record { dynamic = d; choice = c }) (choice_of x.choices.items g))))
    dynamic_valid m d g None e = tt
    dynamic_valid m d g (Some x) e = choice_valid m d x g (choice_of x.choices.items g) e refl

    bound_valid : (m : Modes) (d g : Option NamedGroup) → IsOptional p io f (binding_operation m (with_both d g (bound_to io)))
    bound_valid m None g = tt
    bound_valid m (Some d) None = tt
    bound_valid m (Some (named_groups.Group d)) (Some g) = tt
    bound_valid m (Some (named_groups.Dynamic d)) (Some (named_groups.Dynamic g)) = tt
    bound_valid m (Some (named_groups.Dynamic d)) (Some (named_groups.Group g)) =
        dynamic_valid m d g (slice_get io.dynamics.items d) refl

    bound_by_valid : (m : Modes) (name : List ℕ) (o : Option t.Identifier) → IsOptional p io f (binding_operation m (bound_by io name o))
    bound_by_valid m name None = tt
    bound_by_valid m name (Some (t.identifier at n)) = bound_valid m (group_named io name) (group_named io n)

    arguments_valid : (m : Modes) (name : List ℕ) (more : t.Further) → IsOptional p io f (binding_operation m (binding_of io name more))
    arguments_valid m name t.no_further = tt
    arguments_valid m name (t.further s a t.no_further) = bound_by_valid m name (bare_name a)
    arguments_valid m name (t.further s a (t.further r b more)) = tt

    binding_valid : (k : Known) → k.ports ≡ io → (name : List ℕ) (more : t.Further)
        → IsOptional p io f (binding_operation k.modes (binding_of k.ports name more))
    binding_valid k same name more =
        subst (λ (z : IoTable). IsOptional p io f (binding_operation k.modes (binding_of z name more))) (sym same)
        (arguments_valid k.modes name more)

  -- ---- forms

  module _ (m : Modes) (x y : Option Operand) (h : FormsAreOperands p io f m x y) where
    join_valid : (op : PunctKind) (o : Option BinOp) → IsOptional p io f (joined_by m op o x y)
    join_valid op (Some o) = h.operations o
    join_valid op None = h.logicals (is_and op)

    store_valid : (o : Option BinOp) → IfSome o (λ o. is_comparison o ≡ false) → IsOptional p io f (stored_by m o x y)
    store_valid (Some o) k = h.compounds o k
    store_valid None k = h.assignments

    cast_valid : (o : Option PlainType) → IfSome o (IsPlaceType p.structs) → IsOptional p io f (with_both o x (cast m))
    cast_valid None k = tt
    cast_valid (Some to) k = h.casts to k.usable

  -- ---- callees

  callee_by_name : (at : ℕ) (what : Option Named) → IfSome what (IsOf p f)
      → IfSome (function_named at what) (λ c. IsOf p f (a_function c.number c.returns c.params))
  callee_by_name at None h = tt
  callee_by_name at (Some (an_object number ty konst space register)) h = tt
  callee_by_name at (Some (a_function number returns params)) h = h

  callee_known : (k : Known) → Suits p io f k → (n : Option t.Identifier)
      → IfSome (called_by k n) (λ c. IsOf p f (a_function c.number c.returns c.params))
  callee_known k s None = tt
  callee_known k s (Some (t.identifier spot n)) = callee_by_name spot.index (found n k.names) (s.names n)

  parameters_passed : (ty : PlainType) (ts : List PlainType) (o : Option PlainFunction) → IsSomeAnd o (IsFunctionKnown p ty ts)
      → ArePassed p io f (parameters ts)
  parameters_passed ty ts None h = absurd h
  parameters_passed ty ts (Some g) h = h.passed

  none_given : (params : Option (List PlainType)) → IsGiven p io f (wanted_of params) 0 (arguments (Some []))
  none_given None = tt
  none_given (Some ts) = record { rest = ts; types = refl; count = refl; valid = tt }

  -- a call whose arguments are given one after the other
  module _ (names : NamesAreOperands p io f) (m : Modes) (count : ℕ) (pass : Wanted → Passed)
      (given : (w : Wanted) → ArePassed p io f w → IsGiven p io f w 0 (arguments (Some [])) → IsGiven p io f w count (pass w)) where
    function_valid : (number : Option ℕ) (returns : Option PlainType) (params : Option (List PlainType))
        → IsOf p f (a_function number returns params)
        → IsOptional p io f (with_both number returns
        (λ n ty. if takes params count then called m n ty (option_map exprs_of (arguments_in (pass (wanted_of params)))) else None))
    function_valid None returns params h = tt
    function_valid (Some n) None params h = tt
    function_valid (Some n) (Some ty) None h = tt
    function_valid (Some n) (Some ty) (Some ts) h =
        call_valid p io f names m (Some n) (Some ty) (Some ts) count (pass (parameters ts)) h
        (given (parameters ts) (parameters_passed ty ts (slice_get p.functions n) h) (none_given (Some ts)))

    callee_valid : (o : Option Called) → IfSome o (λ c. IsOf p f (a_function c.number c.returns c.params))
        → IsOptional p io f (with_one o (λ c. call_of m c count (arguments_in (pass (wanted_of c.params)))))
    callee_valid None h = tt
    callee_valid (Some c) h = function_valid c.number c.returns c.params h

-- ---- all

module _ (forms : FormsStayValid) (named_valid : NamesAreValid) (sizes : SizesAreValid) (p : PlainProgram) (io : IoTable) (f : ℕ)
    (k : Known) (s : Suits p io f k) where
  abbrev Good : Option Operand → Type 0
  Good x = IsOptional p io f x

  names : NamesAreOperands p io f
  names = named_valid p io f

  both : (x y : Option Operand) → Good x → Good y → FormsAreOperands p io f k.modes (used x) (used y)
  both x y h g = forms p io f k.modes (used x) (used y) (used_valid p io f x h) (used_valid p io f y g)

  one : (x : Option Operand) → Good x → FormsAreOperands p io f k.modes (used x) None
  one x h = forms p io f k.modes (used x) None (used_valid p io f x h) tt

  argument : (w : Wanted) (i : ℕ) (args : Passed) (x : Option Operand) → Good x → ArePassed p io f w → IsGiven p io f w i args
      → IsGiven p io f w (i + 1) (with_argument w i args (passed k.modes (wanted_type w i) (used x)))
  argument w i args x h pw g =
      one_more p io f w i args (passed k.modes (wanted_type w i) (used x)) g (passed_for p io f k.modes w i (used x) pw (one x h).passed)

  mutual
    valid_expression : (x : t.Expression) (rest : List Leaf) → AreHeld (spelling.of_expression x rest) → Good (of_expression k x)
    valid_expression (t.single a) rest h = valid_assignment a rest h
    valid_expression (t.comma e s a) rest h =
        (forms p io f k.modes (of_expression k e) (of_assignment k a) (valid_expression e _ h)
        (valid_assignment a rest (past_expression e _ h).1)).sequences

    valid_assignment : (x : t.Assignment) (rest : List Leaf) → AreHeld (spelling.of_assignment x rest) → Good (of_assignment k x)
    valid_assignment (t.value c) rest h = valid_conditional c rest h
    valid_assignment (t.assign u s op a) rest h =
        store_valid p io f k.modes (used (of_unary k u)) (used (of_assignment k a))
        (both (of_unary k u) (of_assignment k a) (valid_unary u _ h) (valid_assignment a rest (past_unary u _ h).1))
        (compound_operator op) (compound_compares_not op)

    valid_conditional : (x : t.Conditional) (rest : List Leaf) → AreHeld (spelling.of_conditional x rest) → Good (of_conditional k x)
    valid_conditional (t.plain b) rest h = valid_binary b rest h
    valid_conditional (t.choose b q e c d) rest h =
        let he = (past_binary b _ h).1 in
        (forms p io f k.modes (of_expression k e) (of_conditional k d) (valid_expression e _ he)
        (valid_conditional d rest (past_expression e _ he).1)).choices
        (used (of_binary k b)) (used_valid p io f (of_binary k b) (valid_binary b _ h))

    valid_binary : (x : t.Binary) (rest : List Leaf) → AreHeld (spelling.of_binary x rest) → Good (of_binary k x)
    valid_binary (t.operand c) rest h = valid_cast c rest h
    valid_binary (t.join a s op b) rest h =
        join_valid p io f k.modes (used (of_binary k a)) (used (of_binary k b))
        (both (of_binary k a) (of_binary k b) (valid_binary a _ h) (valid_binary b rest (past_binary a _ h).1)) op (operator_of op)

    valid_cast : (x : t.Cast) (rest : List Leaf) → AreHeld (spelling.of_cast x rest) → Good (of_cast k x)
    valid_cast (t.uncast u) rest h = valid_unary u rest h
    valid_cast (t.convert l n r c) rest h =
        cast_valid p io f k.modes (used (of_cast k c)) None (one (of_cast k c) (valid_cast c rest (past_type_name n _ h.1).1))
        (meant_type (void_said k.tags n) (said_type k.tags n)) (said_placed p.structs k.tags s.tags n)

    valid_unary : (x : t.Unary) (rest : List Leaf) → AreHeld (spelling.of_unary x rest) → Good (of_unary k x)
    valid_unary (t.postfix q) rest h = valid_postfix q rest h
    valid_unary (t.step at op u) rest h = (one (of_unary k u) (valid_unary u rest h.1)).steps (is_up op) true
    valid_unary (t.prefix at op c) rest h = (one (of_cast k c) (valid_cast c rest h.1)).prefixes (prefix_operator op)
    valid_unary (t.size at l n r) rest h =
        sizes_valid sizes p io f k.modes k.structs s.small (meant_type (void_said k.tags n) (said_type k.tags n))

    valid_postfix : (x : t.Postfix) (rest : List Leaf) → AreHeld (spelling.of_postfix x rest) → Good (of_postfix k x)
    valid_postfix (t.primary q) rest h = valid_primary q rest h
    valid_postfix (t.index q l e r) rest h =
        (both (of_postfix k q) (of_expression k e) (valid_postfix q _ h) (valid_expression e _ (past_postfix q _ h).1)).subscripts
    valid_postfix (t.call q l a r) rest h =
        callee_valid p io f names k.modes (argument_count a) (λ w. passed_arguments k w (arguments (Some [])) a)
        (λ w pw g. valid_arguments a w (arguments (Some [])) _ (past_postfix q _ h).1 pw g) (callee k q)
        (callee_known p io f k s (name_in_postfix q))
    valid_postfix (t.member q at op (t.identifier spot n)) rest h =
        members_kept p io f k.modes k.structs s.structs n (is_arrow op) (used (of_postfix k q))
        ((one (of_postfix k q) (valid_postfix q _ h)).members n (is_arrow op) s.members)
    valid_postfix (t.stepped q at op) rest h = (one (of_postfix k q) (valid_postfix q _ h)).steps (is_up op) false

    valid_arguments : (x : t.Arguments) (w : Wanted) (args : Passed) (rest : List Leaf) → AreHeld (spelling.of_arguments x rest)
        → ArePassed p io f w
        → IsGiven p io f w 0 args → IsGiven p io f w (argument_count x) (passed_arguments k w args x)
    valid_arguments t.no_arguments w args rest h pw g = g
    valid_arguments (t.arguments a more) w args rest h pw g =
        subst (λ (j : ℕ). IsGiven p io f w j
        (passed_further k w (with_argument w 0 args (passed k.modes (wanted_type w 0) (used (of_assignment k a)))) 1 more))
        (let e : 1 + further_count more ≡ further_count more + 1 = omega arith in e)
        (valid_further more w 1 (with_argument w 0 args (passed k.modes (wanted_type w 0) (used (of_assignment k a)))) rest
        (past_assignment a _ h) pw
        (argument w 0 args (of_assignment k a) (valid_assignment a _ h) pw g))

    valid_further : (x : t.Further) (w : Wanted) (i : ℕ) (args : Passed) (rest : List Leaf) → AreHeld (spelling.of_further x rest)
        → ArePassed p io f w
        → IsGiven p io f w i args → IsGiven p io f w (i + further_count x) (passed_further k w args i x)
    valid_further t.no_further w i args rest h pw g =
        subst (λ (j : ℕ). IsGiven p io f w j args) (let e : i ≡ i + 0 = omega arith in e) g
    valid_further (t.further at a more) w i args rest h pw g =
        subst (λ (j : ℕ). IsGiven p io f w j
        (passed_further k w (with_argument w i args (passed k.modes (wanted_type w i) (used (of_assignment k a)))) (i + 1) more))
        (let e : i + 1 + further_count more ≡ i + (further_count more + 1) = omega arith in e)
        (valid_further more w (i + 1) (with_argument w i args (passed k.modes (wanted_type w i) (used (of_assignment k a)))) rest
        (past_assignment a _ h.1) pw
        (argument w i args (of_assignment k a) (valid_assignment a _ h.1) pw g))

    valid_primary : (x : t.Primary) (rest : List Leaf) → AreHeld (spelling.of_primary x rest) → Good (of_primary k x)
    valid_primary (t.name (t.identifier at n)) rest h = name_valid p io f names (found n k.names) (s.names n)
    valid_primary (t.constant at c) rest h = constant_valid p io f names k.modes c h.0
    valid_primary (t.parenthesised l e r) rest h = valid_expression e _ h.1
    valid_primary (t.operation at (operations.Port op) l (t.identifier spot n) more r) rest h =
        port_operation_valid p io f names k s.ports op n (further_count more) (1 + further_count more)
        (passed_further k (port_operands op) (operands None None) 1 more)
        (valid_further more (port_operands op) 1 (operands None None) _ h.1.1.1 tt (omega arith, tt, tt))
    valid_primary (t.operation at (operations.Group groups.Acquire) l (t.identifier spot n) more r) rest h =
        group_valid p io f names k s.ports true n (further_count more)
    valid_primary (t.operation at (operations.Group groups.Release) l (t.identifier spot n) more r) rest h =
        group_valid p io f names k s.ports false n (further_count more)
    valid_primary (t.operation at (operations.Group groups.Map) l (t.identifier spot n) more r) rest h =
        binding_valid p io f names k s.ports n more

  pub mean_operands : MeanOperands p io f k
  mean_operands = record {
    expressions = λ x rest h. (valid_expression x rest h, past_expression x rest h);
    assignments = λ x rest h. (valid_assignment x rest h, past_assignment x rest h);
    conditionals = λ x rest h. (valid_conditional x rest h, past_conditional x rest h);
    binaries = λ x rest h. (valid_binary x rest h, past_binary x rest h);
    casts = λ x rest h. (valid_cast x rest h, past_cast x rest h);
    unaries = λ x rest h. (valid_unary x rest h, past_unary x rest h);
    postfixes = λ x rest h. (valid_postfix x rest h, past_postfix x rest h);
    primaries = λ x rest h. (valid_primary x rest h, past_primary x rest h);
  }

pub expressions_are_valid : FormsStayValid → NamesAreValid → SizesAreValid → ExpressionsAreValid
expressions_are_valid forms names sizes p io f k s = mean_operands forms names sizes p io f k s
