-- A form at whose site no rule is broken has a meaning, where its operands have one.
use Rattle.std.proofs.Common.{◌≡◌, ℕ, Bool, true, false, not, ◌&&◌, ◌||◌, List, length, refl, sym, subst}
use Rattle.std.specs.Prelude.{if◌then◌else◌, ◌==◌, is_none, Option, Some, None, IsSome, IsSomeAnd, IfSome, option_map}
use Rattle.std.proofs.lemmas.Bool.{or_parts, or_from, and_from, both_ways, not-false, true≢false, false≢true}
use Rattle.ec_iohw.specs.declared.operations.IoOp.{IoOp}
use Rattle.ec_grammar.specs.declared.token.PunctKind.{PunctKind}
use Rattle.ec_core.specs.declared.expressions.BinOp.{BinOp}
use Rattle.ec_core.specs.Laws.{TypesAreTold}
use Rattle.ec_core.specs.Plain.{PlainType, void, PlainStruct, PlainExpr, io}
use Rattle.ec_core.specs.PortOperations.{port_operation, takes_value}
use Rattle.ec_core.specs.Typing.{port_value, port_result}
use Rattle.ec_check_names.specs.Names.{Named, an_object, a_function}
use Rattle.ec_check_forms.specs.Accesses.{indexed, member_of}
use Rattle.ec_check_forms.specs.declared.ports.Binding.{Binding}
use Rattle.ec_check_forms.specs.declared.ports.NamedGroup.{NamedGroup}
use Rattle.ec_check_forms.specs.declared.ports.NamedPort.{NamedPort}
use Rattle.ec_check_forms.specs.Calls.{name_rules, called, is_too_wide, optional, fits, accessed, group_rules, group_node}
use Rattle.ec_check_forms.specs.Calls.{group_operation, binding_rules, binding_operation, size_value}
use Rattle.ec_check_forms.specs.Choices.{logical, sequence, chosen, cast}
use Rattle.ec_check_forms.specs.declared.prefixes.PrefixOp.{PrefixOp}
use Rattle.ec_check_forms.specs.Nodes.{use_rules, used, part_rules, used_part, condition, prefixed, assigned, compounded, stepped}
use Rattle.ec_check_operands.specs.declared.operands.Modes.{Modes}
use Rattle.ec_check_operands.specs.Operands.{Operand, made, value_type, valued, with_one, with_both}
use Rattle.ec_check_operands.specs.Operators.{operated}
use Rattle.ec_check_operands.specs.Passing.{passed, passing_rules}
use Rattle.ec_check_operands.specs.Sorts.{is_void, is_struct}
use Rattle.ec_check_forms.specs.Constraints.{IsStruct}
use Rattle.ec_check_forms.specs.Meanings.{FormsHaveMeanings, KeptFormsHaveMeanings, KeptMembersHaveMeanings}
use Rattle.ec_check_forms.specs.Sites as operands
use Rattle.ec_check_expressions.specs.Callees.{exprs_of}
use Rattle.ec_check_expressions.specs.Known.{is_sized}
use Rattle.ec_check_expressions.specs.Names.{what_is_meant, named}
use Rattle.ec_check_expressions.specs.Sites.{rules_at}
use Rattle.ec_check_expressions.specs.Tokens.{is_and, joined_by, join_by, stored_by, storing_by}
use Rattle.ec_check_expressions.specs.TypeNames.{meant_type, size_of_type_name}
use Rattle.ec_check_expression_laws.specs.Suits.{IsWhole, IsProper}
use Rattle.ec_check_expression_laws.proofs.SaidTypes.{if_both}
use Rattle.ec_check_expression_laws.proofs.Shapes.{IsShaped, with_one_shape, operated_shape, prefixed_shape, assigned_shape}
use Rattle.ec_check_expression_laws.proofs.Shapes.{compounded_shape, stepped_shape, indexed_shape, member_shape, logical_shape}
use Rattle.ec_check_expression_laws.proofs.Shapes.{sequence_shape, chosen_shape, cast_shape, called_shape, accessed_shape}
use Rattle.ec_check_expression_laws.proofs.Shapes.{group_operation_shape, binding_operation_shape, size_shape}
use Rattle.ec_check_expression_laws.specs.Laws.{AreUnbroken}
use Rattle.ec_check_expression_laws.proofs.Unbroken.{site_kept}

not_from_true : (b : Bool) → b ≡ true → not b ≡ false
not_from_true true e = refl
not_from_true false e = absurd (false≢true e)

-- a meaning, which is no value of a struct
abbrev pub IsMeant : Option Operand → Type 0
IsMeant o = IsSomeAnd o IsProper

pub some_meant : (o : Option Operand) → IsSome o → IsShaped o → IsMeant o
some_meant None h s = absurd (false≢true h)
some_meant (Some x) h s = s

-- ---- values that are used

pub used_meant : (x : Option Operand) (at : ℕ) → IsMeant x → AreUnbroken (use_rules x at) → IsMeant (used x)
used_meant None at h k = absurd h
used_meant (Some x) at h k =
    if_both IsMeant (is_void (value_type x)) None (Some x) (λ e. absurd (both_ways (is_void (value_type x)) k.0 e)) (λ e. h)

-- a part of a comma
abbrev IsPart : Option Operand → Type 0
IsPart o = IsSomeAnd o (λ x. IsProper x × (is_struct (value_type x) ≡ false))

part_meant : (x : Option Operand) (at : ℕ) → IsMeant x → AreUnbroken (part_rules x at) → IsPart (used_part x)
part_meant None at h k = absurd h
part_meant (Some x) at h k =
    if_both IsPart (is_struct (value_type x)) None (Some x) (λ e. absurd (both_ways (is_struct (value_type x)) k.0 e)) (λ e. (h, k.0))

module _ (told : TypesAreTold) (forms : KeptFormsHaveMeanings) (m : Modes) where
  parts_meant : (x y : Option Operand) → IsPart x → IsPart y → IsMeant (with_both x y (sequence m))
  parts_meant None y h g = absurd h
  parts_meant (Some x) None h g = absurd g
  parts_meant (Some x) (Some y) h g = sequence_shape told m x y g.1

  pub comma_meant : (x y : Option Operand) (i j k l : ℕ) → IsMeant x → AreUnbroken (use_rules x i) → AreUnbroken (part_rules (used x) j)
      → IsMeant y → AreUnbroken (use_rules y k) → AreUnbroken (part_rules (used y) l)
      → IsMeant (with_both (used_part (used x)) (used_part (used y)) (sequence m))
  comma_meant x y i j k l h a b g c d =
      parts_meant (used_part (used x)) (used_part (used y)) (part_meant (used x) j (used_meant x i h a) b)
      (part_meant (used y) l (used_meant y k g c) d)

  -- ---- operators

  of_two : (x y : Operand) (at : ℕ) → IsProper x → IsProper y → FormsHaveMeanings m x y at
  of_two x y at h g = forms m x y at h.null g.null

  pub join_meant : (op : PunctKind) (o : Option BinOp) (x y : Option Operand) (at : ℕ) → IsMeant x → IsMeant y
      → AreUnbroken (rules_at (join_by o x y at)) → IsMeant (joined_by m op o x y)
  join_meant op o None y at h g k = absurd h
  join_meant op o (Some x) None at h g k = absurd g
  join_meant op (Some o) (Some x) (Some y) at h g k =
      some_meant (operated m o (Some x) (Some y))
      ((of_two x y at h g).operations o (site_kept (operands.an_operation o (Some x) (Some y) at) k))
      (operated_shape m o x y)
  join_meant op None (Some x) (Some y) at h g k =
      some_meant (logical m (is_and op) (condition m (Some x)) (condition m (Some y)))
      ((of_two x y at h g).logicals (is_and op) (site_kept (operands.a_logical (Some x) (Some y) at) k))
      (logical_shape told m (is_and op) (condition m (Some x)) (condition m (Some y)))

  pub store_meant : (o : Option BinOp) (x y : Option Operand) (at : ℕ) → IsMeant x → IsMeant y
      → AreUnbroken (rules_at (storing_by o x y at))
      → IsMeant (stored_by m o x y)
  store_meant (Some o) None y at h g k = absurd h
  store_meant None None y at h g k = absurd h
  store_meant (Some o) (Some x) None at h g k = absurd g
  store_meant None (Some x) None at h g k = absurd g
  store_meant (Some o) (Some x) (Some y) at h g k =
      some_meant (compounded m o x y) ((of_two x y at h g).compounds o (site_kept (operands.a_compound o (Some x) (Some y) at) k))
      (compounded_shape told m o x y)
  store_meant None (Some x) (Some y) at h g k =
      some_meant (assigned m x y) ((of_two x y at h g).assignments (site_kept (operands.an_assignment (Some x) (Some y) at) k))
      (assigned_shape told m x y)

  pub choice_meant : (c x y : Option Operand) (at : ℕ) → IsMeant c → IsMeant x → IsMeant y
      → AreUnbroken (operands.rules_at (operands.a_choice c x y at))
      → IsMeant (with_both x y (λ a b. with_one (condition m c) (λ e. chosen m e a b)))
  choice_meant None x y at u h g k = absurd u
  choice_meant (Some c) None y at u h g k = absurd h
  choice_meant (Some c) (Some x) None at u h g k = absurd g
  choice_meant (Some c) (Some x) (Some y) at u h g k =
      some_meant (with_one (condition m (Some c)) (λ e. chosen m e x y))
      ((of_two x y at h g).choices c (site_kept (operands.a_choice (Some c) (Some x) (Some y) at) k))
      (with_one_shape (condition m (Some c)) (λ e. chosen m e x y) (λ e. chosen_shape told m e x y))

  pub prefix_meant : (op : PrefixOp) (x : Option Operand) (at : ℕ) → IsMeant x → AreUnbroken (operands.rules_at (operands.a_prefix op x at))
      → IsMeant (with_one x (prefixed m op))
  prefix_meant op None at h k = absurd h
  prefix_meant op (Some x) at h k =
      some_meant (prefixed m op x) ((of_two x x at h h).prefixes op (site_kept (operands.a_prefix op (Some x) at) k))
      (prefixed_shape told m op x)

  pub step_meant : (up before : Bool) (x : Option Operand) (at : ℕ) → IsMeant x → AreUnbroken (operands.rules_at (operands.a_step x at))
      → IsMeant (with_one x (stepped m up before))
  step_meant up before None at h k = absurd h
  step_meant up before (Some x) at h k =
      some_meant (stepped m up before x) ((of_two x x at h h).steps up before (site_kept (operands.a_step (Some x) at) k))
      (stepped_shape told m up before x)

  pub index_meant : (x y : Option Operand) (at : ℕ) → IsMeant x → IsMeant y → AreUnbroken (operands.rules_at (operands.an_index x y at))
      → IsMeant (with_both x y (indexed m))
  index_meant None y at h g k = absurd h
  index_meant (Some x) None at h g k = absurd g
  index_meant (Some x) (Some y) at h g k =
      some_meant (indexed m x y) ((of_two x y at h g).subscripts (site_kept (operands.an_index (Some x) (Some y) at) k))
      (indexed_shape told m x y)

  pub member_meant : KeptMembersHaveMeanings
      → (structs : List PlainStruct) (name : List ℕ) (arrow : Bool) (x : Option Operand) (at name_at : ℕ) → IsMeant x
      → AreUnbroken (operands.rules_at (operands.a_member structs name arrow x at name_at))
      → IsMeant (with_one x (member_of m structs name arrow))
  member_meant members structs name arrow None at name_at h k = absurd h
  member_meant members structs name arrow (Some x) at name_at h k =
      some_meant (member_of m structs name arrow x)
      (members m structs name arrow x at name_at h.whole (site_kept (operands.a_member structs name arrow (Some x) at name_at) k))
      (member_shape told m structs name arrow x)

  -- ---- type names

  pub cast_meant : (void_at : Option ℕ) (to : Option PlainType) (x : Option Operand) (at n : ℕ) → void_at ≡ None
      → IsSomeAnd to (λ ty. is_sized n ty ≡ true) → IsMeant x → AreUnbroken (operands.rules_at (operands.a_cast to x at))
      → IsMeant (with_both (meant_type void_at to) x (cast m))
  cast_meant void_at None x at n e s h k = absurd s
  cast_meant void_at (Some to) None at n e s h k = absurd h
  cast_meant void_at (Some to) (Some x) at n e s h k =
      subst (λ (o : Option ℕ). IsMeant (with_both (meant_type o (Some to)) (Some x) (cast m))) (sym e)
      (some_meant (cast m to x) ((of_two x x at h h).casts to (site_kept (operands.a_cast (Some to) (Some x) at) k))
      (cast_shape told m to x))

  size_made : (structs : List PlainStruct) (to : Option PlainType) → IsSomeAnd to (λ ty. is_sized (length structs) ty ≡ true)
      → IsMeant (size_of_type_name m structs to)
  size_made structs None s = absurd s
  size_made structs (Some ty) s =
      if_both IsMeant (is_sized (length structs) ty) (Some (size_value m structs ty)) None (λ e. size_shape told m structs ty)
      (λ e. absurd (both_ways (is_sized (length structs) ty) e s))

  pub size_meant : (structs : List PlainStruct) (void_at : Option ℕ) (to : Option PlainType) → void_at ≡ None
      → IsSomeAnd to (λ ty. is_sized (length structs) ty ≡ true) → IsMeant (size_of_type_name m structs (meant_type void_at to))
  size_meant structs void_at to e s =
      subst (λ (o : Option ℕ). IsMeant (size_of_type_name m structs (meant_type o to))) (sym e) (size_made structs to s)

  -- ---- arguments

  pub passing_meant : (x : Option Operand) (to : Option PlainType) (at : ℕ) → IsMeant x → AreUnbroken (passing_rules x to at) → IsSome to
      → IsSome (passed m to x)
  passing_meant None to at h k s = absurd h
  passing_meant (Some x) None at h k s = absurd (false≢true s)
  passing_meant (Some x) (Some to) at h k s = (of_two x x at h h).passed to (site_kept (operands.a_passing (Some x) (Some to) at) k)

  -- ---- calls

  pub call_meant : (n : ℕ) (ty : PlainType) (params count : ℕ) (args : Option (List PlainExpr)) → ¬ IsStruct ty
      → (params == count) ≡ true → IsSome args
      → IsMeant (if params == count then called m n ty (option_map exprs_of args) else None)
  call_meant n ty params count None h e s = absurd (false≢true s)
  call_meant n ty params count (Some es) h e s =
      if_both IsMeant (params == count) (called m n ty (Some (exprs_of es))) None (λ q. called_shape told m n ty (Some (exprs_of es)) h)
      (λ q. absurd (both_ways (params == count) q e))

  -- ---- operations on ports and groups

  pub access_made : (op : IoOp) (index v : Option PlainExpr) (p : NamedPort) → is_too_wide (port_operation op) p ≡ false
      → fits (port_operation op).indexed index ≡ true → fits (takes_value (port_operation op)) v ≡ true → IsMeant (accessed m op index v p)
  access_made op index v p narrow i j =
      let form = port_operation op in
      let e = made m (port_result form.action (port_value form)) (io op p.number (optional index) (optional v)) in
      some_meant (accessed m op index v p)
      (if_both IsSome (is_too_wide form p || not (fits form.indexed index && fits (takes_value form) v)) None (valued e)
      (λ q. absurd (both_ways (is_too_wide form p || not (fits form.indexed index && fits (takes_value form) v))
      (or_from (is_too_wide form p) (not (fits form.indexed index && fits (takes_value form) v)) narrow (not_from_true
      (fits form.indexed index && fits (takes_value form) v) (and_from (fits form.indexed index) (fits (takes_value form) v) i j))) q))
      (λ q. refl))
      (accessed_shape told m op index v p)

  found_group_meant : (acquire : Bool) (g : Option NamedGroup) → is_none g ≡ false
      → IsSome (with_one g (λ n. valued (made m void (group_node acquire n))))
  found_group_meant acquire None h = absurd (true≢false h)
  found_group_meant acquire (Some n) h = refl

  pub group_meant : (acquire : Bool) (g : Option NamedGroup) (count at : ℕ) → AreUnbroken (group_rules g count at)
      → IsMeant (group_operation m acquire g count)
  group_meant acquire g count at k =
      let a = or_parts (is_none g) (not (count == 0)) k.0 in
      some_meant (group_operation m acquire g count)
      (if_both IsSome (count == 0) (with_one g (λ n. valued (made m void (group_node acquire n)))) None
      (λ e. found_group_meant acquire g a.0) (λ e. absurd (both_ways (count == 0) e (not-false (count == 0) a.1))))
      (group_operation_shape told m acquire g count)

  pub binding_meant : (b : Option Binding) (at : ℕ) → AreUnbroken (binding_rules b at) → IsMeant (binding_operation m b)
  binding_meant None at k = absurd (true≢false k.0)
  binding_meant (Some b) at k = some_meant (binding_operation m (Some b)) refl (binding_operation_shape told m (Some b))

-- ---- names

pub name_meant : (what : Option Named) (at : ℕ) → IfSome what IsWhole → AreUnbroken (name_rules (what_is_meant what) at)
    → IsMeant (named what)
name_meant None at h k = absurd (true≢false k.1.0)
name_meant (Some (a_function number returns params)) at h k = absurd (true≢false k.1.1.0)
name_meant (Some (an_object None ty konst space register)) at h k = absurd (true≢false k.0)
name_meant (Some (an_object (Some n) None konst space register)) at h k = absurd (false≢true h)
name_meant (Some (an_object (Some n) (Some ty) konst space register)) at h k = record { null = λ z. absurd (false≢true z); whole = tt }
