-- What a form means is no value of a struct, and is null only as an integer.
use Rattle.std.proofs.Common.{◌≡◌, ℕ, Bool, true, false, not, ◌&&◌, ◌||◌, List, refl, sym, subst}
use Rattle.std.specs.Prelude.{if◌then◌else◌, ◌==◌, Option, Some, None, IsSome, IfSome}
use Rattle.std.proofs.lemmas.Bool.{and_parts, or_parts, true≢false, false≢true}
use Rattle.ec_iohw.specs.declared.operations.IoOp.{IoOp}
use Rattle.ec_space.specs.declared.space.SpaceId.{SpaceId}
use Rattle.ec_space.specs.Spaces.{join}
use Rattle.ec_grammar.specs.declared.Constant.{Constant}
use Rattle.ec_grammar.specs.declared.Constant.TheVariants as constants
use Rattle.ec_core.specs.declared.arithmetic_types.Arithmetic.{Arithmetic}
use Rattle.ec_core.specs.declared.arithmetic_types.Arithmetic.TheVariants.{Integer, Fixed}
use Rattle.ec_core.specs.declared.expressions.BinOp.{BinOp}
use Rattle.ec_core.specs.declared.expressions.BinOp.TheVariants.{Add}
use Rattle.ec_core.specs.declared.expressions.UnOp.{UnOp}
use Rattle.ec_core.specs.declared.expressions.UnOp.TheVariants as unary_operators
use Rattle.ec_core.specs.ArithmeticTypes.{arithmetic_of, type_of, common}
use Rattle.ec_core.specs.ArithmeticValues.{is_comparison}
use Rattle.ec_core.specs.Laws.{TypesAreTold}
use Rattle.ec_core.specs.Operators.{same_type, promoted_type}
use Rattle.ec_core.specs.Plain.{PlainType, void, integer, fixed, pointer, array, struct, PlainStruct, PlainExpr, expression, PlainPlace}
use Rattle.ec_core.specs.Plain.{PlainExprs, call, null, binary, unary, convert, io, deref, member, address_of, logical_not, logical_and}
use Rattle.ec_core.specs.Plain.{logical_or, assign, compound, step, comma, bind}
use Rattle.ec_core.specs.PortOperations.{PortAction, reads, writes, updates, port_operation, takes_value}
use Rattle.ec_core.specs.Typing.{int, unsigned_int, unsigned_long, type_of_expr, pointer_space, port_value, port_result, type_of_member}
use Rattle.ec_check_forms.specs.Accesses.{base_of, member_number, reached, part_of, member_of, indexed}
use Rattle.ec_check_forms.specs.declared.ports.Binding.{Binding}
use Rattle.ec_check_forms.specs.declared.ports.NamedGroup.{NamedGroup}
use Rattle.ec_check_forms.specs.declared.ports.NamedPort.{NamedPort}
use Rattle.ec_check_forms.specs.Calls.{called, is_too_wide, fits, optional, accessed, group_node, group_operation}
use Rattle.ec_check_forms.specs.Calls.{binding_operation, size_value}
use Rattle.ec_check_forms.specs.Choices.{logical, sequence, alternatives, pointer_between, type_between, choice_type, choice_made, chosen}
use Rattle.ec_check_forms.specs.Choices.{castable, cast}
use Rattle.ec_check_forms.specs.declared.prefixes.PrefixOp.{PrefixOp}
use Rattle.ec_check_forms.specs.declared.prefixes.PrefixOp.TheVariants.{Address, Deref, Plus, Minus, Invert, Not}
use Rattle.ec_check_forms.specs.Nodes.{condition, address, pointed, plus, suits_unary, unary_operation, negated, prefixed, assigned}
use Rattle.ec_check_forms.specs.Nodes.{operation_mode, compounded, stepped}
use Rattle.ec_check_operands.specs.declared.operands.Modes.{Modes}
use Rattle.ec_check_operands.specs.Operands.{Operand, place, value, made, value_type, as_value, is_null, converted, valued, with_one}
use Rattle.ec_check_operands.specs.Operators.{binary_types, suits, unsuited, incomparable, meet_apart, numbers_meet, meeting_by, meeting}
use Rattle.ec_check_operands.specs.Operators.{null_compared, moved, mixed, pointer_operation, operation_by, operated}
use Rattle.ec_check_operands.specs.Passing.{in_type, brought}
use Rattle.ec_check_operands.specs.Sorts.{is_void, is_arithmetic, is_integer, is_pointer, is_scalar, is_struct, is_aggregate, same_pointee}
use Rattle.ec_check_operands.specs.Sorts.{nest}
use Rattle.ec_check_forms.specs.Constraints.{IsStruct}
use Rattle.ec_check_expressions.specs.Names.{constant_value}
use Rattle.ec_check_expression_laws.specs.Suits.{IsProper}
use Rattle.ec_check_expression_laws.proofs.SaidTypes.{if_both}

-- ---- shapes

abbrev pub IsShaped : Option Operand → Type 0
IsShaped o = IfSome o IsProper

-- an expression that is no struct
abbrev pub IsPlain : PlainExpr → Type 0
IsPlain e = ¬ IsStruct (type_of_expr e)

place_shape : (ty : PlainType) (konst : Bool) (space : SpaceId) (register : Bool) (q : PlainPlace)
    → IsProper (place ty konst space register q)
place_shape ty konst space register q = record { null = λ z. absurd (false≢true z); whole = tt }

valued_shape : (e : PlainExpr) → IsPlain e → IsShaped (valued e)
valued_shape e h = record { null = λ z. absurd (false≢true z); whole = h }

pub with_one_shape : {A : Type 0} → (o : Option A) (g : A → Option Operand) → ((a : A) → IsShaped (g a)) → IsShaped (with_one o g)
with_one_shape None g h = tt
with_one_shape (Some a) g h = h a

-- where what is there is no struct
some_shape : {A : Type 0} → (P : A → Type 0) (o : Option A) (g : A → Option Operand) → IfSome o P → ((a : A) → P a → IsShaped (g a))
    → IsShaped (with_one o g)
some_shape P None g k h = tt
some_shape P (Some a) g k h = h a k

-- ---- types

type_agrees : (m : Modes) (x : Operand) → type_of_expr (as_value m x) ≡ value_type x
type_agrees m (place void konst space register q) = refl
type_agrees m (place (integer signed bytes) konst space register q) = refl
type_agrees m (place (fixed kind sat) konst space register q) = refl
type_agrees m (place (pointer s k t) konst space register q) = refl
type_agrees m (place (array of len) konst space register q) = refl
type_agrees m (place (struct index) konst space register q) = refl
type_agrees m (value e n) = refl

no_struct : (ty : PlainType) → is_struct ty ≡ false → ¬ IsStruct ty
no_struct (struct index) e h = true≢false e
no_struct void e h = h
no_struct (integer signed bytes) e h = h
no_struct (fixed kind sat) e h = h
no_struct (pointer s k t) e h = h
no_struct (array of len) e h = h

number_plain : (t : Arithmetic) → ¬ IsStruct (type_of t)
number_plain (Integer t) h = h
number_plain (Fixed t) h = h

pointer_plain : (ty : PlainType) → IsSome (pointer_space ty) → ¬ IsStruct ty
pointer_plain (struct index) e h = false≢true e
pointer_plain void e h = h
pointer_plain (integer signed bytes) e h = h
pointer_plain (fixed kind sat) e h = h
pointer_plain (pointer s k t) e h = h
pointer_plain (array of len) e h = h

scalar_plain : (ty : PlainType) → is_scalar ty ≡ true → ¬ IsStruct ty
scalar_plain (struct index) e h = false≢true e
scalar_plain void e h = h
scalar_plain (integer signed bytes) e h = h
scalar_plain (fixed kind sat) e h = h
scalar_plain (pointer s k t) e h = h
scalar_plain (array of len) e h = h

part_plain : (ty : PlainType) → is_aggregate ty ≡ false → ¬ IsStruct ty
part_plain (struct index) e h = true≢false e
part_plain void e h = h
part_plain (integer signed bytes) e h = h
part_plain (fixed kind sat) e h = h
part_plain (pointer s k t) e h = h
part_plain (array of len) e h = h

no_pointee : (from : PlainType) (i : ℕ) → same_pointee from (struct i) ≡ false
no_pointee void i = refl
no_pointee (integer signed bytes) i = refl
no_pointee (fixed kind sat) i = refl
no_pointee (pointer s k t) i = refl
no_pointee (array of len) i = refl
no_pointee (struct index) i = refl

never : (b z q r : Bool) → q ≡ false → (b && false || z && false || q && r) ≡ true → ⊥
never true true true r e h = true≢false e
never true false true r e h = true≢false e
never false true true r e h = true≢false e
never false false true r e h = true≢false e
never true true false r e h = false≢true h
never true false false r e h = false≢true h
never false true false r e h = false≢true h
never false false false r e h = false≢true h

cast_plain : (from : PlainType) (z : Bool) (to : PlainType) → castable from z to ≡ true → ¬ IsStruct to
cast_plain from z (struct i) e h = never (is_arithmetic from) z (same_pointee from (struct i)) (nest from (struct i)) (no_pointee from i) e
cast_plain from z void e h = h
cast_plain from z (integer signed bytes) e h = h
cast_plain from z (fixed kind sat) e h = h
cast_plain from z (pointer s k t) e h = h
cast_plain from z (array of len) e h = h

-- ---- binary operators

module _ (m : Modes) (op : BinOp) where
  mixed_plain : (left : Bool) (p other : PlainExpr) → IsPlain p → IfSome (Some (mixed m op left p other)) IsPlain
  mixed_plain true p other h =
      if_both IsPlain (is_comparison op) (null_compared m op true p) (moved m op true p other) (λ e k. k) (λ e. h)
  mixed_plain false p other h =
      if_both IsPlain (is_comparison op) (null_compared m op false p) (moved m op false p other) (λ e k. k) (λ e. h)

  pointers_plain : (j : Option SpaceId) (x y : PlainExpr) → IfSome (pointer_operation m op j x y) IsPlain
  pointers_plain None x y = tt
  pointers_plain (Some j) x y = λ h. h

  numbers_plain : (a b : Option Arithmetic) (x y : PlainExpr) → IfSome (operation_by m op (numbers_meet a b) x y) IsPlain
  numbers_plain None b x y = tt
  numbers_plain (Some s) None x y = tt
  numbers_plain (Some s) (Some t) x y = number_plain (binary_types op s t).result

  operation_plain : (s r : Option SpaceId) (a b : Option Arithmetic) (x y : PlainExpr) → (IsSome s → IsPlain x) → (IsSome r → IsPlain y)
      → IfSome (operation_by m op (meeting_by s r (numbers_meet a b)) x y) IsPlain
  operation_plain (Some s) (Some r) a b x y h k = pointers_plain (join s r) x y
  operation_plain (Some s) None a b x y h k = mixed_plain true x y (h refl)
  operation_plain None (Some r) a b x y h k = mixed_plain false y x (k refl)
  operation_plain None None a b x y h k = numbers_plain a b x y

  pub operated_shape : (x y : Operand) → IsShaped (operated m op (Some x) (Some y))
  operated_shape x y =
      if_both IsShaped (unsuited op (Some x) (Some y) || incomparable op (Some x) (Some y) || meet_apart op (Some x) (Some y)) None
      (with_one (operation_by m op (meeting (value_type x) (value_type y)) (as_value m x) (as_value m y)) valued) (λ e. tt)
      (λ e. some_shape IsPlain (operation_by m op (meeting (value_type x) (value_type y)) (as_value m x) (as_value m y)) valued
      (operation_plain (pointer_space (value_type x)) (pointer_space (value_type y)) (arithmetic_of (value_type x))
      (arithmetic_of (value_type y))
      (as_value m x) (as_value m y) (plain x) (plain y)) valued_shape)
    where
      plain : (z : Operand) → IsSome (pointer_space (value_type z)) → IsPlain (as_value m z)
      plain z h = subst (λ (ty : PlainType). ¬ IsStruct ty) (sym (type_agrees m z)) (pointer_plain (value_type z) h)

-- ---- other forms

module _ (told : TypesAreTold) (m : Modes) where
  converted_plain : (ty : PlainType) (e : PlainExpr) → ¬ IsStruct ty → IsPlain (converted m ty e)
  converted_plain ty e h =
      if_both IsPlain (same_type (type_of_expr e) ty) e (made m ty (convert e))
      (λ q. subst (λ (z : PlainType). ¬ IsStruct z) (sym (told.same (type_of_expr e) ty q)) h) (λ q. h)

  pointed_shape : (e : PlainExpr) → IsShaped (pointed e)
  pointed_shape (expression (pointer s k t) mode node) = place_shape t k s false (deref (expression (pointer s k t) mode node))
  pointed_shape (expression void mode node) = tt
  pointed_shape (expression (integer signed bytes) mode node) = tt
  pointed_shape (expression (fixed kind sat) mode node) = tt
  pointed_shape (expression (array of len) mode node) = tt
  pointed_shape (expression (struct index) mode node) = tt

  address_shape : (x : Operand) → IsShaped (address m x)
  address_shape (place ty konst space false q) = valued_shape (made m (pointer space konst ty) (address_of q)) (λ h. h)
  address_shape (place ty konst space true q) = tt
  address_shape (value e z) = tt

  plus_shape : (e : PlainExpr) → IsShaped (plus m e)
  plus_shape e =
      with_one_shape (arithmetic_of (type_of_expr e)) (λ t. valued (converted m (type_of (promoted_type t)) e))
      (λ t. valued_shape (converted m (type_of (promoted_type t)) e)
      (converted_plain (type_of (promoted_type t)) e (number_plain (promoted_type t))))

  unary_shape : (op : UnOp) (e : PlainExpr) → IsShaped (unary_operation m op e)
  unary_shape op e =
      with_one_shape (arithmetic_of (type_of_expr e))
      (λ t. if suits_unary op t
      then valued (made m (type_of (promoted_type t)) (unary op (converted m (type_of (promoted_type t)) e))) else None)
      (λ t. if_both IsShaped (suits_unary op t)
      (valued (made m (type_of (promoted_type t)) (unary op (converted m (type_of (promoted_type t)) e)))) None
      (λ q. valued_shape (made m (type_of (promoted_type t)) (unary op (converted m (type_of (promoted_type t)) e)))
      (number_plain (promoted_type t))) (λ q. tt))

  negated_shape : (e : Option PlainExpr) → IsShaped (negated m e)
  negated_shape None = tt
  negated_shape (Some e) = valued_shape (made m int (logical_not e)) (λ h. h)

  pub prefixed_shape : (op : PrefixOp) (x : Operand) → IsShaped (prefixed m op x)
  prefixed_shape Address x = address_shape x
  prefixed_shape Deref x = pointed_shape (as_value m x)
  prefixed_shape Plus x = plus_shape (as_value m x)
  prefixed_shape Minus x = unary_shape unary_operators.Minus (as_value m x)
  prefixed_shape Invert x = unary_shape unary_operators.Invert (as_value m x)
  prefixed_shape Not x = negated_shape (condition m (Some x))

  pub assigned_shape : (x y : Operand) → IsShaped (assigned m x y)
  assigned_shape (value e z) y = tt
  assigned_shape (place ty konst space register q) y =
      if_both IsShaped (konst || is_aggregate ty) None (with_one (brought m ty y) (λ e. valued (made m ty (assign q e)))) (λ e. tt)
      (λ e. with_one_shape (brought m ty y) (λ d. valued (made m ty (assign q d)))
      (λ d. valued_shape (made m ty (assign q d)) (part_plain ty (or_parts konst (is_aggregate ty) e).1)))

  pub compounded_shape : (op : BinOp) (x y : Operand) → IsShaped (compounded m op x y)
  compounded_shape op (value e z) y = tt
  compounded_shape op (place ty konst space register q) y =
      let mode = operation_mode m op (arithmetic_of ty) (arithmetic_of (value_type y)) in
      if_both IsShaped (konst || is_aggregate ty || is_pointer (value_type y) || not (suits op ty (value_type y))) None
      (valued (made m ty (compound op mode q (as_value m y)))) (λ e. tt)
      (λ e. let a = or_parts (konst || is_aggregate ty || is_pointer (value_type y)) (not (suits op ty (value_type y))) e in
      let b = or_parts (konst || is_aggregate ty) (is_pointer (value_type y)) a.0 in
      valued_shape (made m ty (compound op mode q (as_value m y))) (part_plain ty (or_parts konst (is_aggregate ty) b.0).1))

  pub stepped_shape : (up before : Bool) (x : Operand) → IsShaped (stepped m up before x)
  stepped_shape up before (value e z) = tt
  stepped_shape up before (place ty konst space register q) =
      if_both IsShaped (is_scalar ty && not konst) (valued (made m ty (step up before q))) None
      (λ e. valued_shape (made m ty (step up before q)) (scalar_plain ty (and_parts (is_scalar ty) (not konst) e).0)) (λ e. tt)

  pub indexed_shape : (x y : Operand) → IsShaped (indexed m x y)
  indexed_shape x y =
      let e = made m (type_of_expr (as_value m x)) (binary Add (as_value m x) (as_value m y)) in
      if_both IsShaped (is_integer (value_type y)) (pointed e) None (λ q. pointed_shape e) (λ q. tt)

  part_shape : (part : PlainType) (k : ℕ) (x : Operand) → IsShaped (part_of part k x)
  part_shape part k (place ty konst space register q) = place_shape part konst space register (member q k)
  part_shape part k (value e z) = tt

  pub member_shape : (structs : List PlainStruct) (name : List ℕ) (arrow : Bool) (x : Operand) → IsShaped (member_of m structs name arrow x)
  member_shape structs name arrow x =
      with_one_shape (base_of arrow (value_type x)) (λ index. with_one (member_number structs name index) (λ k.
      with_one (type_of_member structs (struct index) k) (λ part. with_one (reached m arrow x) (part_of part k))))
      (λ index. with_one_shape (member_number structs name index) (λ k.
      with_one (type_of_member structs (struct index) k) (λ part. with_one (reached m arrow x) (part_of part k)))
      (λ k. with_one_shape (type_of_member structs (struct index) k) (λ part. with_one (reached m arrow x) (part_of part k))
      (λ part. with_one_shape (reached m arrow x) (part_of part k) (part_shape part k))))

  pub logical_shape : (both : Bool) (a b : Option PlainExpr) → IsShaped (logical m both a b)
  logical_shape true None b = tt
  logical_shape true (Some x) None = tt
  logical_shape true (Some x) (Some y) = valued_shape (made m int (logical_and x y)) (λ h. h)
  logical_shape false None b = tt
  logical_shape false (Some x) None = tt
  logical_shape false (Some x) (Some y) = valued_shape (made m int (logical_or x y)) (λ h. h)

  pub sequence_shape : (x y : Operand) → is_struct (value_type y) ≡ false → IsShaped (sequence m x y)
  sequence_shape x y e =
      valued_shape (made m (type_of_expr (as_value m y)) (comma (as_value m x) (as_value m y)))
      (subst (λ (ty : PlainType). ¬ IsStruct ty) (sym (type_agrees m y)) (no_struct (value_type y) e))

  -- ---- `?:` and casts

  in_type_plain : (ty : PlainType) (x : Operand) → ¬ IsStruct ty → IsPlain (in_type m ty x)
  in_type_plain ty x h =
      if_both IsPlain (is_null x && is_pointer ty) (made m ty null) (converted m ty (as_value m x)) (λ e. h)
      (λ e. converted_plain ty (as_value m x) h)

  between_pointers : (s : SpaceId) (a b : PlainType) → IfSome (pointer_between s a b) (λ ty. ¬ IsStruct ty)
  between_pointers s (pointer r k t) b = λ h. h
  between_pointers s void b = tt
  between_pointers s (integer signed bytes) b = tt
  between_pointers s (fixed kind sat) b = tt
  between_pointers s (array of len) b = tt
  between_pointers s (struct index) b = tt

  between_plain : (s r : Option SpaceId) (c d : Option Arithmetic) (a b : PlainType) → (IsSome s → ¬ IsStruct a) → (IsSome r → ¬ IsStruct b)
      → IfSome (type_between (meeting_by s r (numbers_meet c d)) a b) (λ ty. ¬ IsStruct ty)
  between_plain (Some s) (Some r) c d a b h k = joined (join s r)
    where
      joined : (o : Option SpaceId) → IfSome (with_one o (λ j. pointer_between j a b)) (λ ty. ¬ IsStruct ty)
      joined None = tt
      joined (Some j) = between_pointers j a b
  between_plain (Some s) None c d a b h k = h refl
  between_plain None (Some r) c d a b h k = k refl
  between_plain None None None d a b h k = tt
  between_plain None None (Some c) None a b h k = tt
  between_plain None None (Some c) (Some d) a b h k = number_plain (common c d)

  choice_plain : (x y : Operand) → IfSome (choice_type x y) (λ ty. ¬ IsStruct ty)
  choice_plain x y =
      let P : Option PlainType → Type 0 = λ o. IfSome o (λ ty. ¬ IsStruct ty) in
      let more = type_between (meeting (value_type x) (value_type y)) (value_type x) (value_type y) in
      if_both P (not (alternatives (value_type x) (is_null x) (value_type y) (is_null y))) None
      (if is_void (value_type x) then Some void else more) (λ e. tt)
      (λ e. if_both P (is_void (value_type x)) (Some void) more (λ q h. h)
      (λ q. between_plain (pointer_space (value_type x)) (pointer_space (value_type y)) (arithmetic_of (value_type x))
      (arithmetic_of (value_type y))
      (value_type x) (value_type y) (pointer_plain (value_type x)) (pointer_plain (value_type y))))

  pub chosen_shape : (c : PlainExpr) (x y : Operand) → IsShaped (chosen m c x y)
  chosen_shape c x y =
      some_shape (λ ty. ¬ IsStruct ty) (choice_type x y) (λ ty. valued (choice_made m ty c (in_type m ty x) (in_type m ty y)))
      (choice_plain x y)
      (λ ty h. valued_shape (choice_made m ty c (in_type m ty x) (in_type m ty y)) h)

  pub cast_shape : (to : PlainType) (x : Operand) → IsShaped (cast m to x)
  cast_shape to x =
      if_both IsShaped (castable (value_type x) (is_null x) to) (valued (in_type m to x)) None
      (λ e. valued_shape (in_type m to x) (in_type_plain to x (cast_plain (value_type x) (is_null x) to e))) (λ e. tt)

  -- ---- calls and constants

  pub called_shape : (n : ℕ) (ty : PlainType) (args : Option PlainExprs) → ¬ IsStruct ty → IsShaped (called m n ty args)
  called_shape n ty None h = tt
  called_shape n ty (Some es) h = valued_shape (made m ty (call n es)) h

  result_plain : (action : PortAction) (long : Bool) → ¬ IsStruct (port_result action (if long then unsigned_long else unsigned_int))
  result_plain reads true h = h
  result_plain reads false h = h
  result_plain writes long h = h
  result_plain updates long h = h

  pub accessed_shape : (op : IoOp) (index v : Option PlainExpr) (p : NamedPort) → IsShaped (accessed m op index v p)
  accessed_shape op index v p =
      let form = port_operation op in
      let e = made m (port_result form.action (port_value form)) (io op p.number (optional index) (optional v)) in
      if_both IsShaped (is_too_wide form p || not (fits form.indexed index && fits (takes_value form) v)) None (valued e) (λ q. tt)
      (λ q. valued_shape e (result_plain form.action form.long))

  pub group_operation_shape : (acquire : Bool) (g : Option NamedGroup) (count : ℕ) → IsShaped (group_operation m acquire g count)
  group_operation_shape acquire g count =
      let f : NamedGroup → Option Operand = λ n. valued (made m void (group_node acquire n)) in
      if_both IsShaped (count == 0) (with_one g f) None
      (λ e. with_one_shape g f (λ n. valued_shape (made m void (group_node acquire n)) (λ h. h))) (λ e. tt)

  pub binding_operation_shape : (b : Option Binding) → IsShaped (binding_operation m b)
  binding_operation_shape b =
      with_one_shape b (λ x. valued (made m void (bind x.dynamic x.choice)))
      (λ x. valued_shape (made m void (bind x.dynamic x.choice)) (λ h. h))

  pub constant_shape : (c : Constant) → IsProper (constant_value m c)
  constant_shape (constants.Whole n signed bytes) = record { null = λ z. tt; whole = λ h. h }
  constant_shape (constants.Fixed kind n) = record { null = λ z. absurd (false≢true z); whole = λ h. h }

  pub size_shape : (structs : List PlainStruct) (ty : PlainType) → IsProper (size_value m structs ty)
  size_shape structs ty = record { null = λ z. absurd (false≢true z); whole = λ h. h }
