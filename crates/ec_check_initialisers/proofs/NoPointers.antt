-- What has the form of a constant expression is no pointer, nor is a part of it.
use Rattle.std.proofs.Common.{◌≡◌, refl, sym, ap, subst, Bool, true, false, not, ◌&&◌, ◌||◌, if◌then◌else◌, Option, Some, None, IfSome, length}
use Rattle.std.proofs.lemmas.Bool.{false≢true}
use Rattle.ec_grammar.specs.declared.token.PunctKind.{PunctKind}
use Rattle.ec_grammar.specs.declared.token.PunctKind.TheVariants as p
use Rattle.ec_grammar.specs.declared.Constant.{Constant}
use Rattle.ec_grammar.specs.declared.Constant.TheVariants as constants
use Rattle.ec_grammar.specs.Trees as t
use Rattle.ec_space.specs.declared.space.SpaceId.{SpaceId}
use Rattle.ec_core.specs.declared.arithmetic_types.Arithmetic.{Arithmetic}
use Rattle.ec_core.specs.declared.arithmetic_types.Arithmetic.TheVariants.{Integer, Fixed}
use Rattle.ec_core.specs.declared.expressions.BinOp.{BinOp}
use Rattle.ec_core.specs.declared.expressions.UnOp.{UnOp}
use Rattle.ec_core.specs.declared.expressions.UnOp.TheVariants.{Minus, Invert}
use Rattle.ec_core.specs.ArithmeticTypes.{arithmetic_of, type_of, common}
use Rattle.ec_core.specs.Operators.{promoted_type, same_type}
use Rattle.ec_core.specs.Plain.{PlainType, void, integer, fixed, pointer, array, struct, PlainExpr, convert, unary}
use Rattle.ec_core.specs.Typing.{type_of_expr, pointer_space}
use Rattle.ec_check_operands.specs.declared.operands.Modes.{Modes}
use Rattle.ec_check_operands.specs.Meetings.{type_between}
use Rattle.ec_check_operands.specs.Operands.{Operand, place, value, value_type, as_value, made, is_null, valued, with_one, with_both}
use Rattle.ec_check_operands.specs.Operators.{operated, operation_by, binary_types, meeting, meeting_by, numbers_meet}
use Rattle.ec_check_operands.specs.Operators.{unsuited, incomparable, meet_apart}
use Rattle.ec_check_operands.specs.Sorts.{is_void, is_pointer}
use Rattle.ec_check_forms.specs.Calls.{size_value}
use Rattle.ec_check_operands.specs.Passing.{in_type}
use Rattle.ec_check_forms.specs.Choices.{alternatives, choice_type, choice_made, chosen, logical}
use Rattle.ec_check_forms.specs.Constraints.{IsPointer}
use Rattle.ec_check_forms.specs.Nodes.{used, condition, prefixed, suits_unary, plus, unary_operation, negated}
use Rattle.ec_check_expressions.specs.Expressions.{of_expression, of_assignment, of_conditional, of_binary, of_cast, of_unary, of_postfix}
use Rattle.ec_check_expressions.specs.Expressions.{of_primary}
use Rattle.ec_check_expressions.specs.Known.{Known, is_sized}
use Rattle.ec_check_expressions.specs.Names.{constant_value}
use Rattle.ec_check_expressions.specs.Tokens.{prefix_operator, operator_of, is_and, joined_by}
use Rattle.ec_check_expressions.specs.TypeNames.{said_type, void_said, meant_type, size_of_type_name}
use Rattle.ec_check_initialisers.specs.Forms.{is_value_operator, is_pointer_operand, is_constant_expression, is_constant_assignment}
use Rattle.ec_check_initialisers.specs.Forms.{is_constant_conditional, is_constant_binary, is_constant_cast, is_constant_unary}
use Rattle.ec_check_initialisers.specs.Forms.{is_constant_postfix, is_constant_primary}
use Rattle.ec_check_initialisers.specs.Laws.{IsNoPointer, ConstantsAreNoPointers}

-- ---- types

number_no_pointer : (n : Arithmetic) → ¬ IsPointer (type_of n)
number_no_pointer (Integer n) h = h
number_no_pointer (Fixed n) h = h

no_space : (ty : PlainType) → ¬ IsPointer ty → pointer_space ty ≡ None
no_space void n = refl
no_space (integer signed bytes) n = refl
no_space (fixed kind sat) n = refl
no_space (pointer space konst to) n = absurd (n tt)
no_space (array of len) n = refl
no_space (struct index) n = refl

told_no_pointer : (ty : PlainType) → not (is_pointer ty) ≡ true → ¬ IsPointer ty
told_no_pointer (pointer space konst to) h = absurd (false≢true h)
told_no_pointer void h = λ q. q
told_no_pointer (integer signed bytes) h = λ q. q
told_no_pointer (fixed kind sat) h = λ q. q
told_no_pointer (array of len) h = λ q. q
told_no_pointer (struct index) h = λ q. q

-- two types that are no pointers meet as numbers
numbers_meeting : (a b : PlainType) → ¬ IsPointer a → ¬ IsPointer b → meeting a b ≡ numbers_meet (arithmetic_of a) (arithmetic_of b)
numbers_meeting a b n o = subst (λ (s : Option SpaceId). meeting_by s (pointer_space b) (numbers_meet (arithmetic_of a) (arithmetic_of b))
    ≡ numbers_meet (arithmetic_of a) (arithmetic_of b)) (sym (no_space a n))
    (subst (λ (s : Option SpaceId). meeting_by None s (numbers_meet (arithmetic_of a) (arithmetic_of b))
    ≡ numbers_meet (arithmetic_of a) (arithmetic_of b)) (sym (no_space b o)) refl)

agrees : (m : Modes) (x : Operand) → ¬ IsPointer (value_type x) → ¬ IsPointer (type_of_expr (as_value m x))
agrees m (value e zero) n = n
agrees m (place void konst space register q) n = n
agrees m (place (integer signed bytes) konst space register q) n = n
agrees m (place (fixed kind sat) konst space register q) n = n
agrees m (place (pointer s k to) konst space register q) n = n
agrees m (place (array of len) konst space register q) n = n
agrees m (place (struct index) konst space register q) n = n

first : (a b : Bool) → (a && b) ≡ true → a ≡ true
first true b h = refl
first false b h = h

second : (a b : Bool) → (a && b) ≡ true → b ≡ true
second true b h = h
second false b h = cc

-- ---- forms of operands that are no pointers

unless : (b : Bool) (o : Option Operand) → IsNoPointer o → IsNoPointer (if b then None else o)
unless true o n = tt
unless false o n = n

used_no : (o : Option Operand) → IsNoPointer o → IsNoPointer (used o)
used_no None n = tt
used_no (Some x) n = unless (is_void (value_type x)) (Some x) n

module _ (m : Modes) where
  numbers_no : (op : BinOp) (r s : Option Arithmetic) (a b : PlainExpr)
      → IsNoPointer (with_one (operation_by m op (numbers_meet r s) a b) valued)
  numbers_no op None s a b = tt
  numbers_no op (Some r) None a b = tt
  numbers_no op (Some r) (Some s) a b = number_no_pointer (binary_types op r s).result

  operated_no : (op : BinOp) (x y : Option Operand) → IsNoPointer x → IsNoPointer y → IsNoPointer (operated m op x y)
  operated_no op None y n o = tt
  operated_no op (Some x) None n o = tt
  operated_no op (Some x) (Some y) n o =
      unless (unsuited op (Some x) (Some y) || incomparable op (Some x) (Some y) || meet_apart op (Some x) (Some y))
      (with_one (operation_by m op (meeting (value_type x) (value_type y)) (as_value m x) (as_value m y)) valued)
      (subst (λ w. IsNoPointer (with_one (operation_by m op w (as_value m x) (as_value m y)) valued))
      (sym (numbers_meeting (value_type x) (value_type y) n o))
      (numbers_no op (arithmetic_of (value_type x)) (arithmetic_of (value_type y)) (as_value m x) (as_value m y)))

  logical_no : (both : Bool) (x y : Option PlainExpr) → IsNoPointer (logical m both x y)
  logical_no true None y = tt
  logical_no true (Some x) None = tt
  logical_no true (Some x) (Some y) = λ q. q
  logical_no false None y = tt
  logical_no false (Some x) None = tt
  logical_no false (Some x) (Some y) = λ q. q

  joined_no : (op : PunctKind) (o : Option BinOp) (x y : Option Operand) → IsNoPointer x → IsNoPointer y
      → IsNoPointer (joined_by m op o x y)
  joined_no op (Some o) x y n h = operated_no o x y n h
  joined_no op None x y n h = logical_no (is_and op) (condition m x) (condition m y)

  converted_no : (b : Bool) (n : Arithmetic) (e : PlainExpr) → ¬ IsPointer (type_of_expr e)
      → ¬ IsPointer (type_of_expr (if b then e else made m (type_of n) (convert e)))
  converted_no true n e h = h
  converted_no false n e h = number_no_pointer n

  plus_no : (o : Option Arithmetic) (e : PlainExpr) → ¬ IsPointer (type_of_expr e) → arithmetic_of (type_of_expr e) ≡ o
      → IsNoPointer (plus m e)
  plus_no None e h q = subst (λ r. IsNoPointer (with_one r (λ n. valued (if same_type (type_of_expr e) (type_of (promoted_type n)) then e
      else made m (type_of (promoted_type n)) (convert e))))) (sym q) tt
  plus_no (Some n) e h q = subst (λ r. IsNoPointer (with_one r (λ n. valued (if same_type (type_of_expr e) (type_of (promoted_type n)) then e
      else made m (type_of (promoted_type n)) (convert e))))) (sym q)
      (converted_no (same_type (type_of_expr e) (type_of (promoted_type n))) (promoted_type n) e h)

  when : (b : Bool) (o : Option Operand) → IsNoPointer o → IsNoPointer (if b then o else None)
  when true o n = n
  when false o n = tt

  unary_no : (op : UnOp) (o : Option Arithmetic) (f : Arithmetic → PlainExpr)
      → ((n : Arithmetic) → type_of_expr (f n) ≡ type_of (promoted_type n))
      → IsNoPointer (with_one o (λ n. if suits_unary op n then valued (f n) else None))
  unary_no op None f h = tt
  unary_no op (Some n) f h = when (suits_unary op n) (valued (f n))
      (subst (λ ty. ¬ IsPointer ty) (sym (h n)) (number_no_pointer (promoted_type n)))

  negated_no : (e : Option PlainExpr) → IsNoPointer (negated m e)
  negated_no None = tt
  negated_no (Some e) = λ q. q

  prefix_no : (op : PunctKind) → is_value_operator op ≡ true → (x : Operand) → ¬ IsPointer (value_type x)
      → IsNoPointer (prefixed m (prefix_operator op) x)
  prefix_no p.Ampersand h x n = absurd (false≢true h)
  prefix_no p.Star h x n = absurd (false≢true h)
  prefix_no p.Plus h x n = plus_no (arithmetic_of (type_of_expr (as_value m x))) (as_value m x) (agrees m x n) refl
  prefix_no p.Minus h x n = unary_no Minus (arithmetic_of (type_of_expr (as_value m x))) _ (λ n. refl)
  prefix_no p.Tilde h x n = unary_no Invert (arithmetic_of (type_of_expr (as_value m x))) _ (λ n. refl)
  prefix_no _ h x n = negated_no (condition m (Some x))

  applied_no : (op : PunctKind) → is_value_operator op ≡ true → (o : Option Operand) → IsNoPointer o
      → IsNoPointer (with_one o (prefixed m (prefix_operator op)))
  applied_no op h None n = tt
  applied_no op h (Some x) n = prefix_no op h x n

  -- ---- `?:`

  abbrev IsNone : Option PlainType → Type 0
  IsNone o = IfSome o (λ ty. ¬ IsPointer ty)

  between_no : (r s : Option Arithmetic) (a b : PlainType) → IsNone (type_between (numbers_meet r s) a b)
  between_no None s a b = tt
  between_no (Some r) None a b = tt
  between_no (Some r) (Some s) a b = number_no_pointer (common r s)

  unless_type : (b : Bool) (o : Option PlainType) → IsNone o → IsNone (if b then None else o)
  unless_type true o n = tt
  unless_type false o n = n

  or_void : (b : Bool) (o : Option PlainType) → IsNone o → IsNone (if b then Some void else o)
  or_void true o n = λ q. q
  or_void false o n = n

  choice_no : (x y : Operand) → ¬ IsPointer (value_type x) → ¬ IsPointer (value_type y) → IsNone (choice_type x y)
  choice_no x y n o =
      unless_type (not (alternatives (value_type x) (is_null x) (value_type y) (is_null y)))
      (if is_void (value_type x) then Some void
      else type_between (meeting (value_type x) (value_type y)) (value_type x) (value_type y))
      (or_void (is_void (value_type x)) (type_between (meeting (value_type x) (value_type y)) (value_type x) (value_type y))
      (subst (λ w. IsNone (type_between w (value_type x) (value_type y)))
      (sym (numbers_meeting (value_type x) (value_type y) n o))
      (between_no (arithmetic_of (value_type x)) (arithmetic_of (value_type y)) (value_type x) (value_type y))))

  made_no : (o : Option PlainType) → IsNone o → (c : PlainExpr) (f g : PlainType → PlainExpr)
      → IsNoPointer (with_one o (λ ty. valued (choice_made m ty c (f ty) (g ty))))
  made_no None n c f g = tt
  made_no (Some ty) n c f g = n

  chosen_no : (c : Option PlainExpr) (x y : Option Operand) → IsNoPointer x → IsNoPointer y
      → IsNoPointer (with_both x y (λ x y. with_one c (λ w. chosen m w x y)))
  chosen_no c None y n o = tt
  chosen_no c (Some x) None n o = tt
  chosen_no None (Some x) (Some y) n o = tt
  chosen_no (Some c) (Some x) (Some y) n o =
      made_no (choice_type x y) (choice_no x y n o) c (λ ty. in_type m ty x) (λ ty. in_type m ty y)

  -- ---- constants and sizes

  constant_no : (c : Constant) → ¬ IsPointer (value_type (constant_value m c))
  constant_no (constants.Whole n signed bytes) = λ q. q
  constant_no (constants.Fixed kind n) = λ q. q

pointer_told : (o : Option Operand) → not (is_pointer_operand o) ≡ true → IsNoPointer o
pointer_told None h = tt
pointer_told (Some x) h = told_no_pointer (value_type x) h

-- ---- trees

module _ (k : Known) where
  size_no : (ty : Option PlainType) → IsNoPointer (size_of_type_name k.modes k.structs ty)
  size_no None = tt
  size_no (Some ty) = when k.modes (is_sized (length k.structs) ty) (Some (size_value k.modes k.structs ty)) (λ q. q)

  mutual
    expression_no : (e : t.Expression) → is_constant_expression k e ≡ true → IsNoPointer (of_expression k e)
    expression_no (t.single a) h = assignment_no a h
    expression_no (t.comma e s a) h = absurd (false≢true h)

    assignment_no : (e : t.Assignment) → is_constant_assignment k e ≡ true → IsNoPointer (of_assignment k e)
    assignment_no (t.value c) h = conditional_no c h
    assignment_no (t.assign u s op a) h = absurd (false≢true h)

    conditional_no : (e : t.Conditional) → is_constant_conditional k e ≡ true → IsNoPointer (of_conditional k e)
    conditional_no (t.plain b) h = binary_no b h
    conditional_no (t.choose b q e s c) h =
        let r = second (is_constant_binary k b) (is_constant_expression k e && is_constant_conditional k c) h in
        chosen_no k.modes (condition k.modes (used (of_binary k b))) (of_expression k e) (of_conditional k c)
        (expression_no e (first (is_constant_expression k e) (is_constant_conditional k c) r))
        (conditional_no c (second (is_constant_expression k e) (is_constant_conditional k c) r))

    binary_no : (e : t.Binary) → is_constant_binary k e ≡ true → IsNoPointer (of_binary k e)
    binary_no (t.operand c) h = cast_no c h
    binary_no (t.join a s op b) h =
        joined_no k.modes op (operator_of op) (used (of_binary k a)) (used (of_binary k b))
        (used_no (of_binary k a) (binary_no a (first (is_constant_binary k a) (is_constant_binary k b) h)))
        (used_no (of_binary k b) (binary_no b (second (is_constant_binary k a) (is_constant_binary k b) h)))

    cast_no : (e : t.Cast) → is_constant_cast k e ≡ true → IsNoPointer (of_cast k e)
    cast_no (t.uncast u) h = unary_no_pointer u h
    cast_no (t.convert l n r c) h =
        pointer_told (of_cast k (t.convert l n r c))
        (second (is_constant_cast k c) (not (is_pointer_operand (of_cast k (t.convert l n r c)))) h)

    unary_no_pointer : (e : t.Unary) → is_constant_unary k e ≡ true → IsNoPointer (of_unary k e)
    unary_no_pointer (t.postfix p) h = postfix_no p h
    unary_no_pointer (t.step s op u) h = absurd (false≢true h)
    unary_no_pointer (t.prefix s op c) h =
        applied_no k.modes op (first (is_value_operator op) (is_constant_cast k c) h) (used (of_cast k c))
        (used_no (of_cast k c) (cast_no c (second (is_value_operator op) (is_constant_cast k c) h)))
    unary_no_pointer (t.size s l n r) h = size_no (meant_type (void_said k.tags n) (said_type k.tags n))

    postfix_no : (e : t.Postfix) → is_constant_postfix k e ≡ true → IsNoPointer (of_postfix k e)
    postfix_no (t.primary q) h = primary_no q h
    postfix_no (t.index q l e r) h = absurd (false≢true h)
    postfix_no (t.call q l a r) h = absurd (false≢true h)
    postfix_no (t.member q s op (t.identifier at n)) h = absurd (false≢true h)
    postfix_no (t.stepped q s op) h = absurd (false≢true h)

    primary_no : (e : t.Primary) → is_constant_primary k e ≡ true → IsNoPointer (of_primary k e)
    primary_no (t.name (t.identifier s n)) h = absurd (false≢true h)
    primary_no (t.constant s c) h = constant_no k.modes c
    primary_no (t.parenthesised l e r) h = expression_no e h
    primary_no (t.operation s op l (t.identifier at n) more r) h = absurd (false≢true h)

pub constants_are_no_pointers : ConstantsAreNoPointers
constants_are_no_pointers k = record {
  expressions = expression_no k;
  assignments = assignment_no k;
  conditionals = conditional_no k;
  binaries = binary_no k;
  casts = cast_no k;
  unaries = unary_no_pointer k;
  postfixes = postfix_no k;
  primaries = primary_no k;
}
