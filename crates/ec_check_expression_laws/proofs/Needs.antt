-- What a form needs is no more than what its operands need together.
use Rattle.std.proofs.Common.{◌≤◌, ◌+◌, ℕ, Bool, true, false, not, ◌&&◌, ◌||◌, List, [], ◌∷◌, arith}
use Rattle.std.specs.Prelude.{if◌then◌else◌, ◌==◌, Option, Some, None, IsSomeAnd, IfSome}
use Rattle.ec_iohw.specs.declared.operations.IoOp.{IoOp}
use Rattle.ec_space.specs.declared.space.SpaceId.{SpaceId}
use Rattle.ec_space.specs.Spaces.{join}
use Rattle.ec_grammar.specs.declared.token.PunctKind.{PunctKind}
use Rattle.ec_core.specs.declared.arithmetic_types.Arithmetic.{Arithmetic}
use Rattle.ec_core.specs.declared.expressions.BinOp.{BinOp}
use Rattle.ec_core.specs.declared.expressions.BinOp.TheVariants.{Add}
use Rattle.ec_core.specs.declared.expressions.UnOp.{UnOp}
use Rattle.ec_core.specs.declared.expressions.UnOp.TheVariants as unary_operators
use Rattle.ec_core.specs.ArithmeticTypes.{arithmetic_of, type_of}
use Rattle.ec_core.specs.ArithmeticValues.{is_comparison}
use Rattle.ec_core.specs.Needs.{node_need, expr_need, place_needs, option_needs}
use Rattle.ec_core.specs.Operators.{same_type, promoted_type}
use Rattle.ec_core.specs.Plain.{PlainType, void, integer, fixed, pointer, array, struct, PlainStruct, PlainExpr, expression, PlainPlace}
use Rattle.ec_core.specs.Plain.{object, deref, member, null, binary, unary, convert, assign, compound, step, io, bind}
use Rattle.ec_core.specs.PortOperations.{port_operation, takes_value, is_update}
use Rattle.ec_core.specs.Typing.{int, type_of_expr, type_of_member, pointer_space, port_value, port_result}
use Rattle.ec_check_forms.specs.Accesses.{base_of, member_number, reached, part_of, member_of, indexed}
use Rattle.ec_check_forms.specs.declared.ports.Binding.{Binding}
use Rattle.ec_check_forms.specs.declared.ports.NamedGroup.{NamedGroup}
use Rattle.ec_check_forms.specs.declared.ports.NamedGroup.TheVariants as groups
use Rattle.ec_check_forms.specs.declared.ports.NamedPort.{NamedPort}
use Rattle.ec_check_forms.specs.Calls.{is_too_wide, fits, optional, accessed, group_node, group_operation, binding_operation}
use Rattle.ec_check_forms.specs.Choices.{logical, sequence, choice_type, choice_made, chosen, castable, cast}
use Rattle.ec_check_forms.specs.declared.prefixes.PrefixOp.{PrefixOp}
use Rattle.ec_check_forms.specs.declared.prefixes.PrefixOp.TheVariants.{Address, Deref, Plus, Minus, Invert, Not}
use Rattle.ec_check_forms.specs.Nodes.{condition, address, pointed, plus, suits_unary, unary_operation, negated, prefixed, assigned}
use Rattle.ec_check_forms.specs.Nodes.{operation_mode, compounded, stepped}
use Rattle.ec_check_operands.specs.declared.operands.Modes.{Modes}
use Rattle.ec_check_operands.specs.Operands.{Operand, place, value, made, value_type, as_value, is_null, converted, valued, with_one}
use Rattle.ec_check_operands.specs.Operands.{with_both}
use Rattle.ec_check_operands.specs.Operators.{binary_types, suits, unsuited, incomparable, meet_apart, numbers_meet, meeting_by, meeting}
use Rattle.ec_check_operands.specs.Operators.{null_compared, moved, mixed, in_space, pointer_operation, operation_by, operated}
use Rattle.ec_check_operands.specs.Passing.{passes, in_type, brought, passed}
use Rattle.ec_check_operands.specs.Sorts.{is_integer, is_pointer, is_scalar, is_aggregate, narrows, drops_const}
use Rattle.ec_check_expressions.specs.Tokens.{is_and, joined_by, stored_by}
use Rattle.ec_check_expression_laws.proofs.SaidTypes.{if_both}

-- ---- numbers

some_need : (e : PlainExpr) → 1 ≤ expr_need e
some_need (expression ty mode node) = omega arith

one_need : (a : ℕ) → 1 ≤ a → node_need (a ∷ []) ≤ a
one_need a h = omega arith

two_need : (a b c d : ℕ) → 1 ≤ a → 1 ≤ b → a ≤ c → b ≤ d → node_need (a ∷ b ∷ []) ≤ c + d
two_need a b c d h k l m = omega arith

three_need : (a b c x y z : ℕ) → 1 ≤ a → 1 ≤ b → 1 ≤ c → a ≤ x → b ≤ y → c ≤ z → node_need (a ∷ b ∷ c ∷ []) ≤ x + y + z
three_need a b c x y z h k l m n o = omega arith

-- ---- operands

-- the tokens that a place or a value has at least: what a pointer leads to has one more than the pointer needs
abbrev pub place_weight : PlainPlace → ℕ
place_weight (object o) = 1
place_weight (deref e) = expr_need e + 1
place_weight (member q i) = place_weight q

abbrev pub weight : Operand → ℕ
weight (place ty konst space register q) = place_weight q
weight (value e z) = expr_need e

some_place : (q : PlainPlace) → 1 ≤ place_weight q
some_place (object o) = omega arith
some_place (deref e) = omega arith
some_place (member q i) = some_place q

pub some_weight : (x : Operand) → 1 ≤ weight x
some_weight (place ty konst space register q) = some_place q
some_weight (value e z) = some_need e

place_need : (q : PlainPlace) → node_need (place_needs q []) ≤ place_weight q
place_need (object o) = omega arith
place_need (deref e) = omega arith
place_need (member q i) = place_need q

assigned_need : (q : PlainPlace) (n : ℕ) → 1 ≤ n → node_need (place_needs q (n ∷ [])) ≤ place_weight q + n
assigned_need (object o) n h = omega arith
assigned_need (deref e) n h = omega arith
assigned_need (member q i) n h = assigned_need q n h

compounded_need : (q : PlainPlace) (n : ℕ) → 1 ≤ n → node_need (place_needs q (1 ∷ n ∷ [])) ≤ place_weight q + n
compounded_need (object o) n h = omega arith
compounded_need (deref e) n h = let s = some_need e in omega arith
compounded_need (member q i) n h = compounded_need q n h

stepped_need : (q : PlainPlace) → node_need (place_needs q (1 ∷ 1 ∷ [])) ≤ place_weight q + 1
stepped_need (object o) = omega arith
stepped_need (deref e) = let s = some_need e in omega arith
stepped_need (member q i) = stepped_need q

pub value_need : (m : Modes) (x : Operand) → expr_need (as_value m x) ≤ weight x
value_need m (value e z) = omega arith
value_need m (place void konst space register q) = place_need q
value_need m (place (integer signed bytes) konst space register q) = place_need q
value_need m (place (fixed kind sat) konst space register q) = place_need q
value_need m (place (pointer s k t) konst space register q) = place_need q
value_need m (place (array of len) konst space register q) = place_need q
value_need m (place (struct index) konst space register q) = place_need q

at_most : (a b c : ℕ) → a ≤ b → b ≤ c → a ≤ c
at_most a b c h k = omega arith

-- ---- bounds

-- what there is weighs at most so much
abbrev pub Weighs : Option Operand → ℕ → Type 0
Weighs o n = IfSome o (λ x. weight x ≤ n)

-- what is made of one operand, and so many tokens more; and of two, and three
abbrev pub OfOne : Option Operand → Option Operand → ℕ → Type 0
OfOne z x d = IfSome z (λ c. IsSomeAnd x (λ a. weight c ≤ weight a + d))

abbrev pub OfTwo : Option Operand → Option Operand → Option Operand → ℕ → Type 0
OfTwo z x y d = IfSome z (λ c. IsSomeAnd x (λ a. IsSomeAnd y (λ b. weight c ≤ weight a + weight b + d)))

with_one_weighs : {A : Type 0} → (n : ℕ) (o : Option A) (g : A → Option Operand) → ((a : A) → Weighs (g a) n) → Weighs (with_one o g) n
with_one_weighs n None g h = tt
with_one_weighs n (Some a) g h = h a

some_weighs : (n : ℕ) (o : Option PlainExpr) → IfSome o (λ e. expr_need e ≤ n) → Weighs (with_one o valued) n
some_weighs n None h = tt
some_weighs n (Some e) h = h

pub of_one : (x : Option Operand) (g : Operand → Option Operand) (d : ℕ) → ((a : Operand) → Weighs (g a) (weight a + d))
    → OfOne (with_one x g) x d
of_one None g d h = tt
of_one (Some a) g d h = h a

pub of_two : (x y : Option Operand) (g : Operand → Operand → Option Operand) (d : ℕ)
    → ((a b : Operand) → Weighs (g a b) (weight a + weight b + d)) → OfTwo (with_both x y g) x y d
of_two None y g d h = tt
of_two (Some a) None g d h = tt
of_two (Some a) (Some b) g d h = h a b

module _ (m : Modes) where
  -- ---- conversions

  converted_need : (ty : PlainType) (e : PlainExpr) → expr_need (converted m ty e) ≤ expr_need e
  converted_need ty e =
      if_both (λ z. expr_need z ≤ expr_need e) (same_type (type_of_expr e) ty) e (made m ty (convert e)) (λ q. omega arith)
      (λ q. one_need (expr_need e) (some_need e))

  in_space_need : (s : SpaceId) (e : PlainExpr) → expr_need (in_space m s e) ≤ expr_need e
  in_space_need s (expression (pointer r k t) mode node) = converted_need (pointer s k t) (expression (pointer r k t) mode node)
  in_space_need s (expression void mode node) = omega arith
  in_space_need s (expression (integer signed bytes) mode node) = omega arith
  in_space_need s (expression (fixed kind sat) mode node) = omega arith
  in_space_need s (expression (array of len) mode node) = omega arith
  in_space_need s (expression (struct index) mode node) = omega arith

  in_type_need : (to : PlainType) (x : Operand) → expr_need (in_type m to x) ≤ expr_need (as_value m x)
  in_type_need to x =
      if_both (λ z. expr_need z ≤ expr_need (as_value m x)) (is_null x && is_pointer to) (made m to null) (converted m to (as_value m x))
      (λ q. some_need (as_value m x)) (λ q. converted_need to (as_value m x))

  pub brought_need : (to : PlainType) (x : Operand) → IfSome (brought m to x) (λ e. expr_need e ≤ expr_need (as_value m x))
  brought_need to x =
      if_both (λ o. IfSome o (λ e. expr_need e ≤ expr_need (as_value m x)))
      (passes (value_type x) (is_null x) to && not (narrows (value_type x) to || drops_const (value_type x) to))
      (Some (in_type m to x)) None
      (λ q. in_type_need to x) (λ q. tt)

  pub passed_need : (to : Option PlainType) (x : Option Operand) → IfSome (passed m to x) (λ e. IsSomeAnd x (λ a. expr_need e ≤ weight a))
  passed_need None x = tt
  passed_need (Some to) None = tt
  passed_need (Some to) (Some x) = by (brought m to x) (brought_need to x)
    where
      by : (o : Option PlainExpr) → IfSome o (λ e. expr_need e ≤ expr_need (as_value m x)) → IfSome o (λ e. expr_need e ≤ weight x)
      by None h = tt
      by (Some e) h = at_most (expr_need e) (expr_need (as_value m x)) (weight x) h (value_need m x)

  -- ---- binary operators

  abbrev NeedsTwo : PlainExpr → PlainExpr → Option PlainExpr → Type 0
  NeedsTwo x y o = IfSome o (λ e. expr_need e ≤ expr_need x + expr_need y)

  pair_need : (ty : PlainType) (op : BinOp) (a b x y : PlainExpr) → expr_need a ≤ expr_need x → expr_need b ≤ expr_need y
      → expr_need (made m ty (binary op a b)) ≤ expr_need x + expr_need y
  pair_need ty op a b x y h k = two_need (expr_need a) (expr_need b) (expr_need x) (expr_need y) (some_need a) (some_need b) h k

  module _ (op : BinOp) where
    pointers_need : (j : Option SpaceId) (x y : PlainExpr) → NeedsTwo x y (pointer_operation m op j x y)
    pointers_need None x y = tt
    pointers_need (Some j) x y = pair_need int op (in_space m j x) (in_space m j y) x y (in_space_need j x) (in_space_need j y)

    left_need : (x y : PlainExpr) → expr_need (mixed m op true x y) ≤ expr_need x + expr_need y
    left_need x y =
        if_both (λ e. expr_need e ≤ expr_need x + expr_need y) (is_comparison op) (null_compared m op true x) (moved m op true x y)
        (λ q. pair_need int op x (made m (type_of_expr x) null) x y (omega arith) (some_need y))
        (λ q. pair_need (type_of_expr x) op x y x y (omega arith) (omega arith))

    right_need : (x y : PlainExpr) → expr_need (mixed m op false y x) ≤ expr_need x + expr_need y
    right_need x y =
        if_both (λ e. expr_need e ≤ expr_need x + expr_need y) (is_comparison op) (null_compared m op false y) (moved m op false y x)
        (λ q. pair_need int op (made m (type_of_expr y) null) y x y (some_need x) (omega arith))
        (λ q. pair_need (type_of_expr y) op x y x y (omega arith) (omega arith))

    numbers_need : (a b : Option Arithmetic) (x y : PlainExpr) → NeedsTwo x y (operation_by m op (numbers_meet a b) x y)
    numbers_need None b x y = tt
    numbers_need (Some s) None x y = tt
    numbers_need (Some s) (Some t) x y =
        let types = binary_types op s t in
        pair_need (type_of types.result) op (converted m (type_of types.left) x) (converted m (type_of types.right) y) x y
        (converted_need (type_of types.left) x) (converted_need (type_of types.right) y)

    operation_need : (s r : Option SpaceId) (a b : Option Arithmetic) (x y : PlainExpr)
        → NeedsTwo x y (operation_by m op (meeting_by s r (numbers_meet a b)) x y)
    operation_need (Some s) (Some r) a b x y = pointers_need (join s r) x y
    operation_need (Some s) None a b x y = left_need x y
    operation_need None (Some r) a b x y = right_need x y
    operation_need None None a b x y = numbers_need a b x y

    operation_weighs : (x y : Operand) → Weighs
        (with_one (operation_by m op (meeting (value_type x) (value_type y)) (as_value m x) (as_value m y)) valued) (weight x + weight y)
    operation_weighs x y =
        some_weighs (weight x + weight y) (operation_by m op (meeting (value_type x) (value_type y)) (as_value m x) (as_value m y))
        (by (operation_by m op (meeting (value_type x) (value_type y)) (as_value m x) (as_value m y))
        (operation_need (pointer_space (value_type x)) (pointer_space (value_type y)) (arithmetic_of (value_type x))
        (arithmetic_of (value_type y)) (as_value m x) (as_value m y)))
      where
        by : (o : Option PlainExpr) → NeedsTwo (as_value m x) (as_value m y) o → IfSome o (λ e. expr_need e ≤ weight x + weight y)
        by None h = tt
        by (Some e) h = let a = value_need m x in let b = value_need m y in omega arith

    operated_weighs : (x y : Option Operand) → OfTwo (operated m op x y) x y 0
    operated_weighs None y = tt
    operated_weighs (Some x) None = tt
    operated_weighs (Some x) (Some y) =
        if_both (λ o. OfTwo o (Some x) (Some y) 0)
        (unsuited op (Some x) (Some y) || incomparable op (Some x) (Some y) || meet_apart op (Some x) (Some y)) None
        (with_one (operation_by m op (meeting (value_type x) (value_type y)) (as_value m x) (as_value m y)) valued) (λ q. tt)
        (λ q. no_more (with_one (operation_by m op (meeting (value_type x) (value_type y)) (as_value m x) (as_value m y)) valued)
        (operation_weighs x y))
      where
        no_more : (o : Option Operand) → Weighs o (weight x + weight y) → OfTwo o (Some x) (Some y) 0
        no_more None h = tt
        no_more (Some z) h = omega arith

  -- ---- `&&`, `||`, the comma and `?:`

  pub tested_need : (x : Operand) → IfSome (condition m (Some x)) (λ e. expr_need e ≤ expr_need (as_value m x))
  tested_need x =
      if_both (λ o. IfSome o (λ e. expr_need e ≤ expr_need (as_value m x))) (is_scalar (value_type x)) (Some (as_value m x)) None
      (λ q. omega arith)
      (λ q. tt)

  condition_need : (x : Operand) → IfSome (condition m (Some x)) (λ e. expr_need e ≤ weight x)
  condition_need x =
      if_both (λ o. IfSome o (λ e. expr_need e ≤ weight x)) (is_scalar (value_type x)) (Some (as_value m x)) None
      (λ q. value_need m x) (λ q. tt)

  logical_need : (both : Bool) (n k : ℕ) (a b : Option PlainExpr) → IfSome a (λ e. expr_need e ≤ n) → IfSome b (λ e. expr_need e ≤ k)
      → Weighs (logical m both a b) (n + k + 0)
  logical_need true n k None b h g = tt
  logical_need true n k (Some x) None h g = tt
  logical_need true n k (Some x) (Some y) h g =
      let z = two_need (expr_need x) (expr_need y) n k (some_need x) (some_need y) h g in
      omega arith
  logical_need false n k None b h g = tt
  logical_need false n k (Some x) None h g = tt
  logical_need false n k (Some x) (Some y) h g =
      let z = two_need (expr_need x) (expr_need y) n k (some_need x) (some_need y) h g in
      omega arith

  logical_weighs : (both : Bool) (x y : Option Operand) → OfTwo (logical m both (condition m x) (condition m y)) x y 0
  logical_weighs true None y = tt
  logical_weighs false None y = tt
  logical_weighs true (Some x) None = none_right (condition m (Some x))
    where
      none_right : (a : Option PlainExpr) → OfTwo (logical m true a None) (Some x) None 0
      none_right None = tt
      none_right (Some e) = tt
  logical_weighs false (Some x) None = none_right (condition m (Some x))
    where
      none_right : (a : Option PlainExpr) → OfTwo (logical m false a None) (Some x) None 0
      none_right None = tt
      none_right (Some e) = tt
  logical_weighs both (Some x) (Some y) =
      logical_need both (weight x) (weight y) (condition m (Some x)) (condition m (Some y)) (condition_need x) (condition_need y)

  pub joined_weighs : (op : PunctKind) (o : Option BinOp) (x y : Option Operand) → OfTwo (joined_by m op o x y) x y 0
  joined_weighs op (Some o) x y = operated_weighs o x y
  joined_weighs op None x y = logical_weighs (is_and op) x y

  pub sequence_weighs : (x y : Operand) → Weighs (sequence m x y) (weight x + weight y + 0)
  sequence_weighs x y =
      let z = two_need (expr_need (as_value m x)) (expr_need (as_value m y)) (weight x) (weight y) (some_need (as_value m x))
      (some_need (as_value m y)) (value_need m x) (value_need m y) in
      omega arith

  in_type_weighs : (to : PlainType) (x : Operand) → expr_need (in_type m to x) ≤ weight x
  in_type_weighs to x = at_most (expr_need (in_type m to x)) (expr_need (as_value m x)) (weight x) (in_type_need to x) (value_need m x)

  chosen_weighs : (c : PlainExpr) (n : ℕ) (x y : Operand) → expr_need c ≤ n → Weighs (chosen m c x y) (n + weight x + weight y)
  chosen_weighs c n x y h =
      with_one_weighs (n + weight x + weight y) (choice_type x y) (λ ty. valued (choice_made m ty c (in_type m ty x) (in_type m ty y)))
      (λ ty. three_need (expr_need c) (expr_need (in_type m ty x)) (expr_need (in_type m ty y)) n (weight x) (weight y) (some_need c)
      (some_need (in_type m ty x)) (some_need (in_type m ty y)) h (in_type_weighs ty x) (in_type_weighs ty y))

  pub choice_weighs : (c x y : Operand) → Weighs (with_one (condition m (Some c)) (λ e. chosen m e x y)) (weight c + weight x + weight y)
  choice_weighs c x y = by (condition m (Some c)) (condition_need c)
    where
      by : (o : Option PlainExpr) → IfSome o (λ e. expr_need e ≤ weight c)
          → Weighs (with_one o (λ e. chosen m e x y)) (weight c + weight x + weight y)
      by None h = tt
      by (Some e) h = chosen_weighs e (weight c) x y h

  pub cast_weighs : (to : PlainType) (x : Operand) → Weighs (cast m to x) (weight x)
  cast_weighs to x =
      if_both (λ o. Weighs o (weight x)) (castable (value_type x) (is_null x) to) (valued (in_type m to x)) None
      (λ q. in_type_weighs to x) (λ q. tt)

  -- ---- prefixes

  pointed_weighs : (e : PlainExpr) → Weighs (pointed e) (expr_need e + 1)
  pointed_weighs (expression (pointer s k t) mode node) = omega arith
  pointed_weighs (expression void mode node) = tt
  pointed_weighs (expression (integer signed bytes) mode node) = tt
  pointed_weighs (expression (fixed kind sat) mode node) = tt
  pointed_weighs (expression (array of len) mode node) = tt
  pointed_weighs (expression (struct index) mode node) = tt

  more : (o : Option Operand) (n k : ℕ) → Weighs o n → n ≤ k → Weighs o k
  more None n k h le = tt
  more (Some x) n k h le = omega arith

  address_weighs : (x : Operand) → Weighs (address m x) (weight x + 1)
  address_weighs (place ty konst space false q) = let h = place_need q in omega arith
  address_weighs (place ty konst space true q) = tt
  address_weighs (value e z) = tt

  plus_weighs : (e : PlainExpr) → Weighs (plus m e) (expr_need e)
  plus_weighs e =
      with_one_weighs (expr_need e) (arithmetic_of (type_of_expr e)) (λ t. valued (converted m (type_of (promoted_type t)) e))
      (λ t. converted_need (type_of (promoted_type t)) e)

  unary_weighs : (op : UnOp) (e : PlainExpr) → Weighs (unary_operation m op e) (expr_need e)
  unary_weighs op e =
      with_one_weighs (expr_need e) (arithmetic_of (type_of_expr e))
      (λ t. if suits_unary op t
      then valued (made m (type_of (promoted_type t)) (unary op (converted m (type_of (promoted_type t)) e))) else None)
      (λ t. if_both (λ o. Weighs o (expr_need e)) (suits_unary op t)
      (valued (made m (type_of (promoted_type t)) (unary op (converted m (type_of (promoted_type t)) e)))) None
      (λ q. at_most (node_need (expr_need (converted m (type_of (promoted_type t)) e) ∷ []))
      (expr_need (converted m (type_of (promoted_type t)) e)) (expr_need e)
      (one_need (expr_need (converted m (type_of (promoted_type t)) e)) (some_need (converted m (type_of (promoted_type t)) e)))
      (converted_need (type_of (promoted_type t)) e)) (λ q. tt))

  negated_weighs : (n : ℕ) (o : Option PlainExpr) → IfSome o (λ e. expr_need e ≤ n) → Weighs (negated m o) n
  negated_weighs n None h = tt
  negated_weighs n (Some e) h = at_most (node_need (expr_need e ∷ [])) (expr_need e) n (one_need (expr_need e) (some_need e)) h

  -- an operator on the value
  on_value : (x : Operand) (o : Option Operand) → Weighs o (expr_need (as_value m x)) → Weighs o (weight x + 1)
  on_value x o h = more o (expr_need (as_value m x)) (weight x + 1) h (let v = value_need m x in omega arith)

  through_value : (x : Operand) (o : Option Operand) → Weighs o (expr_need (as_value m x) + 1) → Weighs o (weight x + 1)
  through_value x o h = more o (expr_need (as_value m x) + 1) (weight x + 1) h (let v = value_need m x in omega arith)

  pub prefixed_weighs : (op : PrefixOp) (x : Operand) → Weighs (prefixed m op x) (weight x + 1)
  prefixed_weighs Address x = address_weighs x
  prefixed_weighs Deref x = through_value x (pointed (as_value m x)) (pointed_weighs (as_value m x))
  prefixed_weighs Plus x = on_value x (plus m (as_value m x)) (plus_weighs (as_value m x))
  prefixed_weighs Minus x =
      on_value x (unary_operation m unary_operators.Minus (as_value m x)) (unary_weighs unary_operators.Minus (as_value m x))
  prefixed_weighs Invert x =
      on_value x (unary_operation m unary_operators.Invert (as_value m x)) (unary_weighs unary_operators.Invert (as_value m x))
  prefixed_weighs Not x =
      more (negated m (condition m (Some x))) (weight x) (weight x + 1)
      (negated_weighs (weight x) (condition m (Some x)) (condition_need x)) (omega arith)

  pub stepped_weighs : (up before : Bool) (x : Operand) → Weighs (stepped m up before x) (weight x + 1)
  stepped_weighs up before (value e z) = tt
  stepped_weighs up before (place ty konst space register q) =
      if_both (λ o. Weighs o (place_weight q + 1)) (is_scalar ty && not konst) (valued (made m ty (step up before q))) None
      (λ e. stepped_need q) (λ e. tt)

  -- ---- assignments

  assigned_weighs : (x y : Operand) → Weighs (assigned m x y) (weight x + weight y + 0)
  assigned_weighs (value e z) y = tt
  assigned_weighs (place ty konst space register q) y =
      if_both (λ o. Weighs o (place_weight q + weight y + 0)) (konst || is_aggregate ty) None
      (with_one (brought m ty y) (λ e. valued (made m ty (assign q e)))) (λ e. tt)
      (λ e. by (brought m ty y) (brought_need ty y))
    where
      by : (o : Option PlainExpr) → IfSome o (λ e. expr_need e ≤ expr_need (as_value m y))
          → Weighs (with_one o (λ e. valued (made m ty (assign q e)))) (place_weight q + weight y + 0)
      by None h = tt
      by (Some e) h = let a = assigned_need q (expr_need e) (some_need e) in let b = value_need m y in omega arith

  compounded_weighs : (op : BinOp) (x y : Operand) → Weighs (compounded m op x y) (weight x + weight y + 0)
  compounded_weighs op (value e z) y = tt
  compounded_weighs op (place ty konst space register q) y =
      let mode = operation_mode m op (arithmetic_of ty) (arithmetic_of (value_type y)) in
      if_both (λ o. Weighs o (place_weight q + weight y + 0))
      (konst || is_aggregate ty || is_pointer (value_type y) || not (suits op ty (value_type y))) None
      (valued (made m ty (compound op mode q (as_value m y)))) (λ e. tt)
      (λ e. let a = compounded_need q (expr_need (as_value m y)) (some_need (as_value m y)) in let b = value_need m y in omega arith)

  pub stored_weighs : (o : Option BinOp) (x y : Option Operand) → OfTwo (stored_by m o x y) x y 0
  stored_weighs (Some o) x y = of_two x y (compounded m o) 0 (compounded_weighs o)
  stored_weighs None x y = of_two x y (assigned m) 0 assigned_weighs

  -- ---- subscripts and members

  pub indexed_weighs : (x y : Operand) → Weighs (indexed m x y) (weight x + weight y + 1)
  indexed_weighs x y =
      let e = made m (type_of_expr (as_value m x)) (binary Add (as_value m x) (as_value m y)) in
      if_both (λ o. Weighs o (weight x + weight y + 1)) (is_integer (value_type y)) (pointed e) None
      (λ q. more (pointed e) (expr_need e + 1) (weight x + weight y + 1) (pointed_weighs e)
      (let n : expr_need e ≤ weight x + weight y = two_need (expr_need (as_value m x)) (expr_need (as_value m y))
      (weight x) (weight y) (some_need (as_value m x)) (some_need (as_value m y)) (value_need m x) (value_need m y) in
      omega arith))
      (λ q. tt)

  reached_weighs : (arrow : Bool) (x : Operand) → Weighs (reached m arrow x) (weight x + 1)
  reached_weighs true x = through_value x (pointed (as_value m x)) (pointed_weighs (as_value m x))
  reached_weighs false x = omega arith

  part_weighs : (part : PlainType) (i n : ℕ) (o : Option Operand) → Weighs o n → Weighs (with_one o (part_of part i)) n
  part_weighs part i n None h = tt
  part_weighs part i n (Some (place ty konst space register q)) h = h
  part_weighs part i n (Some (value e z)) h = tt

  pub member_weighs : (structs : List PlainStruct) (name : List ℕ) (arrow : Bool) (x : Operand)
      → Weighs (member_of m structs name arrow x) (weight x + 1)
  member_weighs structs name arrow x =
      with_one_weighs (weight x + 1) (base_of arrow (value_type x)) (λ index. with_one (member_number structs name index) (λ k.
      with_one (type_of_member structs (struct index) k) (λ part. with_one (reached m arrow x) (part_of part k))))
      (λ index. with_one_weighs (weight x + 1) (member_number structs name index) (λ k.
      with_one (type_of_member structs (struct index) k) (λ part. with_one (reached m arrow x) (part_of part k)))
      (λ k. with_one_weighs (weight x + 1) (type_of_member structs (struct index) k) (λ part. with_one (reached m arrow x) (part_of part k))
      (λ part. part_weighs part k (weight x + 1) (reached m arrow x) (reached_weighs arrow x))))

  -- ---- ports and groups

  node_weighs : (acquire : Bool) (g : NamedGroup) → Weighs (valued (made m void (group_node acquire g))) 2
  node_weighs acquire (groups.Group g) = omega arith
  node_weighs acquire (groups.Dynamic d) = omega arith

  -- an acquire or a release of a dynamic group needs 2
  pub group_weighs : (acquire : Bool) (g : Option NamedGroup) (count : ℕ) → Weighs (group_operation m acquire g count) 2
  group_weighs acquire g count =
      let f : NamedGroup → Option Operand = λ n. valued (made m void (group_node acquire n)) in
      if_both (λ o. Weighs o 2) (count == 0) (with_one g f) None
      (λ e. with_one_weighs 2 g f (node_weighs acquire)) (λ e. tt)

  pub binding_weighs : (b : Option Binding) → Weighs (binding_operation m b) 1
  binding_weighs b = with_one_weighs 1 b (λ x. valued (made m void (bind x.dynamic x.choice))) (λ x. omega arith)

  port_need : (update : Bool) (index v : Option PlainExpr) (n : ℕ) → 3 ≤ n → IfSome index (λ e. expr_need e ≤ n)
      → IfSome v (λ e. expr_need e + 1 ≤ n)
      → node_need (option_needs (optional index) (option_needs (optional v) (if update then 1 ∷ [] else []))) ≤ n
  port_need true None None n h i k = omega arith
  port_need true None (Some v) n h i k = omega arith
  port_need true (Some e) None n h i k = omega arith
  port_need true (Some e) (Some v) n h i k = omega arith
  port_need false None None n h i k = omega arith
  port_need false None (Some v) n h i k = omega arith
  port_need false (Some e) None n h i k = omega arith
  port_need false (Some e) (Some v) n h i k = omega arith

  pub accessed_weighs : (op : IoOp) (index v : Option PlainExpr) (p : NamedPort) (n : ℕ) → 3 ≤ n → IfSome index (λ e. expr_need e ≤ n)
      → IfSome v (λ e. expr_need e + 1 ≤ n) → Weighs (accessed m op index v p) n
  accessed_weighs op index v p n h i k =
      let form = port_operation op in
      if_both (λ o. Weighs o n) (is_too_wide form p || not (fits form.indexed index && fits (takes_value form) v)) None
      (valued (made m (port_result form.action (port_value form)) (io op p.number (optional index) (optional v)))) (λ q. tt)
      (λ q. port_need (is_update form.action) index v n h i k)
