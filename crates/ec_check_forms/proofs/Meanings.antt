-- A form of operands that break no rule has a meaning.
use Rattle.std.proofs.Common.{◌≡◌, ℕ, Bool, true, false, not, ◌&&◌, ◌||◌, List, [], ◌∷◌, refl, sym, ap, ◌∙◌, subst, inl, inr}
use Rattle.std.specs.Prelude.{◌⊎◌, ⊤, if◌then◌else◌, is_some, Option, Some, None, IsSome}
use Rattle.std.proofs.lemmas.Bool.{false_from_ne_true, not-false, and_cases, or_parts, or_from, and_from, both_ways, true≢false, false≢true}
use Rattle.std.proofs.lemmas.Bool.{not_from_false}
use Rattle.ec_check_operands.specs.declared.faults.Fault.{Fault}
use Rattle.ec_check_operands.specs.Faults.{Judgement}
use Rattle.ec_check_operands.specs.Laws.{IsTold}
use Rattle.ec_space.specs.declared.space.SpaceId.{SpaceId}
use Rattle.ec_space.specs.Spaces.{join}
use Rattle.ec_core.specs.declared.expressions.BinOp.{BinOp}
use Rattle.ec_core.specs.declared.expressions.BinOp.TheVariants.{Add, Sub, Mul, Div, Rem, Shl, Shr, And, Or, Xor, Lt, Gt, Le, Ge, Eq, Ne}
use Rattle.ec_core.specs.declared.expressions.UnOp.TheVariants as unary_operators
use Rattle.ec_core.specs.ArithmeticTypes.{arithmetic_of}
use Rattle.ec_core.specs.Laws.{TypesAreTold}
use Rattle.ec_core.specs.Operators.{same_type}
use Rattle.ec_core.specs.Plain.{PlainType, void, integer, fixed, pointer, array, struct, PlainExpr, expression, PlainNode, binary, assign}
use Rattle.ec_core.specs.Plain.{compound, step, logical_not, logical_and, logical_or, conditional}
use Rattle.ec_core.specs.Typing.{int, type_of_expr}
use Rattle.ec_check_operands.specs.declared.operands.Modes.{Modes}
use Rattle.ec_check_forms.specs.declared.prefixes.PrefixOp.{PrefixOp}
use Rattle.ec_check_forms.specs.declared.prefixes.PrefixOp.TheVariants.{Address, Deref, Plus, Minus, Invert, Not}
use Rattle.ec_check_forms.specs.Constraints.{IsInteger, IsScalar as IsScalarKind, AreAlternatives}
use Rattle.ec_check_forms.specs.Meanings.{IsKept, HasNullType, FormsHaveMeanings, KeptFormsHaveMeanings}
use Rattle.ec_check_forms.specs.Nodes.{condition, is_value, is_register, prefix_rules, address, pointed, plus, unary_operation, prefixed}
use Rattle.ec_check_forms.specs.Nodes.{assignment_rules, assigned, operation_mode, compound_rules, compounded, step_rules, stepped}
use Rattle.ec_check_forms.specs.Accesses.{index_rules, indexed}
use Rattle.ec_check_forms.specs.Choices.{logical_rules, logical, alternatives, choice_rules, type_between, choice_type, chosen, cast_rules}
use Rattle.ec_check_forms.specs.Choices.{castable, cast}
use Rattle.ec_check_operands.specs.Operands.{Operand, place, value, made, value_type, as_value, is_null, valued, with_one, with_both}
use Rattle.ec_check_operands.specs.Operators.{suits, unsuited, incomparable, meet_apart, are_apart, meets, operation_rules, in_space}
use Rattle.ec_check_operands.specs.Operators.{pointer_operation, meeting, operation_by, operated}
use Rattle.ec_check_operands.specs.Passing.{passes, in_type, brought, passing_rules}
use Rattle.ec_check_forms.specs.Sites.{Site, a_condition, an_operation, a_logical, a_prefix, a_step, an_index, an_assignment, a_compound}
use Rattle.ec_check_forms.specs.Sites.{a_passing, a_choice, a_cast, rules_at}
use Rattle.ec_check_operands.specs.Sorts.{is_void, is_arithmetic, is_integer, is_pointer, is_scalar, is_aggregate, same_pointee, narrows}
use Rattle.ec_check_operands.specs.Sorts.{drops_const}
use Rattle.ec_check_forms.proofs.Decided.{voids, alternating}
use Rattle.ec_check_forms.proofs.ValidChoices.{Alternate}
use Rattle.ec_check_forms.proofs.ValidOperands.{if_both, value_types_agree}
use Rattle.ec_check_forms.proofs.ValidOperations.{Compare, Admits, scalars_compare, both_scalar, Meet, pointers_meet, admitted}

-- judgements none of which tells a fault
abbrev pub Unbroken : List Judgement → Type 0
Unbroken [] = ⊤
Unbroken (j ∷ js) = (j.broken ≡ false) × Unbroken js

unbroken : (js : List Judgement) → ((f : Fault) → ¬ IsTold js f) → Unbroken js
unbroken [] h = tt
unbroken (j ∷ js) h = (
  false_from_ne_true j.broken (λ b. h (record { at = j.at; rule = j.rule }) (inl (b, refl, refl))),
  unbroken js (λ f t. h f (inr t)),
)

pub kept : (s : Site) → IsKept s → Unbroken (rules_at s)
kept s h = unbroken (rules_at s) h

-- ---- binary operators

some_with : {A B : Type 0} → (o : Option A) (g : A → B) → is_some o ≡ true → IsSome (with_one o (λ a. Some (g a)))
some_with None g h = absurd (false≢true h)
some_with (Some a) g h = refl

neither : ⊥ ⊎ ⊥ → ⊥
neither (inl h) = h
neither (inr h) = h

-- one of two, where the test does not hold
if_not : {A : Type 0} → (b : Bool) (x y : Option A) → b ≡ false → IsSome y → IsSome (if b then x else y)
if_not true x y e h = absurd (true≢false e)
if_not false x y e h = h

if_so : {A : Type 0} → (b : Bool) (x y : Option A) → b ≡ true → IsSome x → IsSome (if b then x else y)
if_so true x y e h = h
if_so false x y e h = absurd (false≢true e)

module _ (told : TypesAreTold) (m : Modes) where
  -- an operator of two pointers is one at which pointers meet
  meeting_operator : (op : BinOp) (t u : PlainType) → Meet op t u → meets op ≡ true
  meeting_operator Sub t u w = refl
  meeting_operator Lt t u w = refl
  meeting_operator Gt t u w = refl
  meeting_operator Le t u w = refl
  meeting_operator Ge t u w = refl
  meeting_operator Eq t u w = refl
  meeting_operator Ne t u w = refl
  meeting_operator Add t u w = absurd (w.types ⊤ tt)
  meeting_operator Mul t u w = absurd (w.types ⊤ tt)
  meeting_operator Div t u w = absurd (w.types ⊤ tt)
  meeting_operator Rem t u w = absurd (w.types ⊤ tt)
  meeting_operator Shl t u w = absurd (w.types ⊤ tt)
  meeting_operator Shr t u w = absurd (w.types ⊤ tt)
  meeting_operator And t u w = absurd (w.types ⊤ tt)
  meeting_operator Or t u w = absurd (w.types ⊤ tt)
  meeting_operator Xor t u w = absurd (w.types ⊤ tt)

  -- two pointers that meet have a space that encloses both
  joined : (s r : SpaceId) (k c : Bool) (t u : PlainType) → t ≡ u → are_apart (pointer s k t) (pointer r c u) ≡ false
      → is_some (join s r) ≡ true
  joined s r k c t u e h = nested (and_cases (same_type t u) (not (is_some (join s r))) h)
    where
      same : same_type t u ≡ true
      same = subst (λ (z : PlainType). same_type t z ≡ true) e (told.itself t)

      nested : (same_type t u ≡ false) ⊎ (not (is_some (join s r)) ≡ false) → is_some (join s r) ≡ true
      nested (inl n) = absurd (both_ways (same_type t u) n same)
      nested (inr n) = not-false (is_some (join s r)) n

  pointers_meant : (op : BinOp) (s r : SpaceId) (k c : Bool) (t u : PlainType) (z q : Bool) (x y : PlainExpr)
      → Admits op (pointer s k t) z (pointer r c u) q → (meets op && are_apart (pointer s k t) (pointer r c u)) ≡ false
      → IsSome (pointer_operation m op (join s r) x y)
  pointers_meant op s r k c t u z q x y h e =
      let w = pointers_meet op s r k c t u z q h in
      some_with (join s r) (λ j. made m int (binary op (in_space m j x) (in_space m j y)))
      (joined s r k c t u w.alike (apart w (and_cases (meets op) (are_apart (pointer s k t) (pointer r c u)) e)))
    where
      apart : Meet op t u → (meets op ≡ false) ⊎ (are_apart (pointer s k t) (pointer r c u) ≡ false)
          → are_apart (pointer s k t) (pointer r c u) ≡ false
      apart w (inr n) = n
      apart w (inl n) = absurd (both_ways (meets op) n (meeting_operator op t u w))

  operation_meant : (op : BinOp) (a : PlainType) (z : Bool) (b : PlainType) (q : Bool) (x y : PlainExpr) → Admits op a z b q
      → (meets op && are_apart a b) ≡ false → IsSome (operation_by m op (meeting a b) x y)
  operation_meant op (integer s k) z (integer t c) q x y h e = refl
  operation_meant op (integer s k) z (fixed t c) q x y h e = refl
  operation_meant op (fixed s k) z (integer t c) q x y h e = refl
  operation_meant op (fixed s k) z (fixed t c) q x y h e = refl
  operation_meant op (pointer s k t) z (integer u c) q x y h e = refl
  operation_meant op (pointer s k t) z (fixed u c) q x y h e = refl
  operation_meant op (integer s k) z (pointer r c u) q x y h e = refl
  operation_meant op (fixed s k) z (pointer r c u) q x y h e = refl
  operation_meant op (pointer s k t) z (pointer r c u) q x y h e = pointers_meant op s r k c t u z q x y h e
  operation_meant op void z b q x y h e = absurd (neither (both_scalar op void z b q h).0)
  operation_meant op (array of len) z b q x y h e = absurd (neither (both_scalar op (array of len) z b q h).0)
  operation_meant op (struct index) z b q x y h e = absurd (neither (both_scalar op (struct index) z b q h).0)
  operation_meant op (integer s k) z void q x y h e = absurd (neither (both_scalar op (integer s k) z void q h).1)
  operation_meant op (integer s k) z (array of len) q x y h e = absurd (neither (both_scalar op (integer s k) z (array of len) q h).1)
  operation_meant op (integer s k) z (struct index) q x y h e = absurd (neither (both_scalar op (integer s k) z (struct index) q h).1)
  operation_meant op (fixed s k) z void q x y h e = absurd (neither (both_scalar op (fixed s k) z void q h).1)
  operation_meant op (fixed s k) z (array of len) q x y h e = absurd (neither (both_scalar op (fixed s k) z (array of len) q h).1)
  operation_meant op (fixed s k) z (struct index) q x y h e = absurd (neither (both_scalar op (fixed s k) z (struct index) q h).1)
  operation_meant op (pointer s k t) z void q x y h e = absurd (neither (both_scalar op (pointer s k t) z void q h).1)
  operation_meant op (pointer s k t) z (array of len) q x y h e = absurd (neither (both_scalar op (pointer s k t) z (array of len) q h).1)
  operation_meant op (pointer s k t) z (struct index) q x y h e = absurd (neither (both_scalar op (pointer s k t) z (struct index) q h).1)

  operated_meant : (op : BinOp) (x y : Operand) → HasNullType x → HasNullType y → Unbroken (operation_rules op (Some x) (Some y) 0)
      → IsSome (operated m op (Some x) (Some y))
  operated_meant op x y v w h =
      let b = unsuited op (Some x) (Some y) || incomparable op (Some x) (Some y) || meet_apart op (Some x) (Some y) in
      let e : b ≡ false = or_from (unsuited op (Some x) (Some y) || incomparable op (Some x) (Some y)) (meet_apart op (Some x) (Some y))
      (or_from (unsuited op (Some x) (Some y)) (incomparable op (Some x) (Some y)) h.0 h.1.0) h.1.1.0 in
      if_not b None (with_one (operation_by m op (meeting (value_type x) (value_type y)) (as_value m x) (as_value m y)) valued) e
      (some_with (operation_by m op (meeting (value_type x) (value_type y)) (as_value m x) (as_value m y)) (λ z. value z false)
      (operation_meant op (value_type x) (is_null x) (value_type y) (is_null y) (as_value m x) (as_value m y)
      (admitted told op x y v w h.0 h.1.0) h.1.1.0))

  -- ---- conditions and prefix operators

  condition_meant : (x : Operand) → not (is_scalar (value_type x)) ≡ false → IsSome (condition m (Some x))
  condition_meant x h = if_so (is_scalar (value_type x)) (Some (as_value m x)) None (not-false (is_scalar (value_type x)) h) refl

  pointed_meant : (e : PlainExpr) → is_pointer (type_of_expr e) ≡ true → IsSome (pointed e)
  pointed_meant (expression (pointer s k t) mode node) h = refl
  pointed_meant (expression void mode node) h = absurd (false≢true h)
  pointed_meant (expression (integer s b) mode node) h = absurd (false≢true h)
  pointed_meant (expression (fixed s b) mode node) h = absurd (false≢true h)
  pointed_meant (expression (array of len) mode node) h = absurd (false≢true h)
  pointed_meant (expression (struct index) mode node) h = absurd (false≢true h)

  plus_meant : (e : PlainExpr) → is_arithmetic (type_of_expr e) ≡ true → IsSome (plus m e)
  plus_meant (expression (integer s b) mode node) h = refl
  plus_meant (expression (fixed s b) mode node) h = refl
  plus_meant (expression void mode node) h = absurd (false≢true h)
  plus_meant (expression (pointer s k t) mode node) h = absurd (false≢true h)
  plus_meant (expression (array of len) mode node) h = absurd (false≢true h)
  plus_meant (expression (struct index) mode node) h = absurd (false≢true h)

  minus_meant : (e : PlainExpr) → is_arithmetic (type_of_expr e) ≡ true → IsSome (unary_operation m unary_operators.Minus e)
  minus_meant (expression (integer s b) mode node) h = refl
  minus_meant (expression (fixed s b) mode node) h = refl
  minus_meant (expression void mode node) h = absurd (false≢true h)
  minus_meant (expression (pointer s k t) mode node) h = absurd (false≢true h)
  minus_meant (expression (array of len) mode node) h = absurd (false≢true h)
  minus_meant (expression (struct index) mode node) h = absurd (false≢true h)

  invert_meant : (e : PlainExpr) → is_integer (type_of_expr e) ≡ true → IsSome (unary_operation m unary_operators.Invert e)
  invert_meant (expression (integer s b) mode node) h = refl
  invert_meant (expression (fixed s b) mode node) h = absurd (false≢true h)
  invert_meant (expression void mode node) h = absurd (false≢true h)
  invert_meant (expression (pointer s k t) mode node) h = absurd (false≢true h)
  invert_meant (expression (array of len) mode node) h = absurd (false≢true h)
  invert_meant (expression (struct index) mode node) h = absurd (false≢true h)

  address_meant : (x : Operand) → is_value x ≡ false → is_register x ≡ false → IsSome (address m x)
  address_meant (place ty const space false q) h k = refl
  address_meant (place ty const space true q) h k = absurd (true≢false k)
  address_meant (value e zero) h k = absurd (true≢false h)

  -- a test of the value's type, as the value has it
  here : (test : PlainType → Bool) (x : Operand) → not (test (value_type x)) ≡ false → test (type_of_expr (as_value m x)) ≡ true
  here test x h = subst (λ (z : PlainType). test z ≡ true) (sym (value_types_agree m x)) (not-false (test (value_type x)) h)

  prefixed_meant : (op : PrefixOp) (x : Operand) → Unbroken (prefix_rules op (Some x) 0) → IsSome (prefixed m op x)
  prefixed_meant Address x h = address_meant x h.0 h.1.0
  prefixed_meant Deref x h = pointed_meant (as_value m x) (here is_pointer x h.0)
  prefixed_meant Plus x h = plus_meant (as_value m x) (here is_arithmetic x h.0)
  prefixed_meant Minus x h = minus_meant (as_value m x) (here is_arithmetic x h.0)
  prefixed_meant Invert x h = invert_meant (as_value m x) (here is_integer x h.0)
  prefixed_meant Not x h =
      some_with (condition m (Some x)) (λ e. value (made m int (logical_not e)) false) (condition_meant x h.0)

  -- ---- assignments and steps

  stepped_meant : (up prefix : Bool) (x : Operand) → Unbroken (step_rules (Some x) 0) → IsSome (stepped m up prefix x)
  stepped_meant up prefix (value e zero) h = absurd (true≢false h.1.0)
  stepped_meant up prefix (place ty const space register q) h =
      if_so (is_scalar ty && not const) (valued (made m ty (step up prefix q))) None
      (and_from (is_scalar ty) (not const) (whole ty (not-false (is_scalar (value_type (place ty const space register q))) h.0) h.1.0)
      (not_from_false const h.1.1.0)) refl
    where
      whole : (t : PlainType) → is_scalar (value_type (place t const space register q)) ≡ true → is_aggregate t ≡ false → is_scalar t ≡ true
      whole void s a = s
      whole (integer b c) s a = s
      whole (fixed b c) s a = s
      whole (pointer r k u) s a = s
      whole (array of len) s a = absurd (true≢false a)
      whole (struct index) s a = absurd (true≢false a)

  -- a pointer that is passed to one type and is no null constant keeps its rules
  narrow_told : (a to : PlainType) (z : Bool) → (z ≡ true → IsInteger a) → passes a z to ≡ true
      → (same_pointee a to && narrows a to) ≡ false → (same_pointee a to && drops_const a to) ≡ false
      → (narrows a to || drops_const a to) ≡ false
  narrow_told (pointer s k t) (pointer r c u) z n h e d =
      or_from (narrows (pointer s k t) (pointer r c u)) (drops_const (pointer s k t) (pointer r c u))
      (kept_test (same_type t u) (narrows (pointer s k t) (pointer r c u)) (alike z n h) e)
      (kept_test (same_type t u) (drops_const (pointer s k t) (pointer r c u)) (alike z n h) d)
    where
      kept_test : (b c : Bool) → b ≡ true → (b && c) ≡ false → c ≡ false
      kept_test true c i j = j
      kept_test false c i j = absurd (false≢true i)

      alike : (z : Bool) → (z ≡ true → ⊥) → (false && false || z && true || same_type t u) ≡ true → same_type t u ≡ true
      alike true n h = absurd (n refl)
      alike false n h = h
  narrow_told void to z n h e d = refl
  narrow_told (integer s b) to z n h e d = refl
  narrow_told (fixed s b) to z n h e d = refl
  narrow_told (array of len) to z n h e d = refl
  narrow_told (struct index) to z n h e d = refl
  narrow_told (pointer s k t) void z n h e d = refl
  narrow_told (pointer s k t) (integer b c) z n h e d = refl
  narrow_told (pointer s k t) (fixed b c) z n h e d = refl
  narrow_told (pointer s k t) (array of len) z n h e d = refl
  narrow_told (pointer s k t) (struct index) z n h e d = refl

  brought_meant : (to : PlainType) (x : Operand) → HasNullType x → Unbroken (passing_rules (Some x) (Some to) 0) → IsSome (brought m to x)
  brought_meant to x n h =
      let p = not-false (passes (value_type x) (is_null x) to) h.0 in
      if_so (passes (value_type x) (is_null x) to && not (narrows (value_type x) to || drops_const (value_type x) to))
      (Some (in_type m to x)) None
      (and_from (passes (value_type x) (is_null x) to) (not (narrows (value_type x) to || drops_const (value_type x) to)) p
      (not_from_false (narrows (value_type x) to || drops_const (value_type x) to)
      (narrow_told (value_type x) to (is_null x) n p h.1.0 h.1.1.0))) refl

  assigned_meant : (x y : Operand) → HasNullType y → Unbroken (assignment_rules (Some x) (Some y) 0) → IsSome (assigned m x y)
  assigned_meant (value e zero) y n h = absurd (true≢false h.0)
  assigned_meant (place ty const space register q) y n h =
      if_not (const || is_aggregate ty) None (with_one (brought m ty y) (λ e. valued (made m ty (assign q e))))
      (or_from const (is_aggregate ty) h.1.0 h.0)
      (some_with (brought m ty y) (λ e. value (made m ty (assign q e)) false) (brought_meant ty y n h.1.1))

  compounded_meant : (op : BinOp) (x y : Operand) → Unbroken (compound_rules op (Some x) (Some y) 0) → IsSome (compounded m op x y)
  compounded_meant op (value e zero) y h = absurd (true≢false h.1.0)
  compounded_meant op (place ty const space register q) y h =
      if_not (const || is_aggregate ty || is_pointer (value_type y) || not (suits op ty (value_type y))) None
      (valued (made m ty (compound op (operation_mode m op (arithmetic_of ty) (arithmetic_of (value_type y))) q (as_value m y))))
      (or_from (const || is_aggregate ty || is_pointer (value_type y)) (not (suits op ty (value_type y)))
      (or_from (const || is_aggregate ty) (is_pointer (value_type y)) (or_from const (is_aggregate ty) h.1.1.0 h.1.0) h.1.1.1.0)
      (itself ty h.1.0 h.0)) refl
    where
      itself : (t : PlainType) → is_aggregate t ≡ false
          → not (suits op (value_type (place t const space register q)) (value_type y)) ≡ false
          → not (suits op t (value_type y)) ≡ false
      itself void a s = s
      itself (integer b c) a s = s
      itself (fixed b c) a s = s
      itself (pointer r k u) a s = s
      itself (array of len) a s = absurd (true≢false a)
      itself (struct index) a s = absurd (true≢false a)

  -- ---- the others

  element_meant : (e : PlainExpr) (node : PlainNode) → is_pointer (type_of_expr e) ≡ true → IsSome (pointed (made m (type_of_expr e) node))
  element_meant (expression (pointer s k t) mode n) node h = refl
  element_meant (expression void mode n) node h = absurd (false≢true h)
  element_meant (expression (integer s b) mode n) node h = absurd (false≢true h)
  element_meant (expression (fixed s b) mode n) node h = absurd (false≢true h)
  element_meant (expression (array of len) mode n) node h = absurd (false≢true h)
  element_meant (expression (struct index) mode n) node h = absurd (false≢true h)

  indexed_meant : (a i : Operand) → Unbroken (index_rules (Some a) (Some i) 0) → IsSome (indexed m a i)
  indexed_meant a i h =
      let parts = or_parts (not (is_pointer (value_type a))) (not (is_integer (value_type i))) h.0 in
      if_so (is_integer (value_type i)) (pointed (made m (type_of_expr (as_value m a)) (binary Add (as_value m a) (as_value m i)))) None
      (not-false (is_integer (value_type i)) parts.1)
      (element_meant (as_value m a) (binary Add (as_value m a) (as_value m i)) (here is_pointer a parts.0))

  both_some : {A B C : Type 0} → (x : Option A) (y : Option B) (g : A → B → C) → IsSome x → IsSome y
      → IsSome (with_both x y (λ a b. Some (g a b)))
  both_some None y g h k = absurd (false≢true h)
  both_some (Some a) None g h k = absurd (false≢true k)
  both_some (Some a) (Some b) g h k = refl

  logical_meant : (both : Bool) (x y : Operand) → Unbroken (logical_rules (Some x) (Some y) 0)
      → IsSome (logical m both (condition m (Some x)) (condition m (Some y)))
  logical_meant true x y h =
      both_some (condition m (Some x)) (condition m (Some y)) (λ a b. value (made m int (logical_and a b)) false)
      (condition_meant x h.0) (condition_meant y h.1.0)
  logical_meant false x y h =
      both_some (condition m (Some x)) (condition m (Some y)) (λ a b. value (made m int (logical_or a b)) false)
      (condition_meant x h.0) (condition_meant y h.1.0)

  cast_meant : (to : PlainType) (x : Operand) → Unbroken (cast_rules (Some to) (Some x) 0) → IsSome (cast m to x)
  cast_meant to x h = if_so (castable (value_type x) (is_null x) to) (valued (in_type m to x)) None
      (not-false (castable (value_type x) (is_null x) to) h.0) refl

  -- ---- what `?:` chooses from

  as_compared : (a : PlainType) (z : Bool) (b : PlainType) (q : Bool) → Alternate a z b q → Compare Eq a z b q
  as_compared a z b q (inl h) = inl h
  as_compared a z b q (inr (inl h)) = inr (inl h)
  as_compared a z b q (inr (inr h)) = inr (inr (tt, h))

  kinds : (a : PlainType) (z : Bool) (b : PlainType) (q : Bool) → (z ≡ true → IsInteger a) → (q ≡ true → IsInteger b) → Alternate a z b q
      → IsScalarKind a × IsScalarKind b
  kinds a z b q l r h = scalars_compare Eq a z b q l r (as_compared a z b q h)

  alike : (s r : SpaceId) (k c : Bool) (t u : PlainType) (z q : Bool) → (z ≡ true → ⊥) → (q ≡ true → ⊥)
      → Alternate (pointer s k t) z (pointer r c u) q → t ≡ u
  alike s r k c t u z q l h (inl d) = absurd d.0
  alike s r k c t u z q l h (inr (inl d)) = d
  alike s r k c t u z q l h (inr (inr (inl d))) = absurd (h d.1)
  alike s r k c t u z q l h (inr (inr (inr d))) = absurd (l d.0)

  between_meant : (a : PlainType) (z : Bool) (b : PlainType) (q : Bool) → (z ≡ true → IsInteger a) → (q ≡ true → IsInteger b)
      → Alternate a z b q → are_apart a b ≡ false → IsSome (type_between (meeting a b) a b)
  between_meant (integer s k) z (integer t c) q l r h e = refl
  between_meant (integer s k) z (fixed t c) q l r h e = refl
  between_meant (fixed s k) z (integer t c) q l r h e = refl
  between_meant (fixed s k) z (fixed t c) q l r h e = refl
  between_meant (pointer s k t) z (integer u c) q l r h e = refl
  between_meant (pointer s k t) z (fixed u c) q l r h e = refl
  between_meant (integer s k) z (pointer r c u) q l i h e = refl
  between_meant (fixed s k) z (pointer r c u) q l i h e = refl
  between_meant (pointer s k t) z (pointer r c u) q l i h e =
      some_with (join s r) (λ j. pointer j (k || c) t) (joined s r k c t u (alike s r k c t u z q l i h) e)
  between_meant void z b q l r h e = absurd (neither (kinds void z b q l r h).0)
  between_meant (array of len) z b q l r h e = absurd (neither (kinds (array of len) z b q l r h).0)
  between_meant (struct index) z b q l r h e = absurd (neither (kinds (struct index) z b q l r h).0)
  between_meant (integer s k) z void q l r h e = absurd (neither (kinds (integer s k) z void q l r h).1)
  between_meant (integer s k) z (array of len) q l r h e = absurd (neither (kinds (integer s k) z (array of len) q l r h).1)
  between_meant (integer s k) z (struct index) q l r h e = absurd (neither (kinds (integer s k) z (struct index) q l r h).1)
  between_meant (fixed s k) z void q l r h e = absurd (neither (kinds (fixed s k) z void q l r h).1)
  between_meant (fixed s k) z (array of len) q l r h e = absurd (neither (kinds (fixed s k) z (array of len) q l r h).1)
  between_meant (fixed s k) z (struct index) q l r h e = absurd (neither (kinds (fixed s k) z (struct index) q l r h).1)
  between_meant (pointer s k t) z void q l r h e = absurd (neither (kinds (pointer s k t) z void q l r h).1)
  between_meant (pointer s k t) z (array of len) q l r h e = absurd (neither (kinds (pointer s k t) z (array of len) q l r h).1)
  between_meant (pointer s k t) z (struct index) q l r h e = absurd (neither (kinds (pointer s k t) z (struct index) q l r h).1)

  alternate : (x y : Operand) → is_void (value_type x) ≡ false → AreAlternatives x y
      → Alternate (value_type x) (is_null x) (value_type y) (is_null y)
  alternate x y n (inl h) = absurd (both_ways (is_void (value_type x)) n ((voids (value_type x)).1 h.0))
  alternate x y n (inr h) = h

  type_meant : (x y : Operand) → HasNullType x → HasNullType y
      → not (alternatives (value_type x) (is_null x) (value_type y) (is_null y)) ≡ false
      → are_apart (value_type x) (value_type y) ≡ false → IsSome (choice_type x y)
  type_meant x y v w h e =
      if_not (not (alternatives (value_type x) (is_null x) (value_type y) (is_null y))) None
      (if is_void (value_type x) then Some void else type_between (meeting (value_type x) (value_type y)) (value_type x) (value_type y)) h
      (if_both IsSome (is_void (value_type x)) (Some void)
      (type_between (meeting (value_type x) (value_type y)) (value_type x) (value_type y))
      (λ z. refl)
      (λ z. between_meant (value_type x) (is_null x) (value_type y) (is_null y) v w
      (alternate x y z ((alternating told x y).0 (not-false (alternatives (value_type x) (is_null x) (value_type y) (is_null y)) h))) e))

  some_bind : {A B : Type 0} → (o : Option A) (g : A → Option B) → IsSome o → ((a : A) → IsSome (g a)) → IsSome (with_one o g)
  some_bind None g h k = absurd (false≢true h)
  some_bind (Some a) g h k = k a

  choice_meant : (c x y : Operand) → HasNullType x → HasNullType y → Unbroken (choice_rules (Some c) (Some x) (Some y) 0)
      → IsSome (with_one (condition m (Some c)) (λ e. chosen m e x y))
  choice_meant c x y v w h =
      some_bind (condition m (Some c)) (λ e. chosen m e x y) (condition_meant c h.0)
      (λ e. some_with (choice_type x y) (λ ty. value (made m ty (conditional e (in_type m ty x) (in_type m ty y))) false)
      (type_meant x y v w h.1.0 h.1.1.0))

pub kept_forms_have_meanings : TypesAreTold → KeptFormsHaveMeanings
kept_forms_have_meanings told m x y at v w = record {
  conditions = λ h. condition_meant told m x (kept (a_condition (Some x) at) h).0;
  passed = λ to h. brought_meant told m to x v (kept (a_passing (Some x) (Some to) at) h);
  operations = λ op h. operated_meant told m op x y v w (kept (an_operation op (Some x) (Some y) at) h);
  prefixes = λ op h. prefixed_meant told m op x (prefix_kept op x at (kept (a_prefix op (Some x) at) h));
  steps = λ up prefix h. stepped_meant told m up prefix x (kept (a_step (Some x) at) h);
  assignments = λ h. assigned_meant told m x y w (assignment_kept x y at (kept (an_assignment (Some x) (Some y) at) h));
  compounds = λ op h. compounded_meant told m op x y (kept (a_compound op (Some x) (Some y) at) h);
  subscripts = λ h. indexed_meant told m x y (kept (an_index (Some x) (Some y) at) h);
  logicals = λ both h. logical_meant told m both x y (kept (a_logical (Some x) (Some y) at) h);
  choices = λ c h. choice_meant told m c x y v w (kept (a_choice (Some c) (Some x) (Some y) at) h);
  casts = λ to h. cast_meant told m to x (kept (a_cast (Some to) (Some x) at) h);
}
  where
    -- the token does not count
    assignment_kept : (x y : Operand) (at : ℕ) → Unbroken (assignment_rules (Some x) (Some y) at)
        → Unbroken (assignment_rules (Some x) (Some y) 0)
    assignment_kept (place ty const space register q) y at h = h
    assignment_kept (value e zero) y at h = h

    prefix_kept : (op : PrefixOp) (x : Operand) (at : ℕ) → Unbroken (prefix_rules op (Some x) at) → Unbroken (prefix_rules op (Some x) 0)
    prefix_kept Address x at h = h
    prefix_kept Deref x at h = h
    prefix_kept Plus x at h = h
    prefix_kept Minus x at h = h
    prefix_kept Invert x at h = h
    prefix_kept Not x at h = h
