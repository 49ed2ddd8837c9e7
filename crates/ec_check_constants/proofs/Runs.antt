-- A run of a constant expression gives its value.
use Rattle.std.proofs.Common.{◌≡◌, ◌∙◌, ℕ, ◌+◌, Bool, true, false, not, Result, Ok, Err, refl, sym, ap, subst, arith}
use Rattle.std.specs.Prelude.{if◌then◌else◌, ℤ}
use Rattle.ec_fx.specs.declared.numbers.Mode.{Mode}
use Rattle.ec_core.specs.declared.values.Undefined.{Undefined}
use Rattle.ec_core.specs.declared.values.Value.{Value}
use Rattle.ec_core.specs.declared.values.Value.TheVariants.{Number}
use Rattle.ec_core.specs.ArithmeticValues.{operand, conversion_value, arithmetic_value}
use Rattle.ec_core.specs.Accesses.{operand_of}
use Rattle.ec_core.specs.Expressions.{Calls, value_of, node_value, condition, truth_value}
use Rattle.ec_core.specs.Integers.{truth}
use Rattle.ec_core.specs.Operators.{number_type, as_number, then_with, Operand, conversion_of, conversion_result}
use Rattle.ec_core.specs.Plain.{PlainType, void, integer, fixed, pointer, array, struct, PlainExpr, expression, PlainNode, number, null}
use Rattle.ec_core.specs.Plain.{load, address_of, unary, binary, convert, assign, compound, step, logical_not, logical_and, logical_or}
use Rattle.ec_core.specs.Plain.{conditional, comma, call, io, group, bind, dynamic_group}
use Rattle.ec_core.specs.State.{Setting, State, worked, Outcome, got, next, given, choose}
use Rattle.ec_core.specs.Typing.{type_of_expr}
use Rattle.ec_check_constants.specs.Constants.{IsConstant, IsConstantNode, is_true, truth_of, constant, node_constant}

-- ---- outcomes

-- an outcome is that of a number or of an undefined point, after some work from a state
record Gives (o : Outcome Value) (r : Result ℤ Undefined) (s : State) : Type 0 where
  words : ℕ
  is : o ≡ given (as_number r) (worked words s)

worked_none : (s : State) → worked 0 s ≡ s
worked_none s =
    let e : s.work + 0 ≡ s.work = omega arith in
    ap (λ (n : ℕ). record { objects = s.objects; groups = s.groups; events = s.events; work = n }) e

worked_twice : (j k : ℕ) (s : State) → worked k (worked j s) ≡ worked (j + k) s
worked_twice j k s =
    let e : s.work + j + k ≡ s.work + (j + k) = omega arith in
    ap (λ (n : ℕ). record { objects = s.objects; groups = s.groups; events = s.events; work = n }) e

at_once : (r : Result ℤ Undefined) (s : State) → Gives (given (as_number r) s) r s
at_once r s = record { words = 0; is = ap (λ (t : State). given (as_number r) t) (sym (worked_none s)) }

later : (o : Outcome Value) (r : Result ℤ Undefined) (j : ℕ) (s : State) → Gives o r (worked j s) → Gives o r s
later o r j s h =
    record { words = j + h.words; is = h.is ∙ ap (λ (t : State). given (as_number r) t) (worked_twice j h.words s) }

-- goes on from a value
onward : (r : Result ℤ Undefined) (k : ℕ) (s : State) (go : Value → State → Outcome Value) (f : ℤ → Result ℤ Undefined)
    → ((n : ℤ) (t : State) → Gives (go (Number n) t) (f n) t) → Gives (next (given (as_number r) (worked k s)) go) (then_with r f) s
onward (Ok n) k s go f h = later (go (Number n) (worked k s)) (f n) k s (h n (worked k s))
onward (Err point) k s go f h = record { words = k; is = refl }

then_gives : (o : Outcome Value) (r : Result ℤ Undefined) (s : State) (go : Value → State → Outcome Value) (f : ℤ → Result ℤ Undefined)
    → Gives o r s → ((n : ℤ) (t : State) → Gives (go (Number n) t) (f n) t) → Gives (next o go) (then_with r f) s
then_gives o r s go f g h = subst (λ (z : Outcome Value). Gives (next z go) (then_with r f) s) (sym g.is) (onward r g.words s go f h)

-- one of two
chosen : (b : Bool) (x y : State → Outcome Value) (p q : Result ℤ Undefined) (s : State) → Gives (x s) p s → Gives (y s) q s
    → Gives (choose b x y s) (if b then p else q) s
chosen true x y p q s g h = g
chosen false x y p q s g h = h

module _ (w : Setting) where
  tested_onward : (e : PlainExpr) (r : Result ℤ Undefined) (k : ℕ) (s : State) (go : Bool → State → Outcome Value)
      (f : ℤ → Result ℤ Undefined) → ((n : ℤ) (t : State) → Gives (go (is_true n) t) (f n) t)
      → Gives (next (condition w e (given (as_number r) (worked k s))) go) (then_with r f) s
  tested_onward e (Ok n) k s go f h = later (go (is_true n) (worked k s)) (f n) k s (h n (worked k s))
  tested_onward e (Err point) k s go f h = record { words = k; is = refl }

  -- goes on from a condition
  if_gives : (e : PlainExpr) (o : Outcome Value) (r : Result ℤ Undefined) (s : State) (go : Bool → State → Outcome Value)
      (f : ℤ → Result ℤ Undefined) → Gives o r s → ((n : ℤ) (t : State) → Gives (go (is_true n) t) (f n) t)
      → Gives (next (condition w e o) go) (then_with r f) s
  if_gives e o r s go f g h = subst (λ (z : Outcome Value). Gives (next (condition w e z) go) (then_with r f) s) (sym g.is)
      (tested_onward e r g.words s go f h)

  truth_gives : (e : PlainExpr) (o : Outcome Value) (r : Result ℤ Undefined) (s : State) → Gives o r s
      → Gives (truth_value (condition w e o)) (truth_of r) s
  truth_gives e o r s g = if_gives e o r s (λ h t. got (Number (truth h)) t) (λ n. Ok (truth (is_true n))) g
      (λ n t. at_once (Ok (truth (is_true n))) t)

-- ---- expressions

converted : (ty : PlainType) (mode : Mode) (a : Operand) (n : ℤ)
    → conversion_of ty mode a (Number n) ≡ as_number (conversion_value (number_type ty) mode (operand (number_type a.ty) n))
converted void mode a n = refl
converted (integer signed bytes) mode a n = refl
converted (fixed kind saturates) mode a n = refl
converted (pointer space const to) mode a n = refl
converted (array of len) mode a n = refl
converted (struct index) mode a n = refl

conversion_gives : (w : Setting) (ty : PlainType) (mode : Mode) (from : PlainType) (n : ℤ) (s : State)
    → Gives (given (conversion_result ty mode (operand_of w.program from (Number n) s)) s)
    (conversion_value (number_type ty) mode (operand (number_type from) n)) s
conversion_gives w ty mode from n s =
    let r = conversion_value (number_type ty) mode (operand (number_type from) n) in
    subst (λ (z : Result Value Undefined). Gives (given z s) r s)
    (sym (converted ty mode (operand_of w.program from (Number n) s) n)) (at_once r s)

module _ (w : Setting) (calls : Calls) where
  mutual
    gives : (e : PlainExpr) (s : State) → IsConstant e → Gives (value_of w calls e s) (constant e) s
    gives (expression ty mode node) s h = later _ (node_constant ty mode node) _ s (node_gives ty mode node _ h.1)

    node_gives : (ty : PlainType) (mode : Mode) (node : PlainNode) (s : State) → IsConstantNode ty node
        → Gives (node_value w calls ty mode node s) (node_constant ty mode node) s
    node_gives ty mode (number n) s h = at_once (Ok n) s
    node_gives ty mode null s h = absurd h
    node_gives ty mode (load p) s h = absurd h
    node_gives ty mode (address_of p) s h = absurd h
    node_gives ty mode (unary op a) s h =
        then_gives (value_of w calls a s) (constant a) s _ _ (gives a s h.0) (λ n t. at_once _ t)
    node_gives ty mode (binary op a b) s h =
        then_gives (value_of w calls a s) (constant a) s _ _ (gives a s h.0)
        (λ m t. then_gives (value_of w calls b t) (constant b) t _ _ (gives b t h.1)
        (λ n u. at_once (arithmetic_value op (number_type ty) mode (operand (number_type (type_of_expr a)) m)
        (operand (number_type (type_of_expr b)) n)) u))
    node_gives ty mode (convert a) s h =
        then_gives (value_of w calls a s) (constant a) s _ _ (gives a s h)
        (λ n t. conversion_gives w ty mode (type_of_expr a) n t)
    node_gives ty mode (assign p a) s h = absurd h
    node_gives ty mode (compound op operation_mode p a) s h = absurd h
    node_gives ty mode (step up prefix p) s h = absurd h
    node_gives ty mode (logical_not a) s h =
        if_gives w a (value_of w calls a s) (constant a) s _ _ (gives a s h.0) (λ n t. at_once (Ok (truth (not (is_true n)))) t)
    node_gives ty mode (logical_and a b) s h =
        if_gives w a (value_of w calls a s) (constant a) s _ _ (gives a s h.0)
        (λ m t. chosen (is_true m) _ _ (truth_of (constant b)) (Ok (truth false)) t
        (truth_gives w b (value_of w calls b t) (constant b) t (gives b t h.1)) (at_once (Ok (truth false)) t))
    node_gives ty mode (logical_or a b) s h =
        if_gives w a (value_of w calls a s) (constant a) s _ _ (gives a s h.0)
        (λ m t. chosen (is_true m) _ _ (Ok (truth true)) (truth_of (constant b)) t (at_once (Ok (truth true)) t)
        (truth_gives w b (value_of w calls b t) (constant b) t (gives b t h.1)))
    node_gives ty mode (conditional c a b) s h =
        if_gives w c (value_of w calls c s) (constant c) s _ _ (gives c s h.0)
        (λ n t. chosen (is_true n) _ _ (constant a) (constant b) t (gives a t h.1) (gives b t h.2))
    node_gives ty mode (comma a b) s h = absurd h
    node_gives ty mode (call f args) s h = absurd h
    node_gives ty mode (io op port index value) s h = absurd h
    node_gives ty mode (group acquire g) s h = absurd h
    node_gives ty mode (bind d choice) s h = absurd h
    node_gives ty mode (dynamic_group acquire d) s h = absurd h

pub runs_give : (w : Setting) (calls : Calls) (e : PlainExpr) (s : State) → IsConstant e
    → (words : ℕ) × (value_of w calls e s ≡ given (as_number (constant e)) (worked words s))
runs_give w calls e s h = let g = gives w calls e s h in (g.words, g.is)
