-- The value of a constant expression is a number that its type holds.
use Rattle.std.proofs.Common.{◌≡◌, Bool, true, false, not, if◌then◌else◌, ℤ, Result, Ok, Err, refl, sym, subst}
use Rattle.ec_fx.specs.declared.numbers.Mode.{Mode}
use Rattle.ec_core.specs.declared.arithmetic_types.Arithmetic.{Arithmetic}
use Rattle.ec_core.specs.declared.values.Undefined.{Undefined}
use Rattle.ec_core.specs.ArithmeticValues.{IsKnownType, operand}
use Rattle.ec_core.specs.Integers.{truth}
use Rattle.ec_core.specs.Operators.{number_type, then_with}
use Rattle.ec_core.specs.Plain.{PlainType, void, integer, fixed, pointer, array, struct, PlainExpr, expression, PlainNode, number, null}
use Rattle.ec_core.specs.Plain.{load, address_of, unary, binary, convert, assign, compound, step, logical_not, logical_and, logical_or}
use Rattle.ec_core.specs.Plain.{conditional, comma, call, io, group, bind, dynamic_group}
use Rattle.ec_core.specs.Typing.{int, type_of_expr}
use Rattle.ec_core.proofs.HeldNumbers.{Held, truth_number, conversion_held, arithmetic_held, unary_held}
use Rattle.ec_check_constants.specs.Constants.{IsNumeric, IsConstant, IsConstantNode, is_true, truth_of, constant, node_constant}

known_type : (ty : PlainType) → IsNumeric ty → IsKnownType (number_type ty)
known_type void h = absurd h
known_type (integer signed bytes) h = h
known_type (fixed kind saturates) h = tt
known_type (pointer space const to) h = absurd h
known_type (array of len) h = absurd h
known_type (struct index) h = absurd h

pub expression_numeric : (e : PlainExpr) → IsConstant e → IsNumeric (type_of_expr e)
expression_numeric (expression ty mode node) h = h.0

then_held : (t : Arithmetic) (r : Result ℤ Undefined) (f : ℤ → Result ℤ Undefined) → ((n : ℤ) → r ≡ Ok n → Held t (f n))
    → Held t (then_with r f)
then_held t (Ok n) f h = h n refl
then_held t (Err u) f h = tt

either_held : (t : Arithmetic) (b : Bool) (r s : Result ℤ Undefined) → Held t r → Held t s → Held t (if b then r else s)
either_held t true r s h k = h
either_held t false r s h k = k

truth_is_held : (r : Result ℤ Undefined) → Held (number_type int) (truth_of r)
truth_is_held r = then_held (number_type int) r (λ n. Ok (truth (is_true n))) (λ n q. truth_number (is_true n))

of_type : (ty from : PlainType) (r : Result ℤ Undefined) → from ≡ ty → Held (number_type from) r → Held (number_type ty) r
of_type ty from r e h = subst (λ (z : PlainType). Held (number_type z) r) e h

mutual
  pub constant_held : (e : PlainExpr) → IsConstant e → Held (number_type (type_of_expr e)) (constant e)
  constant_held (expression ty mode node) h = node_held ty mode node h.0 h.1

  node_held : (ty : PlainType) (mode : Mode) (node : PlainNode) → IsNumeric ty → IsConstantNode ty node
      → Held (number_type ty) (node_constant ty mode node)
  node_held ty mode (number n) k h = h
  node_held ty mode null k h = absurd h
  node_held ty mode (load p) k h = absurd h
  node_held ty mode (address_of p) k h = absurd h
  node_held ty mode (unary op a) k h =
      let held : Held (number_type ty) (constant a) = of_type ty (type_of_expr a) (constant a) h.1 (constant_held a h.0) in
      then_held (number_type ty) (constant a) _ (λ n q. unary_held op (number_type ty) mode n h.2 (subst (Held (number_type ty)) q held))
  node_held ty mode (binary op a b) k h =
      then_held (number_type ty) (constant a) _
      (λ m q. then_held (number_type ty) (constant b) _
      (λ n r. arithmetic_held op (number_type ty) (number_type (type_of_expr a)) (number_type (type_of_expr b)) mode m n h.2
      (known_type (type_of_expr a) (expression_numeric a h.0)) (known_type (type_of_expr b) (expression_numeric b h.1))))
  node_held ty mode (convert a) k h =
      then_held (number_type ty) (constant a) _
      (λ n q. conversion_held (number_type ty) mode (operand (number_type (type_of_expr a)) n) (known_type ty k))
  node_held ty mode (assign p a) k h = absurd h
  node_held ty mode (compound op operation_mode p a) k h = absurd h
  node_held ty mode (step up prefix p) k h = absurd h
  node_held ty mode (logical_not a) k h =
      of_type ty int _ (sym h.1)
      (then_held (number_type int) (constant a) (λ n. Ok (truth (not (is_true n)))) (λ n q. truth_number (not (is_true n))))
  node_held ty mode (logical_and a b) k h =
      of_type ty int _ (sym h.2)
      (then_held (number_type int) (constant a) _
      (λ n q. either_held (number_type int) (is_true n) (truth_of (constant b)) (Ok (truth false)) (truth_is_held (constant b))
      (truth_number false)))
  node_held ty mode (logical_or a b) k h =
      of_type ty int _ (sym h.2)
      (then_held (number_type int) (constant a) _
      (λ n q.
      either_held (number_type int) (is_true n) (Ok (truth true)) (truth_of (constant b)) (truth_number true) (truth_is_held (constant b))))
  node_held ty mode (conditional c a b) k h =
      then_held (number_type ty) (constant c) _
      (λ n q. either_held (number_type ty) (is_true n) (constant a) (constant b)
      (of_type ty (type_of_expr a) (constant a) h.3 (constant_held a h.1))
      (of_type ty (type_of_expr b) (constant b) h.4 (constant_held b h.2)))
  node_held ty mode (comma a b) k h = absurd h
  node_held ty mode (call f args) k h = absurd h
  node_held ty mode (io op port index v) k h = absurd h
  node_held ty mode (group acquire g) k h = absurd h
  node_held ty mode (bind d choice) k h = absurd h
  node_held ty mode (dynamic_group acquire d) k h = absurd h
