-- What an expression does: its value and the state after it, with the effects of its operands from left to right and
-- each done at once (ISO/IEC 9899:1999, 6.5, leaves most of this order open; it is our own profile).
use Rattle.std.specs.Prelude.{ℕ, Bool, true, false, not, pos, List, [], ◌∷◌, Option, Some, None, slice_get, unwrap_or}
use Rattle.ec_fx.specs.declared.numbers.Mode.{Mode}
use Rattle.ec_core.specs.declared.expressions.BinOp.{BinOp}
use Rattle.ec_core.specs.declared.values.Undefined.TheVariants.{Invalid}
use Rattle.ec_core.specs.declared.values.Value.{Value}
use Rattle.ec_core.specs.declared.values.Value.TheVariants.{Number, Pointer}
use Rattle.ec_core.specs.Accesses.{pointer_to, referent_of, operand_of, member_offset, Access, access, read, write}
use Rattle.ec_core.specs.Integers.{truth}
use Rattle.ec_core.specs.Operators.{unary_result, binary_result, conversion_result, truth_result, compound_result}
use Rattle.ec_core.specs.Operators.{step_operator}
use Rattle.ec_core.specs.Plain.{PlainType, void, PlainExpr, expression, PlainNode, number, null, load, address_of}
use Rattle.ec_core.specs.Plain.{unary, binary, convert, assign, compound, step, logical_not, logical_and, logical_or}
use Rattle.ec_core.specs.Plain.{conditional, comma, call, io, group, bind, dynamic_group, PlainPlace, object, deref, member, OptionPlainExpr}
use Rattle.ec_core.specs.Plain.{no_expr, an_expr, PlainExprs, last_expr, next_expr}
use Rattle.ec_core.specs.Pointers.{Pointer as PointerValue, moved}
use Rattle.ec_core.specs.PortAccesses.{no_value, port_effect, group_effect, bind_effect, dynamic_effect}
use Rattle.ec_core.specs.State.{Setting, State, worked, Outcome, got, undefined, next, given, choose}
use Rattle.ec_core.specs.Typing.{int, type_of_expr, place_type, place_space}
use Rattle.ec_core.specs.Words.{node_words, member_words}

-- what a call of a function with these arguments gives
abbrev pub Calls : Type 0
Calls = ℕ → List Value → State → Outcome Value

-- where a dereferenced pointer points to (6.5.3.2): null too is a place, of which no leaf can be accessed
abbrev pub pointed_to : Value → State → Outcome PointerValue
pointed_to (Number n) s = undefined Invalid s
pointed_to (Pointer p) s = got p s

-- where an object's place points to
abbrev pub object_place : PointerValue → State → Outcome PointerValue
object_place None s = undefined Invalid s
object_place (Some p) s = got (Some p) s

-- one of two
abbrev pub either : {A : Type 0} → Bool → A → A → A
either true a b = a
either false a b = b

-- the number of a truth value, of type int
abbrev pub truth_value : Outcome Bool → Outcome Value
truth_value o = next o (λ h s. got (Number (truth h)) s)

-- A compound assignment or a step: the mode of its operation and that of the write, the type of its place, and whether
-- its own value is the new one of the place or the old one
pub record Update : Type 0 where
  pub op : BinOp
  pub operation_mode : Mode
  pub write_mode : Mode
  pub ty : PlainType
  pub place : PlainPlace
  pub new : Bool

-- a compound assignment has a mode for each (6.5.16.2), and a step one for both (6.5.2.4, 6.5.3.1)
abbrev pub compound_update : BinOp → Mode → PlainType → Mode → PlainPlace → Update
compound_update op operation_mode ty mode p =
    record { op = op; operation_mode = operation_mode; write_mode = mode; ty = ty; place = p; new = true }

abbrev pub step_update : Bool → PlainType → Mode → Bool → PlainPlace → Update
step_update up ty mode prefix p =
    record { op = step_operator up; operation_mode = mode; write_mode = mode; ty = ty; place = p; new = prefix }

module _ (w : Setting) where
  -- an access of a type at a place that lies at a pointer's target
  abbrev pub accessed : PlainType → PlainPlace → PointerValue → State → Option Access
  accessed ty p at s = access w.program ty (place_space w.program p) at s

  -- what a value tells as a condition (6.5.3.3, 6.5.13, 6.8.4.1)
  abbrev pub condition : PlainExpr → Outcome Value → Outcome Bool
  condition e o = next o (λ x s. given (truth_result (operand_of w.program (type_of_expr e) x s)) s)

  -- an update at the place, from its old value and the right side: the operation, the write, and its own value
  abbrev pub updated_place : Update → PointerValue → Value → PlainType → Value → State → Outcome Value
  updated_place u at old right x s =
      next (given (compound_result u.op u.operation_mode u.write_mode (operand_of w.program u.ty old s)
      (operand_of w.program right x s)) s)
      (λ v s1. next (write (accessed u.ty u.place at s1) v s1) (λ _ s2. got (either u.new v old) s2))

module _ (w : Setting) (calls : Calls) where
  abbrev mutual
    pub value_of : PlainExpr → State → Outcome Value
    value_of (expression ty mode node) s = node_value ty mode node (worked (node_words w.table ty node) s)

    pub node_value : PlainType → Mode → PlainNode → State → Outcome Value
    node_value ty mode (number n) s = got (Number n) s
    node_value ty mode null s = got (Pointer None) s
    -- a read of the place (6.3.2.1), and its address (6.5.3.2)
    node_value ty mode (load p) s = next (place_of p s) (λ at s1. read w.program (accessed w ty p at s1) s1)
    node_value ty mode (address_of p) s = next (place_of p s) (λ at s1. got (Pointer at) s1)
    -- operators on converted operands (6.5.3.3, 6.5.5 to 6.5.12), and conversions (6.3)
    node_value ty mode (unary op a) s = next (value_of a s) (λ x s1. given (unary_result op ty mode x) s1)
    node_value ty mode (binary op a b) s =
        next (value_of a s) (λ x s1. next (value_of b s1)
        (λ y s2. given (binary_result op ty mode (operand_of w.program (type_of_expr a) x s2)
        (operand_of w.program (type_of_expr b) y s2)) s2))
    node_value ty mode (convert a) s =
        next (value_of a s) (λ x s1. given (conversion_result ty mode (operand_of w.program (type_of_expr a) x s1)) s1)
    -- the place, then the right side, then the write (6.5.16.1)
    node_value ty mode (assign p a) s =
        next (place_of p s) (λ at s1. next (value_of a s1) (λ x s2. write (accessed w ty p at s2) x s2))
    -- the place, then its old value, then the right side, then the write (6.5.16.2); a step has 1 as its right side
    -- (6.5.2.4, 6.5.3.1)
    node_value ty mode (compound op operation_mode p a) s =
        next (place_of p s) (λ at s1. next (read w.program (accessed w ty p at s1) s1)
        (λ old s2. next (value_of a s2)
        (λ x s3. updated_place w (compound_update op operation_mode ty mode p) at old (type_of_expr a) x s3)))
    node_value ty mode (step up prefix p) s =
        next (place_of p s) (λ at s1. next (read w.program (accessed w ty p at s1) s1)
        (λ old s2. updated_place w (step_update up ty mode prefix p) at old int (Number (pos 1)) s2))
    -- the second operand is evaluated only where it decides (6.5.13, 6.5.14), and one of the last two of `?:` (6.5.15)
    node_value ty mode (logical_not a) s = next (condition w a (value_of a s)) (λ h s1. got (Number (truth (not h))) s1)
    node_value ty mode (logical_and a b) s =
        next (condition w a (value_of a s))
        (λ h s1. choose h (λ s2. truth_value (condition w b (value_of b s2)))
        (λ s2. got (Number (truth false)) s2) s1)
    node_value ty mode (logical_or a b) s =
        next (condition w a (value_of a s))
        (λ h s1. choose h (λ s2. got (Number (truth true)) s2)
        (λ s2. truth_value (condition w b (value_of b s2))) s1)
    node_value ty mode (conditional c a b) s =
        next (condition w c (value_of c s)) (λ h s1. choose h (λ s2. value_of a s2) (λ s2. value_of b s2) s1)
    node_value ty mode (comma a b) s = next (value_of a s) (λ x s1. value_of b s1)
    -- all arguments in order, then the call (6.5.2.2)
    node_value ty mode (call f args) s = next (values_of args s) (λ xs s1. calls f xs s1)
    -- index and operand before any byte of the port (TR 18037, 6.2)
    node_value ty mode (io op port index value) s =
        next (option_value index s) (λ i s1.
        next (option_value value s1) (λ v s2. port_effect w.inputs w.table op (slice_get w.table.ports port) i v s2))
    node_value ty mode (group acquire g) s = group_effect acquire g (slice_get w.table.groups g) s
    node_value ty mode (bind d choice) s = bind_effect d choice s
    node_value ty mode (dynamic_group acquire d) s = dynamic_effect acquire w.table d s

    -- the place of an object is that of its newest instance; a member is reached by pointer arithmetic (6.5.2.3)
    pub place_of : PlainPlace → State → Outcome PointerValue
    place_of (object o) s = object_place (pointer_to o s) s
    place_of (deref e) s = next (value_of e s) pointed_to
    place_of (member p i) s =
        next (place_of p (worked member_words s))
        (λ at s1. given (moved at (referent_of w.program at s1)
        (pos (member_offset w.program (unwrap_or (place_type w.program p) void) i))) s1)

    pub option_value : OptionPlainExpr → State → Outcome Value
    option_value no_expr s = got no_value s
    option_value (an_expr e) s = value_of e s

    pub values_of : PlainExprs → State → Outcome (List Value)
    values_of last_expr s = got [] s
    values_of (next_expr e es) s = next (value_of e s) (λ x s1. next (values_of es s1) (λ xs s2. got (x ∷ xs) s2))
