-- Arguments of calls, and operands of port operations: each is brought to a type (ISO/IEC 9899:1999, 6.5.2.2).
use Rattle.std.specs.Prelude.{ℕ, ◌-◌, ◌==◌, Bool, false, ◌&&◌, if◌then◌else◌, Option, Some, None}
use Rattle.std.specs.Prelude.{option_map, List, [], ◌∷◌, ◌++◌, map, slice_get}
use Rattle.ec_iohw.specs.declared.operations.IoOp.{IoOp}
use Rattle.ec_core.specs.declared.expressions.Expr.{Expr}
use Rattle.ec_core.specs.Plain.{PlainType, plain_type, PlainExpr, plain_expr}
use Rattle.ec_core.specs.PortOperations.{port_operation}
use Rattle.ec_space.specs.Listed.{Listed}
use Rattle.ec_check_operands.specs.declared.operands.Modes.{Modes}
use Rattle.ec_check_forms.specs.declared.ports.NamedPort.{NamedPort}
use Rattle.ec_check_forms.specs.Calls.{operand_type, operand_count, accessed}
use Rattle.ec_check_operands.specs.Operands.{Operand, with_one}
use Rattle.ec_check_expressions.specs.declared.arguments.Passed as passed
use Rattle.ec_check_expressions.specs.declared.arguments.Passed.TheVariants as passings
use Rattle.ec_check_expressions.specs.declared.arguments.Wanted as wanted
use Rattle.ec_check_expressions.specs.declared.arguments.Wanted.TheVariants as kinds

-- what the types of arguments are: nothing is known of them, they are those of parameters, or those of the operands of
-- a port operation
pub data Wanted : Type 0 where
  nothing : Wanted
  parameters : List PlainType → Wanted
  port_operands : IoOp → Wanted

abbrev pub plain_wanted : wanted.Wanted → Wanted
plain_wanted kinds.Nothing = nothing
plain_wanted (kinds.Parameters ts) = parameters (map plain_type ts.now.items)
plain_wanted (kinds.PortOperands op) = port_operands op

abbrev pub wanted_of : Option (List PlainType) → Wanted
wanted_of None = nothing
wanted_of (Some ts) = parameters ts

-- the type of the argument with a number; that of a port operation with number 0 is the port
abbrev pub wanted_type : Wanted → ℕ → Option PlainType
wanted_type nothing i = None
wanted_type (parameters ts) i = slice_get ts i
wanted_type (port_operands op) i = operand_type (port_operation op) (i - 1)

-- what was passed so far: the arguments of a call, where each was brought to its type, or the operands of a port
-- operation
pub data Passed : Type 0 where
  arguments : Option (List PlainExpr) → Passed
  operands : (index contents : Option PlainExpr) → Passed

abbrev pub plain_arguments : Option (Listed Expr) → Option (List PlainExpr)
plain_arguments es = option_map (λ es. map plain_expr es.items) es

abbrev pub plain_passed : passed.Passed → Passed
plain_passed (passings.Arguments es) = arguments (plain_arguments es)
plain_passed (passings.Operands index contents) =
    operands (option_map plain_expr index) (option_map plain_expr contents)

abbrev pub appended : Option (List PlainExpr) → Option PlainExpr → Option (List PlainExpr)
appended None e = None
appended (Some es) None = None
appended (Some es) (Some e) = Some (es ++ e ∷ [])

-- the index of a port operation is its first operand where it has one
abbrev pub is_index : Wanted → ℕ → Bool
is_index nothing i = false
is_index (parameters ts) i = false
is_index (port_operands op) i = (port_operation op).indexed && i == 1

-- what was passed, with the argument that has a number
abbrev pub with_argument : Wanted → ℕ → Passed → Option PlainExpr → Passed
with_argument w i (arguments es) e = arguments (appended es e)
with_argument w i (operands index contents) e = if is_index w i then operands e contents else operands index e

abbrev pub arguments_in : Passed → Option (List PlainExpr)
arguments_in (arguments es) = es
arguments_in (operands index contents) = None

-- ---- operations on ports

abbrev pub access_by : Modes → IoOp → Option NamedPort → Passed → Option Operand
access_by m op port (arguments es) = None
access_by m op port (operands index contents) = with_one port (accessed m op index contents)

-- what an operation on a port makes of its operands, where they are as many as it takes
abbrev pub access_of : Modes → IoOp → Option NamedPort → (count : ℕ) → Passed → Option Operand
access_of m op port count args =
    if count == operand_count (port_operation op) then access_by m op port args else None
