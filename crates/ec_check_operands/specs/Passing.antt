-- Implicit conversions: where an operand is brought to a type, by `=`, as an argument, by `return`, as an initialiser
-- and as an operand of a port (ISO/IEC 9899:1999, 6.5.16.1; ISO/IEC TR 18037:2008, 5.1.3).
use Rattle.std.specs.Prelude.{ℕ, not, ◌&&◌, ◌||◌, if◌then◌else◌, Option, Some, None, List, []}
use Rattle.ec_check_operands.specs.Faults.{Judgement}
use Rattle.ec_core.specs.Plain.{PlainType, PlainExpr, null}
use Rattle.ec_check_operands.specs.declared.operands.Modes.{Modes}
use Rattle.ec_check_operands.specs.Operands.{Operand, made, value_type, as_value, is_null, converted, with_both}
use Rattle.ec_check_operands.specs.Sorts.{is_pointer, narrows, drops_const}
use Rattle.ec_check_operands.specs.Conversions.{conversion_rules}
pub use Rattle.ec_check_operands.specs.Conversions.{passes}

-- an operand in a type to which a conversion leads
abbrev pub in_type : Modes → PlainType → Operand → PlainExpr
in_type m to x = if is_null x && is_pointer to then made m to null else converted m to (as_value m x)

-- a pointer keeps const, and comes into a space that encloses its own
abbrev pub brought : Modes → PlainType → Operand → Option PlainExpr
brought m to x =
    if passes (value_type x) (is_null x) to && not (narrows (value_type x) to || drops_const (value_type x) to)
    then Some (in_type m to x) else None

-- an operand in the type to which it is passed
abbrev pub passed : Modes → Option PlainType → Option Operand → Option PlainExpr
passed m to x = with_both to x (brought m)

abbrev pub passing_rules : Option Operand → Option PlainType → ℕ → List Judgement
passing_rules (Some x) (Some to) at = conversion_rules (value_type x) (is_null x) to at
passing_rules x to at = []
