-- What an expression means before it is used: a place, with what is known of it, or a value.
use Rattle.std.specs.Prelude.{Bool, false, ◌||◌, if◌then◌else◌, Option, Some}
use Rattle.ec_fx.specs.declared.numbers.Mode.{Mode}
use Rattle.ec_fx.specs.Formats.{format_of, is_fract}
use Rattle.ec_space.specs.declared.space.SpaceId.{SpaceId}
use Rattle.ec_core.specs.Operators.{same_type}
use Rattle.ec_core.specs.Plain.{PlainType, fixed, pointer, array, plain_type, PlainExpr}
use Rattle.ec_core.specs.Plain.{expression, PlainNode, load, address_of, convert, PlainPlace, plain_expr, plain_place}
use Rattle.ec_core.specs.Typing.{type_of_expr}
use Rattle.ec_check_operands.specs.declared.operands.Modes.{Modes}
use Rattle.ec_check_operands.specs.declared.operands.Operand as operand
use Rattle.ec_check_operands.specs.declared.operands.Operand.TheVariants as operands
pub use Rattle.ec_check_operands.specs.Options.{with_one, with_both}
pub use Rattle.ec_check_operands.specs.Sorts.{plain_sort}

-- a place has a type, is const or not, stands in a space, and is a named register or not; a value is the null pointer
-- constant or not
pub data Operand : Type 0 where
  place : PlainType → (const : Bool) → SpaceId → (register : Bool) → PlainPlace → Operand
  value : PlainExpr → (zero : Bool) → Operand

abbrev pub plain_operand : operand.Operand → Operand
plain_operand (operands.Place ty konst space register p) = place (plain_type ty) konst space register (plain_place p)
plain_operand (operands.Value e zero) = value (plain_expr e) zero

-- ---- expressions

-- The mode of an expression of a type, by the overflow states that hold at its place: a fixed-point result saturates
-- where its type or the state of its family says so (ISO/IEC TR 18037:2008, 4.1.3)
abbrev pub mode_of : Modes → PlainType → Mode
mode_of m (fixed kind sat) = record { saturate = sat || (if is_fract (format_of kind) then m.fract else m.accum) }
mode_of m ty = record { saturate = false }

abbrev pub made : Modes → PlainType → PlainNode → PlainExpr
made m ty node = expression ty (mode_of m ty) node

-- a conversion stands exactly where the type changes
abbrev pub converted : Modes → PlainType → PlainExpr → PlainExpr
converted m ty e = if same_type (type_of_expr e) ty then e else made m ty (convert e)

-- ---- values of operands

-- the type of the value: an array's is a pointer to its first element (ISO/IEC 9899:1999, 6.3.2.1)
abbrev pub value_type : Operand → PlainType
value_type (place (array of len) const space register p) = pointer space const of
value_type (place ty const space register p) = ty
value_type (value e zero) = type_of_expr e

-- a place is loaded, and an array becomes its address
abbrev pub as_value : Modes → Operand → PlainExpr
as_value m (place (array of len) const space register p) = made m (pointer space const of) (address_of p)
as_value m (place ty const space register p) = made m ty (load p)
as_value m (value e zero) = e

abbrev pub is_null : Operand → Bool
is_null (place ty const space register p) = false
is_null (value e zero) = zero

-- what a form means that has a value, which is no null constant
abbrev pub valued : PlainExpr → Option Operand
valued e = Some (value e false)
