-- What names and constants mean in an expression (ISO/IEC 9899:1999, 6.5.1).
use Rattle.std.specs.Prelude.{ℕ, Option, Some, None}
use Rattle.ec_check_names.specs.Names.{Named, an_object, a_function}
use Rattle.ec_check_forms.specs.declared.calls.Meant.{Meant}
use Rattle.ec_check_forms.specs.declared.calls.Meant.TheVariants.{Undeclared, Undefined, Object, Function}
use Rattle.std.specs.Prelude.{Bool}
use Rattle.ec_grammar.specs.declared.Constant.{Constant}
use Rattle.ec_grammar.specs.declared.Constant.TheVariants as constants
use Rattle.ec_space.specs.declared.space.SpaceId.{SpaceId}
use Rattle.ec_core.specs.Plain.{PlainType, object}
use Rattle.ec_check_operands.specs.declared.operands.Modes.{Modes}
use Rattle.ec_check_forms.specs.Calls.{whole_constant, fixed_constant}
use Rattle.ec_check_operands.specs.Operands.{Operand, place, with_both}

abbrev pub object_meant : Option ℕ → Meant
object_meant None = Undefined
object_meant (Some n) = Object

abbrev pub kind_meant : Named → Meant
kind_meant (an_object number ty konst space register) = object_meant number
kind_meant (a_function number returns params) = Function

-- what stands behind a name where no call is
abbrev pub what_is_meant : Option Named → Meant
what_is_meant None = Undeclared
what_is_meant (Some what) = kind_meant what

-- an object that a unit defines is a place, where its declaration breaks no rule
abbrev pub object_place : Option ℕ → Option PlainType → (konst : Bool) → SpaceId → (register : Bool) → Option Operand
object_place number ty konst space register =
    with_both number ty (λ n t. Some (place t konst space register (object n)))

abbrev pub place_named : Named → Option Operand
place_named (an_object number ty konst space register) = object_place number ty konst space register
place_named (a_function number returns params) = None

abbrev pub named : Option Named → Option Operand
named None = None
named (Some what) = place_named what

abbrev pub constant_value : Modes → Constant → Operand
constant_value m (constants.Whole n signed bytes) = whole_constant m signed bytes n
constant_value m (constants.Fixed kind n) = fixed_constant m kind n
