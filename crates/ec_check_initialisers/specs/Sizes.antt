-- Sizes of arrays: integer constant expressions from 1 to 32,767 (ISO/IEC 9899:1999, 6.6 and 6.7.5.2).
use Rattle.std.specs.Prelude.{ℕ, ◌&&◌, if◌then◌else◌, ℤ, pos, int_le, unsigned_abs, Option, Some, None, Result, Ok, Err}
use Rattle.ec_core.specs.declared.values.Undefined.{Undefined}
use Rattle.ec_core.specs.Plain.{PlainExpr}
use Rattle.ec_core.specs.Typing.{type_of_expr}
use Rattle.ec_check_constants.specs.Constants.{constant}
use Rattle.ec_check_constants.specs.Tests.{is_constant}
use Rattle.ec_check_operands.specs.Sorts.{is_integer}
use Rattle.std.specs.Prelude.{Bool, false, not, ◌||◌}
use Rattle.std.specs.Prelude.{is_none, List, ◌∷◌, []}
use Rattle.ec_grammar.specs.Trees as t
use Rattle.ec_check_operands.specs.Faults.{Judgement, rule}
use Rattle.ec_check_initialisers.specs.Forms.{is_constant_conditional}
use Rattle.ec_check_operands.specs.Operands.{Operand, place, value, with_one}
use Rattle.ec_check_forms.specs.Nodes.{used}
use Rattle.ec_check_expressions.specs.Expressions.{of_conditional}
use Rattle.ec_check_expressions.specs.Known.{Known}

-- a number as a size
abbrev pub size_of_number : ℤ → Option ℕ
size_of_number n = if int_le (pos 1) n && int_le n (pos 32_767) then Some (unsigned_abs n) else None

abbrev pub size_of_result : Result ℤ Undefined → Option ℕ
size_of_result (Ok n) = size_of_number n
size_of_result (Err u) = None

-- the value of an expression of an integer type, in which each operand was converted as its operator asks
abbrev pub size_of_value : PlainExpr → Option ℕ
size_of_value e = if is_integer (type_of_expr e) && is_constant e then size_of_result (constant e) else None

abbrev pub size_of_operand : Operand → Option ℕ
size_of_operand (place ty konst space register q) = None
size_of_operand (value e zero) = size_of_value e

-- the size that stands in `[ ]`, or None where there is none
abbrev pub array_size : Known → t.Conditional → Option ℕ
array_size k c = if is_constant_conditional k c then with_one (used (of_conditional k c)) size_of_operand else None

-- an operand with a type, but without such a value
abbrev pub is_unsized : Option Operand → Bool
is_unsized None = false
is_unsized (Some x) = is_none (size_of_operand x)

-- 8: at `[`
abbrev pub size_rules : (form : Bool) → Option Operand → (at : ℕ) → List Judgement
size_rules form x at = rule 8 (not form || is_unsized x) at ∷ []
