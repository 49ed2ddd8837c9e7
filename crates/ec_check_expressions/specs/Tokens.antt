-- What binary operators and assignments make of their operands, and where they are judged (ISO/IEC 9899:1999, 6.5).
use Rattle.std.specs.Prelude.{Bool, true, false, Option, Some, None}
use Rattle.ec_grammar.specs.declared.token.PunctKind.{PunctKind}
use Rattle.ec_grammar.specs.declared.token.PunctKind.TheVariants as p
use Rattle.ec_core.specs.declared.expressions.BinOp.{BinOp}
use Rattle.ec_core.specs.declared.expressions.BinOp.TheVariants.{Add, Sub, Mul, Div, Rem, Shl, Shr, And, Or, Xor}
use Rattle.ec_core.specs.declared.expressions.BinOp.TheVariants.{Lt, Gt, Le, Ge, Eq, Ne}
use Rattle.ec_check_forms.specs.declared.prefixes.PrefixOp.{PrefixOp}
use Rattle.ec_check_forms.specs.declared.prefixes.PrefixOp.TheVariants.{Address, Deref, Plus, Minus, Invert, Not}
use Rattle.std.specs.Prelude.{ℕ}
use Rattle.ec_check_operands.specs.declared.operands.Modes.{Modes}
use Rattle.ec_check_forms.specs.Nodes.{condition, assigned, compounded}
use Rattle.ec_check_forms.specs.Choices.{logical}
use Rattle.ec_check_operands.specs.Operands.{Operand, with_both}
use Rattle.ec_check_operands.specs.Operators.{operated}
use Rattle.ec_check_forms.specs.Sites.{an_operation, a_logical, an_assignment, a_compound}
use Rattle.ec_check_expressions.specs.Sites.{Site, on}

-- the operators on values; the others are `&&` and `||`
abbrev pub operator_of : PunctKind → Option BinOp
operator_of p.Plus = Some Add
operator_of p.Minus = Some Sub
operator_of p.Star = Some Mul
operator_of p.Slash = Some Div
operator_of p.Percent = Some Rem
operator_of p.ShiftLeft = Some Shl
operator_of p.ShiftRight = Some Shr
operator_of p.Ampersand = Some And
operator_of p.Bar = Some Or
operator_of p.Caret = Some Xor
operator_of p.Less = Some Lt
operator_of p.Greater = Some Gt
operator_of p.LessEqual = Some Le
operator_of p.GreaterEqual = Some Ge
operator_of p.Equal = Some Eq
operator_of p.NotEqual = Some Ne
operator_of op = None

abbrev pub is_and : PunctKind → Bool
is_and p.AndAnd = true
is_and op = false

-- the operator of a compound assignment; the other assignment is `=`
abbrev pub compound_operator : PunctKind → Option BinOp
compound_operator p.StarAssign = Some Mul
compound_operator p.SlashAssign = Some Div
compound_operator p.PercentAssign = Some Rem
compound_operator p.PlusAssign = Some Add
compound_operator p.MinusAssign = Some Sub
compound_operator p.ShiftLeftAssign = Some Shl
compound_operator p.ShiftRightAssign = Some Shr
compound_operator p.AmpersandAssign = Some And
compound_operator p.CaretAssign = Some Xor
compound_operator p.BarAssign = Some Or
compound_operator op = None

abbrev pub prefix_operator : PunctKind → PrefixOp
prefix_operator p.Ampersand = Address
prefix_operator p.Star = Deref
prefix_operator p.Plus = Plus
prefix_operator p.Minus = Minus
prefix_operator p.Tilde = Invert
prefix_operator op = Not

-- `++`, and not `--`
abbrev pub is_up : PunctKind → Bool
is_up p.Increment = true
is_up op = false

-- `->`, and not `.`
abbrev pub is_arrow : PunctKind → Bool
is_arrow p.Arrow = true
is_arrow op = false

-- ---- binary operators

abbrev pub joined_by : Modes → PunctKind → Option BinOp → Option Operand → Option Operand → Option Operand
joined_by m op (Some o) x y = operated m o x y
joined_by m op None x y = logical m (is_and op) (condition m x) (condition m y)

-- what a binary operator makes of its operands
abbrev pub joined : Modes → PunctKind → Option Operand → Option Operand → Option Operand
joined m op x y = joined_by m op (operator_of op) x y

abbrev pub join_by : Option BinOp → Option Operand → Option Operand → ℕ → Site
join_by (Some o) x y at = on (an_operation o x y at)
join_by None x y at = on (a_logical x y at)

abbrev pub a_join : PunctKind → Option Operand → Option Operand → ℕ → Site
a_join op x y at = join_by (operator_of op) x y at

-- ---- assignments

abbrev pub stored_by : Modes → Option BinOp → Option Operand → Option Operand → Option Operand
stored_by m (Some o) x y = with_both x y (compounded m o)
stored_by m None x y = with_both x y (assigned m)

-- what an assignment makes of its operands
abbrev pub stored : Modes → PunctKind → Option Operand → Option Operand → Option Operand
stored m op x y = stored_by m (compound_operator op) x y

abbrev pub storing_by : Option BinOp → Option Operand → Option Operand → ℕ → Site
storing_by (Some o) x y at = on (a_compound o x y at)
storing_by None x y at = on (an_assignment x y at)

abbrev pub a_storing : PunctKind → Option Operand → Option Operand → ℕ → Site
a_storing op x y at = storing_by (compound_operator op) x y at
