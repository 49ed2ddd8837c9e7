-- The law of the test.
use Rattle.std.specs.Prelude.{ℕ, ◌≡◌}
use Rattle.ec_iohw.specs.declared.table.IoTable.{IoTable}
use Rattle.ec_core.specs.Expressions.{Calls, value_of}
use Rattle.ec_core.specs.Operators.{as_number}
use Rattle.ec_core.specs.Plain.{PlainExpr, PlainProgram}
use Rattle.ec_core.specs.State.{Setting, State, worked, given}
use Rattle.ec_core.specs.Valid.{ValidExpr}
use Rattle.ec_check_constants.specs.Constants.{HasConstantForm, IsConstant, constant}
use Rattle.std.specs.Prelude.{IsTrue}
use Rattle.ec_check_constants.specs.Tests.{is_constant}

-- a run gives the value of a constant expression, or meets the same undefined point, and only takes up work
abbrev pub RunsGiveConstants : Type 0
RunsGiveConstants =
    (w : Setting) (calls : Calls) (e : PlainExpr) (s : State) → IsConstant e
    → (words : ℕ) × (value_of w calls e s ≡ given (as_number (constant e)) (worked words s))

-- of the expressions of a valid program those with the form of a constant are constant
abbrev pub ValidFormsAreConstant : Type 0
ValidFormsAreConstant =
    (p : PlainProgram) (table : IoTable) (f : ℕ) (e : PlainExpr) → ValidExpr p table f e → HasConstantForm e
    → IsConstant e

-- the test tells exactly the constant expressions
pub record TestsTellConstants : Type 0 where
  pub sound : (e : PlainExpr) → IsTrue (is_constant e) → IsConstant e
  pub complete : (e : PlainExpr) → IsConstant e → IsTrue (is_constant e)
