-- Parts of statements that functions of the interpreter stand for.
use Rattle.std.specs.Prelude.{ℕ, Option, Some, None}
use Rattle.ec_core.specs.Expressions.{Calls}
use Rattle.ec_core.specs.Plain.{PlainExpr, PlainStmt, statement, block, PlainStmts, a_stmt}
use Rattle.ec_core.specs.State.{Setting, State, Outcome, next}
use Rattle.ec_core.specs.Statements.{Exit, in_order, tested, turns, test_of, going_on, effect_of, first_effect}

-- the statements of a block
abbrev pub block_items : PlainStmt → Option PlainStmts
block_items (statement unit at (block ss)) = Some ss
block_items a = None

-- the first part of a `for`, and where it is left at its end, the loop
abbrev pub loop_after_first : Setting → Calls → ℕ → PlainStmt → Option PlainExpr → Option PlainExpr → PlainStmt → State
    → Outcome Exit
loop_after_first w calls n first c last body s =
    next (first_effect w calls n (a_stmt first) s)
    (λ x s1. in_order x s1 (λ s2. tested (test_of w calls c s2)
    (λ s3. turns n (λ s4. effect_of w calls n body s4) (λ s4. going_on w calls last c s4) s3)))
