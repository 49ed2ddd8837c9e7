use Rattle.std.proofs.Common.{◌≡◌, ℕ, List, ◌++◌, drop}
use Rattle.ec_core.specs.Needs.{stmts_calls}
use Rattle.ec_core.specs.Plain.{plain_stmts}
use Rattle.ec_check_recursion.proofs.calls.+statements.Given as goal

-- what is appended, with the calls of the statements that are left, is the calls of all
abbrev pub invariant-in_stmts-loop-stmt : goal.invariant-in_stmts-loop-stmt
invariant-in_stmts-loop-stmt l =
    (rest : List ℕ) → l.out.items ++ stmts_calls (plain_stmts (drop l.stmt-index l.stmts)) rest
    ≡ l.fn.out.items ++ stmts_calls (plain_stmts l.stmts) rest
