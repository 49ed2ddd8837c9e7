use Rattle.std.proofs.Common.{◌≡◌, ℕ, List, ◌++◌, drop}
use Rattle.ec_core.specs.Needs.{exprs_calls}
use Rattle.ec_core.specs.Plain.{plain_exprs}
use Rattle.ec_check_recursion.proofs.calls.+calls.Given as goal

-- what is appended, with the calls of the expressions that are left, is the calls of all
abbrev pub invariant-in_exprs-loop-expr : goal.invariant-in_exprs-loop-expr
invariant-in_exprs-loop-expr l =
    (rest : List ℕ) → l.out.items ++ exprs_calls (plain_exprs (drop l.expr-index l.exprs)) rest
    ≡ l.fn.out.items ++ exprs_calls (plain_exprs l.exprs) rest
