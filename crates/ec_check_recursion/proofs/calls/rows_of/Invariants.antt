use Rattle.std.proofs.Common.{◌≡◌, [], map, take}
use Rattle.ec_core.specs.Needs.{stmt_calls}
use Rattle.ec_core.specs.Plain.{plain_stmt}
use Rattle.ec_check_recursion.specs.Rows.{plain_rows}
use Rattle.ec_check_recursion.proofs.calls.rows_of.Given as goal

abbrev pub invariant-loop-func : goal.invariant-loop-func
invariant-loop-func l =
    plain_rows l.rows.items ≡ map (λ func. stmt_calls (plain_stmt func.body) []) (take l.func-index l.program.funcs.items)
