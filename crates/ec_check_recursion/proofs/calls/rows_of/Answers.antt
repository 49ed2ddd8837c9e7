use Rattle.ec_check_recursion.proofs.Callers.{all_rows}
use Rattle.ec_check_recursion.proofs.calls.rows_of.Goals as goal

pub returns : goal.returns
returns c =
    all_rows c.args.program.now.funcs.items c.loop-func.func-index _
    (rw c.as_slice-func-items.ensures at c.loop-func-test.false) c.loop-func.invariant
