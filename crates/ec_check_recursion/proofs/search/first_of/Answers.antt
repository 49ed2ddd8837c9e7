use Rattle.ec_check_recursion.proofs.Marks.{nowhere}
use Rattle.ec_check_recursion.proofs.search.first_of.Goals as goal

pub returns-clause-none : goal.returns-clause-none
returns-clause-none c = nowhere c.args.rows.now c.loop-function.function c.loop-function-test.false c.loop-function.invariant
