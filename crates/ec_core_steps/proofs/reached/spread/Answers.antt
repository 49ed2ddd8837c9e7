use Rattle.std.proofs.Common.{length}
use Rattle.ec_check_recursion.specs.Rows.{plain_rows}
use Rattle.ec_core_steps.proofs.Marks.{none_spread, spread_joined, spread_of_all}
use Rattle.ec_core_steps.proofs.reached.spread.Goals as goal

pub loop-function-init : goal.loop-function-init
loop-function-init c = none_spread (plain_rows c.args.rows.now) c.args.marks.now

pub loop-function-preserved : goal.loop-function-preserved
loop-function-preserved c =
    spread_joined (plain_rows c.args.rows.now) c.loop-function.function c.args.marks.now c.loop-function.marks
    c.spread_from-more.new.marks c.loop-function.grown c.spread_from-more.result c.either-grown.result c.loop-function.invariant
    (rw c.row_at.ensures at c.spread_from-more.ensures) c.either-grown.ensures

pub returns : goal.returns
returns c =
    spread_of_all (plain_rows c.args.rows.now) (length c.args.rows.now) c.loop-function.function c.args.marks.now
    c.loop-function.marks c.loop-function.grown c.loop-function-test.false c.loop-function.invariant
