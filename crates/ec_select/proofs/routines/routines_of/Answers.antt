use Rattle.std.specs.Prelude.{map}
use Rattle.ec_ir.specs.Operations.{plain_ir}
use Rattle.ec_select.specs.Seen.{plain_row}
use Rattle.ec_select.specs.Sharing.{routine_among}
use Rattle.ec_select.proofs.Lists.{drop_front}
use Rattle.ec_select.proofs.Rows.{mapped_more}
use Rattle.ec_select.proofs.routines.routines_of.Goals as goal

pub loop-i-preserved : goal.loop-i-preserved
loop-i-preserved c =
    mapped_more (routine_among c.args.first (map plain_row c.args.rows.now)) _ _ (plain_ir c.i-item.result) _ _ _ _
    (drop_front plain_ir c.args.code.now c.loop-i.i-index c.i-item.result c.loop-i-test.true c.i-item.is)
    c.routine_of.ensures c.in_ok-push.ensures.ok c.loop-i.invariant
