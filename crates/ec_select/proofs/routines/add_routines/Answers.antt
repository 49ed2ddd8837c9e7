use Rattle.ec_select.specs.Seen.{plain_row, row_operation, HasRoutine}
use Rattle.ec_select.proofs.Lists.{drop_front}
use Rattle.ec_select.proofs.Rows.{all_read, one_routine_more}
use Rattle.ec_select.proofs.routines.add_routines.Goals as goal

pub add_routine-requires : goal.add_routine-requires
add_routine-requires c =
    all_read row_operation HasRoutine c.args.rows.now c.loop-k.k c.index-rows-k.result c.requires.each c.loop-k-test.true
    c.index-rows-k.is

pub loop-k-preserved : goal.loop-k-preserved
loop-k-preserved c =
    one_routine_more c.args.first c.loop-k.k (plain_row c.index-rows-k.result) _ _ _ _ _
    (drop_front plain_row c.args.rows.now c.loop-k.k c.index-rows-k.result c.loop-k-test.true c.index-rows-k.is)
    c.in_ok-add_routine.ensures c.loop-k.invariant
