use Rattle.std.proofs.Common.{map}
use Rattle.ec_select.specs.Seen.{plain_use, HasRoutine}
use Rattle.ec_select.proofs.Lists.{drop_last}
use Rattle.ec_select.proofs.Rows.{all_last, used_more}
use Rattle.ec_select.proofs.sharing.rows_of.Goals as goal

pub add_row-requires-clause-is : goal.add_row-requires-clause-is
add_row-requires-clause-is c =
    all_last plain_use (λ u. HasRoutine u.operation) c.args.uses.now c.loop-k.k c.index-uses-k.result c.requires
    c.loop-k-test.true c.loop-k.auto.k c.index-uses-k.is

pub loop-k-preserved : goal.loop-k-preserved
loop-k-preserved c = record {
  rows = used_more (map plain_use c.args.uses.now) _ _ (plain_use c.index-uses-k.result) _
      (drop_last plain_use c.args.uses.now c.loop-k.k c.index-uses-k.result c.loop-k-test.true c.loop-k.auto.k c.index-uses-k.is)
      (c.in_ok-add_row.ensures.rows _ c.loop-k.invariant.rows);
  each = c.in_ok-add_row.ensures.each;
}
