use Rattle.ec_fxcode_sums.proofs.Known.{Base}
use Rattle.ec_fxcode_sums.proofs.Ordered.{orders_are_right}
use Rattle.ec_fxcode_sums.proofs.laws.orders_are_right.Goals as goal

pub returns : goal.returns
returns c =
    let base : Base = record {
      parts = c.parts_stand.ensures;
      goes = c.straight_code_goes.ensures.goes;
      joins = c.runs_join.ensures.goes;
      below = c.numbers_are_their_bytes.ensures.below;
      same = c.numbers_are_their_bytes.ensures.same;
    } in
    orders_are_right base c.scales_are_right.ensures c.relations_are_told.ensures
