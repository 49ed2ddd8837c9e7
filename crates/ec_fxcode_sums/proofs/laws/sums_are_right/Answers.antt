use Rattle.ec_fxcode_sums.proofs.Known.{Base, SumParts}
use Rattle.ec_fxcode_sums.proofs.Summed.{sums_are_right}
use Rattle.ec_fxcode_sums.proofs.laws.sums_are_right.Goals as goal

pub returns : goal.returns
returns c =
    let base : Base = record {
      parts = c.parts_stand.ensures;
      goes = c.straight_code_goes.ensures.goes;
      joins = c.runs_join.ensures.goes;
      below = c.numbers_are_their_bytes.ensures.below;
      same = c.numbers_are_their_bytes.ensures.same;
    } in
    let known : SumParts = record {
      scales = c.scales_are_right.ensures;
      cuts = c.cuts_are_right.ensures;
      clamps = c.clamps_are_right.ensures;
      sums = c.operators_are_right.ensures.sum;
      differences = c.operators_are_right.ensures.difference;
      straight = c.pieces_are_straight.ensures.straight;
      steps = c.pieces_are_straight.ensures.steps;
    } in
    sums_are_right base known
