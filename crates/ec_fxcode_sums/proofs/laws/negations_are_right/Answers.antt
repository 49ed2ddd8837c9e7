use Rattle.ec_fxcode_sums.proofs.Known.{Base, NegationParts}
use Rattle.ec_fxcode_sums.proofs.Negated.{negations_are_right}
use Rattle.ec_fxcode_sums.proofs.laws.negations_are_right.Goals as goal

pub returns : goal.returns
returns c =
    let base : Base = record {
      parts = c.parts_stand.ensures;
      goes = c.straight_code_goes.ensures.goes;
      joins = c.runs_join.ensures.goes;
      below = c.numbers_are_their_bytes.ensures.below;
      same = c.numbers_are_their_bytes.ensures.same;
    } in
    let known : NegationParts = record {
      scales = c.scales_are_right.ensures;
      clamps = c.clamps_are_right.ensures;
      negations = c.complements_are_right.ensures.negation;
      straight = c.complements_are_straight.ensures.straight;
      steps = c.complements_are_straight.ensures.steps;
    } in
    negations_are_right base known
