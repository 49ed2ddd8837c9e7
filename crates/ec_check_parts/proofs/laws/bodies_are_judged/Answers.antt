use Rattle.ec_check_parts.proofs.Standing.{bodies_are_judged}
use Rattle.ec_check_parts.proofs.laws.bodies_are_judged.Goals as goal

pub returns : goal.returns
returns c =
    bodies_are_judged
    (record {
      initialisers = c.initialisers_are_judged.ensures;
      blocks = c.blocks_are_judged.ensures;
      statements = c.statements_are_judged.ensures;
      ends = c.blocks_end.ensures;
    })
