use Rattle.ec_core.specs.Plain.{plain_program}
use Rattle.ec_core.specs.PortTable.{plain_table}
use Rattle.ec_core_steps.proofs.Rounds.{one_round}
use Rattle.ec_core_steps.proofs.bounds.costs_within.Goals as goal

pub loop-round-preserved : goal.loop-round-preserved
loop-round-preserved c =
    one_round (plain_table c.args.io.now) (plain_program c.args.program.now) c.loop-round._round c.loop-round.costs.items _
    c.loop-round.invariant (rw c.as_slice.ensures at c.in_ok-costs.ensures)
