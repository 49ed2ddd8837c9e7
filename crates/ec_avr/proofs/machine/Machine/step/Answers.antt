use Rattle.std.proofs.Common.{Some}
use Rattle.ec_avr.proofs.Keeps.{keeps}
use Rattle.ec_avr.proofs.Stays.{stays}
use Rattle.ec_avr.proofs.machine.Machine.step.Goals as goal

pub returns-in-Some-clause-stays : goal.returns-in-Some-clause-stays
returns-in-Some-clause-stays c =
    rw (c.perform.ensures.stepped, c.perform.ensures.state)
    (stays (Some c.in-Some.instruction) c.byte.result c.args.self.now)

pub returns-in-Some-clause-keeps : goal.returns-in-Some-clause-keeps
returns-in-Some-clause-keeps c =
    rw c.perform.ensures.state
    (keeps c.in-Some.instruction c.in-Some.ensures.in_table c.byte.result c.args.self.now)
