use Rattle.std.proofs.Common.{sym, ◌∙◌}
use Rattle.ec_avr.proofs.PortRead.{port_read-step}
use Rattle.ec_avr.proofs.machine.Machine.needs_port.Goals as goal

pub returns-clause-exact : goal.returns-clause-exact
returns-clause-exact c = λ answer. port_read-step answer c.args.self.now ∙ sym c.next_port.ensures
