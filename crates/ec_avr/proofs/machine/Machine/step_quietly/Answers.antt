use Rattle.std.proofs.Common.{sym, ◌∙◌}
use Rattle.ec_avr.proofs.Quiet.{quiet_step, loud_step, made_or_kept}
use Rattle.ec_avr.proofs.machine.Machine.step_quietly.Goals as goal

pub returns-in-Some-clause-made : goal.returns-in-Some-clause-made
returns-in-Some-clause-made c =
    c.performs.ensures.ran ∙ sym (quiet_step c.args.self.now c.in-Some.instruction (sym c.in-Some.ensures.value)).1

pub returns-in-Some-clause-state : goal.returns-in-Some-clause-state
returns-in-Some-clause-state c =
    made_or_kept c.args.self.now c.performs.new.self c.in-Some.instruction c.performs.result (sym c.in-Some.ensures.value)
    c.performs.ensures.ran c.performs.ensures.state

pub returns-in-None-clause-made : goal.returns-in-None-clause-made
returns-in-None-clause-made c = sym (loud_step c.args.self.now (sym c.in-None.ensures.value))
