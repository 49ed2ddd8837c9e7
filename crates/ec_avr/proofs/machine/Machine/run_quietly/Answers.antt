use Rattle.ec_avr.proofs.Quiet.{one_more}
use Rattle.ec_avr.proofs.machine.Machine.run_quietly.Goals as goal

pub loop-made-preserved : goal.loop-made-preserved
loop-made-preserved c =
    one_more c.loop-made.made c.args.self.now c.loop-made.self c.step_quietly.new.self c.step_quietly.result c.loop-made.invariant
    c.step_quietly.ensures.made c.step_quietly.ensures.state c.if-not-step_quietly.false
