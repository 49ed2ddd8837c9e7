use Rattle.ec_avr.specs.Quiet.{RunsQuietly}
use Rattle.ec_avr.proofs.machine.Machine.run_quietly.Given as goal

abbrev pub invariant-loop-made : goal.invariant-loop-made
invariant-loop-made l = RunsQuietly l.made l.fn.self l.self
