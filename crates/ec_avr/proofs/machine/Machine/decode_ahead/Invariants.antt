use Rattle.std.proofs.Common.{◌≡◌}
use Rattle.ec_avr.proofs.machine.Machine.decode_ahead.Given as goal

abbrev pub invariant-loop-word : goal.invariant-loop-word
invariant-loop-word l = l.self ≡ l.initial.self
