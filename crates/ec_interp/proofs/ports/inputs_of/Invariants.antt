use Rattle.std.proofs.Common.{◌≡◌, drop}
use Rattle.ec_interp.specs.Views.{inputs_of}
use Rattle.ec_interp.proofs.ports.inputs_of.Given as goal

abbrev pub invariant-loop-input : goal.invariant-loop-input
invariant-loop-input l = inputs_of (drop l.input-index l.inputs) l.port ≡ inputs_of l.inputs l.port
