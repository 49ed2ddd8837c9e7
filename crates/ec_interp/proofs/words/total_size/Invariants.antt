use Rattle.std.proofs.Common.{◌≡◌, ◌+◌, drop}
use Rattle.ec_core.specs.Plain.{plain_exprs}
use Rattle.ec_core.specs.Words.{total_size}
use Rattle.ec_interp.proofs.words.total_size.Given as goal

abbrev pub invariant-loop-e : goal.invariant-loop-e
invariant-loop-e l = l.bytes + total_size (plain_exprs (drop l.e-index l.es)) ≡ total_size (plain_exprs l.es)
