use Rattle.std.proofs.Common.{◌≡◌, ◌++◌, drop}
use Rattle.ec_check_initialisers.proofs.statics.listed.Given as goal

abbrev pub invariant-loop-e : goal.invariant-loop-e
invariant-loop-e l = l.all.items ++ drop l.e-index l.es ≡ l.es
