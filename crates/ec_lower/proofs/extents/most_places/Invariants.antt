use Rattle.std.proofs.Common.{◌≡◌, drop}
use Rattle.std.specs.Prelude.{max}
use Rattle.ec_core.specs.Needs.{most, exprs_needs}
use Rattle.ec_core.specs.Plain.{plain_exprs}
use Rattle.ec_lower.proofs.extents.most_places.Given as goal

abbrev pub invariant-loop-e : goal.invariant-loop-e
invariant-loop-e l = max l.most (most (exprs_needs (plain_exprs (drop l.e-index l.es)))) ≡ most (exprs_needs (plain_exprs l.es))
