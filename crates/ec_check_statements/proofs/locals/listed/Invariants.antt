use Rattle.std.proofs.Common.{◌≡◌, ◌++◌}
use Rattle.std.specs.Vec.Iter.{into_iter_items}
use Rattle.ec_check_statements.proofs.locals.listed.Given as goal

abbrev pub invariant-loop-e : goal.invariant-loop-e
invariant-loop-e g l = (l.all.items ≡ l.yielded) × (l.fn.es.items ≡ l.yielded ++ into_iter_items l.e-iterator)
