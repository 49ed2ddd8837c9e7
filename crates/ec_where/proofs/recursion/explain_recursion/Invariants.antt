use Rattle.ec_where.specs.Located.{SameFiles}
use Rattle.ec_where.proofs.recursion.explain_recursion.Given as goal

abbrev pub invariant-loop-file : goal.invariant-loop-file
invariant-loop-file g l = SameFiles (g.S.Store.disk l.fn.store) (g.S.Store.disk l.store)
