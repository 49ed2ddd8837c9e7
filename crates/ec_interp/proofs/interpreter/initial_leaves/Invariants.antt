use Rattle.std.proofs.Common.{◌≡◌, ◌++◌, drop, map, Some}
use Rattle.ec_core.specs.Meaning.{initial_value}
use Rattle.ec_interp.proofs.interpreter.initial_leaves.Given as goal

abbrev pub invariant-loop-init : goal.invariant-loop-init
invariant-loop-init l = l.leaves.items ++ map (λ init. Some (initial_value init)) (drop l.init-index l.inits)
    ≡ map (λ init. Some (initial_value init)) l.inits
