use Rattle.std.proofs.Common.{◌≡◌, ◌-◌, drop, map}
use Rattle.ec_grammar.specs.Views.{view_tree}
use Rattle.ec_check_trees.specs.Counts.{functions_defined}
use Rattle.ec_check_trees.proofs.counts.has_too_many_functions.Given as goal

abbrev pub invariant-loop-unit : goal.invariant-loop-unit
invariant-loop-unit l = l.rest - functions_defined (map view_tree (drop l.unit-index l.units))
    ≡ 257 - functions_defined (map view_tree l.units)
