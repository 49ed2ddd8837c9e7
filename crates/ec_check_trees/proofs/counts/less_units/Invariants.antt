use Rattle.std.proofs.Common.{◌≡◌, ◌-◌, drop, map}
use Rattle.ec_grammar.specs.Views.{view_tree}
use Rattle.ec_check_trees.specs.Counts.{objects_declared}
use Rattle.ec_check_trees.proofs.counts.less_units.Given as goal

abbrev pub invariant-loop-unit : goal.invariant-loop-unit
invariant-loop-unit l = l.rest - objects_declared (map view_tree (drop l.unit-index l.units))
    ≡ l.left - objects_declared (map view_tree l.units)
