use Rattle.std.proofs.Common.{◌≡◌, ◌-◌, drop, map}
use Rattle.ec_grammar.specs.Views.{view_external}
use Rattle.ec_check_trees.specs.Counts.{functions_in_externals}
use Rattle.ec_check_trees.proofs.counts.less_all_defined.Given as goal

abbrev pub invariant-loop-external : goal.invariant-loop-external
invariant-loop-external l = l.rest - functions_in_externals (map view_external (drop l.external-index l.externals))
    ≡ l.left - functions_in_externals (map view_external l.externals)
