use Rattle.std.proofs.Common.{◌≡◌, ◌-◌, drop, map}
use Rattle.ec_grammar.specs.Views.{view_external}
use Rattle.ec_check.specs.Laws.{structs_in_externals}
use Rattle.ec_check.proofs.counts.less_externals.Given as goal

abbrev pub invariant-loop-external : goal.invariant-loop-external
invariant-loop-external l = l.rest - structs_in_externals (map view_external (drop l.external-index l.externals))
    ≡ l.left - structs_in_externals (map view_external l.externals)
