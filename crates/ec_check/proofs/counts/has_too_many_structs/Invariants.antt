use Rattle.std.proofs.Common.{◌≡◌, ◌-◌, drop, map}
use Rattle.ec_grammar.specs.Views.{view_tree}
use Rattle.ec_check.specs.Laws.{structs_defined}
use Rattle.ec_check.proofs.counts.has_too_many_structs.Given as goal

abbrev pub invariant-loop-unit : goal.invariant-loop-unit
invariant-loop-unit l = l.rest - structs_defined (map view_tree (drop l.unit-index l.units))
    ≡ 4_294_967_297 - structs_defined (map view_tree l.units)
