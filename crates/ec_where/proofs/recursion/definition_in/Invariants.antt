use Rattle.std.proofs.Common.{◌≡◌, map, drop}
use Rattle.ec_grammar.specs.Views.{view_external}
use Rattle.ec_where.specs.Recursion.{definition_in}
use Rattle.ec_where.proofs.recursion.definition_in.Given as goal

abbrev pub invariant-loop-item : goal.invariant-loop-item
invariant-loop-item l = definition_in l.name (map view_external (drop l.item-index l.items))
    ≡ definition_in l.name (map view_external l.items)
