use Rattle.std.proofs.Common.{◌≡◌, map, length}
use Rattle.toml.specs.View.{view}
use Rattle.ec_map.specs.Rules.{stand_once}
use Rattle.ec_map.proofs.dynamics.stand_once.Given as goal

-- no group and no base stands twice where none does among those that are left
abbrev pub invariant-choices : goal.invariant-choices
invariant-choices l =
    stand_once (map view l.groups) (map view l.choices) ≡ stand_once (map view l.groups) (map view l.rest)

abbrev pub decreases-choices : goal.decreases-choices
decreases-choices l = length l.rest
