use Rattle.std.proofs.Common.{◌≡◌, map, take}
use Rattle.toml.specs.View.{view}
use Rattle.ec_map.specs.Maps.{dynamic_view, dynamic_group_of}
use Rattle.ec_map.proofs.map.dynamics_from.Given as goal

abbrev pub invariant-loop-dynamic : goal.invariant-loop-dynamic
invariant-loop-dynamic l =
    map dynamic_view l.made.items ≡ map (λ v. dynamic_group_of (map view l.groups) (view v)) (take l.dynamic-index l.dynamics)
