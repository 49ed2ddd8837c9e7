use Rattle.std.proofs.Common.{◌≡◌, map, take}
use Rattle.toml.specs.View.{view}
use Rattle.ec_map.specs.Maps.{group_view, port_group_of}
use Rattle.ec_map.proofs.map.groups_from.Given as goal

abbrev pub invariant-loop-group : goal.invariant-loop-group
invariant-loop-group l = map group_view l.made.items ≡ map (λ v. port_group_of (view v)) (take l.group-index l.groups)
