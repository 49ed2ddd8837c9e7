use Rattle.std.proofs.Common.{◌≡◌, map, take}
use Rattle.toml.specs.View.{view}
use Rattle.ec_map.specs.Maps.{port_view, port_of}
use Rattle.ec_map.proofs.map.ports_from.Given as goal

abbrev pub invariant-loop-port : goal.invariant-loop-port
invariant-loop-port l =
    map port_view l.made.items ≡ map (λ v. port_of (map view l.groups) (map view l.dynamics) (view v)) (take l.port-index l.ports)
