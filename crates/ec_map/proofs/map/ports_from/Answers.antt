use Rattle.std.proofs.Common.{map, arith}
use Rattle.toml.specs.View.{view}
use Rattle.ec_map.specs.Maps.{port_view, port_of}
use Rattle.ec_map.proofs.Made.{made_all}
use Rattle.ec_map.proofs.map.ports_from.Goals as goal

pub returns : goal.returns
returns c =
    made_all port_view (port_of (map view c.args.groups.now) (map view c.args.dynamics.now)) view c.loop-port.made.items c.args.ports.now
    c.loop-port.port-index c.loop-port.invariant (omega arith)
