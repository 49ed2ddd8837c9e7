use Rattle.std.proofs.Common.{map, arith}
use Rattle.toml.specs.View.{view}
use Rattle.ec_map.specs.Maps.{dynamic_view, dynamic_group_of}
use Rattle.ec_map.proofs.Made.{made_all}
use Rattle.ec_map.proofs.map.dynamics_from.Goals as goal

pub returns : goal.returns
returns c =
    made_all dynamic_view (dynamic_group_of (map view c.args.groups.now)) view c.loop-dynamic.made.items c.args.dynamics.now
    c.loop-dynamic.dynamic-index c.loop-dynamic.invariant (omega arith)
