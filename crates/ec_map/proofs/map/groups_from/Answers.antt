use Rattle.std.proofs.Common.{arith}
use Rattle.toml.specs.View.{view}
use Rattle.ec_map.specs.Maps.{group_view, port_group_of}
use Rattle.ec_map.proofs.Made.{made_all}
use Rattle.ec_map.proofs.map.groups_from.Goals as goal

pub returns : goal.returns
returns c = made_all group_view port_group_of view c.loop-group.made.items c.args.groups.now c.loop-group.group-index c.loop-group.invariant
    (omega arith)
