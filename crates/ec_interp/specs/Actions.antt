-- The interpreter's actions on ports, and its ports, as those of the meaning.
use Rattle.std.specs.Prelude.{None}
use Rattle.ec_core.specs.PortOperations.{PortAction, reads, writes, updates}
use Rattle.ec_core.specs.PortTable.{PlainPort}
use Rattle.ec_interp.specs.declared.ports.Action.{Action}
use Rattle.ec_interp.specs.declared.ports.Action.TheVariants.{Reads, Writes, Updates}
use Rattle.ec_interp.specs.declared.ports.Standing.{Standing}

abbrev pub seen_action : Action → PortAction
seen_action Reads = reads
seen_action Writes = writes
seen_action Updates = updates

-- a port as it stands, which has no dynamic group any more
abbrev pub seen_port : Standing → PlainPort
seen_port x = record { address = x.address; width = x.width; count = x.count; group = x.group; dynamic = None }
