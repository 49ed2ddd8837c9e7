use Rattle.std.proofs.Common.{◌≡◌, ◌≤◌, ◌+◌, drop, map}
use Rattle.ec_core.specs.State.{reads_of}
use Rattle.ec_interp.specs.Views.{seen_event}
use Rattle.ec_interp.proofs.events.reads_of.Given as goal

abbrev pub invariant-loop-event : goal.invariant-loop-event
invariant-loop-event l = record {
  count : l.reads + reads_of l.port (map seen_event (drop l.event-index l.events)) ≡ reads_of l.port (map seen_event l.events);
  most : l.reads ≤ l.event-index;
}
