use Rattle.std.proofs.Common.{◌≡◌, ◌++◌, drop, map}
use Rattle.ec_interp.specs.Views.{seen_event}
use Rattle.ec_judge_runs.specs.Judged.{event_lines}
use Rattle.ec_judge_runs.proofs.printing.lines_of.Given as goal

abbrev pub invariant-loop-event : goal.invariant-loop-event
invariant-loop-event l =
    l.text.items ++ event_lines (map seen_event (drop l.event-index l.events)) ≡ event_lines (map seen_event l.events)
