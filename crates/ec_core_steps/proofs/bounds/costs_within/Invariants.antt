use Rattle.std.proofs.Common.{◌≡◌}
use Rattle.ec_core.specs.Plain.{plain_program}
use Rattle.ec_core.specs.PortTable.{plain_table}
use Rattle.ec_core_steps.specs.Costs.{costs_within}
use Rattle.ec_core_steps.proofs.bounds.costs_within.Given as goal

abbrev pub invariant-loop-round : goal.invariant-loop-round
invariant-loop-round l = l.costs.items ≡ costs_within (plain_table l.io) (plain_program l.program) l._round
