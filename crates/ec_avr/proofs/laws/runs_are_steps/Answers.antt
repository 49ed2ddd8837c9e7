use Rattle.ec_avr.proofs.Runs.{machine_is_steps, machine_is_many, machine_is_run}
use Rattle.ec_avr.proofs.laws.runs_are_steps.Goals as goal

pub returns : goal.returns
returns c = record { steps = machine_is_steps; many = machine_is_many; run = machine_is_run }
