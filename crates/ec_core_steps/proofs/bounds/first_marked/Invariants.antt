use Rattle.ec_core.specs.Plain.{plain_program}
use Rattle.ec_core_steps.specs.Reached.{IsFirstOf}
use Rattle.ec_core_steps.proofs.bounds.first_marked.Given as goal

abbrev pub invariant-loop-place : goal.invariant-loop-place
invariant-loop-place l = IsFirstOf (plain_program l.program) l.marks l.place l.first
