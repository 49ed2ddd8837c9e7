-- What is noted of the machine's run, in the words for every run.
use Rattle.std.specs.Prelude.{ℕ, ℤ}
use Rattle.ec_runs.specs.Behaviours.{Behaviour, seen_as}
use Rattle.ec_avr.specs.declared.machine.Access.{Access}
use Rattle.ec_avr.specs.Machine.{State, Inputs, machine}
use Rattle.ec_avr.specs.Runs.{MachineFault, behaviour_of}
use Rattle.ec_asm.specs.Change.{Env}
use Rattle.ec_asm.specs.Shows.{noted_all}

-- what is noted of the machine's run after a number of steps: the accesses of ports and of objects, and the result
abbrev pub noted_run : Env → Inputs → State → ℕ → Behaviour Access ℤ MachineFault
noted_run e inputs s = λ m. seen_as (noted_all e) (behaviour_of (machine m inputs s))
