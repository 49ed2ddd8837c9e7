-- What the machine does where a judgement finds no undefined point.
use Rattle.std.specs.Prelude.{ℕ, ◌≡◌, ◌+◌, ◌≤◌, ⊤, List}
use Rattle.ec_avr.specs.declared.machine.Access.{Access}
use Rattle.ec_avr.specs.Machine.{State, Inputs, Running, EndedWith, machine, IsReset}
use Rattle.ec_core.specs.declared.values.Value.{Value}
use Rattle.ec_core.specs.Meaning.{number_of, run, work}
use Rattle.ec_core.specs.Plain.{plain_program}
use Rattle.ec_core.specs.PortTable.{plain_table}
use Rattle.ec_core.specs.State.{Outcome, got, more, undefined}
use Rattle.ec_core.specs.ValueTypes.{GiveBytes}
use Rattle.ec_emu.specs.Lines.{port_lines}
use Rattle.ec_build_laws.specs.Runs.{start_steps}
use Rattle.ec_build.specs.Builds.{IsBuilt}
use Rattle.ec_build.specs.declared.building.Built.{Built}
use Rattle.ec_judge_runs.specs.Judged.{event_lines}

module _ (b : Built) (inputs : Inputs) (turns : ℕ) (s : State) where
  -- the steps before main, and the work of the run
  abbrev pub most_steps : ℕ
  most_steps = start_steps (plain_program b.program) + work (plain_program b.program) (plain_table b.map.io) inputs turns

  -- In at most so many steps the machine comes to where the run came: to its end, with the same result; or on, after at
  -- least as many steps as a loop had turns. Its accesses of ports print the same lines
  abbrev pub ComesAlike : Outcome Value → Type 0
  ComesAlike (got x t) =
      (k : ℕ) × (trace : List Access) × (k ≤ most_steps) × (machine k inputs s ≡ EndedWith trace (number_of x))
      × (port_lines trace ≡ event_lines t.events)
  ComesAlike (more t) =
      (k : ℕ) × (trace : List Access) × (u : State) × (k ≤ most_steps) × (turns ≤ k)
      × (machine k inputs s ≡ Running trace u) × (port_lines trace ≡ event_lines t.events)
  ComesAlike (undefined point t) = ⊤

-- so it is of each build, from every reset state of its image, whatever bytes the ports give
abbrev pub JudgedRunsAreTheMachines : Type 0
JudgedRunsAreTheMachines =
    (sources : List (List ℕ)) (text : List ℕ) (b : Built) (inputs : Inputs) (turns : ℕ) (s : State)
    → IsBuilt sources text b → IsReset b.located.image.core b.located.image.bytes.items s → GiveBytes inputs
    → ComesAlike b inputs turns s (run (plain_program b.program) (plain_table b.map.io) inputs turns)
