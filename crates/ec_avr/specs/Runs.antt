-- Runs of the machine in parts, and as runs of a step function.
use Rattle.std.specs.Prelude.{ℕ, ◌+◌, ◌≡◌, ◌==◌, if◌then◌else◌, ℤ, List, [], ◌∷◌, ◌++◌, length, drop}
use Rattle.ec_runs.specs.Behaviours.{Behaviour, Running as GoesOn, Ended as Ends, Failed, Stepped as SteppedOf, On, End}
use Rattle.ec_runs.specs.Behaviours.{Fail}
use Rattle.ec_avr.specs.declared.machine.Access.{Access}
use Rattle.ec_avr.specs.declared.machine.Access.TheVariants.{In}
use Rattle.ec_avr.specs.declared.machine.FaultKind.{FaultKind}
use Rattle.ec_avr.specs.declared.machine.Stepped.{Stepped}
use Rattle.ec_avr.specs.declared.machine.Stepped.TheVariants.{Ran, Ended, Fault}
use Rattle.ec_avr.specs.Machine.{State, Inputs, Run, Running, EndedWith, FaultedAt, step, needs_port, answer_of}
use Rattle.ec_avr.specs.Machine.{inputs_after, preceded, machine, machine_result}
use Rattle.ec_avr.specs.Inputs.{reads_of}

-- ---- what the ports give in a run

-- the bytes that some accesses read from a port, in order
abbrev pub answers : List Access → Inputs
answers [] port = []
answers (In p byte ∷ trace) port = if p == port then byte ∷ answers trace port else answers trace port
answers (_ ∷ trace) port = answers trace port

-- the ports give these bytes, and then more
abbrev pub and_then : Inputs → Inputs → Inputs
and_then first more = λ port. first port ++ more port

-- what the ports are still going to give after some accesses
abbrev pub left_after : List Access → Inputs → Inputs
left_after trace inputs = λ port. drop (reads_of port trace) (inputs port)

-- ---- one run after another

-- a run with accesses before it
abbrev pub preceded_by : List Access → Run → Run
preceded_by [] run = run
preceded_by (a ∷ trace) run = preceded a (preceded_by trace run)

-- a run and, where it goes on, what comes after it
abbrev pub and_on : (List Access → State → Run) → Run → Run
and_on rest (Running trace s) = preceded_by trace (rest trace s)
and_on rest (EndedWith trace result) = EndedWith trace result
and_on rest (FaultedAt trace kind pc) = FaultedAt trace kind pc

-- The steps with these accesses, one each, lead from one state to another, where the ports give the bytes that they
-- read. From there the run goes on with what the ports give after those
abbrev pub LeadsTo : State → List Access → State → Type 0
LeadsTo old trace new =
    (m : ℕ) (more : Inputs)
    → machine (length trace + m) (and_then (answers trace) more) old ≡ preceded_by trace (machine m more new)

-- ---- as a run of a step function

-- the machine with what its ports are going to give
pub record Fed : Type 0 where
  pub inputs : Inputs
  pub state : State

-- why a run failed, and at which program counter
pub record MachineFault : Type 0 where
  pub kind : FaultKind
  pub pc : ℕ

abbrev pub fed : Inputs → State → Fed
fed inputs s = record { inputs = inputs; state = s }

-- what a step did, with the inputs that are left
abbrev pub fed_after : Inputs → Stepped → State → SteppedOf Fed Access ℤ MachineFault
fed_after inputs (Ran a) s = On (a ∷ []) (fed inputs s)
fed_after inputs Ended s = End [] (machine_result s)
fed_after inputs (Fault kind pc) s = Fail (record { kind = kind; pc = pc })

-- a step of the machine on what its ports give
abbrev pub fed_step : Fed → SteppedOf Fed Access ℤ MachineFault
fed_step f =
    let port = needs_port f.state in
    let next = step (answer_of f.inputs port) f.state in
    fed_after (inputs_after f.inputs port) next.stepped next.state

-- what is seen of a run
abbrev pub behaviour_of : Run → Behaviour Access ℤ MachineFault
behaviour_of (Running trace s) = GoesOn trace
behaviour_of (EndedWith trace result) = Ends trace result
behaviour_of (FaultedAt trace kind pc) = Failed (record { kind = kind; pc = pc })

-- a run as several steps in one, with the state after them and the inputs that are left
abbrev pub steps_of : Inputs → Run → SteppedOf Fed Access ℤ MachineFault
steps_of inputs (Running trace s) = On trace (fed (left_after trace inputs) s)
steps_of inputs (EndedWith trace result) = End trace result
steps_of inputs (FaultedAt trace kind pc) = Fail (record { kind = kind; pc = pc })
