-- The laws of the meaning of operations.
use Rattle.std.specs.Prelude.{ℕ, ◌≤◌}
use Rattle.ec_runs.specs.Behaviours.{IsRun}
use Rattle.ec_core.specs.State.{Inputs}
use Rattle.ec_ir.specs.Meaning.{meaning, steps_of}
use Rattle.ec_ir.specs.Operations.{PlainIrProgram}

-- more operations only add to the events of a run, and leave one as it is that ended or failed
abbrev pub OperationsAreRuns : Type 0
OperationsAreRuns = (p : PlainIrProgram) (inputs : Inputs) → IsRun (meaning p inputs)

abbrev pub StepsNeverFall : Type 0
StepsNeverFall =
    (p : PlainIrProgram) (inputs : Inputs) (n k : ℕ) → n ≤ k → steps_of p inputs n ≤ steps_of p inputs k
