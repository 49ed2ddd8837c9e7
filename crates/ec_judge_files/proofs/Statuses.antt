-- How a judgement that was made stops.
use Rattle.std.proofs.Common.{◌≡◌, ◌≤◌, ℕ, List, Some, refl, inl, inr, ◌⊎◌}
use Rattle.ec_io.specs.Causes.{Rose}
use Rattle.ec_io.specs.Views.{SinkCall}
use Rattle.ec_iohw.specs.declared.table.IoTable.{IoTable}
use Rattle.ec_core.specs.declared.programs.Program.{Program}
use Rattle.ec_emu.specs.Script.{Entry}
use Rattle.ec_judge_runs.specs.declared.stop.RunStop.{RunStop}
use Rattle.ec_judge_runs.specs.declared.stop.RunStop.TheVariants.{NoMemory, CannotWrite, Hooked, TurnsOut, Undefined}
use Rattle.ec_judge_runs.specs.Judged.{Judges}
use Rattle.ec_judge_files.specs.Judgements.{IsJudgedStatus}
use Rattle.ec_judge_files.specs.Stops.{run_status}

-- where no write failed
pub judged_status : (program : Program) (io : IoTable) (entries : List Entry) (turns : ℕ) (out : SinkCall) (stop : RunStop)
    → ¬ (Rose out.faults_before out.faults_after) → Judges program io entries turns out (Some stop) → IsJudgedStatus (run_status stop)
judged_status program io entries turns out NoMemory calm h = inl refl
judged_status program io entries turns out CannotWrite calm h = absurd (calm h.1.0)
judged_status program io entries turns out (Hooked port) calm h = inr (inl refl)
judged_status program io entries turns out TurnsOut calm h = inr (inr (inl refl))
judged_status program io entries turns out (Undefined unit at point) calm h = inr (inr (inr refl))
