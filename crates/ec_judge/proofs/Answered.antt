-- What the program answers, in one statement.
use Rattle.std.proofs.Common.{◌≡◌, ℕ, List, Result, Ok, Err, subst, inl, inr}
use Rattle.std.specs.Prelude.{Option, OnOk, IfErr}
use Rattle.ec_io.specs.Views.{StoreView, SinkCall}
use Rattle.ec_commands.specs.Answers.{IsTold, Answers}
use Rattle.ec_commands.specs.Words.{Words}
use Rattle.ec_judge_files.specs.Stops.{status_of, line_of}
use Rattle.ec_judge_files.specs.declared.stop.JudgeStop.{JudgeStop}
use Rattle.ec_judge.specs.Checks.{Does}

pub does_at : (words : Words) (before after : StoreView) (out err : SinkCall) (store_calm : List (List ℕ) → List ℕ → ℕ → Type 0)
    (out_calm err_calm : ℕ → Type 0) (status : ℕ) (at of : Option ℕ) → at ≡ of
    → Does at words before after out err store_calm out_calm err_calm status
    → Does of words before after out err store_calm out_calm err_calm status
does_at words before after out err store_calm out_calm err_calm status at of same done =
    subst (λ turns. Does turns words before after out err store_calm out_calm err_calm status) same done

pub answered : (words : Words) (err : SinkCall) (calm : ℕ → Type 0) (done Q : Type 0) (stops : JudgeStop → Type 0)
    (r : Result Unit JudgeStop) (status : ℕ)
    → OnOk r ((status ≡ 0) × Q) → IfErr r (λ stop. IsTold (status_of stop) (line_of words stop) err calm status)
    → OnOk r done → IfErr r stops → Answers status_of (line_of words) err calm done stops status
answered words err calm done Q stops (Ok x) status zero told did why = inl (zero.0, did)
answered words err calm done Q stops (Err stop) status zero told did why = inr (stop, (told, why))
