-- What the program does at its words.
use Rattle.std.specs.Prelude.{ℕ, ◌≡◌, ◌≤◌, ◌⊎◌, List, Option, Some, None}
use Rattle.ec_io.specs.Causes.{Rose}
use Rattle.ec_io.specs.Views.{StoreView, SinkCall}
use Rattle.ec_commands.specs.Answers.{Answers}
use Rattle.ec_commands.specs.Shown.{KeepsAll}
use Rattle.ec_commands.specs.Words.{Words, words_from}
use Rattle.ec_commands.specs.declared.words.Command.{Command}
use Rattle.ec_commands.specs.declared.words.Command.TheVariants.{Exec}
use Rattle.ec_commands.specs.declared.stop.CommandError.TheVariants.{Usage}
use Rattle.ec_commands_compile.specs.Execs.{AcceptsExec}
use Rattle.ec_commands_compile.specs.Inputs.{exec_inputs}
use Rattle.ec_commands_compile.specs.declared.stop.CompileStop.TheVariants.{Command as CommandStop}
use Rattle.ec_judge_files.specs.Judgements.{Judged, JudgeStops, FitsJudged, IsJudgedStatus}
use Rattle.ec_judge_files.specs.Stops.{status_of, line_of}
use Rattle.ec_judge_files.specs.declared.stop.JudgeStop.TheVariants.{Compile}

-- TURNS of an exec's words; none of any other command, and where the words are none
abbrev pub turns_of : Command → Option ℕ
turns_of (Exec turns) = Some turns
turns_of _ = None

-- Each answer has its cause: the run of the program that was built was printed, or the stop is told. What is accepted
-- is judged unless memory runs out, where no call failed. Over a calm store and a calm `out` no call fails. No file is
-- changed
pub record Judges (words : Words) (turns : ℕ) (before after : StoreView) (out err : SinkCall)
    (store_calm : List (List ℕ) → List ℕ → ℕ → Type 0) (out_calm err_calm : ℕ → Type 0) (status : ℕ) : Type 0 where
  pub answered : Answers status_of (line_of words) err err_calm (Judged words turns before.disk out None)
      (JudgeStops words turns before after out) status
  pub complete : words_from words 4 ≤ 16 → AcceptsExec words 4 before.disk → ¬ (Rose before.read_faults after.read_faults)
      → ¬ (Rose out.faults_before out.faults_after) → (status ≡ 0) ⊎ IsJudgedStatus status
  pub store_unfailing : (made : List ℕ) (room : ℕ) → store_calm (exec_inputs words 4) made room
      → after.read_faults ≡ before.read_faults
  pub out_unfailing : (room : ℕ) → out_calm room → FitsJudged words turns before.disk room
      → out.faults_after ≡ out.faults_before
  pub kept : KeepsAll before.disk after.disk
  pub no_writes : after.write_faults ≡ before.write_faults

-- other words are told as such, and nothing else is done
pub record Refuses (words : Words) (before after : StoreView) (out err : SinkCall) (err_calm : ℕ → Type 0) (status : ℕ)
    : Type 0 where
  pub answered : Answers status_of (line_of words) err err_calm ⊥ (λ stop. stop ≡ Compile (CommandStop Usage)) status
  pub idle : after ≡ before
  pub silent : out.after ≡ out.before

abbrev pub Does : Option ℕ → Words → StoreView → StoreView → SinkCall → SinkCall → (List (List ℕ) → List ℕ → ℕ → Type 0)
    → (ℕ → Type 0) → (ℕ → Type 0) → ℕ → Type 0
Does (Some turns) words before after out err store_calm out_calm err_calm status =
    Judges words turns before after out err store_calm out_calm err_calm status
Does None words before after out err store_calm out_calm err_calm status =
    Refuses words before after out err err_calm status
