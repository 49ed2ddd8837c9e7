-- What the commands answer, in one statement.
use Rattle.std.proofs.Common.{◌≡◌, ◌≤◌, ℕ, List, Result, Ok, Err, refl, sym, ◌∙◌, ap, subst, arith, inl, inr, ◌⊎◌}
use Rattle.std.specs.Prelude.{true, OnOk, IfErr, IsErrOf}
use Rattle.ec_io.specs.Views.{StoreView, SinkCall}
use Rattle.ec_emu_watch.specs.declared.compare.Compare.{Compare}
use Rattle.ec_commands.specs.Answers.{IsTold, Answers}
use Rattle.ec_commands.specs.Runs.{Gives}
use Rattle.ec_commands.specs.Words.{Words, is_build}
use Rattle.ec_commands.specs.declared.words.Command.{Command}
use Rattle.ec_commands.specs.declared.stop.CommandError.TheVariants as commands
use Rattle.ec_commands.specs.declared.stop.Limit.TheVariants as limits
use Rattle.ec_driver.specs.Commands.{Does}
use Rattle.ec_commands_compile.specs.Builds.{BuildStops}
use Rattle.ec_commands_compile.specs.Execs.{ExecStops}
use Rattle.ec_commands_compile.specs.Gens.{GenStops}
use Rattle.ec_commands_bound.proofs.Usage as bounding_stops
use Rattle.ec_commands_bound.specs.Stops as bounding
use Rattle.ec_commands_bound.specs.declared.stop.StepsStop.{StepsStop}
use Rattle.ec_commands_bound.specs.declared.stop.StepsStop.TheVariants.{Compile}
use Rattle.ec_commands_watch.proofs.Usage.{watch_no_usage as no_watch_usage}
use Rattle.ec_commands_watch.specs.Watches.{WatchStops}
use Rattle.ec_commands_compile.proofs.RunGen.{no_gen_usage}
use Rattle.ec_commands_compile.proofs.Statuses.{never_zero}
use Rattle.ec_commands_compile.proofs.Usage.{build_not, no_usage}
use Rattle.ec_commands_compile.specs.Stops as compiling
use Rattle.ec_commands_compile.specs.declared.stop.CompileStop.{CompileStop}
use Rattle.ec_commands_compile.specs.declared.stop.CompileStop.TheVariants as stops

-- what is done at a command is done at the one that the words are
pub does_at : {words : Words} {hooks : Gives} {before after : StoreView} {out err : SinkCall}
    {store_calm : List (List ℕ) → List ℕ → ℕ → Type 0} {out_calm err_calm : ℕ → Type 0} {status : ℕ} (at of : Command) → at ≡ of
    → Does at words hooks before after out err store_calm out_calm err_calm status
    → Does of words hooks before after out err store_calm out_calm err_calm status
does_at {words} {hooks} {before} {after} {out} {err} {store_calm} {out_calm} {err_calm} {status} at of same done =
    subst (λ command. Does command words hooks before after out err store_calm out_calm err_calm status) same done

pub answer_of : {Stop : Type 0} (status_of : Stop → ℕ) (line_of : Stop → List ℕ) (err : SinkCall) (calm : ℕ → Type 0) (done Q : Type 0)
    (stops : Stop → Type 0) (r : Result Unit Stop) (status : ℕ)
    → OnOk r ((status ≡ 0) × Q) → IfErr r (λ stop. IsTold (status_of stop) (line_of stop) err calm status) → OnOk r done → IfErr r stops
    → Answers status_of line_of err calm done stops status
answer_of status_of line_of err calm done Q stops (Ok x) status zero told did why = inl (zero.0, did)
answer_of status_of line_of err calm done Q stops (Err stop) status zero told did why = inr (stop, (told, why))

-- the answer of a command that compiles is told
abbrev pub IsToldOf : Words → ℕ → SinkCall → (ℕ → Type 0) → Result Unit CompileStop → ℕ → Type 0
IsToldOf words first err calm r status =
    IfErr r (λ stop. IsTold (compiling.status_of stop) (compiling.line_of words first stop) err calm status)

pub err_map : {T E : Type 0} (r : Result T E) (P Q : E → Type 0) → ((stop : E) → P stop → Q stop) → IfErr r P → IfErr r Q
err_map (Ok x) P Q f h = tt
err_map (Err stop) P Q f h = f stop h

-- ---- no command answers that its words are none

pub no_two_of : {Stop : Type 0} (status_of : Stop → ℕ) (line_of : Stop → List ℕ) (err : SinkCall) (calm : ℕ → Type 0) (Q : Type 0)
    (stops : Stop → Type 0) (r : Result Unit Stop) (status : ℕ) → ((stop : Stop) → stops stop → status_of stop ≡ 2 → ⊥)
    → OnOk r ((status ≡ 0) × Q) → IfErr r (λ stop. IsTold (status_of stop) (line_of stop) err calm status) → IfErr r stops
    → status ≡ 2 → ⊥
no_two_of status_of line_of err calm Q stops (Ok x) status never zero told why e = omega (arith, zero.0, e)
no_two_of status_of line_of err calm Q stops (Err stop) status never zero told why e = never stop why (sym told.is ∙ e)

-- a stop that does not come with the status 2
abbrev pub NotUsage : (CompileStop → Type 0) → Type 0
NotUsage stops = (stop : CompileStop) → stops stop → compiling.status_of stop ≡ 2 → ⊥

pub no_two : (words : Words) (first : ℕ) (err : SinkCall) (calm : ℕ → Type 0) (Q : Type 0) (stops : CompileStop → Type 0)
    (r : Result Unit CompileStop) (status : ℕ) → NotUsage stops
    → OnOk r ((status ≡ 0) × Q) → IsToldOf words first err calm r status → IfErr r stops → status ≡ 2 → ⊥
no_two words first err calm Q stops r status = no_two_of compiling.status_of (compiling.line_of words first) err calm Q stops r status

pub build_no_usage : (words : Words) (old new : StoreView) → is_build words ≡ true → NotUsage (BuildStops words old new)
build_no_usage words old new row (stops.Command commands.Usage) h e = let no = sym row ∙ h.cause in cc
build_no_usage words old new row (stops.Command (commands.CannotRead i)) h e = omega (arith, e)
build_no_usage words old new row (stops.Command commands.CannotWrite) h e = omega (arith, e)
build_no_usage words old new row (stops.Command (commands.TooMany limit)) h e = omega (arith, e)
build_no_usage words old new row (stops.Command commands.NoMemory) h e = omega (arith, e)
build_no_usage words old new row (stops.Command (commands.BadRecord line)) h e = omega (arith, e)
build_no_usage words old new row (stops.Command (commands.BadSum line)) h e = omega (arith, e)
build_no_usage words old new row (stops.Command (commands.OutOfFlash line)) h e = omega (arith, e)
build_no_usage words old new row (stops.Command (commands.Twice line)) h e = omega (arith, e)
build_no_usage words old new row (stops.Command commands.NoEnd) h e = omega (arith, e)
build_no_usage words old new row (stops.Command (commands.ScriptLine line rule)) h e = omega (arith, e)
build_no_usage words old new row (stops.Command (commands.Fault kind pc)) h e = omega (arith, e)
build_no_usage words old new row (stops.Command commands.StepsOut) h e = omega (arith, e)
build_no_usage words old new row (stops.Command (commands.AsmLine line rule)) h e = omega (arith, e)
build_no_usage words old new row (stops.Command commands.NoNumber) h e = omega (arith, e)
build_no_usage words old new row (stops.Build stop) h e = build_not stop e

pub exec_no_usage : (words : Words) (steps : ℕ) (hooks : Gives) (old new : StoreView) (out : SinkCall)
    → NotUsage (ExecStops words steps hooks old new out)
exec_no_usage words steps hooks old new out stop h e = no_usage words steps hooks old new out stop h e

pub gen_no_usage : (n : ℕ) (hooks : Gives) (out : SinkCall) → NotUsage (GenStops n hooks out)
gen_no_usage n hooks out stop h e = no_gen_usage n hooks out stop h e

pub watch_no_usage : (words : Words) (steps leaf : ℕ) (rule : Compare) (hooks : Gives) (old new : StoreView) (out : SinkCall)
    → NotUsage (WatchStops words steps leaf rule hooks old new out)
watch_no_usage words steps leaf rule hooks old new out stop h e = no_watch_usage words steps leaf rule hooks old new out stop h e

-- the answer of a bound is told
abbrev pub IsToldBound : Words → ℕ → SinkCall → (ℕ → Type 0) → Result Unit StepsStop → ℕ → Type 0
IsToldBound words first err calm r status =
    IfErr r (λ stop. IsTold (bounding.status_of stop) (bounding.line_of words first stop) err calm status)

-- too many sources are told as such
pub told_ten : (words : Words) (first : ℕ) (err : SinkCall) (calm : ℕ → Type 0) (r : Result Unit CompileStop) (status : ℕ)
    → IsErrOf r (stops.Command (commands.TooMany limits.Sources)) → IsToldOf words first err calm r status → status ≡ 10
told_ten words first err calm (Ok x) status many told = cc
told_ten words first err calm (Err stop) status many told =
    let same : stop ≡ stops.Command (commands.TooMany limits.Sources) = cc in
    told.is ∙ ap compiling.status_of same

-- where the status is 0, the line of a stop was not told
pub quiet_of : {A : Type 0} (words : Words) (first : ℕ) (err : SinkCall) (calm : ℕ → Type 0) (new old : A)
    (r : Result Unit CompileStop) (status : ℕ)
    → OnOk r ((status ≡ 0) × (new ≡ old)) → IsToldOf words first err calm r status → status ≡ 0 → new ≡ old
quiet_of words first err calm new old (Ok x) status done told e = done.1
quiet_of words first err calm new old (Err stop) status done told e = absurd (never_zero stop (sym told.is ∙ e))

pub bound_told_ten : (words : Words) (first : ℕ) (err : SinkCall) (calm : ℕ → Type 0) (r : Result Unit StepsStop) (status : ℕ)
    → IsErrOf r (Compile (stops.Command (commands.TooMany limits.Sources))) → IsToldBound words first err calm r status → status ≡ 10
bound_told_ten words first err calm (Ok x) status many told = cc
bound_told_ten words first err calm (Err stop) status many told =
    let same : stop ≡ Compile (stops.Command (commands.TooMany limits.Sources)) = cc in
    told.is ∙ ap bounding.status_of same

pub bound_quiet : {A : Type 0} (words : Words) (first : ℕ) (err : SinkCall) (calm : ℕ → Type 0) (new old : A)
    (r : Result Unit StepsStop) (status : ℕ)
    → OnOk r ((status ≡ 0) × (new ≡ old)) → IsToldBound words first err calm r status → status ≡ 0 → new ≡ old
bound_quiet words first err calm new old (Ok x) status done told e = done.1
bound_quiet words first err calm new old (Err stop) status done told e = absurd (bounding_stops.never_zero stop (sym told.is ∙ e))
