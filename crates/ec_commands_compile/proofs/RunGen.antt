-- A run of a generated program that was loaded and made.
use Rattle.std.proofs.Common.{◌≡◌, ◌≤◌, ℕ, zero, suc, List, [], Some, refl, sym, ap, subst, arith, inl, inr, ◌⊎◌}
use Rattle.std.specs.Prelude.{Option, All, length}
use Rattle.ec_io.specs.Causes.{Rose}
use Rattle.ec_io.specs.Views.{SinkCall}
use Rattle.ec_avr.specs.declared.machine.Access.{Access}
use Rattle.ec_avr.specs.Machine.{State}
use Rattle.ec_emu.specs.declared.run.EmuEnd.{EmuEnd}
use Rattle.ec_emu.specs.declared.run.EmuEnd.TheVariants as ends
use Rattle.ec_emu.specs.declared.run.EmuReport.{EmuReport}
use Rattle.ec_emu.specs.declared.script.ScriptLine.{ScriptLine}
use Rattle.ec_emu.specs.Emulation.{IsRun as IsRunOf}
use Rattle.ec_emu.specs.Scripted.{IsScripted}
use Rattle.ec_generate.specs.Generated.{generated, map_text}
use Rattle.ec_build.specs.Accepted.{IsAccepted}
use Rattle.ec_build.specs.Builds.{IsBuilt}
use Rattle.ec_build.specs.declared.building.Built.{Built}
use Rattle.ec_commands.specs.Answers.{IsLeft}
use Rattle.ec_commands.specs.Counts.{ShowsCounts, counts_of}
use Rattle.ec_commands.specs.Runs.{Gives}
use Rattle.ec_commands.specs.Stops as commands
use Rattle.ec_commands.specs.Words.{Words}
use Rattle.ec_commands.specs.declared.stop.CommandError.{CommandError}
use Rattle.ec_commands.specs.declared.stop.CommandError.TheVariants as stops
use Rattle.ec_commands_compile.proofs.Keeping.{keeps_source}
use Rattle.ec_commands_compile.specs.Builds.{RefusesBuild}
use Rattle.ec_commands_compile.proofs.Usage.{build_not}
use Rattle.ec_commands_compile.specs.Gens.{sources_for, most_steps, IsGenLoaded, Generated, FitsGen, StopsGenerating, GenStops}
use Rattle.ec_commands_compile.specs.Gens.{AcceptsGen}
use Rattle.ec_commands_compile.specs.Stops.{status_of, IsNamed}
use Rattle.ec_commands_compile.specs.declared.stop.CompileStop.{CompileStop}
use Rattle.ec_commands_compile.specs.declared.stop.CompileStop.TheVariants.{Command, Build}

-- an empty script
emptied : (hooks : Gives) (answers : List ScriptLine) (steps : ℕ) (machine after : State) (report : EmuReport) (trace : List Access)
    → answers ≡ []
    → IsRunOf (IsScripted hooks answers) steps machine after report trace → IsRunOf (IsScripted hooks []) steps machine after report trace
emptied hooks answers steps machine after report trace empty runs =
    subst (λ (a : List ScriptLine). IsRunOf (IsScripted hooks a) steps machine after report trace) empty runs

pub was_generated : (n : ℕ) (hooks : Gives) (out : SinkCall) (stop : Option CommandError) (machine after : State)
    (answers : List ScriptLine) (report : EmuReport) (trace : List Access)
    → IsGenLoaded n machine → answers ≡ [] → IsRunOf (IsScripted hooks answers) most_steps machine after report trace
    → ShowsCounts out.before out.after report.end report.writes stop → Generated n hooks out stop
was_generated n hooks out stop machine after answers report trace loaded empty runs shows =
    let run = emptied hooks answers most_steps machine after report trace empty runs in
    record {
      machine = machine;
      loaded = loaded;
      after = after;
      report = report;
      trace = trace;
      runs = run;
      shows = shows;
      keeps = keeps_source (sources_for n) map_text loaded.built
          (IsScripted hooks []) most_steps machine after report trace loaded.is loaded.is_reset run;
    }

pub fits_generated : (n : ℕ) (hooks : Gives) (room : ℕ) (machine after : State) (answers : List ScriptLine) (report : EmuReport)
    (trace : List Access) → FitsGen n hooks room
    → IsGenLoaded n machine → answers ≡ [] → IsRunOf (IsScripted hooks answers) most_steps machine after report trace
    → length (counts_of report.end report.writes) ≤ room
fits_generated n hooks room machine after answers report trace fits loaded empty runs =
    fits machine after report trace loaded (emptied hooks answers most_steps machine after report trace empty runs)

-- a stop that tells how a run ended
count_stop : (old new : Option (List ℕ)) (end : EmuEnd) (writes : ℕ) (stop : CommandError) → ShowsCounts old new end writes (Some stop)
    → (stop ≡ stops.CannotWrite) ⊎ IsLeft (commands.status_of stop)
count_stop old new (ends.Ended n) writes stops.CannotWrite h = inl refl
count_stop old new (ends.Ended n) writes _ h = absurd h
count_stop old new ends.WriteFault writes _ h = absurd h
count_stop old new ends.StepsOut writes stops.StepsOut h = inr (inr (inr refl))
count_stop old new ends.StepsOut writes _ h = absurd h
count_stop old new (ends.Fault kind pc) writes (stops.Fault k p) h = inr (inr (inl refl))
count_stop old new (ends.Fault kind pc) writes _ h = absurd h

-- how a run that was made stops, where no write failed
pub left_generated : (n : ℕ) (hooks : Gives) (out : SinkCall) (stop : CommandError) → ¬ (Rose out.faults_before out.faults_after)
    → Generated n hooks out (Some stop) → (stop ≡ stops.CannotWrite → Rose out.faults_before out.faults_after)
    → IsLeft (commands.status_of stop)
left_generated n hooks out stop calm h rose =
    elim (count_stop out.before out.after h.report.end h.report.writes stop h.shows) [
      | inl e ↦ absurd (calm (rose e))
      | inr left ↦ left
    ]

-- it does not answer that its words are no command
stop_not_usage : (n : ℕ) (stop : CompileStop) → StopsGenerating n stop → status_of stop ≡ 2 → ⊥
stop_not_usage n (Build stop) h e = build_not stop e
stop_not_usage n (Command stops.NoMemory) h e = omega (arith, e)
stop_not_usage n (Command _) h e = absurd h

pub no_gen_usage : (n : ℕ) (hooks : Gives) (out : SinkCall) (stop : CompileStop) → GenStops n hooks out stop → status_of stop ≡ 2 → ⊥
no_gen_usage n hooks out stop (inl h) e = stop_not_usage n stop h.0 e
no_gen_usage n hooks out (Build stop) (inr h) e = absurd h
no_gen_usage n hooks out (Command stop) (inr h) e = by_end (count_stop out.before out.after h.0.report.end h.0.report.writes stop h.0.shows)
  where
    by_end : (stop ≡ stops.CannotWrite) ⊎ IsLeft (commands.status_of stop) → ⊥
    by_end (inl f) = omega (arith, ap commands.status_of f, e)
    by_end (inr (inl f)) = omega (arith, f, e)
    by_end (inr (inr (inl f))) = omega (arith, f, e)
    by_end (inr (inr (inr f))) = omega (arith, f, e)

-- no stop names a word
pub load_named : (n : ℕ) (words : Words) (stop : CompileStop) → StopsGenerating n stop → IsNamed words stop
load_named n words (Build stop) h = tt
load_named n words (Command stops.NoMemory) h = tt
load_named n words (Command _) h = absurd h

pub count_named : (words : Words) (old new : Option (List ℕ)) (end : EmuEnd) (writes : ℕ) (stop : CommandError)
    → ShowsCounts old new end writes (Some stop) → commands.IsNamed words stop
count_named words old new (ends.Ended n) writes stops.CannotWrite h = tt
count_named words old new (ends.Ended n) writes _ h = absurd h
count_named words old new ends.WriteFault writes _ h = absurd h
count_named words old new ends.StepsOut writes stops.StepsOut h = tt
count_named words old new ends.StepsOut writes _ h = absurd h
count_named words old new (ends.Fault kind pc) writes (stops.Fault k p) h = tt
count_named words old new (ends.Fault kind pc) writes _ h = absurd h

-- ---- loading

one_fits : (n : ℕ) → length (generated n) ≤ 65536 → All (λ text. length text ≤ 65536) (sources_for n)
one_fits n h zero d lt = h
one_fits n h (suc k) d lt = absurd (omega arith)

pub sources_fit : (n : ℕ) (all : List (List ℕ)) → all ≡ sources_for n → length (generated n) ≤ 65536 → All (λ text. length text ≤ 65536) all
sources_fit n all e h = subst (λ (ts : List (List ℕ)). All (λ text. length text ≤ 65536) ts) (sym e) (one_fits n h)

by_stop : (n : ℕ) (stop : CompileStop) → RefusesBuild (sources_for n) map_text stop → StopsGenerating n stop
by_stop n (Build stop) h = h
by_stop n (Command stop) h = absurd h

pub refused : (n : ℕ) (all : List (List ℕ)) (map : List ℕ) (stop : CompileStop) → all ≡ sources_for n → map ≡ map_text
    → RefusesBuild all map stop → StopsGenerating n stop
refused n all map stop e f h =
    by_stop n stop
    (subst (λ (m : List ℕ). RefusesBuild (sources_for n) m stop) f (subst (λ (ts : List (List ℕ)). RefusesBuild ts map stop) e h))

pub accepted_by : (n : ℕ) (all : List (List ℕ)) (map : List ℕ) → all ≡ sources_for n → map ≡ map_text → AcceptsGen n → IsAccepted all map
accepted_by n all map e f h =
    subst (λ (ts : List (List ℕ)). IsAccepted ts map) (sym e) (subst (λ (m : List ℕ). IsAccepted (sources_for n) m) (sym f) h)

pub built_by : (n : ℕ) (all : List (List ℕ)) (map : List ℕ) (b : Built) → all ≡ sources_for n → map ≡ map_text → IsBuilt all map b
    → IsBuilt (sources_for n) map_text b
built_by n all map b e f h = subst (λ (m : List ℕ). IsBuilt (sources_for n) m b) f (subst (λ (ts : List (List ℕ)). IsBuilt ts map b) e h)
