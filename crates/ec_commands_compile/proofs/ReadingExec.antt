-- The map, the script and the sources that were read.
use Rattle.std.proofs.Common.{◌≡◌, ◌+◌, ◌≤◌, ℕ, List, Some, None, refl, sym, ap, subst, inl, inr, ◌⊎◌, length}
use Rattle.std.specs.Prelude.{Option, All}
use Rattle.std.specs.FinMap.{get}
use Rattle.ec_io.specs.Causes.{Rose, Counted}
use Rattle.ec_io.specs.Disk.{Files, Disk}
use Rattle.ec_io.specs.Views.{StoreView, store_view}
use Rattle.ec_io.proofs.Counting.{counted_more}
use Rattle.ec_emu.specs.Script.{AreKept, forms_of}
use Rattle.ec_map.specs.declared.map.Map.{Map}
use Rattle.ec_build.specs.Accepted.{IsAccepted}
use Rattle.ec_build.specs.Builds.{IsBuilt}
use Rattle.ec_build.specs.MapTexts.{IsMapText}
use Rattle.ec_commands.specs.Runs.{HasScriptFault}
use Rattle.ec_commands.specs.Shown.{KeepsAll, Told, IsPast, StopsReading}
use Rattle.ec_commands.specs.Sources.{HoldTexts}
use Rattle.ec_commands.specs.Stops as commands
use Rattle.ec_commands.specs.Words.{Words, word, names_from, script_name, words_from}
use Rattle.ec_commands.specs.declared.stop.Limit.TheVariants.{ScriptBytes, Sources}
use Rattle.ec_commands.specs.declared.stop.CommandError.{CommandError}
use Rattle.ec_commands.specs.declared.stop.CommandError.TheVariants.{CannotRead, TooMany, NoMemory, ScriptLine}
use Rattle.ec_commands.proofs.Files.{told_both, told_on}
use Rattle.ec_commands.proofs.Named.{not_past, unread_behind}
use Rattle.ec_commands.proofs.RunComplete.{not_broken}
use Rattle.ec_build.specs.declared.building.Built.{Built}
use Rattle.ec_commands_compile.specs.Inputs.{AreExecInputs, HasMap, HasScript, StopsReadingScript, StopsReadingExec}
use Rattle.ec_commands_compile.specs.Builds.{RefusesBuild}
use Rattle.ec_commands_compile.specs.Execs.{IsExecBuilt, StopsLoadingExec, StopsBeforeRun, AcceptsExec}
use Rattle.ec_commands_compile.specs.declared.stop.CompileStop.{CompileStop}
use Rattle.ec_commands_compile.specs.declared.stop.CompileStop.TheVariants.{Command, Build}
use Rattle.ec_commands_compile.proofs.Reading.{within_here, inputs_same, no_map_stop, no_source_stop}

-- ---- what was read

abbrev pub HoldsBoth : Words → (map lines : List ℕ) → Files → Type 0
HoldsBoth words map lines files = (get files (word words 1) ≡ Some map) × (get files (word words 2) ≡ Some lines)

pub both_told : (words : Words) (old mid : Option Disk) (map lines : List ℕ) → KeepsAll old mid
    → Told (λ files. get files (word words 1) ≡ Some map) old
    → Told (λ files. get files (word words 2) ≡ Some lines) mid → Told (HoldsBoth words map lines) old
both_told words old mid map lines kept m l =
    told_both (λ files. get files (word words 1) ≡ Some map) (λ files. get files (word words 2) ≡ Some lines)
    (HoldsBoth words map lines) old mid kept m l
    (λ files x y. (x, y))

pub exec_told : (words : Words) (first : ℕ) (old mid : Option Disk) (map lines : List ℕ) (sources : List (List ℕ)) → KeepsAll old mid
    → Told (HoldsBoth words map lines) old → length map ≤ 16384 → length lines ≤ 65536
    → Told (HoldTexts (names_from words first) sources) mid → All (λ text. length text ≤ 65536) sources
    → Told (AreExecInputs words first map lines sources) old
exec_told words first old mid map lines sources kept both fits lines_fit held fit =
    told_both (HoldsBoth words map lines) (HoldTexts (names_from words first) sources)
    (AreExecInputs words first map lines sources) old mid kept both held
    (λ files b s. record {
      inputs = record { map_there = b.0; map_fits = fits; sources_there = s; sources_fit = fit };
      script_there = b.1;
      script_fits = lines_fit;
    })

pub has_script : (words : Words) (map lines : List ℕ) (files : Files) → length map ≤ 16384 → length lines ≤ 65536
    → HoldsBoth words map lines files → HasScript words files
has_script words map lines files fits lines_fit both = record {
  map = within_here files (word words 1) map 16384 both.0 fits;
  script = within_here files (word words 2) lines 65536 both.1 lines_fit;
}

-- ---- why it was not

pub script_behind : (words : Words) (map : List ℕ) (old mid new : StoreView) (stop : CommandError) → KeepsAll old.disk mid.disk
    → Told (λ files. get files (word words 1) ≡ Some map) old.disk → length map ≤ 16384 → old.read_faults ≤ mid.read_faults
    → Counted old.received mid.received (length map) → StopsReading words 2 ScriptBytes mid new stop → StopsReadingScript words old new stop
script_behind words map old mid new (CannotRead i) kept there fits later came h = (
  h.0,
  unread_behind (script_name words) old mid new later h.1,
  told_on (λ files. get files (word words 1) ≡ Some map) (HasMap words) old.disk there
      (λ files m. within_here files (word words 1) map 16384 m fits),
)
script_behind words map old mid new (TooMany limit) kept there fits later came h =
    subst (λ l. StopsReadingScript words old new (TooMany l)) (sym h.0) (
      told_both (λ files. get files (word words 1) ≡ Some map) (IsPast (script_name words) 65536)
          (λ files. HasMap words files × IsPast (script_name words) 65536 files)
          old.disk mid.disk kept there h.1
          (λ files m p. (within_here files (word words 1) map 16384 m fits, p)),
      (
        length map,
        (fits, counted_more _ _ _ (length map) (65536 + 1) _ came h.2 refl),
      ),
    )
script_behind words map old mid new NoMemory kept there fits later came h = tt
script_behind words map old mid new _ kept there fits later came h = absurd h

pub reading_stops : (words : Words) (first : ℕ) (old new : StoreView) (stop : CommandError) → StopsReadingExec words first old new stop
    → StopsLoadingExec words first old new (Command stop)
reading_stops words first old new NoMemory h = tt
reading_stops words first old new (ScriptLine line rule) (inl h) = absurd h
reading_stops words first old new (ScriptLine line rule) (inr (inl h)) = absurd h
reading_stops words first old new (ScriptLine line rule) (inr (inr h)) = absurd h
reading_stops words first old new _ h = h

pub build_stops : (words : Words) (first : ℕ) (old new : StoreView) (map lines : List ℕ) (sources : List (List ℕ)) (stop : CompileStop)
    → Told (AreExecInputs words first map lines sources) old.disk → RefusesBuild sources map stop
    → StopsLoadingExec words first old new stop
build_stops words first old new map lines sources (Command stop) inputs h = absurd h
build_stops words first old new map lines sources (Build stop) inputs h =
    record { map = map; lines = lines; sources = sources; inputs = inputs; cause = h }

pub script_stops : (words : Words) (first : ℕ) (old new : StoreView) (lines : List ℕ) (b : Built) (stop : CommandError)
    → IsExecBuilt words first old.disk lines b
    → (stop ≡ NoMemory) ⊎ HasScriptFault b.map.core lines stop → StopsLoadingExec words first old new (Command stop)
script_stops words first old new lines b stop from (inl e) = subst (λ s. StopsLoadingExec words first old new (Command s)) (sym e) tt
script_stops words first old new lines b stop from (inr h) =
    subst (λ s. StopsLoadingExec words first old new (Command s)) (sym h.told)
    (record { lines = lines; built = b; from = from; fault = subst (λ s. HasScriptFault b.map.core lines s) h.told h })

pub before_run : (words : Words) (first : ℕ) (old new : StoreView) (stop : CompileStop) → words_from words first ≤ 16
    → StopsLoadingExec words first old new stop → StopsBeforeRun words first old new stop
before_run words first old new (Command (TooMany Sources)) few (inl h) = cc
before_run words first old new (Command (TooMany Sources)) few (inr (inl h)) = absurd h
before_run words first old new (Command (TooMany Sources)) few (inr (inr h)) = absurd h
before_run words first old new _ few h = (few, h)

-- ---- no stop where the files are accepted

no_script_stop : (words : Words) (first : ℕ) (map lines : List ℕ) (sources : List (List ℕ)) (disk : Disk)
    (read written received : ℕ) (missed : Option (List ℕ)) (new : StoreView) (stop : CommandError)
    → AreExecInputs words first map lines sources disk.files → ¬ (Rose read new.read_faults)
    → StopsReadingScript words (store_view (Some disk) read written received missed) new stop → commands.status_of stop ≡ 11
no_script_stop words first map lines sources disk read written received missed new (CannotRead i) inputs calm h = absurd (calm h.1.rose)
no_script_stop words first map lines sources disk read written received missed new (TooMany ScriptBytes) inputs calm h =
    absurd
    (not_past disk.files (script_name words) 65536
    (within_here disk.files (script_name words) lines 65536 inputs.script_there inputs.script_fits) h.0.1)
no_script_stop words first map lines sources disk read written received missed new NoMemory inputs calm h = refl
no_script_stop words first map lines sources disk read written received missed new _ inputs calm h = absurd h

pub no_reading_stop : (words : Words) (first : ℕ) (disk : Option Disk) (read written received : ℕ) (missed : Option (List ℕ))
    (new : StoreView) (stop : CommandError) → AcceptsExec words first disk → ¬ (Rose read new.read_faults)
    → StopsReadingExec words first (store_view disk read written received missed) new stop → commands.status_of stop ≡ 11
no_reading_stop words first None read written received missed new stop accepted calm h = absurd accepted
no_reading_stop words first (Some disk) read written received missed new stop accepted calm (inl h) =
    no_map_stop words first accepted.build.map accepted.build.sources disk read written received missed new stop
    accepted.inputs.inputs calm h
no_reading_stop words first (Some disk) read written received missed new stop accepted calm (inr (inl h)) =
    no_script_stop words first accepted.build.map accepted.lines accepted.build.sources disk read written received missed new stop
    accepted.inputs calm h
no_reading_stop words first (Some disk) read written received missed new stop accepted calm (inr (inr h)) =
    no_source_stop words first
    (HasScript words) 81920 accepted.build.map accepted.build.sources disk read written received missed new stop
    accepted.inputs.inputs calm h

pub read_accepted : (words : Words) (first : ℕ) (disk : Option Disk) (map lines : List ℕ) (sources : List (List ℕ))
    → AcceptsExec words first disk → Told (AreExecInputs words first map lines sources) disk → IsAccepted sources map
read_accepted words first None map lines sources accepted inputs = absurd accepted
read_accepted words first (Some disk) map lines sources accepted inputs =
    let same = inputs_same words first accepted.build.map map accepted.build.sources sources disk.files accepted.build.inputs
    inputs.inputs in
    subst (λ s. IsAccepted s map) same.1 (subst (λ m. IsAccepted accepted.build.sources m) same.0 accepted.build.accepted)

same_text : (found : Option (List ℕ)) (x y : List ℕ) → found ≡ Some x → found ≡ Some y → x ≡ y
same_text found x y p q = cc

script_kept : (words : Words) (first : ℕ) (disk : Option Disk) (map lines : List ℕ) (sources : List (List ℕ)) (m : Map)
    → IsMapText map m → AcceptsExec words first disk → Told (AreExecInputs words first map lines sources) disk
    → AreKept m.core (forms_of lines)
script_kept words first None map lines sources m is accepted inputs = absurd accepted
script_kept words first (Some disk) map lines sources m is accepted inputs =
    let same = inputs_same words first accepted.build.map map accepted.build.sources sources disk.files accepted.build.inputs
    inputs.inputs in
    subst (λ (t : List ℕ). AreKept m.core (forms_of t))
    (same_text (get disk.files (script_name words)) accepted.lines lines accepted.inputs.script_there inputs.script_there)
    (accepted.kept m (subst (λ (t : List ℕ). IsMapText t m) (sym same.0) is))

pub no_script_fault : (words : Words) (first : ℕ) (disk : Option Disk) (map lines : List ℕ) (sources : List (List ℕ)) (b : Built)
    (stop : CommandError) → IsBuilt sources map b → AcceptsExec words first disk
    → Told (AreExecInputs words first map lines sources) disk → (stop ≡ NoMemory) ⊎ HasScriptFault b.map.core lines stop
    → commands.status_of stop ≡ 11
no_script_fault words first disk map lines sources b stop built accepted inputs (inl e) = ap commands.status_of e
no_script_fault words first disk map lines sources b stop built accepted inputs (inr h) =
    absurd
    (not_broken b.map.core (forms_of lines) h.line h.rule
    (script_kept words first disk map lines sources b.map built.checked.read.map accepted inputs) h.fault)
