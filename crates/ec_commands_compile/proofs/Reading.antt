-- The map and the sources that were read.
use Rattle.std.proofs.Common.{◌≡◌, ◌≤◌, ◌<◌, ℕ, zero, suc, List, [], ◌∷◌, get_or, Some, None, Ok, Err, refl, subst}
use Rattle.std.proofs.Common.{arith, inl, inr, length}
use Rattle.std.specs.Prelude.{Option, Result, IfOk, IfErr, All, Contains}
use Rattle.std.specs.FinMap.{get}
use Rattle.ec_space.specs.Listed.{Listed}
use Rattle.ec_io.specs.Causes.{Rose}
use Rattle.ec_io.specs.Disk.{Files, Disk}
use Rattle.ec_io.specs.Views.{StoreView, store_view}
use Rattle.ec_commands.specs.Shown.{KeepsAll, Told, IsWithin, StopsReading}
use Rattle.ec_commands.specs.Sources.{texts, HoldTexts, StopsReadingSources}
use Rattle.ec_commands.specs.Stops as commands
use Rattle.ec_commands.specs.Words.{Words, word, names_from, map_name, IsBuild}
use Rattle.ec_commands.specs.declared.stop.Limit.TheVariants.{MapBytes, SourceBytes, Sources}
use Rattle.ec_commands.specs.declared.stop.CommandError.{CommandError}
use Rattle.ec_commands.specs.declared.stop.CommandError.TheVariants.{Usage, CannotRead, CannotWrite, TooMany, NoMemory}
use Rattle.ec_commands.proofs.Files.{told_both, told_on}
use Rattle.ec_commands.proofs.Named.{same_texts, sources_within, not_past}
use Rattle.ec_build.specs.Accepted.{IsAccepted}
use Rattle.ec_build.specs.Builds.{IsBuilt}
use Rattle.ec_build.specs.declared.building.Built.{Built}
use Rattle.ec_commands_compile.specs.Inputs.{AreInputs, HasMap, StopsReadingBuild}
use Rattle.ec_commands_compile.specs.Builds.{Accepts, IsBuiltFrom, IsBuiltOf, IsRefusedFor, RefusesBuild, StopsBuilding, BuildCause}
use Rattle.ec_commands_compile.specs.Builds.{LeavesFiles, BuildStops}
use Rattle.ec_commands_compile.specs.declared.stop.CompileStop.{CompileStop}
use Rattle.ec_commands_compile.specs.declared.stop.CompileStop.TheVariants.{Command, Build}

pub within_here : (files : Files) (name bytes : List ℕ) (most : ℕ) → get files name ≡ Some bytes → length bytes ≤ most
    → IsWithin name most files
within_here files name bytes most here fits = rw here fits

pub inputs_told : (words : Words) (first : ℕ) (old mid : Option Disk) (map : List ℕ) (sources : List (List ℕ)) → KeepsAll old mid
    → Told (λ files. get files (word words 1) ≡ Some map) old → length map ≤ 16384
    → Told (HoldTexts (names_from words first) sources) mid → All (λ text. length text ≤ 65536) sources
    → Told (AreInputs words first map sources) old
inputs_told words first old mid map sources kept there fits held fit =
    told_both (λ files. get files (word words 1) ≡ Some map) (HoldTexts (names_from words first) sources)
    (AreInputs words first map sources) old mid kept there held
    (λ files m s. record { map_there = m; map_fits = fits; sources_there = s; sources_fit = fit })

same_map : (found : Option (List ℕ)) (x y : List ℕ) → found ≡ Some x → found ≡ Some y → x ≡ y
same_map found x y p q = cc

-- what was read is what the files hold
pub inputs_same : (words : Words) (first : ℕ) (a b : List ℕ) (s t : List (List ℕ)) (files : Files) → AreInputs words first a s files
    → AreInputs words first b t files
    → (a ≡ b) × (s ≡ t)
inputs_same words first a b s t files h k = (
  same_map (get files (map_name words)) a b h.map_there k.map_there,
  same_texts
      (names_from words first) s t files h.sources_there k.sources_there,
)

-- ---- no stop where the files are accepted

pub no_map_stop : (words : Words) (first : ℕ) (map : List ℕ) (sources : List (List ℕ)) (disk : Disk) (read written received : ℕ)
    (missed : Option (List ℕ)) (new : StoreView) (stop : CommandError)
    → AreInputs words first map sources disk.files → ¬ (Rose read new.read_faults)
    → StopsReading words 1 MapBytes (store_view (Some disk) read written received missed) new stop → commands.status_of stop ≡ 11
no_map_stop words first map sources disk read written received missed new (CannotRead i) inputs calm h = absurd (calm h.1.rose)
no_map_stop words first map sources disk read written received missed new (TooMany limit) inputs calm h =
    absurd (not_past disk.files (word words 1) 16384 (within_here disk.files (word words 1) map 16384 inputs.map_there inputs.map_fits) h.1)
no_map_stop words first map sources disk read written received missed new NoMemory inputs calm h = refl
no_map_stop words first map sources disk read written received missed new _ inputs calm h = absurd h

pub no_source_stop : (words : Words) (first : ℕ) (P : Files → Type 0) (most : ℕ) (map : List ℕ) (sources : List (List ℕ)) (disk : Disk)
    (read written received : ℕ) (missed : Option (List ℕ)) (new : StoreView) (stop : CommandError)
    → AreInputs words first map sources disk.files → ¬ (Rose read new.read_faults)
    → StopsReadingSources words first P most (store_view (Some disk) read written received missed) new stop → commands.status_of stop ≡ 11
no_source_stop words first P most map sources disk read written received missed new (CannotRead i) inputs calm h = absurd (calm h.1.rose)
no_source_stop words first P most map sources disk read written received missed new (TooMany SourceBytes) inputs calm h =
    absurd (not_past disk.files (word words h.0) 65536
    (sources_within words first h.0 sources disk.files h.1.0.after h.1.0.there inputs.sources_there inputs.sources_fit) h.1.1.2)
no_source_stop words first P most map sources disk read written received missed new NoMemory inputs calm h = refl
no_source_stop words first P most map sources disk read written received missed new _ inputs calm h = absurd h

pub no_reading_stop : (words : Words) (first : ℕ) (disk : Option Disk) (read written received : ℕ) (missed : Option (List ℕ))
    (new : StoreView) (stop : CommandError) → Accepts words first disk → ¬ (Rose read new.read_faults)
    → StopsReadingBuild words first (store_view disk read written received missed) new stop → commands.status_of stop ≡ 11
no_reading_stop words first None read written received missed new stop accepted calm h = absurd accepted
no_reading_stop words first (Some disk) read written received missed new stop accepted calm (inl h) =
    no_map_stop words first accepted.map accepted.sources disk read written received missed new stop accepted.inputs calm h
no_reading_stop words first (Some disk) read written received missed new stop accepted calm (inr h) =
    no_source_stop words first (HasMap words) 16384 accepted.map accepted.sources disk read written received missed new stop
    accepted.inputs calm h

-- what was read is accepted, where the files are
pub read_accepted : (words : Words) (first : ℕ) (disk : Option Disk) (map : List ℕ) (sources : List (List ℕ)) → Accepts words first disk
    → Told (AreInputs words first map sources) disk → IsAccepted sources map
read_accepted words first None map sources accepted inputs = absurd accepted
read_accepted words first (Some disk) map sources accepted inputs =
    let same = inputs_same words first accepted.map map accepted.sources sources disk.files accepted.inputs inputs in
    subst (λ s. IsAccepted s map) same.1 (subst (λ m. IsAccepted accepted.sources m) same.0 accepted.accepted)

pub contains_behind : (x : List ℕ) (xs : List (List ℕ)) (y : List ℕ) → Contains xs y → Contains (x ∷ xs) y
contains_behind x xs y h = (suc h.0, omega (arith, h.1), h.2)

-- each source is short
pub short_each : (xs : List (Listed ℕ)) → All (λ text. length text ≤ 65536) (texts xs) → (k : ℕ) (d : Listed ℕ) → k < length xs
    → length (get_or xs k d).items < 4294967296
short_each [] all k d inside = absurd (omega arith)
short_each (x ∷ xs) all zero d inside = omega (arith, all 0 [] (omega arith))
short_each (x ∷ xs) all (suc k) d inside = short_each xs (λ j e l. all (suc j) e (omega arith)) k d (omega arith)

-- ---- what a build of what was read answers

pub built_of : (words : Words) (first : ℕ) (disk : Option Disk) (map : List ℕ) (sources : List (List ℕ)) (r : Result Built CompileStop)
    → Told (AreInputs words first map sources) disk → IfOk r (IsBuilt sources map) → IfOk r (IsBuiltOf words first disk)
built_of words first disk map sources (Ok b) inputs built = record { map = map; sources = sources; inputs = inputs; built = built }
built_of words first disk map sources (Err stop) inputs built = tt

pub refused_by : (words : Words) (first : ℕ) (old new : StoreView) (map : List ℕ) (sources : List (List ℕ)) (r : Result Built CompileStop)
    → Told (AreInputs words first map sources) old.disk → IfErr r (RefusesBuild sources map) → IfErr r (StopsBuilding words first old new)
refused_by words first old new map sources (Ok b) inputs refused = tt
refused_by words first old new map sources (Err (Command stop)) inputs refused = absurd refused
refused_by words first old new map sources (Err (Build stop)) inputs refused =
    told_on (AreInputs words first map sources) (IsRefusedFor words first stop) old.disk inputs
    (λ files there. record { map = map; sources = sources; inputs = there; cause = refused })

-- ---- what `build` tells of it

pub built_from : (words : Words) (first : ℕ) (disk : Option Disk) (b : Built) → IsBuiltOf words first disk b
    → Told (IsBuiltFrom words first b) disk
built_from words first disk b h =
    told_on (AreInputs words first h.map h.sources) (IsBuiltFrom words first b) disk h.inputs
    (λ files there. record { map = h.map; sources = h.sources; inputs = there; built = h.built })

build_cause : (words : Words) (old new : StoreView) (stop : CompileStop) → IsBuild words → StopsBuilding words 3 old new stop
    → BuildCause words old new stop
build_cause words old new (Command Usage) is (inl h) = absurd h
build_cause words old new (Command Usage) is (inr h) = absurd h
build_cause words old new (Command (TooMany Sources)) is (inl h) = let no = h.0 in cc
build_cause words old new (Command (TooMany Sources)) is (inr h) = absurd h
build_cause words old new (Command CannotWrite) is (inl h) = absurd h
build_cause words old new (Command CannotWrite) is (inr h) = absurd h
build_cause words old new _ is h = (is, h)

build_keeps : (words : Words) (old new : StoreView) (stop : CompileStop) → KeepsAll old.disk new.disk → StopsBuilding words 3 old new stop
    → LeavesFiles words old.disk new.disk stop
build_keeps words old new (Command CannotWrite) kept (inl h) = absurd h
build_keeps words old new (Command CannotWrite) kept (inr h) = absurd h
build_keeps words old new _ kept h = kept

pub build_stopped : (words : Words) (old new : StoreView) (stop : CompileStop) → IsBuild words → KeepsAll old.disk new.disk
    → StopsBuilding words 3 old new stop → BuildStops words old new stop
build_stopped words old new stop is kept h =
    record { cause = build_cause words old new stop is h; files = build_keeps words old new stop kept h }
