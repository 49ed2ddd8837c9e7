-- What the program does at a command. Each definition has one line for each command.
use Rattle.std.specs.Prelude.{ℕ, ◌≡◌, ◌≤◌, ◌⊎◌, Bool, true, false, List, [], ◌∷◌, None, ⊤}
use Rattle.ec_io.specs.Causes.{Rose}
use Rattle.ec_io.specs.Views.{StoreView, SinkCall}
use Rattle.ec_commands.specs.Answers.{Answers, NoFault, IsLeft}
use Rattle.ec_commands.specs.Runs.{Gives, Ran, RunStops, CanRun, Fits}
use Rattle.ec_commands.specs.Shown.{KeepsAll}
use Rattle.ec_commands.specs.Stops as commands
use Rattle.ec_commands.specs.Words.{Words, words_from, out_name, hex_name, script_name, listed_name, assembled_name}
use Rattle.ec_commands.specs.declared.words.Command.{Command}
use Rattle.ec_commands.specs.declared.words.Command.TheVariants.{Build, Run, Exec, Gen, List as ListImage, Assemble, Bound, Watch, NoCommand}
use Rattle.ec_commands.specs.declared.stop.CommandError.TheVariants.{Usage}
use Rattle.ec_commands_list.specs.Listings.{Listed, ListStops, CanList, FitsListing}
use Rattle.ec_commands_list.specs.Assemblies.{assemble_inputs, Assembles, AssembleStops, CanAssemble, FitsHex}
use Rattle.ec_commands_bound.specs.Bounds.{Bounded, BoundStops, IsUnbounded, FitsSteps}
use Rattle.ec_commands_bound.specs.Stops as bounding
use Rattle.ec_commands_watch.specs.Watches.{Watched, WatchStops, IsUnwatched, FitsWatch}
use Rattle.ec_commands_compile.specs.Builds.{Builds, BuildStops, Accepts, FitsText}
use Rattle.ec_commands_compile.specs.Execs.{Executed, ExecStops, AcceptsExec, FitsExec}
use Rattle.ec_commands_compile.specs.Gens.{Generated, GenStops, AcceptsGen, FitsGen}
use Rattle.ec_commands_compile.specs.Inputs.{build_inputs, exec_inputs}
use Rattle.ec_commands_compile.specs.Stops as compiling

-- the names of the files that a run reads
abbrev pub run_inputs : Words → List (List ℕ)
run_inputs words = hex_name words ∷ script_name words ∷ []

-- how many sources the words name
abbrev pub sources_of : Command → Words → ℕ
sources_of Build words = words_from words 3
sources_of (Exec steps) words = words_from words 4
sources_of Bound words = words_from words 2
sources_of (Watch steps leaf rule) words = words_from words 8
sources_of _ words = 0

-- whether a command may call the store
abbrev pub uses_files : Command → Bool
uses_files Build = true
uses_files (Run steps fill) = true
uses_files (Exec steps) = true
uses_files (Gen n) = false
uses_files (ListImage core) = true
uses_files (Assemble core) = true
uses_files Bound = true
uses_files (Watch steps leaf rule) = true
uses_files NoCommand = false

-- whether a command may print
abbrev pub prints : Command → Bool
prints Build = false
prints (Run steps fill) = true
prints (Exec steps) = true
prints (Gen n) = true
prints (ListImage core) = true
prints (Assemble core) = false
prints Bound = true
prints (Watch steps leaf rule) = true
prints NoCommand = false

-- whether a command may ask the hooks
abbrev pub asks : Command → Bool
asks Build = false
asks (Run steps fill) = true
asks (Exec steps) = true
asks (Gen n) = true
asks (ListImage core) = false
asks (Assemble core) = false
asks Bound = false
asks (Watch steps leaf rule) = true
asks NoCommand = false

-- Each answer has its cause. 0 of a build: OUT denotes the image of the program of the sources, which does what they
-- say. 0 of a run or an exec: `out` received the lines and the result of the run. 0 of a gen: `out` received the result of
-- the run of the generated program, and how often it wrote ports. 0 of a list: `out` received the listing of the image that
-- the HEX file denotes. 0 of an assemble: OUT denotes the image that the listing file lists. 0 of a bound: `out` received a
-- number of steps within which the machine ends, with each image that a build makes of the sources and the map. 0 of a
-- watch: `out` received the lines of the run up to the first hit, and its value; where the source is defined, this is its
-- first write of a watched value to the number that the words name, and the lines are those of all that it does before. Or
-- the run ended without a hit, and `out` received its lines and its result. Words that are no command are told, and nothing
-- else.
abbrev pub Answered : Command → Words → Gives → StoreView → StoreView → SinkCall → SinkCall → (ℕ → Type 0) → ℕ → Type 0
Answered Build words hooks before after out err calm status =
    Answers compiling.status_of (compiling.line_of words 3) err calm (Builds words before.disk after.disk)
    (BuildStops words before after) status
Answered (Run steps fill) words hooks before after out err calm status =
    Answers commands.status_of (commands.line_of words) err calm (Ran words steps fill hooks before.disk out None)
    (RunStops words steps fill hooks before after out) status
Answered (Exec steps) words hooks before after out err calm status =
    Answers compiling.status_of (compiling.line_of words 4) err calm (Executed words steps hooks before.disk out None)
    (ExecStops words steps hooks before after out) status
Answered (Gen n) words hooks before after out err calm status =
    Answers compiling.status_of (compiling.line_of words 0) err calm (Generated n hooks out None) (GenStops n hooks out)
    status
Answered (ListImage core) words hooks before after out err calm status =
    Answers commands.status_of (commands.line_of words) err calm (Listed words core before.disk out)
    (ListStops words core before after out) status
Answered (Assemble core) words hooks before after out err calm status =
    Answers commands.status_of (commands.line_of words) err calm (Assembles words core before.disk after.disk)
    (AssembleStops words core before after) status
Answered Bound words hooks before after out err calm status =
    Answers bounding.status_of (bounding.line_of words 2) err calm (Bounded words before.disk out)
    (BoundStops words before after out) status
Answered (Watch steps leaf rule) words hooks before after out err calm status =
    Answers compiling.status_of (compiling.line_of words 8) err calm
    (Watched words steps leaf rule hooks before.disk out None) (WatchStops words steps leaf rule hooks before after out)
    status
Answered NoCommand words hooks before after out err calm status =
    Answers commands.status_of (commands.line_of words) err calm ⊥ (λ stop. stop ≡ Usage) status

-- What is accepted is done unless memory runs out, where no call failed. A run then ends at BREAK, at a fault of the
-- machine (13) or after its steps (14); of a program with a loop that is not counted (16), or with a number of steps that 64
-- bits do not hold (17), no number is told. Where the program has no number of the name and the leaf, nothing runs (15)
abbrev pub Completed : Command → Words → StoreView → StoreView → SinkCall → ℕ → Type 0
Completed Build words before after out status =
    words_from words 3 ≤ 16 → Accepts words 3 before.disk → ¬ (Rose before.read_faults after.read_faults)
    → ¬ (Rose before.write_faults after.write_faults) → (status ≡ 0) ⊎ (status ≡ 11)
Completed (Run steps fill) words before after out status =
    CanRun words before.disk → ¬ (Rose before.read_faults after.read_faults)
    → ¬ (Rose out.faults_before out.faults_after) → (status ≡ 0) ⊎ IsLeft status
Completed (Exec steps) words before after out status =
    words_from words 4 ≤ 16 → AcceptsExec words 4 before.disk → ¬ (Rose before.read_faults after.read_faults)
    → ¬ (Rose out.faults_before out.faults_after) → (status ≡ 0) ⊎ IsLeft status
Completed (Gen n) words before after out status =
    AcceptsGen n → ¬ (Rose out.faults_before out.faults_after) → (status ≡ 0) ⊎ IsLeft status
Completed (ListImage core) words before after out status =
    CanList words core before.disk → ¬ (Rose before.read_faults after.read_faults)
    → ¬ (Rose out.faults_before out.faults_after) → (status ≡ 0) ⊎ (status ≡ 11)
Completed (Assemble core) words before after out status =
    CanAssemble words core before.disk → ¬ (Rose before.read_faults after.read_faults)
    → ¬ (Rose before.write_faults after.write_faults) → (status ≡ 0) ⊎ (status ≡ 11)
Completed Bound words before after out status =
    words_from words 2 ≤ 16 → Accepts words 2 before.disk → ¬ (Rose before.read_faults after.read_faults)
    → ¬ (Rose out.faults_before out.faults_after) → (status ≡ 0) ⊎ IsUnbounded status
Completed (Watch steps leaf rule) words before after out status =
    words_from words 8 ≤ 16 → AcceptsExec words 8 before.disk → ¬ (Rose before.read_faults after.read_faults)
    → ¬ (Rose out.faults_before out.faults_after) → (status ≡ 0) ⊎ IsUnwatched status
Completed NoCommand words before after out status = ⊤

-- over a store that is calm for the files of a command and the whole text no call fails
abbrev pub KeepsStoreCalm : Command → Words → StoreView → StoreView → (List (List ℕ) → List ℕ → ℕ → Type 0) → Type 0
KeepsStoreCalm Build words before after calm =
    (room : ℕ) → calm (build_inputs words 3) (out_name words) room → FitsText words before.disk room
    → NoFault before after
KeepsStoreCalm (Run steps fill) words before after calm =
    (made : List ℕ) (room : ℕ) → calm (run_inputs words) made room → NoFault before after
KeepsStoreCalm (Exec steps) words before after calm =
    (made : List ℕ) (room : ℕ) → calm (exec_inputs words 4) made room → NoFault before after
KeepsStoreCalm (Gen n) words before after calm = NoFault before after
KeepsStoreCalm (ListImage core) words before after calm =
    (made : List ℕ) (room : ℕ) → calm (listed_name words ∷ []) made room → NoFault before after
KeepsStoreCalm (Assemble core) words before after calm =
    (room : ℕ) → calm (assemble_inputs words) (assembled_name words) room → FitsHex words core before.disk room
    → NoFault before after
KeepsStoreCalm Bound words before after calm =
    (made : List ℕ) (room : ℕ) → calm (build_inputs words 2) made room → NoFault before after
KeepsStoreCalm (Watch steps leaf rule) words before after calm =
    (made : List ℕ) (room : ℕ) → calm (exec_inputs words 8) made room → NoFault before after
KeepsStoreCalm NoCommand words before after calm = NoFault before after

-- over an `out` that is calm for all that a command prints no write fails
abbrev pub KeepsOutCalm : Command → Words → Gives → StoreView → SinkCall → (ℕ → Type 0) → Type 0
KeepsOutCalm Build words hooks before out calm = out.faults_after ≡ out.faults_before
KeepsOutCalm (Run steps fill) words hooks before out calm =
    (room : ℕ) → calm room → Fits words steps fill hooks before.disk room → out.faults_after ≡ out.faults_before
KeepsOutCalm (Exec steps) words hooks before out calm =
    (room : ℕ) → calm room → FitsExec words steps hooks before.disk room → out.faults_after ≡ out.faults_before
KeepsOutCalm (Gen n) words hooks before out calm =
    (room : ℕ) → calm room → FitsGen n hooks room → out.faults_after ≡ out.faults_before
KeepsOutCalm (ListImage core) words hooks before out calm =
    (room : ℕ) → calm room → FitsListing words core before.disk room → out.faults_after ≡ out.faults_before
KeepsOutCalm (Assemble core) words hooks before out calm = out.faults_after ≡ out.faults_before
KeepsOutCalm Bound words hooks before out calm =
    (room : ℕ) → calm room → FitsSteps words before.disk room → out.faults_after ≡ out.faults_before
KeepsOutCalm (Watch steps leaf rule) words hooks before out calm =
    (room : ℕ) → calm room → FitsWatch words steps leaf rule hooks before.disk room
    → out.faults_after ≡ out.faults_before
KeepsOutCalm NoCommand words hooks before out calm = out.faults_after ≡ out.faults_before

-- what a command leaves as it was, besides what its answer says: a run, an exec, a list, a bound and a watch change no
-- file, and create and write none
abbrev pub Kept : Command → StoreView → StoreView → Type 0
Kept Build before after = ⊤
Kept (Run steps fill) before after = KeepsAll before.disk after.disk × (after.write_faults ≡ before.write_faults)
Kept (Exec steps) before after = KeepsAll before.disk after.disk × (after.write_faults ≡ before.write_faults)
Kept (Gen n) before after = after ≡ before
Kept (ListImage core) before after = KeepsAll before.disk after.disk × (after.write_faults ≡ before.write_faults)
Kept (Assemble core) before after = ⊤
Kept Bound before after = KeepsAll before.disk after.disk × (after.write_faults ≡ before.write_faults)
Kept (Watch steps leaf rule) before after = KeepsAll before.disk after.disk × (after.write_faults ≡ before.write_faults)
Kept NoCommand before after = after ≡ before

-- all of it
pub record Does (command : Command) (words : Words) (hooks : Gives) (before after : StoreView) (out err : SinkCall)
    (store_calm : List (List ℕ) → List ℕ → ℕ → Type 0) (out_calm err_calm : ℕ → Type 0) (status : ℕ) : Type 0 where
  pub answered : Answered command words hooks before after out err err_calm status
  pub complete : Completed command words before after out status
  pub store_unfailing : KeepsStoreCalm command words before after store_calm
  pub out_unfailing : KeepsOutCalm command words hooks before out out_calm
  pub kept : Kept command before after
