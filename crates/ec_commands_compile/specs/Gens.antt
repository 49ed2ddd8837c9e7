-- What `gen` does: the run of a generated program, what `out` receives of it, and when each stop comes.
use Rattle.std.specs.Prelude.{ℕ, ◌≤◌, ◌≡◌, ◌⊎◌, List, [], ◌∷◌, length, Option, Some}
use Rattle.ec_io.specs.Causes.{Rose}
use Rattle.ec_io.specs.Views.{SinkCall}
use Rattle.ec_avr.specs.declared.machine.Access.{Access}
use Rattle.ec_avr.specs.Machine.{State, IsReset, reset_with}
use Rattle.ec_emu.specs.declared.run.EmuReport.{EmuReport}
use Rattle.ec_emu.specs.Emulation.{IsRun as IsRunOf}
use Rattle.ec_emu.specs.Scripted.{IsScripted}
use Rattle.ec_generate.specs.Generated.{generated, map_text}
use Rattle.ec_build.specs.Accepted.{IsAccepted}
use Rattle.ec_build.specs.Builds.{IsBuilt}
use Rattle.ec_build.specs.Causes.{HasCause}
use Rattle.ec_build.specs.declared.building.Built.{Built}
use Rattle.ec_commands.specs.Counts.{counts_of, ShowsCounts}
use Rattle.ec_commands.specs.Runs.{Gives}
use Rattle.ec_commands.specs.declared.stop.CommandError.{CommandError}
use Rattle.ec_commands.specs.declared.stop.CommandError.TheVariants.{NoMemory, CannotWrite}
use Rattle.ec_commands_compile.specs.Kept.{KeepsSourceOf}
use Rattle.ec_commands_compile.specs.declared.stop.CompileStop.{CompileStop}
use Rattle.ec_commands_compile.specs.declared.stop.CompileStop.TheVariants.{Command, Build}

-- the generated program for a number, which is its only source
abbrev pub sources_for : ℕ → List (List ℕ)
sources_for n = generated n ∷ []

-- so many steps are made at most
abbrev pub most_steps : ℕ
most_steps = 4294967295

-- ---- the run

-- the machine with the image of the generated program is in the reset state with 165 everywhere
pub record IsGenLoaded (n : ℕ) (machine : State) : Type 0 where
  pub built : Built
  pub is : IsBuilt (sources_for n) map_text built
  pub reset : machine ≡ reset_with built.located.image.core built.located.image.bytes.items 165
  pub is_reset : IsReset built.located.image.core built.located.image.bytes.items machine

-- The run of it, where no port has a line of a script, and what was shown of it. Where the source is defined on inputs
-- that begin with the bytes that were read, the run keeps it
pub record Generated (n : ℕ) (hooks : Gives) (out : SinkCall) (stop : Option CommandError) : Type 0 where
  pub machine : State
  pub loaded : IsGenLoaded n machine
  pub after : State
  pub report : EmuReport
  pub trace : List Access
  pub runs : IsRunOf (IsScripted hooks []) most_steps machine after report trace
  pub shows : ShowsCounts out.before out.after report.end report.writes stop
  pub keeps : KeepsSourceOf loaded.built most_steps report.end trace

-- both lines have at most so many bytes
abbrev pub FitsGen : ℕ → Gives → ℕ → Type 0
FitsGen n hooks room =
    (machine after : State) (report : EmuReport) (trace : List Access) → IsGenLoaded n machine
    → IsRunOf (IsScripted hooks []) most_steps machine after report trace
    → length (counts_of report.end report.writes) ≤ room

-- ---- when each answer other than 0 comes

-- why nothing runs
abbrev pub StopsGenerating : ℕ → CompileStop → Type 0
StopsGenerating n (Build stop) = HasCause (sources_for n) map_text stop
StopsGenerating n (Command NoMemory) = Unit {0}
StopsGenerating n (Command stop) = ⊥

-- how a run that was made stops
abbrev pub StopsCounting : ℕ → Gives → SinkCall → CompileStop → Type 0
StopsCounting n hooks out (Command stop) =
    Generated n hooks out (Some stop) × (stop ≡ CannotWrite → Rose out.faults_before out.faults_after)
StopsCounting n hooks out (Build stop) = ⊥

-- `out` receives nothing before the run
abbrev pub GenStops : ℕ → Gives → SinkCall → CompileStop → Type 0
GenStops n hooks out stop =
    (StopsGenerating n stop × (out.after ≡ out.before)) ⊎ StopsCounting n hooks out stop

-- nothing stands against the generated program and its map
abbrev pub AcceptsGen : ℕ → Type 0
AcceptsGen n = IsAccepted (sources_for n) map_text
