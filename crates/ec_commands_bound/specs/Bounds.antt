-- What `bound` promises of the number that it printed, and when each other answer comes.
use Rattle.std.specs.Prelude.{ℕ, ◌≤◌, ◌<◌, ◌≡◌, ◌⊎◌, List, ◌++◌, length, take, Option, codes}
use Rattle.std.specs.Fmt.{decimal}
use Rattle.std.specs.Io.KnownBytes.{Appends}
use Rattle.ec_io.specs.Causes.{Rose}
use Rattle.ec_io.specs.Disk.{Disk}
use Rattle.ec_io.specs.Views.{StoreView, SinkCall}
use Rattle.ec_avr.specs.declared.image.Image.{Image}
use Rattle.ec_avr.specs.Machine.{State, Inputs, IsReset}
use Rattle.ec_core.specs.Meaning.{Defined}
use Rattle.ec_core.specs.Plain.{plain_program}
use Rattle.ec_core.specs.PortTable.{plain_table}
use Rattle.ec_core.specs.ValueTypes.{GiveBytes}
use Rattle.ec_core_steps.specs.Laws.{LoopsAreCounted}
use Rattle.ec_build.specs.Builds.{IsBuilt}
use Rattle.ec_build.specs.declared.building.Built.{Built}
use Rattle.ec_steps.specs.Bounds.{StopsBound}
use Rattle.ec_steps.specs.Ends.{EndsWithin, most_steps}
use Rattle.ec_steps.specs.declared.stop.BoundStop.{BoundStop}
use Rattle.ec_commands.specs.Words.{Words, words_from}
use Rattle.ec_commands.specs.declared.stop.Limit.TheVariants.{Sources}
use Rattle.ec_commands.specs.declared.stop.CommandError.TheVariants.{TooMany, CannotWrite}
use Rattle.ec_commands_compile.specs.Builds.{IsBuiltOf, StopsBuilding}
use Rattle.ec_commands_compile.specs.declared.stop.CompileStop.TheVariants.{Command}
use Rattle.ec_commands_bound.specs.declared.stop.StepsStop.{StepsStop}
use Rattle.ec_commands_bound.specs.declared.stop.StepsStop.TheVariants.{Compile, Bound}

-- ---- the number

-- from every reset state of the machine with an image, and for all inputs under which the source of a build is defined,
-- source and machine end with one result, the machine in at most so many steps
abbrev pub MachineEnds : Built → Image → ℕ → Type 0
MachineEnds b image steps =
    (s : State) (inputs : Inputs) → IsReset image.core image.bytes.items s → GiveBytes inputs
    → Defined (plain_program b.program) (plain_table b.map.io) inputs
    → EndsWithin (plain_program b.program) b.map s inputs steps

-- All loops of the program are counted, and the number is that of the steps before main with those of its most work.
-- Whatever image a build makes of the same sources and the same map, the machine with it ends within so many steps
pub record IsBound (words : Words) (disk : Option Disk) (steps : ℕ) : Type 0 where
  pub built : Built
  pub from : IsBuiltOf words 2 disk built
  pub counted : LoopsAreCounted (plain_program built.program)
  pub number : steps ≡ most_steps (plain_program built.program) built.map
  pub ends : (other : Built) → IsBuilt from.sources from.map other → MachineEnds built other.located.image steps

-- `steps`, the number in decimal, and LF
abbrev pub steps_line : ℕ → List ℕ
steps_line steps = codes "steps " ++ decimal steps ++ codes "\n"

-- `out` received the line of such a number
pub record Bounded (words : Words) (disk : Option Disk) (out : SinkCall) : Type 0 where
  pub steps : ℕ
  pub bound : IsBound words disk steps
  pub shown : Appends out.before out.after (steps_line steps)

-- the line of such a number has at most so many bytes
abbrev pub FitsSteps : Words → Option Disk → ℕ → Type 0
FitsSteps words disk room = (steps : ℕ) → IsBound words disk steps → length (steps_line steps) ≤ room

-- ---- when each answer other than 0 comes; none but out of memory comes where an earlier one has its cause

-- of the program that was built no number is told, for this
pub record HasNoBound (words : Words) (disk : Option Disk) (stop : BoundStop) : Type 0 where
  pub built : Built
  pub from : IsBuiltOf words 2 disk built
  pub cause : StopsBound (plain_program built.program) built.map stop

-- why there is no number, where there are at most 16 sources
abbrev pub StopsCounting : Words → StoreView → StoreView → StepsStop → Type 0
StopsCounting words old new (Compile stop) = StopsBuilding words 2 old new stop
StopsCounting words old new (Bound stop) = HasNoBound words old.disk stop

-- why nothing is printed
abbrev pub StopsBefore : Words → StoreView → StoreView → StepsStop → Type 0
StopsBefore words old new (Compile (Command (TooMany Sources))) = 16 < words_from words 2
StopsBefore words old new stop = (words_from words 2 ≤ 16) × StopsCounting words old new stop

-- a write failed, after a prefix of the line
abbrev pub StopsPrinting : Words → Option Disk → SinkCall → StepsStop → Type 0
StopsPrinting words disk out stop =
    (stop ≡ Compile (Command CannotWrite)) × ((words_from words 2 ≤ 16) × (Rose out.faults_before out.faults_after
    × ((steps : ℕ) × (IsBound words disk steps
    × ((n : ℕ) × Appends out.before out.after (take n (steps_line steps)))))))

-- `out` receives nothing before the number is known
abbrev pub BoundStops : Words → StoreView → StoreView → SinkCall → StepsStop → Type 0
BoundStops words old new out stop =
    (StopsBefore words old new stop × (out.after ≡ out.before)) ⊎ StopsPrinting words old.disk out stop

-- out of memory, a loop that is not counted, or a number that is too large
abbrev pub IsUnbounded : ℕ → Type 0
IsUnbounded status = (status ≡ 11) ⊎ ((status ≡ 16) ⊎ (status ≡ 17))
