-- The number of steps holds of each image of the sources and the map; and why there is none.
use Rattle.std.proofs.Common.{◌≡◌, ◌≤◌, ℕ, List, refl, sym, subst, inl, inr}
use Rattle.std.specs.Prelude.{Option}
use Rattle.ec_space.specs.declared.Core.{Core}
use Rattle.ec_io.specs.Disk.{Disk}
use Rattle.ec_io.specs.Views.{StoreView}
use Rattle.ec_avr.specs.Machine.{IsReset}
use Rattle.ec_core.specs.Plain.{plain_program}
use Rattle.ec_build.specs.Builds.{IsBuilt}
use Rattle.ec_build.specs.Images.{BuildsHaveOneImage}
use Rattle.ec_build.specs.declared.building.Built.{Built}
use Rattle.ec_steps.specs.Bounds.{EndsInTime}
use Rattle.ec_steps.specs.declared.stop.BoundStop.{BoundStop}
use Rattle.ec_steps.specs.declared.stop.BoundStop.TheVariants.{LoopNotCounted, BoundTooLarge, NoMemory}
use Rattle.ec_commands.specs.Words.{Words, words_from}
use Rattle.ec_commands.specs.declared.stop.Limit.TheVariants.{Sources}
use Rattle.ec_commands.specs.declared.stop.CommandError.TheVariants.{TooMany}
use Rattle.ec_commands_compile.specs.Builds.{IsBuiltOf}
use Rattle.ec_commands_compile.specs.declared.stop.CompileStop.TheVariants.{Command}
use Rattle.ec_commands_bound.specs.Bounds.{MachineEnds, StopsCounting, StopsBefore, IsUnbounded}
use Rattle.ec_commands_bound.specs.Stops.{bound_status}
use Rattle.ec_commands_bound.specs.declared.stop.StepsStop.{StepsStop}
use Rattle.ec_commands_bound.specs.declared.stop.StepsStop.TheVariants.{Compile}

-- all builds have one image, so a machine with that of another ends as one with that of this
pub machines_end : BuildsHaveOneImage → (words : Words) (disk : Option Disk) (b : Built) (from : IsBuiltOf words 2 disk b) (steps : ℕ)
    → EndsInTime (plain_program b.program) b.map steps → (other : Built) → IsBuilt from.sources from.map other
    → MachineEnds b other.located.image steps
machines_end law words disk b from steps ends other is s inputs reset bytes defined =
    let same = law from.sources from.map b other from.built is in
    let flash : b.located.image.bytes.items ≡ other.located.image.bytes.items = λ j. (same.flash j).bytes in
    ends from.built.asm b.located s inputs from.built.image
    (subst (λ (code : List ℕ). IsReset b.located.image.core code s) (sym flash)
    (subst (λ (core : Core). IsReset core other.located.image.bytes.items s) (sym same.core) reset)) bytes defined

pub before : (words : Words) (old new : StoreView) (stop : StepsStop) → words_from words 2 ≤ 16 → StopsCounting words old new stop
    → StopsBefore words old new stop
before words old new (Compile (Command (TooMany Sources))) few (inl h) = let no = h.0 in cc
before words old new (Compile (Command (TooMany Sources))) few (inr h) = absurd h
before words old new _ few h = (few, h)

pub unbounded : (stop : BoundStop) → IsUnbounded (bound_status stop)
unbounded (LoopNotCounted unit token) = inr (inl refl)
unbounded BoundTooLarge = inr (inr refl)
unbounded NoMemory = inl refl
