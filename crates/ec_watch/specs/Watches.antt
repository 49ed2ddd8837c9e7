-- A build, a number of its program, and a run that is watched for it.
use Rattle.std.specs.Prelude.{ℕ, ℤ, Bool, List}
use Rattle.ec_asm.specs.declared.items.AsmProgram.{AsmProgram}
use Rattle.ec_avr.specs.declared.machine.Access.{Access}
use Rattle.ec_avr.specs.Machine.{Inputs}
use Rattle.ec_avr.specs.Runs.{answers, and_then}
use Rattle.ec_core.specs.Meaning.{Defined}
use Rattle.ec_core.specs.Plain.{plain_program}
use Rattle.ec_core.specs.PortTable.{plain_table}
use Rattle.ec_core.specs.ValueTypes.{GiveBytes}
use Rattle.ec_emu_watch.specs.declared.point.WatchPoint.{WatchPoint}
use Rattle.ec_emu_watch.specs.declared.run.WatchEnd.{WatchEnd}
use Rattle.ec_build.specs.Builds.{IsImageOf}
use Rattle.ec_build.specs.declared.building.Built.{Built}
use Rattle.ec_watch_points.specs.Numbers.{IsPointOf}
use Rattle.ec_watch_laws.specs.Watched.{KeepsWatched}

-- the image of a build is that of its program by its map, as `build` promises
abbrev pub IsPlaced : Built → Type 0
IsPlaced b = (asm : AsmProgram) × IsImageOf (plain_program b.program) b.map asm b.located

-- the point is the one of some name and some leaf
abbrev pub HasPoint : Built → WatchPoint → Type 0
HasPoint b point =
    (name : List ℕ) × (k : ℕ) × IsPointOf (plain_program b.program) b.located.places.items name k point

-- the run stands so to the source, on all inputs that begin with the bytes that the ports gave, and under which the source
-- is defined
abbrev pub KeepsSource : Built → WatchPoint → (ℤ → Bool) → (steps : ℕ) → List Access → WatchEnd → Type 0
KeepsSource b point holds steps trace end =
    (more : Inputs) → GiveBytes (and_then (answers trace) more)
    → Defined (plain_program b.program) (plain_table b.map.io) (and_then (answers trace) more)
    → KeepsWatched (plain_program b.program) b.map b.located (and_then (answers trace) more) point holds steps trace end
