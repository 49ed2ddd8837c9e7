-- A placed program that a watch stops does what its source does.
use Rattle.std.specs.Prelude.{⊤, ℕ, ℤ, Bool, List}
use Rattle.ec_asm.specs.declared.items.AsmProgram.{AsmProgram}
use Rattle.ec_avr.specs.declared.machine.Access.{Access}
use Rattle.ec_avr.specs.Machine.{State, Inputs, IsReset}
use Rattle.ec_avr.specs.Runs.{answers, and_then}
use Rattle.ec_core.specs.Meaning.{Defined}
use Rattle.ec_core.specs.Plain.{PlainProgram}
use Rattle.ec_core.specs.PortTable.{plain_table}
use Rattle.ec_core.specs.ValueTypes.{GiveBytes}
use Rattle.ec_emu.specs.declared.ask.Ask.{Ask}
use Rattle.ec_emu_watch.specs.declared.point.WatchPoint.{WatchPoint}
use Rattle.ec_emu_watch.specs.declared.run.WatchReport.{WatchReport}
use Rattle.ec_emu_watch.specs.Hits.{IsWatched}
use Rattle.ec_map.specs.declared.map.Map.{Map}
use Rattle.ec_locate.specs.declared.placing.Located.{Located}
use Rattle.ec_build_laws.specs.Translation.{IsTranslated}
use Rattle.ec_watch_points.specs.Numbers.{IsPointOf, HavePlaces}
use Rattle.ec_watch_laws.specs.Watched.{KeepsWatched}

-- the objects of a placed program have places, and those of the data bank lie where points can be
abbrev pub PlacedHavePlaces : Type 0
PlacedHavePlaces =
    (p : PlainProgram) (m : Map) (asm : AsmProgram) (l : Located) → IsTranslated p m asm l → HavePlaces p l.places.items

-- whatever the ports may answer
abbrev pub any_answer : Ask → ℕ → Type 0
any_answer ask byte = ⊤

-- from each reset state, on all inputs that begin with the bytes that were read and under which the source is defined
abbrev pub WatchedRunsKeepSources : Type 0
WatchedRunsKeepSources =
    (p : PlainProgram) (m : Map) (asm : AsmProgram) (l : Located) (name : List ℕ) (k : ℕ) (point : WatchPoint)
    (holds : ℤ → Bool) (steps : ℕ) (s new : State) (report : WatchReport) (trace : List Access) (more : Inputs)
    → IsTranslated p m asm l → IsPointOf p l.places.items name k point
    → IsReset l.image.core l.image.bytes.items s → IsWatched point holds any_answer steps s new report trace
    → GiveBytes (and_then (answers trace) more) → Defined p (plain_table m.io) (and_then (answers trace) more)
    → KeepsWatched p m l (and_then (answers trace) more) point holds steps trace report.end
