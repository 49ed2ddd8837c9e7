-- What `bound` promises, and when each other answer comes.
use Rattle.std.specs.Prelude.{ℕ, ◌<◌, ◌-◌, ◌^◌, ⊤}
use Rattle.ec_avr.specs.Machine.{State, Inputs, IsReset}
use Rattle.ec_asm.specs.declared.items.AsmProgram.{AsmProgram}
use Rattle.ec_core.specs.Meaning.{Defined}
use Rattle.ec_core.specs.Plain.{PlainProgram}
use Rattle.ec_core.specs.PortTable.{plain_table}
use Rattle.ec_core.specs.ValueTypes.{GiveBytes}
use Rattle.ec_core_steps.specs.Laws.{LoopsAreCounted, IsFirstUncounted}
use Rattle.ec_locate.specs.declared.placing.Located.{Located}
use Rattle.ec_map.specs.declared.map.Map.{Map}
use Rattle.ec_build.specs.Builds.{IsImageOf}
use Rattle.ec_steps.specs.declared.stop.BoundStop.{BoundStop}
use Rattle.ec_steps.specs.declared.stop.BoundStop.TheVariants.{LoopNotCounted, BoundTooLarge, NoMemory}
use Rattle.ec_steps.specs.Ends.{EndsWithin, most_steps}

-- for every image of the program by the map, from every reset state and for all inputs under which the source is defined,
-- source and machine end with one result, the machine in at most so many steps
abbrev pub EndsInTime : PlainProgram → Map → ℕ → Type 0
EndsInTime p m steps =
    (asm : AsmProgram) (l : Located) (s : State) (inputs : Inputs) → IsImageOf p m asm l
    → IsReset l.image.core l.image.bytes.items s → GiveBytes inputs → Defined p (plain_table m.io) inputs
    → EndsWithin p m s inputs steps

-- a loop is told exactly where one is not counted, the first; and that the number is too large exactly where none is and
-- 64 bits do not hold it
abbrev pub StopsBound : PlainProgram → Map → BoundStop → Type 0
StopsBound p m (LoopNotCounted unit token) = IsFirstUncounted p (record { unit = unit; at = token })
StopsBound p m BoundTooLarge = LoopsAreCounted p × (2 ^ 64 - 1 < most_steps p m)
StopsBound p m NoMemory = ⊤
