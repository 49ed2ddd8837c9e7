-- Why the code of a program has no place, by the answer that tells it.
use Rattle.std.specs.Prelude.{◌≡◌, ◌⊎◌, List}
use Rattle.ec_asm.specs.declared.items.AsmProgram.{AsmProgram}
use Rattle.ec_asm_based.specs.declared.reach.Reach.{Reach}
use Rattle.ec_core.specs.Plain.{PlainProgram}
use Rattle.ec_map.specs.declared.map.Map.{Map}
use Rattle.ec_build.specs.Code.{IsShortCodeOf}
use Rattle.ec_build.specs.Places.{StopsPlacing}
use Rattle.ec_build.specs.declared.stop.BuildStop.{BuildStop}
use Rattle.ec_build.specs.declared.stop.BuildStop.TheVariants.{NoMemory}

-- memory ran out, or the code of the program has no place
abbrev pub HasCauseOfPlacing : PlainProgram → Map → BuildStop → Type 0
HasCauseOfPlacing p m stop =
    (stop ≡ NoMemory)
    ⊎ ((reaches : List Reach) × (asm : AsmProgram) × (IsShortCodeOf m.core p m.io reaches asm × StopsPlacing p m asm stop))
