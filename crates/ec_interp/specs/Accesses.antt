-- Accesses that an answer names by their numbers.
use Rattle.std.specs.Prelude.{Option, option_map, option_and_then, slice_get}
use Rattle.ec_core.specs.Accesses.{Access}
use Rattle.ec_core.specs.Plain.{PlainProgram}
use Rattle.ec_core.specs.State.{State}
use Rattle.ec_interp.specs.declared.accesses.Found.{Found}

-- an access by its numbers
abbrev pub access_at : PlainProgram → State → Found → Option Access
access_at program s a =
    option_and_then (λ o. option_map
    (λ x. record { object = a.object; leaf = a.leaf; space = a.space; declared = o; state = x })
    (slice_get s.objects a.object)) (slice_get program.objects a.object)
