use Rattle.std.proofs.Common.{◌≡◌, map, take}
use Rattle.ec_core.specs.Plain.{plain_struct}
use Rattle.ec_lower.proofs.copies.copied_structs.Given as goal

abbrev pub invariant-loop-def : goal.invariant-loop-def
invariant-loop-def l = map plain_struct l.copy.items ≡ map plain_struct (take l.def-index l.structs)
