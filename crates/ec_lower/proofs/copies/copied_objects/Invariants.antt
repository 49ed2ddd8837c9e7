use Rattle.std.proofs.Common.{◌≡◌, map, take}
use Rattle.ec_core.specs.Plain.{plain_object}
use Rattle.ec_lower.proofs.copies.copied_objects.Given as goal

abbrev pub invariant-loop-o : goal.invariant-loop-o
invariant-loop-o l = map plain_object l.copy.items ≡ map plain_object (take l.o-index l.objs)
