use Rattle.std.proofs.Common.{◌≡◌, map, take}
use Rattle.ec_core.specs.Plain.{plain_type}
use Rattle.ec_check_file_scope.proofs.copies.copied_types.Given as goal

abbrev pub invariant-loop-ty : goal.invariant-loop-ty
invariant-loop-ty l = map plain_type l.copy.items ≡ map plain_type (take l.ty-index l.types)
