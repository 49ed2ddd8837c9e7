use Rattle.std.proofs.Common.{◌≡◌, drop, map}
use Rattle.ec_check_file_scope.specs.FileNames.{plain_file_name, is_registered}
use Rattle.ec_check_file_scope.proofs.file_names.is_registered.Given as goal

abbrev pub invariant-loop-d : goal.invariant-loop-d
invariant-loop-d l = is_registered l.name.items (map plain_file_name (drop l.d-index l.declared))
    ≡ is_registered l.name.items (map plain_file_name l.declared)
