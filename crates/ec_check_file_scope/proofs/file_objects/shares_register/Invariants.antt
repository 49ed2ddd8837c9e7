use Rattle.std.proofs.Common.{◌≡◌, drop, map}
use Rattle.ec_check_file_scope.specs.FileNames.{plain_file_name}
use Rattle.ec_check_file_scope.specs.FileObjects.{shares_register}
use Rattle.ec_check_file_scope.proofs.file_objects.shares_register.Given as goal

abbrev pub invariant-loop-e : goal.invariant-loop-e
invariant-loop-e l = shares_register (plain_file_name l.d) (map plain_file_name (drop l.e-index l.declared))
    ≡ shares_register (plain_file_name l.d) (map plain_file_name l.declared)
