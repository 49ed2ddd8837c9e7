use Rattle.std.proofs.Common.{◌≡◌, drop, map}
use Rattle.ec_check_file_scope.specs.FileNames.{plain_file_name, conflicts}
use Rattle.ec_check_file_scope.proofs.file_names.conflicts.Given as goal

abbrev pub invariant-loop-e : goal.invariant-loop-e
invariant-loop-e l = conflicts (plain_file_name l.d) (map plain_file_name (drop l.e-index l.declared))
    ≡ conflicts (plain_file_name l.d) (map plain_file_name l.declared)
