use Rattle.std.proofs.Common.{◌≡◌, drop, map}
use Rattle.ec_check_file_scope.specs.FileNames.{plain_file_name, link_from, earlier_link}
use Rattle.ec_check_file_scope.proofs.file_names.earlier_link.Given as goal

abbrev pub invariant-loop-d : goal.invariant-loop-d
invariant-loop-d l = link_from l.found l.name.items l.unit (map plain_file_name (drop l.d-index l.declared))
    ≡ earlier_link l.name.items l.unit (map plain_file_name l.declared)
