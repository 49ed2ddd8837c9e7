use Rattle.std.proofs.Common.{◌≡◌, drop, map}
use Rattle.ec_core.specs.Plain.{plain_type}
use Rattle.ec_check_file_scope.specs.FileNames.{same_from}
use Rattle.ec_check_file_scope.proofs.file_names.same_from_first.Given as goal

abbrev pub invariant-loop-x : goal.invariant-loop-x
invariant-loop-x l =
    record {
      place : l.place ≡ l.x-index;
      same : same_from l.place (map plain_type (drop l.x-index l.a)) (map plain_type l.b.items)
          ≡ same_from 0 (map plain_type l.a) (map plain_type l.b.items);
    }
