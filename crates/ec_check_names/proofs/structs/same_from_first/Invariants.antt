use Rattle.std.proofs.Common.{◌≡◌, drop, map}
use Rattle.ec_core.specs.Plain.{plain_member}
use Rattle.ec_check_names.specs.Structs.{same_from}
use Rattle.ec_check_names.proofs.structs.same_from_first.Given as goal

abbrev pub invariant-loop-x : goal.invariant-loop-x
invariant-loop-x l =
    record {
      place : l.place ≡ l.x-index;
      same : same_from l.place (map plain_member (drop l.x-index l.a)) (map plain_member l.b.items)
          ≡ same_from 0 (map plain_member l.a) (map plain_member l.b.items);
    }
