use Rattle.std.proofs.Common.{◌≡◌, ◌++◌, map, drop}
use Rattle.ec_core.specs.Plain.{plain_struct, plain_object}
use Rattle.ec_build_laws.specs.Shortened.{reaches_from}
use Rattle.ec_build.proofs.reaches.reaches_from.Given as goal

abbrev pub invariant-loop-i : goal.invariant-loop-i
invariant-loop-i l =
    l.made.items ++ reaches_from (map plain_struct l.structs.items) l.places l.i (map plain_object (drop l.i l.objs))
    ≡ reaches_from (map plain_struct l.structs.items) l.places 0 (map plain_object l.objs)
