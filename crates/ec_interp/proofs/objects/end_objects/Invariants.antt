use Rattle.std.proofs.Common.{◌≡◌, drop, map}
use Rattle.ec_core.specs.Plain.{plain_object}
use Rattle.ec_interp.specs.Lookups.{ended_from}
use Rattle.ec_interp.specs.Views.{seen}
use Rattle.ec_interp.proofs.objects.end_objects.Given as goal

abbrev pub invariant-loop-i : goal.invariant-loop-i
invariant-loop-i l = ended_from l.function l.i (map plain_object (drop l.i l.objs)) (seen l.s)
    ≡ ended_from l.function 0 (map plain_object l.objs) (seen l.fn.s)
