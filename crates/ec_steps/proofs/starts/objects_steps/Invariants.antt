use Rattle.std.proofs.Common.{◌≡◌, ◌*◌, ◌≤◌, map, take}
use Rattle.std.specs.Prelude.{sum_by}
use Rattle.ec_core.specs.Plain.{plain_object, plain_struct}
use Rattle.ec_select.specs.LaidOut.{object_steps}
use Rattle.ec_steps.proofs.starts.objects_steps.Given as goal

abbrev pub invariant-loop-obj : goal.invariant-loop-obj
invariant-loop-obj l = record {
  total : l.steps ≡ sum_by (λ obj. object_steps (map plain_struct l.structs.items) (plain_object obj)) (take l.obj-index l.objs);
  below : l.steps ≤ 85_899_345_940 * l.obj-index;
}
