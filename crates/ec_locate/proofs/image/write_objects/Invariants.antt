use Rattle.std.proofs.Common.{◌≡◌, map, drop}
use Rattle.ec_core.specs.Plain.{plain_struct, plain_object}
use Rattle.ec_locate.specs.Code.{layout_view}
use Rattle.ec_locate.specs.Image.{flash_of, with_objects}
use Rattle.ec_locate.proofs.image.write_objects.Given as goal

-- the objects that are left complete the flash
abbrev pub invariant-loop-i : goal.invariant-loop-i
invariant-loop-i l = record {
  core : l.image.core ≡ l.initial.image.core;
  flash : with_objects (map plain_struct l.structs.items) (layout_view l.layout) l.i (map plain_object (drop l.i l.objs)) (flash_of l.image)
      ≡ with_objects (map plain_struct l.structs.items) (layout_view l.layout) 0 (map plain_object l.objs) (flash_of l.initial.image);
}
