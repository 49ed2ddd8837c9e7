use Rattle.std.proofs.Common.{◌≡◌, map, drop}
use Rattle.ec_core_shapes.specs.Shapes.{same_shape}
use Rattle.ec_ir.specs.Operations.{plain_ir}
use Rattle.ec_select_routines.specs.Sizes.{of_shape}
use Rattle.ec_select.specs.Seen.{plain_use}
use Rattle.ec_select.specs.Sharing.{sizes, shape_of}
use Rattle.ec_select.proofs.sharing.words_of_shape.Given as goal

abbrev pub invariant-loop-k : goal.invariant-loop-k
invariant-loop-k l = record {
  own : l.words.own ≡ of_shape same_shape sizes.shape sizes.own (drop l.k (map plain_use l.uses)) (shape_of (plain_ir l.i));
  call : l.words.call ≡ of_shape same_shape sizes.shape sizes.call (drop l.k (map plain_use l.uses)) (shape_of (plain_ir l.i));
}
