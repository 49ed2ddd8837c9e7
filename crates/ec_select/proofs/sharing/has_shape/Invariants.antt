use Rattle.std.proofs.Common.{◌≡◌, map, drop}
use Rattle.ec_core_shapes.specs.Shapes.{same_shape}
use Rattle.ec_ir.specs.Operations.{plain_ir}
use Rattle.ec_shapes.specs.Shapes.{has}
use Rattle.ec_select.specs.Seen.{plain_row}
use Rattle.ec_select.specs.Sharing.{Row, shape_of}
use Rattle.ec_select.proofs.sharing.has_shape.Given as goal

abbrev pub invariant-loop-row : goal.invariant-loop-row
invariant-loop-row l =
    has same_shape (map (λ (r : Row). r.shape) (map plain_row l.rows)) (shape_of (plain_ir l.i))
    ≡ has same_shape (map (λ (r : Row). r.shape) (drop l.row-index (map plain_row l.rows))) (shape_of (plain_ir l.i))
