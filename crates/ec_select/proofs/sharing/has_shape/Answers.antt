use Rattle.std.proofs.Common.{◌≡◌, ◌∙◌, ap, sym, map, List, true, false, refl}
use Rattle.ec_core_shapes.specs.Shapes.{same_shape}
use Rattle.ec_ir.specs.Operations.{plain_ir}
use Rattle.ec_shapes.specs.Shapes.{has}
use Rattle.ec_select.specs.Seen.{plain_row, row_operation, HasRoutine}
use Rattle.ec_select.specs.Sharing.{Row, shape_of}
use Rattle.ec_select.proofs.Lists.{drop_front}
use Rattle.ec_select.proofs.Rows.{all_read}
use Rattle.ec_select.proofs.sharing.has_shape.Goals as goal

pub same_shape-requires-clause-one : goal.same_shape-requires-clause-one
same_shape-requires-clause-one c =
    (all_read row_operation HasRoutine c.args.rows.now c.loop-row.row-index c.row-item.result c.requires.each c.loop-row-test.true
    c.row-item.is).0

pub returns-then-same_shape : goal.returns-then-same_shape
returns-then-same_shape c =
    let s = shape_of (plain_ir c.args.i.now) in
    let d = drop_front plain_row c.args.rows.now c.loop-row.row-index c.row-item.result c.loop-row-test.true c.row-item.is in
    let t : same_shape (shape_of (row_operation c.row-item.result)) s ≡ true = sym c.same_shape.ensures ∙ c.if-same_shape.true in
    sym (c.loop-row.invariant ∙ ap (λ (xs : List Row). has same_shape (map (λ r. r.shape) xs) s) d ∙ rw t refl)

pub loop-row-preserved : goal.loop-row-preserved
loop-row-preserved c =
    let s = shape_of (plain_ir c.args.i.now) in
    let d = drop_front plain_row c.args.rows.now c.loop-row.row-index c.row-item.result c.loop-row-test.true c.row-item.is in
    let t : same_shape (shape_of (row_operation c.row-item.result)) s ≡ false = sym c.same_shape.ensures ∙ c.if-same_shape.false in
    c.loop-row.invariant ∙ ap (λ (xs : List Row). has same_shape (map (λ r. r.shape) xs) s) d ∙ rw t refl
