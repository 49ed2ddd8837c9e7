use Rattle.std.proofs.Common.{◌≡◌, ◌+◌, ◌∙◌, ap, sym, List, true, false, refl}
use Rattle.std.specs.Prelude.{map}
use Rattle.ec_core_shapes.specs.Shapes.{same_shape}
use Rattle.ec_ir.specs.Operations.{plain_ir}
use Rattle.ec_select.specs.Seen.{plain_row, row_operation, HasRoutine}
use Rattle.ec_select.specs.Sharing.{Row, is_shaped, label_among, routine_among, shape_of}
use Rattle.ec_select.proofs.Lists.{drop_front}
use Rattle.ec_select.proofs.Rows.{all_read, label_further}
use Rattle.ec_select.proofs.routines.routine_of.Goals as goal

pub same_shape-requires-clause-one : goal.same_shape-requires-clause-one
same_shape-requires-clause-one c =
    (all_read row_operation HasRoutine c.args.rows.now c.loop-k.k c.index-rows-k.result c.requires.each c.loop-k-test.true
    c.index-rows-k.is).0

pub returns-then-same_shape : goal.returns-then-same_shape
returns-then-same_shape c =
    let s = shape_of (plain_ir c.args.i.now) in
    let rows = map plain_row c.args.rows.now in
    let shaped : is_shaped (plain_ir c.args.i.now) ≡ true = sym c.is_shaped.ensures ∙ c.if-not-is_shaped.false in
    let d = drop_front plain_row c.args.rows.now c.loop-k.k c.index-rows-k.result c.loop-k-test.true c.index-rows-k.is in
    let t : same_shape (shape_of (row_operation c.index-rows-k.result)) s ≡ true = sym c.same_shape.ensures ∙ c.if-same_shape.true in
    let a : routine_among c.args.first rows (plain_ir c.args.i.now) ≡ label_among c.args.first rows s = rw shaped refl in
    c.label_where.ensures
    ∙ sym (a ∙ c.loop-k.invariant ∙ ap (λ (xs : List Row). label_among (c.args.first + c.loop-k.k) xs s) d ∙ rw t refl)

pub loop-k-preserved : goal.loop-k-preserved
loop-k-preserved c =
    let s = shape_of (plain_ir c.args.i.now) in
    let d = drop_front plain_row c.args.rows.now c.loop-k.k c.index-rows-k.result c.loop-k-test.true c.index-rows-k.is in
    let t : same_shape (shape_of (row_operation c.index-rows-k.result)) s ≡ false = sym c.same_shape.ensures ∙ c.if-same_shape.false in
    c.loop-k.invariant ∙ label_further c.args.first c.loop-k.k (plain_row c.index-rows-k.result) s _ _ d t
