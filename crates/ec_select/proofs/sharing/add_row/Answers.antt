use Rattle.std.proofs.Common.{◌≡◌, ◌∙◌, ap, sym, map, List, true, false, refl}
use Rattle.ec_core_shapes.specs.Shapes.{same_shape}
use Rattle.ec_ir.specs.Operations.{plain_ir}
use Rattle.ec_shapes.specs.Shapes.{has}
use Rattle.ec_select.specs.declared.sharing.Row as measured_row
use Rattle.ec_select.specs.Seen.{plain_row, plain_use}
use Rattle.ec_select.specs.Sharing.{Row, row_of, shape_of, stands_once}
use Rattle.ec_select.proofs.Rows.{rows_have, row_added}
use Rattle.ec_select.proofs.sharing.add_row.Goals as goal

pub returns-then-has_shape-clause-rows : goal.returns-then-has_shape-clause-rows
returns-then-has_shape-clause-rows c shapes e =
    let s = shape_of (plain_ir c.args.i.now) in
    let here : c.has_shape.result ≡ has same_shape (map (λ (r : Row). r.shape) (map plain_row c.args.rows.now.items)) s =
    c.has_shape.ensures
    ∙ ap (λ (xs : List measured_row.Row). has same_shape (map (λ (r : Row). r.shape) (map plain_row xs)) s) c.as_slice.ensures.value in
    let t : has same_shape shapes s ≡ true =
    sym (here ∙ rows_have (map plain_use c.args.uses.now) _ shapes s e) ∙ c.if-has_shape.true in
    e ∙ rw t refl

pub returns-clause-rows : goal.returns-clause-rows
returns-clause-rows c shapes e =
    let s = shape_of (plain_ir c.args.i.now) in
    let us = map plain_use c.args.uses.now in
    let here : c.has_shape.result ≡ has same_shape (map (λ (r : Row). r.shape) (map plain_row c.args.rows.now.items)) s =
    c.has_shape.ensures
    ∙ ap (λ (xs : List measured_row.Row). has same_shape (map (λ (r : Row). r.shape) (map plain_row xs)) s) c.as_slice.ensures.value in
    let t : has same_shape shapes s ≡ false = sym (here ∙ rows_have us _ shapes s e) ∙ c.if-has_shape.false in
    let once : c.in_ok-once.once ≡ stands_once us s = c.in_ok-once.ensures in
    let r : measured_row.Row = record { operation = c.args.i; once = c.in_ok-once.once } in
    let q : plain_row r ≡ row_of us s =
    ap (λ b. let x : Row = record { shape = s; once = b } in x) once in
    row_added us shapes s r c.args.rows.now.items c.push.new.items.items c.in_ok-push.ensures.ok q t e
