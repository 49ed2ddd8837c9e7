use Rattle.std.proofs.Common.{◌≡◌, ◌++◌, ◌∙◌, ℕ, List, map, ap}
use Rattle.ec_ir.specs.Operations.{plain_ir_function, plain_ir_program}
use Rattle.ec_select_live.specs.Tables.{needs_of}
use Rattle.ec_select.specs.Seen.{plain_use, tables_in}
use Rattle.ec_select.specs.Sharing.{function_uses}
use Rattle.ec_select.proofs.Added.{function_there, function_left, table_read}
use Rattle.ec_select.proofs.Rows.{one_function_more}
use Rattle.ec_select.proofs.uses.uses_of.Goals as goal

pub add_function_uses-requires-clause-is : goal.add_function_uses-requires-clause-is
add_function_uses-requires-clause-is c = function_there c.args.ir.now.funcs.items c.as_slice-g-items.result.now c.loop-f.f
    c.g-item.result c.as_slice-g-items.ensures c.loop-f-test.true c.g-item.is

pub loop-f-preserved : goal.loop-f-preserved
loop-f-preserved c =
    let p = plain_ir_program c.args.ir.now in
    let g = plain_ir_function c.g-item.result in
    let f = c.loop-f.f in
    let within = table_read c.args.tables.now c.args.ir.now.funcs.items c.as_slice-g-items.result.now f c.index-tables-f.result
    c.requires.tables c.as_slice-g-items.ensures c.loop-f-test.true c.index-tables-f.is in
    let more : map plain_use c.add_function_uses.new.uses.items ≡ map plain_use c.loop-f.uses.items
    ++ function_uses c.args.core p (tables_in c.args.tables.now f) f g =
    c.in_ok-add_function_uses.ensures
    ∙ ap (λ (t : List (List ℕ)). map plain_use c.loop-f.uses.items ++ function_uses c.args.core p (needs_of t) f g) within in
    one_function_more c.args.core p (tables_in c.args.tables.now) f g _ _ _ _ _
    (function_left c.args.ir.now.funcs.items c.as_slice-g-items.result.now f c.g-item.result c.as_slice-g-items.ensures
    c.loop-f-test.true c.g-item.is) more c.loop-f.invariant
