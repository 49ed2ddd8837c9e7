use Rattle.std.proofs.Common.{◌≡◌, ◌++◌, ◌+◌, ℕ, List, map, sym, ◌∙◌, ap, Some, append-nil}
use Rattle.std.specs.Prelude.{slice_get}
use Rattle.std.proofs.lemmas.List.{length-map}
use Rattle.ec_ir.specs.Operations.{plain_ir_function, plain_ir_program}
use Rattle.ec_select_live.specs.Tables.{needs_of}
use Rattle.ec_select.specs.Labels.{label_count}
use Rattle.ec_select.specs.Program.{code_of}
use Rattle.ec_select.specs.Seen.{plain_row, tables_in}
use Rattle.ec_select.specs.Sharing.{routine_among}
use Rattle.ec_select.proofs.Added.{function_there, one_more_function, next_first, table_read}
use Rattle.ec_select.proofs.functions.add_functions.Goals as goal

pub loop-f-init : goal.loop-f-init
loop-f-init c = record {
  first = ap (λ (n : ℕ). 1 + n) (c.len.ensures ∙ sym (length-map c.args.ir.now.funcs.items plain_ir_function));
  written = sym (append-nil c.args.out.now.items);
}

pub add_function-requires-clause-is : goal.add_function-requires-clause-is
add_function-requires-clause-is c = function_there c.args.ir.now.funcs.items c.as_slice-g-items.result.now c.loop-f.f
    c.g-item.result c.as_slice-g-items.ensures c.loop-f-test.true c.g-item.is

pub loop-f-preserved : goal.loop-f-preserved
loop-f-preserved c =
    let p = plain_ir_program c.args.ir.now in
    let g = plain_ir_function c.g-item.result in
    let f = c.loop-f.f in
    let routines = routine_among c.args.routines (map plain_row c.args.rows.now) in
    let is : slice_get p.functions f ≡ Some g =
    function_there c.args.ir.now.funcs.items c.as_slice-g-items.result.now f c.g-item.result c.as_slice-g-items.ensures
    c.loop-f-test.true c.g-item.is in
    let within = table_read c.args.tables.now c.args.ir.now.funcs.items c.as_slice-g-items.result.now f c.index-tables-f.result
    c.requires.tables c.as_slice-g-items.ensures c.loop-f-test.true c.index-tables-f.is in
    let next : c.in_ok-next.next ≡ c.loop-f.first + label_count g.code = c.in_ok-next.ensures in
    let more : c.add_function.new.out.items ≡ c.loop-f.out.items ++ code_of c.args.core p routines (tables_in c.args.tables.now f) f (Some g) =
    c.in_ok-add_function.ensures
    ∙ ap (λ (t : List (List ℕ)). c.loop-f.out.items ++ code_of c.args.core p routines (needs_of t) f (Some g)) within in
    record {
      first = next ∙ ap (λ (n : ℕ). n + label_count g.code) c.loop-f.invariant.first ∙ sym (next_first p.functions f g is);
      written = one_more_function c.args.core p routines (tables_in c.args.tables.now) f g c.args.out.now.items c.loop-f.out.items
          c.add_function.new.out.items is c.loop-f.invariant.written more;
    }
