use Rattle.std.proofs.Common.{◌≡◌, ◌+◌, ◌≤◌, ◌∙◌, ◌∷◌, [], ℕ, List, map, length, ap, subst, arith, Some, length-append}
use Rattle.std.specs.Prelude.{slice_get}
use Rattle.std.proofs.lemmas.List.{length-map}
use Rattle.ec_ir.specs.declared.operations.IrFunc.{IrFunc}
use Rattle.ec_ir.specs.Operations.{plain_ir_function, plain_ir_program}
use Rattle.ec_select.specs.Seen.{tables_in}
use Rattle.ec_select.specs.Selected.{AreTables}
use Rattle.ec_select.proofs.Added.{function_there, one_more_table, no_tables}
use Rattle.ec_select.proofs.tables.tables_of.Goals as goal

pub loop-f-init : goal.loop-f-init
loop-f-init c = record {
  are = no_tables (plain_ir_program c.args.ir.now) c.new-tables.result.items;
  count = ap length c.new-tables.ensures.items;
}

pub table_of-requires-clause-is : goal.table_of-requires-clause-is
table_of-requires-clause-is c = function_there c.args.ir.now.funcs.items c.as_slice-g-items.result.now c.loop-f.f
    c.g-item.result c.as_slice-g-items.ensures c.loop-f-test.true c.g-item.is

pub loop-f-preserved : goal.loop-f-preserved
loop-f-preserved c =
    let p = plain_ir_program c.args.ir.now in
    let g = plain_ir_function c.g-item.result in
    let is : slice_get p.functions c.loop-f.f ≡ Some g =
    function_there c.args.ir.now.funcs.items c.as_slice-g-items.result.now c.loop-f.f c.g-item.result
    c.as_slice-g-items.ensures c.loop-f-test.true c.g-item.is in
    let same : length c.push.new.items.items ≡ length c.loop-f.tables.items + 1 =
    ap length c.in_ok-push.ensures.ok ∙ length-append c.loop-f.tables.items (c.in_ok-table.table ∷ []) in
    record {
      are = one_more_table p c.loop-f.f c.loop-f.tables.items c.push.new.items.items c.in_ok-table.table g c.loop-f.invariant.count is
          c.in_ok-push.ensures.ok c.in_ok-table.ensures.live c.in_ok-table.ensures.least c.loop-f.invariant.are;
      count = same ∙ ap (λ (n : ℕ). n + 1) c.loop-f.invariant.count;
    }

pub returns-clause-are : goal.returns-clause-are
returns-clause-are c =
    let funcs = c.args.ir.now.funcs.items in
    let past : length funcs ≤ c.loop-f.f =
    subst (λ (xs : List IrFunc). length xs ≤ c.loop-f.f) c.as_slice-g-items.ensures c.loop-f-test.false in
    let within : c.loop-f.f ≤ length funcs =
    subst (λ (xs : List IrFunc). c.loop-f.f ≤ length xs) c.as_slice-g-items.ensures c.loop-f.auto.f-end in
    let end : c.loop-f.f ≡ length (map plain_ir_function funcs) = omega (arith, past, within, length-map funcs plain_ir_function) in
    subst (λ (n : ℕ). AreTables (plain_ir_program c.args.ir.now) (tables_in c.loop-f.tables.items) n) end c.loop-f.invariant.are
