use Rattle.std.proofs.Common.{◌≡◌, ◌+◌, ◌≤◌, ◌∙◌, ℕ, map, length, ap, sym, Some, arith}
use Rattle.std.specs.Prelude.{slice_get}
use Rattle.std.proofs.lemmas.List.{length-map}
use Rattle.ec_ir.specs.Operations.{plain_ir_function, plain_ir_program}
use Rattle.ec_select.specs.Labels.{label_count}
use Rattle.ec_select.proofs.Added.{next_first, function_there}
use Rattle.ec_select.proofs.functions.routines_begin.Goals as goal

pub overflow_add-begin : goal.overflow_add-begin
overflow_add-begin c =
    let few : length (map plain_ir_function c.args.ir.now.funcs.items) ≤ 256 = c.requires.1.function_count in
    let same = length-map c.args.ir.now.funcs.items plain_ir_function in
    let len : c.len.result ≡ length c.args.ir.now.funcs.items = c.len.ensures in
    omega (arith, few, same, len)

pub loop-g-preserved : goal.loop-g-preserved
loop-g-preserved c =
    let p = plain_ir_program c.args.ir.now in
    let g = plain_ir_function c.g-item.result in
    let is : slice_get p.functions c.loop-g.g-index ≡ Some g =
    function_there c.args.ir.now.funcs.items c.as_slice-g-items.result.now c.loop-g.g-index c.g-item.result
    c.as_slice-g-items.ensures c.loop-g-test.true c.g-item.is in
    let next : c.in_ok-begin.begin ≡ c.loop-g.begin + label_count g.code = c.in_ok-begin.ensures in
    next ∙ ap (λ (n : ℕ). n + label_count g.code) c.loop-g.invariant ∙ sym (next_first p.functions c.loop-g.g-index g is)
