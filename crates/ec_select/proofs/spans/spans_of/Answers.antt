use Rattle.std.proofs.Common.{◌≡◌, ◌<◌, List, map, length, get_or, subst}
use Rattle.ec_core.specs.declared.programs.Obj.{Obj}
use Rattle.ec_core.specs.Plain.{plain_struct}
use Rattle.ec_ir.specs.Operations.{plain_ir_program}
use Rattle.ec_select.specs.Program.{spans_of}
use Rattle.ec_select.proofs.SpanLists.{one_span_more}
use Rattle.ec_select.proofs.spans.spans_of.Goals as goal

pub loop-o-preserved : goal.loop-o-preserved
loop-o-preserved c =
    let ir = c.args.ir.now in
    let q = c.as_slice-obj-items.ensures in
    let l : c.loop-o.o < length ir.objs.items = subst (λ (xs : List Obj). c.loop-o.o < length xs) q (c.loop-o-test.true) in
    let here : c.obj-item.result ≡ get_or ir.objs.items c.loop-o.o c.obj-item.result =
    subst (λ (xs : List Obj). c.obj-item.result ≡ get_or xs c.loop-o.o c.obj-item.result) q c.obj-item.is in
    one_span_more (map plain_struct ir.structs.items) ir.objs.items c.loop-o.o c.obj-item.result c.loop-o.spans.items
    c.add_span.new.spans.items (spans_of (plain_ir_program ir)) l here c.in_ok-add_span.ensures c.loop-o.invariant
