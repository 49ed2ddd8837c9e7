use Rattle.std.proofs.Common.{◌++◌, ◌∙◌, ap, sym, arith, List, drop, map}
use Rattle.ec_core.specs.Layout.{plain_leaf}
use Rattle.ec_core.specs.PortTable.{plain_table}
use Rattle.ec_core.specs.Plain.{plain_exprs, plain_program}
use Rattle.ec_ir.specs.Operations.{PlainIr, plain_ir}
use Rattle.ec_lower_code.specs.Code.{exprs_labels}
use Rattle.ec_lower.proofs.Lists.{list_next}
use Rattle.ec_lower.proofs.Steps.{list_got, list_end, init_out, init_step}
use Rattle.ec_lower.proofs.statements.lower_values.Goals as goal

pub loop-i-preserved : goal.loop-i-preserved
loop-i-preserved c =
    let next = list_next c.args.values.now c.loop-i.i c.index-values-i.result (omega (arith, c.loop-i-test.true)) c.index-values-i.is in
    let got = list_got c.args.leaves.now.items c.loop-i.i c.in-Some.leaf.now c.in-Some.ensures in
    let labels = ap (λ es. exprs_labels (plain_exprs es)) next in (
      omega (arith, labels, c.in_ok-k-in-Some.ensures.next, c.loop-i.invariant.0),
      λ rest. rw (c.in_ok-k-in-Some.ensures.next) (c.in_ok-put_object_store-in-Some.ensures _
          ∙ (c.in_ok-k-in-Some.ensures.code _ ∙ (sym (ap (λ (z : List PlainIr). map plain_ir c.loop-i.code.items ++ z)
          (init_step (plain_program c.args.program.now) (plain_table c.args.io.now) c.args.leaves.now.items c.args.o c.loop-i.i
          c.args.values.now c.in-Some.leaf.now c.index-values-i.result c.loop-i.k rest got next)) ∙ c.loop-i.invariant.1 rest))),
    )

pub returns-clause-code : goal.returns-clause-code
returns-clause-code c = λ rest.
    ap (λ (z : List PlainIr). map plain_ir c.loop-i.code.items ++ z)
    (sym (init_out (plain_program c.args.program.now) (plain_table c.args.io.now)
    (map plain_leaf (drop c.loop-i.i c.args.leaves.now.items)) c.args.o (drop c.loop-i.i c.args.values.now) c.loop-i.k rest
    (list_end c.args.values.now c.loop-i.i (omega (arith, c.loop-i-test.false))))) ∙ c.loop-i.invariant.1 rest
