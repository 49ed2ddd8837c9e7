use Rattle.std.proofs.Common.{◌++◌, ◌∙◌, List, ap, sym, map}
use Rattle.ec_iohw.specs.declared.table.Choice.{Choice}
use Rattle.ec_core.specs.PortTable.{plain_table}
use Rattle.ec_ir.specs.Operations.{plain_ir}
use Rattle.ec_lower_code.specs.Code.{choices_code}
use Rattle.ec_lower.proofs.Lists.{choices_more}
use Rattle.ec_lower.proofs.Steps.{so}
use Rattle.ec_lower.proofs.dynamics.+put_choices.Goals as goal

pub returns-in_ok-put_group-in-Some : goal.returns-in_ok-put_group-in-Some
returns-in_ok-put_group-in-Some t c =
    let table = plain_table c.args.io.now in
    let some = sym c.is_empty.ensures ∙ c.if-is_empty.false in
    so c.put.result c.put.ensures (λ h rest.
    rw (c.in_ok-end-in-Some.ensures, c.in_ok-next-in-Some.ensures) at (h rest
    ∙ (c.in_ok-put_group-in-Some.ensures _ ∙ (c.in_ok-put_turn-in-Some.ensures _
    ∙ (c.in_ok-put_choices-in-Some.ensures _ ∙ c.in_ok-put_test-in-Some.ensures _))))
    ∙ sym (ap (λ code. map plain_ir c.args.code.now.items ++ code) (ap (λ (cs : List Choice). choices_code c.args.acquire table c.args.mode
    c.args.cell cs c.args.l c.args.t rest) c.in-Some.ensures.cases.0
    ∙ choices_more c.args.acquire table c.args.mode c.args.cell c.in-Some.c.now c.in-Some.others.now c.args.l c.args.t rest some)))
