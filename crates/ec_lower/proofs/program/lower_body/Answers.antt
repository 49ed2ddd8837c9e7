use Rattle.std.proofs.Common.{◌≡◌, List, [], ◌∷◌, ◌++◌, None, map, ap, sym, ◌∙◌}
use Rattle.std.proofs.lemmas.List.{append-nil}
use Rattle.ec_core.specs.Plain.{plain_program, plain_stmt}
use Rattle.ec_core.specs.PortTable.{plain_table}
use Rattle.ec_ir.specs.Operations.{PlainIr, plain_ir, label, return_from}
use Rattle.ec_lower_code.specs.Code.{end_of, end_code, stmt_code}
use Rattle.ec_lower.proofs.Steps.{so}
use Rattle.ec_lower.proofs.program.lower_body.Goals as goal

pub returns-then-body_returns : goal.returns-then-body_returns
returns-then-body_returns c =
    let e : end_code (plain_stmt c.args.body.now) ≡ [] = ap end_of (sym c.body_returns.ensures ∙ c.if-body_returns.true) in
    sym (append-nil (map plain_ir c.put.new.code.items)) ∙ (c.in_ok-put.ensures [] ∙ (c.in_ok-lower_stmt.ensures.code _
    ∙ ap (λ (end : List PlainIr). map plain_ir c.args.code.now.items ++ stmt_code (plain_program c.args.program.now)
    (plain_table c.args.io.now) (plain_stmt c.args.body.now) 1 0 0 (label 0 ∷ end)) (sym e)))

pub returns-else-body_returns : goal.returns-else-body_returns
returns-else-body_returns c =
    let e : end_code (plain_stmt c.args.body.now) ≡ return_from None ∷ [] = ap end_of
    (sym c.body_returns.ensures ∙ c.if-body_returns.false) in
    so c.put-else-body_returns.result c.put-else-body_returns.ensures (λ h.
    sym (append-nil (map plain_ir c.put-else-body_returns.new.code.items)) ∙ (h [] ∙ (c.in_ok-put.ensures _
    ∙ (c.in_ok-lower_stmt.ensures.code _ ∙ ap (λ (end : List PlainIr). map plain_ir c.args.code.now.items
    ++ stmt_code (plain_program c.args.program.now) (plain_table c.args.io.now) (plain_stmt c.args.body.now) 1 0 0 (label 0 ∷ end)) (sym e)))))
