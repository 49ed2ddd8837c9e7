use Rattle.std.proofs.Common.{◌≡◌, ◌∙◌, sym, ap, List}
use Rattle.std.specs.Prelude.{option_and_then}
use Rattle.ec_core.specs.declared.statements.Stmt.{Stmt}
use Rattle.ec_core.specs.Plain.{PlainKind, a_stmt, block, statement, plain_kind, plain_stmts}
use Rattle.ec_core_steps.specs.Counted.{declared_among, int_constant, start_of}
use Rattle.ec_core_steps.proofs.Trees.{plain_block}
use Rattle.ec_core_steps.proofs.counted.started_by.Goals as goal

pub returns-in-Block : goal.returns-in-Block
returns-in-Block c =
    let o = c.args.object in
    let s = c.args.stmt.now in
    let tree : plain_kind s.kind ≡ block (plain_stmts c.in-Block.stmts.items) =
    ap plain_kind c.in-Block.is ∙ plain_block c.in-Block.stmts in
    c.declared_among.ensures
    ∙ ap (λ (ss : List Stmt). option_and_then int_constant (declared_among o (plain_stmts ss))) c.as_slice-in-Block.ensures
    ∙ sym (ap (λ (kind : PlainKind). option_and_then int_constant (start_of o (a_stmt (statement s.unit s.at kind)))) tree)
