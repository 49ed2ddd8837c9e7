use Rattle.std.proofs.Common.{◌≡◌, ◌∙◌, ap, sym, arith, List}
use Rattle.std.proofs.lemmas.List.{drop_all}
use Rattle.ec_core.specs.declared.statements.Stmt.{Stmt}
use Rattle.ec_core.specs.Plain.{block, plain_kind, plain_program, plain_stmt, plain_stmts}
use Rattle.ec_core_steps.proofs.Trees.{plain_block}
use Rattle.ec_core_steps.specs.Laws.{stmts_uncounted}
use Rattle.ec_core_steps.proofs.Lists.{list_next}
use Rattle.ec_core_steps.proofs.Firsts.{first_on, first_end}
use Rattle.ec_core_steps.proofs.uncounted.+statements.Goals as goal

pub in_stmts-loop-stmt-preserved : goal.in_stmts-loop-stmt-preserved
in_stmts-loop-stmt-preserved t c =
    let p = plain_program c.args.within.now.program.now in
    let f = c.args.within.now.function in
    let whole = plain_stmt c.args.within.now.body.now in
    let next = list_next c.args.stmts.now c.loop-stmt.stmt-index c.stmt-item.result (omega (arith, c.loop-stmt-test.true)) c.stmt-item.is in
    first_on c.loop-stmt.first _ _ _ _ c.first_site-first.result c.in_stmt.result c.first_site-first.ensures c.in_stmt.ensures
    (ap (λ (ss : List Stmt). stmts_uncounted p f whole (plain_stmts ss)) next) c.loop-stmt.invariant

pub in_stmts-returns : goal.in_stmts-returns
in_stmts-returns t c =
    let p = plain_program c.args.within.now.program.now in
    let f = c.args.within.now.function in
    let whole = plain_stmt c.args.within.now.body.now in
    let none = drop_all c.loop-stmt.stmt-index c.args.stmts.now (omega (arith, c.loop-stmt-test.false)) in
    first_end c.loop-stmt.first _ _ (ap (λ (ss : List Stmt). stmts_uncounted p f whole (plain_stmts ss)) none) c.loop-stmt.invariant

pub in_kind-returns-in-Block : goal.in_kind-returns-in-Block
in_kind-returns-in-Block t c =
    let tree : plain_kind c.args.kind.now ≡ block (plain_stmts c.in-Block.stmts.items) =
    ap plain_kind c.in-Block.is ∙ plain_block c.in-Block.stmts in
    rw (tree, ← c.as_slice.ensures) c.in_stmts.ensures
