use Rattle.std.proofs.Common.{◌≡◌, ◌∙◌, ap, sym, arith, rules}
use Rattle.std.proofs.lemmas.Grind.{common_steps}
use Rattle.std.proofs.lemmas.Result.{IfOk-weaker}
use Rattle.ec_core.specs.Needs.{kind_need}
use Rattle.ec_core.specs.Plain.{block, plain_kind, plain_stmts}
use Rattle.ec_lower.specs.Sizes.{kind_size, stmts_size}
use Rattle.ec_lower.proofs.Lists.{plain_block, smaller_stmt}
use Rattle.ec_lower.proofs.extents.+places.Goals as goal

pub stmts_places-stmt_places-requires : goal.stmts_places-stmt_places-requires
stmts_places-stmt_places-requires t c = first_of (grind (arith, common_steps, smaller_stmt), search (rules, smaller_stmt))

pub stmt_places-stmts_places-requires : goal.stmt_places-stmts_places-requires
stmt_places-stmts_places-requires t c =
    let e = ap kind_size (plain_block c.in-Block.ss) in
    let i = ap (λ kind. kind_size (plain_kind kind)) c.in-Block.is in
    let a = ap (λ ss. stmts_size (plain_stmts ss)) c.as_slice.ensures in
    let d = c.decreases in
    omega (arith, e, i, a, d)

pub stmt_places-returns-in-Block : goal.stmt_places-returns-in-Block
stmt_places-returns-in-Block t c =
    let is : plain_kind c.args.s.now.kind ≡ block (plain_stmts c.as_slice.result.now) = ap plain_kind c.in-Block.is
    ∙ (plain_block c.in-Block.ss ∙ ap (λ ss. block (plain_stmts ss)) (sym c.as_slice.ensures)) in
    IfOk-weaker c.stmts_places.result _ _ (λ n h. h ∙ ap kind_need (sym is)) c.stmts_places.ensures
