use Rattle.std.proofs.Common.{◌≡◌, ◌∙◌, ap}
use Rattle.ec_core.specs.Plain.{block, plain_kind, plain_stmts}
use Rattle.ec_core_steps.proofs.Trees.{plain_block}
use Rattle.ec_core_steps.proofs.touches.+statements.Goals as goal

pub in_kind-returns-in-Block : goal.in_kind-returns-in-Block
in_kind-returns-in-Block t c =
    let tree : plain_kind c.args.kind.now ≡ block (plain_stmts c.in-Block.stmts.items) =
    ap plain_kind c.in-Block.is ∙ plain_block c.in-Block.stmts in
    rw (tree, ← c.as_slice.ensures) c.in_stmts.ensures
