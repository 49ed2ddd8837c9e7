use Rattle.std.proofs.Common.{◌≡◌, ◌∙◌, ap}
use Rattle.ec_core.specs.Plain.{call, plain_node, plain_exprs}
use Rattle.ec_core_steps.proofs.Trees.{plain_call}
use Rattle.ec_core_steps.proofs.touches.+touches.Goals as goal

pub in_node-returns-in-Call : goal.in_node-returns-in-Call
in_node-returns-in-Call t c =
    let tree : plain_node c.args.node.now ≡ call c.in-Call.field-0 (plain_exprs c.in-Call.args.items) =
    ap plain_node c.in-Call.is ∙ plain_call c.in-Call.field-0 c.in-Call.args in
    rw (tree, ← c.as_slice.ensures) c.in_exprs.ensures
