use Rattle.std.proofs.Common.{◌≡◌, ◌∙◌, ap}
use Rattle.std.proofs.lemmas.Result.{on_ok_weaker}
use Rattle.ec_core.specs.Needs.{exprs_calls}
use Rattle.ec_core.specs.Plain.{call, plain_node, plain_exprs}
use Rattle.ec_check_recursion.proofs.Trees.{plain_call, one_more_call}
use Rattle.ec_check_recursion.proofs.calls.+calls.Goals as goal

pub in_node-returns-in_ok-push-in-Call : goal.in_node-returns-in_ok-push-in-Call
in_node-returns-in_ok-push-in-Call t c =
    let tree : plain_node c.args.node.now ≡ call c.in-Call.function (plain_exprs c.in-Call.args.items) =
    ap plain_node c.in-Call.is ∙ plain_call c.in-Call.function c.in-Call.args in
    let args = rw c.as_slice.ensures at c.in_exprs.ensures in
    rw tree
    (on_ok_weaker c.in_exprs.result
    (one_more_call c.args.out.now.items c.push.new.self.items c.in_exprs.new.out.items c.in-Call.function
    (exprs_calls (plain_exprs c.in-Call.args.items)) c.in_ok-push-in-Call.ensures.ok) args)
