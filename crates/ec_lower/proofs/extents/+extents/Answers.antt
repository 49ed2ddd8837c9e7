use Rattle.std.proofs.Common.{◌≡◌, ◌∙◌, ap, sym, arith, rules}
use Rattle.std.proofs.lemmas.Grind.{common_steps}
use Rattle.std.proofs.lemmas.Result.{IfOk-weaker}
use Rattle.ec_core.specs.Needs.{operand_needs, node_need}
use Rattle.ec_core.specs.Plain.{call, plain_exprs, plain_node}
use Rattle.ec_lower.specs.Sizes.{node_size, exprs_size}
use Rattle.ec_lower_code.specs.Code.{node_labels}
use Rattle.ec_lower.proofs.Lists.{plain_call, smaller_expr}
use Rattle.ec_lower.proofs.extents.+extents.Goals as goal

pub args_extent-expr_extent-requires : goal.args_extent-expr_extent-requires
args_extent-expr_extent-requires t c = first_of (grind (arith, common_steps, smaller_expr), search (rules, smaller_expr))

pub choice_extent-args_extent-requires : goal.choice_extent-args_extent-requires
choice_extent-args_extent-requires t c =
    let e = ap node_size (plain_call c.in-Call.field-0 c.in-Call.args) in
    let i = ap (λ node. node_size (plain_node node)) c.in-Call.is in
    let a = ap (λ es. exprs_size (plain_exprs es)) c.as_slice.ensures in
    let d = c.decreases in
    omega (arith, e, i, a, d)

pub choice_extent-returns-in-Call-clause-labels : goal.choice_extent-returns-in-Call-clause-labels
choice_extent-returns-in-Call-clause-labels t c =
    let is : plain_node c.args.node.now ≡ call c.in-Call.field-0 (plain_exprs c.as_slice.result.now) = ap plain_node c.in-Call.is
    ∙ (plain_call c.in-Call.field-0 c.in-Call.args ∙ ap (λ es. call c.in-Call.field-0 (plain_exprs es)) (sym c.as_slice.ensures)) in
    IfOk-weaker c.args_extent.result _ _ (λ x h. h ∙ ap node_labels (sym is)) c.args_extent.ensures.labels

pub choice_extent-returns-in-Call-clause-places : goal.choice_extent-returns-in-Call-clause-places
choice_extent-returns-in-Call-clause-places t c =
    let is : plain_node c.args.node.now ≡ call c.in-Call.field-0 (plain_exprs c.as_slice.result.now) = ap plain_node c.in-Call.is
    ∙ (plain_call c.in-Call.field-0 c.in-Call.args ∙ ap (λ es. call c.in-Call.field-0 (plain_exprs es)) (sym c.as_slice.ensures)) in
    IfOk-weaker c.args_extent.result _ _ (λ x h. h ∙ ap (λ node. node_need (operand_needs node)) (sym is)) c.args_extent.ensures.places
