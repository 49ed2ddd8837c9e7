use Rattle.std.proofs.Common.{◌≡◌, ◌+◌, ◌++◌, ◌∙◌, ap, refl, sym, arith, rules, List, map}
use Rattle.std.proofs.lemmas.Grind.{common_steps}
use Rattle.ec_core.specs.declared.expressions.Expr.{Expr}
use Rattle.ec_core.specs.PortTable.{plain_table}
use Rattle.ec_core.specs.Plain.{PlainNode, call, conditional, logical_or, plain_expr, plain_exprs, plain_node, plain_program, plain_type}
use Rattle.ec_ir.specs.Operations.{plain_ir}
use Rattle.ec_lower.specs.Branches.{plain_branch}
use Rattle.ec_lower.specs.Sizes.{node_size, exprs_size}
use Rattle.ec_lower_code.specs.Code.{args_code, exprs_labels, node_code, node_labels, where_not, where_zero}
use Rattle.ec_lower.proofs.Lists.{plain_call, list_next, smaller_expr}
use Rattle.ec_lower.proofs.Parts.{behind_part, branch_at, branch_else, expr_at, node_at, unread_at, unread_else}
use Rattle.ec_lower.proofs.Steps.{list_end, so}
use Rattle.ec_lower.proofs.expressions.+lower.Goals as goal

pub lower_args-lower_expr-requires : goal.lower_args-lower_expr-requires
lower_args-lower_expr-requires t c = first_of (grind (arith, common_steps, smaller_expr), search (rules, smaller_expr))

pub lower_effect-lower_args-requires : goal.lower_effect-lower_args-requires
lower_effect-lower_args-requires t c =
    let e = ap node_size (plain_call c.in-Call.f c.in-Call.args) in
    let i = ap (λ node. node_size (plain_node node)) c.in-Call.is in
    let a = ap (λ es. exprs_size (plain_exprs es)) c.as_slice.ensures in
    let d = c.decreases in
    (omega (arith, e, i, a, d), c.requires)

pub lower_args-loop-e-preserved : goal.lower_args-loop-e-preserved
lower_args-loop-e-preserved t c =
    let next = list_next c.args.args.now c.loop-e.e-index c.e-item.result (omega (arith, c.loop-e-test.true)) c.e-item.is in
    let labels = ap (λ es. exprs_labels (plain_exprs es)) next in
    let program = plain_program c.args.program.now in (
      omega (arith, labels, c.in_ok-k.ensures.next, c.loop-e.invariant.0),
      λ rest. rw (c.in_ok-k.ensures.next, c.in_ok-u.ensures) (c.in_ok-k.ensures.code _
          ∙ (sym (ap (λ (es : List Expr). map plain_ir c.loop-e.code.items ++ args_code program (plain_table c.args.io.now)
          (plain_exprs es) c.loop-e.k c.loop-e.u rest) next) ∙ c.loop-e.invariant.1 rest)),
    )

pub lower_expr-returns-in_ok-put_unary-in-Unary-clause-code : goal.lower_expr-returns-in_ok-put_unary-in-Unary-clause-code
lower_expr-returns-in_ok-put_unary-in-Unary-clause-code t c = λ rest.
    rw (c.in-Unary.is) (rw (c.deref.ensures) at (c.in_ok-put_unary-in-Unary.ensures rest ∙ c.in_ok-m-in-Unary.ensures.code _))

pub lower_expr-returns-in_ok-put_binary-in-Binary-clause-code : goal.lower_expr-returns-in_ok-put_binary-in-Binary-clause-code
lower_expr-returns-in_ok-put_binary-in-Binary-clause-code t c = λ rest.
    rw (c.in-Binary.is) (rw (
      c.in_ok-k-in-Binary.ensures.next,
      c.in_ok-u-in-Binary.ensures,
      c.deref-in-Binary.ensures,
      c.deref-in-Binary-2.ensures,
      c.deref-in-Binary-3.ensures,
      c.deref-in-Binary-4.ensures,
    ) at (c.in_ok-put_binary-in-Binary.ensures rest
    ∙ (c.in_ok-m-in-Binary.ensures.code _ ∙ c.in_ok-k-in-Binary.ensures.code _)))

pub lower_expr-returns-in_ok-put_conversion-in-Convert-clause-code : goal.lower_expr-returns-in_ok-put_conversion-in-Convert-clause-code
lower_expr-returns-in_ok-put_conversion-in-Convert-clause-code t c = λ rest.
    rw (c.in-Convert.is) (rw (c.deref-in-Convert.ensures, c.deref-in-Convert-2.ensures) at (c.in_ok-put_conversion-in-Convert.ensures rest
    ∙ c.in_ok-m-in-Convert.ensures.code _))

pub lower_expr-returns-in_ok-k-in-Comma-clause-code : goal.lower_expr-returns-in_ok-k-in-Comma-clause-code
lower_expr-returns-in_ok-k-in-Comma-clause-code t c =
    let a : plain_expr _ ≡ plain_expr _ = ap plain_expr c.deref-in-Comma.ensures in
    let b : plain_expr _ ≡ plain_expr _ = ap plain_expr c.deref-in-Comma-2.ensures in
    so c.lower_expr-in-Comma.result c.lower_expr-in-Comma.ensures.code (λ h rest. rw (c.in-Comma.is)
    (expr_at (plain_program c.args.program.now) (plain_table c.args.io.now) _ _ c.args.t h b
    (behind_part c.in_ok-k-in-Comma.ensures.next refl a) rest
    ∙ unread_at (plain_program c.args.program.now) (plain_table c.args.io.now) _ _ c.args.t c.in_ok-k-in-Comma.ensures.code a refl _))

pub lower_unread-returns-in_ok-put_step-in-Step-clause-code : goal.lower_unread-returns-in_ok-put_step-in-Step-clause-code
lower_unread-returns-in_ok-put_step-in-Step-clause-code t c = λ rest.
    rw (c.in-Step.is) (rw (c.in_ok-m-in-Step.ensures.site) at (c.in_ok-put_step-in-Step.ensures rest
    ∙ c.in_ok-m-in-Step.ensures.code _))

pub lower_unread-returns-in_ok-k-in-Comma-clause-code : goal.lower_unread-returns-in_ok-k-in-Comma-clause-code
lower_unread-returns-in_ok-k-in-Comma-clause-code t c =
    let a : plain_expr _ ≡ plain_expr _ = ap plain_expr c.deref.ensures in
    let b : plain_expr _ ≡ plain_expr _ = ap plain_expr c.deref-in-Comma.ensures in
    so c.lower_unread-in-Comma.result c.lower_unread-in-Comma.ensures.code (λ h rest. rw (c.in-Comma.is)
    (unread_at (plain_program c.args.program.now) (plain_table c.args.io.now) _ _ c.args.t h b
    (behind_part c.in_ok-k-in-Comma.ensures.next refl a) rest
    ∙ unread_at (plain_program c.args.program.now) (plain_table c.args.io.now) _ _ c.args.t c.in_ok-k-in-Comma.ensures.code a refl _))

pub lower_effect-returns-in_ok-put-in-Call-clause-next : goal.lower_effect-returns-in_ok-put-in-Call-clause-next
lower_effect-returns-in_ok-put-in-Call-clause-next t c =
    let is : plain_node c.args.node.now ≡ call c.in-Call.f (plain_exprs c.as_slice.result.now) = ap plain_node c.in-Call.is
    ∙ (plain_call c.in-Call.f c.in-Call.args ∙ ap (λ es. call c.in-Call.f (plain_exprs es)) (sym c.as_slice.ensures)) in
    omega (arith, ap node_labels is, c.in_ok-m-in-Call.ensures.next)

pub lower_effect-returns-in_ok-put-in-Call-clause-code : goal.lower_effect-returns-in_ok-put-in-Call-clause-code
lower_effect-returns-in_ok-put-in-Call-clause-code t c = λ rest.
    (let is : plain_node c.args.node.now ≡ call c.in-Call.f (plain_exprs c.in-Call.args.items) = ap plain_node c.in-Call.is
    ∙ plain_call c.in-Call.f c.in-Call.args in
    rw (c.as_slice.ensures, c.as_slice-in-Call.ensures, c.result_temp.ensures) at (c.in_ok-put-in-Call.ensures rest
    ∙ (c.in_ok-store_call-in-Call.ensures _ ∙ c.in_ok-m-in-Call.ensures.code _))
    ∙ ap (λ (node : PlainNode). map plain_ir c.args.code.now.items ++ node_code (plain_program c.args.program.now)
    (plain_table c.args.io.now) (plain_type c.args.ty.now) c.args.mode node c.args.l c.args.t rest) (sym is))

pub lower_choice-returns-in_ok-truth-in-Not-clause-code : goal.lower_choice-returns-in_ok-truth-in-Not-clause-code
lower_choice-returns-in_ok-truth-in-Not-clause-code t c = λ rest. rw (c.in-Not.is)
    (c.in_ok-truth-in-Not.ensures rest
    ∙ branch_at (plain_program c.args.program.now) (plain_table c.args.io.now) _ _ c.args.t c.in_ok-m-in-Not.ensures.code
    (ap plain_expr c.deref.ensures) c.in_ok-k-in-Not.ensures refl _)

pub lower_choice-returns-in_ok-truth-in-And-clause-code : goal.lower_choice-returns-in_ok-truth-in-And-clause-code
lower_choice-returns-in_ok-truth-in-And-clause-code t c =
    let a : plain_expr _ ≡ plain_expr _ = ap plain_expr c.deref-in-And.ensures in
    let b : plain_expr _ ≡ plain_expr _ = ap plain_expr c.deref-in-And-2.ensures in
    λ rest. rw (c.in-And.is) (c.in_ok-truth-in-And.ensures rest
    ∙ (branch_at (plain_program c.args.program.now) (plain_table c.args.io.now) _ _ c.args.t c.in_ok-m-in-And.ensures.code b
    (behind_part c.in_ok-k-in-And-2.ensures.next c.in_ok-k-in-And.ensures a) refl _
    ∙ branch_at (plain_program c.args.program.now) (plain_table c.args.io.now) _ _ c.args.t c.in_ok-k-in-And-2.ensures.code a
    c.in_ok-k-in-And.ensures refl _))

pub lower_choice-returns-in-Or-clause-code : goal.lower_choice-returns-in-Or-clause-code
lower_choice-returns-in-Or-clause-code t c =
    let e = ap (λ (x : Expr). logical_or (plain_expr x) (plain_expr c.deref-in-Or-2.result.now)) c.deref-in-Or.ensures
    ∙ ap (λ (y : Expr). logical_or (plain_expr c.in-Or.a.value) (plain_expr y)) c.deref-in-Or-2.ensures in
    so c.lower_or.result c.lower_or.ensures.code (λ h rest. rw (c.in-Or.is)
    (node_at (plain_program c.args.program.now) (plain_table c.args.io.now) c.args.code.now.items c.lower_or.new.code.items c.args.t
    (plain_type c.args.ty.now) c.args.mode c.args.l h e rest))

pub lower_choice-returns-in-Cond-clause-code : goal.lower_choice-returns-in-Cond-clause-code
lower_choice-returns-in-Cond-clause-code t c =
    let e = ap (λ (x : Expr). conditional (plain_expr x) (plain_expr c.deref-in-Cond-2.result.now) (plain_expr c.deref-in-Cond-3.result.now))
    c.deref-in-Cond.ensures
    ∙ (ap (λ (x : Expr). conditional (plain_expr c.in-Cond.c.value) (plain_expr x) (plain_expr c.deref-in-Cond-3.result.now))
    c.deref-in-Cond-2.ensures
    ∙ ap (λ (x : Expr). conditional (plain_expr c.in-Cond.c.value) (plain_expr c.in-Cond.a.value) (plain_expr x)) c.deref-in-Cond-3.ensures) in
    so c.lower_cond.result c.lower_cond.ensures.code (λ h rest. rw (c.in-Cond.is)
    (node_at (plain_program c.args.program.now) (plain_table c.args.io.now) c.args.code.now.items c.lower_cond.new.code.items c.args.t
    (plain_type c.args.ty.now) c.args.mode c.args.l h e rest))

pub lower_or-returns-clause-code : goal.lower_or-returns-clause-code
lower_or-returns-clause-code t c = λ rest.
    rw (c.in_ok-k-2.ensures.next, c.in_ok-k.ensures) at (c.in_ok-truth.ensures rest
    ∙ (c.in_ok-put.ensures _ ∙ (c.in_ok-m.ensures.code _ ∙ c.in_ok-k-2.ensures.code _)))

pub lower_cond-returns-clause-code : goal.lower_cond-returns-clause-code
lower_cond-returns-clause-code t c = λ rest.
    rw (c.in_ok-k-3.ensures.next, c.in_ok-k-2.ensures.next, c.in_ok-k.ensures) at (c.in_ok-put.ensures rest
    ∙ (c.in_ok-m.ensures.code _ ∙ (c.in_ok-put_turn.ensures _ ∙ (c.in_ok-k-3.ensures.code _ ∙ c.in_ok-k-2.ensures.code _))))

pub lower_branch-returns-in_ok-k-in-Not-clause-code : goal.lower_branch-returns-in_ok-k-in-Not-clause-code
lower_branch-returns-in_ok-k-in-Not-clause-code t c =
    so c.lower_branch.result c.lower_branch.ensures.code (λ h rest. rw (c.in-Not.is)
    (branch_at (plain_program c.args.program.now) (plain_table c.args.io.now) _ _ c.args.t h (ap plain_expr c.deref.ensures)
    c.in_ok-k-in-Not.ensures c.opposite.ensures rest))

pub lower_branch-returns-in_ok-put_and_end-in-And-clause-code : goal.lower_branch-returns-in_ok-put_and_end-in-And-clause-code
lower_branch-returns-in_ok-put_and_end-in-And-clause-code t c =
    let a : plain_expr _ ≡ plain_expr _ = ap plain_expr c.deref-in-And.ensures in
    let b : plain_expr _ ≡ plain_expr _ = ap plain_expr c.deref-in-And-2.ensures in
    λ rest. rw (c.in-And.is) (c.in_ok-put_and_end-in-And.ensures rest
    ∙ (branch_at (plain_program c.args.program.now) (plain_table c.args.io.now) _ _ c.args.t c.in_ok-m-in-And.ensures.code b
    (behind_part c.in_ok-k-in-And-2.ensures.next c.in_ok-k-in-And.ensures a) refl _
    ∙ branch_at (plain_program c.args.program.now) (plain_table c.args.io.now) _ _ c.args.t c.in_ok-k-in-And-2.ensures.code a
    c.in_ok-k-in-And.ensures (ap where_zero c.zero_label.ensures) _))

pub lower_branch-returns-in_ok-put_or_end-in-Or-clause-code : goal.lower_branch-returns-in_ok-put_or_end-in-Or-clause-code
lower_branch-returns-in_ok-put_or_end-in-Or-clause-code t c =
    let a : plain_expr _ ≡ plain_expr _ = ap plain_expr c.deref-in-Or.ensures in
    let b : plain_expr _ ≡ plain_expr _ = ap plain_expr c.deref-in-Or-2.ensures in
    λ rest. rw (c.in-Or.is) (c.in_ok-put_or_end-in-Or.ensures rest
    ∙ (branch_at (plain_program c.args.program.now) (plain_table c.args.io.now) _ _ c.args.t c.in_ok-m-in-Or.ensures.code b
    (behind_part c.in_ok-k-in-Or-2.ensures.next c.in_ok-k-in-Or.ensures a) refl _
    ∙ branch_at (plain_program c.args.program.now) (plain_table c.args.io.now) _ _ c.args.t c.in_ok-k-in-Or-2.ensures.code a
    c.in_ok-k-in-Or.ensures (ap (λ to. where_not to (c.args.l + 1)) c.other_label.ensures) _))

pub lower_expr-returns-in_ok-put_number-in-Number-clause-code : goal.lower_expr-returns-in_ok-put_number-in-Number-clause-code
lower_expr-returns-in_ok-put_number-in-Number-clause-code t c = λ rest. rw (c.in-Number.is) (c.in_ok-put_number-in-Number.ensures rest)

pub lower_args-returns-clause-code : goal.lower_args-returns-clause-code
lower_args-returns-clause-code t c = λ rest.
    ap (λ (es : List Expr). map plain_ir c.loop-e.code.items ++ args_code (plain_program c.args.program.now) (plain_table c.args.io.now)
    (plain_exprs es) c.loop-e.k c.loop-e.u rest) (sym (list_end c.args.args.now c.loop-e.e-index (omega (arith, c.loop-e-test.false))))
    ∙ c.loop-e.invariant.1 rest

pub lower_expr-returns-in_ok-put_load-in-Load-clause-code : goal.lower_expr-returns-in_ok-put_load-in-Load-clause-code
lower_expr-returns-in_ok-put_load-in-Load-clause-code t c = λ rest.
    rw (c.in-Load.is) (rw (c.in_ok-m-in-Load.ensures.site) at (c.in_ok-put_load-in-Load.ensures rest
    ∙ c.in_ok-m-in-Load.ensures.code _))

pub lower_expr-returns-in_ok-put_address-in-AddressOf-clause-code : goal.lower_expr-returns-in_ok-put_address-in-AddressOf-clause-code
lower_expr-returns-in_ok-put_address-in-AddressOf-clause-code t c = λ rest.
    rw (c.in-AddressOf.is) (rw (c.in_ok-m-in-AddressOf.ensures.site) at (c.in_ok-put_address-in-AddressOf.ensures rest
    ∙ c.in_ok-m-in-AddressOf.ensures.code _))

pub lower_effect-returns-in_ok-put_assigned-in-Assign-clause-code : goal.lower_effect-returns-in_ok-put_assigned-in-Assign-clause-code
lower_effect-returns-in_ok-put_assigned-in-Assign-clause-code t c = λ rest.
    rw (c.in-Assign.is) (rw (
      c.in_ok-k-in-Assign.ensures.next,
      c.in_ok-u-in-Assign.ensures,
      c.in_ok-k-in-Assign.ensures.site,
      c.deref.ensures,
    ) at (c.in_ok-put_assigned-in-Assign.ensures rest
    ∙ (c.in_ok-m-in-Assign.ensures.code _ ∙ c.in_ok-k-in-Assign.ensures.code _)))

pub lower_effect-returns-in_ok-put_settled-in-Compound-clause-code : goal.lower_effect-returns-in_ok-put_settled-in-Compound-clause-code
lower_effect-returns-in_ok-put_settled-in-Compound-clause-code t c = λ rest.
    rw (c.in-Compound.is) (rw (
      c.in_ok-up-in-Compound.ensures,
      c.in_ok-k-in-Compound.ensures.next,
      c.in_ok-u-in-Compound.ensures,
      c.in_ok-k-in-Compound.ensures.site,
      c.deref-in-Compound.ensures,
      c.deref-in-Compound-2.ensures,
    ) at (c.in_ok-put_settled-in-Compound.ensures rest
    ∙ (c.in_ok-change-in-Compound.ensures _ ∙ (c.in_ok-m-in-Compound.ensures.code _
    ∙ (c.in_ok-put_load-in-Compound.ensures _ ∙ c.in_ok-k-in-Compound.ensures.code _)))))

pub lower_effect-returns-in_ok-put_step-in-Step-clause-code : goal.lower_effect-returns-in_ok-put_step-in-Step-clause-code
lower_effect-returns-in_ok-put_step-in-Step-clause-code t c = λ rest.
    rw (c.in-Step.is) (rw (c.in_ok-m-in-Step.ensures.site) at (c.in_ok-put_step-in-Step.ensures rest
    ∙ c.in_ok-m-in-Step.ensures.code _))

pub lower_place-returns-in_ok-site-in-Member-clause-code : goal.lower_place-returns-in_ok-site-in-Member-clause-code
lower_place-returns-in_ok-site-in-Member-clause-code t c = λ rest.
    rw (c.in-Member.is) (rw (
      c.in_ok-k-in-Member.ensures,
      c.in_ok-m-in-Member.ensures.site,
      c.deref-in-Member.ensures,
      c.deref-in-Member-2.ensures,
    ) at (c.in_ok-site-in-Member.ensures.code rest ∙ c.in_ok-m-in-Member.ensures.code _))

pub lower_unread-returns-in_default-clause-code : goal.lower_unread-returns-in_default-clause-code
lower_unread-returns-in_default-clause-code t c = so c.lower_expr.result c.lower_expr.ensures.code (λ h rest.
    h rest ∙ ap (λ code. map plain_ir c.args.code.now.items ++ code) (unread_else (plain_program c.args.program.now) (plain_table c.args.io.now)
    (plain_type c.args.e.now.ty) c.args.e.now.mode c.args.l c.args.t c.args.e.now.node c.in_default.not-Step c.in_default.not-Comma rest))

pub lower_branch-returns-in_ok-put_branch-in_default-clause-code : goal.lower_branch-returns-in_ok-put_branch-in_default-clause-code
lower_branch-returns-in_ok-put_branch-in_default-clause-code t c = λ rest.
    rw (c.temp.ensures) at (c.in_ok-put_branch-in_default.ensures rest ∙ c.in_ok-m-in_default.ensures.code _)
    ∙ ap (λ code. map plain_ir c.args.code.now.items ++ code) (branch_else (plain_program c.args.program.now) (plain_table c.args.io.now)
    (plain_type c.args.e.now.ty) c.args.e.now.mode c.args.l c.args.t c.args.e.now.node c.in_default.not-Not c.in_default.not-And
    c.in_default.not-Or (plain_branch c.args.to) rest)

pub lower_port-returns-in_default : goal.lower_port-returns-in_default
lower_port-returns-in_default t c = record {
  next = c.lower_dynamic.ensures.next;
  code = so c.lower_dynamic.result c.lower_dynamic.ensures.code
      (λ h. h (plain_program c.args.program.now) (plain_type c.args.ty.now));
}
