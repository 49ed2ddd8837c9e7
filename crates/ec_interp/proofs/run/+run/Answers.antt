use Rattle.std.proofs.Common.{inl, inr, true, false, rules, arith, sym, ap, subst, refl, ◌≡◌, ℕ, ◌<◌, ◌∙◌, Bool, List, map}
use Rattle.std.proofs.lemmas.Grind.{common_steps}
use Rattle.std.proofs.lemmas.Result.{err_from_is_err_and}
use Rattle.std.specs.Prelude.{option_map}
use Rattle.std.specs.Option.{option_copied}
use Rattle.ec_core.specs.declared.values.Value.{Value}
use Rattle.ec_core.specs.Words.{function_words}
use Rattle.ec_interp.specs.Suits.{AreArgumentsOf}
use Rattle.ec_core.specs.Plain.{PlainType, PlainNode, PlainKind, PlainFunction, call, block, statement, plain_place, plain_program, plain_function}
use Rattle.ec_core.specs.Plain.{plain_expr, plain_exprs, plain_node, plain_kind, plain_stmt, plain_stmts, plain_type}
use Rattle.ec_core.specs.State.{State, Outcome, worked}
use Rattle.ec_core.specs.Statements.{Exit, effect_of, going_on, calls_within}
use Rattle.ec_core.specs.Typing.{HaveUnaryTypes}
use Rattle.ec_core.specs.Valid.{ValidExpr}
use Rattle.ec_core.specs.ValueTypes.{HasType, IsTypedState}
use Rattle.ec_interp.specs.Does.{DoesNode, DoesKind, RunsCalled, ShowsAt, Nothing, plain_other}
use Rattle.ec_interp.specs.Places.{calls_by, MeetsAt, MetInFunction}
use Rattle.ec_interp.specs.Views.{plain_optional, seen, seen_exit, setting_of}
use Rattle.ec_interp.specs.Weights.{node_weight, exprs_weight, kind_weight, stmts_weight, bodies}
use Rattle.ec_interp.proofs.Parts.{plain_call, plain_block, plain_local, lighter_expr, lighter_stmt, lighter_body, turns_one, calls_one}
use Rattle.ec_interp.proofs.Parts.{one_less, first_is_block, first_is_other, block_lighter, block_valid, weight_call, weight_block}
use Rattle.ec_interp.proofs.Operands.{number_of}
use Rattle.ec_interp.proofs.Passing.{suited, shown, told, stops_of, passes, passes_second, full, not_called}
use Rattle.ec_interp.proofs.Meeting.{widened, own_shown, left_shown, passes_at, own_passes, full_at, ended_none, placed_at, in_block, among}
use Rattle.ec_interp.proofs.Meeting.{unbound, unreturned, called_so}
use Rattle.ec_interp.proofs.Steps.{part, later, worked_typed, node_expr, node_place, statement_expr, statement_in, loop_turn, loop_later}
use Rattle.ec_interp.proofs.Steps.{test_later, test_condition, test_last, declared_leaves, left_next, exprs_next, stmts_next, leaves_next}
use Rattle.ec_interp.proofs.Steps.{exprs_step, values_more, values_done, leaves_done, stmts_step, leaves_step, branch_is, body_runs, after_value, after_place, after_read}
use Rattle.ec_interp.proofs.Steps.{after_condition, after_option, after_test, after_evaluated, after_going, after_statement, after_first}
use Rattle.ec_interp.proofs.Steps.{after_parameters, after_begin, old_operand, call_arguments, called_arguments}
use Rattle.ec_interp.proofs.run.+run.Goals as goal

pub node_value-call_with-requires : goal.node_value-call_with-requires
node_value-call_with-requires t c =
    let e = weight_call c.in-Call.g c.in-Call.args in
    let i = ap (λ node. node_weight (plain_node node)) c.in-Call.is in
    let a = ap (λ es. exprs_weight (plain_exprs es)) c.as_slice.ensures in
    let d = c.decreases in
    (omega (arith, e, i, a, d), c.requires)

pub values_of-value_of-requires : goal.values_of-value_of-requires
values_of-value_of-requires t c = first_of (grind (arith, common_steps, lighter_expr), search (rules, lighter_expr))

pub initialising-value_of-requires : goal.initialising-value_of-requires
initialising-value_of-requires t c = first_of (grind (arith, common_steps, lighter_expr), search (rules, lighter_expr))

pub value_of-returns-in_err-begin_node : goal.value_of-returns-in_err-begin_node
value_of-returns-in_err-begin_node t c = λ quiet.
    full c.args.f.now quiet _ (λ x. x) c.from_residual.result _ _ c.from_residual.ensures.1

pub value_of-returns : goal.value_of-returns
value_of-returns t c = λ quiet.
    rw (← c.in_ok-begin_node.ensures) (suited c.args.f.now quiet (λ x. x) c.node_value.result _ _ (λ h. record {
      given = h.given;
      typed = worked_typed c.args.f.now _ _ _ c.in_ok-begin_node.ensures h.typed;
      function = h.function;
      known = h.keeps.0;
      types = h.keeps.1;
      parts = h.keeps.2;
    }) (c.node_value.ensures quiet))

pub node_value-returns-in-Null : goal.node_value-returns-in-Null
node_value-returns-in-Null t c = λ quiet.
    rw (c.in-Null.is) refl

pub node_value-returns-in-Load : goal.node_value-returns-in-Load
node_value-returns-in-Load t c = λ quiet.
    rw (c.in-Load.is) (c.load.ensures quiet)

pub node_value-returns-in-AddressOf : goal.node_value-returns-in-AddressOf
node_value-returns-in-AddressOf t c = λ quiet.
    rw (c.in-AddressOf.is) (suited c.args.f.now quiet (λ x. x) c.address_of.result _ _ (λ h. (plain_type c.args.ty.now, h)) (c.address_of.ensures quiet))

pub node_value-returns-in-Unary : goal.node_value-returns-in-Unary
node_value-returns-in-Unary t c = λ quiet.
    rw (c.in-Unary.is, ← c.deref.ensures) (c.unary.ensures quiet)

pub node_value-returns-in-Assign : goal.node_value-returns-in-Assign
node_value-returns-in-Assign t c = λ quiet.
    rw (c.in-Assign.is, ← c.deref-in-Assign.ensures) (c.assign.ensures quiet)

pub node_value-returns-in-Step : goal.node_value-returns-in-Step
node_value-returns-in-Step t c = λ quiet.
    rw (c.in-Step.is) (c.step.ensures quiet)

pub node_value-returns-in-Not : goal.node_value-returns-in-Not
node_value-returns-in-Not t c = λ quiet.
    rw (c.in-Not.is, ← c.deref-in-Not.ensures)
    (suited c.args.f.now quiet (λ x. x) c.logical_not.result _ _ (λ h. (plain_type c.args.ty.now, h)) (c.logical_not.ensures quiet))

pub node_value-returns-in-And : goal.node_value-returns-in-And
node_value-returns-in-And t c = λ quiet.
    rw (c.in-And.is, ← c.deref-in-And.ensures, ← c.deref-in-And-2.ensures)
    (suited c.args.f.now quiet (λ x. x) c.logical_and.result _ _ (λ h. (plain_type c.args.ty.now, h)) (c.logical_and.ensures quiet))

pub node_value-returns-in-Or : goal.node_value-returns-in-Or
node_value-returns-in-Or t c = λ quiet.
    rw (c.in-Or.is, ← c.deref-in-Or.ensures, ← c.deref-in-Or-2.ensures)
    (suited c.args.f.now quiet (λ x. x) c.logical_or.result _ _ (λ h. (plain_type c.args.ty.now, h)) (c.logical_or.ensures quiet))

pub node_value-returns-in-Cond : goal.node_value-returns-in-Cond
node_value-returns-in-Cond t c = λ quiet.
    rw (c.in-Cond.is, ← c.deref-in-Cond.ensures, ← c.deref-in-Cond-2.ensures, ← c.deref-in-Cond-3.ensures)
    (suited c.args.f.now quiet (λ x. x) c.conditional.result _ _ (λ h. (plain_type c.args.ty.now, h)) (c.conditional.ensures quiet))

pub node_value-returns-in-Comma : goal.node_value-returns-in-Comma
node_value-returns-in-Comma t c = λ quiet.
    rw (c.in-Comma.is, ← c.deref-in-Comma.ensures, ← c.deref-in-Comma-2.ensures)
    (suited c.args.f.now quiet (λ x. x) c.comma.result _ _ (λ h. (plain_type c.args.ty.now, h)) (c.comma.ensures quiet))

pub node_value-returns-in-Call : goal.node_value-returns-in-Call
node_value-returns-in-Call t c =
    let is : plain_node c.args.node.now ≡ call c.in-Call.g (plain_exprs c.as_slice.result.now) = ap plain_node c.in-Call.is
    ∙ (plain_call c.in-Call.g c.in-Call.args ∙ ap (λ es. call c.in-Call.g (plain_exprs es)) (sym c.as_slice.ensures)) in
    subst (λ (node : PlainNode). DoesNode c.args.f.now c.args.depth
    (plain_type c.args.ty.now) c.args.mode node c.call_with.result (seen c.args.s.now) (seen c.call_with.new.s)) (sym is)
    (λ quiet. suited c.args.f.now quiet (λ x. x) c.call_with.result _ _ (λ h. (plain_type c.args.ty.now, h)) (c.call_with.ensures quiet))

pub node_value-returns-in-Group : goal.node_value-returns-in-Group
node_value-returns-in-Group t c = λ quiet.
    rw (c.in-Group.is) (shown c.args.f.now quiet (λ x. x) c.operate_group.result _ _ c.operate_group.ensures.shows (λ h. c.operate_group.ensures.answered))

pub node_value-returns-in-Bind : goal.node_value-returns-in-Bind
node_value-returns-in-Bind t c = λ quiet.
    rw (c.in-Bind.is) (shown c.args.f.now quiet (λ x. x) c.bind_group.result _ _ c.bind_group.ensures.shows (λ h. c.bind_group.ensures.answered))

pub node_value-returns-in-DynGroup : goal.node_value-returns-in-DynGroup
node_value-returns-in-DynGroup t c = λ quiet.
    rw (c.in-DynGroup.is) (shown c.args.f.now quiet (λ x. x) c.operate_dynamic.result _ _ c.operate_dynamic.ensures.shows (λ h. c.operate_dynamic.ensures.answered))

pub load-returns-in_err-to : goal.load-returns-in_err-to
load-returns-in_err-to t c = λ quiet.
    passes c.args.f.now quiet (λ x. x) c.from_residual.result c.in_err-to.field-0.0 _ _ _ c.from_residual.ensures.1
    (λ h. node_place c.args.f.now (plain_place c.args.p.now) _ h h.typed h.parts) (c.in_err-to.ensures quiet)

pub load-returns : goal.load-returns
load-returns t c = λ quiet.
    rw (c.in_ok-to.ensures quiet) (shown c.args.f.now quiet (λ x. x) c.read.result _ _ c.read.ensures.shows (λ h. c.read.ensures.answered h.given))

pub address_of-returns-in_err-to : goal.address_of-returns-in_err-to
address_of-returns-in_err-to t c = λ quiet.
    passes c.args.f.now quiet (λ x. x) c.from_residual.result c.in_err-to.field-0.0 _ _ _ c.from_residual.ensures.1
    (λ k. let h = k.1 in node_place c.args.f.now (plain_place c.args.p.now) _ h h.typed h.parts.0) (c.in_err-to.ensures quiet)

pub address_of-returns : goal.address_of-returns
address_of-returns t c = λ quiet.
    rw (c.in_ok-to.ensures quiet) refl

pub unary-returns-in_err-x : goal.unary-returns-in_err-x
unary-returns-in_err-x t c = λ quiet.
    passes c.args.f.now quiet (λ x. x) c.from_residual.result c.in_err-x.field-0.0 _ _ _ c.from_residual.ensures.1
    (λ h. node_expr c.args.f.now (plain_expr c.args.a.now) _ h h.typed h.parts) (c.in_err-x.ensures quiet)

pub unary-returns : goal.unary-returns
unary-returns t c = λ quiet.
    rw (c.in_ok-x.ensures quiet)
    (told c.args.f.now quiet c.unary_value.result _ _ c.unary_value.ensures.tells (λ h. (let q = after_value c.args.f.now c.args.f.now.turns c.args.depth
    (plain_expr c.args.a.now) c.in_ok-x.x _ _ (node_expr c.args.f.now (plain_expr c.args.a.now) _ h h.typed h.parts) (c.in_ok-x.ensures false) in
    c.unary_value.ensures.answered
    (number_of (plain_program c.args.f.now.program.now) (plain_type c.args.ty.now) (HaveUnaryTypes c.args.op) c.in_ok-x.x
    (subst (λ (z : PlainType). HasType (plain_program c.args.f.now.program.now) z c.in_ok-x.x) h.types.0 q.value.typed) h.types.1))))

pub binary-returns-in_err-x : goal.binary-returns-in_err-x
binary-returns-in_err-x t c = λ quiet.
    passes c.args.f.now quiet (λ x. x) c.from_residual.result c.in_err-x.field-0.0 _ _ _ c.from_residual.ensures.1
    (λ h. node_expr c.args.f.now (plain_expr c.args.a.now) _ h h.typed h.parts.0) (c.in_err-x.ensures quiet)

pub binary-returns-in_err-y : goal.binary-returns-in_err-y
binary-returns-in_err-y t c = λ quiet.
    rw (c.in_ok-x.ensures quiet) (passes c.args.f.now quiet (λ x. x) c.from_residual-in_err-y.result c.in_err-y.field-0.0 _ _ _ c.from_residual-in_err-y.ensures.1
    (λ h. (let q = after_value c.args.f.now c.args.f.now.turns c.args.depth (plain_expr c.args.a.now) c.in_ok-x.x _ _
    (node_expr c.args.f.now (plain_expr c.args.a.now) _ h h.typed h.parts.0) (c.in_ok-x.ensures false) in
    node_expr c.args.f.now (plain_expr c.args.b.now) _ h q.typed h.parts.1)) (c.in_err-y.ensures quiet))

pub binary-returns : goal.binary-returns
binary-returns t c = λ quiet.
    rw ((c.in_ok-x.ensures quiet), (c.in_ok-y.ensures quiet))
    (told c.args.f.now quiet c.binary_of.result _ _ c.binary_of.ensures.tells (λ h. (let q = after_value c.args.f.now c.args.f.now.turns c.args.depth
    (plain_expr c.args.a.now) c.in_ok-x.x _ _ (node_expr c.args.f.now (plain_expr c.args.a.now) _ h h.typed h.parts.0) (c.in_ok-x.ensures false) in
    let r = after_value c.args.f.now c.args.f.now.turns c.args.depth (plain_expr c.args.b.now) c.in_ok-y.y _ _
    (node_expr c.args.f.now (plain_expr c.args.b.now) _ h q.typed h.parts.1) (c.in_ok-y.ensures false) in
    c.binary_of.ensures.answered h.given q.value r.value h.types)))

pub convert-returns-in_err-x : goal.convert-returns-in_err-x
convert-returns-in_err-x t c = λ quiet.
    passes c.args.f.now quiet (λ x. x) c.from_residual.result c.in_err-x.field-0.0 _ _ _ c.from_residual.ensures.1
    (λ h. node_expr c.args.f.now (plain_expr c.args.a.now) _ h h.typed h.parts) (c.in_err-x.ensures quiet)

pub convert-returns : goal.convert-returns
convert-returns t c = λ quiet.
    rw (c.in_ok-x.ensures quiet)
    (told c.args.f.now quiet c.converted.result _ _ c.converted.ensures.tells (λ h. (let q = after_value c.args.f.now c.args.f.now.turns c.args.depth
    (plain_expr c.args.a.now) c.in_ok-x.x _ _ (node_expr c.args.f.now (plain_expr c.args.a.now) _ h h.typed h.parts) (c.in_ok-x.ensures false) in
    c.converted.ensures.answered h.given q.value h.types.0 h.types.1)))

pub assign-returns-in_err-to : goal.assign-returns-in_err-to
assign-returns-in_err-to t c = λ quiet.
    passes c.args.f.now quiet (λ x. x) c.from_residual.result c.in_err-to.field-0.0 _ _ _ c.from_residual.ensures.1
    (λ h. node_place c.args.f.now (plain_place c.args.p.now) _ h h.typed h.parts.0) (c.in_err-to.ensures quiet)

pub assign-returns-in_err-x : goal.assign-returns-in_err-x
assign-returns-in_err-x t c = λ quiet.
    rw (c.in_ok-to.ensures quiet) (passes c.args.f.now quiet (λ x. x) c.from_residual-in_err-x.result c.in_err-x.field-0.0 _ _ _ c.from_residual-in_err-x.ensures.1
    (λ h. (let k = after_place c.args.f.now c.args.f.now.turns c.args.depth (plain_place c.args.p.now) c.in_ok-to.to _ _
    (node_place c.args.f.now (plain_place c.args.p.now) _ h h.typed h.parts.0) (c.in_ok-to.ensures false) in
    node_expr c.args.f.now (plain_expr c.args.a.now) _ h k h.parts.1)) (c.in_err-x.ensures quiet))

pub assign-returns : goal.assign-returns
assign-returns t c = λ quiet.
    rw ((c.in_ok-to.ensures quiet), (c.in_ok-x.ensures quiet))
    (shown c.args.f.now quiet (λ x. x) c.write.result _ _ c.write.ensures.shows (λ h. c.write.ensures.answered h.given))

pub compound-returns-in_err-to : goal.compound-returns-in_err-to
compound-returns-in_err-to t c = λ quiet.
    passes c.args.f.now quiet (λ x. x) c.from_residual.result c.in_err-to.field-0.0 _ _ _ c.from_residual.ensures.1
    (λ h. node_place c.args.f.now (plain_place c.args.p.now) _ h h.typed h.parts.0) (c.in_err-to.ensures quiet)

pub compound-returns-in_err-old : goal.compound-returns-in_err-old
compound-returns-in_err-old t c = λ quiet.
    rw (c.in_ok-to.ensures quiet)
    (passes c.args.f.now quiet (λ x. x) c.from_residual-in_err-old.result c.in_err-old.field-0.0 _ _ _ c.from_residual-in_err-old.ensures.1 (λ h. h.given)
    (stops_of c.args.f.now quiet (λ (x : Value). x) c.in_err-old.field-0.0 _ _ c.in_err-old.ensures.shows c.in_err-old.ensures.answered))

pub compound-returns-in_err-x : goal.compound-returns-in_err-x
compound-returns-in_err-x t c = λ quiet.
    rw ((c.in_ok-to.ensures quiet), c.in_ok-old.ensures.shows) (passes c.args.f.now quiet (λ x. x) c.from_residual-in_err-x.result c.in_err-x.field-0.0 _ _ _
    c.from_residual-in_err-x.ensures.1 (λ h. (let k = after_place c.args.f.now c.args.f.now.turns c.args.depth (plain_place c.args.p.now)
    c.in_ok-to.to _ _ (node_place c.args.f.now (plain_place c.args.p.now) _ h h.typed h.parts.0) (c.in_ok-to.ensures false) in
    let m = after_read c.args.f.now (plain_type c.args.ty.now)
    (plain_place c.args.p.now) c.in_ok-to.to c.in_ok-old.old _ _ h.given k c.in_ok-old.ensures.shows in
    node_expr c.args.f.now (plain_expr c.args.a.now) _ h m.typed h.parts.1)) (c.in_err-x.ensures quiet))

pub compound-returns : goal.compound-returns
compound-returns t c = λ quiet.
    rw ((c.in_ok-to.ensures quiet), c.in_ok-old.ensures.shows, (c.in_ok-x.ensures quiet)) (shown c.args.f.now quiet (λ x. x) c.compounded.result _ _ c.compounded.ensures.shows
    (λ h. (let k = after_place c.args.f.now c.args.f.now.turns c.args.depth (plain_place c.args.p.now) c.in_ok-to.to _ _
    (node_place c.args.f.now (plain_place c.args.p.now) _ h h.typed h.parts.0) (c.in_ok-to.ensures false) in
    let m = after_read c.args.f.now (plain_type c.args.ty.now)
    (plain_place c.args.p.now) c.in_ok-to.to c.in_ok-old.old _ _ h.given k c.in_ok-old.ensures.shows in
    let q = after_value c.args.f.now c.args.f.now.turns c.args.depth (plain_expr c.args.a.now) c.in_ok-x.x _ _
    (node_expr c.args.f.now (plain_expr c.args.a.now) _ h m.typed h.parts.1) (c.in_ok-x.ensures false) in
    c.compounded.ensures.answered h.given (old_operand c.args.f.now _ _ _ h m.value) q.value h.types.1)))

pub step-returns-in_err-to : goal.step-returns-in_err-to
step-returns-in_err-to t c = λ quiet.
    passes c.args.f.now quiet (λ x. x) c.from_residual.result c.in_err-to.field-0.0 _ _ _ c.from_residual.ensures.1
    (λ h. node_place c.args.f.now (plain_place c.args.p.now) _ h h.typed h.parts) (c.in_err-to.ensures quiet)

pub step-returns-in_err-old : goal.step-returns-in_err-old
step-returns-in_err-old t c = λ quiet.
    rw (c.in_ok-to.ensures quiet)
    (passes c.args.f.now quiet (λ x. x) c.from_residual-in_err-old.result c.in_err-old.field-0.0 _ _ _ c.from_residual-in_err-old.ensures.1 (λ h. h.given)
    (stops_of c.args.f.now quiet (λ (x : Value). x) c.in_err-old.field-0.0 _ _ c.in_err-old.ensures.shows c.in_err-old.ensures.answered))

pub step-returns : goal.step-returns
step-returns t c = λ quiet.
    rw ((c.in_ok-to.ensures quiet), c.in_ok-old.ensures.shows) (shown c.args.f.now quiet (λ x. x) c.stepped.result _ _ c.stepped.ensures.shows
    (λ h. (let k = after_place c.args.f.now c.args.f.now.turns c.args.depth (plain_place c.args.p.now) c.in_ok-to.to _ _
    (node_place c.args.f.now (plain_place c.args.p.now) _ h h.typed h.parts) (c.in_ok-to.ensures false) in
    let m = after_read c.args.f.now (plain_type c.args.ty.now)
    (plain_place c.args.p.now) c.in_ok-to.to c.in_ok-old.old _ _ h.given k c.in_ok-old.ensures.shows in
    c.stepped.ensures.answered h.given (old_operand c.args.f.now _ _ _ h m.value) h.types.0)))

pub condition-returns-in_err-x : goal.condition-returns-in_err-x
condition-returns-in_err-x t c = λ quiet.
    passes c.args.f.now quiet (λ x. x) c.from_residual.result c.in_err-x.field-0.0 _ _ _ c.from_residual.ensures.1 (λ h. h) (c.in_err-x.ensures quiet)

pub condition-returns : goal.condition-returns
condition-returns t c = λ quiet.
    rw (c.in_ok-x.ensures quiet) (told c.args.f.now quiet c.truth_of.result _ _ c.truth_of.ensures.tells (λ h. c.truth_of.ensures.answered h.given))

pub logical_not-returns-in_err-holds : goal.logical_not-returns-in_err-holds
logical_not-returns-in_err-holds t c = λ quiet.
    passes c.args.f.now quiet (λ x. x) c.from_residual.result c.in_err-holds.field-0.0 _ _ _ c.from_residual.ensures.1
    (λ k. let h = k.1 in node_expr c.args.f.now (plain_expr c.args.a.now) _ h h.typed h.parts) (c.in_err-holds.ensures quiet)

pub logical_not-returns : goal.logical_not-returns
logical_not-returns t c = λ quiet.
    rw ((c.in_ok-holds.ensures quiet), c.truth_number.ensures) refl

pub logical_and-returns-in_err-condition : goal.logical_and-returns-in_err-condition
logical_and-returns-in_err-condition t c = λ quiet.
    passes c.args.f.now quiet (λ x. x) c.from_residual.result c.in_err-condition.field-0.0 _ _ _ c.from_residual.ensures.1
    (λ k. let h = k.1 in node_expr c.args.f.now (plain_expr c.args.a.now) _ h h.typed h.parts.0) (c.in_err-condition.ensures quiet)

pub logical_and-returns-then-not-branch : goal.logical_and-returns-then-not-branch
logical_and-returns-then-not-branch t c = λ quiet.
    rw ((c.in_ok-condition.ensures quiet), c.if-not-branch.true, c.truth_number.ensures) refl

pub logical_and-returns-in_err-holds : goal.logical_and-returns-in_err-holds
logical_and-returns-in_err-holds t c = λ quiet.
    rw ((c.in_ok-condition.ensures quiet), c.if-not-branch.false) (passes c.args.f.now quiet
    (λ x. x) c.from_residual-in_err-holds.result c.in_err-holds.field-0.0 _ _ _ c.from_residual-in_err-holds.ensures.1 (λ j. (let h = j.1 in
    let k = after_condition c.args.f.now c.args.f.now.turns c.args.depth (plain_expr c.args.a.now) _ _ _
    (node_expr c.args.f.now (plain_expr c.args.a.now) _ h h.typed h.parts.0) (c.in_ok-condition.ensures false) in
    node_expr c.args.f.now (plain_expr c.args.b.now) _ h k h.parts.1)) (c.in_err-holds.ensures quiet))

pub logical_and-returns : goal.logical_and-returns
logical_and-returns t c = λ quiet.
    rw ((c.in_ok-condition.ensures quiet), c.if-not-branch.false, (c.in_ok-holds.ensures quiet), c.truth_number-2.ensures) refl

pub logical_or-returns-in_err-condition : goal.logical_or-returns-in_err-condition
logical_or-returns-in_err-condition t c = λ quiet.
    passes c.args.f.now quiet (λ x. x) c.from_residual.result c.in_err-condition.field-0.0 _ _ _ c.from_residual.ensures.1
    (λ k. let h = k.1 in node_expr c.args.f.now (plain_expr c.args.a.now) _ h h.typed h.parts.0) (c.in_err-condition.ensures quiet)

pub logical_or-returns-then-branch : goal.logical_or-returns-then-branch
logical_or-returns-then-branch t c = λ quiet.
    rw ((c.in_ok-condition.ensures quiet), c.if-branch.true, c.truth_number.ensures) refl

pub logical_or-returns-in_err-holds : goal.logical_or-returns-in_err-holds
logical_or-returns-in_err-holds t c = λ quiet.
    rw ((c.in_ok-condition.ensures quiet), c.if-branch.false) (passes c.args.f.now quiet
    (λ x. x) c.from_residual-in_err-holds.result c.in_err-holds.field-0.0 _ _ _ c.from_residual-in_err-holds.ensures.1 (λ j. (let h = j.1 in
    let k = after_condition c.args.f.now c.args.f.now.turns c.args.depth (plain_expr c.args.a.now) _ _ _
    (node_expr c.args.f.now (plain_expr c.args.a.now) _ h h.typed h.parts.0) (c.in_ok-condition.ensures false) in
    node_expr c.args.f.now (plain_expr c.args.b.now) _ h k h.parts.1)) (c.in_err-holds.ensures quiet))

pub logical_or-returns : goal.logical_or-returns
logical_or-returns t c = λ quiet.
    rw ((c.in_ok-condition.ensures quiet), c.if-branch.false, (c.in_ok-holds.ensures quiet), c.truth_number-2.ensures) refl

pub conditional-returns-in_err-condition : goal.conditional-returns-in_err-condition
conditional-returns-in_err-condition t c = λ quiet.
    passes c.args.f.now quiet (λ x. x) c.from_residual.result c.in_err-condition.field-0.0 _ _ _ c.from_residual.ensures.1
    (λ k. let h = k.1 in node_expr c.args.f.now (plain_expr c.args.c.now) _ h h.typed h.parts.0) (c.in_err-condition.ensures quiet)

pub conditional-returns-then-branch : goal.conditional-returns-then-branch
conditional-returns-then-branch t c = λ quiet.
    rw ((c.in_ok-condition.ensures quiet), c.if-branch.true) (suited c.args.f.now quiet (λ x. x) c.value_of.result _ _ (λ j. (let h = j.1 in
    let k = after_condition c.args.f.now c.args.f.now.turns c.args.depth (plain_expr c.args.c.now) _ _ _
    (node_expr c.args.f.now (plain_expr c.args.c.now) _ h h.typed h.parts.0) (c.in_ok-condition.ensures false) in
    node_expr c.args.f.now (plain_expr c.args.a.now) _ h k h.parts.1)) (c.value_of.ensures quiet))

pub conditional-returns : goal.conditional-returns
conditional-returns t c = λ quiet.
    rw ((c.in_ok-condition.ensures quiet), c.if-branch.false) (suited c.args.f.now quiet (λ x. x) c.value_of-2.result _ _ (λ j. (let h = j.1 in
    let k = after_condition c.args.f.now c.args.f.now.turns c.args.depth (plain_expr c.args.c.now) _ _ _
    (node_expr c.args.f.now (plain_expr c.args.c.now) _ h h.typed h.parts.0) (c.in_ok-condition.ensures false) in
    node_expr c.args.f.now (plain_expr c.args.b.now) _ h k h.parts.2)) (c.value_of-2.ensures quiet))

pub comma-returns-in_err-value_of : goal.comma-returns-in_err-value_of
comma-returns-in_err-value_of t c = λ quiet.
    passes c.args.f.now quiet (λ x. x) c.from_residual.result c.in_err-value_of.field-0.0 _ _ _ c.from_residual.ensures.1
    (λ k. let h = k.1 in node_expr c.args.f.now (plain_expr c.args.a.now) _ h h.typed h.parts.0) (c.in_err-value_of.ensures quiet)

pub comma-returns : goal.comma-returns
comma-returns t c = λ quiet.
    rw (c.in_ok-value_of.ensures quiet) (suited c.args.f.now quiet (λ x. x) c.value_of-2.result _ _ (λ j. (let h = j.1 in
    let q = after_value c.args.f.now c.args.f.now.turns c.args.depth (plain_expr c.args.a.now) _ _ _
    (node_expr c.args.f.now (plain_expr c.args.a.now) _ h h.typed h.parts.0) (c.in_ok-value_of.ensures false) in
    node_expr c.args.f.now (plain_expr c.args.b.now) _ h q.typed h.parts.1)) (c.value_of-2.ensures quiet))

pub call_with-returns-in_err-xs : goal.call_with-returns-in_err-xs
call_with-returns-in_err-xs t c = λ quiet.
    passes c.args.f.now quiet (λ x. x) c.from_residual.result c.in_err-xs.field-0.0 _ _ _ c.from_residual.ensures.1
    (λ j. (let h = j.1 in record { given = h.given; typed = h.typed; function = h.function; keeps = h.parts })) (c.in_err-xs.ensures quiet)

pub call_with-returns : goal.call_with-returns
call_with-returns t c = λ quiet.
    rw ((c.in_ok-xs.ensures quiet), ← c.as_slice.ensures) (suited c.args.f.now quiet (λ x. x) c.call_function.result _ _ (λ j. (let h = j.1 in
    let r = call_arguments c.args.f.now c.args.f.now.turns c.args.depth c.args.g j.0
    (plain_exprs c.args.args.now) c.in_ok-xs.xs.items _ _ h (c.in_ok-xs.ensures false) in
    record {
      given = h.given;
      typed = r.typed;
      arguments = subst (λ (xs : List Value). AreArgumentsOf c.args.f.now c.args.g xs) (sym c.as_slice.ensures) r.value;
    })) (c.call_function.ensures quiet))

pub place_of-returns-in-Object : goal.place_of-returns-in-Object
place_of-returns-in-Object t c = λ quiet.
    rw (c.in-Object.is) (shown c.args.f.now quiet (λ to. to) c.object_place.result _ _ c.object_place.ensures.shows (λ h. c.object_place.ensures.answered))

pub place_of-returns-in_err-x-in-Deref : goal.place_of-returns-in_err-x-in-Deref
place_of-returns-in_err-x-in-Deref t c = λ quiet.
    rw (c.in-Deref.is, ← c.deref.ensures) (passes c.args.f.now quiet
    (λ to. to) c.from_residual.result c.in_err-x-in-Deref.field-0.0 _ _ _ c.from_residual.ensures.1 (λ h. h) (c.in_err-x-in-Deref.ensures quiet))

pub place_of-returns-in_err-work_more-in-Member : goal.place_of-returns-in_err-work_more-in-Member
place_of-returns-in_err-work_more-in-Member t c = λ quiet.
    full c.args.f.now quiet _ (λ to. to) c.from_residual-in_err-work_more-in-Member.result _ _ c.from_residual-in_err-work_more-in-Member.ensures.1

pub place_of-returns-in_err-to-in-Member : goal.place_of-returns-in_err-to-in-Member
place_of-returns-in_err-to-in-Member t c = λ quiet.
    rw (c.in-Member.is, ← c.deref-in-Member.ensures, ← c.in_ok-work_more-in-Member.ensures)
    (passes c.args.f.now quiet (λ to. to) c.from_residual-in_err-to-in-Member.result c.in_err-to-in-Member.field-0.0 _ _ _
    c.from_residual-in_err-to-in-Member.ensures.1 (λ h. record {
      given = h.given;
      typed = worked_typed c.args.f.now _ _ _ c.in_ok-work_more-in-Member.ensures h.typed;
      function = h.function;
      keeps = h.keeps;
    }) (c.in_err-to-in-Member.ensures quiet))

pub port_operation-returns-in_err-i : goal.port_operation-returns-in_err-i
port_operation-returns-in_err-i t c = λ quiet.
    passes c.args.f.now quiet (λ x. x) c.from_residual.result c.in_err-i.field-0.0 _ _ _ c.from_residual.ensures.1
    (λ j. (let h = j.1 in record { given = h.given; typed = h.typed; function = h.function; keeps = h.parts.0 })) (c.in_err-i.ensures quiet)

pub port_operation-returns-in_err-v : goal.port_operation-returns-in_err-v
port_operation-returns-in_err-v t c = λ quiet.
    rw (c.in_ok-i.ensures quiet)
    (passes c.args.f.now quiet (λ x. x) c.from_residual-in_err-v.result c.in_err-v.field-0.0 _ _ _ c.from_residual-in_err-v.ensures.1 (λ j. (let h = j.1 in
    let k = after_option c.args.f.now c.args.f.now.turns c.args.depth (plain_optional (option_copied c.args.index)) c.in_ok-i.i _ _
    (record { given = h.given; typed = h.typed; function = h.function; keeps = h.parts.0 }) (c.in_ok-i.ensures false) in
    record { given = h.given; typed = k; function = h.function; keeps = h.parts.1 })) (c.in_err-v.ensures quiet))

pub port_operation-returns : goal.port_operation-returns
port_operation-returns t c = λ quiet.
    rw ((c.in_ok-i.ensures quiet), (c.in_ok-v.ensures quiet))
    (shown c.args.f.now quiet (λ x. x) c.operate.result _ _ c.operate.ensures.shows (λ j. c.operate.ensures.answered (j.1).given))

pub option_value-returns-in-None : goal.option_value-returns-in-None
option_value-returns-in-None t c = λ quiet.
    rw (c.in-None.is, c.no_value.ensures) refl

pub option_value-returns-in-Some : goal.option_value-returns-in-Some
option_value-returns-in-Some t c = λ quiet.
    rw (c.in-Some.is) (c.value_of.ensures quiet)

pub values_of-returns-in_err-x : goal.values_of-returns-in_err-x
values_of-returns-in_err-x t c = λ quiet.
    rw (
      ← c.loop-e.invariant.0 quiet,
      exprs_step c.args.f.now (calls_by quiet (calls_within (setting_of c.args.f.now.program.now c.args.f.now.io.now
          c.args.f.now.inputs.now) c.args.f.now.turns c.args.depth)) c.args.es.now c.loop-e.e-index c.e-item.result (seen c.loop-e.s)
          (omega (arith, c.loop-e-test.true)) c.e-item.is,
    ) (passes_second c.args.f.now quiet (λ xs. xs.items) c.from_residual.result c.in_err-x.field-0.0 _ _ _ _ c.from_residual.ensures.1
    (λ h. (let v = exprs_next c.args.f.now _ c.args.es.now c.loop-e.e-index c.e-item.result
    (omega (arith, c.loop-e-test.true)) c.e-item.is (c.loop-e.invariant.1 h) in
    part c.args.f.now (λ (g : ℕ). ValidExpr (plain_program c.args.f.now.program.now) c.args.f.now.io.now g (plain_expr c.e-item.result))
    (λ g k. k.0) v)) (c.in_err-x.ensures quiet))

pub values_of-returns-in_err-push_value : goal.values_of-returns-in_err-push_value
values_of-returns-in_err-push_value t c = λ quiet.
    full c.args.f.now quiet _ (λ xs. xs.items) c.from_residual-in_err-push_value.result _ _ c.from_residual-in_err-push_value.ensures.1

pub values_of-loop-e-preserved : goal.values_of-loop-e-preserved
values_of-loop-e-preserved t c = (
  λ quiet. (let one = exprs_step c.args.f.now (calls_by quiet (calls_within (setting_of c.args.f.now.program.now c.args.f.now.io.now
      c.args.f.now.inputs.now) c.args.f.now.turns c.args.depth)) c.args.es.now c.loop-e.e-index c.e-item.result (seen c.loop-e.s)
      (omega (arith, c.loop-e-test.true)) c.e-item.is in
      values_more c.args.f.now _ _ _ c.loop-e.xs.items c.in_ok-x.x c.push_value.new.xs.items c.in_ok-push_value.ensures
      (one ∙ rw (c.in_ok-x.ensures quiet) refl) (c.loop-e.invariant.0 quiet)),
  λ h. (let v = exprs_next c.args.f.now _ c.args.es.now c.loop-e.e-index c.e-item.result (omega (arith, c.loop-e-test.true)) c.e-item.is
      (c.loop-e.invariant.1 h) in
      let q = after_value c.args.f.now c.args.f.now.turns c.args.depth (plain_expr c.e-item.result) c.in_ok-x.x _ _
      (part c.args.f.now (λ (g : ℕ). ValidExpr (plain_program c.args.f.now.program.now) c.args.f.now.io.now g (plain_expr c.e-item.result))
      (λ g k. k.0) v) (c.in_ok-x.ensures false) in
      record { given = v.given; typed = q.typed; function = v.function; keeps = v.keeps.1 }),
)

pub test_of-returns-in-None : goal.test_of-returns-in-None
test_of-returns-in-None t c = λ quiet.
    rw (c.in-None.is) refl

pub test_of-returns-in-Some : goal.test_of-returns-in-Some
test_of-returns-in-Some t c = λ quiet.
    rw (c.in-Some.is) (suited c.args.f.now quiet (λ b. b) c.condition.result _ _
    (λ h. record { given = h.given; typed = h.typed; function = h.function; keeps = h.keeps.0 }) (c.condition.ensures quiet))

pub evaluated-returns-in-None : goal.evaluated-returns-in-None
evaluated-returns-in-None t c = λ quiet.
    rw (c.in-None.is) refl

pub evaluated-returns-in_err-value_of-in-Some : goal.evaluated-returns-in_err-value_of-in-Some
evaluated-returns-in_err-value_of-in-Some t c = λ quiet.
    rw (c.in-Some.is) (passes c.args.f.now quiet seen_exit c.from_residual.result c.in_err-value_of-in-Some.field-0.0 _ _ _ c.from_residual.ensures.1
    (λ h. h) (c.in_err-value_of-in-Some.ensures quiet))

pub evaluated-returns-in_ok-value_of-in-Some : goal.evaluated-returns-in_ok-value_of-in-Some
evaluated-returns-in_ok-value_of-in-Some t c = λ quiet.
    rw (c.in-Some.is, (c.in_ok-value_of-in-Some.ensures quiet)) refl

pub returned-returns-in_err-work_more : goal.returned-returns-in_err-work_more
returned-returns-in_err-work_more t c = λ quiet.
    full c.args.f.now quiet _ seen_exit c.from_residual.result _ _ c.from_residual.ensures.1

pub returned-returns-in-None : goal.returned-returns-in-None
returned-returns-in-None t c = λ quiet.
    rw (← c.return_of.ensures, ← c.in_ok-work_more.ensures, c.in-None.is) refl

pub returned-returns-in_err-x-in-Some : goal.returned-returns-in_err-x-in-Some
returned-returns-in_err-x-in-Some t c = λ quiet.
    rw (← c.return_of.ensures, ← c.in_ok-work_more.ensures, c.in-Some.is) (passes c.args.f.now quiet seen_exit c.from_residual-in_err-x-in-Some.result
    c.in_err-x-in-Some.field-0.0 _ _ _ c.from_residual-in_err-x-in-Some.ensures.1 (λ h. record {
      given = h.given;
      typed = worked_typed c.args.f.now _ _ _ c.in_ok-work_more.ensures h.typed;
      function = h.function;
      keeps = h.keeps;
    }) (c.in_err-x-in-Some.ensures quiet))

pub returned-returns-in_ok-x-in-Some : goal.returned-returns-in_ok-x-in-Some
returned-returns-in_ok-x-in-Some t c = λ quiet.
    rw (← c.return_of.ensures, ← c.in_ok-work_more.ensures, c.in-Some.is, (c.in_ok-x-in-Some.ensures quiet)) refl

pub initialising-returns-in_err-work_more : goal.initialising-returns-in_err-work_more
initialising-returns-in_err-work_more t c = λ quiet.
    full c.args.f.now quiet _ seen_exit c.from_residual.result _ _ c.from_residual.ensures.1

pub initialising-returns-in_err-x : goal.initialising-returns-in_err-x
initialising-returns-in_err-x t c = λ quiet.
    rw (
      ← c.loop-k.invariant.0 quiet,
      leaves_step c.args.f.now (calls_by quiet (calls_within (setting_of c.args.f.now.program.now c.args.f.now.io.now
          c.args.f.now.inputs.now) c.args.f.now.turns c.args.depth)) c.args.o c.loop-k.k c.args.values.now c.index-values-k.result
          (seen c.loop-k.s) (seen c.work_more.new.self) (omega (arith, c.loop-k-test.true)) c.index-values-k.is
          (c.in_ok-work_more.ensures ∙ ap (λ n. worked n (seen c.loop-k.s)) c.leaf_words.ensures),
    ) (passes c.args.f.now quiet seen_exit c.from_residual-in_err-x.result c.in_err-x.field-0.0 _ _ _ c.from_residual-in_err-x.ensures.1
    (λ h. (let v = leaves_next c.args.f.now _ c.args.o c.loop-k.k c.args.values.now c.index-values-k.result
    (omega (arith, c.loop-k-test.true)) c.index-values-k.is (c.loop-k.invariant.1 h) in
    let k = worked_typed c.args.f.now _ _ _ c.in_ok-work_more.ensures v.typed in
    later c.args.f.now (λ (g : ℕ). ValidExpr (plain_program c.args.f.now.program.now) c.args.f.now.io.now g
    (plain_expr c.index-values-k.result)) (λ g z. z.3.0) v k)) (c.in_err-x.ensures quiet))

pub initialising-returns-in_err-initialise : goal.initialising-returns-in_err-initialise
initialising-returns-in_err-initialise t c = λ quiet.
    rw (
      ← c.loop-k.invariant.0 quiet,
      leaves_step c.args.f.now (calls_by quiet (calls_within (setting_of c.args.f.now.program.now c.args.f.now.io.now
          c.args.f.now.inputs.now) c.args.f.now.turns c.args.depth)) c.args.o c.loop-k.k c.args.values.now c.index-values-k.result
          (seen c.loop-k.s) (seen c.work_more.new.self) (omega (arith, c.loop-k-test.true)) c.index-values-k.is
          (c.in_ok-work_more.ensures ∙ ap (λ n. worked n (seen c.loop-k.s)) c.leaf_words.ensures),
      (c.in_ok-x.ensures quiet),
    ) (passes c.args.f.now quiet seen_exit c.from_residual-in_err-initialise.result c.in_err-initialise.field-0.0
    _ _ _ c.from_residual-in_err-initialise.ensures.1 (λ h. h) (stops_of c.args.f.now quiet
    (λ (x : Value). x) c.in_err-initialise.field-0.0 _ _ c.in_err-initialise.ensures.shows (λ h. c.in_err-initialise.ensures.answered)))

pub initialising-loop-k-preserved : goal.initialising-loop-k-preserved
initialising-loop-k-preserved t c = (
  λ quiet. (let one = leaves_step c.args.f.now (calls_by quiet (calls_within (setting_of c.args.f.now.program.now c.args.f.now.io.now
      c.args.f.now.inputs.now) c.args.f.now.turns c.args.depth)) c.args.o c.loop-k.k c.args.values.now c.index-values-k.result
      (seen c.loop-k.s) (seen c.work_more.new.self) (omega (arith, c.loop-k-test.true)) c.index-values-k.is
      (c.in_ok-work_more.ensures ∙ ap (λ n. worked n (seen c.loop-k.s)) c.leaf_words.ensures) in
      sym (one ∙ rw (c.in_ok-x.ensures quiet, c.in_ok-initialise.ensures.shows) refl) ∙ c.loop-k.invariant.0 quiet),
  λ h. (let v = leaves_next c.args.f.now _ c.args.o c.loop-k.k c.args.values.now c.index-values-k.result
      (omega (arith, c.loop-k-test.true)) c.index-values-k.is (c.loop-k.invariant.1 h) in
      left_next c.args.f.now c.args.f.now.turns c.args.depth _ c.args.o c.loop-k.k (plain_expr c.index-values-k.result) _ c.in_ok-x.x
      _ _ _ _ _ v c.in_ok-work_more.ensures (c.in_ok-x.ensures false) c.in_ok-initialise.ensures.shows),
)

pub goes_on-returns-in_err-evaluated : goal.goes_on-returns-in_err-evaluated
goes_on-returns-in_err-evaluated t c = λ quiet.
    passes c.args.f.now quiet (λ b. b) c.from_residual.result c.in_err-evaluated.field-0.0 _ _ _ c.from_residual.ensures.1
    (λ h. test_last c.args.f.now h) (c.in_err-evaluated.ensures quiet)

pub goes_on-returns : goal.goes_on-returns
goes_on-returns t c = λ quiet.
    rw (c.in_ok-evaluated.ensures quiet) (suited c.args.f.now quiet (λ b. b) c.test_of.result _ _ (λ h. (let k = after_evaluated c.args.f.now c.args.f.now.turns
    c.args.depth (option_map plain_expr (option_copied c.args.last)) _ _ _ (test_last c.args.f.now h) (c.in_ok-evaluated.ensures false) in
    test_condition c.args.f.now (test_later c.args.f.now _ h k))) (c.test_of.ensures quiet))

pub node_value-returns-in-Number : goal.node_value-returns-in-Number
node_value-returns-in-Number t c = λ quiet. first_of (search rules, grind (arith, common_steps))

pub node_value-returns-in-Binary : goal.node_value-returns-in-Binary
node_value-returns-in-Binary t c = λ quiet.
    (let e = c.binary.ensures quiet in first_of (search rules, grind (arith, common_steps)))

pub node_value-returns-in-Convert : goal.node_value-returns-in-Convert
node_value-returns-in-Convert t c = λ quiet.
    (let e = c.convert.ensures quiet in first_of (search rules, grind (arith, common_steps)))

pub node_value-returns-in-Compound : goal.node_value-returns-in-Compound
node_value-returns-in-Compound t c = λ quiet.
    (let e = c.compound.ensures quiet in first_of (search rules, grind (arith, common_steps)))

pub node_value-returns-in-None-value : goal.node_value-returns-in-None-value
node_value-returns-in-None-value t c = λ quiet.
    rw (c.in-Io.is, c.in-None.is, c.in-None-value.is)
    (suited c.args.f.now quiet (λ x. x) c.port_operation.result _ _ (λ h. (plain_type c.args.ty.now, h)) (c.port_operation.ensures quiet))

pub node_value-returns-in-Some-value : goal.node_value-returns-in-Some-value
node_value-returns-in-Some-value t c = λ quiet.
    rw (c.in-Io.is, c.in-None.is, c.in-Some-value.is, ← c.deref-in-Some-value.ensures)
    (suited c.args.f.now quiet (λ x. x) c.port_operation-in-Some-value.result _ _ (λ h. (plain_type c.args.ty.now, h)) (c.port_operation-in-Some-value.ensures quiet))

pub node_value-returns-in-None-value-2 : goal.node_value-returns-in-None-value-2
node_value-returns-in-None-value-2 t c = λ quiet.
    rw (c.in-Io.is, c.in-Some.is, c.in-None-value-2.is, ← c.deref-in-None-value-2.ensures)
    (suited c.args.f.now quiet (λ x. x) c.port_operation-in-None-value-2.result _ _ (λ h. (plain_type c.args.ty.now, h)) (c.port_operation-in-None-value-2.ensures quiet))

pub node_value-returns-in-Some-value-2 : goal.node_value-returns-in-Some-value-2
node_value-returns-in-Some-value-2 t c = λ quiet.
    rw (c.in-Io.is, c.in-Some.is, c.in-Some-value-2.is, ← c.deref-in-Some-value-2.ensures, ← c.deref-in-Some-value-2-2.ensures)
    (suited c.args.f.now quiet (λ x. x) c.port_operation-in-Some-value-2.result _ _ (λ h. (plain_type c.args.ty.now, h)) (c.port_operation-in-Some-value-2.ensures quiet))

pub place_of-returns-in_ok-x-in-Deref : goal.place_of-returns-in_ok-x-in-Deref
place_of-returns-in_ok-x-in-Deref t c = λ quiet.
    rw (c.in-Deref.is, ← c.deref.ensures, c.in_ok-x-in-Deref.ensures quiet)
    (shown c.args.f.now quiet (λ to. to) c.pointed_to.result _ _ c.pointed_to.ensures.shows (λ h. c.pointed_to.ensures.answered))

pub place_of-returns-in_ok-to-in-Member : goal.place_of-returns-in_ok-to-in-Member
place_of-returns-in_ok-to-in-Member t c = λ quiet.
    rw (
      c.in-Member.is,
      ← c.deref-in-Member.ensures,
      ← c.in_ok-work_more-in-Member.ensures,
      c.in_ok-to-in-Member.ensures quiet,
      c.deref-in-Member.ensures,
      ← c.deref-in-Member-2.ensures,
    ) (shown c.args.f.now quiet (λ to. to) c.member_place.result _ _ c.member_place.ensures.shows
    (λ h. c.member_place.ensures.answered h.given))

pub values_of-returns : goal.values_of-returns
values_of-returns t c = λ quiet.
    values_done c.args.f.now _ c.args.es.now c.loop-e.e-index c.loop-e.xs.items (seen c.loop-e.s) _ (omega (arith, c.loop-e-test.false))
    (c.loop-e.invariant.0 quiet)

pub initialising-returns : goal.initialising-returns
initialising-returns t c = λ quiet.
    leaves_done c.args.f.now _ c.args.o c.args.values.now c.loop-k.k (seen c.loop-k.s) _ (omega (arith, c.loop-k-test.false))
    (c.loop-k.invariant.0 quiet)

pub first_effect-effects_of-requires : goal.first_effect-effects_of-requires
first_effect-effects_of-requires t c =
    let e = block_lighter (plain_stmt c.args.first.now) (plain_stmts c.in-Some.all.now) c.in-Some.ensures in
    let d = c.decreases in
    (omega (arith, e, d), c.requires)

pub effects_of-effect_of-requires : goal.effects_of-effect_of-requires
effects_of-effect_of-requires t c = first_of (grind (arith, common_steps, lighter_stmt), search (rules, lighter_stmt))

pub effect_of-returns-in-Ok : goal.effect_of-returns-in-Ok
effect_of-returns-in-Ok t c = c.in-Ok.ensures

pub effect_of-returns-in-Err : goal.effect_of-returns-in-Err
effect_of-returns-in-Err t c =
    rw (c.placed.ensures) (placed_at c.args.f.now c.args.a.now.unit c.args.a.now.at (plain_kind c.args.a.now.kind) c.in-Err.e _ _
    (λ h. record {
      given = h.given;
      typed = h.typed;
      function = h.function;
      returns = h.returns;
      in_loop = h.in_loop;
      valid = h.valid;
    }) c.in-Err.ensures)

pub kind_effect-block-requires : goal.kind_effect-block-requires
kind_effect-block-requires t c =
    let e = weight_block c.in-Block.all in
    let i = ap (λ kind. kind_weight (plain_kind kind)) c.in-Block.is in
    let a = ap (λ ss. stmts_weight (plain_stmts ss)) c.as_slice.ensures in
    let d = c.decreases in
    (omega (arith, e, i, a, d), c.requires)

pub kind_effect-returns-in-Empty : goal.kind_effect-returns-in-Empty
kind_effect-returns-in-Empty t c = rw (c.in-Empty.is) refl

pub kind_effect-returns-in-Do1 : goal.kind_effect-returns-in-Do1
kind_effect-returns-in-Do1 t c =
    rw (c.in-Do1.is) (own_shown c.args.f.now _ _ seen_exit c.evaluated.result _ _ _ (λ p z. (c.args.depth, seen c.args.s.now, z))
    (λ h. statement_expr c.args.f.now (plain_expr c.in-Do1.e) _ h h.typed h.valid) (c.evaluated.ensures false) (c.evaluated.ensures true))

pub kind_effect-returns-in-Block : goal.kind_effect-returns-in-Block
kind_effect-returns-in-Block t c =
    let is : plain_kind c.args.kind.now ≡ block (plain_stmts c.as_slice.result.now) =
    ap plain_kind c.in-Block.is ∙ (plain_block c.in-Block.all ∙ ap (λ ss. block (plain_stmts ss)) (sym c.as_slice.ensures)) in
    subst (λ (kind : PlainKind). DoesKind c.args.f.now c.args.depth kind c.block.result (seen c.args.s.now) (seen c.block.new.s)) (sym is)
    c.block.ensures

pub kind_effect-returns-in-Local : goal.kind_effect-returns-in-Local
kind_effect-returns-in-Local t c =
    rw (c.in-Local.is, plain_local c.in-Local.o c.in-Local.values, ← c.as_slice-in-Local.ensures) c.declare.ensures

pub kind_effect-returns-in-None : goal.kind_effect-returns-in-None
kind_effect-returns-in-None t c = rw (c.in-If.is, c.in-None.is, ← c.deref.ensures) c.branch-f.ensures

pub kind_effect-returns-in-Some : goal.kind_effect-returns-in-Some
kind_effect-returns-in-Some t c =
    rw (c.in-If.is, c.in-Some.is, ← c.deref-in-Some.ensures, ← c.deref-in-Some-2.ensures) c.branch-f-in-Some.ensures

pub kind_effect-returns-in-While : goal.kind_effect-returns-in-While
kind_effect-returns-in-While t c =
    rw (c.in-While.is, ← c.deref-in-While.ensures)
    (widened c.args.f.now _ _ _ _ seen_exit c.tested_loop.result _ _ (λ p z. z) (λ p u k z. z) (λ h. record {
      test = record { given = h.given; typed = h.typed; function = h.function; tested = h.valid.0; done = tt };
      returns = h.returns;
      turn = h.valid.1;
    }) c.tested_loop.ensures)

pub kind_effect-returns-in-DoWhile : goal.kind_effect-returns-in-DoWhile
kind_effect-returns-in-DoWhile t c =
    rw (c.in-DoWhile.is, ← c.deref-in-DoWhile.ensures)
    (widened c.args.f.now _ _ _ _ seen_exit c.turning_loop.result _ _ (λ p z. z) (λ p u k z. z) (λ h. record {
      test = record { given = h.given; typed = h.typed; function = h.function; tested = h.valid.1; done = tt };
      returns = h.returns;
      turn = h.valid.0;
    }) c.turning_loop.ensures)

pub kind_effect-returns-in-None-first : goal.kind_effect-returns-in-None-first
kind_effect-returns-in-None-first t c =
    rw (c.in-For.is, c.in-None-first.is, ← c.as_ref.ensures.value, ← c.as_ref-in-None-first.ensures.value, ← c.deref-in-None-first.ensures)
    (ended_none c.args.f.now _ _ _ seen_exit c.tested_loop-in-None-first.result _ _
    (widened c.args.f.now _ _ _ _ seen_exit c.tested_loop-in-None-first.result _ _ (λ p z. z) (λ p u k z. inr z) (λ h. record {
      test = record { given = h.given; typed = h.typed; function = h.function; tested = h.valid.1; done = h.valid.2 };
      returns = h.returns;
      turn = h.valid.3;
    }) c.tested_loop-in-None-first.ensures))

pub kind_effect-returns-in-Some-first : goal.kind_effect-returns-in-Some-first
kind_effect-returns-in-Some-first t c =
    rw (
      c.in-For.is,
      c.in-Some-first.is,
      ← c.as_ref-in-Some-first.ensures.value,
      ← c.as_ref-in-Some-first-2.ensures.value,
      ← c.deref-in-Some-first.ensures,
      ← c.deref-in-Some-first-2.ensures,
    ) c.for_loop.ensures

pub kind_effect-returns-in-Break : goal.kind_effect-returns-in-Break
kind_effect-returns-in-Break t c = rw (c.in-Break.is) (left_shown c.args.f.now _ _ seen_exit c.jump.result _ _ _ (λ h. tt) c.jump.ensures)

pub kind_effect-returns-in-Continue : goal.kind_effect-returns-in-Continue
kind_effect-returns-in-Continue t c =
    rw (c.in-Continue.is) (left_shown c.args.f.now _ _ seen_exit c.jump-in-Continue.result _ _ _ (λ h. tt) c.jump-in-Continue.ensures)

pub kind_effect-returns-in-Return : goal.kind_effect-returns-in-Return
kind_effect-returns-in-Return t c =
    rw (c.in-Return.is) (own_shown c.args.f.now _ _ seen_exit c.returned.result _ _ _ (λ p z. (c.args.depth, _, z))
    (λ h. record { given = h.given; typed = h.typed; function = h.function; keeps = h.valid.1 })
    (c.returned.ensures false) (c.returned.ensures true))

pub block-returns-in_err-exit : goal.block-returns-in_err-exit
block-returns-in_err-exit t c =
    passes_at c.args.f.now _ _ _ _ seen_exit c.from_residual.result c.in_err-exit.field-0.0 _ _ _ c.from_residual.ensures.1 (λ p z. absurd z) (λ p u k z. z)
    (λ h. record { given = h.given; typed = h.typed; function = h.function; returns = h.returns; in_loop = h.in_loop; valid = h.valid })
    c.in_err-exit.ensures

pub block-returns : goal.block-returns
block-returns t c = rw (c.in_ok-exit.ensures, ← c.end_declared.ensures) refl

pub declare-returns-in_err-begin : goal.declare-returns-in_err-begin
declare-returns-in_err-begin t c =
    let p = err_from_is_err_and c.from_residual.result c.from_residual.ensures.1 in
    rw (p.1, p.2) (λ h. c.in_err-begin.ensures.answered h.given)

pub declare-returns : goal.declare-returns
declare-returns t c =
    rw (← c.in_ok-begin.ensures.begun)
    (own_shown c.args.f.now _ _ seen_exit c.initialising.result _ _ _ (λ p z. (c.args.depth, seen c.begin.new.s, z)) (λ h. (let b = after_begin c.args.f.now
    c.args.o (seen c.args.s.now) h.given h.typed in
    let k = subst (λ (s : State). IsTypedState (plain_program c.args.f.now.program.now) s) (sym c.in_ok-begin.ensures.begun) b in
    declared_leaves c.args.f.now c.args.o (plain_exprs c.args.values.now) _ h.function h.given k h.valid.0 h.valid.1))
    (c.initialising.ensures false) (c.initialising.ensures true))

pub branch-returns-in_err-work_more : goal.branch-returns-in_err-work_more
branch-returns-in_err-work_more t c = full_at c.args.f.now _ _ _ seen_exit c.from_residual.result _ _ c.from_residual.ensures.1

pub branch-returns-in_err-condition : goal.branch-returns-in_err-condition
branch-returns-in_err-condition t c =
    rw (branch_is c.args.f.now c.args.f.now.turns c.args.depth (plain_expr c.args.c.now) (plain_stmt c.args.a.now)
    (plain_other (option_copied c.args.b)) (seen c.args.s.now) (seen c.work_more.new.self) c.in_ok-work_more.ensures)
    (own_passes c.args.f.now _ _ seen_exit c.from_residual-in_err-condition.result c.in_err-condition.field-0.0 _ _ _ _
    c.from_residual-in_err-condition.ensures.1 (λ p z. (c.args.depth, seen c.work_more.new.self, z))
    (λ h. (let k = worked_typed c.args.f.now _ _ _ c.in_ok-work_more.ensures h.typed in
    statement_expr c.args.f.now (plain_expr c.args.c.now) _ h k h.valid.0.0))
    (c.in_err-condition.ensures false) (c.in_err-condition.ensures true))

pub branch-returns-then-branch : goal.branch-returns-then-branch
branch-returns-then-branch t c =
    rw (
      branch_is c.args.f.now c.args.f.now.turns c.args.depth (plain_expr c.args.c.now) (plain_stmt c.args.a.now)
          (plain_other (option_copied c.args.b)) (seen c.args.s.now) (seen c.work_more.new.self) c.in_ok-work_more.ensures,
      c.in_ok-condition.ensures false,
      c.if-branch.true,
    ) (widened c.args.f.now _ _ _ _ seen_exit c.effect_of.result _ _ (λ p z. absurd z) (λ p u k z. inl z)
    (λ h. (let k = worked_typed c.args.f.now _ _ _ c.in_ok-work_more.ensures h.typed in
    let m = after_condition c.args.f.now c.args.f.now.turns c.args.depth (plain_expr c.args.c.now) _ _ _
    (statement_expr c.args.f.now (plain_expr c.args.c.now) _ h k h.valid.0.0) (c.in_ok-condition.ensures false) in
    statement_in c.args.f.now (plain_stmt c.args.a.now) _ h m h.valid.1)) c.effect_of.ensures)

pub branch-returns-in-None : goal.branch-returns-in-None
branch-returns-in-None t c =
    rw (
      branch_is c.args.f.now c.args.f.now.turns c.args.depth (plain_expr c.args.c.now) (plain_stmt c.args.a.now)
          (plain_other (option_copied c.args.b)) (seen c.args.s.now) (seen c.work_more.new.self) c.in_ok-work_more.ensures,
      c.in_ok-condition.ensures false,
      c.if-branch.false,
      c.in-None.is,
    ) refl

pub branch-returns-in-Some : goal.branch-returns-in-Some
branch-returns-in-Some t c =
    rw (
      branch_is c.args.f.now c.args.f.now.turns c.args.depth (plain_expr c.args.c.now) (plain_stmt c.args.a.now)
          (plain_other (option_copied c.args.b)) (seen c.args.s.now) (seen c.work_more.new.self) c.in_ok-work_more.ensures,
      c.in_ok-condition.ensures false,
      c.if-branch.false,
      c.in-Some.is,
    ) (widened c.args.f.now _ _ _ _ seen_exit c.effect_of-in-Some.result _ _ (λ p z. absurd z) (λ p u k z. inr z)
    (λ h. (let k = worked_typed c.args.f.now _ _ _ c.in_ok-work_more.ensures h.typed in
    let m = after_condition c.args.f.now c.args.f.now.turns c.args.depth (plain_expr c.args.c.now) _ _ _
    (statement_expr c.args.f.now (plain_expr c.args.c.now) _ h k h.valid.0.0) (c.in_ok-condition.ensures false) in
    statement_in c.args.f.now (plain_stmt c.in-Some.b.now) _ h m h.valid.2)) c.effect_of-in-Some.ensures)

pub first_effect-returns-in-Some : goal.first_effect-returns-in-Some
first_effect-returns-in-Some t c =
    rw (first_is_block (setting_of c.args.f.now.program.now c.args.f.now.io.now c.args.f.now.inputs.now)
    (calls_within (setting_of c.args.f.now.program.now c.args.f.now.io.now c.args.f.now.inputs.now) c.args.f.now.turns c.args.depth)
    c.args.f.now.turns (plain_stmt c.args.first.now) (plain_stmts c.in-Some.all.now) (seen c.args.s.now) c.in-Some.ensures)
    (widened c.args.f.now _ _ _ _ seen_exit c.effects_of.result _ _ (λ p z. z)
    (λ p u k z. in_block c.args.f.now
    (MeetsAt (setting_of c.args.f.now.program.now c.args.f.now.io.now c.args.f.now.inputs.now) c.args.f.now.turns p (seen c.effects_of.new.s) u k)
    (plain_stmt c.args.first.now) (plain_stmts c.in-Some.all.now) c.in-Some.ensures z) (λ h. record {
      given = h.given;
      typed = h.typed;
      function = h.function;
      returns = h.returns;
      in_loop = h.in_loop;
      valid = block_valid (plain_program c.args.f.now.program.now) c.args.f.now.io.now h.function h.returns h.in_loop
          (plain_stmt c.args.first.now) (plain_stmts c.in-Some.all.now) c.in-Some.ensures h.valid;
    }) c.effects_of.ensures)

pub first_effect-returns-in-None : goal.first_effect-returns-in-None
first_effect-returns-in-None t c =
    rw (first_is_other (setting_of c.args.f.now.program.now c.args.f.now.io.now c.args.f.now.inputs.now)
    (calls_within (setting_of c.args.f.now.program.now c.args.f.now.io.now c.args.f.now.inputs.now) c.args.f.now.turns c.args.depth)
    c.args.f.now.turns (plain_stmt c.args.first.now) (seen c.args.s.now) c.in-None.ensures) c.effect_of.ensures

pub first_and_loop-returns-in_err-left : goal.first_and_loop-returns-in_err-left
first_and_loop-returns-in_err-left t c =
    passes_at c.args.f.now _ _ _ _ seen_exit c.from_residual.result c.in_err-left.field-0.0 _ _ _ c.from_residual.ensures.1 (λ p z. absurd z)
    (λ p u k z. inl z) (λ h. h.0) c.in_err-left.ensures

pub first_and_loop-returns-in-Some : goal.first_and_loop-returns-in-Some
first_and_loop-returns-in-Some t c = rw (c.in_ok-left.ensures) (c.in-Some.ensures (seen c.first_effect.new.s) _)

pub first_and_loop-returns-in-None : goal.first_and_loop-returns-in-None
first_and_loop-returns-in-None t c =
    rw (c.in_ok-left.ensures, c.in-None.ensures) (widened c.args.f.now _ _ _ _ seen_exit c.tested_loop.result _ _ (λ p z. z) (λ p u k z. inr z)
    (λ h. (let k = after_first c.args.f.now
    c.args.f.now.turns c.args.depth (plain_stmt c.args.first.now) (seen_exit c.in_ok-left.left) _ _ h.0 c.in_ok-left.ensures in
    loop_later c.args.f.now _ h.1 k)) c.tested_loop.ensures)

pub for_loop-returns-in_err-exit : goal.for_loop-returns-in_err-exit
for_loop-returns-in_err-exit t c =
    passes_at c.args.f.now _ _ _ _ seen_exit c.from_residual.result c.in_err-exit.field-0.0 _ _ _ c.from_residual.ensures.1 (λ p z. z) (λ p u k z. z) (λ h. (
      statement_in c.args.f.now (plain_stmt c.args.first.now) _ h h.typed h.valid.0,
      record {
        test = record { given = h.given; typed = h.typed; function = h.function; tested = h.valid.1; done = h.valid.2 };
        returns = h.returns;
        turn = h.valid.3;
      },
    )) c.in_err-exit.ensures

pub for_loop-returns : goal.for_loop-returns
for_loop-returns t c = rw (c.in_ok-exit.ensures, ← c.end_first.ensures) refl

pub effects_of-returns-in_err-left : goal.effects_of-returns-in_err-left
effects_of-returns-in_err-left t c =
    rw (
      ← c.loop-a.invariant.0,
      stmts_step c.args.f.now c.args.f.now.turns c.args.depth c.args.all.now c.loop-a.a-index c.a-item.result (seen c.loop-a.s)
          (omega (arith, c.loop-a-test.true)) c.a-item.is,
    )
    (passes_at c.args.f.now _ _ _ _ seen_exit c.from_residual.result c.in_err-left.field-0.0 _ _ _ c.from_residual.ensures.1 (λ p z. z)
    (λ p u k z. among c.args.f.now
    (MeetsAt (setting_of c.args.f.now.program.now c.args.f.now.io.now c.args.f.now.inputs.now) c.args.f.now.turns p (seen c.effect_of.new.s) u k)
    c.args.all.now c.loop-a.a-index c.a-item.result (omega (arith, c.loop-a-test.true)) c.a-item.is z)
    (λ h. (let v = stmts_next c.args.f.now
    _ c.args.all.now c.loop-a.a-index c.a-item.result (omega (arith, c.loop-a-test.true)) c.a-item.is (c.loop-a.invariant.1 h) in
    record { given = v.given; typed = v.typed; function = v.function; returns = v.returns; in_loop = v.in_loop; valid = v.valid.0 }))
    c.in_err-left.ensures)

pub effects_of-returns-in-Some : goal.effects_of-returns-in-Some
effects_of-returns-in-Some t c =
    rw (
      ← c.loop-a.invariant.0,
      stmts_step c.args.f.now c.args.f.now.turns c.args.depth c.args.all.now c.loop-a.a-index c.a-item.result (seen c.loop-a.s)
          (omega (arith, c.loop-a-test.true)) c.a-item.is,
      c.in_ok-left.ensures,
    ) (c.in-Some.ensures (seen c.effect_of.new.s) _)

pub effects_of-loop-a-preserved : goal.effects_of-loop-a-preserved
effects_of-loop-a-preserved t c = (
  sym (stmts_step c.args.f.now c.args.f.now.turns c.args.depth c.args.all.now c.loop-a.a-index c.a-item.result (seen c.loop-a.s)
      (omega (arith, c.loop-a-test.true)) c.a-item.is ∙ rw (c.in_ok-left.ensures) (c.in_default.ensures (seen c.effect_of.new.s) _))
      ∙ c.loop-a.invariant.0,
  λ h. (let v = stmts_next c.args.f.now _ c.args.all.now c.loop-a.a-index c.a-item.result (omega (arith, c.loop-a-test.true)) c.a-item.is
      (c.loop-a.invariant.1 h) in
      let k = after_statement c.args.f.now c.args.f.now.turns c.args.depth (plain_stmt c.a-item.result) (seen_exit c.in_ok-left.left) _ _
      (record { given = v.given; typed = v.typed; function = v.function; returns = v.returns; in_loop = v.in_loop; valid = v.valid.0 })
      c.in_ok-left.ensures in
      record { given = v.given; typed = k; function = v.function; returns = v.returns; in_loop = v.in_loop; valid = v.valid.1 }),
)

pub tested_loop-returns-in_err-test_of : goal.tested_loop-returns-in_err-test_of
tested_loop-returns-in_err-test_of t c =
    own_passes c.args.f.now _ _ seen_exit c.from_residual.result c.in_err-test_of.field-0.0 _ _ _ _ c.from_residual.ensures.1
    (λ p z. (c.args.depth, seen c.args.s.now, inl z))
    (λ h. test_condition c.args.f.now h.test) (c.in_err-test_of.ensures false) (c.in_err-test_of.ensures true)

pub tested_loop-returns-then-branch : goal.tested_loop-returns-then-branch
tested_loop-returns-then-branch t c =
    rw (c.in_ok-test_of.ensures false, c.if-branch.true)
    (widened c.args.f.now _ _ _ _ seen_exit c.turning_loop.result _ _ (λ p z. z) (λ p u k z. z) (λ h. (let k = after_test c.args.f.now c.args.f.now.turns
    c.args.depth (option_map plain_expr (option_copied c.args.c)) _ _ _ (test_condition c.args.f.now h.test)
    (c.in_ok-test_of.ensures false) in
    loop_later c.args.f.now _ h k)) c.turning_loop.ensures)

pub tested_loop-returns : goal.tested_loop-returns
tested_loop-returns t c =
    rw (c.in_ok-test_of.ensures false, c.if-branch.false)
    (left_shown c.args.f.now _ _ seen_exit c.end_loop.result _ _ _ (λ h. tt) c.end_loop.ensures)

pub turning_loop-returns-in_err-work_more : goal.turning_loop-returns-in_err-work_more
turning_loop-returns-in_err-work_more t c = full_at c.args.f.now _ _ _ seen_exit c.from_residual.result _ _ c.from_residual.ensures.1

pub turning_loop-returns-in_err-x : goal.turning_loop-returns-in_err-x
turning_loop-returns-in_err-x t c =
    let w = (setting_of c.args.f.now.program.now c.args.f.now.io.now c.args.f.now.inputs.now) in
    let calls = calls_within w c.args.f.now.turns c.args.depth in
    let body : State → Outcome Exit = λ s. effect_of w calls c.args.f.now.turns (plain_stmt c.args.body.now) s in
    let test : State → Outcome Bool =
    λ s. going_on w calls (option_map plain_expr (option_copied c.args.last)) (option_map plain_expr (option_copied c.args.c)) s in
    let one = turns_one c.loop-left.left body test (seen c.loop-left.s) (omega (arith, c.loop-left-test.true)) in
    rw (← c.loop-left.invariant.0, one, ← c.in_ok-work_more.ensures) (passes_at c.args.f.now _ _ _ _ seen_exit c.from_residual-in_err-x.result
    c.in_err-x.field-0.0 _ _ _ c.from_residual-in_err-x.ensures.1 (λ p z. absurd z) (λ p u k z. z)
    (λ h. (let l = c.loop-left.invariant.1 h in
    let k = worked_typed c.args.f.now _ _ _ c.in_ok-work_more.ensures l.test.typed in
    loop_turn c.args.f.now _ l k)) c.in_err-x.ensures)

pub turning_loop-returns-in-Some : goal.turning_loop-returns-in-Some
turning_loop-returns-in-Some t c =
    let w = (setting_of c.args.f.now.program.now c.args.f.now.io.now c.args.f.now.inputs.now) in
    let calls = calls_within w c.args.f.now.turns c.args.depth in
    let body : State → Outcome Exit = λ s. effect_of w calls c.args.f.now.turns (plain_stmt c.args.body.now) s in
    let test : State → Outcome Bool =
    λ s. going_on w calls (option_map plain_expr (option_copied c.args.last)) (option_map plain_expr (option_copied c.args.c)) s in
    let one = turns_one c.loop-left.left body test (seen c.loop-left.s) (omega (arith, c.loop-left-test.true)) in
    rw (← c.loop-left.invariant.0, one, ← c.in_ok-work_more.ensures, c.in_ok-x.ensures) (c.in-Some.ensures (seen c.effect_of.new.s) _)

pub turning_loop-returns-in_err-goes_on : goal.turning_loop-returns-in_err-goes_on
turning_loop-returns-in_err-goes_on t c =
    let w = (setting_of c.args.f.now.program.now c.args.f.now.io.now c.args.f.now.inputs.now) in
    let calls = calls_within w c.args.f.now.turns c.args.depth in
    let body : State → Outcome Exit = λ s. effect_of w calls c.args.f.now.turns (plain_stmt c.args.body.now) s in
    let test : State → Outcome Bool =
    λ s. going_on w calls (option_map plain_expr (option_copied c.args.last)) (option_map plain_expr (option_copied c.args.c)) s in
    let one = turns_one c.loop-left.left body test (seen c.loop-left.s) (omega (arith, c.loop-left-test.true)) in
    rw (← c.loop-left.invariant.0, one, ← c.in_ok-work_more.ensures, c.in_ok-x.ensures, c.in_default.ensures)
    (own_passes c.args.f.now _ _ seen_exit c.from_residual-in_err-goes_on.result c.in_err-goes_on.field-0.0 _ _ _ _
    c.from_residual-in_err-goes_on.ensures.1 (λ p z. (c.args.depth, seen c.effect_of.new.s, inr z))
    (λ h. (let l = c.loop-left.invariant.1 h in
    let k = worked_typed c.args.f.now _ _ _ c.in_ok-work_more.ensures l.test.typed in
    let m = after_statement c.args.f.now c.args.f.now.turns c.args.depth (plain_stmt c.args.body.now)
    (seen_exit c.in_ok-x.x) _ _ (loop_turn c.args.f.now _ l k) c.in_ok-x.ensures in
    test_later c.args.f.now _ l.test m)) (c.in_err-goes_on.ensures false) (c.in_err-goes_on.ensures true))

pub turning_loop-returns-then-not-branch : goal.turning_loop-returns-then-not-branch
turning_loop-returns-then-not-branch t c =
    let w = (setting_of c.args.f.now.program.now c.args.f.now.io.now c.args.f.now.inputs.now) in
    let calls = calls_within w c.args.f.now.turns c.args.depth in
    let body : State → Outcome Exit = λ s. effect_of w calls c.args.f.now.turns (plain_stmt c.args.body.now) s in
    let test : State → Outcome Bool =
    λ s. going_on w calls (option_map plain_expr (option_copied c.args.last)) (option_map plain_expr (option_copied c.args.c)) s in
    let one = turns_one c.loop-left.left body test (seen c.loop-left.s) (omega (arith, c.loop-left-test.true)) in
    rw (
      ← c.loop-left.invariant.0,
      one,
      ← c.in_ok-work_more.ensures,
      c.in_ok-x.ensures,
      c.in_default.ensures,
      c.in_ok-goes_on.ensures false,
      c.if-not-branch.true,
    ) (left_shown c.args.f.now _ _ seen_exit c.end_loop.result _ _ _ (λ h. tt) c.end_loop.ensures)

pub turning_loop-loop-left-preserved : goal.turning_loop-loop-left-preserved
turning_loop-loop-left-preserved t c =
    let w = (setting_of c.args.f.now.program.now c.args.f.now.io.now c.args.f.now.inputs.now) in
    let calls = calls_within w c.args.f.now.turns c.args.depth in
    let body : State → Outcome Exit = λ s. effect_of w calls c.args.f.now.turns (plain_stmt c.args.body.now) s in
    let test : State → Outcome Bool =
    λ s. going_on w calls (option_map plain_expr (option_copied c.args.last)) (option_map plain_expr (option_copied c.args.c)) s in
    let one = turns_one c.loop-left.left body test (seen c.loop-left.s) (omega (arith, c.loop-left-test.true)) in (
      sym (one
          ∙ rw (← c.in_ok-work_more.ensures, c.in_ok-x.ensures, c.in_default.ensures, c.in_ok-goes_on.ensures false, c.if-not-branch.false) refl)
          ∙ c.loop-left.invariant.0,
      λ h. (let l = c.loop-left.invariant.1 h in
          let k = worked_typed c.args.f.now _ _ _ c.in_ok-work_more.ensures l.test.typed in
          let m = after_statement c.args.f.now c.args.f.now.turns c.args.depth (plain_stmt c.args.body.now) (seen_exit c.in_ok-x.x) _ _
          (loop_turn c.args.f.now _ l k) c.in_ok-x.ensures in
          let n = after_going c.args.f.now c.args.f.now.turns c.args.depth (option_map plain_expr (option_copied c.args.last))
          (option_map plain_expr (option_copied c.args.c)) _ _ _ (test_later c.args.f.now _ l.test m) (c.in_ok-goes_on.ensures false) in
          loop_later c.args.f.now _ l n),
    )

pub call_function-enter-requires : goal.call_function-enter-requires
call_function-enter-requires t c =
    let f = c.args.f.now in
    let all = map plain_function f.program.now.funcs.items in
    let h = lighter_body all c.args.g (plain_function c.in-Some.called.now) (sym c.in-Some.ensures) in
    let p : 0 < c.args.depth = omega (arith, c.if-depth-eq0.false) in
    let e = one_less c.args.depth (bodies all) p in
    let d = c.decreases in
    (omega (arith, h, e, d), (c.requires, h))

pub call_function-returns-then-depth-eq0 : goal.call_function-returns-then-depth-eq0
call_function-returns-then-depth-eq0 t c = λ quiet.
    rw (c.no_function.ensures) (not_called c.args.f.now quiet
    (calls_within (setting_of c.args.f.now.program.now c.args.f.now.io.now c.args.f.now.inputs.now) c.args.f.now.turns c.args.depth)
    c.args.g c.args.xs.now (seen c.args.s.now) (rw (c.if-depth-eq0.true) refl))

pub call_function-returns-in-None : goal.call_function-returns-in-None
call_function-returns-in-None t c = λ quiet.
    rw (c.no_function-in-None.ensures) (not_called c.args.f.now quiet
    (calls_within (setting_of c.args.f.now.program.now c.args.f.now.io.now c.args.f.now.inputs.now) c.args.f.now.turns c.args.depth)
    c.args.g c.args.xs.now (seen c.args.s.now)
    (calls_one (setting_of c.args.f.now.program.now c.args.f.now.io.now c.args.f.now.inputs.now) c.args.f.now.turns c.args.depth c.args.g
    c.args.xs.now (seen c.args.s.now) (omega (arith, c.if-depth-eq0.false)) ∙ rw (← c.in-None.ensures) refl))

pub call_function-returns-in-Some : goal.call_function-returns-in-Some
call_function-returns-in-Some t c =
    let f = c.args.f.now in
    let w = setting_of f.program.now f.io.now f.inputs.now in
    let called : PlainFunction = plain_function c.in-Some.called.now in
    let done : ShowsAt f Nothing (MetInFunction w f.turns c.args.g called) (λ x. x) (RunsCalled f (seen c.args.s.now) c.args.g called
    c.args.xs.now) c.enter.result (seen c.enter.new.s) (calls_within w f.turns c.args.depth c.args.g c.args.xs.now (seen c.args.s.now)) =
    rw (
      calls_one w f.turns c.args.depth c.args.g c.args.xs.now (seen c.args.s.now) (omega (arith, c.if-depth-eq0.false)),
      ← c.in-Some.ensures,
    ) c.enter.ensures in λ quiet.
    called_so f quiet (calls_within w f.turns c.args.depth) c.args.g c.args.xs.now (seen c.args.s.now) called c.enter.result
    (seen c.enter.new.s) (sym c.in-Some.ensures) (λ h. record {
      given = h.given;
      typed = h.typed;
      called = (
        sym c.in-Some.ensures,
        called_arguments f c.args.g called c.args.xs.now (sym c.in-Some.ensures) h.arguments,
      );
    }) done

pub enter-returns-in-Err : goal.enter-returns-in-Err
enter-returns-in-Err t c =
    rw (c.placed.ensures) (unbound c.args.f.now c.args.g (plain_function c.args.called.now) c.args.called.now.body.unit
    c.args.called.now.body.at c.args.xs.now _ c.in-Err.e _ _ (refl, refl) (λ h. h.given) (rw (c.as_slice.ensures) at c.in-Err.ensures))

pub enter-returns-in_err-exit : goal.enter-returns-in_err-exit
enter-returns-in_err-exit t c =
    rw (rw (c.as_slice.ensures) at c.in_default.ensures) (passes_at c.args.f.now _ _ _ _ (λ x. x) c.from_residual.result c.in_err-exit.field-0.0
    _ _ _ c.from_residual.ensures.1 (λ p z. z) (λ p u k z. inl z)
    (λ h. (let b = rw (c.as_slice.ensures) at c.in_default.ensures in
    let p = after_parameters c.args.f.now c.args.g (plain_function c.args.called.now) c.args.xs.now _ _ _ h.given h.called.0 h.called.1
    (worked_typed c.args.f.now function_words (seen c.args.s.now) (worked function_words (seen c.args.s.now)) refl h.typed) b in
    body_runs c.args.f.now c.args.g (plain_function c.args.called.now) _ h.given h.called.0 p)) c.in_err-exit.ensures)

pub enter-returns-in-Ok : goal.enter-returns-in-Ok
enter-returns-in-Ok t c = rw (rw (c.as_slice.ensures) at c.in_default.ensures, c.in_ok-exit.ensures) c.in-Ok.ensures

pub enter-returns-in-Err-end_call : goal.enter-returns-in-Err-end_call
enter-returns-in-Err-end_call t c =
    rw (rw (c.as_slice.ensures) at c.in_default.ensures, c.in_ok-exit.ensures, c.placed-in-Err-end_call.ensures)
    (unreturned c.args.f.now c.args.g (plain_function c.args.called.now) c.args.called.now.body.unit c.args.called.now.body.at c.args.depth
    _ _ _ c.in-Err-end_call.e _ (refl, refl) c.in_ok-exit.ensures (λ h. tt) c.in-Err-end_call.ensures)
