use Rattle.std.proofs.Common.{◌≡◌, ◌+◌, ◌*◌, ◌++◌, Bool, drop, map}
use Rattle.std.specs.Prelude.{option_map}
use Rattle.std.specs.Option.{option_copied}
use Rattle.ec_core.specs.Expressions.{values_of}
use Rattle.ec_core.specs.Plain.{plain_expr, plain_exprs, plain_node, plain_place, plain_stmt, plain_kind, plain_stmts, plain_function}
use Rattle.ec_core.specs.State.{State, Outcome, next, got}
use Rattle.ec_core.specs.Statements.{Exit, initialising, effect_of, effects_of, going_on, turns, calls_within}
use Rattle.ec_interp.specs.Does.{plain_other}
use Rattle.ec_interp.specs.Places.{calls_by}
use Rattle.ec_interp.specs.Suits.{RunsExprs, RunsLeaves, RunsStmts, RunsLoop}
use Rattle.ec_interp.specs.Views.{plain_optional, seen, setting_of}
use Rattle.ec_interp.specs.Weights.{expr_weight, node_weight, place_weight, option_weight, exprs_weight, optional_weight, stmt_weight, kind_weight}
use Rattle.ec_interp.specs.Weights.{option_stmt_weight, stmts_weight, bodies}
use Rattle.ec_interp.proofs.run.+run.Given as goal

abbrev pub decreases-value_of : goal.decreases-value_of
decreases-value_of l = l.depth * bodies (map plain_function l.f.now.program.now.funcs.items) + expr_weight (plain_expr l.e.now)

abbrev pub decreases-node_value : goal.decreases-node_value
decreases-node_value l = l.depth * bodies (map plain_function l.f.now.program.now.funcs.items) + node_weight (plain_node l.node.now)

abbrev pub decreases-load : goal.decreases-load
decreases-load l = l.depth * bodies (map plain_function l.f.now.program.now.funcs.items) + place_weight (plain_place l.p.now) + 2

abbrev pub decreases-address_of : goal.decreases-address_of
decreases-address_of l = l.depth * bodies (map plain_function l.f.now.program.now.funcs.items) + place_weight (plain_place l.p.now) + 2

abbrev pub decreases-unary : goal.decreases-unary
decreases-unary l = l.depth * bodies (map plain_function l.f.now.program.now.funcs.items) + expr_weight (plain_expr l.a.now) + 2

abbrev pub decreases-binary : goal.decreases-binary
decreases-binary l = l.depth * bodies (map plain_function l.f.now.program.now.funcs.items) + expr_weight (plain_expr l.a.now)
    + expr_weight (plain_expr l.b.now) + 2

abbrev pub decreases-convert : goal.decreases-convert
decreases-convert l = l.depth * bodies (map plain_function l.f.now.program.now.funcs.items) + expr_weight (plain_expr l.a.now) + 2

abbrev pub decreases-assign : goal.decreases-assign
decreases-assign l = l.depth * bodies (map plain_function l.f.now.program.now.funcs.items) + place_weight (plain_place l.p.now)
    + expr_weight (plain_expr l.a.now) + 2

abbrev pub decreases-compound : goal.decreases-compound
decreases-compound l = l.depth * bodies (map plain_function l.f.now.program.now.funcs.items) + place_weight (plain_place l.p.now)
    + expr_weight (plain_expr l.a.now) + 2

abbrev pub decreases-step : goal.decreases-step
decreases-step l = l.depth * bodies (map plain_function l.f.now.program.now.funcs.items) + place_weight (plain_place l.p.now) + 2

abbrev pub decreases-condition : goal.decreases-condition
decreases-condition l = l.depth * bodies (map plain_function l.f.now.program.now.funcs.items) + expr_weight (plain_expr l.e.now) + 1

abbrev pub decreases-logical_not : goal.decreases-logical_not
decreases-logical_not l = l.depth * bodies (map plain_function l.f.now.program.now.funcs.items) + expr_weight (plain_expr l.a.now) + 2

abbrev pub decreases-logical_and : goal.decreases-logical_and
decreases-logical_and l = l.depth * bodies (map plain_function l.f.now.program.now.funcs.items) + expr_weight (plain_expr l.a.now)
    + expr_weight (plain_expr l.b.now) + 2

abbrev pub decreases-logical_or : goal.decreases-logical_or
decreases-logical_or l = l.depth * bodies (map plain_function l.f.now.program.now.funcs.items) + expr_weight (plain_expr l.a.now)
    + expr_weight (plain_expr l.b.now) + 2

abbrev pub decreases-conditional : goal.decreases-conditional
decreases-conditional l = l.depth * bodies (map plain_function l.f.now.program.now.funcs.items) + expr_weight (plain_expr l.c.now)
    + expr_weight (plain_expr l.a.now) + expr_weight (plain_expr l.b.now) + 2

abbrev pub decreases-comma : goal.decreases-comma
decreases-comma l = l.depth * bodies (map plain_function l.f.now.program.now.funcs.items) + expr_weight (plain_expr l.a.now)
    + expr_weight (plain_expr l.b.now) + 2

abbrev pub decreases-call_with : goal.decreases-call_with
decreases-call_with l = l.depth * bodies (map plain_function l.f.now.program.now.funcs.items) + exprs_weight (plain_exprs l.args.now) + 2

abbrev pub decreases-place_of : goal.decreases-place_of
decreases-place_of l = l.depth * bodies (map plain_function l.f.now.program.now.funcs.items) + place_weight (plain_place l.p.now)

abbrev pub decreases-port_operation : goal.decreases-port_operation
decreases-port_operation l = l.depth * bodies (map plain_function l.f.now.program.now.funcs.items)
    + option_weight (plain_optional (option_copied l.index)) + option_weight (plain_optional (option_copied l.value)) + 2

abbrev pub decreases-option_value : goal.decreases-option_value
decreases-option_value l =
    l.depth * bodies (map plain_function l.f.now.program.now.funcs.items) + option_weight (plain_optional (option_copied l.e))

abbrev pub decreases-values_of : goal.decreases-values_of
decreases-values_of l = l.depth * bodies (map plain_function l.f.now.program.now.funcs.items) + exprs_weight (plain_exprs l.es.now)

abbrev pub decreases-test_of : goal.decreases-test_of
decreases-test_of l = l.depth * bodies (map plain_function l.f.now.program.now.funcs.items)
    + optional_weight (option_map plain_expr (option_copied l.c))

abbrev pub decreases-evaluated : goal.decreases-evaluated
decreases-evaluated l = l.depth * bodies (map plain_function l.f.now.program.now.funcs.items)
    + optional_weight (option_map plain_expr (option_copied l.e))

abbrev pub decreases-returned : goal.decreases-returned
decreases-returned l = l.depth * bodies (map plain_function l.f.now.program.now.funcs.items)
    + optional_weight (option_map plain_expr l.e.now)

abbrev pub decreases-initialising : goal.decreases-initialising
decreases-initialising l = l.depth * bodies (map plain_function l.f.now.program.now.funcs.items) + exprs_weight (plain_exprs l.values.now)

abbrev pub decreases-effect_of : goal.decreases-effect_of
decreases-effect_of l = l.depth * bodies (map plain_function l.f.now.program.now.funcs.items) + stmt_weight (plain_stmt l.a.now) + 1

abbrev pub decreases-kind_effect : goal.decreases-kind_effect
decreases-kind_effect l = l.depth * bodies (map plain_function l.f.now.program.now.funcs.items) + kind_weight (plain_kind l.kind.now)

abbrev pub decreases-block : goal.decreases-block
decreases-block l = l.depth * bodies (map plain_function l.f.now.program.now.funcs.items) + stmts_weight (plain_stmts l.all.now) + 2

abbrev pub decreases-declare : goal.decreases-declare
decreases-declare l = l.depth * bodies (map plain_function l.f.now.program.now.funcs.items) + exprs_weight (plain_exprs l.values.now) + 2

abbrev pub decreases-branch : goal.decreases-branch
decreases-branch l = l.depth * bodies (map plain_function l.f.now.program.now.funcs.items) + expr_weight (plain_expr l.c.now)
    + stmt_weight (plain_stmt l.a.now) + option_stmt_weight (plain_other (option_copied l.b)) + 2

abbrev pub decreases-first_effect : goal.decreases-first_effect
decreases-first_effect l = l.depth * bodies (map plain_function l.f.now.program.now.funcs.items) + stmt_weight (plain_stmt l.first.now) + 2

abbrev pub decreases-first_and_loop : goal.decreases-first_and_loop
decreases-first_and_loop l = l.depth * bodies (map plain_function l.f.now.program.now.funcs.items) + stmt_weight (plain_stmt l.first.now)
    + optional_weight (option_map plain_expr (option_copied l.c)) + optional_weight (option_map plain_expr (option_copied l.last))
    + stmt_weight (plain_stmt l.body.now) + 5

abbrev pub decreases-for_loop : goal.decreases-for_loop
decreases-for_loop l = l.depth * bodies (map plain_function l.f.now.program.now.funcs.items) + stmt_weight (plain_stmt l.first.now)
    + optional_weight (option_map plain_expr (option_copied l.c)) + optional_weight (option_map plain_expr (option_copied l.last))
    + stmt_weight (plain_stmt l.body.now) + 6

abbrev pub decreases-effects_of : goal.decreases-effects_of
decreases-effects_of l = l.depth * bodies (map plain_function l.f.now.program.now.funcs.items) + stmts_weight (plain_stmts l.all.now) + 1

abbrev pub decreases-tested_loop : goal.decreases-tested_loop
decreases-tested_loop l =
    l.depth * bodies (map plain_function l.f.now.program.now.funcs.items) + optional_weight (option_map plain_expr (option_copied l.c))
    + optional_weight (option_map plain_expr (option_copied l.last)) + stmt_weight (plain_stmt l.body.now) + 4

abbrev pub decreases-turning_loop : goal.decreases-turning_loop
decreases-turning_loop l =
    l.depth * bodies (map plain_function l.f.now.program.now.funcs.items) + optional_weight (option_map plain_expr (option_copied l.c))
    + optional_weight (option_map plain_expr (option_copied l.last)) + stmt_weight (plain_stmt l.body.now) + 3

abbrev pub decreases-goes_on : goal.decreases-goes_on
decreases-goes_on l = l.depth * bodies (map plain_function l.f.now.program.now.funcs.items)
    + optional_weight (option_map plain_expr (option_copied l.c)) + optional_weight (option_map plain_expr (option_copied l.last)) + 1

abbrev pub decreases-call_function : goal.decreases-call_function
decreases-call_function l = l.depth * bodies (map plain_function l.f.now.program.now.funcs.items)

abbrev pub decreases-enter : goal.decreases-enter
decreases-enter l = l.depth * bodies (map plain_function l.f.now.program.now.funcs.items) + stmt_weight (plain_stmt l.called.now.body) + 2

abbrev pub invariant-values_of-loop-e : goal.invariant-values_of-loop-e
invariant-values_of-loop-e l =
    let w = setting_of l.f.program.now l.f.io.now l.f.inputs.now in
    ((quiet : Bool) → let calls = calls_by quiet (calls_within w l.f.turns l.depth) in
    next (values_of w calls (plain_exprs (drop l.e-index l.es)) (seen l.s)) (λ xs s. got (l.xs.items ++ xs) s)
    ≡ values_of w calls (plain_exprs l.es) (seen l.fn.s))
    × (RunsExprs l.f (seen l.fn.s) (plain_exprs l.es) → RunsExprs l.f (seen l.s) (plain_exprs (drop l.e-index l.es)))

abbrev pub invariant-initialising-loop-k : goal.invariant-initialising-loop-k
invariant-initialising-loop-k l =
    let w = setting_of l.f.program.now l.f.io.now l.f.inputs.now in
    ((quiet : Bool) → let calls = calls_by quiet (calls_within w l.f.turns l.depth) in
    initialising w calls l.o l.k (plain_exprs (drop l.k l.values)) (seen l.s)
    ≡ initialising w calls l.o 0 (plain_exprs l.values) (seen l.fn.s))
    × (RunsLeaves l.f (seen l.fn.s) l.o 0 (plain_exprs l.values) → RunsLeaves l.f (seen l.s) l.o l.k (plain_exprs (drop l.k l.values)))

abbrev pub invariant-effects_of-loop-a : goal.invariant-effects_of-loop-a
invariant-effects_of-loop-a l =
    let w = setting_of l.f.program.now l.f.io.now l.f.inputs.now in
    let calls = calls_within w l.f.turns l.depth in
    (effects_of w calls l.f.turns (plain_stmts (drop l.a-index l.all)) (seen l.s)
    ≡ effects_of w calls l.f.turns (plain_stmts l.all) (seen l.fn.s))
    × (RunsStmts l.f (seen l.fn.s) (plain_stmts l.all) → RunsStmts l.f (seen l.s) (plain_stmts (drop l.a-index l.all)))

abbrev pub invariant-turning_loop-loop-left : goal.invariant-turning_loop-loop-left
invariant-turning_loop-loop-left l =
    let w = setting_of l.f.program.now l.f.io.now l.f.inputs.now in
    let calls = calls_within w l.f.turns l.depth in
    let body : State → Outcome Exit = λ s. effect_of w calls l.f.turns (plain_stmt l.body) s in
    let test : State → Outcome Bool =
    λ s. going_on w calls (option_map plain_expr (option_copied l.last)) (option_map plain_expr (option_copied l.c)) s in
    (turns l.left body test (seen l.s) ≡ turns l.f.turns body test (seen l.fn.s))
    × (RunsLoop l.f (seen l.fn.s) (option_map plain_expr (option_copied l.c)) (option_map plain_expr (option_copied l.last))
    (plain_stmt l.body) → RunsLoop l.f (seen l.s) (option_map plain_expr (option_copied l.c)) (option_map plain_expr (option_copied l.last))
    (plain_stmt l.body))

abbrev pub decreases-turning_loop-loop-left : goal.decreases-turning_loop-loop-left
decreases-turning_loop-loop-left l = l.left
