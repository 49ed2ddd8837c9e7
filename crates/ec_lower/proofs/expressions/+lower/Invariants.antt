use Rattle.std.proofs.Common.{◌≡◌, ◌+◌, ◌*◌, ◌++◌, List, drop, map}
use Rattle.ec_core.specs.PortTable.{plain_table}
use Rattle.ec_core.specs.Plain.{plain_expr, plain_exprs, plain_node, plain_place, plain_program}
use Rattle.ec_ir.specs.Operations.{PlainIr, plain_ir}
use Rattle.std.specs.Option.{option_copied}
use Rattle.ec_lower.specs.Emits.{plain_operand}
use Rattle.ec_lower.specs.Sizes.{expr_size, node_size, place_size, option_size, exprs_size}
use Rattle.ec_lower_code.specs.Code.{exprs_labels, args_code}
use Rattle.ec_lower.proofs.expressions.+lower.Given as goal

abbrev pub decreases-lower_expr : goal.decreases-lower_expr
decreases-lower_expr l = 4 * expr_size (plain_expr l.e.now)

abbrev pub decreases-lower_unread : goal.decreases-lower_unread
decreases-lower_unread l = 4 * expr_size (plain_expr l.e.now) + 1

abbrev pub decreases-lower_effect : goal.decreases-lower_effect
decreases-lower_effect l = 4 * node_size (plain_node l.node.now) + 2

abbrev pub decreases-lower_place : goal.decreases-lower_place
decreases-lower_place l = 4 * place_size (plain_place l.p.now)

abbrev pub decreases-lower_choice : goal.decreases-lower_choice
decreases-lower_choice l = 4 * node_size (plain_node l.node.now) + 1

abbrev pub decreases-lower_branch : goal.decreases-lower_branch
decreases-lower_branch l = 4 * expr_size (plain_expr l.e.now) + 1

abbrev pub decreases-lower_port : goal.decreases-lower_port
decreases-lower_port l = 4 * node_size (plain_node l.node.now)

abbrev pub decreases-lower_io : goal.decreases-lower_io
decreases-lower_io l = 4 * option_size (plain_operand (option_copied l.index)) + 4 * option_size (plain_operand (option_copied l.value)) + 1

abbrev pub decreases-lower_operand : goal.decreases-lower_operand
decreases-lower_operand l = 4 * option_size (plain_operand (option_copied l.e))

abbrev pub decreases-lower_or : goal.decreases-lower_or
decreases-lower_or l = 4 * expr_size (plain_expr l.a.now) + 4 * expr_size (plain_expr l.b.now) + 1

abbrev pub decreases-lower_cond : goal.decreases-lower_cond
decreases-lower_cond l = 4 * expr_size (plain_expr l.c.now) + 4 * expr_size (plain_expr l.a.now) + 4 * expr_size (plain_expr l.b.now) + 1

abbrev pub decreases-lower_args : goal.decreases-lower_args
decreases-lower_args l = 4 * exprs_size (plain_exprs l.args.now)

abbrev pub invariant-lower_args-loop-e : goal.invariant-lower_args-loop-e
invariant-lower_args-loop-e l =
    let program = plain_program l.program in
    (l.k + exprs_labels (plain_exprs (drop l.e-index l.args)) ≡ l.fn.l + exprs_labels (plain_exprs l.args))
    × ((rest : List PlainIr) → map plain_ir l.code.items ++ args_code program (plain_table l.io)
    (plain_exprs (drop l.e-index l.args)) l.k l.u rest
    ≡ map plain_ir l.fn.code.items ++ args_code program (plain_table l.io) (plain_exprs l.args) l.fn.l l.fn.t rest)
