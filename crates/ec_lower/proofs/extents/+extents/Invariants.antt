use Rattle.std.proofs.Common.{◌≡◌, ◌+◌, ◌*◌, drop}
use Rattle.std.specs.Prelude.{max}
use Rattle.ec_core.specs.Needs.{greatest_from, exprs_needs, node_need}
use Rattle.ec_core.specs.Plain.{plain_expr, plain_exprs, plain_node, plain_place}
use Rattle.std.specs.Option.{option_copied}
use Rattle.ec_lower.specs.Emits.{plain_operand}
use Rattle.ec_lower.specs.Sizes.{expr_size, node_size, place_size, option_size, exprs_size}
use Rattle.ec_lower_code.specs.Code.{exprs_labels}
use Rattle.ec_lower.proofs.extents.+extents.Given as goal

abbrev pub decreases-expr_extent : goal.decreases-expr_extent
decreases-expr_extent l = 4 * expr_size (plain_expr l.e.now)

abbrev pub decreases-place_extent : goal.decreases-place_extent
decreases-place_extent l = 4 * place_size (plain_place l.p.now)

abbrev pub decreases-change_extent : goal.decreases-change_extent
decreases-change_extent l = 4 * node_size (plain_node l.node.now) + 3

abbrev pub decreases-choice_extent : goal.decreases-choice_extent
decreases-choice_extent l = 4 * node_size (plain_node l.node.now) + 2

abbrev pub decreases-port_extent : goal.decreases-port_extent
decreases-port_extent l = 4 * node_size (plain_node l.node.now) + 1

abbrev pub decreases-io_extent : goal.decreases-io_extent
decreases-io_extent l =
    4 * option_size (plain_operand (option_copied l.index)) + 4 * option_size (plain_operand (option_copied l.value)) + 1

abbrev pub decreases-value_extent : goal.decreases-value_extent
decreases-value_extent l = 4 * option_size (plain_operand (option_copied l.value))

abbrev pub decreases-pair_extent : goal.decreases-pair_extent
decreases-pair_extent l = 4 * expr_size (plain_expr l.a.now) + 4 * expr_size (plain_expr l.b.now)

abbrev pub decreases-args_extent : goal.decreases-args_extent
decreases-args_extent l = 4 * exprs_size (plain_exprs l.args.now)

abbrev pub invariant-args_extent-loop-e : goal.invariant-args_extent-loop-e
invariant-args_extent-loop-e l =
    (l.labels + exprs_labels (plain_exprs (drop l.e-index l.args)) ≡ exprs_labels (plain_exprs l.args))
    × (max l.places (greatest_from l.kept (exprs_needs (plain_exprs (drop l.e-index l.args))))
    ≡ node_need (exprs_needs (plain_exprs l.args)))
