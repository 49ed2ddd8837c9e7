use Rattle.std.proofs.Common.{◌+◌}
use Rattle.ec_core.specs.Plain.{plain_expr, plain_node}
use Rattle.ec_check_constants.proofs.Weights.{weight, node_weight}
use Rattle.ec_check_constants.proofs.typed.+is_constant.Given as goal

abbrev pub decreases-is_constant_expression : goal.decreases-is_constant_expression
decreases-is_constant_expression l = weight (plain_expr l.e.now) + 1

abbrev pub decreases-is_constant_node : goal.decreases-is_constant_node
decreases-is_constant_node l = node_weight (plain_node l.node.now)
