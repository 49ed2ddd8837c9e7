use Rattle.std.proofs.Common.{◌+◌}
use Rattle.ec_core.specs.Plain.{plain_expr}
use Rattle.ec_check_constants.proofs.Weights.{weight}
use Rattle.ec_check_constants.proofs.constants.+constant.Given as goal

abbrev pub decreases-constant : goal.decreases-constant
decreases-constant l = weight (plain_expr l.e.now)

abbrev pub decreases-unary : goal.decreases-unary
decreases-unary l = weight (plain_expr l.a.now) + 1

abbrev pub decreases-binary : goal.decreases-binary
decreases-binary l = weight (plain_expr l.a.now) + weight (plain_expr l.b.now) + 1

abbrev pub decreases-converted : goal.decreases-converted
decreases-converted l = weight (plain_expr l.a.now) + 1

abbrev pub decreases-logical_not : goal.decreases-logical_not
decreases-logical_not l = weight (plain_expr l.a.now) + 1

abbrev pub decreases-logical_and : goal.decreases-logical_and
decreases-logical_and l = weight (plain_expr l.a.now) + weight (plain_expr l.b.now) + 1

abbrev pub decreases-logical_or : goal.decreases-logical_or
decreases-logical_or l = weight (plain_expr l.a.now) + weight (plain_expr l.b.now) + 1

abbrev pub decreases-conditional : goal.decreases-conditional
decreases-conditional l = weight (plain_expr l.c.now) + weight (plain_expr l.a.now) + weight (plain_expr l.b.now) + 1
