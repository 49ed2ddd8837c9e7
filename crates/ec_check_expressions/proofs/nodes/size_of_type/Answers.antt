use Rattle.std.proofs.Common.{rules}
use Rattle.ec_check_expressions.proofs.Sizes.{object_type}
use Rattle.ec_check_expressions.proofs.nodes.size_of_type.Goals as goal

pub size_value-requires-clause-object : goal.size_value-requires-clause-object
size_value-requires-clause-object c = search (rules, object_type)
