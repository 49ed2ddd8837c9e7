use Rattle.ec_check_expressions.proofs.Lengths.{none_of_several}
use Rattle.ec_check_expressions.proofs.bindings.binding_of.Goals as goal

pub returns-in_default-2 : goal.returns-in_default-2
returns-in_default-2 c = none_of_several c.args.io.now c.args.dynamic.now.name.items c.args.more.now c.in_default.len_at_least
