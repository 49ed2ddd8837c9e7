use Rattle.ec_check_expressions.proofs.ArgumentLists.{args_are}
use Rattle.ec_check_expressions.proofs.callees.made_call.Goals as goal

pub returns : goal.returns
returns c = rw (← args_are c.args.args) c.call.ensures
