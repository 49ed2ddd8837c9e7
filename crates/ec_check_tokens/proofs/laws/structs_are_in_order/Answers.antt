use Rattle.ec_check_tokens.proofs.Structs.{structs_are_in_order}
use Rattle.ec_check_tokens.proofs.laws.structs_are_in_order.Goals as goal

pub returns : goal.returns
returns c =
    structs_are_in_order c.programs_are_typed.ensures c.equal_structs_are_one.ensures c.structs_are_declared.ensures
