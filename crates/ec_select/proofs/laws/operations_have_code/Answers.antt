use Rattle.ec_select.proofs.OperationCode.{operations_have_code}
use Rattle.ec_select.proofs.laws.operations_have_code.Goals as goal

pub returns : goal.returns
returns c = operations_have_code c.leaves_fill_their_types.ensures
