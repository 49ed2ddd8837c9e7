use Rattle.ec_core.proofs.Runs.{bytes_are_taken_in_order}
use Rattle.ec_core.proofs.laws.bytes_are_taken_in_order.Goals as goal

pub returns : goal.returns
returns c = bytes_are_taken_in_order
