use Rattle.ec_check_tokens.proofs.Objects.{objects_are_in_order}
use Rattle.ec_check_tokens.proofs.laws.objects_are_in_order.Goals as goal

pub returns : goal.returns
returns c = objects_are_in_order c.there_is_one_reading.ensures
