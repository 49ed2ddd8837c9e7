use Rattle.ec_check_least.proofs.Told.{the_least_is_told}
use Rattle.ec_check_least.proofs.the_least_is_told.Goals as goal

pub returns : goal.returns
returns c = the_least_is_told c.the_least_is_kept.ensures c.judgements_add_up.ensures
