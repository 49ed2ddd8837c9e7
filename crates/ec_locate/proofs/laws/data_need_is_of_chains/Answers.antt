use Rattle.ec_locate.proofs.ChainNeed.{data-need-is-of-chains}
use Rattle.ec_locate.proofs.laws.data_need_is_of_chains.Goals as goal

pub returns : goal.returns
returns c = data-need-is-of-chains c.frames_are_overlaid.ensures
