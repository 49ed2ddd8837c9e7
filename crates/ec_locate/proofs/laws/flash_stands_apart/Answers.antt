use Rattle.ec_locate.proofs.FlashStand.{flash-stands-apart}
use Rattle.ec_locate.proofs.laws.flash_stands_apart.Goals as goal

pub returns : goal.returns
returns c = flash-stands-apart
