use Rattle.ec_fxcode_quotients.proofs.Sizes.{bits_below}
use Rattle.ec_fxcode_quotients.proofs.quotients.bits_of.Goals as goal

pub returns-clause-most : goal.returns-clause-most
returns-clause-most c = bits_below c.args.number c.args.divisor c.args.to c.requires.number c.requires.divisor c.requires.to
