use Rattle.ec_fxcode_formats.proofs.Carried.{brought_have}
use Rattle.ec_fxcode_formats.proofs.laws.brought_have.Goals as goal

pub returns : goal.returns
returns c = brought_have
