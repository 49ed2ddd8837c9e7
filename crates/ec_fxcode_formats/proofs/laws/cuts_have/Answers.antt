use Rattle.ec_fxcode_formats.proofs.Words.{cuts_have}
use Rattle.ec_fxcode_formats.proofs.laws.cuts_have.Goals as goal

pub returns : goal.returns
returns c = cuts_have
