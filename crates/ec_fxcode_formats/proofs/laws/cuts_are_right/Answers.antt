use Rattle.ec_fxcode_formats.proofs.Dropped.{cuts_are_right}
use Rattle.ec_fxcode_formats.proofs.laws.cuts_are_right.Goals as goal

pub returns : goal.returns
returns c = cuts_are_right
