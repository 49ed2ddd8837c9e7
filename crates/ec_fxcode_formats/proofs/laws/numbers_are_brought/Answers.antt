use Rattle.ec_fxcode_formats.proofs.Carried.{numbers_are_brought}
use Rattle.ec_fxcode_formats.proofs.laws.numbers_are_brought.Goals as goal

pub returns : goal.returns
returns c = numbers_are_brought
