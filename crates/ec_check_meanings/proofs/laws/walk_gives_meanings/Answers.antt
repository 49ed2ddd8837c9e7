use Rattle.ec_check_meanings.proofs.Meanings.{walk_gives_meanings}
use Rattle.ec_check_meanings.proofs.laws.walk_gives_meanings.Goals as goal

pub returns : goal.returns
returns c = walk_gives_meanings c.types_are_told.ensures
