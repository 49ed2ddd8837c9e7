use Rattle.ec_parse_laws.proofs.ToldUnits.{tells_in_time}
use Rattle.ec_parse_laws.proofs.tells_no_later.Goals as goal

pub returns : goal.returns
returns c = tells_in_time
