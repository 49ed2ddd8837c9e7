use Rattle.ec_parse_laws.proofs.Refusals.{no_program_goes_on}
use Rattle.ec_parse_laws.proofs.no_program_goes_on.Goals as goal

pub returns : goal.returns
returns c = no_program_goes_on
