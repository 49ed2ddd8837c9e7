use Rattle.ec_parse_laws.proofs.Whole.{reads_derivations_alone}
use Rattle.ec_parse_laws.proofs.reads_derivations_alone.Goals as goal

pub returns : goal.returns
returns c = reads_derivations_alone
