use Rattle.ec_parse_laws.proofs.Whole.{reads_every_derivation}
use Rattle.ec_parse_laws.proofs.reads_every_derivation.Goals as goal

pub returns : goal.returns
returns c = reads_every_derivation
