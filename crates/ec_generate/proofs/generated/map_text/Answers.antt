use Rattle.ec_generate.proofs.Lengths.{map_fits}
use Rattle.ec_generate.proofs.generated.map_text.Goals as goal

pub returns-clause-short : goal.returns-clause-short
returns-clause-short c = rw (c.in_ok-text.ensures) map_fits
