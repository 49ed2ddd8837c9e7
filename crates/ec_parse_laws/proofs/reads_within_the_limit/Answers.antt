use Rattle.ec_parse_laws.proofs.Fits.{fits_tree}
use Rattle.ec_parse_laws.proofs.reads_within_the_limit.Goals as goal

pub returns : goal.returns
returns c = fits_tree
