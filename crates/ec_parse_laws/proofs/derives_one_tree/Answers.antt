use Rattle.ec_parse_laws.proofs.Whole.{derives_one_tree}
use Rattle.ec_parse_laws.proofs.derives_one_tree.Goals as goal

pub returns : goal.returns
returns c = derives_one_tree
