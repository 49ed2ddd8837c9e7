use Rattle.ec_where_lines.proofs.Cuts.{prefix_is}
use Rattle.ec_where_lines.proofs.parts.behind.Goals as goal

pub returns : goal.returns
returns c = prefix_is c.args.head.now c.args.line.now c.strip_prefix.result c.strip_prefix.ensures.cases
