use Rattle.ec_where_lines.proofs.Cuts.{around_last_is}
use Rattle.ec_where_lines.proofs.parts.around_last.Goals as goal

pub returns : goal.returns
returns c = around_last_is c.args.mark c.args.line.now c.rsplit_once.result c.requires c.rsplit_once.ensures.cases
