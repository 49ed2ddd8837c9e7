use Rattle.ec_where_lines.proofs.Cuts.{around_is}
use Rattle.ec_where_lines.proofs.parts.around.Goals as goal

pub returns : goal.returns
returns c = around_is c.args.mark.now c.args.line.now c.split_once.result c.split_once.ensures.cases
