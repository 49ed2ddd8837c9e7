use Rattle.std.proofs.Common.{sym, ◌∙◌}
use Rattle.ec_parse_laws.specs.Reading.{read}
use Rattle.ec_parse.proofs.StatementEnds.{rest_left}
use Rattle.ec_parse.proofs.units.read.Goals as goal

pub returns-else-is_empty : goal.returns-else-is_empty
unfolding read
returns-else-is_empty c = rw c.unexpected.ensures
    (rw c.in_ok-tree.ensures (rest_left _ c.args.source.count c.in_ok-tree.rest.now (sym c.is_empty.ensures ∙ c.if-is_empty.false)))
