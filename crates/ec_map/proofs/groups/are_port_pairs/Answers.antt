use Rattle.std.proofs.Common.{◌∙◌, sym}
use Rattle.toml.specs.View.{view}
use Rattle.ec_map.specs.Rules.{is_port_pair}
use Rattle.ec_map.proofs.Arrays.{list_all-viewed}
use Rattle.ec_map.proofs.groups.are_port_pairs.Goals as goal

pub returns : goal.returns
returns c = rw (← c.values_at.ensures) (c.each_is_port_pair.ensures ∙ sym (list_all-viewed (is_port_pair c.args.core) view c.values_at.result.now))
