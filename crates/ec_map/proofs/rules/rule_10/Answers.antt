use Rattle.std.proofs.Common.{◌∙◌, sym}
use Rattle.toml.specs.View.{view}
use Rattle.ec_map.specs.Rules.{has_size}
use Rattle.ec_map.proofs.Arrays.{list_all-viewed}
use Rattle.ec_map.proofs.rules.rule_10.Goals as goal

pub returns : goal.returns
returns c = rw (← c.ports_of.ensures) (c.each_has_size.ensures ∙ sym (list_all-viewed has_size view c.ports_of.result.now))
