use Rattle.std.proofs.Common.{◌∙◌, sym}
use Rattle.toml.specs.View.{view}
use Rattle.ec_map.specs.Rules.{has_lists}
use Rattle.ec_map.proofs.Arrays.{list_all-viewed}
use Rattle.ec_map.proofs.rules.rule_14.Goals as goal

pub returns : goal.returns
returns c = rw (← c.groups_of.ensures) (c.each_has_lists.ensures ∙ sym (list_all-viewed has_lists view c.groups_of.result.now))
