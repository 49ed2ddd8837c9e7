use Rattle.std.proofs.Common.{◌∙◌, sym}
use Rattle.toml.specs.View.{view}
use Rattle.ec_map.specs.Rules.{has_writes}
use Rattle.ec_map.proofs.Arrays.{list_all-viewed}
use Rattle.ec_map.proofs.rules.rule_15.Goals as goal

pub returns : goal.returns
returns c = rw (← c.core_of.ensures, ← c.groups_of.ensures) (c.each_has_writes.ensures ∙ sym (list_all-viewed (has_writes c.core_of.result) view c.groups_of.result.now))
