use Rattle.std.proofs.Common.{◌∙◌, sym, map}
use Rattle.toml.specs.View.{view}
use Rattle.ec_map.specs.Rules.{has_choices}
use Rattle.ec_map.proofs.Arrays.{list_all-viewed}
use Rattle.ec_map.proofs.rules.rule_21.Goals as goal

pub returns : goal.returns
returns c =
    rw (← c.groups_of.ensures, ← c.dynamics_of.ensures)
    (c.each_has_choices.ensures ∙ sym (list_all-viewed (has_choices (map view c.groups_of.result.now)) view c.dynamics_of.result.now))
