use Rattle.std.proofs.Common.{◌∙◌, sym, map}
use Rattle.toml.specs.View.{view}
use Rattle.ec_map.specs.Rules.{has_group}
use Rattle.ec_map.proofs.Arrays.{list_all-viewed}
use Rattle.ec_map.proofs.rules.rule_16.Goals as goal

pub returns : goal.returns
returns c =
    let groups = map view c.groups_of.result.now in
    let dynamics = map view c.dynamics_of.result.now in
    rw (← c.groups_of.ensures, ← c.dynamics_of.ensures, ← c.ports_of.ensures)
    (c.each_has_group.ensures ∙ sym (list_all-viewed (has_group groups dynamics) view c.ports_of.result.now))
