use Rattle.std.proofs.Common.{◌∙◌, sym, map}
use Rattle.toml.specs.View.{view}
use Rattle.ec_map.specs.Rules.{has_address}
use Rattle.ec_map.proofs.Arrays.{list_all-viewed}
use Rattle.ec_map.proofs.rules.rule_11.Goals as goal

pub returns : goal.returns
returns c =
    rw (← c.core_of.ensures, ← c.dynamics_of.ensures, ← c.ports_of.ensures) (
    c.each_has_address.ensures
    ∙ sym (list_all-viewed (has_address c.core_of.result (map view c.dynamics_of.result.now)) view c.ports_of.result.now)
    )
