use Rattle.std.proofs.Common.{◌∙◌, sym, map}
use Rattle.toml.specs.View.{view}
use Rattle.ec_map.specs.Rules.{has_ports_from, choices_for}
use Rattle.ec_map.proofs.Arrays.{list_all-viewed}
use Rattle.ec_map.proofs.rules.rule_22.Goals as goal

pub returns : goal.returns
returns c =
    let core = c.core_of.result in
    let dynamics = map view c.dynamics_of.result.now in
    rw (← c.core_of.ensures, ← c.dynamics_of.ensures, ← c.ports_of.ensures) (
    c.each_has_bound_ports.ensures
    ∙ sym (list_all-viewed (λ port. has_ports_from core (choices_for dynamics port) port) view c.ports_of.result.now)
    )
