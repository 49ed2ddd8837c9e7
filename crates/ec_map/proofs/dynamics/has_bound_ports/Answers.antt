use Rattle.std.proofs.Common.{◌∙◌, sym}
use Rattle.toml.specs.View.{view}
use Rattle.ec_map.specs.Rules.{has_ports, base_in}
use Rattle.ec_map.proofs.Arrays.{list_all-viewed}
use Rattle.ec_map.proofs.dynamics.has_bound_ports.Goals as goal

pub returns : goal.returns
returns c =
    rw (← c.choices_for.ensures) (
    c.has_ports_from.ensures
    ∙ sym (list_all-viewed (λ choice. has_ports c.args.core (base_in choice) (view c.args.port.now)) view c.choices_for.result.now)
    )
