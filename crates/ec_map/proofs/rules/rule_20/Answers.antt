use Rattle.std.proofs.Common.{refl}
use Rattle.toml.specs.View.{view}
use Rattle.ec_map.specs.Rules.{has_name}
use Rattle.ec_map.proofs.Arrays.{list_all-viewed}
use Rattle.ec_map.proofs.rules.rule_20.Goals as goal

pub returns-then-have_identifiers : goal.returns-then-have_identifiers
returns-then-have_identifiers c =
    let dynamics = c.dynamics_of-dynamics.result.now in
    rw (
      ← c.dynamics_of-dynamics.ensures,
      ← c.groups_of.ensures,
      list_all-viewed has_name view dynamics,
      ← c.have_identifiers.ensures,
      c.if-have_identifiers.true,
    ) c.have_distinct_names_with.ensures

pub returns-else-have_identifiers : goal.returns-else-have_identifiers
returns-else-have_identifiers c =
    let dynamics = c.dynamics_of-dynamics.result.now in
    rw (← c.dynamics_of-dynamics.ensures, list_all-viewed has_name view dynamics, ← c.have_identifiers.ensures, c.if-have_identifiers.false)
    refl
