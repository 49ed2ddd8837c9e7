use Rattle.std.proofs.Common.{refl}
use Rattle.toml.specs.View.{view}
use Rattle.ec_map.specs.Rules.{has_name}
use Rattle.ec_map.proofs.Arrays.{list_all-viewed}
use Rattle.ec_map.proofs.ports.are_named.Goals as goal

pub returns-then-have_identifiers : goal.returns-then-have_identifiers
returns-then-have_identifiers c =
    rw (list_all-viewed has_name view c.args.values.now, ← c.have_identifiers.ensures, c.if-have_identifiers.true)
    c.have_distinct_names.ensures

pub returns-else-have_identifiers : goal.returns-else-have_identifiers
returns-else-have_identifiers c =
    rw (list_all-viewed has_name view c.args.values.now, ← c.have_identifiers.ensures, c.if-have_identifiers.false) refl
