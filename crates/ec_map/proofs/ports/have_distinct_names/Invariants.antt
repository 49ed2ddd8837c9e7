use Rattle.std.proofs.Common.{◌≡◌, map, length}
use Rattle.toml.specs.View.{view}
use Rattle.ec_map.specs.Rules.{are_distinct, name_of}
use Rattle.ec_map.proofs.ports.have_distinct_names.Given as goal

-- the names are distinct where those that are left are
abbrev pub invariant-names : goal.invariant-names
invariant-names l = are_distinct (map name_of (map view l.values)) ≡ are_distinct (map name_of (map view l.rest))

abbrev pub decreases-names : goal.decreases-names
decreases-names l = length l.rest
