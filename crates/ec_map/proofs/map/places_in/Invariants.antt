use Rattle.std.proofs.Common.{◌≡◌, ◌++◌, List, map}
use Rattle.toml.specs.View.{members_view}
use Rattle.ec_map.specs.Values.{entries_of}
use Rattle.ec_map.specs.Maps.{place_view, place_of}
use Rattle.ec_map.proofs.Made.{Entry}
use Rattle.ec_map.proofs.map.places_in.Given as goal

-- places are made of the entries before those that are left
abbrev pub invariant-places : goal.invariant-places
invariant-places l =
    (done : List Entry) × (l.table.entries ≡ done ++ l.name-iterator)
    × (map place_view l.made.items ≡ map (place_of l.core) (entries_of (members_view done)))
