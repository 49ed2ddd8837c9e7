-- The map that a table is, and what holds of every map that is read.
use Rattle.std.specs.Prelude.{ℕ, ◌≡◌, ◌+◌, ◌*◌, ◌<◌, ◌≤◌, IsTrue, All, List, map, codes}
use Rattle.std.specs.Prelude.{Option, Some, None, unwrap_or}
use Rattle.std.specs.Ordering.{nat_cmp}
use Rattle.std.specs.Cmp.Lexicographic.{slice_cmp}
use Rattle.std.specs.List.Sorted.{IsStrictlySortedBy}
use Rattle.toml.specs.Data.{Data}
use Rattle.ec_space.specs.declared.Core.{Core}
use Rattle.ec_avr.specs.State.{is_port}
use Rattle.ec_iohw.specs.Valid.{ValidIo, bases_of}
use Rattle.ec_iohw.specs.declared.table.Choice.{Choice}
use Rattle.ec_iohw.specs.declared.table.Dynamic.{Dynamic}
use Rattle.ec_iohw.specs.declared.table.Pair.{Pair}
use Rattle.ec_iohw.specs.declared.table.Port.{Port}
use Rattle.ec_iohw.specs.declared.table.PortGroup.{PortGroup}
use Rattle.ec_map.specs.Values.{entries_at, values_at, number_of, byte_in}
use Rattle.ec_map.specs.Cores.{core_of, last_place}
use Rattle.ec_map.specs.Regions.{regions_of, ValidRegions}
use Rattle.ec_map.specs.Rules.{ports_of, groups_of, dynamics_of, name_of, address_of, width_of, count_of, group_of}
use Rattle.ec_map.specs.Rules.{dynamic_of, group_in, base_in, choices_of, broken}
use Rattle.ec_map.specs.declared.region.Regions.{Regions}
use Rattle.ec_map.specs.declared.map.Fixed1.{Fixed1}
use Rattle.ec_map.specs.declared.map.Map.{Map}

-- ---- what a table says. A table that keeps the rules has each number that is looked for; else 0 stands for it

pub record PortView : Type 0 where
  pub name : List ℕ
  pub address : ℕ
  pub width : ℕ
  pub count : ℕ
  pub group : Option ℕ
  pub dynamic : Option ℕ

abbrev pub port_of : (groups dynamics : List Data) → Data → PortView
port_of groups dynamics d = record {
  name = name_of d;
  address = address_of d;
  width = width_of d;
  count = count_of d;
  group = group_of groups d;
  dynamic = dynamic_of dynamics d;
}

abbrev pub pair_of : Data → Pair
pair_of d = record { port = byte_in 0 d; byte = byte_in 1 d }

pub record GroupView : Type 0 where
  pub name : List ℕ
  pub acquire : List Pair
  pub release : List Pair

abbrev pub port_group_of : Data → GroupView
port_group_of d = record {
  name = name_of d;
  acquire = map pair_of (values_at (codes "acquire") d);
  release = map pair_of (values_at (codes "release") d);
}

abbrev pub choice_of : (groups : List Data) → Data → Choice
choice_of groups d = record { group = group_in groups d; base = base_in d }

pub record DynamicView : Type 0 where
  pub name : List ℕ
  pub choices : List Choice

abbrev pub dynamic_group_of : (groups : List Data) → Data → DynamicView
dynamic_group_of groups d = record { name = name_of d; choices = map (choice_of groups) (choices_of d) }

pub record PlaceView : Type 0 where
  pub name : List ℕ
  pub at : ℕ

abbrev pub place_of : Core → List ℕ × Data → PlaceView
place_of core e = record { name = e.0; at = unwrap_or (number_of (last_place core) e.1) 0 }

-- ---- maps without the room of their lists

abbrev pub port_view : Port → PortView
port_view p = record {
  name = p.name.items;
  address = p.address;
  width = p.width;
  count = p.count;
  group = p.group;
  dynamic = p.dynamic;
}

abbrev pub group_view : PortGroup → GroupView
group_view g = record { name = g.name.items; acquire = g.acquire.items; release = g.release.items }

abbrev pub dynamic_view : Dynamic → DynamicView
dynamic_view d = record { name = d.name.items; choices = d.choices.items }

abbrev pub place_view : Fixed1 → PlaceView
place_view p = record { name = p.name.items; at = p.at }

abbrev pub regions : Map → Regions
regions m = record { code = m.code; tables = m.tables; far = m.far; vars = m.vars; stack = m.stack }

-- the map that a table is
pub record IsMapOf (d : Data) (m : Map) : Type 0 where
  pub core_told : m.core ≡ core_of d
  pub regions_told : regions_of (core_of d) d ≡ Some (regions m)
  pub ports_told : map port_view m.io.ports.items ≡ map (port_of (groups_of d) (dynamics_of d)) (ports_of d)
  pub groups_told : map group_view m.io.groups.items ≡ map port_group_of (groups_of d)
  pub dynamics_told : map dynamic_view m.io.dynamics.items ≡ map (dynamic_group_of (groups_of d)) (dynamics_of d)
  pub places_told : map place_view m.places.items ≡ map (place_of (core_of d)) (entries_at (codes "place") d)

-- a map and the table that it is, which keeps all rules
pub record IsMap (m : Map) (d : Data) : Type 0 where
  pub kept : broken d ≡ None
  pub told : IsMapOf d m

-- ---- what holds of every map that is read

-- all bytes of a port, or of those that follow one another, are ports of the core, from each base on that its address
-- counts from
abbrev pub HasPorts : Core → List Dynamic → Port → Type 0
HasPorts core dynamics p =
    All (λ base. (k : ℕ) → k < p.width * p.count → IsTrue (is_port core (base + p.address + k)))
    (bases_of dynamics p.dynamic)

abbrev pub WritesPorts : Core → List Pair → Type 0
WritesPorts core pairs = All (λ pair. IsTrue (is_port core pair.port)) pairs

-- what is written to acquire and to release a group is written to ports of the core
abbrev pub HasWrites : Core → PortGroup → Type 0
HasWrites core g = WritesPorts core g.acquire.items × WritesPorts core g.release.items

abbrev pub IsPlaced : Core → Fixed1 → Type 0
IsPlaced core p = (1 ≤ p.at) × (p.at ≤ last_place core)

-- the names of places stand by rising bytes, so no two are the same
abbrev pub names_of : List Fixed1 → List (List ℕ)
names_of places = map (λ p. p.name.items) places

abbrev pub AreAscending : List (List ℕ) → Type 0
AreAscending names = IsStrictlySortedBy (slice_cmp nat_cmp) names

pub record ValidMap (m : Map) : Type 0 where
  pub io : ValidIo m.io
  pub regions_valid : ValidRegions m.core (regions m)
  pub ports : All (HasPorts m.core m.io.dynamics.items) m.io.ports.items
  pub writes : All (HasWrites m.core) m.io.groups.items
  pub places : All (IsPlaced m.core) m.places.items
  pub ascending : AreAscending (names_of m.places.items)
