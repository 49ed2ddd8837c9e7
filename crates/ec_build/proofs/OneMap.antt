-- The maps of one text differ in the room of their lists alone.
use Rattle.std.proofs.Common.{◌≡◌, ℕ, List, Option, Some, None, sym, ap, ◌∙◌, map}
use Rattle.std.specs.Prelude.{IsSomeAnd}
use Rattle.toml.specs.Data.{Data}
use Rattle.ec_core.specs.PortTable.{PlainPort, PlainGroup, PlainDynamic, plain_port, plain_group, plain_dynamic, plain_table}
use Rattle.ec_check_ports.specs.Ports.{SeenPort, SeenDynamic, LookAlike}
use Rattle.ec_map.specs.Maps.{PortView, GroupView, DynamicView, port_view, group_view, dynamic_view, place_view, regions, IsMap}
use Rattle.ec_map.specs.Values.{document}
use Rattle.ec_map.specs.declared.map.Map.{Map}
use Rattle.ec_map.specs.declared.region.Regions.{Regions}
use Rattle.ec_build.specs.MapTexts.{IsMapText}
use Rattle.ec_build.proofs.Viewed.{by_view}

pub record SameMaps (m n : Map) : Type 0 where
  pub core_same : m.core ≡ n.core
  pub regions_same : regions m ≡ regions n
  pub ports : map port_view m.io.ports.items ≡ map port_view n.io.ports.items
  pub groups : map group_view m.io.groups.items ≡ map group_view n.io.groups.items
  pub dynamics : map dynamic_view m.io.dynamics.items ≡ map dynamic_view n.io.dynamics.items
  pub places : map place_view m.places.items ≡ map place_view n.places.items

region_in : Regions → Option Regions → Regions
region_in r None = r
region_in r (Some s) = s

same_at : (m n : Map) (o : Option Data) → IsSomeAnd o (IsMap m) → IsSomeAnd o (IsMap n) → SameMaps m n
unfolding region_in
same_at m n None h k = absurd h
same_at m n (Some d) h k =
    let a = h.told in
    let b = k.told in
    record {
      core_same = a.core_told ∙ sym b.core_told;
      regions_same = ap (region_in (regions m)) (sym a.regions_told ∙ b.regions_told);
      ports = a.ports_told ∙ sym b.ports_told;
      groups = a.groups_told ∙ sym b.groups_told;
      dynamics = a.dynamics_told ∙ sym b.dynamics_told;
      places = a.places_told ∙ sym b.places_told;
    }

pub maps_same : (text : List ℕ) (m n : Map) → IsMapText text m → IsMapText text n → SameMaps m n
maps_same text m n a b = same_at m n (document text) a.map b.map

-- ---- tables of ports

seen_of : PortView → SeenPort
seen_of v = record { name = v.name; width = v.width }

name_of : GroupView → List ℕ
name_of v = v.name

seen_dynamic_of : DynamicView → SeenDynamic
seen_dynamic_of v = record { name = v.name; choices = map (λ c. c.group) v.choices }

pub look_alike : (m n : Map) → SameMaps m n → LookAlike m.io n.io
unfolding seen_of name_of seen_dynamic_of
look_alike m n s =
    record {
      ports = by_view port_view seen_of m.io.ports.items n.io.ports.items s.ports;
      groups = by_view group_view name_of m.io.groups.items n.io.groups.items s.groups;
      dynamics = by_view dynamic_view seen_dynamic_of m.io.dynamics.items n.io.dynamics.items s.dynamics;
    }

plain_of : PortView → PlainPort
plain_of v = record { address = v.address; width = v.width; count = v.count; group = v.group; dynamic = v.dynamic }

lists_of : GroupView → PlainGroup
lists_of v = record { acquire = v.acquire; release = v.release }

choices_in : DynamicView → PlainDynamic
choices_in v = record { choices = v.choices }

pub tables_same : (m n : Map) → SameMaps m n → plain_table m.io ≡ plain_table n.io
unfolding plain_of lists_of choices_in
tables_same m n s =
    let ports : map plain_port m.io.ports.items ≡ map plain_port n.io.ports.items =
    by_view port_view plain_of m.io.ports.items n.io.ports.items s.ports in
    let groups : map plain_group m.io.groups.items ≡ map plain_group n.io.groups.items =
    by_view group_view lists_of m.io.groups.items n.io.groups.items s.groups in
    let dynamics : map plain_dynamic m.io.dynamics.items ≡ map plain_dynamic n.io.dynamics.items =
    by_view dynamic_view choices_in m.io.dynamics.items n.io.dynamics.items s.dynamics in
    λ j. record { ports = ports j; groups = groups j; dynamics = dynamics j }
