-- What holds of the map that a table is which breaks no rule.
use Rattle.std.proofs.Common.{◌≡◌, ℕ, List, ◌++◌, length, map, get_or, codes, None, sym, ap, subst, ◌∙◌}
use Rattle.std.proofs.lemmas.Bool.{and_parts}
use Rattle.std.proofs.lemmas.List.{length-map}
use Rattle.std.specs.Prelude.{◌+◌, ◌*◌, ◌<◌, IsTrue}
use Rattle.std.specs.List.{All, list_all}
use Rattle.toml.specs.Data.{Data}
use Rattle.ec_iohw.specs.Valid.{IsPort, IsDynamic, ValidIo}
use Rattle.ec_iohw.specs.declared.table.Dynamic.{Dynamic}
use Rattle.ec_iohw.specs.declared.table.Port.{Port}
use Rattle.ec_avr.specs.State.{is_port as is_port_at}
use Rattle.ec_space.specs.declared.Core.{Core}
use Rattle.ec_map.specs.declared.map.Map.{Map}
use Rattle.ec_map.specs.Cores.{core_of}
use Rattle.ec_map.specs.Regions.{ValidRegions}
use Rattle.ec_map.specs.Values.{entries_at}
use Rattle.ec_map.specs.Rules.{kept, broken, ports_of, groups_of, dynamics_of, name_of, has_name, are_distinct}
use Rattle.ec_map.specs.Maps.{IsMapOf, ValidMap, AreAscending, names_of, regions, port_of, port_view, port_group_of, group_view, place_of}
use Rattle.ec_map.specs.Maps.{dynamic_view, dynamic_group_of, place_view, HasPorts, HasWrites, IsPlaced}
use Rattle.ec_map.proofs.Kept.{rules_kept, kept_at}
use Rattle.ec_map.proofs.Counts.{few_ports, few_groups, few_dynamics}
use Rattle.ec_map.proofs.Made.{map_map, all_made, length_made}
use Rattle.ec_map.proofs.Sound.{regions_valid}
use Rattle.ec_map.proofs.GoodPorts.{distinct, GoodPort, GoodGroup, GoodDynamic, GoodPlace, bases_viewed, good_ports, good_groups, good_dynamics}
use Rattle.ec_map.proofs.GoodPorts.{bases_in, good_places}

is_port : (core : Core) (n m : ℕ) (ds : List Dynamic) (p : Port) → n ≡ m → GoodPort core n (map dynamic_view ds) (port_view p)
    → IsPort m ds p
is_port core n m ds p same g =
    record {
      width = g.width;
      some = g.some;
      most = g.most;
      last = rw (bases_viewed ds p.dynamic) g.last;
      group = rw (← same) g.group;
      dynamic = rw (← length-map ds dynamic_view) g.dynamic;
    }

is_dynamic : (n m : ℕ) (d : Dynamic) → n ≡ m → GoodDynamic n (dynamic_view d) → IsDynamic m d
is_dynamic n m d same g =
    rw (← same) (record { named = g.named; some = g.some; most = g.most; within = g.within; apart = g.apart })

-- the ports of the map
ports_good : (d : Data) (m : Map) → broken d ≡ None → IsMapOf d m
    → All (λ p. GoodPort (core_of d) (length (groups_of d)) (map dynamic_view m.io.dynamics.items) (port_view p)) m.io.ports.items
ports_good d m h told =
    let all = rules_kept d h in
    let core = core_of d in
    let gs = groups_of d in
    let ds = dynamics_of d in
    let good = all_made (GoodPort core (length gs) (map (dynamic_group_of gs) ds)) port_view (port_of gs ds) m.io.ports.items (ports_of d)
    told.ports_told (good_ports core gs ds (ports_of d) (kept_at (kept d) 9 all) (kept_at (kept d) 10 all) (kept_at (kept d) 21 all)) in
    rw told.dynamics_told good

io_valid : (d : Data) (m : Map) → broken d ≡ None → IsMapOf d m → ValidIo m.io
io_valid d m h told =
    let all = rules_kept d h in
    let ports = m.io.ports.items in
    let groups = m.io.groups.items in
    let few_p = few_ports d h in
    let few_g = few_groups d h in
    let dynamics = m.io.dynamics.items in
    let few_d = few_dynamics d h in
    let n = length_made port_view (port_of (groups_of d) (dynamics_of d)) ports (ports_of d) told.ports_told in
    let k = length_made group_view port_group_of groups (groups_of d) told.groups_told in
    let l = length_made dynamic_view (dynamic_group_of (groups_of d)) dynamics (dynamics_of d) told.dynamics_told in
    let named_p = distinct (map name_of (ports_of d))
    (and_parts (list_all has_name (ports_of d)) (are_distinct (map name_of (ports_of d))) (kept_at (kept d) 8 all)).1 in
    let both_names = map name_of (groups_of d) ++ map name_of (dynamics_of d) in
    let (named, apart) = and_parts (list_all has_name (dynamics_of d)) (are_distinct both_names) (kept_at (kept d) 19 all) in
    let names_p : map (λ p. p.name.items) ports ≡ map name_of (ports_of d) =
    sym (map_map (λ q. q.name) port_view ports) ∙ ap (map (λ q. q.name)) told.ports_told
    ∙ map_map (λ q. q.name) (port_of (groups_of d) (dynamics_of d)) (ports_of d) in
    let names_g : map (λ g. g.name.items) groups ≡ map name_of (groups_of d) =
    sym (map_map (λ q. q.name) group_view groups) ∙ ap (map (λ q. q.name)) told.groups_told
    ∙ map_map (λ q. q.name) port_group_of (groups_of d) in
    let names_d : map (λ x. x.name.items) dynamics ≡ map name_of (dynamics_of d) =
    sym (map_map (λ q. q.name) dynamic_view dynamics) ∙ ap (map (λ q. q.name)) told.dynamics_told
    ∙ map_map (λ q. q.name) (dynamic_group_of (groups_of d)) (dynamics_of d) in
    let good = ports_good d m h told in
    let good_d = all_made (GoodDynamic (length (groups_of d))) dynamic_view (dynamic_group_of (groups_of d)) dynamics (dynamics_of d)
    told.dynamics_told (good_dynamics (groups_of d) (dynamics_of d) named (kept_at (kept d) 20 all)) in
    record {
      ports = rw n few_p;
      groups = rw k few_g;
      dynamics = rw l few_d;
      port_names = rw names_p named_p;
      group_names = rw (names_g, names_d) (distinct both_names apart);
      each = λ i p l. is_port (core_of d) _ _ dynamics _ (sym k) (good i p l);
      each_dynamic = λ i x l. is_dynamic _ _ _ (sym k) (good_d i x l);
    }

has_ports : (core : Core) (ds : List Dynamic) (p : Port)
    → All (λ base. (k : ℕ) → k < p.width * p.count → IsTrue (is_port_at core (base + p.address + k)))
    (bases_in (map dynamic_view ds) p.dynamic) → HasPorts core ds p
has_ports core ds p h = rw (bases_viewed ds p.dynamic) h

pub map_valid : (d : Data) (m : Map) → broken d ≡ None → IsMapOf d m → AreAscending (names_of m.places.items) → ValidMap m
map_valid d m h told ascending =
    let all = rules_kept d h in
    let core = core_of d in
    let same : core ≡ m.core = sym told.core_told in
    let ports = m.io.ports.items in
    let groups = m.io.groups.items in
    let dynamics = m.io.dynamics.items in
    let good = ports_good d m h told in
    record {
      io = io_valid d m h told;
      regions_valid = subst (λ c. ValidRegions c (regions m)) same (regions_valid d (regions m) h told.regions_told);
      ports = subst (λ c. All (HasPorts c dynamics) ports) same (λ i p l. has_ports core dynamics (get_or ports i p) (good i p l).ports);
      writes = subst (λ c. All (HasWrites c) groups) same
          (all_made (GoodGroup core) group_view port_group_of groups (groups_of d) told.groups_told
          (good_groups core (groups_of d) (kept_at (kept d) 14 all)));
      places = subst (λ c. All (IsPlaced c) m.places.items) same
          (all_made (GoodPlace core) place_view (place_of core) m.places.items (entries_at (codes "place") d) told.places_told
          (good_places core (entries_at (codes "place") d) (kept_at (kept d) 17 all)));
      ascending = ascending;
    }
