-- What a map is: the twenty-two rules that the table of a document keeps, each a test of the table. A rule looks at the
-- table alone, and counts for something where all rules before it are kept.
use Rattle.std.specs.Prelude.{ℕ, ◌+◌, ◌*◌, ◌==◌, nat_le, Bool, true, false, not, ◌&&◌, ◌||◌, List, [], ◌∷◌, ◌++◌}
use Rattle.std.specs.Prelude.{length, map, codes}
use Rattle.std.specs.Prelude.{Option, Some, option_and_then, unwrap_or, is_some, position, slice_get}
use Rattle.std.specs.Option.{option_map_or}
use Rattle.std.specs.List.{list_all, list_any, range_with_len}
use Rattle.std.specs.Str.{bytes_eq}
use Rattle.toml.specs.Data.{Data, Items, no_items, item, get, at, as_str, as_integer, as_array, as_table}
use Rattle.ec_space.specs.declared.Core.{Core}
use Rattle.ec_space.specs.declared.Core.TheVariants.{Small, Large}
use Rattle.ec_avr.specs.State.{is_port}
use Rattle.ec_iohw.specs.Names.{is_identifier}
use Rattle.ec_map.specs.Judging.{first_broken}
use Rattle.ec_map.specs.Values.{array_of, array_at, values_at, keys, entries_at, text_at, number_of, number_at, byte_in}
use Rattle.ec_map.specs.Cores.{core_at, core_of, last_place}
use Rattle.ec_map.specs.Regions.{regions_of, are_in_banks, is_code, are_apart}
use Rattle.ec_map.specs.declared.keys.Kind.{Kind}
use Rattle.ec_map.specs.declared.keys.Kind.TheVariants.{WholeMap, RegionTable, FarRegionTable, PortTable, GroupTable}
use Rattle.ec_map.specs.declared.keys.Kind.TheVariants.{DynamicTable}

-- ---- keys

-- the keys that a table of a kind has, and those that it may have besides
abbrev pub needed : Kind → List (List ℕ)
needed WholeMap = codes "core" ∷ codes "region" ∷ []
needed RegionTable = codes "code" ∷ codes "tables" ∷ codes "data" ∷ codes "stack" ∷ []
needed FarRegionTable = codes "code" ∷ codes "tables" ∷ codes "data" ∷ codes "stack" ∷ []
needed PortTable = codes "name" ∷ codes "address" ∷ codes "width" ∷ []
needed GroupTable = codes "name" ∷ codes "acquire" ∷ codes "release" ∷ []
needed DynamicTable = codes "name" ∷ codes "choices" ∷ []

abbrev pub optional : Kind → List (List ℕ)
optional WholeMap = codes "port" ∷ codes "group" ∷ codes "place" ∷ codes "dynamic" ∷ []
optional RegionTable = []
optional FarRegionTable = codes "far" ∷ []
optional PortTable = codes "count" ∷ codes "group" ∷ []
optional GroupTable = []
optional DynamicTable = []

abbrev pub is_key : Kind → List ℕ → Bool
is_key kind key = list_any (bytes_eq key) (needed kind ++ optional kind)

abbrev pub has_needed : Kind → Data → Bool
has_needed kind d = list_all (λ key. is_some (get key d)) (needed kind)

-- a table with the keys of its kind
abbrev pub is_table_of : Kind → Data → Bool
is_table_of kind d = has_needed kind d && list_all (is_key kind) (keys d)

-- an array of at most so many tables of a kind
abbrev pub are_tables_of : Kind → (most : ℕ) → List Data → Bool
are_tables_of kind most ds = nat_le (length ds) most && list_all (is_table_of kind) ds

abbrev pub is_array_of : Kind → (most : ℕ) → Data → Bool
is_array_of kind most d = option_map_or (are_tables_of kind most) (array_of d) false

-- ---- names

-- no two of the names are the same
abbrev pub are_distinct : List (List ℕ) → Bool
are_distinct [] = true
are_distinct (name ∷ names) = not (list_any (bytes_eq name) names) && are_distinct names

-- the name of a port, a group or a dynamic group, where it has one
abbrev pub name_of : Data → List ℕ
name_of d = unwrap_or (text_at (codes "name") d) []

abbrev pub has_name : Data → Bool
has_name d = is_identifier (name_of d)

abbrev pub are_named : List Data → Bool
are_named ds = list_all has_name ds && are_distinct (map name_of ds)

-- ---- ports

abbrev pub ports_of : Data → List Data
ports_of d = values_at (codes "port") d

abbrev pub groups_of : Data → List Data
groups_of d = values_at (codes "group") d

abbrev pub dynamics_of : Data → List Data
dynamics_of d = values_at (codes "dynamic") d

-- a number of one byte at a key, where there is one
abbrev pub byte_at : List ℕ → Data → Option ℕ
byte_at key d = number_at 255 key d

abbrev pub width_of : Data → ℕ
width_of d = unwrap_or (byte_at (codes "width") d) 0

-- how many ports follow one another: 1 where nothing is said
abbrev pub count_of : Data → ℕ
count_of d = option_map_or (λ v. unwrap_or (number_of 255 v) 0) (get (codes "count") d) 1

abbrev pub address_of : Data → ℕ
address_of d = unwrap_or (byte_at (codes "address") d) 0

abbrev pub has_size : Data → Bool
has_size d =
    ((width_of d == 1) || ((width_of d == 2) || (width_of d == 4)))
    && (nat_le 1 (count_of d) && nat_le (count_of d) 220)

abbrev pub are_ports : Core → (first many : ℕ) → Bool
are_ports core first many = list_all (is_port core) (range_with_len first many)

-- all bytes of a port, whose address counts from a base
abbrev pub has_ports : Core → (base : ℕ) → Data → Bool
has_ports core base d = are_ports core (base + address_of d) (width_of d * count_of d)

-- a table with a name, which is this one
abbrev pub is_called : List ℕ → Data → Bool
is_called name d = option_map_or (λ text. bytes_eq text name) (text_at (codes "name") d) false

abbrev pub dynamic_named : List Data → List ℕ → Option ℕ
dynamic_named dynamics name = position (is_called name) dynamics

-- the place of the first dynamic group whose name is the string that a port has as its `group`
abbrev pub dynamic_of : List Data → Data → Option ℕ
dynamic_of dynamics d = option_and_then (dynamic_named dynamics) (text_at (codes "group") d)

-- a port is dynamic where there is one
abbrev pub is_dynamic : List Data → Data → Bool
is_dynamic dynamics d = is_some (dynamic_of dynamics d)

-- its address is a number of one byte, and a port that is not dynamic has its bytes there
abbrev pub has_address : Core → List Data → Data → Bool
has_address core dynamics d =
    is_some (byte_at (codes "address") d) && (is_dynamic dynamics d || has_ports core 0 d)

-- the place of the group that a port names, among the groups
abbrev pub group_named : List Data → List ℕ → Option ℕ
group_named groups name = position (λ g. bytes_eq (name_of g) name) groups

abbrev pub group_of : List Data → Data → Option ℕ
group_of groups d = option_and_then (group_named groups) (text_at (codes "group") d)

abbrev pub has_group : (groups dynamics : List Data) → Data → Bool
has_group groups dynamics d =
    option_map_or (λ _. is_some (group_of groups d) || is_dynamic dynamics d) (get (codes "group") d) true

-- ---- groups

abbrev pub are_two_integers : Items → Bool
are_two_integers (item a (item b no_items)) = is_some (as_integer a) && is_some (as_integer b)
are_two_integers _ = false

abbrev pub is_pair : Data → Bool
is_pair d = option_map_or are_two_integers (as_array d) false

abbrev pub are_pairs : List Data → Bool
are_pairs ds = nat_le (length ds) 32 && list_all is_pair ds

abbrev pub has_pairs : List ℕ → Data → Bool
has_pairs key d = option_map_or are_pairs (array_at key d) false

abbrev pub has_lists : Data → Bool
has_lists d = has_pairs (codes "acquire") d && has_pairs (codes "release") d

-- a port address and a byte
abbrev pub is_write : Core → Option ℕ → Option ℕ → Bool
is_write core (Some port) (Some byte) = is_port core port
is_write core _ _ = false

abbrev pub is_write_in : Core → Items → Bool
is_write_in core (item a (item b no_items)) = is_write core (number_of 255 a) (number_of 255 b)
is_write_in core _ = false

abbrev pub is_port_pair : Core → Data → Bool
is_port_pair core d = option_map_or (is_write_in core) (as_array d) false

abbrev pub has_writes : Core → Data → Bool
has_writes core d =
    list_all (is_port_pair core) (values_at (codes "acquire") d)
    && list_all (is_port_pair core) (values_at (codes "release") d)

-- ---- dynamic groups

-- the place of the group that a value names, where it is a string that names one
abbrev pub group_by : List Data → Data → Option ℕ
group_by groups d = option_and_then (group_named groups) (as_str d)

-- a string that names a group, and a number of one byte
abbrev pub is_choice_in : List Data → Items → Bool
is_choice_in groups (item g (item b no_items)) = is_some (group_by groups g) && is_some (number_of 255 b)
is_choice_in groups _ = false

abbrev pub is_choice : List Data → Data → Bool
is_choice groups d = option_map_or (is_choice_in groups) (as_array d) false

-- the group and the base of a choice
abbrev pub group_in : List Data → Data → ℕ
group_in groups d = unwrap_or (option_and_then (group_by groups) (at 0 d)) 0

abbrev pub base_in : Data → ℕ
base_in d = byte_in 1 d

-- two choices have the same group or the same base
abbrev pub meet : List Data → Data → Data → Bool
meet groups c d = (group_in groups c == group_in groups d) || (base_in c == base_in d)

-- no group and no base stands twice
abbrev pub stand_once : List Data → List Data → Bool
stand_once groups [] = true
stand_once groups (d ∷ ds) = not (list_any (meet groups d) ds) && stand_once groups ds

abbrev pub are_choices : List Data → List Data → Bool
are_choices groups ds = list_all (is_choice groups) ds && stand_once groups ds

-- from 1 to 8
abbrev pub are_few : List Data → Bool
are_few ds = nat_le 1 (length ds) && nat_le (length ds) 8

abbrev pub choices_of : Data → List Data
choices_of d = values_at (codes "choices") d

abbrev pub has_choices : List Data → Data → Bool
has_choices groups d = are_few (choices_of d) && are_choices groups (choices_of d)

-- the choices of the dynamic group that a port names, and none where it is not dynamic
abbrev pub choices_for : List Data → Data → List Data
choices_for dynamics d = option_map_or choices_of (option_and_then (slice_get dynamics) (dynamic_of dynamics d)) []

-- a port whose address counts from the base of each of these choices
abbrev pub has_ports_from : Core → List Data → Data → Bool
has_ports_from core choices d = list_all (λ choice. has_ports core (base_in choice) d) choices

-- ---- the rules

-- 1. the keys are among `core`, `region`, `port`, `group`, `place` and `dynamic`, and `core` and `region` are there
abbrev pub rule_1 : Data → Bool
rule_1 d = is_table_of WholeMap d

-- 2. `core` is the string `small` or `large`
abbrev pub rule_2 : Data → Bool
rule_2 d = is_some (core_at d)

-- 3. `region` is a table with the keys `code`, `tables`, `data`, `stack`, and no other but, where `core` is `large`, `far`
abbrev pub region_table : Core → Kind
region_table Small = RegionTable
region_table Large = FarRegionTable

abbrev pub rule_3 : Data → Bool
rule_3 d = option_map_or (is_table_of (region_table (core_of d))) (get (codes "region") d) false

-- 4. each region is an array of two integers, the first address from 0 and the size from 1, both at most 131,072
abbrev pub rule_4 : Data → Bool
rule_4 d = is_some (regions_of (core_of d) d)

-- 5. on `small`, `code` and `tables` end by 32,768, and `data` and `stack` begin at 256 or later and end by 2,304; on
-- `large`, `code` ends by 131,072, `far` by 131,071 and `tables` by 65,535, and `data` and `stack` begin at 256 or later
-- and end by 16,640
abbrev pub rule_5 : Data → Bool
rule_5 d = option_map_or (are_in_banks (core_of d)) (regions_of (core_of d) d) false

-- 6. `code` begins at 0 and its size is even
abbrev pub rule_6 : Data → Bool
rule_6 d = option_map_or is_code (regions_of (core_of d) d) false

-- 7. no two of `code`, `tables` and `far` share a byte, nor do `data` and `stack`
abbrev pub rule_7 : Data → Bool
rule_7 d = option_map_or are_apart (regions_of (core_of d) d) false

-- 8. `port`, where present, is an array of at most 64 tables, each with `name`, `address`, `width` and no other key but
-- `count` and `group`
abbrev pub rule_8 : Data → Bool
rule_8 d = option_map_or (is_array_of PortTable 64) (get (codes "port") d) true

-- 9. each port's name is an identifier, and no two ports have the same
abbrev pub rule_9 : Data → Bool
rule_9 d = are_named (ports_of d)

-- 10. each width is 1, 2 or 4; each count, 1 where absent, is from 1 to 220
abbrev pub rule_10 : Data → Bool
rule_10 d = list_all has_size (ports_of d)

-- 11. each address is an integer from 0 to 255, and for a port that is not dynamic all width * count bytes from it are
-- ports of the core
abbrev pub rule_11 : Data → Bool
rule_11 d = list_all (has_address (core_of d) (dynamics_of d)) (ports_of d)

-- 12. `group`, where present, is an array of at most 16 tables with exactly `name`, `acquire` and `release`
abbrev pub rule_12 : Data → Bool
rule_12 d = option_map_or (is_array_of GroupTable 16) (get (codes "group") d) true

-- 13. each group's name is an identifier, and no two groups have the same
abbrev pub rule_13 : Data → Bool
rule_13 d = are_named (groups_of d)

-- 14. `acquire` and `release` are arrays of at most 32 arrays of two integers
abbrev pub rule_14 : Data → Bool
rule_14 d = list_all has_lists (groups_of d)

-- 15. each first integer is the address of a port of the core, each second is from 0 to 255
abbrev pub rule_15 : Data → Bool
rule_15 d = list_all (has_writes (core_of d)) (groups_of d)

-- 16. each port's `group` is a string that names a group, or the port is dynamic
abbrev pub rule_16 : Data → Bool
rule_16 d = list_all (has_group (groups_of d) (dynamics_of d)) (ports_of d)

-- 17. `place`, where present, is a table
abbrev pub rule_17 : Data → Bool
rule_17 d = option_map_or (λ v. is_some (as_table v)) (get (codes "place") d) true

-- 18. each of its values is an integer from 1 to 65,535 on `small`, and to 131,071 on `large`
abbrev pub is_place : Core → Data → Bool
is_place core d = option_map_or (nat_le 1) (number_of (last_place core) d) false

abbrev pub rule_18 : Data → Bool
rule_18 d = list_all (λ e. is_place (core_of d) e.1) (entries_at (codes "place") d)

-- 19. `dynamic`, where present, is an array of at most 8 tables with exactly `name` and `choices`
abbrev pub rule_19 : Data → Bool
rule_19 d = option_map_or (is_array_of DynamicTable 8) (get (codes "dynamic") d) true

-- 20. each of their names is an identifier, and no two names among groups and dynamic groups are the same
abbrev pub rule_20 : Data → Bool
rule_20 d =
    list_all has_name (dynamics_of d) && are_distinct (map name_of (groups_of d) ++ map name_of (dynamics_of d))

-- 21. each `choices` is an array of 1 to 8 arrays of a string, which names a group, and an integer from 0 to 255; no group
-- and no integer stands twice in one `choices`
abbrev pub rule_21 : Data → Bool
rule_21 d = list_all (has_choices (groups_of d)) (dynamics_of d)

-- 22. for each dynamic port and each choice of its dynamic group, all width * count bytes from base + address are ports of
-- the core
abbrev pub rule_22 : Data → Bool
rule_22 d =
    list_all (λ port. has_ports_from (core_of d) (choices_for (dynamics_of d) port) port) (ports_of d)

-- whether each rule is kept, in order
abbrev pub kept : Data → List Bool
kept d =
    rule_1 d ∷ rule_2 d ∷ rule_3 d ∷ rule_4 d ∷ rule_5 d ∷ rule_6 d ∷ rule_7 d ∷ rule_8 d ∷ rule_9 d ∷ rule_10 d
    ∷ rule_11 d ∷ rule_12 d ∷ rule_13 d ∷ rule_14 d ∷ rule_15 d ∷ rule_16 d ∷ rule_17 d ∷ rule_18 d ∷ rule_19 d
    ∷ rule_20 d ∷ rule_21 d ∷ rule_22 d ∷ []

-- the first rule that a table breaks, by its number from 1
abbrev pub broken : Data → Option ℕ
broken d = first_broken (kept d)
