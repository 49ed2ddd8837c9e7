-- What the map puts at fixed addresses: that there are such objects, and that they lie in their banks and touch neither
-- a region nor one another.
use Rattle.std.specs.Prelude.{ℕ, ◌+◌, nat_le, nat_lt, Bool, true, false, ◌&&◌, if◌then◌else◌, List, [], ◌∷◌, map}
use Rattle.std.specs.Prelude.{drop, Option, Some, None, option_map, option_and_then, unwrap_or, is_none, position}
use Rattle.std.specs.Prelude.{slice_get, codes}
use Rattle.std.specs.List.{find}
use Rattle.std.specs.Option.{option_or}
use Rattle.std.specs.Str.{bytes_eq}
use Rattle.ec_space.specs.declared.Core.{Core}
use Rattle.ec_space.specs.declared.space.Bank.{Bank}
use Rattle.ec_space.specs.declared.space.Bank.TheVariants.{Flash, Data}
use Rattle.ec_space.specs.declared.space.Home.{Home}
use Rattle.ec_space.specs.declared.space.Home.TheVariants.{Flash as FlashHome, Far as FarHome, Data as DataHome}
use Rattle.ec_space.specs.Spaces.{bank_of}
use Rattle.ec_core.specs.Plain.{PlainObject}
use Rattle.ec_map.specs.Cores.{home_end}
use Rattle.ec_map.specs.declared.map.Fixed1.{Fixed1}
use Rattle.ec_map.specs.declared.map.Map.{Map}
use Rattle.ec_map.specs.declared.region.Region.{Region}
use Rattle.ec_locate.specs.Entries.{is_static}
use Rattle.ec_locate.specs.declared.entries.Entry.{Entry}
use Rattle.ec_locate.specs.declared.fixed.Block.{Block}
use Rattle.ec_locate.specs.declared.fixed.Neighbour.{Neighbour}
use Rattle.ec_locate.specs.declared.fixed.Neighbour.TheVariants.{BankEnd, InRegion, Later}
use Rattle.ec_locate.specs.declared.stop.RegionName.{RegionName}
use Rattle.ec_locate.specs.declared.stop.RegionName.TheVariants as regions

-- ---- names

-- an external static object of a name
abbrev pub can_place : List ℕ → PlainObject → Bool
can_place name o = (o.external && is_static o.storage) && bytes_eq o.name name

abbrev pub object_named : List PlainObject → List ℕ → Option ℕ
object_named objects name = position (can_place name) objects

-- the first place whose name no such object has
abbrev pub missing : List PlainObject → List Fixed1 → Option Fixed1
missing objects places = find (λ p. is_none (object_named objects p.name.items)) places

-- ---- what stands at a place: the bytes of the object with its name

abbrev pub block_at : (at : ℕ) → Option Entry → Block
block_at at None = record { home = DataHome; at = at; size = 0 }
block_at at (Some e) = record { home = e.home; at = at; size = e.size }

abbrev pub block_of : List Entry → List PlainObject → Fixed1 → Block
block_of es objects p = block_at p.at (option_and_then (slice_get es) (object_named objects p.name.items))

abbrev pub blocks : List Entry → List PlainObject → List Fixed1 → List Block
blocks es objects places = map (block_of es objects) places

-- ---- clashes

abbrev pub shares : (at size first many : ℕ) → Bool
shares at size first many = nat_lt at (first + many) && nat_lt first (at + size)

-- a block and a region have a byte in common, so the region has one
abbrev pub meets : Block → Region → Bool
meets b r = nat_lt 0 r.size && shares b.at b.size r.first r.size

abbrev pub same_bank : Bank → Bank → Bool
same_bank Flash Flash = true
same_bank Data Data = true
same_bank _ _ = false

abbrev pub overlaps : Block → Block → Bool
overlaps a b = same_bank (bank_of a.home) (bank_of b.home) && shares a.at a.size b.at b.size

-- bytes of a home lie wholly in the flash or the SRAM of a core, and the pointer past the last of them has bytes
abbrev pub lies_in_bank : Core → Home → (first end : ℕ) → Bool
lies_in_bank core FlashHome first end = nat_le end (home_end FlashHome core)
lies_in_bank core FarHome first end = nat_le end (home_end FarHome core)
lies_in_bank core DataHome first end = nat_le 256 first && nat_le end (home_end DataHome core)

abbrev pub is_in_bank : Core → Block → Bool
is_in_bank core b = lies_in_bank core b.home b.at (b.at + b.size)

-- the name of a region that a block meets
abbrev pub name_where_met : Block → Region → RegionName → Option RegionName
name_where_met b r name = if meets b r then Some name else None

-- the first region of its bank that a block meets
abbrev pub region_of_bank : Map → Block → Bank → Option RegionName
region_of_bank m b Flash =
    option_or (name_where_met b m.code regions.Code)
    (option_or (name_where_met b m.tables regions.Tables) (name_where_met b m.far regions.Far))
region_of_bank m b Data =
    option_or (name_where_met b m.vars regions.Data) (name_where_met b m.stack regions.Stack)

abbrev pub region_met : Map → Block → Option RegionName
region_met m b = region_of_bank m b (bank_of b.home)

abbrev pub region_or_later : Option RegionName → Option ℕ → Option Neighbour
region_or_later (Some name) later = Some (InRegion name)
region_or_later None later = option_map Later later

-- what a block clashes with, where these are the blocks of later names
abbrev pub clash_of : Map → Block → List Block → Option Neighbour
clash_of m b bs =
    if is_in_bank m.core b then region_or_later (region_met m b) (position (overlaps b) bs) else Some BankEnd

-- the first block that clashes, by its place from i on
abbrev pub or_next : ℕ → Option Neighbour → Option (ℕ × Neighbour) → Option (ℕ × Neighbour)
or_next i (Some neighbour) next = Some (i, neighbour)
or_next i None next = next

abbrev pub first_clash : Map → ℕ → List Block → Option (ℕ × Neighbour)
first_clash m i [] = None
first_clash m i (b ∷ bs) = or_next i (clash_of m b bs) (first_clash m (i + 1) bs)

abbrev pub region_text : RegionName → List ℕ
region_text regions.Code = codes "code"
region_text regions.Tables = codes "tables"
region_text regions.Far = codes "far"
region_text regions.Data = codes "data"
region_text regions.Stack = codes "stack"

abbrev pub place_name : List Fixed1 → ℕ → List ℕ
place_name places i = unwrap_or (option_map (λ p. p.name.items) (slice_get places i)) []

-- the name by which a neighbour of block i is told
abbrev pub neighbour_name : List Fixed1 → ℕ → Neighbour → List ℕ
neighbour_name places i BankEnd = codes "bank"
neighbour_name places i (InRegion name) = region_text name
neighbour_name places i (Later k) = place_name (drop (i + 1) places) k
