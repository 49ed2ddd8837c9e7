-- The regions of a map.
use Rattle.std.specs.Prelude.{ℕ, ◌+◌, ◌≡◌, ◌≤◌, ◌⊎◌, ◌==◌, ◌%◌, nat_le, Bool, ◌&&◌, ◌||◌, if◌then◌else◌, List, codes}
use Rattle.std.specs.Prelude.{Option, Some, None, option_and_then}
use Rattle.std.specs.Option.{option_map_or}
use Rattle.toml.specs.Data.{Data, Items, no_items, item, get, as_array}
use Rattle.ec_space.specs.Memory.{flash_size, data_size}
use Rattle.ec_space.specs.declared.Core.{Core}
use Rattle.ec_space.specs.declared.Core.TheVariants.{Small, Large}
use Rattle.ec_space.specs.declared.space.Home.TheVariants.{Flash as FlashHome, Far as FarHome}
use Rattle.ec_map.specs.Cores.{home_end}
use Rattle.ec_map.specs.Judging.{lie_in}
use Rattle.ec_map.specs.Values.{number_of}
use Rattle.ec_map.specs.declared.region.Region.{Region}
use Rattle.ec_map.specs.declared.region.Regions.{Regions}

-- one past the last byte
abbrev pub end_of : Region → ℕ
end_of region = region.first + region.size

-- ---- reading

-- a first address from 0 and a size from 1, both at most 131,072
abbrev pub bytes_from : Option ℕ → Option ℕ → Option Region
bytes_from (Some first) (Some size) = if nat_le 1 size then Some (record { first = first; size = size }) else None
bytes_from _ _ = None

abbrev pub region_in : Items → Option Region
region_in (item first (item size no_items)) = bytes_from (number_of 131072 first) (number_of 131072 size)
region_in _ = None

abbrev pub region_of : Data → Option Region
region_of d = option_and_then region_in (as_array d)

abbrev pub region_at : List ℕ → Data → Option Region
region_at key d = option_and_then region_of (get key d)

-- a region that a map does not have
abbrev pub no_bytes : Region
no_bytes = record { first = 0; size = 0 }

-- the region `far` of a table of regions, which the core `small` does not have, and `large` may have
abbrev pub far_of : Core → Data → Option Region
far_of Small d = Some no_bytes
far_of Large d = option_map_or region_of (get (codes "far") d) (Some no_bytes)

abbrev pub five : (code tables far vars stack : Option Region) → Option Regions
five (Some code) (Some tables) (Some far) (Some vars) (Some stack) =
    Some (record { code = code; tables = tables; far = far; vars = vars; stack = stack })
five _ _ _ _ _ = None

-- the regions of a table of regions
abbrev pub regions_in : Core → Data → Option Regions
regions_in core d =
    five (region_at (codes "code") d) (region_at (codes "tables") d) (far_of core d) (region_at (codes "data") d)
    (region_at (codes "stack") d)

abbrev pub regions_of : Core → Data → Option Regions
regions_of core d = option_and_then (regions_in core) (get (codes "region") d)

-- ---- rules

-- the first address is at least so much, and the region ends by an address
abbrev pub lies_in : (from to : ℕ) → Region → Bool
lies_in from to region = lie_in region.first region.size from to

-- in the flash of a core, where tables and far end with the objects of their homes
abbrev pub are_in_flash : Core → Regions → Bool
are_in_flash core r =
    (lies_in 0 (flash_size core) r.code && lies_in 0 (home_end FlashHome core) r.tables)
    && lies_in 0 (home_end FarHome core) r.far

-- in its SRAM
abbrev pub are_in_sram : Core → Regions → Bool
are_in_sram core r = lies_in 256 (data_size core) r.vars && lies_in 256 (data_size core) r.stack

abbrev pub are_in_banks : Core → Regions → Bool
are_in_banks core r = are_in_flash core r && are_in_sram core r

abbrev pub is_code : Regions → Bool
is_code r = (r.code.first == 0) && (r.code.size % 2 == 0)

abbrev pub share_no_byte : Region → Region → Bool
share_no_byte a b = nat_le (end_of a) b.first || nat_le (end_of b) a.first

abbrev pub are_apart : Regions → Bool
are_apart r =
    ((share_no_byte r.code r.tables && share_no_byte r.code r.far) && share_no_byte r.tables r.far)
    && share_no_byte r.vars r.stack

-- ---- what they say

pub record LiesIn (from to : ℕ) (region : Region) : Type 0 where
  pub from_there : from ≤ region.first
  pub some : 1 ≤ region.size
  pub ends : end_of region ≤ to

abbrev pub AreApart : Region → Region → Type 0
AreApart a b = (end_of a ≤ b.first) ⊎ (end_of b ≤ a.first)

-- The region `far`, of the regions of a core: it lies in the flash, as far as pointers to far objects go, and apart from
-- code and tables
pub record ValidFar (core : Core) (r : Regions) : Type 0 where
  pub lies : LiesIn 0 (home_end FarHome core) r.far
  pub code_apart : AreApart r.code r.far
  pub tables_apart : AreApart r.tables r.far

-- Regions of a core: those of code and tables in its flash, where tables end as far as pointers to flash objects go, and
-- those of data and stack in its SRAM. Of a region `far` without bytes nothing else is said, and on the core `small` it has
-- none
pub record ValidRegions (core : Core) (r : Regions) : Type 0 where
  pub code : LiesIn 0 (flash_size core) r.code
  pub tables : LiesIn 0 (home_end FlashHome core) r.tables
  pub far : 1 ≤ r.far.size → ValidFar core r
  pub no_far : core ≡ Small → r.far.size ≡ 0
  pub vars : LiesIn 256 (data_size core) r.vars
  pub stack : LiesIn 256 (data_size core) r.stack
  pub start : r.code.first ≡ 0
  pub whole_words : r.code.size % 2 ≡ 0
  pub flash_apart : AreApart r.code r.tables
  pub sram_apart : AreApart r.vars r.stack
