-- Where the banks and the homes of a core end.
use Rattle.std.proofs.Common.{◌≡◌, ◌≤◌, ⊎_elim, arith}
use Rattle.ec_space.specs.Memory.{flash_size, data_size}
use Rattle.ec_space.specs.declared.Core.{Core}
use Rattle.ec_space.specs.declared.Core.TheVariants.{Small, Large}
use Rattle.ec_space.specs.declared.space.Bank.TheVariants.{Flash}
use Rattle.ec_space.specs.declared.space.Home.{Home}
use Rattle.ec_space.specs.declared.space.Home.TheVariants.{Flash as FlashHome, Far as FarHome, Data as DataHome}
use Rattle.ec_space.specs.Spaces.{bank_of}
use Rattle.ec_map.specs.Cores.{home_end}
use Rattle.ec_map.specs.Maps.{ValidMap}
use Rattle.ec_map.specs.declared.map.Map.{Map}

pub flash_home_low : (core : Core) → home_end FlashHome core ≤ 65535
flash_home_low Small = omega arith
flash_home_low Large = omega arith

pub far_home_low : (core : Core) → home_end FarHome core ≤ 131071
far_home_low Small = omega arith
far_home_low Large = omega arith

pub data_low : (core : Core) → data_size core ≤ 16640
data_low Small = omega arith
data_low Large = omega arith

pub home_in_flash : (home : Home) (core : Core) → bank_of home ≡ Flash → home_end home core ≤ flash_size core
home_in_flash FlashHome Small h = omega arith
home_in_flash FlashHome Large h = omega arith
home_in_flash FarHome Small h = omega arith
home_in_flash FarHome Large h = omega arith
home_in_flash DataHome core h = cc

-- region `tables` begins behind the code and ends as far as pointers of two bytes go, so the code is short
pub code_is_short : (m : Map) → ValidMap m → m.code.size ≤ 65534
code_is_short m valid =
    let start = valid.regions_valid.start in
    let some = valid.regions_valid.tables.some in
    let ends = valid.regions_valid.tables.ends in
    let low = flash_home_low m.core in
    ⊎_elim (λ a. omega (arith, a, start, some, ends, low)) (λ a. absurd (omega (arith, a, start, some)))
    valid.regions_valid.flash_apart
