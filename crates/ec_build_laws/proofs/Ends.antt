-- Where the banks and the homes of a core end.
use Rattle.std.proofs.Common.{◌≡◌, ◌<◌, ◌≤◌, arith}
use Rattle.ec_space.specs.Memory.{flash_size, data_size}
use Rattle.ec_space.specs.declared.Core.{Core}
use Rattle.ec_space.specs.declared.Core.TheVariants.{Small, Large}
use Rattle.ec_space.specs.Spaces.{bank_of}
use Rattle.ec_space.specs.declared.space.Bank.TheVariants.{Flash}
use Rattle.ec_space.specs.declared.space.Home.{Home}
use Rattle.ec_space.specs.declared.space.Home.TheVariants.{Flash as FlashHome, Far as FarHome, Data as DataHome}
use Rattle.ec_map.specs.Cores.{home_end}
use Rattle.ec_select_functions.specs.Standing.{address_end}

pub data_high : (core : Core) → 256 ≤ data_size core
data_high Small = omega arith
data_high Large = omega arith

pub data_low : (core : Core) → data_size core ≤ 16640
data_low Small = omega arith
data_low Large = omega arith

pub tables_low : (core : Core) → home_end FlashHome core ≤ 65535
tables_low Small = omega arith
tables_low Large = omega arith

-- each object in flash and its end have an address there
pub home_below : (home : Home) (core : Core) → bank_of home ≡ Flash → home_end home core < address_end core home
home_below FlashHome Small h = omega arith
home_below FlashHome Large h = omega arith
home_below FarHome Small h = omega arith
home_below FarHome Large h = omega arith
home_below DataHome core h = cc

pub home_in_flash : (home : Home) (core : Core) → bank_of home ≡ Flash → home_end home core ≤ flash_size core
home_in_flash FlashHome Small h = omega arith
home_in_flash FlashHome Large h = omega arith
home_in_flash FarHome Small h = omega arith
home_in_flash FarHome Large h = omega arith
home_in_flash DataHome core h = cc

pub flash_low : (core : Core) → flash_size core ≤ 131072
flash_low Small = omega arith
flash_low Large = omega arith
