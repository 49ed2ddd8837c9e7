-- The core of a map, and where what stands on a core ends.
use Rattle.std.specs.Prelude.{ℕ, if◌then◌else◌, List, codes, Option, Some, None, option_and_then, unwrap_or}
use Rattle.std.specs.Str.{bytes_eq}
use Rattle.toml.specs.Data.{Data}
use Rattle.ec_space.specs.Memory.{data_size}
use Rattle.ec_space.specs.declared.Core.{Core}
use Rattle.ec_space.specs.declared.Core.TheVariants.{Small, Large}
use Rattle.ec_space.specs.declared.space.Home.{Home}
use Rattle.ec_space.specs.declared.space.Home.TheVariants.{Flash as FlashHome, Far as FarHome, Data as DataHome}
use Rattle.ec_map.specs.Values.{text_at}

-- a core by its name
abbrev pub core_named : List ℕ → Option Core
core_named name =
    if bytes_eq name (codes "small") then Some Small else (if bytes_eq name (codes "large") then Some Large else None)

-- the core that a map names, where it names one
abbrev pub core_at : Data → Option Core
core_at d = option_and_then core_named (text_at (codes "core") d)

-- the same, and the core `small` where it names none
abbrev pub core_of : Data → Core
core_of d = unwrap_or (core_at d) Small

-- One past the last byte that objects of a home can have on a core. They lie in its flash or its SRAM, and the pointer past
-- the last of them is one that the bytes of a pointer denote
abbrev pub home_end : Home → Core → ℕ
home_end FlashHome Small = 32_768
home_end FlashHome Large = 65_535
home_end FarHome Small = 32_768
home_end FarHome Large = 131_071
home_end DataHome core = data_size core

-- the greatest address at which a map can place an object
abbrev pub last_place : Core → ℕ
last_place Small = 65_535
last_place Large = 131_071
