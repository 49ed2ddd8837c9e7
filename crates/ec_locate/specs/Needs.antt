-- What the regions need, and the first that is too small.
use Rattle.std.specs.Prelude.{ℕ, ◌+◌, ◌*◌, nat_le, nat_lt, if◌then◌else◌, Option, Some, None}
use Rattle.ec_map.specs.declared.map.Map.{Map}
use Rattle.ec_map.specs.declared.region.Region.{Region}
use Rattle.ec_locate.specs.declared.needs.Needs.{Needs}
use Rattle.ec_locate.specs.declared.needs.Shortage.{Shortage}
use Rattle.ec_locate.specs.declared.stop.RegionName.{RegionName}
use Rattle.ec_locate.specs.declared.stop.RegionName.TheVariants.{Code, Tables, Far, Data, Stack}

-- 16 bytes, and a return address for each function on the longest chain of calls from main
abbrev pub stack_need : (depth : ℕ) → ℕ
stack_need depth = 16 + 2 * depth

-- a number past 4,294,967,295 is told as that number
abbrev pub told : ℕ → ℕ
told n = if nat_le n 4294967295 then n else 4294967295

abbrev pub shortage_of : RegionName → Region → (need : ℕ) → Option Shortage
shortage_of name region need =
    if nat_lt region.size need
    then Some (record { region = name; needed = told need; available = region.size })
    else None

abbrev pub or_else : Option Shortage → Option Shortage → Option Shortage
or_else None next = next
or_else (Some s) next = Some s

-- the first of tables, far, data, stack and code that is too small
abbrev pub first_shortage : Map → Needs → Option Shortage
first_shortage m n =
    or_else (shortage_of Tables m.tables n.tables) (or_else (shortage_of Far m.far n.far)
    (or_else (shortage_of Data m.vars n.vars) (or_else (shortage_of Stack m.stack n.stack) (shortage_of Code m.code n.code))))
