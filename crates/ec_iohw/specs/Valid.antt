-- Tables of ports that a program can use (ISO/IEC TR 18037:2008, 6; the limits are this project's profile).
use Rattle.std.specs.Prelude.{ℕ, ◌≡◌, ◌≢◌, ◌+◌, ◌*◌, ◌<◌, ◌≤◌, ◌⊎◌, ◌++◌, List, [], ◌∷◌, length, map, ⊤, All, AllPairs}
use Rattle.std.specs.Prelude.{IfSome, IsTrue, Option, Some, None, option_map, unwrap_or, slice_get}
use Rattle.ec_iohw.specs.declared.table.Choice.{Choice}
use Rattle.ec_iohw.specs.declared.table.Dynamic.{Dynamic}
use Rattle.ec_iohw.specs.declared.table.IoTable.{IoTable}
use Rattle.ec_iohw.specs.declared.table.Port.{Port}
use Rattle.ec_iohw.specs.Names.{is_identifier}

-- no two of the names are the same
abbrev pub AreDistinct : List (List ℕ) → Type 0
AreDistinct [] = ⊤
AreDistinct (name ∷ names) = All (λ other. name ≢ other) names × AreDistinct names

-- what the address of a port counts from: 0 or, with a dynamic group, the base of each of its choices
abbrev pub bases_of : List Dynamic → Option ℕ → List ℕ
bases_of dynamics None = 0 ∷ []
bases_of dynamics (Some d) =
    unwrap_or (option_map (λ x. map (λ c. c.base) x.choices.items) (slice_get dynamics d)) []

-- from a base on, the `width * count` bytes of a port lie at 0xFF or below
abbrev pub LiesFrom : Port → (base : ℕ) → Type 0
LiesFrom port base = base + port.address + port.width * port.count ≤ 0x100

-- a port of a table with so many groups, and with these dynamic groups
pub record IsPort (groups : ℕ) (dynamics : List Dynamic) (port : Port) : Type 0 where
  pub width : (port.width ≡ 1) ⊎ ((port.width ≡ 2) ⊎ (port.width ≡ 4))
  pub some : 1 ≤ port.count
  pub most : port.count ≤ 220
  pub last : All (LiesFrom port) (bases_of dynamics port.dynamic)
  pub group : IfSome port.group (λ group. group < groups)
  pub dynamic : IfSome port.dynamic (λ d. d < length dynamics)

-- two choices of one dynamic group are of different groups and have different bases
pub record AreApart (c d : Choice) : Type 0 where
  pub groups : c.group ≢ d.group
  pub bases : c.base ≢ d.base

-- a dynamic group of a table with so many groups
pub record IsDynamic (groups : ℕ) (dynamic : Dynamic) : Type 0 where
  pub named : IsTrue (is_identifier dynamic.name.items)
  pub some : 1 ≤ length dynamic.choices.items
  pub most : length dynamic.choices.items ≤ 8
  pub within : All (λ c. c.group < groups) dynamic.choices.items
  pub apart : AllPairs AreApart dynamic.choices.items

pub record ValidIo (io : IoTable) : Type 0 where
  pub ports : length io.ports.items ≤ 64
  pub groups : length io.groups.items ≤ 16
  pub dynamics : length io.dynamics.items ≤ 8
  pub port_names : AreDistinct (map (λ port. port.name.items) io.ports.items)
  -- no two among groups and dynamic groups have one name
  pub group_names : AreDistinct (map (λ g. g.name.items) io.groups.items ++ map (λ d. d.name.items) io.dynamics.items)
  pub each : All (IsPort (length io.groups.items) io.dynamics.items) io.ports.items
  pub each_dynamic : All (IsDynamic (length io.groups.items)) io.dynamics.items
