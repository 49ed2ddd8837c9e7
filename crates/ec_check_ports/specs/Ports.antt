-- What units can see of a table of ports: the names and widths of its ports, the names of its groups, and the names of
-- its dynamic groups with the groups of their choices (ISO/IEC TR 18037:2008, 6.2).
use Rattle.std.specs.Prelude.{ℕ, ◌≡◌, List, map}
use Rattle.ec_grammar.specs.Trees.{Tree}
use Rattle.ec_iohw.specs.declared.table.Dynamic.{Dynamic}
use Rattle.ec_iohw.specs.declared.table.IoTable.{IoTable}
use Rattle.ec_iohw.specs.declared.table.Port.{Port}
use Rattle.ec_iohw.specs.declared.table.PortGroup.{PortGroup}
use Rattle.ec_check.specs.Units.{program_of}

pub record SeenPort : Type 0 where
  pub name : List ℕ
  pub width : ℕ

abbrev pub seen_port : Port → SeenPort
seen_port p = record { name = p.name.items; width = p.width }

abbrev pub group_name : PortGroup → List ℕ
group_name g = g.name.items

pub record SeenDynamic : Type 0 where
  pub name : List ℕ
  -- the places of the groups in the table, in order
  pub choices : List ℕ

abbrev pub seen_dynamic : Dynamic → SeenDynamic
seen_dynamic d = record { name = d.name.items; choices = map (λ c. c.group) d.choices.items }

-- two tables have the same ports by name and width, the same groups by name, and the same dynamic groups by name and the
-- groups of their choices, in one order
pub record LookAlike (here there : IoTable) : Type 0 where
  pub ports : map seen_port here.ports.items ≡ map seen_port there.ports.items
  pub groups : map group_name here.groups.items ≡ map group_name there.groups.items
  pub dynamics : map seen_dynamic here.dynamics.items ≡ map seen_dynamic there.dynamics.items

-- so units have one program by both, or none by either
abbrev pub ProgramsGoByNames : Type 0
ProgramsGoByNames =
    (us : List Tree) (here there : IoTable) → LookAlike here there → program_of us here ≡ program_of us there
