-- The table of ports as plain records: without names, which say nothing about a run, and without the spare room of
-- lists.
use Rattle.std.specs.Prelude.{ℕ, List, [], map, Option, option_map, unwrap_or, slice_get}
use Rattle.ec_iohw.specs.declared.table.Choice.{Choice}
use Rattle.ec_iohw.specs.declared.table.Dynamic.{Dynamic}
use Rattle.ec_iohw.specs.declared.table.IoTable.{IoTable}
use Rattle.ec_iohw.specs.declared.table.Pair.{Pair}
use Rattle.ec_iohw.specs.declared.table.Port.{Port}
use Rattle.ec_iohw.specs.declared.table.PortGroup.{PortGroup}

pub record PlainPort : Type 0 where
  pub address : ℕ
  pub width : ℕ
  pub count : ℕ
  pub group : Option ℕ
  pub dynamic : Option ℕ

pub record PlainGroup : Type 0 where
  pub acquire : List Pair
  pub release : List Pair

pub record PlainDynamic : Type 0 where
  pub choices : List Choice

pub record PlainTable : Type 0 where
  pub ports : List PlainPort
  pub groups : List PlainGroup
  pub dynamics : List PlainDynamic

abbrev pub plain_port : Port → PlainPort
plain_port p =
    record { address = p.address; width = p.width; count = p.count; group = p.group; dynamic = p.dynamic }

abbrev pub plain_group : PortGroup → PlainGroup
plain_group g = record { acquire = g.acquire.items; release = g.release.items }

abbrev pub plain_dynamic : Dynamic → PlainDynamic
plain_dynamic d = record { choices = d.choices.items }

abbrev pub plain_table : IoTable → PlainTable
plain_table io = record {
  ports = map plain_port io.ports.items;
  groups = map plain_group io.groups.items;
  dynamics = map plain_dynamic io.dynamics.items;
}

-- the choices of a dynamic group of the table
abbrev pub choices_of : PlainTable → ℕ → List Choice
choices_of table d = unwrap_or (option_map (λ x. x.choices) (slice_get table.dynamics d)) []
