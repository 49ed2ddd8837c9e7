-- What is known at a place of a unit.
use Rattle.std.specs.Prelude.{List, map}
use Rattle.ec_iohw.specs.declared.table.IoTable.{IoTable}
use Rattle.ec_iohw.specs.Valid.{ValidIo}
use Rattle.ec_core.specs.Layout.{AreStructs}
use Rattle.ec_core.specs.Plain.{PlainStruct, plain_struct}
use Rattle.ec_check_operands.specs.declared.operands.Modes.{Modes}
use Rattle.ec_check_forms.specs.Accesses.{AreCounted}
use Rattle.ec_check_names.specs.Names.{Names, plain_names}
use Rattle.ec_check_names.specs.Tags.{Tags, plain_tags}
use Rattle.ec_check_expressions.specs.declared.known.Known as known
pub use Rattle.ec_check_expressions.specs.Types.{names_below, is_sized}

-- the names and tags, the structs of the program so far, the ports, and the overflow states
pub record Known : Type 0 where
  pub names : Names
  pub tags : Tags
  pub structs : List PlainStruct
  pub ports : IoTable
  pub modes : Modes

abbrev pub plain_known : known.Known → Known
plain_known k =
    record {
      names = plain_names k.names.now;
      tags = plain_tags k.tags.now;
      structs = map plain_struct k.structs.now.items;
      ports = k.ports.now;
      modes = k.modes;
    }

-- what must hold of what is known: the ports are those of a map, and the structs those of a program
pub record IsSound (k : Known) : Type 0 where
  pub ports : ValidIo k.ports
  pub structs : AreStructs k.structs
  pub counted : AreCounted k.structs
