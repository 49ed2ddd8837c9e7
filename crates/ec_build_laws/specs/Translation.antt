-- A program, its operations, their code and where all of it stands.
use Rattle.ec_space.specs.Bytes.{AreBytes}
use Rattle.ec_asm.specs.declared.items.AsmProgram.{AsmProgram}
use Rattle.ec_core.specs.Plain.{PlainProgram}
use Rattle.ec_core.specs.PortTable.{plain_table}
use Rattle.ec_core.specs.Valid.{Valid}
use Rattle.ec_lower_code.specs.Code.{lowered}
use Rattle.ec_lower_code.specs.Correct.{GroupsHaveBytes}
use Rattle.ec_map.specs.Maps.{ValidMap}
use Rattle.ec_map.specs.declared.map.Map.{Map}
use Rattle.ec_locate.specs.Placing.{IsLocated}
use Rattle.ec_locate.specs.declared.placing.Located.{Located}
use Rattle.ec_select.specs.Selected.{HasCode, IsSelection}
use Rattle.ec_build_laws.specs.Shortened.{reaches_of, IsShortened}

-- A valid program was lowered, its operations all have code for the core of a map, and this was shortened by the places
-- of the program's objects and placed by the map. The flash holds bytes, and so do the groups of the map
pub record IsTranslated (p : PlainProgram) (m : Map) (asm : AsmProgram) (l : Located) : Type 0 where
  pub valid : Valid p m.io
  pub map : ValidMap m
  pub groups : GroupsHaveBytes m.io
  pub code : HasCode (lowered p (plain_table m.io))
  pub selected : AsmProgram
  pub selection : IsSelection m.core (lowered p (plain_table m.io)) selected
  pub shortened : IsShortened (reaches_of p l.places.items) selected asm
  pub located : IsLocated p m asm l
  pub bytes : AreBytes l.image.bytes.items
