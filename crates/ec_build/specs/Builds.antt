-- What a build promises.
use Rattle.std.specs.Prelude.{ℕ, ◌≡◌, ◌*◌, ◌≤◌, List}
use Rattle.ec_grammar.specs.Trees as t
use Rattle.ec_iohw.specs.declared.table.IoTable.{IoTable}
use Rattle.ec_avr.specs.Machine.{State, Inputs, IsReset}
use Rattle.ec_asm.specs.declared.items.AsmProgram.{AsmProgram}
use Rattle.ec_core.specs.Plain.{PlainProgram, plain_program}
use Rattle.ec_core.specs.PortTable.{plain_table}
use Rattle.ec_core.specs.ValueTypes.{GiveBytes}
use Rattle.ec_core_shapes.specs.SharedWeight.{shared_weight}
use Rattle.ec_check_recursion.specs.Recursion.{NothingRecurs}
use Rattle.ec_check.specs.Answers.{IsTyped, IsOnlyTyped, IsWithinLimits}
use Rattle.ec_check.specs.Broken.{NothingIsBroken}
use Rattle.ec_map.specs.declared.map.Map.{Map}
use Rattle.ec_locate.specs.Placing.{scratch_needs}
use Rattle.ec_locate.specs.declared.placing.Located.{Located}
use Rattle.ec_build_laws.specs.Translation.{IsTranslated}
use Rattle.ec_build_laws.specs.Whole.{ShowsWhole}
use Rattle.ec_build.specs.MapTexts.{IsMapText}
use Rattle.ec_parse_sources.specs.Units.{AreUnits}
use Rattle.ec_build.specs.declared.building.Built.{Built}

-- ---- what is read

-- the map, and the trees of the sources, which have no others
pub record IsRead (sources : List (List ℕ)) (text : List ℕ) (m : Map) (units : List t.Tree) : Type 0 where
  pub map : IsMapText text m
  pub trees : AreUnits sources units
  pub only : (others : List t.Tree) → AreUnits sources others → others ≡ units

-- P is the typed program of trees, and the only one: no limit, no constraint and no recursion stands against them
pub record IsProgram (units : List t.Tree) (io : IoTable) (p : PlainProgram) : Type 0 where
  pub limits : IsWithinLimits units
  pub unbroken : NothingIsBroken units io
  pub typed : IsTyped units io p
  pub loopless : NothingRecurs p
  pub only : IsOnlyTyped units io p

-- the map, and the typed program of the sources
pub record IsChecked (sources : List (List ℕ)) (text : List ℕ) (m : Map) (p : PlainProgram) : Type 0 where
  pub units : List t.Tree
  pub read : IsRead sources text m units
  pub program : IsProgram units m.io p

-- ---- what is built

-- A valid program, whose code `asm` is, is placed by a map. The code has at most twice as many bytes as the program
-- weighs by shapes. From every reset state, and whatever the ports give, the machine shows what the program does
pub record IsImageOf (p : PlainProgram) (m : Map) (asm : AsmProgram) (l : Located) : Type 0 where
  pub translated : IsTranslated p m asm l
  pub frames : asm.frames.items ≡ scratch_needs p
  pub small : l.code_bytes ≤ 2 * shared_weight p (plain_table m.io)
  pub shows : (s : State) (inputs : Inputs) → IsReset l.image.core l.image.bytes.items s → GiveBytes inputs
      → ShowsWhole p m l s inputs

-- the program of the sources, and its image by the map
pub record IsBuilt (sources : List (List ℕ)) (text : List ℕ) (b : Built) : Type 0 where
  pub checked : IsChecked sources text b.map (plain_program b.program)
  pub asm : AsmProgram
  pub image : IsImageOf (plain_program b.program) b.map asm b.located
