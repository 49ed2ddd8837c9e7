-- What is accepted: where nothing stands against the sources and the map, there is a build, unless memory runs out.
use Rattle.std.specs.Prelude.{ℕ, List}
use Rattle.ec_grammar.specs.Trees as t
use Rattle.ec_core.specs.Plain.{PlainProgram}
use Rattle.ec_check_recursion.specs.Recursion.{NothingRecurs}
use Rattle.ec_check.specs.Answers.{IsTyped, IsWithinLimits}
use Rattle.ec_check.specs.Broken.{NothingIsBroken}
use Rattle.ec_map.specs.declared.map.Map.{Map}
use Rattle.ec_build.specs.Builds.{IsChecked}
use Rattle.ec_build.specs.MapTexts.{IsMapText, HasMap}
use Rattle.ec_build.specs.Places.{Fits}
use Rattle.ec_parse_sources.specs.Units.{AreUnits}

-- There is a map, and each source has a tree. For each such map, and all such trees and programs, there is nothing that
-- they can be refused for. (A text has one map, but for the room of its lists; a source has one tree, and the trees have
-- one program)
pub record IsAccepted (sources : List (List ℕ)) (text : List ℕ) : Type 0 where
  pub map : HasMap text
  pub units : (units : List t.Tree) × AreUnits sources units
  pub limits : (units : List t.Tree) → AreUnits sources units → IsWithinLimits units
  pub unbroken : (m : Map) (units : List t.Tree) → IsMapText text m → AreUnits sources units
      → NothingIsBroken units m.io
  pub loopless : (m : Map) (units : List t.Tree) (p : PlainProgram) → IsMapText text m → AreUnits sources units
      → IsTyped units m.io p → NothingRecurs p
  pub fits : (m : Map) (p : PlainProgram) → IsChecked sources text m p → Fits p m
