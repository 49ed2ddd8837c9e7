-- Why there is no build. Where a cause is told, none that is judged before it holds.
use Rattle.std.specs.Prelude.{ℕ, ◌≡◌, ◌≤◌, ⊤, List, Err}
use Rattle.ec_grammar.specs.Trees as t
use Rattle.ec_iohw.specs.declared.table.IoTable.{IoTable}
use Rattle.ec_asm.specs.Items.{code_words}
use Rattle.ec_asm.specs.declared.items.AsmProgram.{AsmProgram}
use Rattle.ec_asm_based.specs.declared.reach.Reach.{Reach}
use Rattle.ec_build_laws.specs.Shortened.{IsShortened}
use Rattle.ec_core.specs.Plain.{PlainProgram}
use Rattle.ec_core.specs.PortTable.{plain_table}
use Rattle.ec_core_shapes.specs.SharedWeight.{shared_weight}
use Rattle.ec_check.specs.Answers.{Checked}
use Rattle.ec_check.specs.declared.checking.CheckStop.{CheckStop}
use Rattle.ec_check.specs.declared.checking.CheckStop.TheVariants as check_stops
use Rattle.ec_lower_code.specs.Code.{lowered}
use Rattle.ec_map.specs.declared.map.Map.{Map}
use Rattle.ec_locate.specs.Placing.{scratch_needs}
use Rattle.ec_locate.specs.declared.stop.PlaceStop.{PlaceStop}
use Rattle.ec_select.specs.Selected.{IsSelection}
use Rattle.ec_build.specs.Builds.{IsRead, IsChecked}
use Rattle.ec_build.specs.MapTexts.{HasMap, IsNoMap}
use Rattle.ec_build.specs.Places.{HasNoPlace}
use Rattle.ec_parse_sources.specs.Units.{IsFirstFault, IsFirstUnparsed}
use Rattle.ec_build.specs.declared.stop.BuildStop.{BuildStop}
use Rattle.ec_build.specs.declared.stop.BuildStop.TheVariants.{Map as MapFault, Lex, Parse, Check, Place}
use Rattle.ec_build.specs.declared.stop.BuildStop.TheVariants.{NoMemory}

-- a limit, a constraint or recursion stands against trees
pub record IsUnchecked (units : List t.Tree) (io : IoTable) (stop : CheckStop) : Type 0 where
  pub against : Checked units io (Err stop)
  pub told : stop ≡ check_stops.NoMemory → ⊥

-- why trees have no program
abbrev pub StopsChecking : List t.Tree → IoTable → BuildStop → Type 0
StopsChecking units io (Check stop) = IsUnchecked units io stop
StopsChecking units io NoMemory = ⊤
StopsChecking units io _ = ⊥

-- the trees of the sources have no program
pub record HasNoProgram (sources : List (List ℕ)) (text : List ℕ) (stop : BuildStop) : Type 0 where
  pub map : Map
  pub units : List t.Tree
  pub read : IsRead sources text map units
  pub against : StopsChecking units map.io stop

-- The program of the sources, whose code, shortened, `asm` is, has no place by the map. What the regions need follows from the
-- program and the map alone, but for the bytes of the code, which are at most twice the program's weight by shapes
pub record IsUnplaced (sources : List (List ℕ)) (text : List ℕ) (stop : PlaceStop) : Type 0 where
  pub map : Map
  pub program : PlainProgram
  pub checked : IsChecked sources text map program
  pub asm : AsmProgram
  pub selected : AsmProgram
  pub code : IsSelection map.core (lowered program (plain_table map.io)) selected
  pub reaches : List Reach
  pub shortened : IsShortened reaches selected asm
  pub frames : asm.frames.items ≡ scratch_needs program
  pub small : code_words asm.items.items ≤ shared_weight program (plain_table map.io)
  pub against : HasNoPlace program map asm stop

-- the cause of each stop; out of memory has none
abbrev pub HasCause : List (List ℕ) → List ℕ → BuildStop → Type 0
HasCause sources text (MapFault stop) = IsNoMap text stop
HasCause sources text (Lex unit stop) = HasMap text × IsFirstFault sources unit stop
HasCause sources text (Parse unit stop) = HasMap text × IsFirstUnparsed sources unit stop
HasCause sources text (Check stop) = HasNoProgram sources text (Check stop)
HasCause sources text (Place stop) = IsUnplaced sources text stop
HasCause sources text NoMemory = ⊤
