-- Laws of the code of a program.
use Rattle.std.specs.Prelude.{◌≡◌, ℕ, ◌+◌, ◌≤◌, ◌<◌, List, map}
use Rattle.ec_space.specs.declared.Core.{Core}
use Rattle.ec_avr.specs.Machine.{State}
use Rattle.ec_asm.specs.declared.items.AsmProgram.{AsmProgram}
use Rattle.ec_asm.specs.Change.{Env}
use Rattle.ec_asm.specs.Items.{code_words}
use Rattle.ec_asm.specs.Shows.{Shows, Fits}
use Rattle.ec_asm.specs.Valid.{ValidAsm}
use Rattle.ec_asm.specs.View.{View}
use Rattle.ec_core.specs.Layout.{size_of_type}
use Rattle.ec_core.specs.State.{Inputs}
use Rattle.ec_core.specs.Weight.{objects_weight}
use Rattle.ec_core.specs.Words.{program_words}
use Rattle.ec_ir.specs.Costs.{functions_words}
use Rattle.ec_ir.specs.Operations.{PlainIrProgram}
use Rattle.ec_ir.specs.Valid.{ValidIr}
use Rattle.ec_ir_shapes.specs.Costs.{functions_words_by_shapes}
use Rattle.ec_select_reset.specs.Laws.{ShowsProgram}
use Rattle.ec_select.specs.InPlace.{AreInPlace}
use Rattle.ec_select.specs.Suited.{AreOnPorts, AreSuited}
use Rattle.ec_select.specs.LaidOut.{IsLaidOut, start_steps}
use Rattle.ec_select.specs.Program.{spans_of}
use Rattle.ec_select.specs.Selected.{ValidWithCells, HasCode, IsSelection}

abbrev pub object_sizes : PlainIrProgram → List ℕ
object_sizes p = map (λ d. size_of_type p.structs d.ty) p.objects

-- the code can be placed, with 64 work bytes and one more for each cell of so many with which the program is valid
abbrev pub CanBePlaced : PlainIrProgram → AsmProgram → Type 0
CanBePlaced p asm = (cells : ℕ) → ValidIr cells p → ValidAsm (object_sizes p) (64 + cells) asm

abbrev pub SelectionsAreValid : Type 0
SelectionsAreValid =
    (core : Core) (cells : ℕ) (p : PlainIrProgram) (asm : AsmProgram) → ValidIr cells p → HasCode p
    → IsSelection core p asm → ValidAsm (object_sizes p) (64 + cells) asm

-- it has no more words than the rows of the program and of its objects and the operations: counted by shapes, and each by
-- itself
pub record HasWords (p : PlainIrProgram) (asm : AsmProgram) : Type 0 where
  pub by_shapes : code_words asm.items.items
      ≤ program_words + objects_weight p.objects + functions_words_by_shapes p.functions
  pub alone : code_words asm.items.items ≤ program_words + objects_weight p.objects + functions_words p.functions

abbrev pub SelectionsHaveWords : Type 0
SelectionsHaveWords =
    (core : Core) (p : PlainIrProgram) (asm : AsmProgram) → ValidWithCells p → HasCode p → AreInPlace p
    → IsSelection core p asm → HasWords p asm

-- valid operations have code, where their temporaries suit it and their ports have addresses
abbrev pub OperationsHaveCode : Type 0
OperationsHaveCode =
    (cells : ℕ) (p : PlainIrProgram) → ValidIr cells p → AreOnPorts p → AreSuited p → HasCode p × AreInPlace p

-- ---- what the code does

-- From the first word on a machine comes to where main begins, in at most two steps less than so many and with no
-- accesses but those that copy the initial bytes. From there on it shows all that the operations do, within the steps
-- that they may take, and never more, as long as they access none but ports of the machine
pub record RunsAsOperations (p : PlainIrProgram) (place : ℕ → ℕ) (e : Env) (v : View) (s : State)
    (inputs : Inputs) : Type 0 where
  pub shows : ShowsProgram p place e (spans_of p) v s inputs
  pub few : shows.steps + 2 ≤ start_steps p

-- wherever the code for the core, objects and stack stand, and whatever the memory holds
abbrev pub SelectionsRun : Type 0
SelectionsRun =
    (cells : ℕ) (p : PlainIrProgram) (asm : AsmProgram) (e : Env) (place scratch : ℕ → ℕ) (size low : ℕ) (s : State)
    (v : View) (inputs : Inputs) → ValidIr cells p → HasCode p → IsSelection e.core p asm → Fits e size → size < 65536
    → Shows e size s.core s.mem v → ((port : ℕ) → v.inputs port ≡ inputs port)
    → (laid : IsLaidOut cells p asm e place scratch low) → s.pc ≡ laid.code.begin → RunsAsOperations p place e v s inputs
