-- Programs that have code, and what their code is.
use Rattle.std.specs.Prelude.{◌≡◌, ℕ, ◌<◌, List, ◌++◌, map, Some, slice_get, length}
use Rattle.ec_space.specs.declared.Core.{Core}
use Rattle.ec_asm.specs.declared.items.AsmItem.{AsmItem}
use Rattle.ec_asm.specs.declared.items.AsmProgram.{AsmProgram}
use Rattle.ec_ir.specs.Operations.{PlainIrFunction, PlainIrProgram, data_of}
use Rattle.ec_ir.specs.Valid.{ValidIr, called_in}
use Rattle.ec_select_live.specs.Least.{IsLeast}
use Rattle.ec_select_functions.specs.Covered.{AreCovered}
use Rattle.ec_select_operations.specs.Needs.{Need, IsLive}
use Rattle.ec_select_operations.specs.Pointers.{has_tables}
use Rattle.ec_select.specs.Labels.{entry_label}
use Rattle.ec_select.specs.Program.{functions_code, program_code}
use Rattle.ec_select.specs.Sharing.{routines_code}

-- a valid program, with some number of cells
abbrev pub ValidWithCells : PlainIrProgram → Type 0
ValidWithCells p = (cells : ℕ) × ValidIr cells p

-- All operations of a program have code. `results` are the bytes of the results of its functions
pub record HasCode (p : PlainIrProgram) : Type 0 where
  pub results : ℕ → ℕ
  pub main_result : results p.main ≡ 2
  pub functions : (f : ℕ) (g : PlainIrFunction) → slice_get p.functions f ≡ Some g
      → AreCovered (data_of p) results f (called_in g.code) g.slots g.code

-- the tables tell for each of the first n functions what is needed at its labels, and no more
pub record AreTables (p : PlainIrProgram) (tables : ℕ → ℕ → Need) (n : ℕ) : Type 0 where
  pub live : (f : ℕ) (g : PlainIrFunction) → f < n → slice_get p.functions f ≡ Some g
      → IsLive (has_tables (data_of p).objects) (tables f) g.code
  pub least : (f : ℕ) (g : PlainIrFunction) → f < n → slice_get p.functions f ≡ Some g
      → IsLeast (has_tables (data_of p).objects) g.slots (tables f) g.code

-- the items are the code of the functions for a core, behind others, and the routines that they call
pub record AreWritten (core : Core) (p : PlainIrProgram) (before items : List AsmItem) : Type 0 where
  pub tables : ℕ → ℕ → Need
  pub are_tables : AreTables p tables (length p.functions)
  pub items_are : items ≡ before ++ (functions_code core p tables (length p.functions) ++ routines_code core p tables)

-- the items are the code of the program for a core, by what is needed at the labels
pub record IsSelection (core : Core) (p : PlainIrProgram) (asm : AsmProgram) : Type 0 where
  pub tables : ℕ → ℕ → Need
  pub are_tables : AreTables p tables (length p.functions)
  pub items : asm.items.items ≡ program_code core p tables
  pub frames : asm.frames.items ≡ map (λ g. g.slots) p.functions
  pub entry : asm.entry ≡ entry_label
