-- The code of a program for a core, in its long form and shortened.
use Rattle.std.specs.Prelude.{◌≡◌, ◌≤◌, List, [], ◌∷◌}
use Rattle.ec_space.specs.declared.Core.{Core}
use Rattle.ec_iohw.specs.declared.table.IoTable.{IoTable}
use Rattle.ec_asm.specs.Items.{code_words}
use Rattle.ec_asm.specs.Valid.{ValidAsm}
use Rattle.ec_asm.specs.declared.items.AsmItem.TheVariants.{Label}
use Rattle.ec_asm.specs.declared.items.AsmProgram.{AsmProgram}
use Rattle.ec_asm_based.specs.declared.reach.Reach.{Reach}
use Rattle.ec_build_laws.specs.Shortened.{reaches_of, IsShortened}
use Rattle.ec_core.specs.Plain.{PlainProgram}
use Rattle.ec_core.specs.PortTable.{plain_table}
use Rattle.ec_core_shapes.specs.SharedWeight.{shared_weight}
use Rattle.ec_lower_code.specs.Code.{lowered}
use Rattle.ec_lower_code.specs.Correct.{GroupsHaveBytes}
use Rattle.ec_map.specs.declared.map.Map.{Map}
use Rattle.ec_locate.specs.Entries.{work_size}
use Rattle.ec_locate.specs.Placing.{object_sizes, scratch_needs, IsLocated}
use Rattle.ec_locate.specs.declared.placing.Located.{Located}
use Rattle.ec_select.specs.Selected.{HasCode, IsSelection}

-- The code of the operations of a program for a core, which can be placed, and has at most as many words as the program weighs by
-- shapes. The groups of the ports hold bytes
pub record IsCodeOf (core : Core) (p : PlainProgram) (io : IoTable) (asm : AsmProgram) : Type 0 where
  pub groups : GroupsHaveBytes io
  pub code : HasCode (lowered p (plain_table io))
  pub selection : IsSelection core (lowered p (plain_table io)) asm
  pub frames : asm.frames.items ≡ scratch_needs p
  pub small : code_words asm.items.items ≤ shared_weight p (plain_table io)
  pub valid : ValidAsm (object_sizes p) (work_size io) asm

-- The same with what is near in one word, for bytes that Y reaches. It has no more words
pub record IsShortCodeOf (core : Core) (p : PlainProgram) (io : IoTable) (reaches : List Reach) (asm : AsmProgram) : Type 0 where
  pub long : AsmProgram
  pub code : IsCodeOf core p io long
  pub shortened : IsShortened reaches long asm
  pub frames : asm.frames.items ≡ scratch_needs p
  pub small : code_words asm.items.items ≤ shared_weight p (plain_table io)
  pub valid : ValidAsm (object_sizes p) (work_size io) asm

-- no more of code than the label where it begins, with its scratch memory
pub record IsOutlineOf (asm outline : AsmProgram) : Type 0 where
  pub items : outline.items.items ≡ Label asm.entry ∷ []
  pub frames : outline.frames.items ≡ asm.frames.items
  pub entry : outline.entry ≡ asm.entry

-- what Y reaches, wherever the program is placed by a map
abbrev pub AreReaches : PlainProgram → Map → List Reach → Type 0
AreReaches p m reaches =
    (asm : AsmProgram) (l : Located) → IsLocated p m asm l → reaches ≡ reaches_of p l.places.items
