-- Items of code whose bytes were placed in a flash.
use Rattle.std.specs.Prelude.{◌≡◌, ℕ, ◌+◌, ◌*◌, ◌<◌, ◌≤◌, List, [], ◌∷◌, ◌++◌, length, slice_index, IsTrue, pos}
use Rattle.std.specs.List.{list_all}
use Rattle.ec_isa.specs.declared.instructions.Instr.{Instr}
use Rattle.ec_isa.specs.declared.instructions.Instr.TheVariants.{Lds, Sts, Jmp, Call, Ldi}
use Rattle.ec_isa.specs.Table.{in_table}
use Rattle.ec_avr.specs.Placed.{code_bytes}
use Rattle.ec_asm.specs.declared.items.AsmItem.{AsmItem}
use Rattle.ec_asm.specs.declared.items.AsmItem.TheVariants.{Plain, Label, JumpTo, CallTo, BranchTo, LoadPart, LoadObj}
use Rattle.ec_asm.specs.declared.items.AsmItem.TheVariants.{StoreObj}
use Rattle.ec_asm.specs.Change.{Env}
use Rattle.ec_asm.specs.Items.{branch_unless, address_part, item_words, code_words}

-- the instructions that an item stands for, where labels have their words and objects their addresses
abbrev pub instructions : Env → AsmItem → List Instr
instructions e (Plain i) = i ∷ []
instructions e (Label l) = []
instructions e (JumpTo l) = Jmp (e.word_of l) ∷ []
instructions e (CallTo l) = Call (e.word_of l) ∷ []
instructions e (BranchTo set flag l) = branch_unless set flag (pos 2) ∷ Jmp (e.word_of l) ∷ []
instructions e (LoadPart d o k part) = Ldi d (address_part e o k part) ∷ []
instructions e (LoadObj d o k) = Lds d (e.address_of o k) ∷ []
instructions e (StoreObj o k r) = Sts (e.address_of o k) r ∷ []

-- the bytes of instructions, one after another
abbrev pub bytes_of_all : List Instr → List ℕ
bytes_of_all [] = []
bytes_of_all (i ∷ is) = code_bytes i ++ bytes_of_all is

-- the bytes of items, one after another
abbrev pub code_image : Env → List AsmItem → List ℕ
code_image e [] = []
code_image e (i ∷ is) = bytes_of_all (instructions e i) ++ code_image e is

-- each instruction that the items stand for is one of the table, so that jumps and addresses are of 16 bits
abbrev pub InTable : Env → List AsmItem → Type 0
InTable e [] = Unit {0}
InTable e (i ∷ is) = IsTrue (list_all in_table (instructions e i)) × InTable e is

-- the word of a label that has one is where it stands
abbrev pub LabelStands : Env → AsmItem → ℕ → Type 0
LabelStands e (Label l) pc = e.word_of l < 65536 → e.word_of l ≡ pc
LabelStands e i pc = Unit {0}

-- the words of all labels that have one are those where they stand, where the items begin at a word
abbrev pub LabelsStand : Env → List AsmItem → ℕ → Type 0
LabelsStand e [] pc = Unit {0}
LabelsStand e (i ∷ is) pc = LabelStands e i pc × LabelsStand e is (pc + item_words i)

-- some bytes stand in a list from an index on
pub record HoldsFrom (flash : List ℕ) (at : ℕ) (bytes : List ℕ) : Type 0 where
  pub within : at + length bytes ≤ length flash
  pub bytes_there : (k : ℕ) → k < length bytes → slice_index flash (at + k) ≡ slice_index bytes k

-- the bytes of items stand in the flash from a word on, with their labels and objects resolved, and Y is free
pub record IsPlaced (e : Env) (items : List AsmItem) (pc : ℕ) : Type 0 where
  pub known : InTable e items
  pub labels : LabelsStand e items pc
  pub image : HoldsFrom e.flash (2 * pc) (code_image e items)
  pub room : pc + code_words items < 65536
  pub free : 65536 ≤ e.base
