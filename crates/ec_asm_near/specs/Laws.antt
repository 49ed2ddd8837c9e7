-- Laws of items whose near jumps are shortened.
use Rattle.std.specs.Prelude.{◌≡◌, ℕ, ◌+◌, ◌<◌, ◌≤◌, List, [], ◌∷◌, Option, Some, None, map, IsTrue, count_by}
use Rattle.std.specs.List.{list_all}
use Rattle.ec_asm.specs.declared.items.AsmItem.{AsmItem}
use Rattle.ec_asm.specs.declared.items.AsmProgram.{AsmProgram}
use Rattle.ec_asm.specs.Change.{Env}
use Rattle.ec_asm.specs.Items.{HasAt, item_words, code_words}
use Rattle.ec_asm.specs.Valid.{Sizes, is_valid_item, used_label, is_label, stands_once, is_placed, ValidAsm}
use Rattle.ec_asm_near.specs.Near.{word_of, drafted, near_from, near_items}

-- a label has a word below 65,536
abbrev pub HasWord : Env → Option ℕ → Type 0
HasWord e None = Unit {0}
HasWord e (Some l) = e.word_of l < 65536

-- each label that the items refer to has one
abbrev pub HaveWords : Env → List AsmItem → Type 0
HaveWords e [] = Unit {0}
HaveWords e (i ∷ is) = HasWord e (used_label i) × HaveWords e is

-- Where the items stand shortened, each with all the words that it has, and the labels that they refer to have words,
-- the items stand. So what is proved of items holds of them shortened
abbrev pub NearCodeStands : Type 0
NearCodeStands =
    (e : Env) (items : List AsmItem) (pc : ℕ) → let end = pc + code_words (near_items items) in
    HaveWords e items → HasAt e (near_items items) pc end → HasAt e items pc end

-- labels that are used have words, where each that stands once has one
abbrev pub UsedLabelsHaveWords : Type 0
UsedLabelsHaveWords =
    (e : Env) (items : List AsmItem) → IsTrue (list_all (λ item. is_placed items (used_label item)) items)
    → ((l : ℕ) → IsTrue (stands_once (near_items items) l) → e.word_of l < 65536) → HaveWords e items

-- each item that is near takes one word, each other branch that is within reach of RJMP two, and each other item as many
-- as before
abbrev pub OneWordEach : Type 0
OneWordEach =
    (items : List AsmItem) → map item_words (near_items items) ≡ map item_words (drafted (word_of items) 0 items)

-- the distances are those between the items as they come out
abbrev pub DistancesAreOwn : Type 0
DistancesAreOwn =
    (items : List AsmItem) → near_items items ≡ near_from (word_of items) (word_of (near_items items)) 0 0 items

abbrev pub NoMoreWords : Type 0
NoMoreWords = (items : List AsmItem) → code_words (near_items items) ≤ code_words items

-- the same labels stand as often
abbrev pub LabelsStay : Type 0
LabelsStay =
    (items : List AsmItem) (l : ℕ) → count_by (is_label l) (near_items items) ≡ count_by (is_label l) items

-- the fields of the items stay in range
abbrev pub ItemsStayValid : Type 0
ItemsStayValid =
    (sizes : Sizes) (items : List AsmItem) → IsTrue (list_all (is_valid_item sizes) items)
    → IsTrue (list_all (is_valid_item sizes) (near_items items))

-- a program that can be placed can be placed shortened
abbrev pub ProgramsStayValid : Type 0
ProgramsStayValid =
    (objects : List ℕ) (work : ℕ) (asm near : AsmProgram) → near.items.items ≡ near_items asm.items.items
    → near.frames.items ≡ asm.frames.items → near.entry ≡ asm.entry → ValidAsm objects work asm
    → ValidAsm objects work near
