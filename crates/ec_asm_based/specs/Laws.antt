-- Laws of items that go by Y.
use Rattle.std.specs.Prelude.{◌≡◌, ℕ, ◌+◌, ◌<◌, ◌≤◌, List, Some, map, slice_get, IsTrue, count_by}
use Rattle.std.specs.List.{list_all}
use Rattle.ec_asm.specs.declared.items.AsmItem.{AsmItem}
use Rattle.ec_asm.specs.declared.items.AsmProgram.{AsmProgram}
use Rattle.ec_asm.specs.Change.{Env, Object, unbased}
use Rattle.ec_asm.specs.Items.{HasAt, code_words}
use Rattle.ec_asm.specs.Valid.{Sizes, is_valid_item, is_label, ValidAsm}
use Rattle.ec_asm_based.specs.Based.{based_item, based_items, item_leaves_base}
use Rattle.ec_asm_based.specs.declared.reach.Reach.{Reach}

-- the bytes of an object stand where a table tells, and are an object's
pub record StandsAt (e : Env) (o : ℕ) (r : Reach) : Type 0 where
  pub address : (k : ℕ) → k < r.bytes → e.address_of o k ≡ r.first + k
  pub below : (k : ℕ) → k < r.bytes → r.first + k < 65536
  pub object : (k : ℕ) → k < r.bytes → e.kind (r.first + k) ≡ Object

abbrev pub AreReached : Env → List Reach → Type 0
AreReached e reaches = (o : ℕ) (r : Reach) → slice_get reaches o ≡ Some r → StandsAt e o r

-- where items that leave Y as it is stand by the base, with Y free, the items stand with Y held
abbrev pub BasedCodeStands : Type 0
BasedCodeStands =
    (e : Env) (reaches : List Reach) (items : List AsmItem) (pc end : ℕ) → e.base < 65536 → AreReached e reaches
    → IsTrue (list_all item_leaves_base items) → HasAt (unbased e) (map (based_item reaches e.base) items) pc end
    → HasAt e items pc end

abbrev pub NoMoreWords : Type 0
NoMoreWords =
    (reaches : List Reach) (items : List AsmItem) → code_words (based_items reaches items) ≤ code_words items

-- the same labels stand as often
abbrev pub LabelsStay : Type 0
LabelsStay =
    (reaches : List Reach) (items : List AsmItem) (l : ℕ)
    → count_by (is_label l) (based_items reaches items) ≡ count_by (is_label l) items

-- the fields of the items stay in range
abbrev pub ItemsStayValid : Type 0
ItemsStayValid =
    (sizes : Sizes) (reaches : List Reach) (items : List AsmItem) → IsTrue (list_all (is_valid_item sizes) items)
    → IsTrue (list_all (is_valid_item sizes) (based_items reaches items))

-- a program that can be placed can be placed so
abbrev pub ProgramsStayValid : Type 0
ProgramsStayValid =
    (objects : List ℕ) (work : ℕ) (reaches : List Reach) (asm based : AsmProgram)
    → based.items.items ≡ based_items reaches asm.items.items
    → based.frames.items ≡ asm.frames.items → based.entry ≡ asm.entry → ValidAsm objects work asm
    → ValidAsm objects work based
