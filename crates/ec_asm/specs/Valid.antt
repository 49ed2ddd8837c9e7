-- Items of code that can be placed.
use Rattle.std.specs.Prelude.{ℕ, ◌-◌, ◌*◌, ◌≤◌, ◌==◌, nat_lt, nat_le, Bool, true, false, ◌&&◌, if◌then◌else◌, List}
use Rattle.std.specs.Prelude.{length, slice_get, Option, Some, None, option_map, IsTrue, count_by}
use Rattle.std.specs.List.{list_all}
use Rattle.ec_isa.specs.Table.{in_table}
use Rattle.ec_asm.specs.declared.items.AsmItem.{AsmItem}
use Rattle.ec_asm.specs.declared.items.AsmItem.TheVariants.{Plain, Label, JumpTo, CallTo, BranchTo, LoadPart, LoadObj}
use Rattle.ec_asm.specs.declared.items.AsmItem.TheVariants.{StoreObj}
use Rattle.ec_asm.specs.declared.items.AsmProgram.{AsmProgram}

-- ---- what a number names

-- The sizes in bytes of what the numbers of objects name: of the objects of the program, of the scratch memory of each
-- function (a sixteenth part of it), and of the work bytes
pub record Sizes : Type 0 where
  pub objects : List ℕ
  pub frames : List ℕ
  pub work : ℕ

abbrev pub sizes_of : (objects frames : List ℕ) (work : ℕ) → Sizes
sizes_of objects frames work = record { objects = objects; frames = frames; work = work }

-- The bytes of what a number names. Below 1,024 it is an object; 1,024 and f is the scratch memory of function f; 1,280
-- is the work bytes; 1,281 is the last byte of the stack; 2,048 and o is the initial bytes of object o
abbrev pub size_of : Sizes → ℕ → Option ℕ
size_of sizes n =
    if nat_lt n 1024 then slice_get sizes.objects n
    else if nat_lt n 1280 then option_map (λ frame. 16 * frame) (slice_get sizes.frames (n - 1024))
    else if n == 1280 then Some sizes.work
    else if n == 1281 then Some 1
    else if nat_lt n 2048 then None
    else slice_get sizes.objects (n - 2048)

-- an offset from 0 to the size of what the number names
abbrev pub is_up_to : Option ℕ → ℕ → Bool
is_up_to None offset = false
is_up_to (Some size) offset = nat_le offset size

abbrev pub is_offset : Sizes → (object offset : ℕ) → Bool
is_offset sizes object offset = is_up_to (size_of sizes object) offset

-- ---- items

-- the fields of an item are in range: an instruction is one of the table, and an object number and its offset name a
-- place
abbrev pub is_valid_item : Sizes → AsmItem → Bool
is_valid_item sizes (Plain i) = in_table i
is_valid_item sizes (Label l) = true
is_valid_item sizes (JumpTo l) = true
is_valid_item sizes (CallTo l) = true
is_valid_item sizes (BranchTo set flag l) = nat_lt flag 8
is_valid_item sizes (LoadPart d object offset part) =
    nat_le 16 d && nat_lt d 32 && nat_le part 2 && is_offset sizes object offset
is_valid_item sizes (LoadObj d object offset) = nat_lt d 32 && is_offset sizes object offset
is_valid_item sizes (StoreObj object offset r) = nat_lt r 32 && is_offset sizes object offset

-- ---- labels

-- the label that an item refers to
abbrev pub used_label : AsmItem → Option ℕ
used_label (JumpTo l) = Some l
used_label (CallTo l) = Some l
used_label (BranchTo set flag l) = Some l
used_label i = None

abbrev pub is_label : ℕ → AsmItem → Bool
is_label l (Label k) = k == l
is_label l i = false

-- a label stands exactly once among items
abbrev pub stands_once : List AsmItem → ℕ → Bool
stands_once items l = count_by (is_label l) items == 1

-- so does the label that an item refers to, if it refers to one
abbrev pub is_placed : List AsmItem → Option ℕ → Bool
is_placed items None = true
is_placed items (Some l) = stands_once items l

-- ---- programs

-- A program that can be placed, for objects of these sizes and so many work bytes. Whoever speaks of a source program
-- says besides that `frames` has the number of each of its functions
pub record ValidAsm (objects : List ℕ) (work : ℕ) (asm : AsmProgram) : Type 0 where
  pub items : IsTrue (list_all (is_valid_item (sizes_of objects asm.frames.items work)) asm.items.items)
  pub labels : IsTrue (list_all (λ item. is_placed asm.items.items (used_label item)) asm.items.items)
  pub entry : IsTrue (stands_once asm.items.items asm.entry)
  pub functions : length asm.frames.items ≤ 256
