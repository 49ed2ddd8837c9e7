-- What `place` answers for a program, its code and a map.
use Rattle.std.specs.Prelude.{ℕ, ◌≡◌, ◌⊎◌, ◌+◌, ◌-◌, ◌*◌, ⊤, List, map, Option, Some, None, option_map}
use Rattle.std.specs.Prelude.{IsSomeAnd}
use Rattle.ec_asm.specs.Items.{code_words}
use Rattle.ec_asm.specs.declared.items.AsmItem.{AsmItem}
use Rattle.ec_asm.specs.declared.items.AsmProgram.{AsmProgram}
use Rattle.ec_check_recursion.specs.Rows.{rows_of_program}
use Rattle.ec_core.specs.Layout.{size_of_type}
use Rattle.ec_core.specs.Needs.{stmt_need}
use Rattle.ec_core.specs.Plain.{PlainProgram}
use Rattle.ec_iohw.specs.declared.table.IoTable.{IoTable}
use Rattle.ec_map.specs.declared.map.Fixed1.{Fixed1}
use Rattle.ec_map.specs.declared.map.Map.{Map}
use Rattle.ec_locate.specs.Calls.{call_depth}
use Rattle.ec_locate.specs.Entries.{entries, table_need, far_need, data_need, work_size}
use Rattle.ec_locate.specs.Fixed.{missing, blocks, first_clash, place_name, neighbour_name}
use Rattle.ec_locate.specs.Image.{flash_of, image}
use Rattle.ec_locate.specs.Layout.{LayoutView, layout}
use Rattle.ec_locate.specs.Needs.{stack_need, first_shortage}
use Rattle.ec_locate.specs.declared.entries.Entry.{Entry}
use Rattle.ec_locate.specs.declared.fixed.Neighbour.{Neighbour}
use Rattle.ec_locate.specs.declared.needs.Needs.{Needs}
use Rattle.ec_locate.specs.declared.needs.Shortage.{Shortage}
use Rattle.ec_locate.specs.declared.placing.Located.{Located}
use Rattle.ec_locate.specs.declared.stop.PlaceStop.{PlaceStop}
use Rattle.ec_locate.specs.declared.stop.PlaceStop.TheVariants.{TooSmall, NoSuchObject, Clash, NoMemory}

-- the sizes of a program's objects
abbrev pub object_sizes : PlainProgram → List ℕ
object_sizes p = map (λ o. size_of_type p.structs o.ty) p.objects

-- for each function the sixteenth part of its scratch memory
abbrev pub scratch_needs : PlainProgram → List ℕ
scratch_needs p = map (λ f. stmt_need f.body) p.functions

-- ---- what is judged

abbrev pub needs : PlainProgram → IoTable → List Entry → (frames : List ℕ) → List AsmItem → Needs
needs p io es frames items = record {
  tables = table_need es;
  far = far_need es;
  vars = data_need (work_size io) (rows_of_program p) es frames;
  stack = stack_need (call_depth p);
  code = 2 * code_words items;
}

abbrev pub entries_by : Map → PlainProgram → List Entry
entries_by m p = entries m.places.items p

-- the first region that is too small
abbrev pub shortage : PlainProgram → Map → AsmProgram → Option Shortage
shortage p m asm = first_shortage m (needs p m.io (entries_by m p) asm.frames.items asm.items.items)

-- the first place without an object
abbrev pub without_object : PlainProgram → Map → Option Fixed1
without_object p m = missing p.objects m.places.items

-- the first place whose object clashes, by its number, and what it clashes with
abbrev pub clash : PlainProgram → Map → Option (ℕ × Neighbour)
clash p m = first_clash m 0 (blocks (entries_by m p) p.objects m.places.items)

-- ---- refusals

abbrev pub IsShort : Option Shortage → PlaceStop → Type 0
IsShort s (TooSmall region needed available) =
    s ≡ Some (record { region = region; needed = needed; available = available })
IsShort s (NoSuchObject name) = ⊥
IsShort s (Clash name other) = ⊥
IsShort s NoMemory = ⊥

abbrev pub IsWithoutObject : Option Fixed1 → PlaceStop → Type 0
IsWithoutObject p (TooSmall region needed available) = ⊥
IsWithoutObject p (NoSuchObject name) = option_map (λ q. q.name.items) p ≡ Some name.items
IsWithoutObject p (Clash name other) = ⊥
IsWithoutObject p NoMemory = ⊤

abbrev pub IsClash : List Fixed1 → Option (ℕ × Neighbour) → PlaceStop → Type 0
IsClash places c (TooSmall region needed available) = ⊥
IsClash places c (NoSuchObject name) = ⊥
IsClash places c (Clash name other) =
    IsSomeAnd c (λ found. (name.items ≡ place_name places found.0)
    × (other.items ≡ neighbour_name places found.0 found.1))
IsClash places c NoMemory = ⊤

-- why a program is not placed. A cause counts where there is none before it
abbrev pub IsStop : PlainProgram → Map → AsmProgram → PlaceStop → Type 0
IsStop p m asm (TooSmall region needed available) =
    shortage p m asm ≡ Some (record { region = region; needed = needed; available = available })
IsStop p m asm (NoSuchObject name) =
    (shortage p m asm ≡ None) × (option_map (λ q. q.name.items) (without_object p m) ≡ Some name.items)
IsStop p m asm (Clash name other) =
    (shortage p m asm ≡ None) × (without_object p m ≡ None)
    × IsSomeAnd (clash p m) (λ found. (name.items ≡ place_name m.places.items found.0)
    × (other.items ≡ neighbour_name m.places.items found.0 found.1))
IsStop p m asm NoMemory = ⊤

-- ---- what is placed

-- the last byte of the stack
abbrev pub last_of : Map → ℕ
last_of m = m.stack.first + m.stack.size - 1

abbrev pub layout_by : PlainProgram → Map → AsmProgram → LayoutView
layout_by p m asm = layout m (rows_of_program p) (entries_by m p) asm.frames.items

-- the code has the scratch memory that its functions need, and the program stands by the map
pub record IsLocated (p : PlainProgram) (m : Map) (asm : AsmProgram) (l : Located) : Type 0 where
  pub scratch : asm.frames.items ≡ scratch_needs p
  pub fits : shortage p m asm ≡ None
  pub there : without_object p m ≡ None
  pub free : clash p m ≡ None
  pub places : l.places.items ≡ (layout_by p m asm).places
  pub frames : l.frames.items ≡ (layout_by p m asm).frames
  pub work : l.work ≡ (layout_by p m asm).work
  pub code_bytes : l.code_bytes ≡ 2 * code_words asm.items.items
  pub core : l.image.core ≡ m.core
  pub flash : flash_of l.image ≡ image m.core p (layout_by p m asm) (last_of m) asm.items.items

-- ---- that no other answers come

abbrev pub IsMemory : PlaceStop → Type 0
IsMemory (TooSmall region needed available) = ⊥
IsMemory (NoSuchObject name) = ⊥
IsMemory (Clash name other) = ⊥
IsMemory NoMemory = ⊤

-- where there is no cause, a program is refused for want of memory alone; where a region is too small, this is told,
-- and else the first name without an object, before any clash
pub record StopsHaveCauses : Type 0 where
  pub none : (p : PlainProgram) (m : Map) (asm : AsmProgram) (stop : PlaceStop) → IsStop p m asm stop
      → shortage p m asm ≡ None → without_object p m ≡ None → clash p m ≡ None → IsMemory stop
  pub short : (p : PlainProgram) (m : Map) (asm : AsmProgram) (stop : PlaceStop) (s : Shortage) → IsStop p m asm stop
      → shortage p m asm ≡ Some s → IsMemory stop ⊎ IsShort (Some s) stop
  pub missed : (p : PlainProgram) (m : Map) (asm : AsmProgram) (stop : PlaceStop) (place : Fixed1)
      → IsStop p m asm stop → shortage p m asm ≡ None → without_object p m ≡ Some place
      → IsMemory stop ⊎ IsWithoutObject (Some place) stop
