-- Where the code of a program, its objects and its stack stand.
use Rattle.std.specs.Prelude.{◌≡◌, ℕ, ◌+◌, ◌*◌, ◌<◌, ◌≤◌, true, if◌then◌else◌, List, Some, slice_get, slice_index}
use Rattle.std.specs.Prelude.{length, sum_by}
use Rattle.ec_space.specs.declared.space.Bank.TheVariants.{Data as DataBank}
use Rattle.ec_asm.specs.declared.items.AsmProgram.{AsmProgram}
use Rattle.ec_asm.specs.Change.{Env, Stacked}
use Rattle.ec_asm.specs.Items.{HasAt}
use Rattle.ec_asm.specs.Pieces.{is_held}
use Rattle.ec_core.specs.declared.values.Value.{Value}
use Rattle.ec_core.specs.Accesses.{leaf_of}
use Rattle.ec_core.specs.Layout.{size_of_type}
use Rattle.ec_core.specs.Plain.{PlainObject, PlainStruct}
use Rattle.ec_core.specs.State.{ObjectState}
use Rattle.ec_ir.specs.Meaning.{start_state}
use Rattle.ec_ir.specs.Operations.{PlainIrFunction, PlainIrProgram, data_of}
use Rattle.ec_ir.specs.Valid.{CallsTo}
use Rattle.ec_select_functions.specs.Laws.{CallsOn}
use Rattle.ec_select_operations.specs.Places.{ObjectLeaf, Apart}
use Rattle.ec_select_functions.specs.Relation.{HoldsLeaf}
use Rattle.ec_select_functions.specs.Standing.{ScratchStands, ObjectsStand, TablesStand, WorkStands, PageStands}
use Rattle.ec_select_startup.specs.Laws.{HasStack}
use Rattle.ec_select.specs.Labels.{homes_of}
use Rattle.ec_select.specs.Program.{has_initial_bytes}

-- The items stand from one word to another
pub record CodeStands (asm : AsmProgram) (e : Env) : Type 0 where
  pub begin : ℕ
  pub end : ℕ
  pub stands : HasAt e asm.items.items begin end
  pub flash : length e.flash ≤ 131_072

-- The scratch memory of each function stands at an address, apart from the objects and from that of any other function
-- which it calls, itself or through others
pub record ScratchIsLaidOut (p : PlainIrProgram) (e : Env) (place scratch : ℕ → ℕ) : Type 0 where
  pub stands : (f : ℕ) (g : PlainIrFunction) → slice_get p.functions f ≡ Some g
      → ScratchStands e g.slots (homes_of f g.code) (scratch f)
  pub objects : (f : ℕ) (g : PlainIrFunction) → slice_get p.functions f ≡ Some g
      → ObjectsStand p e g.slots (scratch f) place
  pub apart : (f h : ℕ) (a b : PlainIrFunction) → CallsTo p h f → slice_get p.functions f ≡ Some a
      → slice_get p.functions h ≡ Some b → Apart (scratch f) (16 * a.slots) (scratch h) (16 * b.slots)

-- the flash address of the initial bytes of object o
abbrev pub initial_at : Env → ℕ → ℕ
initial_at e o = e.address_of (2048 + o) 0

-- the initial bytes of each static object of the data bank stand in flash, with the initial value of each leaf
pub record InitialsStand (p : PlainIrProgram) (e : Env) (place : ℕ → ℕ) : Type 0 where
  pub room : (o : ℕ) (d : PlainObject) → slice_get p.objects o ≡ Some d → has_initial_bytes d.storage d.home ≡ true
      → initial_at e o + size_of_type p.structs d.ty < 65536
  pub table : (o : ℕ) (d : PlainObject) → slice_get p.objects o ≡ Some d → has_initial_bytes d.storage d.home ≡ true
      → (k : ℕ) → k < size_of_type p.structs d.ty → is_held (e.table (initial_at e o + k)) ≡ true
  pub values : (l : ObjectLeaf (data_of p) DataBank) (x : ObjectState) (u : Value)
      → slice_get (start_state (data_of p)).objects l.object ≡ Some x → leaf_of x l.number ≡ Some u
      → HoldsLeaf (data_of p) place (slice_index e.flash) (initial_at e l.object + l.at) l.bytes u

-- the stack, from an address up to its last byte: two bytes for each function that is called on any way from main, two
-- for main, and 16 more
pub record StackStands (p : PlainIrProgram) (e : Env) (low : ℕ) : Type 0 where
  pub pointer : HasStack e
  pub high : 256 ≤ low
  pub stacked : (k : ℕ) → low ≤ k → k ≤ e.address_of 1281 0 → e.kind k ≡ Stacked
  pub room : (fs : List ℕ) → CallsOn p p.main fs → low + 2 * length fs + 17 ≤ e.address_of 1281 0

-- the work bytes, and so many cells behind them, stand apart from the scratch memory of each function
pub record WorkIsLaidOut (cells : ℕ) (p : PlainIrProgram) (e : Env) (place scratch : ℕ → ℕ) : Type 0 where
  pub work : ℕ
  pub stands : WorkStands cells (data_of p) e place work
  pub apart : (f : ℕ) (g : PlainIrFunction) → slice_get p.functions f ≡ Some g
      → Apart (scratch f) (16 * g.slots) work (64 + cells)

pub record IsLaidOut (cells : ℕ) (p : PlainIrProgram) (asm : AsmProgram) (e : Env) (place scratch : ℕ → ℕ)
    (low : ℕ) : Type 0 where
  pub code : CodeStands asm e
  pub memory : ScratchIsLaidOut p e place scratch
  pub work : WorkIsLaidOut cells p e place scratch
  pub initials : InitialsStand p e place
  pub tables : TablesStand (data_of p) e place
  pub stack : StackStands p e low
  pub page : PageStands e

-- ---- the steps before main

-- 40 for each static object of the data bank, and 20 for each byte of it
abbrev pub object_steps : List PlainStruct → PlainObject → ℕ
object_steps structs d = if has_initial_bytes d.storage d.home then 40 + 20 * size_of_type structs d.ty else 0

abbrev pub start_steps : PlainIrProgram → ℕ
start_steps p = 400 + sum_by (object_steps p.structs) p.objects
