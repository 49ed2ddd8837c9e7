-- The homes of `home` and the objects, wherever scratch memory and objects stand.
use Rattle.std.specs.Prelude.{◌≡◌, ◌≢◌, ◌⊎◌, ℕ, ◌+◌, ◌-◌, ◌*◌, ◌%◌, ◌<◌, ◌≤◌, nat_le, ◌&&◌, if◌then◌else◌, Some, slice_get}
use Rattle.std.specs.Prelude.{slice_index}
use Rattle.ec_space.specs.declared.Core.{Core}
use Rattle.ec_space.specs.declared.Core.TheVariants.{Small, Large}
use Rattle.ec_space.specs.declared.space.Bank.TheVariants.{Flash as FlashBank, Data as DataBank}
use Rattle.ec_space.specs.declared.space.Home.{Home}
use Rattle.ec_space.specs.declared.space.Home.TheVariants.{Flash as FlashHome, Far as FarHome, Data as DataHome}
use Rattle.ec_space.specs.Spaces.{bank_of}
use Rattle.ec_asm.specs.Change.{Env, Own, Object, Page}
use Rattle.ec_core.specs.declared.values.Value.{Value}
use Rattle.ec_core.specs.Accesses.{leaf_of}
use Rattle.ec_core.specs.Layout.{size_of_type}
use Rattle.ec_core.specs.Plain.{PlainStorage, static, local, param, register, PlainObject, PlainProgram}
use Rattle.ec_core.specs.State.{ObjectState}
use Rattle.ec_ir.specs.declared.operations.Temp.{Temp}
use Rattle.ec_ir.specs.Meaning.{start_state}
use Rattle.ec_ir.specs.Operations.{PlainIrProgram}
use Rattle.ec_select_operations.specs.declared.homes.Homes.{Homes}
use Rattle.ec_select_operations.specs.Homes.{depth}
use Rattle.ec_select_operations.specs.Places.{ObjectLeaf, CanBeLiveTogether, Apart}
use Rattle.ec_select_functions.specs.Relation.{HoldsLeaf}

-- the address of a home, where scratch memory stands at an address
abbrev pub home_address : Homes → ℕ → Temp → ℕ
home_address h scratch t =
    if nat_le t.bytes h.width && nat_le (depth h t) 12 then 26 - depth h t else scratch + 16 * t.at

-- the scratch memory of so many places stands at an address, outside registers and ports, and is code's own
pub record ScratchStands (e : Env) (slots : ℕ) (h : Homes) (scratch : ℕ) : Type 0 where
  pub width : (h.width ≡ 2) ⊎ (h.width ≡ 4)
  pub high : 256 ≤ scratch
  pub at : (i : ℕ) → i < 16 * slots → e.address_of h.scratch i ≡ scratch + i
  pub kind : (i : ℕ) → i < 16 * slots → e.kind (scratch + i) ≡ Own

-- the 64 work bytes stand at an address, and the bytes of so many cells behind them, outside registers and ports. They are
-- code's own, and stand apart from the objects of the data bank
pub record WorkStands (cells : ℕ) (p : PlainProgram) (e : Env) (place : ℕ → ℕ) (work : ℕ) : Type 0 where
  pub high : 256 ≤ work
  pub at : (i : ℕ) → i < 64 + cells → e.address_of 1280 i ≡ work + i
  pub kind : (i : ℕ) → i < 64 + cells → e.kind (work + i) ≡ Own
  pub objects_apart : (o : ℕ) (d : PlainObject) → slice_get p.objects o ≡ Some d → bank_of d.home ≡ DataBank
      → Apart (place o) (size_of_type p.structs d.ty) work (64 + cells)

-- n bytes of an object stand in memory, where its accesses are noted, and its end has an address too
pub record StandsInMemory (e : Env) (o n place : ℕ) : Type 0 where
  pub high : 256 ≤ place
  pub end : place + n < 65536
  pub at : (i : ℕ) → i ≤ n → e.address_of o i ≡ place + i
  pub kind : (i : ℕ) → i < n → e.kind (place + i) ≡ Object

-- a named register stands at its number, and any other object in memory
abbrev pub ObjectStands : Env → (object n place : ℕ) → PlainStorage → Type 0
ObjectStands e o n place (register first) = (place ≡ first) × (2 ≤ first) × (first + n ≤ 8)
ObjectStands e o n place (static inits) = StandsInMemory e o n place
ObjectStands e o n place (local f) = StandsInMemory e o n place
ObjectStands e o n place (param f) = StandsInMemory e o n place

-- the objects of the data bank stand apart from one another where they can be live together, and from the scratch memory
pub record ObjectsStand (p : PlainIrProgram) (e : Env) (slots scratch : ℕ) (place : ℕ → ℕ) : Type 0 where
  pub each : (o : ℕ) (d : PlainObject) → slice_get p.objects o ≡ Some d → bank_of d.home ≡ DataBank
      → ObjectStands e o (size_of_type p.structs d.ty) (place o) d.storage
  pub apart : (o k : ℕ) (d f : PlainObject) → slice_get p.objects o ≡ Some d → bank_of d.home ≡ DataBank
      → slice_get p.objects k ≡ Some f → bank_of f.home ≡ DataBank → o ≢ k
      → CanBeLiveTogether p d.storage f.storage
      → Apart (place o) (size_of_type p.structs d.ty) (place k) (size_of_type p.structs f.ty)
  pub scratch_apart : (o : ℕ) (d : PlainObject) → slice_get p.objects o ≡ Some d → bank_of d.home ≡ DataBank
      → Apart (place o) (size_of_type p.structs d.ty) scratch (16 * slots)

-- One past the greatest address of a byte or an end of objects of a home: past the first 65,536 bytes of its bank none but
-- those of the home far have any, and only where the flash of the core goes on there
abbrev pub address_end : Core → Home → ℕ
address_end Small home = 65536
address_end Large FlashHome = 65536
address_end Large FarHome = 131_072
address_end Large DataHome = 65536

-- n bytes of an object of a home stand in flash, but not at address 0, and its end has an address too. The code has the
-- low two bytes of an address, and on the core `large` the whole address
pub record StandsInFlash (e : Env) (home : Home) (o n place : ℕ) : Type 0 where
  pub some : 0 < place
  pub end : place + n < address_end e.core home
  pub at : (i : ℕ) → i ≤ n → e.address_of o i ≡ (place + i) % 65536
  pub far : e.core ≡ Large → (i : ℕ) → i ≤ n → e.far_of o i ≡ place + i
  pub kind : (i : ℕ) → i < n → e.table (place + i) ≡ Object

-- code may write RAMPZ, where the core has it
abbrev pub PageStands : Env → Type 0
PageStands e = e.core ≡ Large → e.kind 0x5B ≡ Page

-- the objects of the flash bank stand apart from one another, with their initial values, and the flash holds bytes
pub record TablesStand (p : PlainProgram) (e : Env) (place : ℕ → ℕ) : Type 0 where
  pub bytes : (k : ℕ) → slice_index e.flash k < 256
  pub each : (o : ℕ) (d : PlainObject) → slice_get p.objects o ≡ Some d → bank_of d.home ≡ FlashBank
      → StandsInFlash e d.home o (size_of_type p.structs d.ty) (place o)
  pub apart : (o k : ℕ) (d f : PlainObject) → slice_get p.objects o ≡ Some d → bank_of d.home ≡ FlashBank
      → slice_get p.objects k ≡ Some f → bank_of f.home ≡ FlashBank → o ≢ k
      → Apart (place o) (size_of_type p.structs d.ty) (place k) (size_of_type p.structs f.ty)
  pub values : (l : ObjectLeaf p FlashBank) (x : ObjectState) (u : Value)
      → slice_get (start_state p).objects l.object ≡ Some x → leaf_of x l.number ≡ Some u
      → HoldsLeaf p place (slice_index e.flash) (place l.object + l.at) l.bytes u
