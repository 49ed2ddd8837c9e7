-- What a placed program keeps in the data bank, by the numbers of its items, stands apart.
use Rattle.std.specs.Prelude.{ℕ, ◌≡◌, ◌≢◌, ◌⊎◌, ◌+◌, ◌<◌, ◌≤◌, Some, length, slice_get, IsSomeAnd}
use Rattle.ec_space.specs.Memory.{data_size}
use Rattle.ec_space.specs.declared.Core.{Core}
use Rattle.ec_space.specs.declared.space.Bank.TheVariants.{Data}
use Rattle.ec_space.specs.Spaces.{bank_of}
use Rattle.ec_space.specs.declared.space.Place.{Place}
use Rattle.ec_asm.specs.Valid.{ValidAsm}
use Rattle.ec_asm.specs.declared.items.AsmProgram.{AsmProgram}
use Rattle.ec_check_recursion.specs.Rows.{rows_of_program}
use Rattle.ec_core.specs.Layout.{size_of_type}
use Rattle.ec_core.specs.Plain.{PlainStorage, static, local, param, register, PlainObject, PlainProgram}
use Rattle.ec_core.specs.Valid.{Valid}
use Rattle.ec_map.specs.Maps.{ValidMap}
use Rattle.ec_map.specs.Regions.{end_of}
use Rattle.ec_map.specs.declared.map.Map.{Map}
use Rattle.ec_overlay.specs.Objects.{AreOnChain}
use Rattle.ec_locate.specs.Code.{address_of}
use Rattle.ec_locate.specs.Entries.{frame_size, work_size}
use Rattle.ec_locate.specs.Placing.{IsLocated, object_sizes, layout_by, last_of}
use Rattle.ec_locate.specs.declared.placing.Located.{Located}

-- a parameter or a local of f
abbrev pub IsOwnedBy : (f : ℕ) → PlainStorage → Type 0
IsOwnedBy f (static inits) = ⊥
IsOwnedBy f (local g) = g ≡ f
IsOwnedBy f (param g) = g ≡ f
IsOwnedBy f (register first) = ⊥

-- a number names so many bytes from a data address on: an object, the scratch memory of a function, or the work bytes
pub data Names (p : PlainProgram) (m : Map) (asm : AsmProgram) (l : Located) : (number at size : ℕ) → Type 0 where
  an_object : (i : ℕ) (o : PlainObject) (q : Place) → slice_get p.objects i ≡ Some o → bank_of o.home ≡ Data
      → slice_get l.places.items i ≡ Some q → Names p m asm l i q.offset (size_of_type p.structs o.ty)
  scratch : (f frame at : ℕ) → slice_get asm.frames.items f ≡ Some frame → slice_get l.frames.items f ≡ Some at
      → Names p m asm l (1024 + f) at (frame_size frame)
  work : Names p m asm l 1280 l.work (work_size m.io)

-- object i is a parameter or a local of f
abbrev pub IsLocalOf : PlainProgram → (f i : ℕ) → Type 0
IsLocalOf p f i = IsSomeAnd (slice_get p.objects i) (λ o. IsOwnedBy f o.storage)

-- What two numbers name can be live at one moment: all but the parameters and locals, and the scratch memory, of two
-- functions that stand on no chain of calls
pub record CanBeLive (p : PlainProgram) (n k : ℕ) : Type 0 where
  pub locals : (f g : ℕ) → IsLocalOf p f n → IsLocalOf p g k → AreOnChain (rows_of_program p) f g
  pub scratch : (f g : ℕ) → f < length p.functions → g < length p.functions → n ≡ 1024 + f → k ≡ 1024 + g
      → AreOnChain (rows_of_program p) f g

-- in the SRAM of a core
abbrev pub IsInMemory : Core → (at size : ℕ) → Type 0
IsInMemory core at size = (256 ≤ at) × (at + size ≤ data_size core)

-- a named register stands in its registers, and any other object in memory
abbrev pub StandsIn : Core → PlainStorage → (at size : ℕ) → Type 0
StandsIn core (static inits) at size = IsInMemory core at size
StandsIn core (local f) at size = IsInMemory core at size
StandsIn core (param f) at size = IsInMemory core at size
StandsIn core (register first) at size = (at ≡ first) × (2 ≤ first) × (first + size ≤ 8)

-- What different numbers name stands apart, where it can be live at one moment, and apart from the stack. It stands in
-- memory, or in registers, and the address of each byte, and of the end, is the one that the code has
pub record DataStands (p : PlainProgram) (m : Map) (asm : AsmProgram) (l : Located) : Type 0 where
  pub apart : (n k at to size many : ℕ) → n ≢ k → CanBeLive p n k → Names p m asm l n at size
      → Names p m asm l k to many → (at + size ≤ to) ⊎ (to + many ≤ at)
  pub stack : (n at size : ℕ) → Names p m asm l n at size → (at + size ≤ m.stack.first) ⊎ (end_of m.stack ≤ at)
  pub objects : (i : ℕ) (o : PlainObject) (q : Place) → slice_get p.objects i ≡ Some o → bank_of o.home ≡ Data
      → slice_get l.places.items i ≡ Some q → StandsIn m.core o.storage q.offset (size_of_type p.structs o.ty)
  pub frames : (f frame at : ℕ) → slice_get asm.frames.items f ≡ Some frame → slice_get l.frames.items f ≡ Some at
      → IsInMemory m.core at (frame_size frame)
  pub work : IsInMemory m.core l.work (work_size m.io)
  pub address : (n at size i : ℕ) → Names p m asm l n at size → i ≤ size
      → address_of (layout_by p m asm) (last_of m) n i ≡ at + i

abbrev pub DataStandsApart : Type 0
DataStandsApart =
    (p : PlainProgram) (m : Map) (asm : AsmProgram) (l : Located) → Valid p m.io → ValidMap m
    → ValidAsm (object_sizes p) (work_size m.io) asm → IsLocated p m asm l → DataStands p m asm l
