-- What a placed program keeps in the flash bank, by the numbers of its objects, stands apart.
use Rattle.std.specs.Prelude.{ℕ, ◌≡◌, ◌≢◌, ◌⊎◌, ◌+◌, ◌%◌, ◌<◌, ◌≤◌, Some, slice_get}
use Rattle.ec_space.specs.declared.space.Bank.TheVariants.{Flash}
use Rattle.ec_space.specs.Spaces.{bank_of}
use Rattle.ec_space.specs.declared.space.Place.{Place}
use Rattle.ec_asm.specs.Valid.{ValidAsm}
use Rattle.ec_asm.specs.declared.items.AsmProgram.{AsmProgram}
use Rattle.ec_core.specs.Layout.{size_of_type}
use Rattle.ec_core.specs.Plain.{PlainObject, PlainProgram}
use Rattle.ec_core.specs.Valid.{Valid}
use Rattle.ec_map.specs.Cores.{home_end}
use Rattle.ec_map.specs.Maps.{ValidMap}
use Rattle.ec_map.specs.declared.map.Map.{Map}
use Rattle.ec_locate.specs.Code.{address_of, far_of}
use Rattle.ec_locate.specs.Entries.{work_size}
use Rattle.ec_locate.specs.Placing.{IsLocated, object_sizes, layout_by, last_of}
use Rattle.ec_locate.specs.declared.placing.Located.{Located}

-- object i is kept in the flash bank, at a place
pub record IsInFlash (p : PlainProgram) (l : Located) (i : ℕ) (o : PlainObject) (q : Place) : Type 0 where
  pub is_object : slice_get p.objects i ≡ Some o
  pub home : bank_of o.home ≡ Flash
  pub is_place : slice_get l.places.items i ≡ Some q

-- Different objects stand apart, in the flash of the core as far as those of their homes can stand there, but not at address
-- 0. The address of each byte, and of the end, is the one that the code has, and by its low two bytes the one modulo 65,536
pub record FlashStands (p : PlainProgram) (m : Map) (asm : AsmProgram) (l : Located) : Type 0 where
  pub objects : (i : ℕ) (o : PlainObject) (q : Place) → IsInFlash p l i o q
      → (0 < q.offset) × (q.offset + size_of_type p.structs o.ty ≤ home_end o.home m.core)
  pub apart : (i k : ℕ) (o x : PlainObject) (q r : Place) → i ≢ k → IsInFlash p l i o q → IsInFlash p l k x r
      → (q.offset + size_of_type p.structs o.ty ≤ r.offset) ⊎ (r.offset + size_of_type p.structs x.ty ≤ q.offset)
  pub address : (i : ℕ) (o : PlainObject) (q : Place) (k : ℕ) → IsInFlash p l i o q → k ≤ size_of_type p.structs o.ty
      → address_of (layout_by p m asm) (last_of m) i k ≡ (q.offset + k) % 65536
  pub far : (i : ℕ) (o : PlainObject) (q : Place) (k : ℕ) → IsInFlash p l i o q → k ≤ size_of_type p.structs o.ty
      → far_of (layout_by p m asm) (last_of m) i k ≡ q.offset + k

abbrev pub FlashStandsApart : Type 0
FlashStandsApart =
    (p : PlainProgram) (m : Map) (asm : AsmProgram) (l : Located) → Valid p m.io → ValidMap m
    → ValidAsm (object_sizes p) (work_size m.io) asm → IsLocated p m asm l → FlashStands p m asm l
