-- What a placed program keeps in the flash bank stands apart.
use Rattle.std.proofs.Common.{◌≡◌, ◌≢◌, ◌+◌, ◌%◌, ◌≤◌, ℕ, List, Some, refl, sym, ap, ◌∙◌, subst, arith}
use Rattle.std.specs.Prelude.{slice_get, option_map, unwrap_or}
use Rattle.ec_space.specs.declared.space.Bank.TheVariants.{Flash, Data}
use Rattle.ec_space.specs.declared.space.Home.TheVariants.{Data as DataHome}
use Rattle.ec_space.specs.declared.space.Place.{Place}
use Rattle.ec_space.specs.Spaces.{bank_of}
use Rattle.ec_asm.specs.declared.items.AsmProgram.{AsmProgram}
use Rattle.ec_core.specs.Plain.{PlainObject, PlainStorage, static, local, param, register, PlainProgram}
use Rattle.ec_core.specs.Valid.{Valid, IsStored}
use Rattle.ec_core.specs.declared.programs.LeafInit.{LeafInit}
use Rattle.ec_map.specs.Maps.{ValidMap}
use Rattle.ec_map.specs.declared.map.Map.{Map}
use Rattle.ec_locate.specs.declared.placing.Located.{Located}
use Rattle.ec_locate.specs.Apart.{AreFree}
use Rattle.ec_locate.specs.Code.{address_of, far_of}
use Rattle.ec_locate.specs.Entries.{flash_sizes, far_sizes, initial_sizes}
use Rattle.ec_locate.specs.Fixed.{blocks}
use Rattle.ec_locate.specs.FlashBank.{IsInFlash, FlashStands, FlashStandsApart}
use Rattle.ec_locate.specs.Initial.{IsInitialised, values_of}
use Rattle.ec_locate.specs.Placing.{IsLocated, layout_by, last_of, needs}
use Rattle.ec_locate.proofs.Addresses.{object_start}
use Rattle.ec_locate.proofs.CodeStand.{AllFit, all_fit}
use Rattle.ec_locate.proofs.InOrders.{places_free}
use Rattle.ec_locate.proofs.Objects.{is_object_at}
use Rattle.ec_locate.proofs.Stood.{Clear, by_order, es, size}
use Rattle.ec_locate.proofs.Spots.{values_in_flash, Spot, spot, spots_apart, Room, room_of}

module _ (p : PlainProgram) (m : Map) (asm : AsmProgram) (l : Located) (valid : Valid p m.io) (map_valid : ValidMap m)
    (located : IsLocated p m asm l) where
  fit : AllFit m (needs p m.io (es p m) asm.frames.items asm.items.items)
  fit = all_fit m (needs p m.io (es p m) asm.frames.items asm.items.items) located.fits

  room : flash_sizes (es p m) + initial_sizes (es p m) ≤ m.tables.size
  room = fit.tables

  far_room : far_sizes (es p m) ≤ m.far.size
  far_room = fit.far

  free : AreFree m (blocks (es p m) p.objects m.places.items)
  free = places_free m 0 (blocks (es p m) p.objects m.places.items) located.free

  -- all others are kept in the data bank
  is_static : (i : ℕ) (o : PlainObject) (q : Place) → IsInFlash p l i o q → (inits : List LeafInit) × IsInitialised p i o inits
  is_static i o q h = by_storage o.storage refl (is_object_at p m.io valid i o h.is_object).storage where
    in_flash : o.home ≡ DataHome → ⊥
    in_flash data_home = let both : Flash ≡ Data = sym h.home ∙ ap bank_of data_home in cc

    by_storage : (s : PlainStorage) → o.storage ≡ s → IsStored p o s → (inits : List LeafInit) × IsInitialised p i o inits
    by_storage (static inits) s stored = (inits, record { is_object = h.is_object; is_static = s })
    by_storage (local f) s stored = absurd (in_flash stored.1)
    by_storage (param f) s stored = absurd (in_flash stored.1)
    by_storage (register first) s stored = absurd (in_flash stored.home)

  place_is : (i : ℕ) (o : PlainObject) (q : Place) → IsInFlash p l i o q → values_of p m asm i o ≡ q.offset
  place_is i o q h =
      let placed : slice_get (layout_by p m asm).places i ≡ Some q = subst (λ ps. slice_get ps i ≡ Some q) located.places h.is_place in
      values_in_flash (layout_by p m asm) i o.home h.home ∙ ap (λ z. unwrap_or (option_map (λ r. r.offset) z) 0) placed

  spot_is : (i : ℕ) (o : PlainObject) (q : Place) → IsInFlash p l i o q → Spot p m i o q.offset
  spot_is i o q h = let s = is_static i o q h in subst (Spot p m i o) (place_is i o q h)
      (spot p m asm i o s.0 s.1)

  room_is : (i : ℕ) (o : PlainObject) (q : Place) → IsInFlash p l i o q → Room p m valid map_valid room far_room free o q.offset
  room_is i o q h =
      room_of p m valid map_valid room far_room free i o q.offset h.is_object (spot_is i o q h)

  apart : (i k : ℕ) (o x : PlainObject) (q r : Place) → i ≢ k → IsInFlash p l i o q → IsInFlash p l k x r
      → Clear q.offset (size p m o) r.offset (size p m x)
  apart i k o x q r differ a b =
      by_order i k q.offset (size p m o) r.offset (size p m x) differ
      (λ less. spots_apart p m valid map_valid room far_room free i k o x q.offset r.offset less a.is_object b.is_object
      (spot_is i o q a) (spot_is k x r b))
      (λ less. spots_apart p m valid map_valid room far_room free k i x o r.offset q.offset less b.is_object a.is_object
      (spot_is k x r b) (spot_is i o q a))

  address : (i : ℕ) (o : PlainObject) (q : Place) (k : ℕ) → IsInFlash p l i o q → k ≤ size p m o
      → address_of (layout_by p m asm) (last_of m) i k ≡ (q.offset + k) % 65536
  address i o q k h small =
      ap (λ a. (a + k) % 65536) (object_start p m asm l valid located (last_of m) i o q h.is_object h.is_place)

  far : (i : ℕ) (o : PlainObject) (q : Place) (k : ℕ) → IsInFlash p l i o q → k ≤ size p m o
      → far_of (layout_by p m asm) (last_of m) i k ≡ q.offset + k
  far i o q k h small = ap (λ a. a + k) (object_start p m asm l valid located (last_of m) i o q h.is_object h.is_place)

  pub holds : FlashStands p m asm l
  holds = record {
    objects = λ i o q h.
        let r = room_is i o q h in
        let behind = r.behind in
        let some = map_valid.regions_valid.code.some in
        (omega (arith, behind, some), r.in_home h.home);
    apart = apart;
    address = address;
    far = far;
  }

pub flash-stands-apart : FlashStandsApart
flash-stands-apart p m asm l valid map_valid asm_valid located = holds p m asm l valid map_valid located
