-- The initial values of a placed program stand in its image, and nothing else is written there but the code.
use Rattle.std.proofs.Common.{◌≡◌, inl, inr, ⊎_elim, ◌+◌, ◌-◌, ◌*◌, ◌<◌, ◌≤◌, ℕ, Bool, true, false, List, length}
use Rattle.std.proofs.Common.{get_or, zero-add, add-zero, Some, sym, ap, ◌∙◌, subst, arith}
use Rattle.std.specs.Prelude.{slice_get}
use Rattle.std.proofs.lemmas.Bool.{cases_lt}
use Rattle.std.proofs.lemmas.List.{length-replicate, get_or-replicate}
use Rattle.std.proofs.lemmas.Option.{slice_get-get_or}
use Rattle.ec_space.specs.Memory.{flash_size as size_of_flash}
use Rattle.ec_space.specs.Bytes.{little_endian}
use Rattle.ec_space.specs.declared.space.Home.TheVariants.{Flash as FlashHome, Data as DataHome}
use Rattle.ec_asm.specs.Items.{code_words}
use Rattle.ec_asm.specs.Placed.{code_image, HoldsFrom}
use Rattle.ec_asm.specs.declared.items.AsmProgram.{AsmProgram}
use Rattle.ec_core.specs.Layout.{scalar_size, size_of_type, leaves_of_type}
use Rattle.ec_core.specs.Plain.{PlainObject, PlainProgram}
use Rattle.ec_core.specs.TypeLaws.{HasLeaves, LeavesFillTheirTypes}
use Rattle.ec_core.specs.Valid.{Valid, IsObject, IsStored, AreInitialValues}
use Rattle.ec_core.specs.declared.programs.LeafInit.{LeafInit}
use Rattle.ec_map.specs.Cores.{home_end}
use Rattle.ec_map.specs.Maps.{ValidMap}
use Rattle.ec_map.specs.declared.map.Map.{Map}
use Rattle.ec_locate.specs.declared.placing.Located.{Located}
use Rattle.ec_locate.specs.Apart.{AreFree}
use Rattle.ec_locate.specs.Code.{resolved}
use Rattle.ec_locate.specs.Entries.{flash_sizes, far_sizes, initial_sizes}
use Rattle.ec_locate.specs.Fixed.{blocks}
use Rattle.ec_locate.specs.Image.{FlashView, flash_of, value_number, object_bytes, with_bytes, with_objects, blank}
use Rattle.ec_locate.specs.Initial.{IsInitialised, values_of, ValuesStand, IsPut, of_code, of_values, InitialValues, InitialValuesStand}
use Rattle.ec_locate.specs.Layout.{LayoutView}
use Rattle.ec_locate.specs.Placing.{IsLocated, entries_by, layout_by, last_of, needs}
use Rattle.ec_locate.proofs.CodeStand.{AllFit, all_fit}
use Rattle.ec_locate.proofs.InOrders.{places_free}
use Rattle.ec_locate.proofs.Objects.{is_object_at}
use Rattle.ec_locate.proofs.Stood.{Clear}
use Rattle.ec_locate.proofs.Spots.{Spot, spot, spots_apart, room_of}
use Rattle.ec_locate.proofs.Stand.{length_image}
use Rattle.ec_locate.proofs.Written.{at_index, leaf_length, leaf_stands, Misses, Avoids, IsByte, bytes_of, bytes_outside, bytes_inside}
use Rattle.ec_locate.proofs.Written.{objects_length, objects_outside, objects_inside}

module _ (p : PlainProgram) (m : Map) (asm : AsmProgram) (l : Located) (laws : LeavesFillTheirTypes) (valid : Valid p m.io)
    (map_valid : ValidMap m) (located : IsLocated p m asm l) where
  abbrev y : LayoutView
  y = layout_by p m asm

  abbrev items : ℕ
  items = 2 * code_words asm.items.items

  abbrev code : List ℕ
  code = code_image (resolved asm.items.items y (last_of m)) asm.items.items

  abbrev objects : FlashView
  objects = with_objects p.structs y 0 p.objects (blank m.core)

  abbrev bytes : PlainObject → List LeafInit → List ℕ
  bytes o inits = bytes_of p.structs y o inits

  abbrev at_of : ℕ → PlainObject → ℕ
  at_of i o = values_of p m asm i o

  abbrev size : PlainObject → ℕ
  size o = size_of_type p.structs o.ty

  code_length : length code ≡ items
  code_length = length_image (resolved asm.items.items y (last_of m)) asm.items.items

  -- ---- an object and its bytes

  is_object : (i : ℕ) (o : PlainObject) (inits : List LeafInit) → IsInitialised p i o inits → IsObject p o
  is_object i o inits h = is_object_at p m.io valid i o h.is_object

  has_values : (i : ℕ) (o : PlainObject) (inits : List LeafInit) → IsInitialised p i o inits
      → AreInitialValues p (leaves_of_type p.structs o.ty) inits
  has_values i o inits h = subst (λ s. IsStored p o s) h.is_static (is_object i o inits h).storage

  has_leaves : (i : ℕ) (o : PlainObject) (inits : List LeafInit) → IsInitialised p i o inits → HasLeaves p.structs o.ty
  has_leaves i o inits h = laws.types p.structs o.ty valid.structs (is_object i o inits h).ty

  whole : (inits : List LeafInit) (k : ℕ) → slice_get inits (0 + k) ≡ slice_get inits k
  whole inits k = ap (slice_get inits) (zero-add k)

  sized : (i : ℕ) (o : PlainObject) (inits : List LeafInit) → IsInitialised p i o inits → length (bytes o inits) ≡ size o
  sized i o inits h =
      let n = leaf_length p y.places 0 (size o) 0 (leaves_of_type p.structs o.ty) inits inits (has_leaves i o inits h).filled
      (has_values i o inits h) (whole inits) in
      omega (arith, n)

  -- ---- the spots

  fit : AllFit m (needs p m.io (entries_by m p) asm.frames.items asm.items.items)
  fit = all_fit m (needs p m.io (entries_by m p) asm.frames.items asm.items.items) located.fits

  room : flash_sizes (entries_by m p) + initial_sizes (entries_by m p) ≤ m.tables.size
  room = fit.tables

  far_room : far_sizes (entries_by m p) ≤ m.far.size
  far_room = fit.far

  free : AreFree m (blocks (entries_by m p) p.objects m.places.items)
  free = places_free m 0 (blocks (entries_by m p) p.objects m.places.items) located.free

  code_room : items ≤ m.code.size
  code_room = fit.code

  spot_of : (i : ℕ) (o : PlainObject) (inits : List LeafInit) → IsInitialised p i o inits → Spot p m i o (at_of i o)
  spot_of i o inits h = spot p m asm i o inits h

  in_flash : (i : ℕ) (o : PlainObject) (inits : List LeafInit) → IsInitialised p i o inits
      → (items ≤ at_of i o) × (at_of i o + size o ≤ size_of_flash m.core)
  in_flash i o inits h =
      let r = room_of p m valid map_valid room far_room free i o (at_of i o) h.is_object (spot_of i o inits h) in
      let behind = r.behind in
      (omega (arith, behind, code_room), r.within)

  ends_low : (i : ℕ) (o : PlainObject) (inits : List LeafInit) → IsInitialised p i o inits → o.home ≡ DataHome
      → at_of i o + size o ≤ home_end FlashHome m.core
  ends_low i o inits h of_data =
      (room_of p m valid map_valid room far_room free i o (at_of i o) h.is_object (spot_of i o inits h)).in_tables of_data

  -- the bytes of an object are none of another one's
  apart : (i k : ℕ) (o x : PlainObject) (a b : List LeafInit) → i < k → IsInitialised p i o a → IsInitialised p k x b
      → (t : ℕ) → t < size o → Misses (at_of i o + t) (at_of k x) (length (bytes x b))
  apart i k o x a b less h g t within =
      let n = sized k x b g in
      let c : Clear (at_of i o) (size o) (at_of k x) (size x) = spots_apart p m valid map_valid room far_room free i k o x (at_of i o)
      (at_of k x) less h.is_object g.is_object (spot_of i o a h) (spot_of k x b g) in
      ⊎_elim (λ u. inl (omega (arith, u, within))) (λ u. inr (omega (arith, u, n))) c

  -- ---- what the image holds

  final : flash_of l.image ≡ with_bytes objects 0 code
  final = located.flash

  blank_lengths : (length objects.bytes ≡ size_of_flash m.core) × (length objects.written ≡ size_of_flash m.core)
  blank_lengths =
      let n = objects_length p.structs y 0 p.objects (blank m.core) in
      (n.0 ∙ length-replicate {A = ℕ} (size_of_flash m.core) 255, n.1 ∙ length-replicate {A = Bool} (size_of_flash m.core) false)

  -- behind the code the objects' bytes stay
  stays : (a : ℕ) → items ≤ a
      → (get_or l.image.bytes.items a 0 ≡ get_or objects.bytes a 0)
      × (get_or l.image.written.items a false ≡ get_or objects.written a false)
  stays a behind =
      let far : Misses a 0 (length code) = inr (omega (arith, behind, code_length)) in
      let same = bytes_outside p.structs y objects 0 code a far in
      (ap (λ f. get_or f.bytes a 0) final ∙ same.0, ap (λ f. get_or f.written a false) final ∙ same.1)

  byte_there : (i : ℕ) (o : PlainObject) (inits : List LeafInit) → IsInitialised p i o inits → (t : ℕ) → t < size o
      → (get_or l.image.bytes.items (at_of i o + t) 0 ≡ get_or (bytes o inits) t 0)
      × (get_or l.image.written.items (at_of i o + t) false ≡ true)
  byte_there i o inits h t less =
      let n = sized i o inits h in
      let f = in_flash i o inits h in
      let z : 0 + i ≡ i = zero-add i in
      let b = length-replicate {A = ℕ} (size_of_flash m.core) 255 in
      let w = length-replicate {A = Bool} (size_of_flash m.core) false in
      let inside : IsByte p.structs y objects (at_of (0 + i) o + t) (get_or (bytes o inits) t 0) =
      objects_inside p.structs y 0 p.objects (blank m.core) i o inits t h.is_object h.is_static
      (subst (λ j. at_of j o + length (bytes o inits) ≤ length (blank m.core).bytes) (sym z) (omega (arith, n, f.1, b)))
      (subst (λ j. at_of j o + length (bytes o inits) ≤ length (blank m.core).written) (sym z) (omega (arith, n, f.1, w)))
      (omega (arith, n, less))
      (λ k x b later q s.
      subst (λ j. Misses (at_of j o + t) (at_of (0 + k) x) (length (bytes x b))) (sym z)
      (subst (λ j. Misses (at_of i o + t) (at_of j x) (length (bytes x b))) (sym (zero-add k))
      (apart i k o x inits b later h (record { is_object = q; is_static = s }) t less))) in
      let here : IsByte p.structs y objects (at_of i o + t) (get_or (bytes o inits) t 0) =
      subst (λ j. IsByte p.structs y objects (at_of j o + t) (get_or (bytes o inits) t 0)) z inside in
      let stay = stays (at_of i o + t) (omega (arith, f.0)) in
      (stay.0 ∙ here.0, stay.1 ∙ here.1)

  image_length : length l.image.bytes.items ≡ size_of_flash m.core
  image_length = l.image.sized ∙ ap size_of_flash located.core

  written_length : length l.image.written.items ≡ size_of_flash m.core
  written_length = l.image.flagged ∙ ap size_of_flash located.core

  values_stand : (i : ℕ) (o : PlainObject) (inits : List LeafInit) → IsInitialised p i o inits
      → HoldsFrom l.image.bytes.items (at_of i o) (bytes o inits)
  values_stand i o inits h =
      let n = sized i o inits h in
      let f = in_flash i o inits h in
      record {
        within = omega (arith, n, f.1, image_length);
        bytes_there = λ t less. (byte_there i o inits h t (omega (arith, n, less))).0;
      }

  values : (i : ℕ) (o : PlainObject) (inits : List LeafInit) → IsInitialised p i o inits → ValuesStand p m asm l i o inits
  values i o inits h =
      let q = sym located.places in
      let row : HoldsFrom l.image.bytes.items (at_of i o + 0) (bytes o inits) =
      at_index l.image.bytes.items (at_of i o) (at_of i o + 0) (bytes o inits) (sym (add-zero (at_of i o))) (values_stand i o inits h) in
      record {
        size = subst (λ ps. length (object_bytes ps p.structs o.ty inits) ≡ size o) q (sized i o inits h);
        stand = subst (λ ps. HoldsFrom l.image.bytes.items (at_of i o) (object_bytes ps p.structs o.ty inits)) q (values_stand i o inits h);
        each = λ k leaf init is has.
            subst (λ ps.
            HoldsFrom l.image.bytes.items (at_of i o + leaf.at) (little_endian (scalar_size leaf.ty) (value_number ps leaf.ty init))) q
            (leaf_stands p y.places l.image.bytes.items (at_of i o) 0 (size o) 0 (leaves_of_type p.structs o.ty) inits inits
            (has_leaves i o inits h).filled (has_values i o inits h) (whole inits) row k leaf init is has);
        ends = ends_low i o inits h;
      }

  -- ---- what is written

  is_read : (a : ℕ) (b : Bool) → a < size_of_flash m.core → get_or l.image.written.items a false ≡ b → slice_get l.image.written.items a ≡ Some b
  is_read a b less h = slice_get-get_or l.image.written.items a false (omega (arith, less, written_length)) ∙ ap (λ x. Some x) h

  written : (a : ℕ) → IsPut p m asm a → slice_get l.image.written.items a ≡ Some true
  written a (of_code _ less) =
      let n = code_length in
      let start = map_valid.regions_valid.start in
      let ends = map_valid.regions_valid.code.ends in
      let z : 0 + a ≡ a = zero-add a in
      let b = bytes_inside p.structs y objects 0 code a (omega (arith, n, code_room, start, ends, blank_lengths.0))
      (omega (arith, n, code_room, start, ends, blank_lengths.1)) (omega (arith, n, less)) in
      let there = subst (λ j. get_or (with_bytes objects 0 code).written j false ≡ true) z b.1 in
      is_read a true (omega (arith, less, code_room, start, ends)) (ap (λ f. get_or f.written a false) final ∙ there)
  written a (of_values _ i o inits h from below) =
      let t = a - at_of i o in
      let q : at_of i o + t ≡ a = omega (arith, from) in
      let b = byte_there i o inits h t (omega (arith, from, below)) in
      let f = in_flash i o inits h in
      is_read a true (omega (arith, below, f.1)) (subst (λ j. get_or l.image.written.items j false ≡ true) q b.1)

  unwritten : (a : ℕ) → a < size_of_flash m.core → ¬ IsPut p m asm a → slice_get l.image.written.items a ≡ Some false
  unwritten a less never =
      let behind : items ≤ a = ⊎_elim (λ u. absurd (never (of_code a u))) (λ u. u) (cases_lt a items) in
      let avoid : Avoids p.structs y 0 0 p.objects a = λ k x inits first q s.
      subst (λ j. Misses a (at_of j x) (length (bytes x inits))) (sym (zero-add k))
      (misses k x inits (record { is_object = q; is_static = s })) in
      let out = objects_outside p.structs y 0 p.objects (blank m.core) a avoid in
      let erased = get_or-replicate (size_of_flash m.core) a false false less in
      is_read a false less ((stays a behind).1 ∙ out.1 ∙ erased)
    where
      misses : (k : ℕ) (x : PlainObject) (inits : List LeafInit) → IsInitialised p k x inits → Misses a (at_of k x) (length (bytes x inits))
      misses k x inits h =
          let n = sized k x inits h in
          ⊎_elim (λ u. inl u)
          (λ from. ⊎_elim (λ below. absurd (never (of_values a k x inits h from below))) (λ u. inr (omega (arith, n, u)))
          (cases_lt a (at_of k x + size x)))
          (cases_lt a (at_of k x))

  pub holds : InitialValues p m asm l
  holds = record { values = values; written = written; unwritten = unwritten }

pub initial-values-stand : LeavesFillTheirTypes → InitialValuesStand
initial-values-stand laws p m asm l valid map_valid located = holds p m asm l laws valid map_valid located
