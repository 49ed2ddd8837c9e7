-- Pointers as numbers: addresses in objects, which stand apart.
use Rattle.std.proofs.Common.{◌≡◌, ◌≢◌, ℕ, zero, suc, ◌+◌, ◌-◌, ◌*◌, ◌/◌, ◌%◌, ◌^◌, ◌<◌, ◌≤◌, ◌⊎◌, inl, inr, ⊎_elim}
use Rattle.std.proofs.Common.{Bool, true, false, ◌&&◌, ℤ, pos, negsuc, neg_ℤ, ◌+ℤ◌, ◌-ℤ◌, ◌*ℤ◌, unsigned_abs, List}
use Rattle.std.proofs.Common.{[], ◌∷◌}
use Rattle.std.proofs.Common.{Option, Some, None, Ok, Err, refl, sym, ap, ◌∙◌, subst, arith, leb-true, leb-false}
use Rattle.std.specs.Prelude.{⊤, ◌==◌, not, nat_le, nat_lt, int_le, if◌then◌else◌, Result, slice_get, unwrap_or}
use Rattle.std.specs.Prelude.{option_map, option_and_then, cond}
use Rattle.std.specs.List.{AllByRecursion}
use Rattle.std.specs.Int.{from_bool}
use Rattle.std.specs.Ordering.{int_eq, nat_cmp}
use Rattle.std.specs.declared.cmp.Ordering.TheVariants.{Less, Equal, Greater}
use Rattle.std.proofs.lemmas.Int.{ints}
use Rattle.std.proofs.lemmas.Bool.{cases_Bool, cases_lt, cases_eq, eq-eqb, ne_eqb, eqb-true, lt-ltb, and_parts}
use Rattle.std.proofs.lemmas.Bool.Decides.{nat_tests}
use Rattle.std.proofs.lemmas.Nat.{div-add-mod', mul-le, mul-mod_first, mul-mod_second}
use Rattle.ec_space.specs.declared.Core.{Core}
use Rattle.ec_space.specs.declared.Core.TheVariants.{Small, Large}
use Rattle.ec_space.specs.declared.space.Bank.{Bank}
use Rattle.ec_space.specs.declared.space.Bank.TheVariants.{Flash as FlashBank, Data as DataBank}
use Rattle.ec_space.specs.declared.space.Home.{Home}
use Rattle.ec_space.specs.declared.space.Home.TheVariants.{Flash as FlashHome, Far as FarHome, Data as DataHome}
use Rattle.ec_space.specs.declared.space.SpaceId.{SpaceId}
use Rattle.ec_space.specs.declared.space.SpaceId.TheVariants.{Flash, FarFlash, Data, Generic}
use Rattle.ec_space.specs.Spaces.{bank_of, holds, reaches, width}
use Rattle.ec_asm.specs.Change.{Env}
use Rattle.ec_core.specs.declared.expressions.BinOp.{BinOp}
use Rattle.ec_core.specs.declared.expressions.BinOp.TheVariants.{Lt, Gt, Le, Ge, Eq, Ne}
use Rattle.ec_core.specs.declared.values.ObjectPointer.{ObjectPointer}
use Rattle.ec_core.specs.declared.values.Referent.{Referent}
use Rattle.ec_core.specs.declared.values.Undefined.{Undefined}
use Rattle.ec_core.specs.declared.values.Undefined.TheVariants.{Unrelated, PointerRange, Narrowing}
use Rattle.ec_core.specs.Accesses.{referent_of, is_live_in}
use Rattle.ec_core.specs.ArithmeticValues.{is_comparison}
use Rattle.ec_core.specs.Integers.{truth, accepts, compared}
use Rattle.ec_core.specs.Layout.{size_of_type, IsIntegerSize}
use Rattle.ec_core.specs.Plain.{PlainType, pointer, PlainStorage, static, local, param, register, PlainObject}
use Rattle.ec_core.specs.Plain.{PlainProgram}
use Rattle.ec_core.specs.Pointers.{Pointer as PointerValue, is_usable, used, displaced, moved, same_instance}
use Rattle.ec_core.specs.Pointers.{in_elements, elements_between, difference_of_pointers, is_at_end, apart, equality}
use Rattle.ec_core.specs.Pointers.{ordered, as_truth, compared_pointers, comparison_of_pointers, pointer_in_space}
use Rattle.ec_core.specs.State.{State, ObjectState}
use Rattle.ec_core.specs.Valid.{IsObject, IsAddressable}
use Rattle.ec_core.proofs.Homes.{home_reached}
use Rattle.ec_ir.specs.Temporaries.{is_in_space, low_bytes, number_of_bytes}
use Rattle.ec_select_bytes.specs.Values.{fill_of}
use Rattle.ec_select_order.specs.declared.relations.Relation.TheVariants.{Less as IsBelow, NotLess, Equal as IsSame}
use Rattle.ec_select_order.specs.declared.relations.Relation.TheVariants.{NotEqual}
use Rattle.ec_select_places.specs.Numbers.{Place, number_of, IsPlace, same_place, is_before, places_stand}
use Rattle.ec_select_places.specs.Numbers.Place.{Null, At}
use Rattle.ec_select_places.specs.StepLaws.{index_of, moved_by}
use Rattle.ec_select_places.specs.FarLaws.{IsFarPlace, InOneBank, extended, far_moved_by}
use Rattle.ec_select_places.specs.DistanceLaws.{signed_number, IsFrom}
use Rattle.ec_select_places.specs.Conversions.{embedded}
use Rattle.ec_select_operations.specs.Code.{is_far, known_index, known_offset}
use Rattle.ec_select_operations.specs.Places.{Apart}
use Rattle.ec_select_operations.specs.Pointers.{home_of, tag_of, address_number, IsPointed, IsPointerIn, IsPointerSize}
use Rattle.ec_select_operations.specs.Pointers.{is_into_data}
use Rattle.ec_select_functions.specs.Standing.{StandsInMemory, ObjectStands, TablesStand, address_end}
use Rattle.ec_select_functions.proofs.Wrapped.{Lifts, low_of, lifts_number, low_below, low_part, kept_below}

-- ---- where objects stand

-- where addresses end on the core `small`, of what two-byte pointers point to, and on both cores
pub small_end : (core : Core) (home : Home) → core ≡ Small → address_end core home ≡ 65536
small_end Small home h = refl
small_end Large home h = cc

pub data_end : (core : Core) (home : Home) → bank_of home ≡ DataBank → address_end core home ≡ 65536
data_end core FlashHome h = cc
data_end core FarHome h = cc
data_end Small DataHome h = refl
data_end Large DataHome h = refl

pub near_end : (core : Core) (space : SpaceId) (home : Home) → width space ≡ 2 → holds space home ≡ true → address_end core home ≡ 65536
near_end Small space home w h = refl
near_end Large Flash FlashHome w h = refl
near_end Large Flash FarHome w h = cc
near_end Large Flash DataHome w h = cc
near_end Large Data FlashHome w h = cc
near_end Large Data FarHome w h = cc
near_end Large Data DataHome w h = refl
near_end Large FarFlash home w h = cc
near_end Large Generic home w h = cc

pub greatest_end : (core : Core) (home : Home) → address_end core home ≤ 131_072
greatest_end Small home = omega arith
greatest_end Large FlashHome = omega arith
greatest_end Large FarHome = omega arith
greatest_end Large DataHome = omega arith

-- Each object has a byte, and at most 32,767. One that has an address stands above 0, and its end where that of an object of
-- its home can be on the core
pub record HavePlaces (p : PlainProgram) (place : ℕ → ℕ) : Type 0 where
  pub core : Core
  pub some : (o : ℕ) (d : PlainObject) → slice_get p.objects o ≡ Some d → 1 ≤ size_of_type p.structs d.ty
  pub small : (o : ℕ) (d : PlainObject) → slice_get p.objects o ≡ Some d → size_of_type p.structs d.ty ≤ 32_767
  pub low : (o : ℕ) (d : PlainObject) → slice_get p.objects o ≡ Some d → IsAddressable d.storage → 0 < place o
  pub high : (o : ℕ) (d : PlainObject) → slice_get p.objects o ≡ Some d → IsAddressable d.storage
      → place o + size_of_type p.structs d.ty < address_end core d.home

-- those of a bank that are live at one moment stand apart
abbrev pub AreApartIn : (p : PlainProgram) (place : ℕ → ℕ) → State → Type 0
AreApartIn p place s =
    (o k : ℕ) (d f : PlainObject) (x z : ObjectState) → slice_get p.objects o ≡ Some d → slice_get p.objects k ≡ Some f
    → slice_get s.objects o ≡ Some x → slice_get s.objects k ≡ Some z → x.live ≡ true → z.live ≡ true → bank_of d.home ≡ bank_of f.home → o ≢ k
    → Apart (place o) (size_of_type p.structs d.ty) (place k) (size_of_type p.structs f.ty)

item_of : {A : Type 0} (P : A → Type 0) (xs : List A) (k : ℕ) (x : A) → AllByRecursion P xs → slice_get xs k ≡ Some x → P x
item_of P [] k x h q = absurd cc
item_of P (z ∷ xs) zero x h q = let e : z ≡ x = cc in subst P e h.0
item_of P (z ∷ xs) (suc k) x h q = item_of P xs k x h.1 q

-- an object with an address stands in memory
in_memory : (e : Env) (o n place : ℕ) (s : PlainStorage) → IsAddressable s → ObjectStands e o n place s → StandsInMemory e o n place
in_memory e o n place (static inits) a h = h
in_memory e o n place (local f) a h = h
in_memory e o n place (param f) a h = h
in_memory e o n place (register first) a h = absurd a

pub objects_have_places : (p : PlainProgram) (e : Env) (place : ℕ → ℕ)
    → ((k : ℕ) (d : PlainObject) → slice_get p.objects k ≡ Some d → bank_of d.home ≡ DataBank
    → ObjectStands e k (size_of_type p.structs d.ty) (place k) d.storage)
    → TablesStand p e place → AllByRecursion (IsObject p) p.objects → HavePlaces p place
objects_have_places p e place each t valid = record {
  core = e.core;
  some = λ k d q. (item_of (IsObject p) p.objects k d valid q).some;
  small = λ k d q. (item_of (IsObject p) p.objects k d valid q).small;
  low = λ k d q a. low_in k d q a (bank_of d.home) refl;
  high = λ k d q a. high_in k d q a (bank_of d.home) refl;
}
  where
    low_in : (k : ℕ) (d : PlainObject) → slice_get p.objects k ≡ Some d → IsAddressable d.storage → (b : Bank) → bank_of d.home ≡ b → 0 < place k
    low_in k d q a FlashBank h = (t.each k d q h).some
    low_in k d q a DataBank h =
        let w = (in_memory e k (size_of_type p.structs d.ty) (place k) d.storage a (each k d q h)).high in
        omega arith

    high_in : (k : ℕ) (d : PlainObject) → slice_get p.objects k ≡ Some d → IsAddressable d.storage → (b : Bank) → bank_of d.home ≡ b
        → place k + size_of_type p.structs d.ty < address_end e.core d.home
    high_in k d q a FlashBank h = (t.each k d q h).end
    high_in k d q a DataBank h =
        subst (λ n. place k + size_of_type p.structs d.ty < n) (sym (data_end e.core d.home h))
        (in_memory e k (size_of_type p.structs d.ty) (place k) d.storage a (each k d q h)).end

pub places_core : (p : PlainProgram) (e : Env) (place : ℕ → ℕ)
    (each : (k : ℕ) (d : PlainObject) → slice_get p.objects k ≡ Some d → bank_of d.home ≡ DataBank
    → ObjectStands e k (size_of_type p.structs d.ty) (place k) d.storage)
    (t : TablesStand p e place) (valid : AllByRecursion (IsObject p) p.objects) → (objects_have_places p e place each t valid).core ≡ e.core
unfolding objects_have_places
places_core p e place each t valid = refl

-- ---- pointers as places

-- the third byte, or 0 where there is none
abbrev pub tag_byte : (bytes : ℕ) → Bank → ℕ
tag_byte bytes bank = if bytes == 3 then tag_of bank else 0

abbrev pub place_of : PlainProgram → (ℕ → ℕ) → (bytes : ℕ) → PointerValue → Place
place_of p place bytes None = Null
place_of p place bytes (Some q) = At (tag_byte bytes (home_of p q.object)) (place q.object + q.offset)

-- null, or a pointer to an object that has an address
abbrev pub IsAddressed : PlainProgram → (bytes : ℕ) → PointerValue → Type 0
IsAddressed p bytes None = ⊤
IsAddressed p bytes (Some q) = IsPointerIn p bytes q

-- null, or a pointer into a space
abbrev pub IsIntoSpace : PlainProgram → SpaceId → PointerValue → Type 0
IsIntoSpace p space None = ⊤
IsIntoSpace p space (Some q) = is_in_space p space q ≡ true

pub home_is : (p : PlainProgram) (q : ObjectPointer) → (h : IsPointed p q) → home_of p q.object ≡ bank_of h.declared.home
home_is p q h = ap (λ o. unwrap_or (option_map (λ (d : PlainObject). bank_of d.home) o) DataBank) h.is_object

tag_small : (b : Bank) → tag_of b ≤ 0x80
tag_small FlashBank = omega arith
tag_small DataBank = omega arith

module _ (p : PlainProgram) (place : ℕ → ℕ) (h : HavePlaces p place) where
  -- the address of a pointer
  pub address_low : (q : ObjectPointer) → IsPointed p q → 0 < place q.object + q.offset
  address_low q i = let l = h.low q.object i.declared i.is_object i.addressable in omega arith

  pub address_high : (q : ObjectPointer) (i : IsPointed p q) → place q.object + q.offset < address_end h.core i.declared.home
  address_high q i =
      let l = h.high q.object i.declared i.is_object i.addressable in
      let w = i.within in
      omega (arith, l, w)

  pub address_below : (q : ObjectPointer) → IsPointed p q → place q.object + q.offset < 131_072
  address_below q i =
      let l = address_high q i in
      let most = greatest_end h.core i.declared.home in
      omega (arith, l, most)

  -- on the core `small` it has two bytes, and so has that of a pointer of two bytes
  pub small_address : (q : ObjectPointer) → IsPointed p q → h.core ≡ Small → place q.object + q.offset < 65536
  small_address q i small =
      subst (λ n. place q.object + q.offset < n) (small_end h.core i.declared.home small) (address_high q i)

  pub near_address : (q : ObjectPointer) → IsPointerIn p 2 q → place q.object + q.offset < 65536
  near_address q i =
      subst (λ n. place q.object + q.offset < n)
      (near_end h.core i.of.space i.pointed.declared.home (sym i.of.bytes) i.of.home) (address_high q i.pointed)

  -- so a pointer that has no whole address has all of it in its low two bytes
  pub low_address : (core : Core) (bytes : ℕ) (q : ObjectPointer) → core ≡ h.core → IsPointerIn p bytes q → is_far core bytes ≡ false
      → place q.object + q.offset < 65536
  low_address core bytes q same i near =
      ⊎_elim
      (λ (r : bytes ≡ 2). near_address q (subst (λ n. IsPointerIn p n q) r i))
      (λ (r : bytes ≡ 3). small_address q i.pointed (sym same ∙ small_core core (subst (λ n. is_far core n ≡ false) r near)))
      i.size
    where
      small_core : (core : Core) → is_far core 3 ≡ false → core ≡ Small
      small_core Small h = refl
      small_core Large h = cc

  pub is_place : (bytes : ℕ) (x : PointerValue) → IsAddressed p bytes x → h.core ≡ Small → IsPlace (place_of p place bytes x)
  is_place bytes None i small = tt
  is_place bytes (Some q) i small = (address_low q i.pointed, small_address q i.pointed small)

  pub is_far_place : (bytes : ℕ) (x : PointerValue) → IsAddressed p bytes x → IsFarPlace (place_of p place bytes x)
  is_far_place bytes None i = tt
  is_far_place bytes (Some q) i =
      let l = address_below q i.pointed in
      (address_low q i.pointed, omega (arith, l), one_tag (bytes == 3) (home_of p q.object))
    where
      one_tag : (b : Bool) (bank : Bank) → ((if b then tag_of bank else 0) ≡ 0x00) ⊎ ((if b then tag_of bank else 0) ≡ 0x80)
      one_tag false bank = inl refl
      one_tag true FlashBank = inl refl
      one_tag true DataBank = inr refl

  -- its number
  pub address_is : (bytes : ℕ) (q : ObjectPointer) → IsPointerIn p bytes q
      → address_number p place bytes q.object q.offset ≡ number_of (place_of p place bytes (Some q))
  address_is bytes q i =
      ⊎_elim
      (λ (r : bytes ≡ 2). subst Is (sym r) (λ j. let low = near_address q j in omega (arith, low)) i)
      (λ (r : bytes ≡ 3). subst Is (sym r) (λ j. refl) i)
      i.size
    where
      Is : ℕ → Type 0
      Is b = IsPointerIn p b q → address_number p place b q.object q.offset ≡ number_of (place_of p place b (Some q))

  pub number_below : (bytes : ℕ) (x : PointerValue) → IsPointerSize bytes → IsAddressed p bytes x
      → number_of (place_of p place bytes x) < 256 ^ bytes
  number_below bytes None s i = ⊎_elim (λ (r : bytes ≡ 2). rw r (omega arith)) (λ (r : bytes ≡ 3). rw r (omega arith)) s
  number_below bytes (Some q) s i =
      let l = address_below q i.pointed in
      let t = tag_small (home_of p q.object) in
      ⊎_elim
      (λ (r : bytes ≡ 2). let low = near_address q (subst (λ n. IsPointerIn p n q) r i) in rw r (omega (arith, low)))
      (λ (r : bytes ≡ 3). rw r (omega (arith, l, t))) s

-- ---- what is known of what pointers point into

-- whether something lives, and then its size and its bank
abbrev Known : (p : PlainProgram) (q : ObjectPointer) → IsPointed p q → Referent → Type 0
Known p q i r = r.live ≡ true → (r.size ≡ size_of_type p.structs i.declared.ty) × (r.home ≡ i.declared.home)

pub known : (p : PlainProgram) (q : ObjectPointer) (i : IsPointed p q) (s : State) → Known p q i (referent_of p (Some q) s)
known p q i s = by_state (slice_get s.objects q.object)
  where
    by_state : (x : Option ObjectState)
        → Known p q i (unwrap_or (option_and_then (λ (o : PlainObject). option_map
        (λ (x : ObjectState). record {
          live = is_live_in q x;
          size = size_of_type p.structs o.ty;
          home =
              o.home;
        }) x) (slice_get p.objects q.object)) (record { live = false; size = 0; home = DataHome }))
    by_state x = subst (λ (w : Option PlainObject). Known p q i
        (unwrap_or (option_and_then (λ (o : PlainObject). option_map
        (λ (x : ObjectState). record { live = is_live_in q x; size = size_of_type p.structs o.ty; home = o.home })
        x) w) (record { live = false; size = 0; home = DataHome }))) (sym i.is_object) (known_in x)
      where
        known_in : (x : Option ObjectState)
            → Known p q i (unwrap_or (option_map (λ (x : ObjectState). record
            { live = is_live_in q x; size = size_of_type p.structs i.declared.ty; home = i.declared.home }) x)
            (record { live = false; size = 0; home = DataHome }))
        known_in None h = absurd cc
        known_in (Some x) h = (refl, refl)

-- where it is live, it has a state that is live
record IsLive (q : ObjectPointer) (s : State) : Type 0 where
  pub state : ObjectState
  pub is_state : slice_get s.objects q.object ≡ Some state
  pub live : state.live ≡ true

is_live : (p : PlainProgram) (q : ObjectPointer) → IsPointed p q → (s : State) → (referent_of p (Some q) s).live ≡ true → IsLive q s
is_live p q i s =
    subst (λ (w : Option PlainObject). (unwrap_or {T = Referent} (option_and_then (λ (o : PlainObject). option_map
    (λ (x : ObjectState). record { live = is_live_in q x; size = size_of_type p.structs o.ty; home = o.home })
    (slice_get s.objects q.object)) w) (record { live = false; size = 0; home = DataHome })).live ≡ true → IsLive q s)
    (sym i.is_object) (in_state (slice_get s.objects q.object) refl)
  where
    in_state : (z : Option ObjectState) → slice_get s.objects q.object ≡ z
        → (unwrap_or {T = Referent} (option_map
        (λ (x : ObjectState). record { live = is_live_in q x; size = size_of_type p.structs i.declared.ty; home = i.declared.home }) z)
        (record { live = false; size = 0; home = DataHome })).live ≡ true → IsLive q s
    in_state None e h = absurd cc
    in_state (Some x) e h = record { state = x; is_state = e; live = (and_parts x.live (x.serial == q.instance) h).0 }

-- a pointer into a space points into an object of a bank that the space reaches
pub held_by_space : (p : PlainProgram) (space : SpaceId) (q : ObjectPointer) → IsPointed p q → is_in_space p space q ≡ true
    → reaches space (home_of p q.object) ≡ true
held_by_space p space q i h =
    let inside : is_in_space p space q ≡ holds space i.declared.home =
    ap (λ o. unwrap_or (option_map (λ (d : PlainObject). holds space d.home) o) false) i.is_object in
    ap (reaches space) (home_is p q i) ∙ home_reached space i.declared.home (sym inside ∙ h)

-- ---- equality

and_false : (a : Bool) → (a && false) ≡ false
and_false true = refl
and_false false = refl

-- bytes of objects that stand apart, or the ends of both, have different addresses
addresses_differ : (a m b n i j : ℕ) → Apart a m b n → 1 ≤ m → 1 ≤ n → i ≤ m → j ≤ n → ((i ≡ m) × (j ≡ n)) ⊎ ((i ≢ m) × (j ≢ n))
    → a + i ≢ b + j
addresses_differ a m b n i j x some_m some_n im jn ends e =
    ⊎_elim
    (λ (l : a < b). let q = x.left l in ⊎_elim (λ (w : (i ≡ m) × (j ≡ n)). let u = w.0 in let v =
    w.1 in absurd (omega arith)) (λ (w : (i ≢ m) × (j ≢ n)). let u = below i m im w.0 in absurd (omega arith)) ends)
    (λ (l : b ≤ a). let q = x.right l in ⊎_elim (λ (w : (i ≡ m) × (j ≡ n)). let u = w.0 in let v =
    w.1 in absurd (omega arith)) (λ (w : (i ≢ m) × (j ≢ n)). let u = below j n jn w.1 in absurd (omega arith)) ends)
    (cases_lt a b)
  where
    below : (i m : ℕ) → i ≤ m → i ≢ m → i < m
    below i m l d = ⊎_elim (λ (q : i < m). q) (λ (q : m ≤ i). absurd (d (omega arith))) (cases_lt i m)

not_of : (a b : ℕ) → (a == b) ≡ false → a ≢ b
not_of a b h e = let g = eq-eqb a b e in absurd cc

module _ (p : PlainProgram) (place : ℕ → ℕ) (h : HavePlaces p place) where
  -- pointers into different objects
  others_differ : (s : State) → AreApartIn p place s → (space : SpaceId) (q r : ObjectPointer) (i : IsPointed p q) (j : IsPointed p r)
      → IsLive q s → IsLive r s → is_in_space p space q ≡ true
      → is_in_space p space r ≡ true → q.object ≢ r.object
      → ((q.offset ≡ size_of_type p.structs i.declared.ty) × (r.offset ≡ size_of_type p.structs j.declared.ty))
      ⊎ ((q.offset ≢ size_of_type p.structs i.declared.ty) × (r.offset ≢ size_of_type p.structs j.declared.ty))
      → same_place (place_of p place (width space) (Some q)) (place_of p place (width space) (Some r)) ≡ false
  others_differ s far space q r i j lq lr sq sr other ends = by_banks (home_of p q.object) (home_of p r.object) refl refl
    where
      x : ℕ
      x = place q.object + q.offset

      z : ℕ
      z = place r.object + r.offset

      one_bank : (b : Bank) → home_of p q.object ≡ b → home_of p r.object ≡ b → (x == z) ≡ false
      one_bank b u w =
          ne_eqb x z (addresses_differ (place q.object) _ (place r.object) _ q.offset r.offset
          (far q.object r.object i.declared j.declared lq.state lr.state i.is_object j.is_object lq.is_state lr.is_state lq.live lr.live
          (sym (home_is p q i) ∙ u ∙ sym w ∙ home_is p r j) other)
          (h.some q.object i.declared i.is_object) (h.some r.object j.declared j.is_object) i.within j.within ends)

      two_banks : (s : SpaceId) → reaches s FlashBank ≡ true → reaches s DataBank ≡ true
          → ((tag_byte (width s) FlashBank == tag_byte (width s) DataBank) ≡ false)
          × ((tag_byte (width s) DataBank == tag_byte (width s) FlashBank) ≡ false)
      two_banks Flash u w = absurd cc
      two_banks FarFlash u w = absurd cc
      two_banks Data u w = absurd cc
      two_banks Generic u w = (refl, refl)

      in_q : (b : Bank) → home_of p q.object ≡ b → reaches space b ≡ true
      in_q b u = ap (reaches space) (sym u) ∙ held_by_space p space q i sq

      in_r : (b : Bank) → home_of p r.object ≡ b → reaches space b ≡ true
      in_r b u = ap (reaches space) (sym u) ∙ held_by_space p space r j sr

      by_banks : (b c : Bank) → home_of p q.object ≡ b → home_of p r.object ≡ c
          → (x == z && tag_byte (width space) (home_of p q.object) == tag_byte (width space) (home_of p r.object)) ≡ false
      by_banks FlashBank FlashBank u w = rw (one_bank FlashBank u w) refl
      by_banks DataBank DataBank u w = rw (one_bank DataBank u w) refl
      by_banks FlashBank DataBank u w = rw (u, w, (two_banks space (in_q FlashBank u) (in_r DataBank w)).0) (and_false (x == z))
      by_banks DataBank FlashBank u w = rw (u, w, (two_banks space (in_r FlashBank w) (in_q DataBank u)).1) (and_false (x == z))

  -- pointers into one object
  offsets_tell : (bytes : ℕ) (q r : ObjectPointer) → q.object ≡ r.object
      → same_place (place_of p place bytes (Some q)) (place_of p place bytes (Some r)) ≡ (q.offset == r.offset)
  offsets_tell bytes q r same =
      ⊎_elim
      (λ (e : q.offset ≡ r.offset).
      let a : (place q.object + q.offset == place r.object + r.offset) ≡ true =
      eq-eqb (place q.object + q.offset) (place r.object + r.offset)
      (ap (λ o. place o + q.offset) same ∙ ap (λ o. place r.object + o) e) in
      let t : (tag_byte bytes (home_of p q.object) == tag_byte bytes (home_of p r.object)) ≡ true =
      eq-eqb _ _ (ap (λ o. tag_byte bytes (home_of p o)) same) in
      rw (a, t) (sym (eq-eqb q.offset r.offset e)))
      (λ (e : q.offset ≢ r.offset).
      let w = ap place same in
      let a : (place q.object + q.offset == place r.object + r.offset) ≡ false = ne_eqb _ _ (λ u. e (omega arith)) in
      rw a (sym (ne_eqb q.offset r.offset e)))
      (cases_eq q.offset r.offset)

  -- whether two pointers into one space are equal
  pub same_is : (space : SpaceId) (x z : PointerValue) (s : State) (b : Bool) → AreApartIn p place s → IsAddressed p (width space) x
      → IsAddressed p (width space) z → IsIntoSpace p space x → IsIntoSpace p space z
      → (is_usable x (referent_of p x s) && is_usable z (referent_of p z s)) ≡ true
      → equality x (referent_of p x s) z (referent_of p z s) ≡ Ok b
      → same_place (place_of p place (width space) x) (place_of p place (width space) z) ≡ b
  same_is space None None s b far i j u v usable e = cc
  same_is space None (Some r) s b far i j u v usable e = cc
  same_is space (Some q) None s b far i j u v usable e = cc
  same_is space (Some q) (Some r) s b far i j u v usable e =
      ⊎_elim
      (λ (same : q.object ≡ r.object).
      let one : (q.instance == r.instance) ≡ true = eq-eqb q.instance r.instance (i.pointed.instance ∙ sym j.pointed.instance) in
      let g : (if same_instance q r then Ok (q.offset == r.offset) else apart
      (is_at_end q (referent_of p (Some q) s)) (is_at_end r (referent_of p (Some r) s))) ≡ Ok b = e in
      let g1 : Ok (q.offset == r.offset) ≡ Ok b = (rw (eq-eqb q.object r.object same, one) at g) in
      let g2 : (q.offset == r.offset) ≡ b = cc in
      offsets_tell (width space) q r same ∙ g2)
      (λ (other : q.object ≢ r.object).
      let g : (if same_instance q r then Ok (q.offset == r.offset) else apart
      (is_at_end q (referent_of p (Some q) s)) (is_at_end r (referent_of p (Some r) s))) ≡ Ok b = e in
      let g1 : apart (is_at_end q (referent_of p (Some q) s)) (is_at_end r (referent_of p (Some r) s)) ≡ Ok b =
      (rw (ne_eqb q.object r.object other) at g) in
      by_ends other (is_at_end q (referent_of p (Some q) s)) (is_at_end r (referent_of p (Some r) s)) refl refl g1)
      (cases_eq q.object r.object)
    where
      live : ((referent_of p (Some q) s).live ≡ true) × ((referent_of p (Some r) s).live ≡ true)
      live = and_parts (referent_of p (Some q) s).live (referent_of p (Some r) s).live usable

      size_q : (referent_of p (Some q) s).size ≡ size_of_type p.structs i.pointed.declared.ty
      size_q = (known p q i.pointed s live.0).0

      size_r : (referent_of p (Some r) s).size ≡ size_of_type p.structs j.pointed.declared.ty
      size_r = (known p r j.pointed s live.1).0

      differ : q.object ≢ r.object
          → ((q.offset ≡ size_of_type p.structs i.pointed.declared.ty) × (r.offset ≡ size_of_type p.structs j.pointed.declared.ty))
          ⊎ ((q.offset ≢ size_of_type p.structs i.pointed.declared.ty) × (r.offset ≢ size_of_type p.structs j.pointed.declared.ty))
          → same_place (place_of p place (width space) (Some q)) (place_of p place (width space) (Some r)) ≡ false
      differ =
          others_differ s far space q r i.pointed j.pointed (is_live p q i.pointed s live.0) (is_live p r j.pointed s live.1) u v

      by_ends : q.object ≢ r.object → (c d : Bool) → is_at_end q (referent_of p (Some q) s) ≡ c
          → is_at_end r (referent_of p (Some r) s) ≡ d → apart c d ≡ Ok b
          → same_place (place_of p place (width space) (Some q)) (place_of p place (width space) (Some r)) ≡ b
      by_ends other true true c d g =
          let f : false ≡ b = cc in
          differ other (inl (eqb-true q.offset _ c ∙ size_q, eqb-true r.offset _ d ∙ size_r)) ∙ f
      by_ends other true false c d g = absurd cc
      by_ends other false true c d g = absurd cc
      by_ends other false false c d g =
          let f : false ≡ b = cc in
          differ other
          (inr ((λ w. not_of q.offset _ c (w ∙ sym size_q)), (λ w. not_of r.offset _ d (w ∙ sym size_r)))) ∙ f

-- ---- comparisons

-- how two places compare by an operator
abbrev pub places_compare : BinOp → Place → Place → Bool
places_compare Lt x z = places_stand IsBelow x z
places_compare Gt x z = places_stand IsBelow z x
places_compare Le x z = places_stand NotLess z x
places_compare Ge x z = places_stand NotLess x z
places_compare Eq x z = places_stand IsSame x z
places_compare Ne x z = places_stand NotEqual x z
places_compare op x z = false

used_ok : {A : Type 0} (b : Bool) (r : Result A Undefined) (x : A) → used b r ≡ Ok x → (b ≡ true) × (r ≡ Ok x)
used_ok true r x h = (refl, h)
used_ok false r x h = absurd cc

truth_is : (b : Bool) → truth b ≡ pos (from_bool b)
truth_is true = refl
truth_is false = refl

not_lt : (i j : ℕ) → j ≤ i → nat_lt i j ≡ false
not_lt i j l = grind (arith, nat_tests)

lt_tells : (i j : ℕ) → accepts Lt (nat_cmp i j) ≡ nat_lt i j
lt_tells i j = by_tests (nat_lt i j) (i == j)
  where
    by_tests : (a b : Bool) → accepts Lt (cond a Less (cond b Equal Greater)) ≡ a
    by_tests true b = refl
    by_tests false true = refl
    by_tests false false = refl

ge_tells : (i j : ℕ) → accepts Ge (nat_cmp i j) ≡ not (nat_lt i j)
ge_tells i j = by_tests (nat_lt i j) (i == j)
  where
    by_tests : (a b : Bool) → accepts Ge (cond a Less (cond b Equal Greater)) ≡ not a
    by_tests true b = refl
    by_tests false true = refl
    by_tests false false = refl

above_tells : (i j : ℕ) → (accepts Gt (nat_cmp i j) ≡ nat_lt j i) × (accepts Le (nat_cmp i j) ≡ not (nat_lt j i))
above_tells i j =
    ⊎_elim
    (λ (l : i < j). let a = lt-ltb i j l in let b = not_lt j i (omega arith) in (rw (a, b) refl, rw (a, b) refl))
    (λ (l : j ≤ i).
    ⊎_elim
    (λ (e : i ≡ j). let a = not_lt i j l in let b = not_lt j i (omega arith) in let c =
    eq-eqb i j e in (rw (a, b, c) refl, rw (a, b, c) refl))
    (λ (e : i ≢ j). let a = not_lt i j l in let b = lt-ltb j i (strictly i j l e) in let c =
    ne_eqb i j e in (rw (a, b, c) refl, rw (a, b, c) refl))
    (cases_eq i j))
    (cases_lt i j)
  where
    strictly : (i j : ℕ) → j ≤ i → i ≢ j → j < i
    strictly i j l e = ⊎_elim (λ (q : j < i). q) (λ (q : i ≤ j). absurd (e (omega arith))) (cases_lt j i)

-- what a comparison of order gives
ordered_tells : (op : BinOp) (x z : PointerValue) (n : ℤ) (g : Bool) → ordered op x z ≡ Ok n
    → ((q r : ObjectPointer) → x ≡ Some q → z ≡ Some r → q.object ≡ r.object → accepts op (nat_cmp q.offset r.offset) ≡ g)
    → n ≡ pos (from_bool g)
ordered_tells op None z n g h f = absurd cc
ordered_tells op (Some q) None n g h f = absurd cc
ordered_tells op (Some q) (Some r) n g h f = by_instance (q.object == r.object) refl (q.instance == r.instance) h
  where
    by_instance : (b : Bool) → (q.object == r.object) ≡ b → (c : Bool)
        → (if b && c then compared op (nat_cmp q.offset r.offset) else Err Unrelated) ≡ Ok n → n ≡ pos (from_bool g)
    by_instance true e true w =
        let a : truth (accepts op (nat_cmp q.offset r.offset)) ≡ n = cc in
        sym a ∙ truth_is _ ∙ ap (λ b. pos (from_bool b)) (f q r refl refl (eqb-true q.object r.object e))
    by_instance true e false w = absurd cc
    by_instance false e c w = absurd cc

module _ (p : PlainProgram) (place : ℕ → ℕ) (h : HavePlaces p place) where
  -- offsets in an object are ordered as their addresses
  before_is : (bytes : ℕ) (q r : ObjectPointer) → q.object ≡ r.object
      → is_before (place_of p place bytes (Some q)) (place_of p place bytes (Some r)) ≡ nat_lt q.offset r.offset
  before_is bytes q r same =
      ap (λ o. nat_lt (place o + q.offset) (place r.object + r.offset)) same ∙ shifted (place r.object) q.offset r.offset
    where
      shifted : (a i j : ℕ) → nat_lt (a + i) (a + j) ≡ nat_lt i j
      shifted a i j =
          ⊎_elim (λ (l : i < j). lt-ltb (a + i) (a + j) (omega arith) ∙ sym (lt-ltb i j l))
          (λ (l : j ≤ i). not_lt (a + i) (a + j) (omega arith) ∙ sym (not_lt i j l)) (cases_lt i j)

  -- what a comparison gives
  pub comparison_is : (op : BinOp) → is_comparison op ≡ true → (space : SpaceId) (x z : PointerValue) (s : State) (n : ℤ)
      → AreApartIn p place s → IsAddressed p (width space) x → IsAddressed p (width space) z → IsIntoSpace p space x → IsIntoSpace p space z
      → comparison_of_pointers op x (referent_of p x s) z (referent_of p z s) ≡ Ok n
      → n ≡ pos (from_bool (places_compare op (place_of p place (width space) x) (place_of p place (width space) z)))
  comparison_is op is space x z s n far i j u v e =
      let w = used_ok _ (compared_pointers op x (referent_of p x s) z (referent_of p z s)) n e in
      by_op op is w.0 w.1
    where
      X : Place
      X = place_of p place (width space) x

      Z : Place
      Z = place_of p place (width space) z

      before : (q r : ObjectPointer) → x ≡ Some q → z ≡ Some r → q.object ≡ r.object → nat_lt q.offset r.offset ≡ is_before X Z
      before q r a b same =
          sym (ap (λ t. is_before (place_of p place (width space) t) (place_of p place (width space) z)) a
          ∙ ap (λ t. is_before (place_of p place (width space) (Some q)) (place_of p place (width space) t)) b
          ∙ before_is (width space) q r same)

      behind : (q r : ObjectPointer) → x ≡ Some q → z ≡ Some r → q.object ≡ r.object → nat_lt r.offset q.offset ≡ is_before Z X
      behind q r a b same =
          sym (ap (λ t. is_before (place_of p place (width space) z) (place_of p place (width space) t)) a
          ∙ ap (λ t. is_before (place_of p place (width space) t) (place_of p place (width space) (Some q))) b
          ∙ before_is (width space) r q (sym same))

      by_equality : (f : Bool → Bool) (r : Result Bool Undefined)
          → (is_usable x (referent_of p x s) && is_usable z (referent_of p z s)) ≡ true
          → equality x (referent_of p x s) z (referent_of p z s) ≡ r → as_truth f r ≡ Ok n → n ≡ pos (from_bool (f (same_place X Z)))
      by_equality f (Ok b) usable q w =
          let a : truth (f b) ≡ n = cc in
          sym a ∙ truth_is (f b) ∙ ap (λ t. pos (from_bool (f t))) (sym (same_is p place h space x z s b far i j u v usable q))
      by_equality f (Err point) usable q w = absurd cc

      by_op : (op : BinOp) → is_comparison op ≡ true → (is_usable x (referent_of p x s) && is_usable z (referent_of p z s)) ≡ true
          → compared_pointers op x (referent_of p x s) z (referent_of p z s) ≡ Ok n → n ≡ pos (from_bool (places_compare op X Z))
      by_op Eq is usable w = by_equality (λ b. b) (equality x (referent_of p x s) z (referent_of p z s)) usable refl w
      by_op Ne is usable w = by_equality not (equality x (referent_of p x s) z (referent_of p z s)) usable refl w
      by_op Lt is usable w = ordered_tells Lt x z n (is_before X Z) w (λ q r a b same. lt_tells q.offset r.offset ∙ before q r a b same)
      by_op Gt is usable w = ordered_tells Gt x z n (is_before Z X) w
          (λ q r a b same. (above_tells q.offset r.offset).0 ∙ behind q r a b same)
      by_op Le is usable w = ordered_tells Le x z n (not (is_before Z X)) w
          (λ q r a b same. (above_tells q.offset r.offset).1 ∙ ap not (behind q r a b same))
      by_op Ge is usable w = ordered_tells Ge x z n (not (is_before X Z)) w
          (λ q r a b same. ge_tells q.offset r.offset ∙ ap not (before q r a b same))
      by_op op is usable w = absurd cc

-- ---- the banks of pointers that are ordered

-- what is ordered points into one object
ordered_alike : (op : BinOp) (x z : PointerValue) (n : ℤ) → ordered op x z ≡ Ok n
    → (P : PointerValue → PointerValue → Type 0)
    → ((q r : ObjectPointer) → q.object ≡ r.object → P (Some q) (Some r)) → P x z
ordered_alike op None z n h P f = absurd cc
ordered_alike op (Some q) None n h P f = absurd cc
ordered_alike op (Some q) (Some r) n h P f = by_instance (q.object == r.object) refl (q.instance == r.instance) h
  where
    by_instance : (b : Bool) → (q.object == r.object) ≡ b → (c : Bool)
        → (if b && c then compared op (nat_cmp q.offset r.offset) else Err Unrelated) ≡ Ok n → P (Some q) (Some r)
    by_instance true e true w = f q r (eqb-true q.object r.object e)
    by_instance true e false w = absurd cc
    by_instance false e c w = absurd cc

-- what the relation of an operator asks of the banks
abbrev pub MayCompare : BinOp → Place → Place → Type 0
MayCompare Lt x z = InOneBank x z
MayCompare Gt x z = InOneBank z x
MayCompare Le x z = InOneBank z x
MayCompare Ge x z = InOneBank x z
MayCompare op x z = ⊤

pub compared_alike : (p : PlainProgram) (place : ℕ → ℕ) (op : BinOp) → is_comparison op ≡ true → (bytes : ℕ) (x z : PointerValue)
    (of into : Referent) (n : ℤ)
    → comparison_of_pointers op x of z into ≡ Ok n → MayCompare op (place_of p place bytes x) (place_of p place bytes z)
compared_alike p place op is bytes x z of into n e = by_op op is (used_ok _ (compared_pointers op x of z into) n e).1
  where
    Alike : PointerValue → PointerValue → Type 0
    Alike x z = InOneBank (place_of p place bytes x) (place_of p place bytes z) × InOneBank (place_of p place bytes z) (place_of p place bytes x)

    alike : (op : BinOp) → ordered op x z ≡ Ok n → Alike x z
    alike op w = ordered_alike op x z n w Alike
        (λ q r same. let tags = ap (λ o. tag_byte bytes (home_of p o)) same in (tags, sym tags))

    by_op : (op : BinOp) → is_comparison op ≡ true → compared_pointers op x of z into ≡ Ok n
        → MayCompare op (place_of p place bytes x) (place_of p place bytes z)
    by_op Eq is w = tt
    by_op Ne is w = tt
    by_op Lt is w = (alike Lt w).0
    by_op Gt is w = (alike Gt w).1
    by_op Le is w = (alike Le w).1
    by_op Ge is w = (alike Ge w).0
    by_op op is w = absurd cc

-- ---- differences

-- the elements from one offset to another
pub record Distance (size x z : ℕ) (n : ℤ) : Type 0 where
  pub negative : Bool
  pub k : ℕ
  pub is : IsFrom negative x z (k * size)
  pub number : low_bytes 2 n ≡ signed_number negative k

zero_when : (r : ℕ) → int_eq (pos r) (pos 0) ≡ true → r ≡ 0
zero_when zero h = refl
zero_when (suc r) h = grind (arith, ints)

zero_when_negative : (r : ℕ) → int_eq (neg_ℤ (pos r)) (pos 0) ≡ true → r ≡ 0
zero_when_negative zero h = refl
zero_when_negative (suc r) h = grind (arith, ints)

elements_above : (size i j : ℕ) (n : ℤ) → 1 ≤ size → i ≤ 32767 → j ≤ i → in_elements size (pos (i - j)) ≡ Ok n → Distance size i j n
elements_above size i j n some small l h = by_rest (int_eq (pos ((i - j) % size)) (pos 0)) refl h
  where
    by_rest : (b : Bool) → int_eq (pos ((i - j) % size)) (pos 0) ≡ b → (if b then Ok (pos ((i - j) / size)) else Err Unrelated) ≡ Ok n
        → Distance size i j n
    by_rest false e w = absurd cc
    by_rest true e w =
        let k = (i - j) / size in
        let d = div-add-mod' (i - j) size in
        let r = zero_when ((i - j) % size) e in
        let whole : k * size ≡ i - j = omega (arith, d, r) in
        let least : k * 1 ≤ k * size = mul-le k 1 k size (omega arith) some in
        let is_n : pos k ≡ n = cc in
        let f : Lifts (pos k) 2 k = record { k = 0; is = omega (arith, ints) } in
        record {
          negative = false;
          k = k;
          is = (omega (arith, whole, l), omega (arith, whole, small));
          number =
              ap (low_bytes 2) (sym is_n) ∙ low_of (pos k) 2 k f
              ∙ kept_below k 65536 (omega (arith, whole, least, small));
        }

elements_below : (size i j d : ℕ) (n : ℤ) → 1 ≤ size → j ≤ 32767 → j ≡ i + suc d → in_elements size (negsuc d) ≡ Ok n → Distance size i j n
elements_below size i j d n some small l h = by_rest (int_eq (neg_ℤ (pos (suc d % size))) (pos 0)) refl h
  where
    by_rest : (b : Bool) → int_eq (neg_ℤ (pos (suc d % size))) (pos 0) ≡ b
        → (if b then Ok (neg_ℤ (pos (suc d / size))) else Err Unrelated) ≡ Ok n → Distance size i j n
    by_rest false e w = absurd cc
    by_rest true e w =
        let k = suc d / size in
        let div = div-add-mod' (suc d) size in
        let r = zero_when_negative (suc d % size) e in
        let whole : k * size ≡ suc d = omega (arith, div, r) in
        let least : k * 1 ≤ k * size = mul-le k 1 k size (omega arith) some in
        let is_n : neg_ℤ (pos k) ≡ n = cc in
        let f : Lifts (neg_ℤ (pos k)) 2 (65536 - k) = record { k = 1; is = lifted k (omega (arith, whole, least, small, l)) } in
        record {
          negative = true;
          k = k;
          is = (omega (arith, whole, l), omega (arith, whole, small, l));
          number =
              ap (low_bytes 2) (sym is_n) ∙ low_of (neg_ℤ (pos k)) 2 (65536 - k) f;
        }
      where
        lifted : (k : ℕ) → k ≤ 65536 → neg_ℤ (pos k) +ℤ pos (1 * 65536) ≡ pos (65536 - k)
        lifted k l = omega (arith, ints, l)

elements_apart : (size i j : ℕ) (n : ℤ) → 1 ≤ size → i ≤ 32767 → j ≤ 32767 → in_elements size (pos i -ℤ pos j) ≡ Ok n → Distance size i j n
elements_apart size i j n some one other h =
    ⊎_elim
    (λ (l : i < j).
    let d = j - i - 1 in
    let e : pos i -ℤ pos j ≡ negsuc d = omega (arith, ints, l) in
    elements_below size i j d n some other (omega (arith, l)) (subst (λ t. in_elements size t ≡ Ok n) e h))
    (λ (l : j ≤ i).
    let e : pos i -ℤ pos j ≡ pos (i - j) = omega (arith, ints, l) in
    elements_above size i j n some one l (subst (λ t. in_elements size t ≡ Ok n) e h))
    (cases_lt i j)

-- the same from addresses
from_address : (a size i j : ℕ) (n : ℤ) → Distance size i j n → Distance size (a + i) (a + j) n
from_address a size i j n d = record { negative = d.negative; k = d.k; is = shifted d.negative (d.k * size) d.is; number = d.number }
  where
    shifted : (negative : Bool) (distance : ℕ) → IsFrom negative i j distance → IsFrom negative (a + i) (a + j) distance
    shifted false distance w = let e = w.0 in (omega arith, w.1)
    shifted true distance w = let e = w.0 in (omega arith, w.1)

module _ (p : PlainProgram) (place : ℕ → ℕ) (h : HavePlaces p place) where
  pub offset_small : (q : ObjectPointer) → IsPointed p q → q.offset ≤ 32767
  offset_small q i = let l = h.small q.object i.declared i.is_object in let w = i.within in omega arith

  pub difference_is : (bytes size : ℕ) (x z : PointerValue) (of into : Referent) (n : ℤ) → 1 ≤ size → IsAddressed p bytes x
      → IsAddressed p bytes z → difference_of_pointers size x of z into ≡ Ok n
      → Distance size (number_of (place_of p place bytes x)) (number_of (place_of p place bytes z)) n
  difference_is bytes size x z of into n some i j e = by_pointers x z i j (used_ok _ (elements_between size x z) n e).1
    where
      by_pointers : (x z : PointerValue) → IsAddressed p bytes x → IsAddressed p bytes z → elements_between size x z ≡ Ok n
          → Distance size (number_of (place_of p place bytes x)) (number_of (place_of p place bytes z)) n
      by_pointers None z i j w = absurd cc
      by_pointers (Some q) None i j w = absurd cc
      by_pointers (Some q) (Some r) i j w = by_instance (q.object == r.object) refl (q.instance == r.instance) w
        where
          -- the number of a pointer into an object, as an offset from that of its first byte
          from : ℕ → ℕ
          from o = place o + tag_byte bytes (home_of p o) * 65536

          number_is : (o : ℕ) (offset : ℕ) → from o + offset ≡ place o + offset + tag_byte bytes (home_of p o) * 65536
          number_is o offset = omega arith

          by_instance : (b : Bool) → (q.object == r.object) ≡ b → (c : Bool)
              → (if b && c then in_elements size (pos q.offset -ℤ pos r.offset) else Err Unrelated) ≡ Ok n
              → Distance size (number_of (place_of p place bytes (Some q))) (number_of (place_of p place bytes (Some r))) n
          by_instance true same true u =
              subst (λ k. Distance size k (number_of (place_of p place bytes (Some r))) n) (number_is q.object q.offset)
              (subst (λ k. Distance size (from q.object + q.offset) k n) (number_is r.object r.offset)
              (subst (λ o. Distance size (from q.object + q.offset) (from o + r.offset) n) (eqb-true q.object r.object same)
              (from_address (from q.object) size q.offset r.offset n
              (elements_apart size q.offset r.offset n some (offset_small q i.pointed)
              (offset_small r j.pointed) u))))
          by_instance true same false u = absurd cc
          by_instance false same c u = absurd cc

-- ---- sums

-- a pointer into the same object, so many bytes further
pub record IsMoved (p : PlainProgram) (q : ObjectPointer) (bytes : ℤ) (z : PointerValue) : Type 0 where
  pub to : ObjectPointer
  pub is : z ≡ Some to
  pub object : to.object ≡ q.object
  pub pointed : IsPointed p to
  pub offset : pos q.offset +ℤ bytes ≡ pos to.offset

natural : (z : ℤ) → int_le (pos 0) z ≡ true → pos (unsigned_abs z) ≡ z
natural (pos a) h = refl
natural (negsuc a) h = absurd cc

at_most : (a b : ℕ) → int_le (pos a) (pos b) ≡ true → a ≤ b
at_most a b h = grind (arith, ints)

pub moved_is : (p : PlainProgram) (q : ObjectPointer) (s : State) (bytes : ℤ) (z : PointerValue) → IsPointed p q
    → moved (Some q) (referent_of p (Some q) s) bytes ≡ Ok z → IsMoved p q bytes z
moved_is p q s bytes z i h = by_live (used_ok r.live (displaced q r.size at) z h)
  where
    r : Referent
    r = referent_of p (Some q) s

    at : ℤ
    at = pos q.offset +ℤ bytes

    by_live : (r.live ≡ true) × (displaced q r.size at ≡ Ok z) → IsMoved p q bytes z
    by_live w = by_range (int_le (pos 0) at && int_le at (pos r.size)) refl w.1
      where
        by_range : (b : Bool) → (int_le (pos 0) at && int_le at (pos r.size)) ≡ b
            → (if b then Ok (Some (record { object = q.object; instance = q.instance; offset = unsigned_abs at }))
            else Err PointerRange) ≡ Ok z
            → IsMoved p q bytes z
        by_range false e u = absurd cc
        by_range true e u =
            let parts = and_parts (int_le (pos 0) at) (int_le at (pos r.size)) e in
            let number = natural at parts.0 in
            let size = (known p q i s w.0).0 in
            let low : int_le (pos (unsigned_abs at)) (pos r.size) ≡ true = ap (λ t. int_le t (pos r.size)) number ∙ parts.1 in
            let within : unsigned_abs at ≤ r.size = at_most (unsigned_abs at) r.size low in
            let to : ObjectPointer = record { object = q.object; instance = q.instance; offset = unsigned_abs at } in
            let same : Some to ≡ z = cc in
            record {
              to = to;
              is = sym same;
              object = refl;
              pointed = record {
                declared = i.declared;
                is_object = i.is_object;
                addressable =
                    i.addressable;
                instance = i.instance;
                within = subst (λ n. unsigned_abs at ≤ n) size within;
              };
              offset = sym number;
            }

-- what the code takes for an index is the number modulo 65,536
pub record IsIndex (n : ℤ) (taken : ℕ) : Type 0 where
  pub index : ℕ
  pub lifts : Lifts n 2 index
  pub same : (e : ℕ) → taken * e % 65536 ≡ index * e % 65536

byte_lifts : (signed : Bool) (low : ℕ) → low < 256 → Lifts (number_of_bytes signed 1 low) 2 (low + 256 * fill_of signed low)
byte_lifts false low l = record { k = 0; is = omega (arith, ints) }
byte_lifts true low l =
    ⊎_elim
    (λ t. let g : 256 ≤ 2 * low = leb-true 256 (2 * low) t in rw t (record { k = 1; is = above low l (omega arith) }))
    (λ t. let g : 2 * low < 256 = leb-false 256 (2 * low) t in rw t (record { k = 0; is = below low (omega arith) }))
    (cases_Bool (nat_le 256 (2 * low)))
  where
    above : (x : ℕ) → x < 256 → 128 ≤ x → (pos x -ℤ pos 256) +ℤ pos (1 * 65536) ≡ pos (x + 256 * (255 * (x / 128)))
    above x l k = let one : x / 128 ≡ 1 = omega arith in rw one (omega (arith, ints, l, k))

    below : (x : ℕ) → x < 128 → pos x +ℤ pos (0 * 65536) ≡ pos (x + 256 * (255 * (x / 128)))
    below x l = let none : x / 128 ≡ 0 = omega arith in rw none (omega (arith, ints))

wide_lifts : (z : ℤ) (low : ℕ) → Lifts z 4 low → Lifts z 2 low
wide_lifts z low l = record {
  k = l.k * 65536;
  is = (let r : l.k * 65536 * 65536 ≡ l.k * 256 ^ 4 =
      omega arith in ap (λ t. z +ℤ pos t) r ∙ l.is);
}

pub index_is : (signed : Bool) (bytes low : ℕ) → IsIntegerSize bytes → low < 256 ^ bytes
    → IsIndex (number_of_bytes signed bytes low) (index_of signed bytes low)
index_is signed bytes low s l = ⊎_elim one (λ t. ⊎_elim two four t) s
  where
    Is : ℕ → Type 0
    Is b = low < 256 ^ b → IsIndex (number_of_bytes signed b low) (index_of signed b low)

    one : bytes ≡ 1 → IsIndex (number_of_bytes signed bytes low) (index_of signed bytes low)
    one r = (subst Is (sym r) (λ k. record { index = low + 256 * fill_of signed low; lifts = byte_lifts signed low k; same = λ e. refl })) l

    two : bytes ≡ 2 → IsIndex (number_of_bytes signed bytes low) (index_of signed bytes low)
    two r = (subst Is (sym r) (λ k. record { index = low; lifts = lifts_number signed 2 low; same = λ e. mul-mod_first low e 65536 })) l

    four : bytes ≡ 4 → IsIndex (number_of_bytes signed bytes low) (index_of signed bytes low)
    four r = (subst Is (sym r) (λ k. record {
      index = low;
      lifts =
          wide_lifts (number_of_bytes signed 4 low) low (lifts_number signed 4 low);
      same =
          λ e. mul-mod_first low e 65536;
    })) l

plus_step : (n : ℤ) (k index i o e : ℕ) → n +ℤ pos (k * 65536) ≡ pos index → pos i +ℤ n *ℤ pos e ≡ pos o → i + index * e ≡ o + k * e * 65536
plus_step (pos m) k index i o e l h =
    let w : m + k * 65536 ≡ index = omega (arith, ints, l) in
    let g = ap (λ t. t * e) w in
    omega (arith, ints, g, h)
plus_step (negsuc m) k index i o e l h =
    let w : k * 65536 ≡ index + suc m = omega (arith, ints, l) in
    let g = ap (λ t. t * e) w in
    omega (arith, ints, g, h)

minus_step : (n : ℤ) (k index i o e : ℕ) → n +ℤ pos (k * 65536) ≡ pos index → pos i +ℤ (pos 0 -ℤ n) *ℤ pos e ≡ pos o
    → i + k * e * 65536 ≡ o + index * e
minus_step (pos zero) k index i o e l h =
    let w : k * 65536 ≡ index = omega (arith, ints, l) in
    let g = ap (λ t. t * e) w in
    let t : pos 0 -ℤ pos 0 ≡ pos 0 = omega (arith, ints) in
    let h1 = subst (λ x. pos i +ℤ x *ℤ pos e ≡ pos o) t h in
    omega (arith, ints, g, h1)
minus_step (pos (suc m)) k index i o e l h =
    let w : suc m + k * 65536 ≡ index = omega (arith, ints, l) in
    let g = ap (λ t. t * e) w in
    let t : pos 0 -ℤ pos (suc m) ≡ negsuc m = omega (arith, ints) in
    let h1 = subst (λ x. pos i +ℤ x *ℤ pos e ≡ pos o) t h in
    omega (arith, ints, g, h1)
minus_step (negsuc m) k index i o e l h =
    let w : k * 65536 ≡ index + suc m = omega (arith, ints, l) in
    let g = ap (λ t. t * e) w in
    let t : pos 0 -ℤ negsuc m ≡ pos (suc m) = omega (arith, ints) in
    let h1 = subst (λ x. pos i +ℤ x *ℤ pos e ≡ pos o) t h in
    omega (arith, ints, g, h1)

-- the number of elements that a pointer is moved by
abbrev pub moved_elements : (minus : Bool) → ℤ → ℤ
moved_elements true n = pos 0 -ℤ n
moved_elements false n = n

-- what the code makes of an address is the address of the new offset
pub advanced_is : (minus : Bool) (n : ℤ) (taken a i o e : ℕ) → IsIndex n taken
    → pos i +ℤ moved_elements minus n *ℤ pos e ≡ pos o → a + i < 65536 → a + o < 65536
    → moved_by minus (a + i) (taken * (e % 65536) % 65536) ≡ a + o
advanced_is minus n taken a i o e x h l k =
    ap (moved_by minus (a + i)) (x.same (e % 65536) ∙ mul-mod_second x.index e 65536) ∙ by_sign minus h
  where
    far : ℕ
    far = x.lifts.k * e

    times : ℕ
    times = x.index * e

    by_sign : (minus : Bool) → pos i +ℤ moved_elements minus n *ℤ pos e ≡ pos o → moved_by minus (a + i) (times % 65536) ≡ a + o
    by_sign false g = let w : i + times ≡ o + far * 65536 = plus_step n x.lifts.k x.index i o e x.lifts.is g in omega (arith, w, l, k)
    by_sign true g = let w : i + far * 65536 ≡ o + times = minus_step n x.lifts.k x.index i o e x.lifts.is g in omega (arith, w, l, k)

-- where of an address its low two bytes alone are taken, they are right for any address
pub advanced_low : (minus : Bool) (n : ℤ) (taken a i o e : ℕ) → IsIndex n taken
    → pos i +ℤ moved_elements minus n *ℤ pos e ≡ pos o
    → moved_by minus ((a + i) % 65536) (taken * (e % 65536) % 65536) ≡ (a + o) % 65536
advanced_low minus n taken a i o e x h =
    ap (moved_by minus ((a + i) % 65536)) (x.same (e % 65536) ∙ mul-mod_second x.index e 65536) ∙ by_sign minus h
  where
    far : ℕ
    far = x.lifts.k * e

    times : ℕ
    times = x.index * e

    by_sign : (minus : Bool) → pos i +ℤ moved_elements minus n *ℤ pos e ≡ pos o
        → moved_by minus ((a + i) % 65536) (times % 65536) ≡ (a + o) % 65536
    by_sign false g = let w : i + times ≡ o + far * 65536 = plus_step n x.lifts.k x.index i o e x.lifts.is g in omega (arith, w)
    by_sign true g = let w : i + far * 65536 ≡ o + times = minus_step n x.lifts.k x.index i o e x.lifts.is g in omega (arith, w)

-- an offset and the distance from it, which is taken modulo 65,536 and then by its sign
plus_far : (w i o far times : ℕ) → i + times ≡ o + far * 65536 → i ≤ 32767 → o ≤ 32767 → w + o < 16777216
    → far_moved_by false (w + i) (times % 65536) ≡ w + o
plus_far w i o far times h il ol wl =
    ⊎_elim
    (λ (l : o < i).
    let y : times % 65536 ≡ 65536 + o - i = omega (arith, h, il, l) in
    let big : nat_lt (times % 65536) 32768 ≡ false = not_lt (times % 65536) 32768 (omega (arith, y, il, l)) in
    rw big (omega (arith, y, il, l, wl)))
    (λ (l : i ≤ o).
    let y : times % 65536 ≡ o - i = omega (arith, h, ol, l) in
    let small : nat_lt (times % 65536) 32768 ≡ true = lt-ltb (times % 65536) 32768 (omega (arith, y, ol, l)) in
    rw small (omega (arith, y, l, wl)))
    (cases_lt o i)

minus_far : (w i o far times : ℕ) → i + far * 65536 ≡ o + times → i ≤ 32767 → o ≤ 32767 → w + o < 16777216
    → far_moved_by true (w + i) (times % 65536) ≡ w + o
minus_far w i o far times h il ol wl =
    ⊎_elim
    (λ (l : i < o).
    let y : times % 65536 ≡ 65536 + i - o = omega (arith, h, ol, l) in
    let big : nat_lt (times % 65536) 32768 ≡ false = not_lt (times % 65536) 32768 (omega (arith, y, ol, l)) in
    rw big (omega (arith, y, ol, l, wl)))
    (λ (l : o ≤ i).
    let y : times % 65536 ≡ i - o = omega (arith, h, il, l) in
    let small : nat_lt (times % 65536) 32768 ≡ true = lt-ltb (times % 65536) 32768 (omega (arith, y, il, l)) in
    rw small (omega (arith, y, il, l, wl)))
    (cases_lt i o)

-- so is the number of a pointer of three bytes moved, where no object has more than 32,767 bytes
pub far_advanced_is : (minus : Bool) (n : ℤ) (taken w i o e : ℕ) → IsIndex n taken
    → pos i +ℤ moved_elements minus n *ℤ pos e ≡ pos o → i ≤ 32767 → o ≤ 32767 → w + o < 16777216
    → far_moved_by minus (w + i) (taken * (e % 65536) % 65536) ≡ w + o
far_advanced_is minus n taken w i o e x h il ol wl =
    ap (far_moved_by minus (w + i)) (x.same (e % 65536) ∙ mul-mod_second x.index e 65536) ∙ by_sign minus h
  where
    by_sign : (minus : Bool) → pos i +ℤ moved_elements minus n *ℤ pos e ≡ pos o
        → far_moved_by minus (w + i) (x.index * e % 65536) ≡ w + o
    by_sign false g =
        plus_far w i o (x.lifts.k * e) (x.index * e) (plus_step n x.lifts.k x.index i o e x.lifts.is g) il ol wl
    by_sign true g =
        minus_far w i o (x.lifts.k * e) (x.index * e) (minus_step n x.lifts.k x.index i o e x.lifts.is g) il ol wl

-- ---- sums with known numbers

-- what is taken of a known number is that number modulo 65,536
pub known_index_is : (signed : Bool) (bytes low : ℕ) (number : ℤ) → IsIntegerSize bytes → low ≡ low_bytes bytes number
    → IsIndex (number_of_bytes signed bytes low) (known_index signed bytes (low_bytes 16 number))
known_index_is signed bytes low number size is =
    subst (λ x. IsIndex (number_of_bytes signed bytes low) x) (ap (index_of signed bytes) is ∙ by_size bytes size)
    (index_is signed bytes low size (subst (λ x. x < 256 ^ bytes) (sym is) (low_below bytes number)))
  where
    by_size : (bytes : ℕ) → IsIntegerSize bytes → index_of signed bytes (low_bytes bytes number) ≡ known_index signed bytes (low_bytes 16 number)
    by_size bytes s = ⊎_elim one (λ t. ⊎_elim two four t) s
      where
        Is : ℕ → Type 0
        Is b = index_of signed b (low_bytes b number) ≡ known_index signed b (low_bytes 16 number)

        part : (b : ℕ) → b ≤ 16 → low_bytes 16 number % 256 ^ b ≡ low_bytes b number
        part b l = low_part number b 16 l

        one : bytes ≡ 1 → Is bytes
        one r = subst Is (sym r) (ap (index_of signed 1) (sym (part 1 (omega arith))))

        two : bytes ≡ 2 → Is bytes
        two r =
            let l = part 2 (omega arith) in
            let same : low_bytes 2 number % 65536 ≡ low_bytes 16 number % 65536 = omega (arith, l) in subst Is (sym r) same

        four : bytes ≡ 4 → Is bytes
        four r =
            let l = part 4 (omega arith) in
            let same : low_bytes 4 number % 65536 ≡ low_bytes 16 number % 65536 = omega (arith, l) in subst Is (sym r) same

-- an offset by known bytes is added where these are added or subtracted
pub offset_moves : (minus : Bool) (x d : ℕ) → d < 65536 → (x + known_offset minus d) % 65536 ≡ moved_by minus x d
offset_moves minus x d l =
    ⊎_elim
    (λ (k : d < 32768). let small : nat_lt d 32768 ≡ true = lt-ltb d 32768 k in near minus small)
    (λ (k : 32768 ≤ d). let big : nat_lt d 32768 ≡ false = not_lt d 32768 k in above minus big)
    (cases_lt d 32768)
  where
    near : (minus : Bool) → nat_lt d 32768 ≡ true → (x + known_offset minus d) % 65536 ≡ moved_by minus x d
    near false small = rw small (omega arith)
    near true small = rw small (omega (arith, l))

    above : (minus : Bool) → nat_lt d 32768 ≡ false → (x + known_offset minus d) % 65536 ≡ moved_by minus x d
    above false big = rw big (omega arith)
    above true big = rw big (omega (arith, l))

pub far_offset_moves : (minus : Bool) (x d : ℕ) → d < 65536 → (x + known_offset minus d) % 16777216 ≡ far_moved_by minus x d
far_offset_moves false x d l = refl
far_offset_moves true x d l =
    let most : extended d ≤ 16777216 = at_end (nat_lt d 32768) in
    let same : x + (16777216 - extended d) ≡ x + 16777216 - extended d = omega (arith, most) in
    ap (λ (n : ℕ). n % 16777216) same
  where
    at_end : (small : Bool) → (if small then d else d + 16711680) ≤ 16777216
    at_end true = omega (arith, l)
    at_end false = omega (arith, l)

-- ---- conversions

-- what is converted to a space has a home that the space holds
pub converted_home : (p : PlainProgram) (space : SpaceId) (q : ObjectPointer) (i : IsPointed p q) (s : State) (z : PointerValue)
    → pointer_in_space space (Some q) (referent_of p (Some q) s) ≡ Ok z → holds space i.declared.home ≡ true
converted_home p space q i s z h = by_live (used_ok r.live _ z h)
  where
    r : Referent
    r = referent_of p (Some q) s

    by_space : (b : Bool) → (if b then Ok (Some q) else Err Narrowing) ≡ Ok z → b ≡ true
    by_space true w = refl
    by_space false w = absurd cc

    by_live : (r.live ≡ true) × ((if holds space r.home then Ok (Some q) else Err Narrowing) ≡ Ok z) → holds space i.declared.home ≡ true
    by_live w = ap (holds space) (sym (known p q i s w.0).1) ∙ by_space (holds space r.home) w.1

pub in_space_is : (space : SpaceId) (x : PointerValue) (of : Referent) (z : PointerValue) → pointer_in_space space x of ≡ Ok z → z ≡ x
in_space_is space None of z h = cc
in_space_is space (Some q) of z h = by_space (holds space of.home) (used_ok of.live _ z h).1
  where
    by_space : (b : Bool) → (if b then Ok (Some q) else Err Narrowing) ≡ Ok z → z ≡ Some q
    by_space true w = cc
    by_space false w = absurd cc

-- the third byte changes no byte below it
low_of_tagged : (y t n : ℕ) → n ≤ 2 → (y + t * 65536) % 256 ^ n ≡ y % 256 ^ n
low_of_tagged y t zero l = omega arith
low_of_tagged y t (suc zero) l = omega arith
low_of_tagged y t (suc (suc zero)) l = omega arith
low_of_tagged y t (suc (suc (suc n))) l = absurd (omega arith)

module _ (p : PlainProgram) (place : ℕ → ℕ) (h : HavePlaces p place) where
  pub low_numbers : (bytes other n : ℕ) (x : PointerValue) → n ≤ 2
      → number_of (place_of p place bytes x) % 256 ^ n ≡ number_of (place_of p place other x) % 256 ^ n
  low_numbers bytes other n None l = refl
  low_numbers bytes other n (Some q) l =
      low_of_tagged (place q.object + q.offset) (tag_byte bytes (home_of p q.object)) n l
      ∙ sym (low_of_tagged (place q.object + q.offset) (tag_byte other (home_of p q.object)) n l)

  -- the low two bytes are the address, where it has no more
  pub low_is_offset : (bytes : ℕ) (q : ObjectPointer) → place q.object + q.offset < 65536
      → number_of (place_of p place bytes (Some q)) % 65536 ≡ place q.object + q.offset
  low_is_offset bytes q l = omega (arith, l)

  pub embedded_is : (space : SpaceId) (const : Bool) (to : PlainType) (x : PointerValue) → width space ≡ 2 → IsAddressed p 2 x
      → IsIntoSpace p space x
      → embedded (is_into_data (pointer space const to)) (number_of (place_of p place 2 x)) ≡ number_of (place_of p place 3 x)
  embedded_is space const to None two i u = refl
  embedded_is Generic const to (Some q) two i u = absurd cc
  embedded_is FarFlash const to (Some q) two i u = absurd cc
  embedded_is Flash const to (Some q) two i u = in_bank (home_of p q.object) refl (held_by_space p Flash q i.pointed u)
    where
      in_bank : (b : Bank) → home_of p q.object ≡ b → reaches Flash b ≡ true
          → embedded false (place q.object + q.offset + 0 * 65536) ≡ place q.object + q.offset + tag_of b * 65536
      in_bank DataBank e w = absurd cc
      in_bank FlashBank e w =
          let some : (place q.object + q.offset + 0 * 65536 == 0) ≡ false =
          (let l = address_low p place h q i.pointed in ne_eqb _ 0 (λ z. absurd (omega (arith, l, z)))) in
          rw some (omega arith)
  embedded_is Data const to (Some q) two i u = in_bank (home_of p q.object) refl (held_by_space p Data q i.pointed u)
    where
      in_bank : (b : Bank) → home_of p q.object ≡ b → reaches Data b ≡ true
          → embedded true (place q.object + q.offset + 0 * 65536) ≡ place q.object + q.offset + tag_of b * 65536
      in_bank FlashBank e w = absurd cc
      in_bank DataBank e w =
          let some : (place q.object + q.offset + 0 * 65536 == 0) ≡ false =
          (let l = address_low p place h q i.pointed in ne_eqb _ 0 (λ z. absurd (omega (arith, l, z)))) in
          rw some (omega arith)
