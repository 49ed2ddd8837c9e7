-- What the code of addresses, loads and stores does for its operation.
use Rattle.std.proofs.Common.{◌≡◌, ◌≢◌, ℕ, suc, ◌+◌, ◌*◌, ◌%◌, ◌^◌, ◌<◌, ◌≤◌, Bool, true, false, pos, Ok, Err}
use Rattle.std.proofs.Common.{List, [], ◌∷◌, ◌++◌, ◌&&◌, ⊎_elim, inl, inr, refl, sym, ap, ◌∙◌, subst, arith, Some, None}
use Rattle.std.proofs.Common.{Option, zero, max, ◌⊎◌, ℤ}
use Rattle.std.specs.Prelude.{Result, ◌==◌, nat_le, if◌then◌else◌, slice_get, unwrap_or, option_map, Contains}
use Rattle.std.specs.Prelude.{IsSomeAnd}
use Rattle.std.specs.Prelude.{int_le, ◌+ℤ◌}
use Rattle.std.proofs.lemmas.Bool.{eqb-true, eq-eqb, leb-true, and_parts, or_left, cases_lt}
use Rattle.ec_space.specs.declared.Core.{Core}
use Rattle.ec_space.specs.declared.Core.TheVariants.{Small, Large}
use Rattle.ec_space.specs.declared.space.Bank.{Bank}
use Rattle.ec_space.specs.declared.space.Bank.TheVariants.{Flash as FlashBank, Data as DataBank}
use Rattle.ec_space.specs.declared.space.Home.{Home}
use Rattle.ec_space.specs.declared.space.Home.TheVariants.{Flash as FlashHome, Far as FarHome, Data as DataHome}
use Rattle.ec_space.specs.declared.space.SpaceId.{SpaceId}
use Rattle.ec_space.specs.declared.space.SpaceId.TheVariants.{Flash, FarFlash, Data, Generic}
use Rattle.ec_space.specs.Spaces.{bank_of, width}
use Rattle.ec_asm.specs.declared.items.AsmItem.{AsmItem}
use Rattle.ec_asm.specs.declared.pieces.Location.{Location}
use Rattle.ec_asm.specs.declared.pieces.Location.TheVariants.{InRegisters}
use Rattle.ec_asm.specs.View.{View}
use Rattle.ec_asm.specs.Change.{Env, Own, Object}
use Rattle.ec_asm.specs.Items.{HasAt, block, code_steps, all_straight}
use Rattle.ec_asm.specs.Pieces.{StandsFrom, Outside, value, copy_code}
use Rattle.ec_asm.specs.PieceLaws.{HoldsNumbers}
use Rattle.ec_asm.proofs.Hoare.{has_parts, block-append, straight-append, steps-append}
use Rattle.ec_asm.proofs.Numbers.{value_mod}
use Rattle.ec_core.specs.declared.values.ObjectPointer.{ObjectPointer}
use Rattle.ec_core.specs.declared.values.Undefined.TheVariants.{PointerRange}
use Rattle.ec_core.specs.declared.values.Referent.{Referent}
use Rattle.ec_core.specs.declared.values.Undefined.{Undefined}
use Rattle.ec_core.specs.declared.values.Value.{Value}
use Rattle.ec_core.specs.declared.values.Value.TheVariants.{Pointer}
use Rattle.ec_core.specs.Accesses.{read, leaf_of, is_live_in, nothing_known, referent_of}
use Rattle.ec_core.specs.Layout.{size_of_type}
use Rattle.ec_core.specs.Plain.{PlainStorage, static, local, param, register, PlainObject, PlainProgram}
use Rattle.ec_core.specs.Pointers.{Pointer as PointerValue, moved, displaced, used}
use Rattle.ec_core.specs.State.{State, ObjectState, Outcome, next, given}
use Rattle.ec_core.specs.Valid.{IsAddressable}
use Rattle.ec_core.proofs.Homes.{home_in_data}
use Rattle.ec_ir.specs.declared.operations.Temp.{Temp}
use Rattle.ec_ir.specs.Costs.{op_steps}
use Rattle.ec_ir.specs.Meaning.{Mach, machine, object_access}
use Rattle.ec_ir.specs.Meaning.{put, put_named, is_among, is_kept, before_store, kept_for, active, Frame as Call}
use Rattle.ec_ir.specs.Operations.{PlainIr, address, field, load_at, store_at, load_object, store_object}
use Rattle.ec_ir.specs.Operations.{PlainIrFunction}
use Rattle.ec_ir.specs.Valid.{IsParameterOf}
use Rattle.ec_ir_known.specs.declared.known.RightNumber.{RightNumber}
use Rattle.ec_ir.specs.Temporaries.{low_bytes, bits, Content, points, value_of_type, Held, Temps, content_of, held, with_temp, with_content}
use Rattle.ec_select_pointers.specs.Addresses.{pointer_bytes, address_code, field_code}
use Rattle.ec_select_pointers.specs.AddressLaws.{HasPut, IsTag, pointer_number}
use Rattle.ec_select_pointers.specs.Accesses.{load_table_code}
use Rattle.ec_select_pointers.specs.Far.{far_address_code, field_far_code, load_far_table_code}
use Rattle.ec_select_bytes.specs.Values.{byte_of}
use Rattle.ec_select_places.specs.Steps.{z_pair}
use Rattle.ec_select_operations.specs.declared.families.Told.TheVariants.{Index}
use Rattle.ec_select_operations.specs.Code.{Linkage, is_far, is_whole_address, by_kind, banked_code, load_index_code, object_code, own_code}
use Rattle.ec_select_operations.specs.Code.{ops_code}
use Rattle.ec_select_functions.specs.Covered.{HasScalarAt, IsStoredIn, IsAddress, IsInto}
use Rattle.ec_select_operations.specs.Homes.{HasHome}
use Rattle.ec_select_operations.specs.Needs.{Need, Facts, facts_of, needs, wanted, at_least, without, loaded_bytes}
use Rattle.ec_select_operations.specs.Needs.{number_known, numbered, right_needed}
use Rattle.ec_select_operations.specs.Stores.{store_object_code, store_number_code}
use Rattle.ec_select_operations.specs.Places.{location_in, kind_in, object_location, ObjectLeaf}
use Rattle.ec_select_operations.specs.Pointers.{home_of, kept_in, tag_of, tag_in, number_with, address_number}
use Rattle.ec_select_operations.specs.Pointers.{has_tables, IsPointerSize, IsPointed, IsPointerIn}
use Rattle.ec_select_operations.proofs.Kept.{kept_there}
use Rattle.ec_select_functions.specs.Standing.{address_end}
use Rattle.ec_select_functions.specs.Relation.{AreFrames, Matches, HoldsLeaf, HoldsContent}
use Rattle.ec_select_functions.proofs.Accesses.{leaf_with, home_is, recorded_work, table_kind, leaf_stands}
use Rattle.ec_select_functions.proofs.Accesses.{after_read, after_write, load_matches, load_brings, store_matches}
use Rattle.ec_select_functions.proofs.Accesses.{number_store_matches}
use Rattle.ec_select_functions.proofs.Stores.{store_straight, store_steps, all_needed, stored_more}
use Rattle.ec_select_functions.proofs.Accesses.{load_aside_matches, load_aside_brings}
use Rattle.ec_select_functions.proofs.Accesses.{store_brings}
use Rattle.ec_select_functions.proofs.Follow.{Follows, after}
use Rattle.ec_select_functions.proofs.Going.{passes as passes_of, items as items_of, own_items as own_items_of}
use Rattle.ec_select_functions.proofs.Going.{code_of as code_from, R as run_of, goes_past}
use Rattle.ec_select_functions.proofs.Going.{P as operation_of}
use Rattle.ec_select_functions.proofs.Going.{Rest as ShownOf, begun as begun_of, IsRunning}
use Rattle.ec_select_functions.proofs.Match.{wanted_most, whole, at_width, least_here, least_other, without_other}
use Rattle.ec_select_functions.proofs.Match.{written, written_wide, kept_matches}
use Rattle.ec_select_functions.proofs.Match.{kept_left, held_row}
use Rattle.ec_select_functions.proofs.Moves.{off_low_work, off_high_work, narrower, stands_less, copy_straight, copy_steps}
use Rattle.ec_select_functions.proofs.PointerNumbers.{small_end, data_end, greatest_end}
use Rattle.ec_select_functions.proofs.Pointed.{IsAddressedBy, HasRoom, addressable_kind, typed_leaf, room_of, tag_below}
use Rattle.ec_select_functions.proofs.Pointed.{address_held, pointed_below, home_of_object}
use Rattle.ec_select_functions.proofs.Reached.{table_among, loads, leaf_there, loads_table, loads_table_to, stores}
use Rattle.ec_select_functions.proofs.Reached.{access_to, Reaches, from_access}
use Rattle.ec_select_functions.proofs.Reached.{from_pointer, from_read, from_put, from_no_access, leaves_z}
use Rattle.ec_select_functions.proofs.Setting.{Setting, frames_active}
use Rattle.ec_select_functions.proofs.Wrapped.{value_of_bytes, low_part, low_below}

-- ---- pointers

-- the number of a pointer with an address modulo 65,536: in two bytes, and in three where the address has no more
near_number : (n at : ℕ) (bank : Bank) → IsPointerSize n → (n ≡ 3 → at < 65536)
    → pointer_number (at % 65536) (tag_in n bank) ≡ number_with at (tag_in n bank)
near_number n at bank size low =
    ⊎_elim
    (λ (q : n ≡ 2). subst (λ (b : ℕ). pointer_number (at % 65536) (tag_in b bank) ≡ number_with at (tag_in b bank)) (sym q)
    (omega arith))
    (λ (q : n ≡ 3).
    let l = low q in
    subst (λ (b : ℕ). pointer_number (at % 65536) (tag_in b bank) ≡ number_with at (tag_in b bank)) (sym q) (omega (arith, l)))
    size

-- that of three bytes into flash is the address
flash_number : (at : ℕ) → at ≡ number_with at (tag_in 3 FlashBank)
flash_number at = omega arith

-- a pointer's bytes from its address, and the tag where the address has no more than two bytes
pointer_made : (f : ℕ → ℕ) (a n at : ℕ) (bank : Bank) → IsPointerSize n → value f a 2 ≡ at % 65536
    → (n ≡ 3 → (at < 65536) × (f (a + 2) ≡ tag_of bank)) → value f a n ≡ number_with at (tag_in n bank)
pointer_made f a n at bank size low tag =
    ⊎_elim
    (λ (q : n ≡ 2). subst (λ (b : ℕ). value f a b ≡ number_with at (tag_in b bank)) (sym q) low)
    (λ (q : n ≡ 3).
    let small = (tag q).0 in
    let top : f (a + 2) ≡ tag_of bank = (tag q).1 in
    let three : value f a 2 + f (a + 2) * 65536 ≡ at + tag_of bank * 65536 = rw (low, top) (omega (arith, small)) in
    subst (λ (b : ℕ). value f a b ≡ number_with at (tag_in b bank)) (sym q) three)
    size

-- what a temporary holds that was just written
held_there : (t : Temp) (content : Content) (temps : Temps) (x : Held) → with_content t content temps t.at ≡ Some x
    → record { bytes = t.bytes; content = content } ≡ x
held_there t content temps x q =
    let here : with_content t content temps t.at ≡ Some (record { bytes = t.bytes; content = content }) =
    ap (λ (b : Bool). if b then Some (record { bytes = t.bytes; content = content }) else temps t.at) (eq-eqb t.at t.at refl) in
    let same : Some (record { bytes = t.bytes; content = content }) ≡ Some x = sym here ∙ q in
    let is : record { bytes = t.bytes; content = content } ≡ x = cc in is

-- the low bytes of a pointer are those of its address
pub low_of_number : (n at k : ℕ) (bank : Bank) → k ≤ 2 → at % 65536 % 256 ^ k ≡ number_with at (tag_in n bank) % 256 ^ k
low_of_number n at k bank l = by_tag (tag_in n bank)
  where
    tagged : (tag k : ℕ) → k ≤ 2 → at % 65536 % 256 ^ k ≡ (at + tag * 65536) % 256 ^ k
    tagged tag zero l = omega arith
    tagged tag (suc zero) l = omega arith
    tagged tag (suc (suc zero)) l = omega arith
    tagged tag (suc (suc (suc k))) l = absurd (omega arith)

    by_tag : (tag : Option ℕ) → at % 65536 % 256 ^ k ≡ number_with at tag % 256 ^ k
    by_tag None = refl
    by_tag (Some tag) = tagged tag k l

-- the low two bytes of a sum of three
low_of_three : (x s y r d : ℕ) → x < 65536 → x + s * 65536 ≡ (y + r * 65536 + d) % 16777216 → x ≡ (y + d) % 65536
low_of_three x s y r d l h = omega (arith, l, h)

-- so many bytes of a pointer are made of which so many are needed
made_bytes : (n k : ℕ) → IsPointerSize n → k ≤ n → IsPointerSize (max 2 k) × (max 2 k ≤ n)
made_bytes n k size l =
    ⊎_elim
    (λ (few : k < 3). (inl (omega (arith, few)), ⊎_elim (λ (q : n ≡ 2). omega (arith, few, q)) (λ (q : n ≡ 3). omega (arith, few, q)) size))
    (λ (more : 3 ≤ k). ⊎_elim (λ (q : n ≡ 2). absurd (omega (arith, more, q, l)))
    (λ (q : n ≡ 3). (inr (omega (arith, more, q, l)), omega (arith, more, q, l))) size)
    (cases_lt k 3)

-- three where three are
all_made : (n k : ℕ) → IsPointerSize n → k ≤ n → 3 ≤ k → n ≡ max 2 k
all_made n k size l more =
    ⊎_elim (λ (q : n ≡ 2). absurd (omega (arith, more, q, l))) (λ (q : n ≡ 3). omega (arith, more, q, l)) size

-- ---- cores

-- a pointer of two bytes has no whole address
never_whole : (core : Core) (bank : Bank) → is_whole_address core 2 bank ≡ false
never_whole Small FlashBank = refl
never_whole Large FlashBank = refl
never_whole core DataBank = refl

-- where a pointer has a whole address
far_pointer : (core : Core) (bytes : ℕ) → is_far core bytes ≡ true → (core ≡ Large) × (bytes ≡ 3)
far_pointer Small bytes h = absurd (cc)
far_pointer Large bytes h = (refl, eqb-true bytes 3 h)

whole_address : (core : Core) (bytes : ℕ) (bank : Bank) → is_whole_address core bytes bank ≡ true
    → (core ≡ Large) × (bytes ≡ 3) × (bank ≡ FlashBank)
whole_address core bytes FlashBank h = let f = far_pointer core bytes h in (f.0, f.1, refl)
whole_address core bytes DataBank h = absurd (cc)

near_core : (core : Core) → is_far core 3 ≡ false → core ≡ Small
near_core Small h = refl
near_core Large h = absurd (cc)

-- and where one of three bytes has none, its address has no more than two
near_address : (core : Core) (bytes : ℕ) (bank : Bank) (home : Home) → bank ≡ bank_of home → is_whole_address core bytes bank ≡ false
    → bytes ≡ 3 → address_end core home ≡ 65536
near_address Small bytes bank home is h q = small_end Small home refl
near_address Large bytes DataBank home is h q = data_end Large home (sym is)
near_address Large bytes FlashBank home is h q = let no : (bytes == 3) ≡ true = eq-eqb bytes 3 q in absurd (cc)

-- the bytes of a pointer with a tag or without one
tag_bytes : (n : ℕ) (bank : Bank) → IsPointerSize n → pointer_bytes (tag_in n bank) ≡ n
tag_bytes n bank size =
    ⊎_elim
    (λ (q : n ≡ 2). subst (λ (b : ℕ). pointer_bytes (tag_in b bank) ≡ b) (sym q) refl)
    (λ (q : n ≡ 3). subst (λ (b : ℕ). pointer_bytes (tag_in b bank) ≡ b) (sym q) refl)
    size

is_tag : (n : ℕ) (bank : Bank) → IsTag (tag_in n bank)
is_tag n bank = by_test (n == 3)
  where
    fits : (bank : Bank) → tag_of bank < 256
    fits FlashBank = omega arith
    fits DataBank = omega arith

    by_test : (b : Bool) → IsTag (if b then Some (tag_of bank) else None)
    by_test true = fits bank
    by_test false = tt

width_is : (space : SpaceId) → IsPointerSize (width space)
width_is Flash = inl refl
width_is Data = inl refl
width_is FarFlash = inr refl
width_is Generic = inr refl

pub pointer_size : (space : SpaceId) (n : ℕ) → n ≡ width space → IsPointerSize n
pointer_size space n q = subst IsPointerSize (sym q) (width_is space)

pub some_bytes : (n : ℕ) → IsPointerSize n → (2 ≤ n) × (n ≤ 3)
some_bytes n size = ⊎_elim (λ (q : n ≡ 2). (omega arith, omega arith)) (λ (q : n ≡ 3). (omega arith, omega arith)) size

-- a load takes all bytes of a pointer, or two
loaded_cases : (space : SpaceId) (in_flash : Bool) (bytes : ℕ)
    → (loaded_bytes space in_flash bytes ≡ bytes) ⊎ (loaded_bytes space in_flash bytes ≡ 2)
loaded_cases Generic false bytes = inr refl
loaded_cases Generic true bytes = inl refl
loaded_cases Flash in_flash bytes = inl refl
loaded_cases FarFlash in_flash bytes = inl refl
loaded_cases Data in_flash bytes = inl refl

loaded_within : (space : SpaceId) (in_flash : Bool) (bytes : ℕ) → IsPointerSize bytes → loaded_bytes space in_flash bytes ≤ bytes
loaded_within space in_flash bytes size =
    let two = (some_bytes bytes size).0 in
    ⊎_elim (λ (q : loaded_bytes space in_flash bytes ≡ bytes). omega (arith, q))
    (λ (q : loaded_bytes space in_flash bytes ≡ 2). omega (arith, q, two)) (loaded_cases space in_flash bytes)

module _ (p : PlainProgram) (functions : List PlainIrFunction) (e : Env) (slots : ℕ) (home : Temp → Location)
    (base : Temp → ℕ) (place : ℕ → ℕ) (y : Setting p e slots home base place) (labels : ℕ → Need) (all : List PlainIr)
    (end : ℕ) (results : ℕ → ℕ) (me : ℕ) (link : Linkage) (stack : List Call) where
  -- what the code of the function is made by
  abbrev at : Facts
  at = facts_of (has_tables p.objects) labels all

  abbrev M : Need → Mach → View → Type 0
  M need m v = Matches p e y.inputs slots base place y.aside y.stands y.active y.called need m v

  abbrev G : (n w pc : ℕ) → View → Outcome Value → Type 0
  G n w pc v o = Follows p place e n w pc v o

  abbrev items : List PlainIr → List AsmItem
  items code = items_of p functions e slots home base place y labels all end results me link stack code

  abbrev own_items : PlainIr → List PlainIr → List AsmItem
  own_items i rest = own_items_of p functions e slots home base place y labels all end results me link stack i rest

  abbrev code_of : PlainIr → List PlainIr → List AsmItem
  code_of i rest = code_from p functions e slots home base place y labels all end results me link stack i rest

  abbrev R : ℕ → List PlainIr → Mach → Outcome Value
  R n rest m = run_of p functions e slots home base place y labels all end results me link stack n rest m

  abbrev P : ℕ → PlainIr → List PlainIr → Mach → Outcome Value
  P n i rest m = operation_of p functions e slots home base place y labels all end results me link stack n i rest m

  abbrev Rest : ℕ → List PlainIr → Type 0
  Rest n rest = ShownOf p functions e slots home base place y labels all end results me link stack n rest

  abbrev begun : PlainIr → Mach → State
  begun i m = begun_of p functions e slots home base place y labels all end results me link stack i m

  passes : (i : PlainIr) (rest : List PlainIr) (n n1 w w1 pc : ℕ) (v : View) (o : Outcome Value)
      → HasAt e (code_of i rest ++ items rest) pc end → all_straight (code_of i rest) ≡ true
      → n1 ≤ code_steps (code_of i rest) + n → w + code_steps (code_of i rest) ≤ w1
      → ((mid : ℕ) → HasAt e (items rest) mid end → G n w1 mid (block e (code_of i rest) v) o) → G n1 w pc v o
  passes = passes_of p functions e slots home base place y labels all end results me link stack

  -- ---- addresses

  pub address_follows : (t : Temp) (o offset : ℕ) (rest : List PlainIr) (n pc : ℕ) (m : Mach) (v : View)
      → IsAddress p slots t o offset → HasAt e (own_items (address t o offset) rest) pc end
      → M (needs at (address t o offset ∷ rest)) m v → link.core ≡ e.core → Rest (suc n) rest
      → G (suc n) m.state.work pc v (P n (address t o offset) rest m)
  address_follows t o offset rest n pc m v is stands h one_core f =
      passes i rest (suc n) (suc n) m.state.work m1.state.work pc v (R (suc n) rest m1) stands (straight (k == 0) whole) (omega arith)
      (let few = steps (k == 0) whole in let some = it.some in omega (arith, few, some))
      (λ mid s. f mid m1 _ s (matches (k == 0) whole refl refl))
    where
      i : PlainIr
      i = address t o offset

      it : HasHome slots t
      it = is.result

      need : Need
      need = needs at rest

      k : ℕ
      k = wanted need t

      q : ObjectPointer
      q = record { object = o; instance = 0; offset = offset }

      bank : Bank
      bank = home_of p o

      -- so many bytes are made
      c : ℕ
      c = max 2 k

      made : IsPointerSize c × (c ≤ t.bytes)
      made = made_bytes t.bytes k is.size (wanted_most need t)

      tag : Option ℕ
      tag = tag_in t.bytes bank

      whole : Bool
      whole = is_whole_address link.core c bank

      code_in : ℕ → Bool → List AsmItem
      code_in n far = if far then far_address_code o offset (home t) else address_code o offset (tag_in n bank) (home t)

      code : Bool → List AsmItem
      code far = code_in c far

      m1 : Mach
      m1 = machine (with_content t (points q) m.temps) (begun i m)

      size : pointer_bytes tag ≡ t.bytes
      size = tag_bytes t.bytes bank is.size

      straight : (b far : Bool) → all_straight (if b then [] else code far) ≡ true
      straight true far = refl
      straight false true = (y.pointers.far.straight o offset (home t) (home t) 0).0
      straight false false = (y.pointers.straight o offset (tag_in c bank) (home t) (home t) 0).0

      steps : (b far : Bool) → code_steps (if b then [] else code far) ≤ 6
      steps true far = omega arith
      steps false true = let take = (y.pointers.far.take o offset (home t) (home t) 0).0.1 in omega (arith, take)
      steps false false =
          let take = (y.pointers.take o offset (tag_in c bank) (home t) (home t) 0).0.1 in
          let few = (some_bytes c made.0).1 in
          let bytes = tag_bytes c bank made.0 in
          omega (arith, take, bytes, few)

      pointed : IsPointerIn p t.bytes q
      pointed = record {
        pointed = record {
          declared = is.declared;
          is_object = is.is_object;
          addressable = is.addressable;
          instance = refl;
          within = is.within;
        };
        size = is.size;
        of = is.of;
      }

      room : HasRoom p e slots home base place y is.declared.home o (size_of_type p.structs is.declared.ty)
      room = room_of p e slots home base place y o is.declared is.is_object is.addressable

      bank_is : bank ≡ bank_of is.declared.home
      bank_is = home_of_object p o is.declared is.is_object

      stays : (b : ℕ) → b ≢ t.at → need b ≤ without t.at need b
      stays b d = without_other t.at b need d

      -- the pointer has been put
      put_matches : (v1 : View) → HasPut v (base t) t.bytes (address_number p place t.bytes o offset) v1 → M need m1 v1
      put_matches v1 put =
          let numbers = put.numbers h.bytes in
          let held = held_row v1 (base t) t.bytes (y.layout.temps_at t it).clear numbers in
          let here : value v1.at (base t) k ≡ address_number p place t.bytes o offset % 256 ^ k =
          sym (value_mod v1.at (base t) k t.bytes (wanted_most need t) held) ∙ ap (λ b. b % 256 ^ k) put.number_is in
          written_wide p e slots home base place y t (points q) need (without t.at need) m (begun i m) v v1 it h stays
          (λ j a b low high d. put.same j (off_low_work j high) (off_high_work j high) d) (here, pointed) numbers refl (put.seen ∙ h.seen)
          (kept_left y.inputs m.state v v1 put.inputs h.left) (put.safe ∙ h.safe)

      -- two bytes of it have been put, of which no more are needed
      put_low : (v1 : View) → k < 3 → HasPut v (base t) 2 ((place o + offset) % 65536) v1 → M need m1 v1
      put_low v1 few put =
          let numbers = put.numbers h.bytes in
          let held = held_row v1 (base t) 2 (y.layout.temps_at t it).clear numbers in
          let two = (some_bytes t.bytes is.size).0 in
          let here : value v1.at (base t) k ≡ address_number p place t.bytes o offset % 256 ^ k =
          sym (value_mod v1.at (base t) k 2 (omega (arith, few)) held) ∙ ap (λ b. b % 256 ^ k) put.number_is
          ∙ low_of_number t.bytes (place o + offset) k bank (omega (arith, few)) in
          written_wide p e slots home base place y t (points q) need (without t.at need) m (begun i m) v v1 it h stays
          (λ j a b low high d. put.same j (off_low_work j high) (off_high_work j high) (narrower (base t) t.bytes 2 j two d))
          (here, pointed) numbers refl (put.seen ∙ h.seen)
          (kept_left y.inputs m.state v v1 put.inputs h.left) (put.safe ∙ h.safe)

      low_matches : k < 3 → M need m1 (block e (code_in 2 false) v)
      low_matches few =
          let two = (some_bytes t.bytes is.size).0 in
          let v1 = block e (code_in 2 false) v in
          let done = (y.pointers.addresses e (home t) o offset (base t) None v tt
          (stands_less e (home t) t.bytes 2 (base t) Own two (y.layout.temps_at t it))
          (leaves_z (base t) t.bytes 2 two (y.layout.temps_work t it)).low).0 in
          let number : pointer_number (e.address_of o offset) None ≡ (place o + offset) % 65536 =
          ap (λ (b : ℕ). pointer_number b None) (room.at offset is.within)
          ∙ near_number 2 (place o + offset) bank (inl refl) (λ q3. absurd (omega (arith, q3))) in
          put_low v1 few (subst (λ (b : ℕ). HasPut v (base t) 2 b v1) number done)

      -- all its bytes are put
      all_matches : (far : Bool) → is_whole_address link.core t.bytes bank ≡ far → M need m1 (block e (code_in t.bytes far) v)
      all_matches true told =
          let w = whole_address link.core t.bytes bank told in
          let large : e.core ≡ Large = sym one_core ∙ w.0 in
          let three : t.bytes ≡ 3 = w.1 in
          let flash : bank_of is.declared.home ≡ FlashBank = sym bank_is ∙ w.2 in
          let there : e.far_of o offset ≡ place o + offset = room.far large flash offset is.within in
          let low : e.address_of o offset ≡ e.far_of o offset % 65536 = room.at offset is.within ∙ ap (λ b. b % 65536) (sym there) in
          let end = room.end in
          let most = greatest_end e.core is.declared.home in
          let within = is.within in
          let small : e.far_of o offset < 16777216 = omega (arith, there, end, most, within) in
          let stand : StandsFrom e (home t) 3 (base t) Own =
          subst (λ (b : ℕ). StandsFrom e (home t) b (base t) Own) three (y.layout.temps_at t it) in
          let clear : Outside (base t) 3 30 =
          subst (λ (b : ℕ). Outside (base t) b 30) three (leaves_z (base t) t.bytes t.bytes (omega arith) (y.layout.temps_work t it)).low in
          let done = (y.pointers.far.addresses e (home t) o offset (base t) v low small stand clear).0 in
          let number : e.far_of o offset ≡ address_number p place 3 o offset =
          there ∙ flash_number (place o + offset) ∙ ap (λ (b : Bank). number_with (place o + offset) (tag_in 3 b)) (sym w.2) in
          let v1 = block e (code_in t.bytes true) v in
          put_matches v1
          (subst (λ (b : ℕ). HasPut v (base t) b (address_number p place b o offset) v1) (sym three)
          (subst (λ (b : ℕ). HasPut v (base t) 3 b v1) number done))
      all_matches false told =
          let stand : StandsFrom e (home t) (pointer_bytes tag) (base t) Own =
          subst (λ (b : ℕ). StandsFrom e (home t) b (base t) Own) (sym size) (y.layout.temps_at t it) in
          let clear : Outside (base t) (pointer_bytes tag) 30 =
          subst (λ (b : ℕ). Outside (base t) b 30) (sym size)
          (leaves_z (base t) t.bytes t.bytes (omega arith) (y.layout.temps_work t it)).low in
          let v1 = block e (code_in t.bytes false) v in
          let done = (y.pointers.addresses e (home t) o offset (base t) tag v (is_tag t.bytes bank) stand clear).0 in
          let put : HasPut v (base t) t.bytes (pointer_number (e.address_of o offset) tag) v1 =
          subst (λ (b : ℕ). HasPut v (base t) b (pointer_number (e.address_of o offset) tag) v1) size done in
          let small : t.bytes ≡ 3 → place o + offset < 65536 =
          λ three.
          (let near = near_address link.core t.bytes bank is.declared.home bank_is told three in
          let end = room.end in
          let last : address_end e.core is.declared.home ≡ 65536 = ap (λ c. address_end c is.declared.home) (sym one_core) ∙ near in
          let within = is.within in
          omega (arith, end, last, within)) in
          let number : pointer_number (e.address_of o offset) tag ≡ address_number p place t.bytes o offset =
          ap (λ (b : ℕ). pointer_number b tag) (room.at offset is.within) ∙ near_number t.bytes (place o + offset) bank is.size small in
          put_matches v1 (subst (λ (b : ℕ). HasPut v (base t) t.bytes b v1) number put)

      matches : (b far : Bool) → (k == 0) ≡ b → whole ≡ far → M need m1 (block e (if b then [] else code far) v)
      matches false far some told =
          ⊎_elim
          (λ (few : k < 3).
          let two : c ≡ 2 = omega (arith, few) in
          let near : far ≡ false = sym told ∙ ap (λ n. is_whole_address link.core n bank) two ∙ never_whole link.core bank in
          subst (λ x. M need m1 (block e (code x) v)) (sym near)
          (subst (λ n. M need m1 (block e (code_in n false) v)) (sym two) (low_matches few)))
          (λ (more : 3 ≤ k).
          let all_bytes : t.bytes ≡ c = all_made t.bytes k is.size (wanted_most need t) more in
          subst (λ n. M need m1 (block e (code_in n far) v)) all_bytes
          (all_matches far (ap (λ n. is_whole_address link.core n bank) all_bytes ∙ told)))
          (cases_lt k 3)
      matches true far none told =
          let zero_wanted : k ≡ 0 = eqb-true k 0 none in
          let number = address_number p place t.bytes o offset in
          let nothing : value v.at (base t) k ≡ number % 256 ^ k =
          subst (λ (b : ℕ). value v.at (base t) b ≡ number % 256 ^ b) (sym zero_wanted) (omega arith) in
          written p e slots home base place y t (points q) need (without t.at need) m (begun i m) v v it h stays (λ j a b c d. refl)
          (nothing, pointed) h.bytes refl h.seen h.left h.safe

  -- ---- fields

  -- what is known of a displaced pointer
  pub record IsFurther (q : ObjectPointer) (size offset : ℕ) (r : PointerValue) : Type 0 where
    pub is : r ≡ Some (record { object = q.object; instance = q.instance; offset = q.offset + offset })
    pub within : q.offset + offset ≤ size

  further : (q : ObjectPointer) (size offset : ℕ) (r : PointerValue)
      → displaced q size (pos q.offset +ℤ pos offset) ≡ Ok r → IsFurther q size offset r
  further q size offset r is =
      by_test (int_le (pos 0) (pos (q.offset + offset)) && int_le (pos (q.offset + offset)) (pos size)) refl is
    where
      to : ObjectPointer
      to = record { object = q.object; instance = q.instance; offset = q.offset + offset }

      by_test : (b : Bool) → (int_le (pos 0) (pos (q.offset + offset)) && int_le (pos (q.offset + offset)) (pos size)) ≡ b
          → (if b then Ok (Some to) else Err PointerRange) ≡ Ok r → IsFurther q size offset r
      by_test true t is =
          let parts = and_parts (int_le (pos 0) (pos (q.offset + offset))) (int_le (pos (q.offset + offset)) (pos size)) t in
          record { is = (let z : Ok (Some to) ≡ Ok r = is in cc); within = leb-true (q.offset + offset) size parts.1 }
      by_test false t is = absurd (cc)

  pub moved_further : (q : ObjectPointer) (k : IsPointed p q) (s : State) (offset : ℕ) (r : PointerValue)
      → moved (Some q) (referent_of p (Some q) s) (pos offset) ≡ Ok r
      → IsFurther q (size_of_type p.structs k.declared.ty) offset r
  moved_further q k s offset r h = at_object (slice_get s.objects q.object) (sym known ∙ h)
    where
      size : ℕ
      size = size_of_type p.structs k.declared.ty

      of : Option ObjectState → Referent
      of z = unwrap_or (option_map (λ x. record { live = is_live_in q x; size = size; home = k.declared.home }) z) nothing_known

      known : moved (Some q) (referent_of p (Some q) s) (pos offset) ≡ moved (Some q) (of (slice_get s.objects q.object)) (pos offset)
      known = rw (k.is_object) refl

      by_live : (b : Bool) → used b (displaced q size (pos q.offset +ℤ pos offset)) ≡ Ok r → IsFurther q size offset r
      by_live true h = further q size offset r h
      by_live false h = absurd (cc)

      at_object : (z : Option ObjectState) → moved (Some q) (of z) (pos offset) ≡ Ok r → IsFurther q size offset r
      at_object None h = absurd (cc)
      at_object (Some x) h = by_live (is_live_in q x) h

  pub field_follows : (ptr : Temp) (space : SpaceId) (offset : ℕ) (rest : List PlainIr) (n pc : ℕ) (m : Mach) (v : View)
      → IsInto slots space ptr → HasAt e (code_of (field ptr space offset) rest ++ items rest) pc end
      → M (needs at (field ptr space offset ∷ rest)) m v → link.core ≡ e.core → Rest (suc n) rest
      → G (suc n) m.state.work pc v (P n (field ptr space offset) rest m)
  field_follows ptr space offset rest n pc m v into stands h one_core f =
      from_pointer p e slots home base place y ptr m.temps s _ (suc n) m.state.work pc v tt
      (λ q i. by_moved q (at_width p e slots home base place y need0 m v ptr _ c h into.0 i refl enough)
      (moved (Some q) (referent_of p (Some q) s) (pos offset)) refl)
    where
      s : State
      s = begun (field ptr space offset) m

      need : Need
      need = needs at rest

      a : ℕ
      a = base ptr

      two : 2 ≤ ptr.bytes
      two = (some_bytes ptr.bytes (pointer_size space ptr.bytes into.1)).0

      size : IsPointerSize ptr.bytes
      size = pointer_size space ptr.bytes into.1

      need0 : Need
      need0 = at_least ptr.at 2 need

      -- so many bytes are needed behind, and before
      b : ℕ
      b = wanted need ptr

      c : ℕ
      c = max 2 b

      enough : c ≤ wanted need0 ptr
      enough =
          let x = least_here ptr.at 2 need in
          let z = least_other ptr.at 2 ptr.at need in
          omega (arith, x, z, two)

      far : Bool
      far = is_far link.core ptr.bytes

      code : Bool → List AsmItem
      code far = if far then field_far_code (home ptr) offset else field_code (home ptr) offset

      straight : (far : Bool) → all_straight (code far) ≡ true
      straight true = (y.pointers.far.straight 0 offset (home ptr) (home ptr) 0).1
      straight false = (y.pointers.straight 0 offset None (home ptr) (home ptr) 0).1

      steps : (far : Bool) → code_steps (code far) ≤ 9
      steps true = (y.pointers.far.take 0 offset (home ptr) (home ptr) 0).1.1
      steps false = let take = (y.pointers.take 0 offset None (home ptr) (home ptr) 0).1.1 in omega (arith, take)

      clear : (n : ℕ) → n ≤ ptr.bytes → Outside a n 30
      clear n l = (leaves_z a ptr.bytes n l (y.layout.temps_work ptr into.0)).low

      clear_high : (n : ℕ) → n ≤ ptr.bytes → Outside a n 31
      clear_high n l = (leaves_z a ptr.bytes n l (y.layout.temps_work ptr into.0)).high

      stays : (j : ℕ) → j ≢ ptr.at → need j ≤ need0 j
      stays j d = least_other ptr.at 2 j need

      number_at : ObjectPointer → ℕ
      number_at q = address_number p place ptr.bytes q.object (q.offset + offset)

      -- the code leaves the number of the pointer further on
      put_near : (q : ObjectPointer) → HoldsContent p place v.at a ptr.bytes ptr.bytes (points q)
          → (ptr.bytes ≡ 3 → place q.object + (q.offset + offset) < 65536) → HasPut v a ptr.bytes (number_at q) (block e (code false) v)
      put_near q k small =
          let w = block e (code false) v in
          let bank = home_of p q.object in
          let stand = stands_less e (home ptr) ptr.bytes 2 a Own two (y.layout.temps_at ptr into.0) in
          let put = y.pointers.fields e (home ptr) offset a v stand (clear 2 two) h.bytes in
          let was = address_held p e slots home base place y v ptr q h.bytes into.0 k in
          let from = place q.object + q.offset in
          let before = was.low in
          let low : value w.at a 2 ≡ (place q.object + (q.offset + offset)) % 65536 =
          put.number_is ∙ ap (λ (b : ℕ). (b + offset) % 65536) was.low ∙ omega arith in
          let tag : ptr.bytes ≡ 3 → (place q.object + (q.offset + offset) < 65536) × (w.at (a + 2) ≡ tag_of bank) =
          λ q3.
          (let few = small q3 in
          let whole = was.whole q3 in
          let outside = clear 3 (omega (arith, q3)) in
          let outside_high = clear_high 3 (omega (arith, q3)) in
          let other : a + 2 ≢ 30 = λ r. let o = outside (omega (arith, r)) in omega (arith, o, r) in
          let high : a + 2 ≢ 31 = λ r. let o = outside_high (omega (arith, r)) in omega (arith, o, r) in
          let top : v.at (a + 2) ≡ tag_of bank = omega (arith, whole, before, few) in
          (few, put.same (a + 2) other high (λ l. omega arith) ∙ top)) in
          record {
            number_is = pointer_made w.at a ptr.bytes (place q.object + (q.offset + offset)) bank k.1.size low tag;
            numbers = put.numbers;
            same = λ j x z o. put.same j x z (narrower a ptr.bytes 2 j two o);
            inputs = put.inputs;
            safe = put.safe;
            seen = put.seen;
          }

      put_far : (q : ObjectPointer) → HoldsContent p place v.at a ptr.bytes ptr.bytes (points q) → ptr.bytes ≡ 3
          → place q.object + (q.offset + offset) < 131_072 → HasPut v a ptr.bytes (number_at q) (block e (code true) v)
      put_far q k three small =
          let w = block e (code true) v in
          let bank = home_of p q.object in
          let stand : StandsFrom e (home ptr) 3 a Own =
          subst (λ (b : ℕ). StandsFrom e (home ptr) b a Own) three (y.layout.temps_at ptr into.0) in
          let put = y.pointers.far.fields e (home ptr) offset a v stand (clear 3 (omega (arith, three))) h.bytes in
          let whole = (address_held p e slots home base place y v ptr q h.bytes into.0 k).whole three in
          let tag = tag_below bank in
          let number : (value v.at a 3 + offset) % 16777216 ≡ address_number p place 3 q.object (q.offset + offset) =
          ap (λ (b : ℕ). (b + offset) % 16777216) whole ∙ omega (arith, small, tag) in
          subst (λ (b : ℕ). HasPut v a b (address_number p place b q.object (q.offset + offset)) w) (sym three)
          (subst (λ (b : ℕ). HasPut v a 3 b w) number put)

      puts : (q : ObjectPointer) (k : HoldsContent p place v.at a ptr.bytes ptr.bytes (points q))
          → q.offset + offset ≤ size_of_type p.structs k.1.pointed.declared.ty
          → (b : Bool) → far ≡ b → HasPut v a ptr.bytes (number_at q) (block e (code b) v)
      puts q k within b told =
          let d = k.1.pointed.declared in
          let room = room_of p e slots home base place y q.object d k.1.pointed.is_object k.1.pointed.addressable in
          let end = room.end in
          by_far b told end
        where
          by_far : (b : Bool) → far ≡ b → place q.object + size_of_type p.structs k.1.pointed.declared.ty
              < address_end e.core k.1.pointed.declared.home → HasPut v a ptr.bytes (number_at q) (block e (code b) v)
          by_far true told end =
              let most = greatest_end e.core k.1.pointed.declared.home in
              put_far q k (far_pointer link.core ptr.bytes told).1 (omega (arith, end, most, within))
          by_far false told end =
              put_near q k
              (λ three.
              let near : address_end e.core k.1.pointed.declared.home ≡ 65536 =
              small_end e.core k.1.pointed.declared.home
              (sym one_core ∙ near_core link.core (subst (λ (b : ℕ). is_far link.core b ≡ false) three told)) in
              omega (arith, end, near, within))

      -- the temporary holds all bytes of the pointer further on
      all_further : (q : ObjectPointer) (k : HoldsContent p place v.at a ptr.bytes ptr.bytes (points q)) (z : PointerValue)
          → IsFurther q (size_of_type p.structs k.1.pointed.declared.ty) offset z
          → M need (machine (with_temp ptr (Pointer z) m.temps) s) (block e (code far) v)
      all_further q k z further =
          let w = block e (code far) v in
          let put = puts q k further.within far refl in
          let to : ObjectPointer = record { object = q.object; instance = q.instance; offset = q.offset + offset } in
          let numbers = put.numbers h.bytes in
          let held = held_row w a ptr.bytes (y.layout.temps_at ptr into.0).clear numbers in
          let here : value w.at a b ≡ address_number p place ptr.bytes to.object to.offset % 256 ^ b =
          sym (value_mod w.at a b ptr.bytes (wanted_most need ptr) held) ∙ ap (λ x. x % 256 ^ b) put.number_is in
          let is = k.1.pointed in
          let pointed : IsPointerIn p ptr.bytes to = record {
            pointed = record {
              declared = is.declared;
              is_object = is.is_object;
              addressable = is.addressable;
              instance = is.instance;
              within = further.within;
            };
            size = k.1.size;
            of = k.1.of;
          } in
          let done =
          written_wide p e slots home base place y ptr (points to) need need0 m s v w into.0 h stays
          (λ j x0 x1 low high o. put.same j (off_low_work j high) (off_high_work j high) o) (here, pointed) numbers refl (put.seen ∙ h.seen)
          (kept_left y.inputs m.state v w put.inputs h.left) (put.safe ∙ h.safe) in
          subst (λ (x : PointerValue). M need (machine (with_temp ptr (Pointer x) m.temps) s) w) (sym further.is) done

      -- the two bytes of the address are moved
      low_moved : (far : Bool) → is_far link.core ptr.bytes ≡ far → (v1 : View) → v1 ≡ block e (code far) v
          → (value v1.at a 2 ≡ (value v.at a 2 + offset) % 65536) × HoldsNumbers v1
          × ((j : ℕ) → j ≢ 30 → j ≢ 31 → Outside a ptr.bytes j → v1.at j ≡ v.at j)
          × (v1.inputs ≡ v.inputs) × (v1.safe ≡ v.safe) × (v1.seen ≡ v.seen)
      low_moved false told v1 is =
          let stand = stands_less e (home ptr) ptr.bytes 2 a Own two (y.layout.temps_at ptr into.0) in
          let put = y.pointers.fields e (home ptr) offset a v stand (clear 2 two) h.bytes in
          let done : HasPut v a 2 ((value v.at a 2 + offset) % 65536) v1 =
          subst (λ x. HasPut v a 2 ((value v.at a 2 + offset) % 65536) x) (sym is) put in (
            done.number_is,
            done.numbers h.bytes,
            λ j x z o. done.same j x z (narrower a ptr.bytes 2 j two o),
            done.inputs,
            done.safe,
            done.seen,
          )
      low_moved true told v1 is =
          let three = (far_pointer link.core ptr.bytes told).1 in
          let stand : StandsFrom e (home ptr) 3 a Own =
          subst (λ (n : ℕ). StandsFrom e (home ptr) n a Own) three (y.layout.temps_at ptr into.0) in
          let put = y.pointers.far.fields e (home ptr) offset a v stand (clear 3 (omega (arith, three))) h.bytes in
          let done : HasPut v a 3 ((value v.at a 3 + offset) % 16777216) v1 =
          subst (λ x. HasPut v a 3 ((value v.at a 3 + offset) % 16777216) x) (sym is) put in
          let number = done.number_is in
          let numbers = done.numbers h.bytes in
          let clear_a = (y.layout.temps_at ptr into.0).clear in
          let x0 = numbers (a + 0) (omega (arith, clear_a)) in
          let x1 = numbers (a + 1) (omega (arith, clear_a)) in (
            low_of_three (value v1.at a 2) (v1.at (a + 2)) (value v.at a 2) (v.at (a + 2)) offset (omega (arith, x0, x1)) number,
            numbers,
            λ j x z o. done.same j x z (subst (λ (n : ℕ). Outside a n j) three o),
            done.inputs,
            done.safe,
            done.seen,
          )

      low_further : (q : ObjectPointer) (k : HoldsContent p place v.at a 2 ptr.bytes (points q)) (z : PointerValue)
          → IsFurther q (size_of_type p.structs k.1.pointed.declared.ty) offset z → b < 3
          → M need (machine (with_temp ptr (Pointer z) m.temps) s) (block e (code far) v)
      low_further q k z further few =
          let w = block e (code far) v in
          let g = low_moved far refl w refl in
          let to : ObjectPointer = record { object = q.object; instance = q.instance; offset = q.offset + offset } in
          let held = held_row w a 2 (y.layout.temps_at ptr into.0).clear g.1 in
          let bank = home_of p q.object in
          let from : value v.at a 2 ≡ (place q.object + q.offset) % 65536 =
          k.0 ∙ sym (low_of_number ptr.bytes (place q.object + q.offset) 2 bank (omega arith)) ∙ omega arith in
          let low : value w.at a 2 ≡ (place q.object + (q.offset + offset)) % 65536 =
          g.0 ∙ ap (λ (n : ℕ). (n + offset) % 65536) from ∙ omega arith in
          let here : value w.at a b ≡ address_number p place ptr.bytes to.object to.offset % 256 ^ b =
          sym (value_mod w.at a b 2 (omega (arith, few)) held) ∙ ap (λ x. x % 256 ^ b) low
          ∙ low_of_number ptr.bytes (place q.object + (q.offset + offset)) b bank (omega (arith, few)) in
          let is = k.1.pointed in
          let pointed : IsPointerIn p ptr.bytes to = record {
            pointed = record {
              declared = is.declared;
              is_object = is.is_object;
              addressable = is.addressable;
              instance = is.instance;
              within = further.within;
            };
            size = k.1.size;
            of = k.1.of;
          } in
          let done =
          written_wide p e slots home base place y ptr (points to) need need0 m s v w into.0 h stays
          (λ j x0 x1 low high o. g.2 j (off_low_work j high) (off_high_work j high) o) (here, pointed) g.1 refl (g.5 ∙ h.seen)
          (kept_left y.inputs m.state v w g.3 h.left) (g.4 ∙ h.safe) in
          subst (λ (x : PointerValue). M need (machine (with_temp ptr (Pointer x) m.temps) s) w) (sym further.is) done

      matches : (q : ObjectPointer) (k : HoldsContent p place v.at a c ptr.bytes (points q)) (z : PointerValue)
          → IsFurther q (size_of_type p.structs k.1.pointed.declared.ty) offset z
          → M need (machine (with_temp ptr (Pointer z) m.temps) s) (block e (code far) v)
      matches q k z further =
          ⊎_elim
          (λ (few : b < 3).
          let two_made : c ≡ 2 = omega (arith, few) in
          low_further q (subst (λ (n : ℕ). value v.at a n ≡ address_number p place ptr.bytes q.object q.offset % 256 ^ n) two_made k.0, k.1)
          z further few)
          (λ (more : 3 ≤ b).
          let all_bytes : ptr.bytes ≡ c = all_made ptr.bytes b size (wanted_most need ptr) more in
          all_further q
          (subst (λ (n : ℕ). value v.at a n ≡ address_number p place ptr.bytes q.object q.offset % 256 ^ n) (sym all_bytes) k.0, k.1)
          z further)
          (cases_lt b 3)

      by_moved : (q : ObjectPointer) → HoldsContent p place v.at a c ptr.bytes (points q) → (r : Result PointerValue Undefined)
          → moved (Some q) (referent_of p (Some q) s) (pos offset) ≡ r
          → G (suc n) m.state.work pc v (next (given r s) (λ z s2. R (suc n) rest (machine (with_temp ptr (Pointer z) m.temps) s2)))
      by_moved q k (Ok z) i =
          let m1 = machine (with_temp ptr (Pointer z) m.temps) s in
          let few = steps far in
          passes (field ptr space offset) rest (suc n) (suc n) m.state.work m1.state.work pc v (R (suc n) rest m1) stands
          (straight far) (omega arith) (omega (arith, few))
          (λ mid u. f mid m1 (block e (code far) v) u (matches q k z (moved_further q k.1.pointed s offset z i)))
      by_moved q k (Err point) i = tt

  -- ---- loads and stores through pointers

  -- what a pointer's bytes tell of the leaf that it gives access to
  addressed : (ptr : Temp) (space : SpaceId) (bytes : ℕ) (q : ObjectPointer) (s : State) (v : View) → HoldsNumbers v
      → HasHome slots ptr → HoldsContent p place v.at (base ptr) ptr.bytes ptr.bytes (points q)
      → (r : Reaches p e slots home base place y space bytes q s)
      → IsAddressedBy v.at (base ptr) ptr.bytes (place r.leaf.object + r.leaf.at) r.bank
  addressed ptr space bytes q s v numbers ip k r =
      let a = address_held p e slots home base place y v ptr q numbers ip k in
      let low : place q.object + q.offset ≡ place r.leaf.object + r.leaf.at =
      ap (λ o. place o + q.offset) (sym r.object) ∙ ap (λ b. place r.leaf.object + b) (sym r.begins) in
      let bank : home_of p q.object ≡ r.bank = ap (home_of p) (sym r.object) ∙ home_is p r.bank r.leaf in
      subst (λ b. IsAddressedBy v.at (base ptr) ptr.bytes b r.bank) low
      (subst (λ b. IsAddressedBy v.at (base ptr) ptr.bytes (place q.object + q.offset) b) bank a)

  -- two bytes tell where the leaf stands in the data bank
  address_low : (ptr : Temp) (space : SpaceId) (bytes : ℕ) (q : ObjectPointer) (s : State) (v : View)
      → HoldsContent p place v.at (base ptr) 2 ptr.bytes (points q) → (r : Reaches p e slots home base place y space bytes q s)
      → value v.at (base ptr) 2 ≡ (place r.leaf.object + r.leaf.at) % 65536
  address_low ptr space bytes q s v k r =
      let low : place q.object + q.offset ≡ place r.leaf.object + r.leaf.at =
      ap (λ o. place o + q.offset) (sym r.object) ∙ ap (λ b. place r.leaf.object + b) (sym r.begins) in
      k.0 ∙ sym (low_of_number ptr.bytes (place q.object + q.offset) 2 (home_of p q.object) (omega arith))
      ∙ omega arith ∙ ap (λ b. b % 65536) low

  -- so do the bytes that a load takes
  loaded_by : (ptr : Temp) (space : SpaceId) (bytes : ℕ) (q : ObjectPointer) (s : State) (v : View) → HoldsNumbers v
      → HasHome slots ptr → (in_flash : Bool)
      → HoldsContent p place v.at (base ptr) (loaded_bytes space in_flash ptr.bytes) ptr.bytes (points q)
      → (r : Reaches p e slots home base place y space bytes q s)
      → IsAddressedBy v.at (base ptr) (loaded_bytes space in_flash ptr.bytes) (place r.leaf.object + r.leaf.at) r.bank
  loaded_by ptr space bytes q s v numbers ip in_flash k r =
      ⊎_elim
      (λ (all_bytes : loaded_bytes space in_flash ptr.bytes ≡ ptr.bytes).
      subst (λ n. IsAddressedBy v.at (base ptr) n (place r.leaf.object + r.leaf.at) r.bank) (sym all_bytes)
      (addressed ptr space bytes q s v numbers ip
      (subst (λ n. HoldsContent p place v.at (base ptr) n ptr.bytes (points q)) all_bytes k) r))
      (λ (two : loaded_bytes space in_flash ptr.bytes ≡ 2).
      subst (λ n. IsAddressedBy v.at (base ptr) n (place r.leaf.object + r.leaf.at) r.bank) (sym two)
      (record {
        low = address_low ptr space bytes q s v
            (subst (λ n. HoldsContent p place v.at (base ptr) n ptr.bytes (points q)) two k) r;
        whole = λ three. absurd (omega (arith, three));
      }))
      (loaded_cases space in_flash ptr.bytes)

  -- how a load and a store go on
  abbrev load_on : ℕ → List PlainIr → Temp → Mach → Value → State → Outcome Value
  load_on n rest t m x s1 = R n rest (machine (with_temp t x m.temps) s1)

  abbrev store_on : ℕ → List PlainIr → Mach → Value → State → Outcome Value
  store_on n rest m x s1 = R n rest (machine m.temps s1)

  pub load_at_follows : (to ptr : Temp) (space : SpaceId) (rest : List PlainIr) (n pc : ℕ) (m : Mach) (v : View)
      → HasHome slots to → IsInto slots space ptr → HasAt e (own_items (load_at to ptr space) rest) pc end
      → M (needs at (load_at to ptr space ∷ rest)) m v → link.core ≡ e.core → Rest n rest
      → G (suc n) m.state.work pc v (P n (load_at to ptr space) rest m)
  load_at_follows to ptr space rest n pc m v it into stands h one_core f =
      from_pointer p e slots home base place y ptr m.temps s _ (suc n) m.state.work pc v tt
      (λ q i. let k = at_width p e slots home base place y need0 m v ptr _ loaded h into.0 i refl enough in
      from_access p e slots home base place y space to.bytes q s (λ a. next (read p a s) (load_on n rest to m))
      (suc n) m.state.work pc v k.1.pointed tt
      (λ r. from_read p e slots home base place y r.bank r.leaf space r.state s (load_on n rest to m) (suc n) m.state.work pc v
      (λ u j. passed q k r u j)))
    where
      i : PlainIr
      i = load_at to ptr space

      s : State
      s = begun i m

      need : Need
      need = needs at rest

      -- so many bytes of the pointer are taken
      loaded : ℕ
      loaded = loaded_bytes space (has_tables p.objects) ptr.bytes

      need0 : Need
      need0 = at_least ptr.at loaded (without to.at need)

      enough : loaded ≤ wanted need0 ptr
      enough =
          let x = least_here ptr.at loaded (without to.at need) in
          let z = loaded_within space (has_tables p.objects) ptr.bytes (pointer_size space ptr.bytes into.1) in
          omega (arith, x, z)

      stays : (b : ℕ) → b ≢ to.at → need b ≤ need0 b
      stays b d =
          let x = without_other to.at b need d in
          let z = least_other ptr.at loaded b (without to.at need) in
          omega (arith, x, z)

      passed : (q : ObjectPointer) → HoldsContent p place v.at (base ptr) loaded ptr.bytes (points q)
          → (r : Reaches p e slots home base place y space to.bytes q s) (u : Value)
          → leaf_of r.state r.leaf.number ≡ Some u
          → G (suc n) m.state.work pc v
          (R n rest (machine (with_temp to u m.temps) (after_read p e slots home base place y r.bank r.leaf space u s)))
      passed q k r u j =
          let l = r.leaf in
          let parts = has_parts e (code_of i rest) (items rest) pc end stands in
          let a = loaded_by ptr space to.bytes q s v h.bytes into.0 (has_tables p.objects) k r in
          let there = leaf_there p e slots home base place y r.bank l to r.addressable it r.size in
          let run =
          loads p e slots home base place y link.core (has_tables p.objects) space r.bank l.declared.home ptr to (place l.object + l.at)
          pc parts.0 v (sym one_core) (table_among p.objects l.object l.declared r.bank l.is_object l.home) r.within r.held into it a
          there parts.1 in
          let holds = leaf_stands p e slots home base place y r.bank l _ m v r.state u h r.is_state j in
          let kind = addressable_kind l.declared.storage r.addressable in
          let m1 = machine (with_temp to u m.temps) (after_read p e slots home base place y r.bank l space u s) in
          let matches : M need m1 run.last =
          load_brings p e slots home base place y r.bank l space to need need0 m v run.last
          (op_steps i) u it r.size kind h stays holds run.brings in
          let work : m1.state.work ≡ m.state.work + op_steps i = recorded_work l.declared.storage _ s in
          let few = run.at_most in
          let some = run.at_least in
          after p place e run.steps n (suc n) m.state.work m1.state.work pc parts.0 v run.last (R n rest m1) run.goes (omega (arith, some))
          (omega (arith, few, work))
          (f parts.0 m1 run.last parts.2 matches)

  pub store_at_follows : (ptr : Temp) (space : SpaceId) (from : Temp) (rest : List PlainIr) (n pc : ℕ) (m : Mach) (v : View)
      → HasHome slots from → IsInto slots space ptr → HasAt e (own_items (store_at ptr space from) rest) pc end
      → M (needs at (store_at ptr space from ∷ rest)) m v → Rest n rest
      → G (suc n) m.state.work pc v (P n (store_at ptr space from) rest m)
  store_at_follows ptr space from rest n pc m v it into stands h f =
      from_pointer p e slots home base place y ptr m.temps s _ (suc n) m.state.work pc v
      (from_no_access p e slots home base place y from m.temps s (store_on n rest m) (suc n) m.state.work pc v)
      (λ q j. let k = pointer_held q j in
      from_access p e slots home base place y space from.bytes q s (λ a. next (put p a from m.temps s) (store_on n
      rest m))
      (suc n) m.state.work pc v k.1.pointed
      (from_no_access p e slots home base place y from m.temps s (store_on n rest m) (suc n) m.state.work pc v)
      (λ r. from_put p e slots home base place y r.bank r.leaf space r.state from m.temps s (store_on n rest m) (suc n) m.state.work pc v
      (λ l c u object begins size declared held typed. stored q k r l c u object begins size declared held typed)))
    where
      i : PlainIr
      i = store_at ptr space from

      s : State
      s = begun i m

      need : Need
      need = needs at rest

      need1 : Need
      need1 = at_least ptr.at 2 need

      need0 : Need
      need0 = at_least from.at from.bytes need1

      two : 2 ≤ ptr.bytes
      two = (some_bytes ptr.bytes (pointer_size space ptr.bytes into.1)).0

      pointer_held : (q : ObjectPointer) → m.temps ptr.at ≡ Some (record { bytes = ptr.bytes; content = points q })
          → HoldsContent p place v.at (base ptr) 2 ptr.bytes (points q)
      pointer_held q j =
          at_width p e slots home base place y need0 m v ptr _ 2 h into.0 j refl
          (let x = least_here ptr.at 2 need in let z = least_other from.at from.bytes ptr.at need1 in omega (arith, x, z, two))

      stays : (b : ℕ) → need b ≤ need0 b
      stays b =
          let x = least_other ptr.at 2 b need in
          let z = least_other from.at from.bytes b need1 in
          omega (arith, x, z)

      stored : (q : ObjectPointer) → HoldsContent p place v.at (base ptr) 2 ptr.bytes (points q)
          → (r : Reaches p e slots home base place y space from.bytes q s) (l : ObjectLeaf p DataBank) (c : Content)
          (u : Value)
          → l.object ≡ r.leaf.object → l.at ≡ r.leaf.at → l.bytes ≡ r.leaf.bytes → l.declared ≡ r.leaf.declared
          → m.temps from.at ≡ Some (record { bytes = from.bytes; content = c }) → value_of_type p l.ty c ≡ Ok u
          → G (suc n) m.state.work pc v (R n rest (machine m.temps (after_write p e slots home base place y l space u s)))
      stored q k r l c u object begins size declared held typed =
          let a = address_low ptr space from.bytes q s v k r in
          let wide : l.bytes ≡ from.bytes = size ∙ r.size in
          let addressable : IsAddressable l.declared.storage =
          subst (λ (d : PlainObject). IsAddressable d.storage) (sym declared) r.addressable in
          let low : value v.at (base ptr) 2 ≡ (place l.object + l.at) % 65536 =
          a ∙ ap (λ o. (place o + r.leaf.at) % 65536) (sym object) ∙ ap (λ b. (place l.object + b) % 65536) (sym begins) in
          let brings = stores p e slots home base place y ptr from l v into.0 it two addressable wide low in
          let content = whole p e slots home base place y need1 m v from _ h it held refl in
          let value_there : HoldsLeaf p place v.at (base from) from.bytes u =
          typed_leaf p place (pointed_below p e slots home base place y) v.at (base from) from.bytes l.ty c u (l.size ∙ wide) typed
          content in
          let holds : HoldsLeaf p place v.at (base from) l.bytes u =
          subst (λ b. HoldsLeaf p place v.at (base from) b u) (sym wide) value_there in
          let kind = addressable_kind l.declared.storage addressable in
          let standing : is_kept h.frames.functions l.declared.storage ≡ true =
          subst (λ (d : PlainObject). is_kept h.frames.functions d.storage ≡ true) (sym declared)
          (h.frames.live r.leaf.object r.leaf.declared r.state r.leaf.is_object r.is_state r.live) in
          let m1 = machine m.temps (after_write p e slots home base place y l space u s) in
          let matches : M need m1 (block e (code_of i rest) v) =
          store_brings p e slots home base place y l space from need need0 m v _ (op_steps i) u it wide kind h standing stays holds
          brings in
          let work : m1.state.work ≡ m.state.work + op_steps i = recorded_work l.declared.storage _ _ in
          let straight = (y.pointers.straight 0 0 None (home from) (home ptr) from.bytes).4 in
          let take = (y.pointers.take 0 0 None (home from) (home ptr) from.bytes).4 in
          passes i rest n (suc n) m.state.work m1.state.work pc v (R n rest m1) stands straight (omega (arith, take.0))
          (omega (arith, take.1, work))
          (λ mid t. f mid m1 _ t matches)

  -- ---- loads and stores of objects

  pub location_is : (bank : Bank) (l : ObjectLeaf p bank) → object_location p.objects l.object l.at
      ≡ location_in l.declared.storage l.object l.at
  location_is bank l = rw (l.is_object) refl

  kind_addressable : (storage : PlainStorage) → kind_in storage ≡ Object → IsAddressable storage
  kind_addressable (static inits) q = tt
  kind_addressable (local g) q = tt
  kind_addressable (param g) q = tt
  kind_addressable (register first) q = absurd (cc)

  pub load_follows : (t : Temp) (o offset : ℕ) (rest : List PlainIr) (n pc : ℕ) (m : Mach) (v : View) → HasHome slots t
      → HasScalarAt p o offset t.bytes → HasAt e (code_of (load_object t o offset) rest ++ items rest) pc end
      → M (needs at (load_object t o offset ∷ rest)) m v → link.core ≡ e.core → Rest n rest
      → G (suc n) m.state.work pc v (P n (load_object t o offset) rest m)
  load_follows t o offset rest n pc m v it has stands h one_core f = at_object (slice_get m.state.objects o) refl
    where
      i : PlainIr
      i = load_object t o offset

      s : State
      s = begun i m

      need : Need
      need = needs at rest

      space : SpaceId
      space = has.declared.space

      leaf : (bank : Bank) → bank_of has.declared.home ≡ bank → ObjectLeaf p bank
      leaf bank q = leaf_with p bank o offset t.bytes has q

      code : Core → Home → List AsmItem
      code core kept = banked_code core kept p.objects o offset (home t) t.bytes

      near_form : (all_straight (load_table_code o offset (home t) t.bytes) ≡ true)
          × (t.bytes ≤ code_steps (load_table_code o offset (home t) t.bytes))
          × (code_steps (load_table_code o offset (home t) t.bytes) ≤ 4 + 2 * t.bytes)
      near_form =
          let short = y.pointers.tables_short o offset (home t) t.bytes in
          let take = short.1 in
          (short.0, omega (arith, take.0), omega (arith, take.1))

      form : (core : Core) (kept : Home) → (all_straight (code core kept) ≡ true)
          × (t.bytes ≤ code_steps (code core kept)) × (code_steps (code core kept) ≤ 4 + 2 * t.bytes)
      form core FlashHome = near_form
      form Small FarHome = near_form
      form Large FarHome =
          let take = (y.pointers.far.take o offset (home t) (home t) t.bytes).3 in
          ((y.pointers.far.straight o offset (home t) (home t) t.bytes).3, omega (arith, take.0), take.1)
      form core DataHome =
          let take = copy_steps (object_location p.objects o offset) (home t) t.bytes in
          (copy_straight (object_location p.objects o offset) (home t) t.bytes, omega (arith, take.0), omega (arith, take.1))

      stays : (b : ℕ) → b ≢ t.at → need b ≤ without t.at need b
      stays b d = without_other t.at b need d

      matches : (bank : Bank) (q : bank_of has.declared.home ≡ bank) (x : ObjectState) (u : Value) → slice_get m.state.objects o ≡ Some x
          → leaf_of x has.number ≡ Some u
          → M need (machine (with_temp t u m.temps) (after_read p e slots home base place y bank (leaf bank q) space u s))
          (block e (code link.core has.declared.home) v)
      matches FlashBank q x u w j =
          let l = leaf FlashBank q in
          let kind = table_kind p e slots home base place y l in
          let brings =
          loads_table p e slots home base place y link.core has.declared.home l t v (sym one_core) refl
          (kind_addressable has.declared.storage kind) it refl in
          load_brings p e slots home base place y FlashBank l space t need (without t.at need) m v _ (op_steps i) u it refl kind h stays
          (h.tables_hold l x u w j) brings
      matches DataBank q x u w j =
          let l = leaf DataBank q in
          subst
          (λ (z : Home). M need (machine (with_temp t u m.temps) (after_read p e slots home base place y DataBank l space u s))
          (block e (code link.core z) v)) (sym (home_in_data has.declared.home q))
          (subst
          (λ (z : Location). M need (machine (with_temp t u m.temps) (after_read p e slots home base place y DataBank l space u s))
          (block e (copy_code z (home t) t.bytes) v)) (sym (location_is DataBank l))
          (load_matches p e slots home base place y l space t need (without t.at need) m v (op_steps i) u it refl h stays
          (h.leaves_hold l x u w j)))

      at_value : (bank : Bank) (q : bank_of has.declared.home ≡ bank) (x : ObjectState) (u : Value) → slice_get m.state.objects o ≡ Some x
          → leaf_of x has.number ≡ Some u
          → G (suc n) m.state.work pc v (load_on n rest t m u (after_read p e slots home base place y bank (leaf bank q) space u s))
      at_value bank q x u w j =
          let m1 = machine (with_temp t u m.temps) (after_read p e slots home base place y bank (leaf bank q) space u s) in
          let work : m1.state.work ≡ m.state.work + op_steps i = recorded_work has.declared.storage _ s in
          let same : kept_in p o ≡ has.declared.home = kept_there p o has.declared has.is_object in
          let take = form link.core (kept_in p o) in
          let some = it.some in
          passes i rest n (suc n) m.state.work m1.state.work pc v (R n rest m1) stands (form link.core (kept_in p o)).0
          (omega (arith, take.1, some)) (omega (arith, take.2, some, work))
          (λ mid z. f mid m1 _ z (subst (λ (b : Home). M need m1 (block e (code link.core b) v)) (sym same) (matches bank q x u w j)))

      at_object : (z : Option ObjectState) → slice_get m.state.objects o ≡ z
          → G (suc n) m.state.work pc v (next (read p (object_access p None o offset s) s) (load_on n rest t m))
      at_object None q =
          let a : object_access p None o offset s ≡ None = rw (has.is_object, q) refl in
          subst (λ z. G (suc n) m.state.work pc v (next (read p z s) (load_on n rest t m))) (sym a) tt
      at_object (Some x) q =
          let l = leaf (bank_of has.declared.home) refl in
          let a : object_access p None o offset s ≡ Some (access_to p e slots home base place y (bank_of has.declared.home) l space x) =
          rw (has.is_object, q, has.found) refl in
          subst (λ z. G (suc n) m.state.work pc v (next (read p z s) (load_on n rest t m))) (sym a)
          (from_read p e slots home base place y (bank_of has.declared.home) l space x s (load_on n rest t m) (suc n) m.state.work pc v
          (λ u j. at_value (bank_of has.declared.home) refl x u q j))

  -- ---- loads of an index to R30 and R31

  -- R30 and R31 hold what a temporary does
  abbrev HoldsIndex : Temp → Mach → View → Type 0
  HoldsIndex b m v = (x : Held) → m.temps b.at ≡ Some x → x.bytes ≡ b.bytes → HoldsContent p place v.at 30 b.bytes b.bytes x.content

  -- such a load, and those behind it
  abbrev telling_items : (t : Temp) (o offset : ℕ) → List PlainIr → List AsmItem
  telling_items t o offset rest =
      own_code p home link None (Some Index) None (needs at rest) (load_object t o offset) ++ ops_code p home link at (Some Index) rest

  pub load_index_follows : (t : Temp) (o offset : ℕ) (rest : List PlainIr) (n pc : ℕ) (m : Mach) (v : View) → HasHome slots t
      → HasScalarAt p o offset t.bytes → nat_le t.bytes 2 ≡ true → HasAt e (telling_items t o offset rest) pc end
      → M (needs at (load_object t o offset ∷ rest)) m v → link.core ≡ e.core
      → ((mid : ℕ) (m1 : Mach) (w : View) → HasAt e (ops_code p home link at (Some Index) rest) mid end
      → M (without t.at (needs at rest)) m1 w → HoldsIndex t m1 w → G n m1.state.work mid w (R n rest m1))
      → G (suc n) m.state.work pc v (P n (load_object t o offset) rest m)
  load_index_follows t o offset rest n pc m v it has short stands h one_core f = at_object (slice_get m.state.objects o) refl
    where
      i : PlainIr
      i = load_object t o offset

      s : State
      s = begun i m

      need : Need
      need = needs at rest

      few : t.bytes ≤ 2
      few = leb-true t.bytes 2 short

      space : SpaceId
      space = has.declared.space

      leaf : (bank : Bank) → bank_of has.declared.home ≡ bank → ObjectLeaf p bank
      leaf bank q = leaf_with p bank o offset t.bytes has q

      -- a table is loaded by R26 and R27
      by : Location
      by = InRegisters 26

      code : Core → Home → List AsmItem
      code core kept = load_index_code core kept p.objects o offset t.bytes

      banked : Core → Home → List AsmItem
      banked core kept = banked_code core kept p.objects o offset by t.bytes

      usual : Core → Home → List AsmItem
      usual core kept = object_code (Some Index) core kept p.objects o offset (home t) t.bytes

      bring : List AsmItem
      bring = copy_code by z_pair t.bytes

      -- straight code of so many steps
      IsFormed : List AsmItem → ℕ → Type 0
      IsFormed c most = (all_straight c ≡ true) × (t.bytes ≤ code_steps c) × (code_steps c ≤ most)

      then_brought : (c : List AsmItem) → IsFormed c (4 + 2 * t.bytes) → IsFormed (c ++ bring) (4 + 4 * t.bytes)
      then_brought c k =
          let take = copy_steps by z_pair t.bytes in
          let sum = steps-append c bring in
          (straight-append c bring k.0 (copy_straight by z_pair t.bytes), omega (arith, sum, k.1), omega (arith, sum, take.1, k.2))

      near_form : IsFormed (load_table_code o offset by t.bytes) (4 + 2 * t.bytes)
      near_form =
          let tables = y.pointers.tables_short o offset by t.bytes in
          let take = tables.1 in
          (tables.0, omega (arith, take.0), omega (arith, take.1))

      form : (core : Core) (kept : Home) → IsFormed (code core kept) (4 + 4 * t.bytes)
      form core FlashHome = then_brought (load_table_code o offset by t.bytes) near_form
      form Small FarHome = then_brought (load_table_code o offset by t.bytes) near_form
      form Large FarHome =
          let take = (y.pointers.far.take o offset by by t.bytes).3 in
          then_brought (load_far_table_code o offset by t.bytes)
          ((y.pointers.far.straight o offset by by t.bytes).3, omega (arith, take.0), take.1)
      form core DataHome =
          let take = copy_steps (object_location p.objects o offset) z_pair t.bytes in
          (copy_straight (object_location p.objects o offset) z_pair t.bytes, omega (arith, take.0), omega (arith, take.1))

      by_flash : (core : Core) (kept : Home) → bank_of kept ≡ FlashBank → code core kept ≡ banked core kept ++ bring
      by_flash core FlashHome q = refl
      by_flash core FarHome q = refl
      by_flash core DataHome q = absurd cc

      -- what comes of the machine, and in R30 and R31
      Comes : (bank : Bank) → bank_of has.declared.home ≡ bank → Value → View → Type 0
      Comes bank q u w =
          M (without t.at need) (machine (with_temp t u m.temps) (after_read p e slots home base place y bank (leaf bank q) space u s)) w
          × HoldsContent p place w.at 30 t.bytes t.bytes (content_of t.bytes u)

      matches : (bank : Bank) (q : bank_of has.declared.home ≡ bank) (x : ObjectState) (u : Value) → slice_get m.state.objects o ≡ Some x
          → leaf_of x has.number ≡ Some u → Comes bank q u (block e (code link.core has.declared.home) v)
      matches FlashBank q x u w j =
          let l = leaf FlashBank q in
          let kind = table_kind p e slots home base place y l in
          let stands : StandsFrom e by t.bytes 26 Own = record { at = λ j r. refl; kind = λ j r. refl; clear = omega arith } in
          let brings =
          loads_table_to p e slots home base place y link.core has.declared.home l by 26 t.bytes v (sym one_core) refl
          (kind_addressable has.declared.storage kind) stands
          (record { low = λ r. omega (arith, few); high = λ r. omega (arith, few) }) it.some refl in
          subst (λ (c : List AsmItem). Comes FlashBank q u (block e c v)) (sym (by_flash link.core has.declared.home q))
          (subst (λ (z : View). Comes FlashBank q u z) (sym (block-append e (banked link.core has.declared.home) bring v))
          (load_aside_brings p e slots home base place y FlashBank l space t need m v _ (op_steps i) u it refl few kind h
          (h.tables_hold l x u w j) brings))
      matches DataBank q x u w j =
          let l = leaf DataBank q in
          subst (λ (z : Home). Comes DataBank q u (block e (code link.core z) v)) (sym (home_in_data has.declared.home q))
          (subst (λ (z : Location). Comes DataBank q u (block e (copy_code z z_pair t.bytes) v)) (sym (location_is DataBank l))
          (load_aside_matches p e slots home base place y l space t need m v (op_steps i) u it refl few h (h.leaves_hold l x u w j)))

      at_value : (bank : Bank) (q : bank_of has.declared.home ≡ bank) (x : ObjectState) (u : Value) → slice_get m.state.objects o ≡ Some x
          → leaf_of x has.number ≡ Some u
          → G (suc n) m.state.work pc v (load_on n rest t m u (after_read p e slots home base place y bank (leaf bank q) space u s))
      at_value bank q x u w j =
          let m1 = machine (with_temp t u m.temps) (after_read p e slots home base place y bank (leaf bank q) space u s) in
          let work : m1.state.work ≡ m.state.work + op_steps i = recorded_work has.declared.storage _ s in
          let same : kept_in p o ≡ has.declared.home = kept_there p o has.declared has.is_object in
          let own = code link.core (kept_in p o) in
          let take = form link.core (kept_in p o) in
          let some = it.some in
          goes_past p functions e slots home base place y labels all end results me link stack own
          (ops_code p home link at (Some Index) rest) n (suc n) m.state.work m1.state.work pc v (R n rest m1)
          (subst (λ (b : Bool). HasAt e (by_kind b own (usual link.core (kept_in p o)) ++ ops_code p home link at (Some Index) rest) pc end)
          short stands) take.0 (omega (arith, take.1, some)) (omega (arith, take.2, some, work))
          (λ mid z.
          let comes = subst (λ (b : Home). Comes bank q u (block e (code link.core b) v)) (sym same) (matches bank q x u w j) in
          f mid m1 _ z comes.0 (λ held r b. subst (λ (x : Held). HoldsContent p place (block e own v).at 30 t.bytes t.bytes x.content)
          (held_there t (content_of t.bytes u) m.temps held r) comes.1))

      at_object : (z : Option ObjectState) → slice_get m.state.objects o ≡ z
          → G (suc n) m.state.work pc v (next (read p (object_access p None o offset s) s) (load_on n rest t m))
      at_object None q =
          let a : object_access p None o offset s ≡ None = rw (has.is_object, q) refl in
          subst (λ z. G (suc n) m.state.work pc v (next (read p z s) (load_on n rest t m))) (sym a) tt
      at_object (Some x) q =
          let l = leaf (bank_of has.declared.home) refl in
          let a : object_access p None o offset s ≡ Some (access_to p e slots home base place y (bank_of has.declared.home) l space x) =
          rw (has.is_object, q, has.found) refl in
          subst (λ z. G (suc n) m.state.work pc v (next (read p z s) (load_on n rest t m))) (sym a)
          (from_read p e slots home base place y (bank_of has.declared.home) l space x s (load_on n rest t m) (suc n) m.state.work pc v
          (λ u j. at_value (bank_of has.declared.home) refl x u q j))

  -- what is stored is the number that it is known to be
  abbrev pub HoldsStored : Option ℤ → Temp → Temps → Type 0
  HoldsStored number t temps =
      (k : ℤ) → number ≡ Some k → (c : Content) → temps t.at ≡ Some (record { bytes = t.bytes; content = c })
      → c ≡ bits (low_bytes t.bytes k)

  -- where what is kept has been settled
  store_named : (o offset : ℕ) (t : Temp) (rest : List PlainIr) (n pc : ℕ) (m : Mach) (v : View) → HasHome slots t
      → (has : HasScalarAt p o offset t.bytes) → HasAt e (own_items (store_object o offset t) rest) pc end
      → (h : M (needs at (store_object o offset t ∷ rest)) m v) → is_kept h.frames.functions has.declared.storage ≡ true
      → HoldsStored (number_known (at.known (store_object o offset t ∷ rest))) t m.temps → Rest n rest
      → G (suc n) m.state.work pc v (next (put_named p o offset t m.temps (begun (store_object o offset t) m)) (store_on n rest m))
  store_named o offset t rest n pc m v it has stands h mine known_there f = at_object (slice_get m.state.objects o) refl
    where
      i : PlainIr
      i = store_object o offset t

      s : State
      s = begun i m

      need : Need
      need = needs at rest

      space : SpaceId
      space = has.declared.space

      known : Option RightNumber
      known = at.known (i ∷ rest)

      need0 : Need
      need0 = needs at (i ∷ rest)

      stays : (b : ℕ) → need b ≤ need0 b
      stays b = stored_more (numbered known) t.at t.bytes need b

      location : Location
      location = object_location p.objects o offset

      code : Option ℤ → List AsmItem
      code x = store_object_code x (home t) location t.bytes

      straight : (x : Option ℤ) → all_straight (code x) ≡ true
      straight None = copy_straight (home t) location t.bytes
      straight (Some k) = store_straight location (low_bytes 16 k) t.bytes

      steps : (x : Option ℤ) → (t.bytes ≤ code_steps (code x)) × (code_steps (code x) ≤ 2 * t.bytes)
      steps None = let take = copy_steps (home t) location t.bytes in (omega (arith, take.0), omega (arith, take.1))
      steps (Some k) = store_steps location (low_bytes 16 k) t.bytes

      stored : (l : ObjectLeaf p DataBank) (c : Content) (u : Value) → l.object ≡ o → l.at ≡ offset → l.bytes ≡ t.bytes
          → l.declared ≡ has.declared → m.temps t.at ≡ Some (record { bytes = t.bytes; content = c }) → value_of_type p l.ty c ≡ Ok u
          → G (suc n) m.state.work pc v (store_on n rest m u (after_write p e slots home base place y l space u s))
      stored l c u object begins size declared there typed =
          let take = steps (number_known known) in
          let some = it.some in
          goes_past p functions e slots home base place y labels all end results me link stack (code (number_known known)) (items rest)
          n (suc n) m.state.work m1.state.work pc v (R n rest m1) stands (straight (number_known known))
          (omega (arith, take.0, some)) (omega (arith, take.1, work))
          (λ mid z. f mid m1 _ z (matches (number_known known) refl))
        where
          m1 : Mach
          m1 = machine m.temps (after_write p e slots home base place y l space u s)

          work : m1.state.work ≡ m.state.work + op_steps i
          work = recorded_work l.declared.storage _ _

          to : location_in l.declared.storage l.object l.at ≡ location
          to =
              sym (location_is DataBank l) ∙ ap (λ b. object_location p.objects b l.at) object
              ∙ ap (λ b. object_location p.objects o b) begins

          kept : is_kept h.frames.functions l.declared.storage ≡ true
          kept = subst (λ (d : PlainObject). is_kept h.frames.functions d.storage ≡ true) (sym declared) mine

          -- its value stands where content is that of the temporary
          leaf : (g : ℕ → ℕ) (b : ℕ) (x : Content) → value_of_type p l.ty x ≡ Ok u → HoldsContent p place g b t.bytes t.bytes x
              → HoldsLeaf p place g b l.bytes u
          leaf g b x is row =
              subst (λ n. HoldsLeaf p place g b n u) (sym size)
              (typed_leaf p place (pointed_below p e slots home base place y) g b t.bytes l.ty x u (l.size ∙ size) is row)

          number_leaf : (k : ℤ) → number_known known ≡ Some k → (g : ℕ → ℕ) (b : ℕ)
              → ((j : ℕ) → j < l.bytes → g (b + j) ≡ byte_of (low_bytes 16 k) j) → HoldsLeaf p place g b l.bytes u
          number_leaf k q g b row =
              let number : value g b t.bytes ≡ low_bytes t.bytes k % 256 ^ t.bytes =
              value_of_bytes g b t.bytes (low_bytes 16 k) (λ j r. row j (omega (arith, size, r)))
              ∙ low_part k t.bytes 16 (let most = it.most in omega (arith, most)) ∙ sym (low_part k t.bytes t.bytes (omega arith)) in
              leaf g b (bits (low_bytes t.bytes k))
              (subst (λ (x : Content). value_of_type p l.ty x ≡ Ok u) (known_there k q c there) typed) (number, low_below t.bytes k)

          matches : (x : Option ℤ) → number_known known ≡ x → M need m1 (block e (code x) v)
          matches None q =
              let needed : M (at_least t.at t.bytes need) m v =
              subst (λ (r : Option RightNumber). M (right_needed r t.at t.bytes need) m v) (all_needed known q) h in
              let content = whole p e slots home base place y need m v t _ needed it there refl in
              subst (λ (z : Location). M need m1 (block e (copy_code (home t) z t.bytes) v)) to
              (store_matches p e slots home base place y l space t need need0 m v (op_steps i) u it size h kept stays
              (leaf v.at (base t) c typed content))
          matches (Some k) q =
              let some = it.some in
              subst (λ (z : Location). M need m1 (block e (store_number_code z (low_bytes 16 k) t.bytes) v)) to
              (subst (λ (n : ℕ). M need m1
              (block e (store_number_code (location_in l.declared.storage l.object l.at) (low_bytes 16 k) n) v)) size
              (number_store_matches p e slots home base place y l space need need0 m v (low_bytes 16 k) (op_steps i) u
              (omega (arith, size, some)) h kept stays (number_leaf k q)))

      at_object : (z : Option ObjectState) → slice_get m.state.objects o ≡ z
          → G (suc n) m.state.work pc v (next (put p (object_access p None o offset s) t m.temps s) (store_on n rest m))
      at_object None q =
          let a : object_access p None o offset s ≡ None = rw (has.is_object, q) refl in
          subst (λ z. G (suc n) m.state.work pc v (next (put p z t m.temps s) (store_on n rest m))) (sym a)
          (from_no_access p e slots home base place y t m.temps s (store_on n rest m) (suc n) m.state.work pc v)
      at_object (Some x) q =
          let bank = bank_of has.declared.home in
          let l = leaf_with p bank o offset t.bytes has refl in
          let a : object_access p None o offset s ≡ Some (access_to p e slots home base place y bank l space x) =
          rw (has.is_object, q, has.found) refl in
          subst (λ z. G (suc n) m.state.work pc v (next (put p z t m.temps s) (store_on n rest m))) (sym a)
          (from_put p e slots home base place y bank l space x t m.temps s (store_on n rest m) (suc n) m.state.work pc v
          (λ k c u object begins size declared held typed. stored k c u object begins size declared held typed))

  pub store_follows : (o offset : ℕ) (t : Temp) (rest : List PlainIr) (n pc : ℕ) (m : Mach) (v : View) → HasHome slots t
      → HasScalarAt p o offset t.bytes → IsSomeAnd (slice_get p.objects o) (λ d. IsStoredIn me y.called d.storage)
      → IsRunning p functions e slots home base place y labels all end results me link stack
      → HasAt e (own_items (store_object o offset t) rest) pc end
      → M (needs at (store_object o offset t ∷ rest)) m v
      → HoldsStored (number_known (at.known (store_object o offset t ∷ rest))) t m.temps → Rest n rest
      → G (suc n) m.state.work pc v (P n (store_object o offset t) rest m)
  store_follows o offset t rest n pc m v it has named running stands h known_there f =
      subst (λ (z : Option PlainObject). G (suc n) m.state.work pc v (stored_in (option_map (λ (d : PlainObject). d.storage) z)))
      (sym has.is_object) (by_storage has.declared.storage refl named_in)
    where
      fs : List ℕ
      fs = active p.main stack

      named_in : IsStoredIn me y.called has.declared.storage
      named_in = subst (λ (z : Option PlainObject). IsSomeAnd z (λ d. IsStoredIn me y.called d.storage)) has.is_object named

      -- how the store goes on in an object with a storage
      stored_in : Option PlainStorage → Outcome Value
      stored_in z = next (put_named p o offset t m.temps (before_store p fs z (begun (store_object o offset t) m))) (store_on n rest m)

      -- frames stand for the function that runs
      mine : (g : ℕ) → g ≡ me → is_among h.frames.functions g ≡ true
      mine g q =
          frames_active y.active y.called h.frames.functions g h.frames.are_frames
          (subst (λ k. is_among y.active k ≡ true) (sym q) running.active)

      -- where a parameter is stored, for its function too
      frames_with : (g : ℕ) → IsStoredIn me y.called (param g) → AreFrames y.active y.called (g ∷ fs)
      frames_with g k =
          inr (
            g,
            ⊎_elim
                (λ (q : g ≡ me). inl (subst (λ j. is_among y.active j ≡ true) (sym q) running.active))
                (λ (q : IsParameterOf y.called (param g)).
                let i : param g ≡ param q.function = q.is in
                let j : g ≡ q.function = cc in
                inr (subst (λ j. Contains y.called j) (sym j) q.named)) k,
            ap (λ hs. g ∷ hs) running.stacked,
          )

      by_storage : (s : PlainStorage) → has.declared.storage ≡ s → IsStoredIn me y.called s
          → G (suc n) m.state.work pc v (stored_in (Some has.declared.storage))
      by_storage (static inits) q k =
          subst (λ z. G (suc n) m.state.work pc v (stored_in (Some z))) (sym q)
          (store_named o offset t rest n pc m v it has stands h (rw q refl) known_there f)
      by_storage (local g) q k =
          subst (λ z. G (suc n) m.state.work pc v (stored_in (Some z))) (sym q)
          (store_named o offset t rest n pc m v it has stands h
          (rw q (⊎_elim (λ (i : g ≡ me). mine g i) (λ (i : IsParameterOf y.called (local g)). let j = i.is in absurd cc) k)) known_there f)
      by_storage (param g) q k =
          subst (λ z. G (suc n) m.state.work pc v (stored_in (Some z))) (sym q)
          (store_named o offset t rest n pc (machine m.temps (kept_for p (g ∷ fs) m.state)) v it has stands
          (kept_matches p e y.inputs slots base place y.aside y.stands y.active y.called y.active y.called
          (needs at (store_object o offset t ∷ rest)) (g ∷ fs) m.temps m.state v (frames_with g k) h)
          (rw q (or_left (g == g) (is_among fs g) (eq-eqb g g refl)))
          known_there f)
      by_storage (register r) q k =
          subst (λ z. G (suc n) m.state.work pc v (stored_in (Some z))) (sym q)
          (store_named o offset t rest n pc m v it has stands h (rw q refl) known_there f)
