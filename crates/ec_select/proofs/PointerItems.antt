-- The items of operations on pointers.
use Rattle.std.proofs.Common.{◌≡◌, ⊎_elim, inl, inr, ℕ, zero, suc, ◌+◌, ◌/◌, ◌%◌, ◌<◌, ◌≤◌, ◌==◌, Bool, true, false, List}
use Rattle.std.proofs.Common.{[], ◌∷◌, ◌++◌, refl, sym, subst, arith, leb-true}
use Rattle.std.specs.Prelude.{nat_le, nat_lt, if◌then◌else◌, Option, Some, None}
use Rattle.std.proofs.lemmas.Bool.{eqb-true, and_parts, lt-ltb, false≢true}
use Rattle.std.proofs.lemmas.Bool.Decides.{nat_tests}
use Rattle.ec_isa.specs.declared.instructions.Instr.TheVariants.{Mov}
use Rattle.ec_isa.specs.Table.{in_table}
use Rattle.ec_asm.specs.declared.items.AsmItem.{AsmItem}
use Rattle.ec_asm.specs.declared.items.AsmItem.TheVariants.{Plain}
use Rattle.ec_asm.specs.declared.pieces.Location.{Location}
use Rattle.ec_asm.specs.declared.pieces.Location.TheVariants.{InRegisters, InMemory}
use Rattle.ec_asm.specs.Valid.{Sizes, is_offset}
use Rattle.ec_core.specs.Plain.{PlainProgram}
use Rattle.ec_space.specs.declared.Core.{Core}
use Rattle.ec_space.specs.declared.Core.TheVariants.{Small, Large}
use Rattle.ec_space.specs.declared.space.Bank.{Bank}
use Rattle.ec_space.specs.declared.space.Bank.TheVariants.{Flash as FlashBank, Data as DataBank}
use Rattle.ec_space.specs.declared.space.SpaceId.{SpaceId}
use Rattle.ec_space.specs.declared.space.SpaceId.TheVariants.{Flash, FarFlash, Data, Generic}
use Rattle.ec_space.specs.Spaces.{width}
use Rattle.ec_select_order.specs.declared.relations.Relation.{Relation}
use Rattle.ec_select_order.specs.declared.relations.Relation.TheVariants.{Less, NotLess, Equal, NotEqual}
use Rattle.ec_select_places.specs.Conversions.{embed_code}
use Rattle.ec_select_places.specs.Distances.{elements_code}
use Rattle.ec_select_places.specs.Form.{StepsAreValid, ConversionsAreValid, PlacesHaveNoLabel, ElementsAreValid}
use Rattle.ec_select_places.specs.Form.{HasPlaces as HasStepPlaces, HasNoLabel as StepsHaveNoLabel}
use Rattle.ec_select_places.specs.Form.{ElementsHaveNoLabel, ItemsAreValid as StepItemsAreValid}
use Rattle.ec_select_places.specs.Far.{advance_far_code}
use Rattle.ec_select_places.specs.Indexes.{can_add, add_index_code}
use Rattle.ec_select_places.specs.IndexLaws.{IndexesAreValid, IndexesHaveNoLabel}
use Rattle.ec_select_places.specs.FarForm.{FarStepsAreValid, FarPlacesHaveNoLabel}
use Rattle.ec_select_places.specs.Steps.{z_pair, scale_index_code, advance_code, compared_bytes}
use Rattle.ec_select_pointers.specs.Accesses.{load_data_code, load_flash_code, load_any_code, load_table_code}
use Rattle.ec_select_pointers.specs.Accesses.{store_data_code}
use Rattle.ec_select_pointers.specs.Addresses.{is_low_pair, pointer_bytes, address_code, rest_of, subtracts, subtract_byte}
use Rattle.ec_select_pointers.specs.Addresses.{subtract_each, subtract_pair, subtract_both, field_code}
use Rattle.ec_select_pointers.specs.AddressLaws.{IsTag}
use Rattle.ec_select_pointers.specs.Far.{load_far_code, load_far_table_code, load_any_far_code, far_address_code, far_rest_of}
use Rattle.ec_select_pointers.specs.Far.{field_far_code}
use Rattle.ec_select_pointers.specs.FarForm.{FarAddressesAreValid, FarTablesAreValid, FarAccessesAreValid, FarPointersHaveNoLabel}
use Rattle.ec_select_pointers.specs.Form.{AddressesAreValid, AccessesAreValid, PointersHaveNoLabel, TablesAreValid}
use Rattle.ec_select_pointers.specs.Form.{TablesHaveNoLabel, HasPlaces, HasNoLabel, ItemsAreValid}
use Rattle.ec_select_operations.specs.Code.{by_core, is_far, is_whole_address, addressed_code, member_code, load_code, moved_code}
use Rattle.ec_select_operations.specs.Code.{related_bytes}
use Rattle.ec_select_operations.specs.Pointers.{home_of, tag_of, tag_in, IsPointerSize}
use Rattle.ec_select.proofs.Fitting.{fits, Fit, joined, ByteFits, BytesFit, fewer_fit, reg}
use Rattle.ec_select.proofs.FixedItems.{all_fit}

-- what their items are, by the crates below
pub record PointerItemLaws : Type 0 where
  pub addresses : AddressesAreValid
  pub accesses : AccessesAreValid
  pub labels : PointersHaveNoLabel
  pub tables : TablesAreValid
  pub table_labels : TablesHaveNoLabel
  pub steps : StepsAreValid
  pub conversions : ConversionsAreValid
  pub step_labels : PlacesHaveNoLabel
  pub indexes : IndexesAreValid
  pub index_labels : IndexesHaveNoLabel
  pub elements : ElementsAreValid
  pub element_labels : ElementsHaveNoLabel
  pub far_addresses : FarAddressesAreValid
  pub far_tables : FarTablesAreValid
  pub far_accesses : FarAccessesAreValid
  pub far_labels : FarPointersHaveNoLabel
  pub far_steps : FarStepsAreValid
  pub far_step_labels : FarPlacesHaveNoLabel

-- ---- places

pub step_places : (sizes : Sizes) (p : Location) (n : ℕ) → HasPlaces sizes p n → HasStepPlaces sizes p n
step_places sizes (InRegisters r) n h = h
step_places sizes (InMemory o k) n h = h

pub fewer_places : (sizes : Sizes) (p : Location) (m n : ℕ) → m ≤ n → HasPlaces sizes p n → HasPlaces sizes p m
fewer_places sizes (InRegisters r) m n l h = omega arith
fewer_places sizes (InMemory o k) m n l h = λ i b. h i (omega arith)

-- a pointer has all bytes that are compared
few_compared : (r : Relation) (bytes : ℕ) → 2 ≤ bytes → compared_bytes r bytes ≤ bytes
few_compared Less bytes h = h
few_compared NotLess bytes h = h
few_compared Equal bytes h = omega arith
few_compared NotEqual bytes h = omega arith

pub few_related : (core : Core) (r : Relation) (bytes : ℕ) → 2 ≤ bytes → related_bytes core r bytes ≤ bytes
few_related Small r bytes h = few_compared r bytes h
few_related Large r bytes h = omega arith

-- a pointer with whole addresses has three bytes
pub far_bytes : (core : Core) (bytes : ℕ) → is_far core bytes ≡ true → bytes ≡ 3
far_bytes Small bytes e = absurd (false≢true e)
far_bytes Large bytes e = eqb-true bytes 3 e

pub whole_bytes : (core : Core) (bytes : ℕ) (bank : Bank) → is_whole_address core bytes bank ≡ true → bytes ≡ 3
whole_bytes core bytes FlashBank e = far_bytes core bytes e
whole_bytes core bytes DataBank e = absurd (false≢true e)

-- ---- tags

tag_is_small : (bank : Bank) → tag_of bank < 256
tag_is_small FlashBank = omega arith
tag_is_small DataBank = omega arith

pub no_tag : (bytes : ℕ) (bank : Bank) → bytes ≡ 2 → tag_in bytes bank ≡ None
no_tag bytes bank e = rw e refl

pub has_tag : (bytes : ℕ) (bank : Bank) → bytes ≡ 3 → tag_in bytes bank ≡ Some (tag_of bank)
has_tag bytes bank e = rw e refl

-- a tag and the bytes of a pointer with it
pub record IsTagged (bytes : ℕ) (tag : Option ℕ) : Type 0 where
  pub small : IsTag tag
  pub bytes_are : pointer_bytes tag ≡ bytes

pub tagged : (bytes : ℕ) (bank : Bank) → IsPointerSize bytes → IsTagged bytes (tag_in bytes bank)
tagged bytes bank size =
    ⊎_elim
    (λ (e : bytes ≡ 2). subst (λ (t : Option ℕ). IsTagged bytes t) (sym (no_tag bytes bank e))
    (record { small = tt; bytes_are = sym e }))
    (λ (e : bytes ≡ 3). subst (λ (t : Option ℕ). IsTagged bytes t) (sym (has_tag bytes bank e))
    (record { small = tag_is_small bank; bytes_are = sym e }))
    size

-- ---- items

module _ (sizes : Sizes) (laws : PointerItemLaws) where
  access_fits : (code : List AsmItem) → ItemsAreValid sizes code → HasNoLabel code → Fit sizes code
  access_fits code h k = all_fit sizes code h (k.uses []) k.places

  step_fits : (code : List AsmItem) → StepItemsAreValid sizes code → StepsHaveNoLabel code → Fit sizes code
  step_fits code h k = all_fit sizes code h (k.uses []) k.places

  address_fits : (o offset : ℕ) (q : Location) (bytes : ℕ) (tag : Option ℕ) → IsTagged bytes tag → HasPlaces sizes q bytes
      → is_offset sizes o offset ≡ true → Fit sizes (address_code o offset tag q)
  address_fits o offset q bytes tag t there inside =
      let places = subst (λ (n : ℕ). HasPlaces sizes q n) (sym t.bytes_are) there in
      access_fits (address_code o offset tag q) (laws.addresses sizes o offset tag q places inside t.small).0
      (laws.labels o offset tag q q 0).0

  far_address_fits : (o offset : ℕ) (q : Location) → HasPlaces sizes q 3 → is_offset sizes o offset ≡ true
      → Fit sizes (far_address_code o offset q)
  far_address_fits o offset q there inside =
      access_fits (far_address_code o offset q) (laws.far_addresses sizes o offset q there inside).0
      (laws.far_labels o offset q q 0).0

  pub addressed_fits : (core : Core) (p : PlainProgram) (o offset : ℕ) (q : Location) (bytes n : ℕ) → IsPointerSize bytes
      → HasPlaces sizes q bytes → is_offset sizes o offset ≡ true → Fit sizes (addressed_code core p o offset q bytes n)
  addressed_fits core p o offset q bytes n size there inside = by_count (n == 0) where
    bank : Bank
    bank = home_of p o

    by_address : (whole : Bool) → is_whole_address core bytes bank ≡ whole
        → Fit sizes (if whole then far_address_code o offset q else address_code o offset (tag_in bytes bank) q)
    by_address true e =
        far_address_fits o offset q (subst (λ (n : ℕ). HasPlaces sizes q n) (whole_bytes core bytes bank e) there) inside
    by_address false e = address_fits o offset q bytes (tag_in bytes bank) (tagged bytes bank size) there inside

    by_count : (none : Bool)
        → Fit sizes (if none then [] else (if is_whole_address core bytes bank then far_address_code o offset q
        else address_code o offset (tag_in bytes bank) q))
    by_count true = refl
    by_count false = by_address (is_whole_address core bytes bank) refl

  -- a constant is subtracted from a byte of a register from R16 up
  subtracts_fit : (i d k : ℕ) → 16 ≤ d → d < 32 → k < 256 → in_table (subtracts i d k) ≡ true
  subtracts_fit zero d k a b c = grind (arith, nat_tests)
  subtracts_fit (suc i) d k a b c = grind (arith, nat_tests)

  subtract_fits : (k : ℕ) (q : Location) (i : ℕ) → k < 256 → ByteFits sizes q i → Fit sizes (subtract_byte k q i)
  subtract_fits k (InMemory o j) i c x = rw (x, subtracts_fit i 30 k (omega arith) (omega arith) c) refl
  subtract_fits k (InRegisters r) i c x = by_register (nat_le 16 (r + i)) refl where
    by_register : (high : Bool) → nat_le 16 (r + i) ≡ high
        → Fit sizes (if high then Plain (subtracts i (r + i) k) ∷ []
        else Plain (Mov 30 (r + i)) ∷ Plain (subtracts i 30 k) ∷ Plain (Mov (r + i) 30) ∷ [])
    by_register true e = rw (subtracts_fit i (r + i) k (leb-true 16 (r + i) e) x c) refl
    by_register false e = rw (reg (r + i) x, subtracts_fit i 30 k (omega arith) (omega arith) c) refl

  -- two bytes are subtracted, one after another or in R30 and R31
  subtract_both_fits : (k : ℕ) (q : Location) → k < 65536 → BytesFit sizes q 2 → Fit sizes (subtract_both k q)
  subtract_both_fits k q small x = by_place q x where
    each : (q : Location) → BytesFit sizes q 2 → Fit sizes (subtract_each k q)
    each q x =
        joined (fits sizes) (subtract_byte (k % 256) q 0) (subtract_byte (k / 256) q 1)
        (subtract_fits (k % 256) q 0 (omega arith) (x 0 (omega arith)))
        (subtract_fits (k / 256) q 1 (omega (arith, small)) (x 1 (omega arith)))

    by_pair : (r : ℕ) (b : Bool) → is_low_pair r ≡ b → BytesFit sizes (InRegisters r) 2
        → Fit sizes (if b then subtract_pair k r else subtract_each k (InRegisters r))
    by_pair r false q x = each (InRegisters r) x
    by_pair r true q x =
        let even = (and_parts (nat_lt r 16) (r % 2 == 0) q).1 in
        let first = x 0 (omega arith) in
        rw (reg r (omega (arith, first)), even, lt-ltb (k % 256) 256 (omega arith), lt-ltb (k / 256) 256 (omega (arith, small))) refl

    by_place : (q : Location) → BytesFit sizes q 2 → Fit sizes (subtract_both k q)
    by_place (InRegisters r) x = by_pair r (is_low_pair r) refl x
    by_place (InMemory o j) x = each (InMemory o j) x

  field_fits : (q : Location) (offset : ℕ) → BytesFit sizes q 2 → Fit sizes (field_code q offset)
  field_fits q offset x = by_rest (offset % 65536 == 0) refl where
    by_rest : (none : Bool) → (offset % 65536 == 0) ≡ none → Fit sizes (if none then [] else subtract_both (rest_of offset) q)
    by_rest true e = refl
    by_rest false e =
        let some : 1 ≤ offset % 65536 = grind (arith, nat_tests) in
        subtract_both_fits (rest_of offset) q (omega (arith, some)) x

  far_field_fits : (q : Location) (offset : ℕ) → BytesFit sizes q 3 → Fit sizes (field_far_code q offset)
  far_field_fits q offset x = by_rest (offset % 16777216 == 0) refl where
    rest : ℕ
    rest = far_rest_of offset

    by_rest : (none : Bool) → (offset % 16777216 == 0) ≡ none
        → Fit sizes (if none then [] else subtract_byte (rest % 256) q 0
        ++ (subtract_byte (rest / 256 % 256) q 1 ++ subtract_byte (rest / 65536) q 2))
    by_rest true e = refl
    by_rest false e =
        let some : 1 ≤ offset % 16777216 = grind (arith, nat_tests) in
        joined (fits sizes) (subtract_byte (rest % 256) q 0) (subtract_byte (rest / 256 % 256) q 1 ++ subtract_byte (rest / 65536) q 2)
        (subtract_fits (rest % 256) q 0 (omega arith) (x 0 (omega arith)))
        (joined (fits sizes) (subtract_byte (rest / 256 % 256) q 1) (subtract_byte (rest / 65536) q 2)
        (subtract_fits (rest / 256 % 256) q 1 (omega arith) (x 1 (omega arith)))
        (subtract_fits (rest / 65536) q 2 (omega (arith, some)) (x 2 (omega arith))))

  -- a pointer of so many bytes, which are at least two
  pub member_fits : (core : Core) (q : Location) (bytes offset : ℕ) → 2 ≤ bytes → BytesFit sizes q bytes
      → Fit sizes (member_code core bytes q offset)
  member_fits core q bytes offset some x = by_far (is_far core bytes) refl where
    by_far : (far : Bool) → is_far core bytes ≡ far → Fit sizes (if far then field_far_code q offset else field_code q offset)
    by_far true e = far_field_fits q offset (subst (λ (n : ℕ). BytesFit sizes q n) (far_bytes core bytes e) x)
    by_far false e = field_fits q offset (fewer_fit sizes q 2 bytes some x)

  -- code for either core
  either_fits : (core : Core) (small large : List AsmItem) → Fit sizes small → Fit sizes large → Fit sizes (by_core core small large)
  either_fits Small small large x y = x
  either_fits Large small large x y = y

  pub load_fits : (core : Core) (tables : Bool) (space : SpaceId) (p q : Location) (n : ℕ) → n ≤ 64 → HasPlaces sizes p (width space)
      → HasPlaces sizes q n → Fit sizes (load_code core tables space p q n)
  load_fits core tables Flash p q n few x y =
      access_fits (load_flash_code p q n) (laws.accesses sizes p q n few x y).1 (laws.labels 0 0 None p q n).3
  load_fits core tables Data p q n few x y =
      access_fits (load_data_code p q n) (laws.accesses sizes p q n few x y).0 (laws.labels 0 0 None p q n).2
  load_fits core tables FarFlash p q n few x y =
      either_fits core (load_flash_code p q n) (load_far_code p q n)
      (access_fits (load_flash_code p q n)
      (laws.accesses sizes p q n few (fewer_places sizes p 2 3 (omega arith) x) y).1 (laws.labels 0 0 None p q n).3)
      (access_fits (load_far_code p q n) (laws.far_accesses sizes p q n few x y).0 (laws.far_labels 0 0 p q n).2)
  load_fits core false Generic p q n few x y =
      access_fits (load_data_code p q n)
      (laws.accesses sizes p q n few (fewer_places sizes p 2 3 (omega arith) x) y).0 (laws.labels 0 0 None p q n).2
  load_fits core true Generic p q n few x y =
      either_fits core (load_any_code p q n) (load_any_far_code p q n)
      (access_fits (load_any_code p q n)
      ((laws.accesses sizes p q n few (fewer_places sizes p 2 3 (omega arith) x) y).3 x) (laws.labels 0 0 None p q n).4)
      (access_fits (load_any_far_code p q n) (laws.far_accesses sizes p q n few x y).1 (laws.far_labels 0 0 p q n).4)

  pub store_fits : (from ptr : Location) (n : ℕ) → n ≤ 64 → HasPlaces sizes ptr 2 → HasPlaces sizes from n
      → Fit sizes (store_data_code from ptr n)
  store_fits from ptr n few x y =
      access_fits (store_data_code from ptr n) (laws.accesses sizes ptr from n few x y).2 (laws.labels 0 0 None from ptr n).5

  pub table_fits : (o offset : ℕ) (q : Location) (n : ℕ) → HasPlaces sizes q n → is_offset sizes o offset ≡ true
      → Fit sizes (load_table_code o offset q n)
  table_fits o offset q n x inside =
      access_fits (load_table_code o offset q n) (laws.tables sizes o offset q n x inside) (laws.table_labels o offset q n)

  far_table_fits : (o offset : ℕ) (q : Location) (n : ℕ) → HasPlaces sizes q n → is_offset sizes o offset ≡ true
      → Fit sizes (load_far_table_code o offset q n)
  far_table_fits o offset q n x inside =
      access_fits (load_far_table_code o offset q n) (laws.far_tables sizes o offset q n x inside)
      (laws.far_labels o offset q q n).3

  -- from an object with the home far
  pub far_object_fits : (core : Core) (o offset : ℕ) (q : Location) (n : ℕ) → HasPlaces sizes q n → is_offset sizes o offset ≡ true
      → Fit sizes (by_core core (load_table_code o offset q n) (load_far_table_code o offset q n))
  far_object_fits core o offset q n x inside =
      either_fits core (load_table_code o offset q n) (load_far_table_code o offset q n) (table_fits o offset q n x inside)
      (far_table_fits o offset q n x inside)

  pub scale_fits : (p q : Location) (signed : Bool) (n size : ℕ) → 1 ≤ n → size < 65536 → HasPlaces sizes p n
      → HasPlaces sizes q 2 → Fit sizes (scale_index_code p signed n size)
  scale_fits p q signed n size some small x y =
      step_fits (scale_index_code p signed n size)
      (laws.steps sizes p q signed true n size (inl (step_places sizes p n x)) some small (step_places sizes q 2 y)).0
      (laws.step_labels p q signed true true Less n size).0

  pub added_fits : (minus signed : Bool) (p q : Location) (n size : ℕ) → 1 ≤ n → HasPlaces sizes p n → HasPlaces sizes q 2
      → can_add signed p q n size ≡ true → Fit sizes (add_index_code minus p q n size)
  added_fits minus signed p q n size some x y can =
      step_fits (add_index_code minus p q n size)
      (laws.indexes sizes minus signed p q n size (inl (step_places sizes p n x)) some (step_places sizes q 2 y) can)
      (laws.index_labels minus p q n size)

  -- an index that stands in R30 and R31
  pub added_there_fits : (minus signed : Bool) (q : Location) (n size : ℕ) → 1 ≤ n → HasPlaces sizes q 2
      → can_add signed z_pair q n size ≡ true → Fit sizes (add_index_code minus z_pair q n size)
  added_there_fits minus signed q n size some y can =
      step_fits (add_index_code minus z_pair q n size)
      (laws.indexes sizes minus signed z_pair q n size (inr refl) some (step_places sizes q 2 y) can)
      (laws.index_labels minus z_pair q n size)

  pub scale_there_fits : (q : Location) (signed : Bool) (n size : ℕ) → 1 ≤ n → size < 65536 → HasPlaces sizes q 2
      → Fit sizes (scale_index_code z_pair signed n size)
  scale_there_fits q signed n size some small y =
      step_fits (scale_index_code z_pair signed n size)
      (laws.steps sizes z_pair q signed true n size (inr refl) some small (step_places sizes q 2 y)).0
      (laws.step_labels z_pair q signed true true Less n size).0

  advance_fits : (p q : Location) (minus : Bool) (n : ℕ) → 1 ≤ n → HasPlaces sizes p n → HasPlaces sizes q 2
      → Fit sizes (advance_code minus q)
  advance_fits p q minus n some x y =
      step_fits (advance_code minus q)
      (laws.steps sizes p q true minus n 0 (inl (step_places sizes p n x)) some (omega arith) (step_places sizes q 2 y)).1
      (laws.step_labels p q true minus true Less n 0).1

  far_advance_fits : (q : Location) (minus : Bool) → HasPlaces sizes q 3 → Fit sizes (advance_far_code minus q)
  far_advance_fits q minus x =
      step_fits (advance_far_code minus q) (laws.far_steps sizes minus q (step_places sizes q 3 x))
      (laws.far_step_labels minus Less q q 0).0

  -- a pointer of so many bytes, which are at least two
  pub moved_fits : (core : Core) (q : Location) (minus : Bool) (bytes : ℕ) → 2 ≤ bytes → HasPlaces sizes q bytes
      → Fit sizes (moved_code core bytes minus q)
  moved_fits core q minus bytes some x = by_far (is_far core bytes) refl where
    by_far : (far : Bool) → is_far core bytes ≡ far → Fit sizes (if far then advance_far_code minus q else advance_code minus q)
    by_far true e = far_advance_fits q minus (subst (λ (n : ℕ). HasPlaces sizes q n) (far_bytes core bytes e) x)
    by_far false e =
        let pair = fewer_places sizes q 2 bytes some x in
        advance_fits q q minus 2 (omega arith) pair pair

  pub elements_fit : (a b q : Location) (size : ℕ) → HasPlaces sizes a 2 → HasPlaces sizes b 2 → HasPlaces sizes q 2
      → Fit sizes (elements_code a b q size)
  elements_fit a b q size x y z =
      step_fits (elements_code a b q size)
      (laws.elements sizes a b q size (step_places sizes a 2 x) (step_places sizes b 2 y) (step_places sizes q 2 z))
      (laws.element_labels a b q size)

  pub embed_fits : (to_data : Bool) (q : Location) → HasPlaces sizes q 3 → Fit sizes (embed_code to_data q)
  embed_fits to_data q y =
      step_fits (embed_code to_data q) ((laws.conversions sizes to_data q q).0 (step_places sizes q 3 y))
      (laws.step_labels q q true true to_data Less 0 0).3
