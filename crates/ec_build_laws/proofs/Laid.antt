-- Code, objects and stack of a placed program stand as its code asks.
use Rattle.std.proofs.Common.{◌≡◌, ◌≢◌, ◌⊎◌, inl, inr, ⊎_elim, ℕ, zero, suc, ◌+◌, ◌-◌, ◌*◌, ◌%◌, ◌<◌, ◌≤◌, Bool, true}
use Rattle.std.proofs.Common.{◌^◌, false, List, [], ◌∷◌, length, map, replicate, zero-add, add-zero, Option, Some, None}
use Rattle.std.proofs.Common.{refl}
use Rattle.std.proofs.Common.{sym, ap, ◌∙◌, subst, arith}
use Rattle.std.specs.Prelude.{nat_le, nat_lt, ◌==◌, ◌&&◌, if◌then◌else◌, slice_get, slice_index, option_map, option_and_then}
use Rattle.std.specs.Prelude.{IsTrue, IsSomeAnd, unwrap_or, Contains}
use native.Mathlib.Nat.{zero-mod}
use Rattle.std.proofs.lemmas.Bool.{lt-ltb, le-ltb, ltb-true, and_parts, false≢true, ne_eqb, eq-eqb}
use Rattle.std.specs.List.{AllByRecursion}
use Rattle.std.proofs.lemmas.List.{length-map}
use Rattle.std.proofs.lemmas.List.Elements.{Contains-append_cases, Contains-push_cases}
use Rattle.std.proofs.lemmas.Option.{slice_get-map, slice_get_within, get_or_from_slice_get}
use Rattle.ec_space.specs.ByteLaws.{length-little_endian}
use Rattle.ec_space.specs.Memory.{flash_size as size_of_flash, data_size}
use Rattle.ec_space.specs.Spaces.{bank_of, holds, width}
use Rattle.ec_space.specs.declared.space.Bank.{Bank}
use Rattle.ec_space.specs.declared.space.Bank.TheVariants.{Flash, Data}
use Rattle.ec_space.specs.declared.space.Home.{Home}
use Rattle.ec_space.specs.declared.space.Home.TheVariants.{Flash as FlashHome, Far as FarHome, Data as DataHome}
use Rattle.ec_space.specs.declared.space.Place.{Place}
use Rattle.ec_avr.specs.State.{has_rampz, is_core_register}
use Rattle.ec_asm.specs.Change.{Env, Kind, Own, Object, Stacked, Page, unbased}
use Rattle.ec_asm.specs.Items.{HasAt, code_words}
use Rattle.ec_asm.specs.Laws.{PlacedItemsStand}
use Rattle.ec_asm.specs.Pieces.{is_held}
use Rattle.ec_asm.specs.Placed.{IsPlaced}
use Rattle.ec_asm.specs.Valid.{stands_once, ValidAsm}
use Rattle.ec_asm.specs.declared.items.AsmItem.{AsmItem}
use Rattle.ec_asm.specs.declared.items.AsmItem.TheVariants.{Plain, Label, JumpTo, CallTo, BranchTo, LoadPart, LoadObj}
use Rattle.ec_asm.specs.declared.items.AsmItem.TheVariants.{StoreObj}
use Rattle.ec_asm.specs.declared.items.AsmProgram.{AsmProgram}
use Rattle.ec_asm.proofs.ItemWords.{words_cons}
use Rattle.ec_asm_based.specs.Laws.{StandsAt as ReachStands, AreReached}
use Rattle.ec_asm_based.specs.declared.reach.Reach.{Reach}
use Rattle.ec_check_recursion.specs.Rows.{row_at, rows_of_program, LeadsTo, calls as row_calls, calls_through as row_calls_through}
use Rattle.ec_core.specs.Accesses.{leaf_of, leaf_count}
use Rattle.ec_core.specs.Layout.{scalar_size, size_of_type, leaves_of_type}
use Rattle.ec_core.specs.Meaning.{initial_object, initial_value}
use Rattle.ec_core.specs.Plain.{PlainType, void, integer, fixed, pointer, array, struct, PlainStorage, static, local}
use Rattle.ec_core.specs.Plain.{param}
use Rattle.ec_core.specs.Plain.{register, PlainObject, PlainFunction, PlainProgram}
use Rattle.ec_core.specs.PortTable.{plain_table}
use Rattle.ec_core.specs.State.{ObjectState}
use Rattle.ec_core.specs.Valid.{IsStatic, IsObject, IsStored, IsInitialValue, AreInitialValues, IsAddressable}
use Rattle.ec_core.specs.declared.programs.LeafInit.{LeafInit}
use Rattle.ec_core.specs.declared.programs.LeafInit.TheVariants.{Number as TheNumber, Null as TheNull, Address}
use Rattle.ec_core.specs.declared.values.Value.{Value}
use Rattle.ec_core.proofs.Homes.{home_in_data}
use Rattle.ec_ir.specs.Meaning.{start_state, standing}
use Rattle.ec_ir.specs.Operations.{PlainIr, call_function, PlainIrFunction, PlainIrProgram, data_of}
use Rattle.ec_ir.specs.Valid.{Results, ValidOperation, ValidIrFunction, called_in, CallsTo, calls, calls_through}
use Rattle.ec_lower_code.specs.Code.{lowered, lowered_function}
use Rattle.ec_lower_code.specs.Correct.{IsMadeOf, LoweredIsMadeOf}
use Rattle.ec_overlay.specs.Chains.{IsChain}
use Rattle.ec_overlay.specs.Frames.{begin_of}
use Rattle.ec_overlay.specs.Objects.{AreOnChain}
use Rattle.ec_overlay.proofs.Programs.{row_is}
use Rattle.ec_map.specs.Cores.{home_end}
use Rattle.ec_map.specs.Regions.{end_of}
use Rattle.ec_map.specs.declared.map.Map.{Map}
use Rattle.ec_locate.specs.Apart.{PlacedStandApart}
use Rattle.ec_locate.specs.Code.{label_word, address_of}
use Rattle.ec_locate.specs.DataBank.{IsOwnedBy, CanBeLive, Names, an_object, scratch, work, IsInMemory, StandsIn, DataStands}
use Rattle.ec_locate.specs.DataBank.{DataStandsApart}
use Rattle.ec_locate.specs.Entries.{entries, flash_sizes, frame_size, scratch_size, work_size}
use Rattle.ec_locate.specs.FlashBank.{IsInFlash, FlashStands, FlashStandsApart}
use Rattle.ec_locate.specs.Image.{value_number, values_at}
use Rattle.ec_locate.specs.Initial.{values_of, ValuesStand, InitialValues, InitialValuesStand}
use Rattle.ec_locate.specs.Layout.{LayoutView, local_at, scratch_area}
use Rattle.ec_locate.specs.Placing.{layout_by, last_of, object_sizes, entries_by}
use Rattle.ec_locate.specs.Stands.{CodeStands}
use Rattle.ec_locate.specs.declared.placing.Located.{Located}
use Rattle.ec_select_functions.specs.Laws.{CallsOn}
use Rattle.ec_select_operations.specs.Places.{ObjectLeaf, Apart, owner_of, Chained, CanBeLiveTogether}
use Rattle.ec_select_functions.specs.Relation.{HoldsLeaf}
use Rattle.ec_select_functions.specs.Standing.{ScratchStands, WorkStands, StandsInMemory, ObjectStands, ObjectsStand}
use Rattle.ec_select_functions.specs.Standing.{StandsInFlash, TablesStand}
use Rattle.ec_select.specs.LaidOut.{CodeStands as CodeIsLaidOut, ScratchIsLaidOut, initial_at, InitialsStand}
use Rattle.ec_select.specs.LaidOut.{StackStands, WorkIsLaidOut}
use Rattle.ec_select.specs.Labels.{homes_of, widest_temps}
use Rattle.ec_select.specs.Laws.{SelectionsAreValid}
use Rattle.ec_select.specs.Program.{has_initial_bytes}
use Rattle.ec_build_laws.specs.Kinds.{is_of_objects, is_of_initials, is_hidden, is_rampz, kinds, tables, environment_of, place_of}
use Rattle.ec_build_laws.specs.Kinds.{scratch_of}
use Rattle.ec_build_laws.specs.Laws.{IsByteOf, AreKinds, AreLaidOut, PlacedAreLaidOut}
use Rattle.ec_build_laws.specs.Shortened.{is_in_memory, nowhere, reach_of, reaches_of, ShortenedIsValid}
use Rattle.ec_build_laws.specs.Translation.{IsTranslated}
use Rattle.ec_build_laws.proofs.Ends.{data_high, data_low, tables_low, home_below, home_in_flash, flash_low}
use Rattle.ec_build_laws.proofs.Live.{object_first, scratch_and_work, scratch_on_chain}
use Rattle.ec_build_laws.proofs.ByAddress.{object_there, kinds_are_told, flash_length}
use Rattle.ec_build_laws.proofs.Numbers.{AreBytesOf, bytes_are_low, of_pointer}
use Rattle.ec_build_laws.proofs.Pointers.{StandsAt, address_held}
use Rattle.ec_build_laws.proofs.Rows.{all_at, each_at, there_is, place_there, place_bank, initial_there, frame_there}
use Rattle.ec_build_laws.proofs.Rows.{initial_byte}
use Rattle.ec_build_laws.proofs.Shorter.{StandLaws, LongStands, long_stands, selected_is_valid, short_is_valid, memory_told}
use Rattle.ec_build_laws.proofs.Shorter.{reach_found}
use Rattle.ec_build_laws.proofs.Rows.{value_suits}

-- what this rests on
pub record PlacedLaws : Type 0 where
  pub items : PlacedItemsStand
  pub code : CodeStands
  pub apart : DataStandsApart
  pub flash : FlashStandsApart
  pub separate : PlacedStandApart
  pub initials : InitialValuesStand
  pub made : LoweredIsMadeOf
  pub selections : SelectionsAreValid
  pub short : ShortenedIsValid
  pub long : StandLaws

-- ---- labels

label_or : (i : AsmItem) (is : List AsmItem) (here : Bool) (n : ℕ) → n ≤ code_words is → (if here then 0 else n) ≤ code_words (i ∷ is)
label_or i is true n h = omega arith
label_or i is false n h = let w = words_cons i is in omega (arith, h, w)

-- a label stands at most behind all words
label_below : (items : List AsmItem) (l : ℕ) → label_word items l ≤ code_words items
label_below [] l = omega arith
label_below (Label k ∷ is) l = label_or (Label k) is (k == l) (label_word is l) (label_below is l)
label_below (Plain i ∷ is) l = let r = label_below is l in let w = words_cons (Plain i) is in omega (arith, r, w)
label_below (JumpTo k ∷ is) l = let r = label_below is l in let w = words_cons (JumpTo k) is in omega (arith, r, w)
label_below (CallTo k ∷ is) l = let r = label_below is l in let w = words_cons (CallTo k) is in omega (arith, r, w)
label_below (BranchTo b f k ∷ is) l = let r = label_below is l in let w = words_cons (BranchTo b f k) is in omega (arith, r, w)
label_below (LoadPart d o k n ∷ is) l = let r = label_below is l in let w = words_cons (LoadPart d o k n) is in omega (arith, r, w)
label_below (LoadObj d o k ∷ is) l = let r = label_below is l in let w = words_cons (LoadObj d o k) is in omega (arith, r, w)
label_below (StoreObj o k d ∷ is) l = let r = label_below is l in let w = words_cons (StoreObj o k d) is in omega (arith, r, w)

width_is : (b : Bool) → (let n : ℕ = if b then 2 else 4 in (n ≡ 2) ⊎ (n ≡ 4))
width_is true = inl refl
width_is false = inr refl

-- ---- apartness

apart_from : (a m b n : ℕ) → 1 ≤ m → (a + m ≤ b) ⊎ (b + n ≤ a) → Apart a m b n
apart_from a m b n some (inl h) = record { left = λ u. h; right = λ u. absurd (omega (arith, h, u, some)) }
apart_from a m b n some (inr h) = record { left = λ u. absurd (omega (arith, h, u)); right = λ u. h }

-- nothing, at the end of the data addresses, is apart from all that stands below it
nothing_apart : (top a m b n : ℕ) → a ≡ top → m ≡ 0 → b + n ≤ top → Apart a m b n
nothing_apart top a m b n q z h = record { left = λ u. omega (arith, q, z, h, u); right = λ u. omega (arith, q, h) }

-- ---- the address of the first initial byte

index_of_initials : (y : LayoutView) (last o : ℕ) → slice_index y.initials o < 65536 → address_of y last (2048 + o) 0
    ≡ slice_index y.initials o
index_of_initials y last o h =
    let q : 2048 + o - 2048 ≡ o = omega arith in
    rw (
      le-ltb (2048 + o) 1024 (omega arith),
      le-ltb (2048 + o) 1280 (omega arith),
      ne_eqb (2048 + o) 1280 (λ e. omega (arith, e)),
      ne_eqb
          (2048 + o) 1281 (λ e. omega (arith, e)),
      le-ltb (2048 + o) 2048 (omega arith),
      q,
    )
    (let n = slice_index y.initials o in omega (arith, h))

-- ---- static objects of the data bank, and where the values of those in flash are

values_in_flash : (y : LayoutView) (i : ℕ) (home : Home) → bank_of home ≡ Flash
    → values_at y i home ≡ unwrap_or (option_map (λ z. z.offset) (slice_get y.places i)) 0
values_in_flash y i FlashHome h = refl
values_in_flash y i FarHome h = refl
values_in_flash y i DataHome h = cc

record IsKept (s : PlainStorage) (home : Home) : Type 0 where
  inits : List LeafInit
  is_static : s ≡ static inits
  in_data : bank_of home ≡ Data

is_kept : (s : PlainStorage) (home : Home) → has_initial_bytes s home ≡ true → IsKept s home
is_kept (static inits) DataHome h = record { inits = inits; is_static = refl; in_data = refl }
is_kept (static inits) FlashHome h = absurd (false≢true h)
is_kept (static inits) FarHome h = absurd (false≢true h)
is_kept (local f) home h = absurd (false≢true h)
is_kept (param f) home h = absurd (false≢true h)
is_kept (register r) home h = absurd (false≢true h)

none_set : (n k : ℕ) → option_and_then (λ (v : Option Value). v) (slice_get (replicate n None) k) ≡ None
none_set zero k = refl
none_set (suc n) zero = refl
none_set (suc n) (suc k) = none_set n k

-- the value of a leaf of a static object is one of its initial values
record IsSetBy (inits : List LeafInit) (k : ℕ) (u : Value) : Type 0 where
  init : LeafInit
  has : slice_get inits k ≡ Some init
  same : initial_value init ≡ u

set_by : (inits : List LeafInit) (k : ℕ) (u : Value)
    → option_and_then (λ (v : Option Value). v) (slice_get (map (λ init. Some (initial_value init)) inits) k) ≡ Some u → IsSetBy inits k u
set_by [] k u h = absurd cc
set_by (x ∷ inits) zero u h = record { init = x; has = refl; same = cc }
set_by (x ∷ inits) (suc k) u h = let r = set_by inits k u h in record { init = r.init; has = r.has; same = r.same }

-- ---- calls

called_known : (cells : ℕ) (p : PlainIrProgram) (results : Results) (f slots : ℕ) (all code : List PlainIr)
    → AllByRecursion (ValidOperation cells p results f slots all) code → (b : ℕ) → Contains (called_in code) b → b < length p.functions
called_known cells p results f slots all [] h b c = let less = c.1 in absurd (omega (arith, less))
called_known cells p results f slots all (call_function k to ∷ code) h b c =
    ⊎_elim
    (λ u. ⊎_elim (λ z. let less = z.1 in absurd (omega (arith, less))) (λ same. subst (λ n. n < length p.functions) same h.0.0)
    (Contains-push_cases [] k b u))
    (λ u. called_known cells p results f slots all code h.1 b u) (Contains-append_cases (k ∷ []) (called_in code) b c)
called_known cells p results f slots all (i ∷ code) h b c = called_known cells p results f slots all code h.1 b c

-- ---- the whole

-- what stands at an address is told so that code can stand: registers, scratch memory and the work bytes are code's own,
-- and objects in either bank, the stack and initial bytes are told to be such
pub record HasKinds (p : PlainProgram) (m : Map) (asm : AsmProgram) (l : Located) (kind table : ℕ → Kind) : Type 0 where
  pub page : has_rampz m.core ≡ true → kind 0x5B ≡ Page
  pub registers : (a : ℕ) → is_core_register m.core a ≡ true → is_hidden a ≡ false → is_rampz m.core a ≡ false → kind a ≡ Own
  pub objects : (a i : ℕ) (o : PlainObject) (q : Place) → IsByteOf p l Data a i o q → IsAddressable o.storage → kind a ≡ Object
  pub scratch : (f frame at a : ℕ) → slice_get asm.frames.items f ≡ Some frame → slice_get l.frames.items f ≡ Some at
      → at ≤ a → a < at + frame_size frame → kind a ≡ Own
  pub work : (a : ℕ) → l.work ≤ a → a < l.work + work_size m.io → kind a ≡ Own
  pub stack : (a : ℕ) → m.stack.first ≤ a → a < end_of m.stack → kind a ≡ Stacked
  pub initials : (a : ℕ) → a < size_of_flash m.core → is_of_initials p.structs p.objects (layout_by p m asm).initials a ≡ true
      → is_held (table a) ≡ true
  pub tables : (a i : ℕ) (o : PlainObject) (q : Place) → a < size_of_flash m.core → IsByteOf p l Flash a i o q → table a ≡ Object

module _ (laws : PlacedLaws) (p : PlainProgram) (m : Map) (asm : AsmProgram) (l : Located) (h : IsTranslated p m asm l)
    (kind table : ℕ → Kind) (are : HasKinds p m asm l kind table) where
  abbrev q : PlainIrProgram
  q = lowered p (plain_table m.io)

  abbrev e : Env
  e = environment_of p m asm l kind table

  abbrev y : LayoutView
  y = layout_by p m asm

  abbrev rows : List (List ℕ)
  rows = rows_of_program p

  abbrev size : PlainObject → ℕ
  size o = size_of_type p.structs o.ty

  made : IsMadeOf p m.io q
  made = laws.made p m.io h.valid h.groups

  asm_valid : ValidAsm (object_sizes p) (work_size m.io) asm
  asm_valid = short_is_valid laws.short laws.selections p m asm l h made

  stand : DataStands p m asm l
  stand = laws.apart p m asm l h.valid h.map asm_valid h.located

  flash_stand : FlashStands p m asm l
  flash_stand = laws.flash p m asm l h.valid h.map asm_valid h.located

  -- ---- code

  is_placed : IsPlaced (unbased e) asm.items.items 0
  is_placed = laws.code p m asm l kind table h.map asm_valid h.located

  short_stands : HasAt (unbased e) asm.items.items 0 (code_words asm.items.items)
  short_stands =
      subst (λ n. HasAt (unbased e) asm.items.items 0 n) (zero-add (code_words asm.items.items))
      (laws.items (unbased e) asm.items.items 0 is_placed)

  labels : (k : ℕ) → stands_once asm.items.items k ≡ true → e.word_of k < 65536
  labels k once =
      let below = label_below asm.items.items k in
      let room = is_placed.room in
      rw once (omega (arith, below, room))

  -- ---- objects

  object_is : (o : ℕ) (d : PlainObject) → slice_get p.objects o ≡ Some d → IsObject p d
  object_is o d is = all_at (IsObject p) p.objects o d h.valid.objects is

  place_is : (o : ℕ) (d : PlainObject) → slice_get p.objects o ≡ Some d → (z : Place) × (slice_get l.places.items o ≡ Some z)
  place_is o d is =
      let there = place_there p.structs m.places.items p.objects m.tables.first m.far.first m.vars.first
      (local_at m rows (entries_by m p)) 0 o d is in
      (there.0, subst (λ ps. slice_get ps o ≡ Some there.0) (sym h.located.places) there.1)

  offset_is : (o : ℕ) (z : Place) → slice_get l.places.items o ≡ Some z → place_of l o ≡ z.offset
  offset_is o z there = rw there refl

  names : (o : ℕ) (d : PlainObject) → slice_get p.objects o ≡ Some d → bank_of d.home ≡ Data → Names p m asm l o (place_of l o) (size d)
  names o d is home =
      let z = place_is o d is in
      subst (λ n. Names p m asm l o n (size d)) (sym (offset_is o z.0 z.1)) (an_object o d z.0 is home z.1)

  stands_in : (o : ℕ) (d : PlainObject) → slice_get p.objects o ≡ Some d → bank_of d.home ≡ Data
      → StandsIn m.core d.storage (place_of l o) (size d)
  stands_in o d is home =
      let z = place_is o d is in
      subst (λ n. StandsIn m.core d.storage n (size d)) (sym (offset_is o z.0 z.1)) (stand.objects o d z.0 is home z.1)

  ends : (s : PlainStorage) (at n : ℕ) → StandsIn m.core s at n → at + n ≤ data_size m.core
  ends (static inits) at n i = i.1
  ends (local f) at n i = i.1
  ends (param f) at n i = i.1
  ends (register first) at n i = let u = i.2 in let v = i.0 in let high = data_high m.core in omega (arith, u, v, high)

  -- an object in memory
  in_memory : (o : ℕ) (d : PlainObject) → slice_get p.objects o ≡ Some d → bank_of d.home ≡ Data
      → IsInMemory m.core (place_of l o) (size d)
      → ((a : ℕ) → place_of l o ≤ a → a < place_of l o + size d → kind a ≡ Object) → StandsInMemory e o (size d) (place_of l o)
  in_memory o d is home i kind = record {
    high = i.0;
    end = let low = i.1 in let most = data_low m.core in omega (arith, low, most);
    at = λ k less. stand.address o (place_of l o) (size d) k (names o d is home) less;
    kind = λ k less. kind (place_of l o + k) (omega arith) (omega (arith, less));
  }

  object_kind : (o : ℕ) (d : PlainObject) → slice_get p.objects o ≡ Some d → bank_of d.home ≡ Data
      →
      ((a : ℕ) → place_of l o ≤ a → a < place_of l o + size d
      → (z : Place) × ((slice_get l.places.items o ≡ Some z) × (z.offset ≤ a) × (a < z.offset + size d)))
  object_kind o d is home a from below =
      let z = place_is o d is in
      let at = offset_is o z.0 z.1 in
      (z.0, (z.1, omega (arith, at, from), omega (arith, at, below)))

  object_stands : (o : ℕ) (d : PlainObject) → slice_get p.objects o ≡ Some d → bank_of d.home ≡ Data
      → ObjectStands e o (size d) (place_of l o) d.storage
  object_stands o d is home = by_storage d.storage refl (stands_in o d is home) where
    kind_there : (named : IsAddressable d.storage) → (a : ℕ) → place_of l o ≤ a → a < place_of l o + size d → kind a ≡ Object
    kind_there named a from below =
        let z = object_kind o d is home a from below in
        are.objects a o d z.0 (record { object = is; home = home; place = z.1.0; from_there = z.1.1; within = z.1.2 }) named

    by_storage : (s : PlainStorage) → d.storage ≡ s → StandsIn m.core s (place_of l o) (size d) → ObjectStands e o (size d) (place_of l o) s
    by_storage (static inits) s i = in_memory o d is home i (kind_there (rw s tt))
    by_storage (local f) s i = in_memory o d is home i (kind_there (rw s tt))
    by_storage (param f) s i = in_memory o d is home i (kind_there (rw s tt))
    by_storage (register first) s i = i

  -- ---- objects in flash

  in_flash : (o : ℕ) (d : PlainObject) → slice_get p.objects o ≡ Some d → bank_of d.home ≡ Flash
      → (z : Place) × ((z.offset ≡ place_of l o) × IsInFlash p l o d z)
  in_flash o d is home =
      let z = place_is o d is in
      (z.0, (sym (offset_is o z.0 z.1), record { is_object = is; home = home; is_place = z.1 }))

  flash_ends : (o : ℕ) (d : PlainObject) → slice_get p.objects o ≡ Some d → bank_of d.home ≡ Flash
      → (0 < place_of l o) × (place_of l o + size d ≤ home_end d.home m.core)
  flash_ends o d is home =
      let z = in_flash o d is home in
      subst (λ n. (0 < n) × (n + size d ≤ home_end d.home m.core)) z.1.0 (flash_stand.objects o d z.0 z.1.1)

  table_stands : (o : ℕ) (d : PlainObject) → slice_get p.objects o ≡ Some d → bank_of d.home ≡ Flash
      → StandsInFlash e d.home o (size d) (place_of l o)
  table_stands o d is home =
      let z = in_flash o d is home in
      let at = z.1.0 in
      let some = (flash_ends o d is home).0 in
      let within = (flash_ends o d is home).1 in
      let below = home_below d.home m.core home in
      let least = home_in_flash d.home m.core home in
      record {
        some = some;
        end = omega (arith, within, below);
        at = λ k less. flash_stand.address o d z.0 k z.1.1 less ∙ ap (λ n. (n + k) % 65536) at;
        far = λ large k less. flash_stand.far o d z.0 k z.1.1 less ∙ ap (λ n. n + k) at;
        kind = λ k less.
            are.tables (place_of l o + k) o d z.0 (omega (arith, within, least, less))
            (record { object = is; home = home; place = z.1.1.is_place; from_there = omega (arith, at); within = omega (arith, at, less) });
      }

  tables_apart : (o k : ℕ) (d x : PlainObject) → slice_get p.objects o ≡ Some d → bank_of d.home ≡ Flash → slice_get p.objects k ≡ Some x
      → bank_of x.home ≡ Flash → o ≢ k → Apart (place_of l o) (size d) (place_of l k) (size x)
  tables_apart o k d x od home ox home' other =
      let y = in_flash o d od home in
      let z = in_flash k x ox home' in
      apart_from (place_of l o) (size d) (place_of l k) (size x) (object_is o d od).some
      (subst (λ n. (n + size d ≤ place_of l k) ⊎ (place_of l k + size x ≤ n)) y.1.0
      (subst (λ n. (y.0.offset + size d ≤ n) ⊎ (n + size x ≤ y.0.offset)) z.1.0
      (flash_stand.apart o k d x y.0 z.0 other y.1.1 z.1.1)))

  -- an object of either bank ends below this address
  pub ends_low : (o : ℕ) (d : PlainObject) → slice_get p.objects o ≡ Some d → place_of l o + size d ≤ 131072
  ends_low o d is = by_home (bank_of d.home) refl where
    by_home : (bank : Bank) → bank_of d.home ≡ bank → place_of l o + size d ≤ 131072
    by_home Data home =
        let low = ends d.storage (place_of l o) (size d) (stands_in o d is home) in
        let most = data_low m.core in
        omega (arith, low, most)
    by_home Flash home =
        let low = (flash_ends o d is home).1 in
        let least = home_in_flash d.home m.core home in
        let most = flash_low m.core in
        omega (arith, low, least, most)

  -- ---- scratch memory

  frame_is : (f : ℕ) (g : PlainIrFunction) → slice_get q.functions f ≡ Some g → slice_get asm.frames.items f ≡ Some g.slots
  frame_is f g is =
      ap (λ fs. slice_get fs f) (h.shortened.frames ∙ h.selection.frames) ∙ slice_get-map (λ (x : PlainIrFunction). x.slots) q.functions f
      ∙ ap (option_map (λ (x : PlainIrFunction). x.slots)) is

  -- a function without temporaries has none, and that of any other stands where it was placed
  record NoScratch (f : ℕ) (g : PlainIrFunction) : Type 0 where
    none : g.slots ≡ 0
    at : scratch_of asm l f ≡ data_size m.core

  record HasScratch (f : ℕ) (g : PlainIrFunction) : Type 0 where
    some : 1 ≤ g.slots
    frame : slice_get asm.frames.items f ≡ Some g.slots
    there : slice_get l.frames.items f ≡ Some (scratch_of asm l f)

  scratch_is : (f : ℕ) (g : PlainIrFunction) → slice_get q.functions f ≡ Some g → NoScratch f g ⊎ HasScratch f g
  scratch_is f g is = by_slots g.slots (frame_is f g is) refl where
    by_slots : (n : ℕ) → slice_get asm.frames.items f ≡ Some n → n ≡ g.slots → NoScratch f g ⊎ HasScratch f g
    by_slots zero frame same =
        let read = get_or_from_slice_get asm.frames.items f 0 0 frame in
        inl (record { none = sym same; at = rw (eq-eqb (slice_index asm.frames.items f) 0 read) (ap data_size h.located.core) })
    by_slots (suc n) frame same =
        let read = get_or_from_slice_get asm.frames.items f (suc n) 0 frame in
        let there =
        frame_there (scratch_area m rows (entries_by m p)) (begin_of rows (scratch_size asm.frames.items)) 0 asm.frames.items f (suc n)
        frame in
        let placed_there : slice_get l.frames.items f ≡ Some there.0 =
        subst (λ fs. slice_get fs f ≡ Some there.0) (sym h.located.frames) there.1 in
        let at = get_or_from_slice_get l.frames.items f there.0 0 placed_there in
        let other = ne_eqb (slice_index asm.frames.items f) 0 (λ z. omega (arith, z, read)) in
        let here : scratch_of asm l f ≡ there.0 = rw other at in
        inr (record {
          some = omega (arith, same);
          frame = subst (λ k. slice_get asm.frames.items f ≡ Some k) same frame;
          there = placed_there ∙ ap (λ n. Some n) (sym here);
        })

  scratch_names : (f : ℕ) (g : PlainIrFunction) → HasScratch f g → Names p m asm l (1024 + f) (scratch_of asm l f) (16 * g.slots)
  scratch_names f g s = scratch f g.slots (scratch_of asm l f) s.frame s.there

  scratch_memory : (f : ℕ) (g : PlainIrFunction) → slice_get q.functions f ≡ Some g
      → (256 ≤ scratch_of asm l f) × (scratch_of asm l f + 16 * g.slots ≤ data_size m.core)
  scratch_memory f g is =
      ⊎_elim (λ s. let n = s.none in let a = s.at in let high = data_high m.core in (omega (arith, n, a, high), omega (arith, n, a)))
      (λ s. let i = stand.frames f g.slots (scratch_of asm l f) s.frame s.there in (i.0, i.1)) (scratch_is f g is)

  scratch_stands : (f : ℕ) (g : PlainIrFunction) → slice_get q.functions f ≡ Some g
      → ScratchStands e g.slots (homes_of f g.code) (scratch_of asm l f)
  scratch_stands f g is = record {
    width = width_is (nat_le (widest_temps g.code) 2);
    high = (scratch_memory f g is).0;
    at = λ i less.
        ⊎_elim (λ s. let n = s.none in absurd (omega (arith, n, less)))
        (λ s. stand.address (1024 + f) (scratch_of asm l f) (16 * g.slots) i (scratch_names f g s) (omega (arith, less)))
        (scratch_is f g is);
    kind = λ i less.
        ⊎_elim (λ s. let n = s.none in absurd (omega (arith, n, less)))
        (λ s. are.scratch f g.slots (scratch_of asm l f) (scratch_of asm l f + i) s.frame s.there (omega arith) (omega (arith, less)))
        (scratch_is f g is);
  }

  few_objects : (o : ℕ) (d : PlainObject) → slice_get p.objects o ≡ Some d → o < 1024
  few_objects o d is = let b = slice_get_within p.objects o d is in let c = h.valid.object_count in omega (arith, b, c)

  -- ---- what can be live at one moment

  function_of : (f : ℕ) (g : PlainIrFunction) → slice_get q.functions f ≡ Some g → (x : PlainFunction) × (slice_get p.functions f ≡ Some x)
  function_of f g is =
      by_found (slice_get p.functions f) refl (sym (slice_get-map (lowered_function p (plain_table m.io)) p.functions f) ∙ is) where
        by_found : (o : Option PlainFunction) → slice_get p.functions f ≡ o → option_map (lowered_function p (plain_table m.io)) o ≡ Some g
            → (x : PlainFunction) × (slice_get p.functions f ≡ Some x)
        by_found None found r = absurd cc
        by_found (Some x) found r = (x, found)

  -- the operations of a function call what its body calls
  called_in_row : (f k : ℕ) (g : PlainIrFunction) → slice_get q.functions f ≡ Some g → Contains (called_in g.code) k
      → Contains (row_at rows f) k
  called_in_row f k g is c =
      let x = function_of f g is in
      rw (row_is p f x.0 x.1) ((made.functions f x.0 g x.1 is).calls k c)

  leads : (k f : ℕ) → CallsTo q k f → LeadsTo rows k f
  leads k _ (calls f g is c) = row_calls f (called_in_row f k g is c)
  leads k _ (calls_through f i g is c r) = row_calls_through f i (called_in_row f i g is c) (leads k i r)

  on_chain : (f k : ℕ) → Chained q f k → AreOnChain rows f k
  on_chain f k c = ⊎_elim (λ same. inl same) (λ d. inr (⊎_elim (λ to. inl (leads k f to)) (λ back. inr (leads f k back)) d)) c

  owned_by : (f : ℕ) (s : PlainStorage) → IsOwnedBy f s → owner_of s ≡ Some f
  owned_by f (static inits) o = absurd o
  owned_by f (local k) o = ap Some o
  owned_by f (param k) o = ap Some o
  owned_by f (register first) o = absurd o

  objects_live : (o k : ℕ) (d x : PlainObject) → slice_get p.objects o ≡ Some d → slice_get p.objects k ≡ Some x
      → CanBeLiveTogether q d.storage x.storage → CanBeLive p o k
  objects_live o k d x od ox together = record {
    locals = λ f b mine other. on_chain f b (together f b (owned_by f d.storage (rw od at mine)) (owned_by b x.storage (rw ox at other)));
    scratch = λ f b l r e z. let few = few_objects o d od in absurd (omega (arith, few, e));
  }

  objects_stand : (f : ℕ) (g : PlainIrFunction) → slice_get q.functions f ≡ Some g
      → ObjectsStand q e g.slots (scratch_of asm l f) (place_of l)
  objects_stand f g is = record {
    each = object_stands;
    apart = λ o k d x od home ox home' other together.
        apart_from (place_of l o) (size d) (place_of l k) (size x) (object_is o d od).some
        (stand.apart o k (place_of l o) (place_of l k) (size d) (size x) other (objects_live o k d x od ox together)
        (names o d od home) (names k x ox home'));
    scratch_apart = λ o d od home.
        apart_from (place_of l o) (size d) (scratch_of asm l f) (16 * g.slots) (object_is o d od).some
        (⊎_elim (λ s. let a = s.at in let b = ends d.storage (place_of l o) (size d) (stands_in o d od home) in inl (omega (arith, a, b)))
        (λ s. stand.apart o (1024 + f) (place_of l o) (scratch_of asm l f) (size d) (16 * g.slots)
        (λ z. let b = few_objects o d od in omega (arith, z, b))
        (object_first p h.valid.object_count o (1024 + f) (few_objects o d od) (omega arith)) (names o d od home) (scratch_names f g s))
        (scratch_is f g is));
  }

  scratch_apart : (f k : ℕ) (a b : PlainIrFunction) → CallsTo q k f → slice_get q.functions f ≡ Some a → slice_get q.functions k ≡ Some b
      → Apart (scratch_of asm l f) (16 * a.slots) (scratch_of asm l k) (16 * b.slots)
  scratch_apart f k a b called fa kb =
      let other : f ≢ k = λ z. made.valid.no_recursion k (subst (λ n. CallsTo q k n) z called) in
      let low = scratch_memory k b kb in
      let mine = scratch_memory f a fa in
      ⊎_elim
      (λ s. let n = s.none in nothing_apart (data_size m.core) (scratch_of asm l f) (16 * a.slots) (scratch_of asm l k) (16 * b.slots) s.at
      (omega (arith, n)) low.1)
      (λ s. apart_from (scratch_of asm l f) (16 * a.slots) (scratch_of asm l k) (16 * b.slots) (let n = s.some in omega (arith, n))
      (⊎_elim (λ t. let z = t.at in inl (omega (arith, z, mine.1)))
      (λ t. stand.apart (1024 + f) (1024 + k) (scratch_of asm l f) (scratch_of asm l k) (16 * a.slots) (16 * b.slots)
      (λ z. other (omega (arith, z))) (scratch_on_chain p h.valid.object_count f k (leads k f called)) (scratch_names f a s)
      (scratch_names k b t))
      (scratch_is k b kb)))
      (scratch_is f a fa)

  memory : ScratchIsLaidOut q e (place_of l) (scratch_of asm l)
  memory = record { stands = scratch_stands; objects = objects_stand; apart = scratch_apart }

  -- ---- the work bytes

  work_stands : WorkStands (length m.io.dynamics.items) (data_of q) e (place_of l) l.work
  work_stands = record {
    high = stand.work.0;
    at = λ i less. stand.address 1280 l.work (work_size m.io) i work (omega (arith, less));
    kind = λ i less. are.work (l.work + i) (omega arith) (omega (arith, less));
    objects_apart = λ o d od home.
        apart_from (place_of l o) (size d) l.work (work_size m.io) (object_is o d od).some
        (stand.apart o 1280 (place_of l o) l.work (size d) (work_size m.io) (λ z. let b = few_objects o d od in omega (arith, z, b))
        (object_first p h.valid.object_count o 1280 (few_objects o d od) (omega arith)) (names o d od home) work);
  }

  few_functions : (f : ℕ) (g : PlainIrFunction) → slice_get q.functions f ≡ Some g → f < 256
  few_functions f g is =
      let b = slice_get_within q.functions f g is in
      let c = length-map p.functions (lowered_function p (plain_table m.io)) in
      let d = h.valid.function_count in
      omega (arith, b, c, d)

  work_apart : (f : ℕ) (g : PlainIrFunction) → slice_get q.functions f ≡ Some g
      → Apart (scratch_of asm l f) (16 * g.slots) l.work (work_size m.io)
  work_apart f g is =
      ⊎_elim
      (λ s. let n = s.none in let w = stand.work.1 in
      nothing_apart (data_size m.core) (scratch_of asm l f) (16 * g.slots) l.work (work_size m.io) s.at (omega (arith, n)) w)
      (λ s. apart_from (scratch_of asm l f) (16 * g.slots) l.work (work_size m.io) (let n = s.some in omega (arith, n))
      (stand.apart (1024 + f) 1280 (scratch_of asm l f) l.work (16 * g.slots) (work_size m.io)
      (λ z. let b = few_functions f g is in omega (arith, z, b))
      (scratch_and_work p h.valid.object_count f h.valid.function_count) (scratch_names f g s) work))
      (scratch_is f g is)

  work_laid_out : WorkIsLaidOut (length m.io.dynamics.items) q e (place_of l) (scratch_of asm l)
  work_laid_out = record { work = l.work; stands = work_stands; apart = work_apart }

  -- ---- initial values

  values : InitialValues p m asm l
  values = laws.initials p m asm l h.valid h.map h.located

  kept_stand : (o : ℕ) (d : PlainObject) → slice_get p.objects o ≡ Some d → (k : IsKept d.storage d.home)
      → ValuesStand p m asm l o d k.inits
  kept_stand o d is k = values.values o d k.inits (record { is_object = is; is_static = k.is_static })

  -- in the data bank the values are those in region `tables`, and in flash those at the place of the object
  kept_at : (o : ℕ) (d : PlainObject) → bank_of d.home ≡ Data → values_of p m asm o d ≡ slice_index y.initials o
  kept_at o d home = rw (home_in_data d.home home) refl

  flash_at : (o : ℕ) (d : PlainObject) → bank_of d.home ≡ Flash → values_of p m asm o d ≡ place_of l o
  flash_at o d home =
      values_in_flash y o d.home home ∙ ap (λ ps. unwrap_or (option_map (λ z. z.offset) (slice_get ps o)) 0) (sym h.located.places)

  initial_room : (o : ℕ) (d : PlainObject) → slice_get p.objects o ≡ Some d → has_initial_bytes d.storage d.home ≡ true
      → slice_index y.initials o + size d ≤ home_end FlashHome m.core
  initial_room o d is has =
      let k = is_kept d.storage d.home has in
      let s = kept_stand o d is k in
      let at = kept_at o d k.in_data in
      let ends_there = s.ends (home_in_data d.home k.in_data) in
      omega (arith, at, ends_there)

  initial_is : (o : ℕ) (d : PlainObject) → slice_get p.objects o ≡ Some d → has_initial_bytes d.storage d.home ≡ true
      → initial_at e o ≡ slice_index y.initials o
  initial_is o d is has =
      let r = initial_room o d is has in
      let low = tables_low m.core in
      index_of_initials y (last_of m) o (omega (arith, r, low))

  initial_table : (o : ℕ) (d : PlainObject) → slice_get p.objects o ≡ Some d → has_initial_bytes d.storage d.home ≡ true
      → (k : ℕ) → k < size d → is_held (table (initial_at e o + k)) ≡ true
  initial_table o d is has k less =
      let room = initial_room o d is has in
      let least = home_in_flash FlashHome m.core refl in
      let there =
      initial_there p.structs m.places.items p.objects m.tables.first
      (m.tables.first + flash_sizes (entries m.places.items p)) o d is in
      let at = get_or_from_slice_get y.initials o there.0 0 there.1 in
      let told : is_of_initials p.structs p.objects y.initials (slice_index y.initials o + k) ≡ true =
      initial_byte p.structs p.objects y.initials (slice_index y.initials o + k) o d there.0 is there.1 has (omega (arith, at))
      (omega (arith, at, less)) in
      subst (λ n. is_held (table (n + k)) ≡ true) (sym (initial_is o d is has))
      (are.initials (slice_index y.initials o + k) (omega (arith, room, least, less)) told)

  -- ---- the value of a leaf

  record StartsWith (bank : Bank) (leaf : ObjectLeaf (data_of q) bank) (u : Value) : Type 0 where
    inits : List LeafInit
    is_static : leaf.declared.storage ≡ static inits
    set : IsSetBy inits leaf.number u

  starts_with : (bank : Bank) (leaf : ObjectLeaf (data_of q) bank) (x : ObjectState) (u : Value)
      → slice_get (start_state (data_of q)).objects leaf.object ≡ Some x → leaf_of x leaf.number ≡ Some u → StartsWith bank leaf u
  starts_with bank leaf x u there has =
      let all = slice_get-map (λ o. standing (initial_object (leaf_count (data_of q) o.ty) o.storage)) p.objects leaf.object in
      let one : Some (standing (initial_object (leaf_count (data_of q) leaf.declared.ty) leaf.declared.storage)) ≡ Some x =
      sym (all ∙ ap (option_map (λ o. standing (initial_object (leaf_count (data_of q) o.ty) o.storage))) leaf.is_object) ∙ there in
      let is : standing (initial_object (leaf_count (data_of q) leaf.declared.ty) leaf.declared.storage) ≡ x = cc in
      by_storage leaf.declared.storage refl (subst (λ (z : ObjectState). leaf_of z leaf.number ≡ Some u) (sym is) has) where
        by_storage : (s : PlainStorage) → leaf.declared.storage ≡ s
            → leaf_of (standing (initial_object (leaf_count (data_of q) leaf.declared.ty) s)) leaf.number ≡ Some u → StartsWith bank leaf u
        by_storage (static inits) s set = record { inits = inits; is_static = s; set = set_by inits leaf.number u set }
        by_storage (local f) s set = let none = none_set (leaf_count (data_of q) leaf.declared.ty) leaf.number in absurd cc
        by_storage (param f) s set = let none = none_set (leaf_count (data_of q) leaf.declared.ty) leaf.number in absurd cc
        by_storage (register r) s set = let none = none_set (leaf_count (data_of q) leaf.declared.ty) leaf.number in absurd cc

  stands_at : (o : ℕ) (d : PlainObject) → slice_get p.objects o ≡ Some d → IsStatic d.storage
      → StandsAt (data_of q) (place_of l) o d (slice_get l.places.items o)
  stands_at o d is static_there =
      let z = place_is o d is in
      let low = ends_low o d is in
      record {
        is_object = is;
        is_static = static_there;
        there = z.0;
        is_there = z.1;
        bank =
            place_bank p.structs m.places.items p.objects m.tables.first m.far.first m.vars.first
            (local_at m rows (entries_by m p)) 0 o d z.0 is
            (subst (λ ps. slice_get ps o ≡ Some z.0) h.located.places z.1) static_there;
        at = offset_is o z.0 z.1;
        room = low;
      }

  -- the bytes of an initial value are those that code has for it
  bytes_held : (ty : PlainType) (init : LeafInit) (f : ℕ → ℕ) (a : ℕ) → IsInitialValue p ty init
      → AreBytesOf f a (scalar_size ty) (value_number l.places.items ty init)
      → HoldsLeaf (data_of q) (place_of l) f a (scalar_size ty) (initial_value init)
  bytes_held ty (TheNumber n) f a suits bytes = bytes_are_low ty f a n suits bytes
  bytes_held (pointer space const to) TheNull f a suits bytes = of_pointer space f a 0 bytes ∙ zero-mod (256 ^ width space)
  bytes_held (pointer space const to) (Address o offset) f a suits bytes = by_object (slice_get p.objects o) refl suits where
    by_object : (z : Option PlainObject) → slice_get p.objects o ≡ z
        → IsSomeAnd z (λ x. IsStatic x.storage × IsTrue (holds space x.home) × (offset ≤ size_of_type p.structs x.ty))
        → HoldsLeaf (data_of q) (place_of l) f a (width space) (initial_value (Address o offset))
    by_object None is there = absurd there
    by_object (Some x) is there =
        address_held (data_of q) (place_of l) space o offset x (slice_get l.places.items o) f a (stands_at o x is there.0) there.1 there.2
        bytes
  bytes_held void TheNull f a suits bytes = absurd suits
  bytes_held (integer signed n) TheNull f a suits bytes = absurd suits
  bytes_held (fixed kind sat) TheNull f a suits bytes = absurd suits
  bytes_held (array of len) TheNull f a suits bytes = absurd suits
  bytes_held (struct index) TheNull f a suits bytes = absurd suits
  bytes_held void (Address o offset) f a suits bytes = absurd suits
  bytes_held (integer signed n) (Address o offset) f a suits bytes = absurd suits
  bytes_held (fixed kind sat) (Address o offset) f a suits bytes = absurd suits
  bytes_held (array of len) (Address o offset) f a suits bytes = absurd suits
  bytes_held (struct index) (Address o offset) f a suits bytes = absurd suits

  leaf_held : (bank : Bank) (leaf : ObjectLeaf (data_of q) bank) (u : Value) → StartsWith bank leaf u
      → HoldsLeaf (data_of q) (place_of l) (slice_index l.image.bytes.items) (values_of p m asm leaf.object leaf.declared + leaf.at)
      leaf.bytes u
  leaf_held bank leaf u s =
      let f = slice_index l.image.bytes.items in
      let a = values_of p m asm leaf.object leaf.declared + leaf.at in
      let number = value_number l.places.items leaf.ty s.set.init in
      let stored : AreInitialValues p (leaves_of_type p.structs leaf.declared.ty) s.inits =
      subst (λ st. IsStored p leaf.declared st) s.is_static (object_is leaf.object leaf.declared leaf.is_object).storage in
      let suits : IsInitialValue p leaf.ty s.set.init =
      value_suits p (leaves_of_type p.structs leaf.declared.ty) s.inits leaf.number (record { ty = leaf.ty; at = leaf.at }) s.set.init
      stored leaf.is_leaf s.set.has in
      let v = values.values leaf.object leaf.declared s.inits (record { is_object = leaf.is_object; is_static = s.is_static }) in
      let b = v.each leaf.number (record { ty = leaf.ty; at = leaf.at }) s.set.init leaf.is_leaf s.set.has in
      let c = length-little_endian (scalar_size leaf.ty) number in
      let held = bytes_held leaf.ty s.set.init f a suits (λ k less. b.bytes_there k (omega (arith, c, less))) in
      subst (λ w. HoldsLeaf (data_of q) (place_of l) f a leaf.bytes w) s.set.same
      (subst (λ n. HoldsLeaf (data_of q) (place_of l) f a n (initial_value s.set.init)) leaf.size held)

  kept_of : (leaf : ObjectLeaf (data_of q) Data) (u : Value) → StartsWith Data leaf u
      → has_initial_bytes leaf.declared.storage leaf.declared.home ≡ true
  kept_of leaf u s = rw (s.is_static, home_in_data leaf.declared.home leaf.home) refl

  initials : InitialsStand q e (place_of l)
  initials = record {
    room = λ o d is has.
        let r = initial_room o d is has in
        let a = initial_is o d is has in
        let low = tables_low m.core in
        omega (arith, r, a, low);
    table = initial_table;
    values = λ leaf x u there has.
        let s = starts_with Data leaf x u there has in
        let a =
        kept_at leaf.object leaf.declared leaf.home ∙ sym (initial_is leaf.object leaf.declared leaf.is_object (kept_of leaf u s)) in
        subst (λ n. HoldsLeaf (data_of q) (place_of l) (slice_index l.image.bytes.items) (n + leaf.at) leaf.bytes u) a
        (leaf_held Data leaf u s);
  }

  tables_stand : TablesStand (data_of q) e (place_of l)
  tables_stand = record {
    bytes = h.bytes;
    each = table_stands;
    apart = tables_apart;
    values = λ leaf x u there has.
        let s = starts_with Flash leaf x u there has in
        subst (λ n. HoldsLeaf (data_of q) (place_of l) (slice_index l.image.bytes.items) (n + leaf.at) leaf.bytes u)
        (flash_at leaf.object leaf.declared leaf.home) (leaf_held Flash leaf u s);
  }

  -- ---- the stack

  last_is : last_of m % 65536 ≡ m.stack.first + m.stack.size - 1
  last_is =
      let ends = h.map.regions_valid.stack.ends in
      let most = data_low m.core in
      omega (arith, ends, most)

  known : (f : ℕ) → f < length p.functions → (x : PlainFunction) × (slice_get p.functions f ≡ Some x)
  known f less = there_is p.functions f less

  lowered_at : (f : ℕ) (x : PlainFunction) → slice_get p.functions f ≡ Some x → slice_get q.functions f
      ≡ Some (lowered_function p (plain_table m.io) x)
  lowered_at f x is =
      slice_get-map (lowered_function p (plain_table m.io)) p.functions f ∙ ap (option_map (lowered_function p (plain_table m.io))) is

  -- a function that is called is one of the program's
  called_below : (f : ℕ) (x : PlainFunction) → slice_get p.functions f ≡ Some x → (b : ℕ)
      → Contains (called_in (lowered_function p (plain_table m.io) x).code) b → b < length p.functions
  called_below f x is b c =
      let v =
      each_at (ValidIrFunction (length m.io.dynamics.items) q made.valid.results) 0 q.functions f
      (lowered_function p (plain_table m.io) x) made.valid.functions (lowered_at f x is) in
      subst (λ n. b < n) (length-map p.functions (lowered_function p (plain_table m.io)))
      (called_known (length m.io.dynamics.items) q made.valid.results (0 + f) (lowered_function p (plain_table m.io) x).slots
      (lowered_function p (plain_table m.io) x).code (lowered_function p (plain_table m.io) x).code v.code b c)

  has_row : (f : ℕ) → f < length p.functions → f < length rows
  has_row f less = let long : length rows ≡ length p.functions = length-map p.functions _ in omega (arith, less, long)

  is_chain : (f : ℕ) (fs : List ℕ) → f < length p.functions → CallsOn q f fs → IsChain rows (f ∷ fs)
  is_chain f [] less c = (has_row f less, tt, tt)
  is_chain f (b ∷ fs) less c =
      let x = known f less in
      let at = lowered_at f x.0 x.1 in
      let here : Contains (called_in (lowered_function p (plain_table m.io) x.0).code) b = rw at at c.0 in (
        has_row f less,
        called_in_row f b (lowered_function p (plain_table m.io) x.0) at here,
        is_chain b fs
            (called_below f x.0 x.1 b here) c.1,
      )

  stack : StackStands q e m.stack.first
  stack = record {
    pointer = record {
      low = are.registers 0x5D refl refl refl;
      high = are.registers 0x5E refl refl refl;
      room = omega arith;
    };
    high = h.map.regions_valid.stack.from_there;
    stacked = λ k low high.
        let some = h.map.regions_valid.stack.some in
        let last = last_is in
        are.stack k low (omega (arith, some, last, high));
    room = λ fs calls.
        let room =
        (laws.separate p m asm l h.map h.located).stack h.valid fs
        (is_chain p.main fs
        (subst (λ n. p.main < n) (length-map p.functions (lowered_function p (plain_table m.io))) made.valid.main) calls) in
        let last = last_is in
        omega (arith, room, last);
  }

  -- what is copied before main: from where, to where, and that the one is in flash and the other the object's
  pub record IsCopied (o : ℕ) (d : PlainObject) : Type 0 where
    pub from : e.address_of (2048 + o) 0 ≡ slice_index y.initials o
    pub to : e.address_of o 0 ≡ place_of l o
    pub room : slice_index y.initials o + size d ≤ home_end FlashHome m.core
    pub high : 256 ≤ place_of l o
    pub kinds : (k : ℕ) → k < size d → kind (place_of l o + k) ≡ Object

  pub is_copied : (o : ℕ) (d : PlainObject) → slice_get p.objects o ≡ Some d → has_initial_bytes d.storage d.home ≡ true → IsCopied o d
  is_copied o d is has =
      let k = is_kept d.storage d.home has in
      let stands : ObjectStands e o (size d) (place_of l o) (static k.inits) =
      subst (ObjectStands e o (size d) (place_of l o)) k.is_static (object_stands o d is k.in_data) in
      record {
        from = initial_is o d is has;
        to = stands.at 0 (omega arith) ∙ add-zero (place_of l o);
        room = initial_room o d is has;
        high = stands.high;
        kinds = stands.kind;
      }

  -- ---- the code of the operations

  in_memory_told : (o n at : ℕ) (storage : PlainStorage) → IsAddressable storage → ObjectStands e o n at storage → StandsInMemory e o n at
  in_memory_told o n at (static inits) named h = h
  in_memory_told o n at (local f) named h = h
  in_memory_told o n at (param f) named h = h
  in_memory_told o n at (register r) named h = absurd named

  reach_stands : (o : ℕ) (d : PlainObject) (z : Place) (r : Reach) → slice_get p.objects o ≡ Some d → slice_get l.places.items o ≡ Some z
      → r ≡ reach_of p.structs d (Some z) → ReachStands e o r
  reach_stands o d z r is place same = by_test (is_in_memory d.storage d.home && nat_lt (z.offset + size d) 65536) refl where
    by_test : (b : Bool) → (is_in_memory d.storage d.home && nat_lt (z.offset + size d) 65536) ≡ b → ReachStands e o r
    by_test false q =
        let none : r ≡ nowhere = same ∙ rw q refl in
        subst (ReachStands e o) (sym none) (record {
          address = λ k less. absurd (omega (arith, less));
          below = λ k less. absurd (omega (arith, less));
          object = λ k less. absurd (omega (arith, less));
        })
    by_test true q =
        let parts = and_parts (is_in_memory d.storage d.home) (nat_lt (z.offset + size d) 65536) q in
        let told = memory_told d.storage d.home parts.0 in
        let stands_there = in_memory_told o (size d) (place_of l o) d.storage told.1 (object_stands o d is told.0) in
        let at = offset_is o z place in
        let room = ltb-true (z.offset + size d) 65536 parts.1 in
        let whole : r ≡ record { first = z.offset; bytes = size d } = same ∙ rw q refl in
        subst (ReachStands e o) (sym whole) (record {
          address = λ k less. stands_there.at k (omega (arith, less)) ∙ ap (λ n. n + k) at;
          below = λ k less. omega (arith, less, room);
          object = λ k less. subst (λ n. kind (n + k) ≡ Object) at (stands_there.kind k less);
        })

  reached : AreReached e (reaches_of p l.places.items)
  reached o r has =
      let found = reach_found p.structs l.places.items 0 p.objects o r has in
      let z = place_is o found.0 found.1 in
      reach_stands o found.0 z.0 r found.1 z.1
      (found.2 ∙ ap (λ n. reach_of p.structs found.0 (slice_get l.places.items n)) (zero-add o) ∙ ap (reach_of p.structs found.0) z.1)

  long : LongStands e h.selected.items.items
  long =
      long_stands laws.long (object_sizes p) (work_size m.io) (reaches_of p l.places.items) h.selected asm h.shortened
      (selected_is_valid laws.selections p m asm l h made) (0, _, h.selection.items) e refl reached short_stands labels

  code : CodeIsLaidOut h.selected e
  code = record {
    begin = long.begin;
    end = long.end;
    stands = long.stands;
    flash = let n = flash_length p m asm l h.located in let low = flash_low m.core in omega (arith, n, low);
  }

  pub laid_out : AreLaidOut p m h.selected asm l e
  unfolding code long
  laid_out = record {
    laid = record { code = code; memory = memory; work = work_laid_out; initials = initials; tables = tables_stand; stack = stack; page = λ large. are.page (ap has_rampz large) };
    sets = long.sets;
  }

-- ---- the kinds of a placed program are told so

asm_is_valid : PlacedLaws → (p : PlainProgram) (m : Map) (asm : AsmProgram) (l : Located) → IsTranslated p m asm l
    → ValidAsm (object_sizes p) (work_size m.io) asm
asm_is_valid laws p m asm l h =
    short_is_valid laws.short laws.selections p m asm l h (laws.made p m.io h.valid h.groups)

pub are_kinds_of : PlacedLaws → (p : PlainProgram) (m : Map) (asm : AsmProgram) (l : Located) → IsTranslated p m asm l → AreKinds p m asm l
are_kinds_of laws p m asm l h =
    kinds_are_told laws.apart p m asm l h.valid h.map (asm_is_valid laws p m asm l h) h.located

placed_has_kinds : (p : PlainProgram) (m : Map) (asm : AsmProgram) (l : Located) → AreKinds p m asm l
    → HasKinds p m asm l (kinds p m asm l) (tables p m asm l)
placed_has_kinds p m asm l are = record {
  tables = λ a i o q low b.
      let there = object_there Flash p.structs p.objects l.places.items a i o q b.object b.place b.home b.from_there b.within in
      rw (lt-ltb a (size_of_flash m.core) low, there) refl;
  page = are.page;
  registers = are.registers;
  objects = are.objects;
  scratch = are.scratch;
  work = are.work;
  stack = are.stack;
  initials = λ a low told. rw (lt-ltb a (size_of_flash m.core) low, told) (held (is_of_objects Flash p.structs p.objects l.places.items a));
} where
  held : (b : Bool) → is_held (if b then Object else Own) ≡ true
  held true = refl
  held false = refl

pub placed_are_laid_out : PlacedLaws → PlacedAreLaidOut
placed_are_laid_out laws p m asm l h =
    laid_out laws p m asm l h (kinds p m asm l) (tables p m asm l) (placed_has_kinds p m asm l (are_kinds_of laws p m asm l h))
