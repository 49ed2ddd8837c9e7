-- What stands at each address of a placed program.
use Rattle.std.proofs.Common.{◌≡◌, ◌≢◌, ⊎_elim, ℕ, zero, suc, ◌+◌, ◌<◌, ◌≤◌, Bool, true, false, List, [], ◌∷◌, length}
use Rattle.std.proofs.Common.{Some, refl, sym, ap, ◌∙◌, subst, arith, not, ◌&&◌, ◌||◌}
use Rattle.std.specs.Prelude.{nat_le, nat_lt, ◌==◌, if◌then◌else◌, slice_get}
use Rattle.std.proofs.lemmas.Bool.{lt-ltb, le-ltb, le-leb, ltb-true, leb-true, ltb-false, and_parts, and_from}
use Rattle.std.proofs.lemmas.Bool.{or_cases, or_left, or_right, false_from_ne_true, true≢false, false≢true, not-true}
use Rattle.std.proofs.lemmas.Bool.{ne_eqb, eqb-true}
use Rattle.std.proofs.lemmas.Option.{slice_get_within}
use Rattle.ec_space.specs.Memory.{flash_size, data_size}
use Rattle.ec_space.specs.declared.Core.{Core}
use Rattle.ec_space.specs.declared.space.Bank.{Bank}
use Rattle.ec_space.specs.declared.space.Bank.TheVariants.{Flash, Data}
use Rattle.ec_space.specs.declared.space.Place.{Place}
use Rattle.ec_space.specs.Spaces.{bank_of}
use Rattle.ec_avr.specs.State.{has_rampz, is_core_register, is_port}
use Rattle.ec_asm.specs.View.{is_apart}
use Rattle.ec_asm.specs.Change.{Kind, Own, Object, Port, Stacked, Page, Barred}
use Rattle.ec_asm.specs.Shows.{may_be, in_flash}
use Rattle.ec_asm.specs.declared.items.AsmProgram.{AsmProgram}
use Rattle.ec_core.specs.Layout.{size_of_type}
use Rattle.ec_core.specs.Plain.{PlainStruct, PlainStorage, static, local, param, register, PlainObject, PlainProgram}
use Rattle.ec_core.specs.Valid.{IsAddressable}
use Rattle.ec_map.specs.Maps.{ValidMap}
use Rattle.ec_map.specs.Regions.{end_of}
use Rattle.ec_map.specs.declared.map.Map.{Map}
use Rattle.ec_locate.specs.DataBank.{CanBeLive, Names, an_object, scratch, work, IsInMemory, StandsIn, DataStands, DataStandsApart}
use Rattle.ec_locate.specs.Entries.{frame_size, work_size}
use Rattle.ec_locate.specs.Fixed.{same_bank}
use Rattle.ec_locate.specs.Placing.{IsLocated, layout_by}
use Rattle.ec_locate.specs.declared.placing.Located.{Located}
use Rattle.ec_build_laws.proofs.Ends.{data_high}
use Rattle.ec_build_laws.proofs.Live.{object_last}
use Rattle.ec_build_laws.specs.Kinds.{is_byte_of, is_of_objects, is_of_initials, is_of_scratch, is_hidden, is_rampz, register_kind}
use Rattle.ec_build_laws.specs.Kinds.{memory_kind, kinds, tables}
use Rattle.ec_build_laws.specs.Laws.{IsByteOf, IsObjectByte, IsOwnByte, of_register, of_scratch, of_work, AreKinds}
use Rattle.ec_build_laws.specs.Laws.{KindsAreTold, KindsFit}

-- ---- bytes in a row

pub byte_there : (at size a : ℕ) → at ≤ a → a < at + size → is_byte_of at size a ≡ true
byte_there at size a from below = and_from (nat_le at a) (nat_lt a (at + size)) (le-leb at a from) (lt-ltb a (at + size) below)

pub byte_told : (at size a : ℕ) → is_byte_of at size a ≡ true → (at ≤ a) × (a < at + size)
byte_told at size a h =
    let (from, below) = and_parts (nat_le at a) (nat_lt a (at + size)) h in
    (leb-true at a from, ltb-true a (at + size) below)

same_itself : (b : Bank) → same_bank b b ≡ true
same_itself Flash = refl
same_itself Data = refl

same_told : (b c : Bank) → same_bank b c ≡ true → b ≡ c
same_told Flash Flash h = refl
same_told Flash Data h = absurd (false≢true h)
same_told Data Flash h = absurd (false≢true h)
same_told Data Data h = refl

-- ---- objects

pub object_there : (bank : Bank) (structs : List PlainStruct) (os : List PlainObject) (qs : List Place) (a i : ℕ) (o : PlainObject)
    (q : Place)
    → slice_get os i ≡ Some o → slice_get qs i ≡ Some q → bank_of o.home ≡ bank → q.offset ≤ a → a < q.offset + size_of_type structs o.ty
    → is_of_objects bank structs os qs a ≡ true
object_there bank structs [] qs a i o q is at home from below = absurd cc
object_there bank structs (x ∷ os) [] a i o q is at home from below = absurd cc
object_there bank structs (x ∷ os) (y ∷ qs) a zero o q is at home from below =
    let s : x ≡ o = cc in
    let t : y ≡ q = cc in
    let h : bank_of x.home ≡ bank = ap (λ z. bank_of z.home) s ∙ home in
    let f : y.offset ≤ a = subst (λ z. z.offset ≤ a) (sym t) from in
    let b : a < y.offset + size_of_type structs x.ty =
    subst (λ z. a < z.offset + size_of_type structs x.ty) (sym t)
    (subst (λ z. a < q.offset + size_of_type structs z.ty) (sym s) below) in
    or_left (same_bank (bank_of x.home) bank && is_byte_of y.offset (size_of_type structs x.ty) a) (is_of_objects bank structs os qs a)
    (and_from (same_bank (bank_of x.home) bank) (is_byte_of y.offset (size_of_type structs x.ty) a) (rw h (same_itself bank))
    (byte_there y.offset (size_of_type structs x.ty) a f b))
object_there bank structs (x ∷ os) (y ∷ qs) a (suc i) o q is at home from below =
    or_right (same_bank (bank_of x.home) bank && is_byte_of y.offset (size_of_type structs x.ty) a) (is_of_objects bank structs os qs a)
    (object_there bank structs os qs a i o q is at home from below)

-- one of some objects, with its number
record Found (bank : Bank) (structs : List PlainStruct) (os : List PlainObject) (qs : List Place) (a : ℕ) : Type 0 where
  i : ℕ
  o : PlainObject
  q : Place
  object : slice_get os i ≡ Some o
  home : bank_of o.home ≡ bank
  place : slice_get qs i ≡ Some q
  from_there : q.offset ≤ a
  below : a < q.offset + size_of_type structs o.ty

object_told : (bank : Bank) (structs : List PlainStruct) (os : List PlainObject) (qs : List Place) (a : ℕ)
    → is_of_objects bank structs os qs a ≡ true
    → Found bank structs os qs a
object_told bank structs [] qs a h = absurd (false≢true h)
object_told bank structs (x ∷ os) [] a h = absurd (false≢true h)
object_told bank structs (x ∷ os) (y ∷ qs) a h =
    ⊎_elim
    (λ here.
    let (home, byte) = and_parts (same_bank (bank_of x.home) bank) (is_byte_of y.offset (size_of_type structs x.ty) a) here in
    let (from, below) = byte_told y.offset (size_of_type structs x.ty) a byte in
    record { i = 0; o = x; q = y; object = refl; home = same_told (bank_of x.home) bank home; place = refl; from_there = from; below = below })
    (λ more.
    let f = object_told bank structs os qs a more in
    record { i = suc f.i; o = f.o; q = f.q; object = f.object; home = f.home; place = f.place; from_there = f.from_there; below = f.below })
    (or_cases (same_bank (bank_of x.home) bank && is_byte_of y.offset (size_of_type structs x.ty) a) (is_of_objects bank structs os qs a) h)

-- ---- scratch memory

pub scratch_there : (frames ats : List ℕ) (a f frame at : ℕ) → slice_get frames f ≡ Some frame → slice_get ats f ≡ Some at → at ≤ a
    → a < at + frame_size frame → is_of_scratch frames ats a ≡ true
scratch_there [] ats a f frame at is there from below = absurd cc
scratch_there (x ∷ frames) [] a f frame at is there from below = absurd cc
scratch_there (x ∷ frames) (y ∷ ats) a zero frame at is there from below =
    let s : x ≡ frame = cc in
    let t : y ≡ at = cc in
    or_left (is_byte_of y (frame_size x) a) (is_of_scratch frames ats a)
    (byte_there y (frame_size x) a (omega (arith, t, from)) (omega (arith, t, s, below)))
scratch_there (x ∷ frames) (y ∷ ats) a (suc f) frame at is there from below =
    or_right (is_byte_of y (frame_size x) a) (is_of_scratch frames ats a) (scratch_there frames ats a f frame at is there from below)

pub record Scratch (frames ats : List ℕ) (a : ℕ) : Type 0 where
  pub f : ℕ
  pub frame : ℕ
  pub at : ℕ
  pub is : slice_get frames f ≡ Some frame
  pub there : slice_get ats f ≡ Some at
  pub from_there : at ≤ a
  pub below : a < at + frame_size frame

pub scratch_told : (frames ats : List ℕ) (a : ℕ) → is_of_scratch frames ats a ≡ true → Scratch frames ats a
scratch_told [] ats a h = absurd (false≢true h)
scratch_told (x ∷ frames) [] a h = absurd (false≢true h)
scratch_told (x ∷ frames) (y ∷ ats) a h =
    ⊎_elim
    (λ here. let (from, below) = byte_told y (frame_size x) a here in
    record { f = 0; frame = x; at = y; is = refl; there = refl; from_there = from; below = below })
    (λ more. let f = scratch_told frames ats a more in
    record { f = suc f.f; frame = f.frame; at = f.at; is = f.is; there = f.there; from_there = f.from_there; below = f.below })
    (or_cases (is_byte_of y (frame_size x) a) (is_of_scratch frames ats a) h)

-- ---- which kind an address has

low_kind : (p : PlainProgram) (m : Map) (asm : AsmProgram) (l : Located) (a : ℕ) → a < 256 → kinds p m asm l a
    ≡ register_kind m.core a
low_kind p m asm l a h = rw (lt-ltb a 256 h) refl

high_kind : (p : PlainProgram) (m : Map) (asm : AsmProgram) (l : Located) (a : ℕ) → 256 ≤ a → a < data_size m.core
    → kinds p m asm l a ≡ memory_kind p m asm l a
high_kind p m asm l a h k = rw (le-ltb a 256 h, lt-ltb a (data_size m.core) k) refl

pub core_is_low : (core : Core) (a : ℕ) → is_core_register core a ≡ true → a < 256
core_is_low core a h = grind arith

pub port_is_none : (core : Core) (a : ℕ) → is_port core a ≡ true → (a < 256) × (is_core_register core a ≡ false)
port_is_none core a h = let (l, n) = and_parts (nat_lt a 256) (not (is_core_register core a)) h in (ltb-true a 256 l, not-true (is_core_register core a) n)

-- RAMPZ is a register of a core that has it
rampz_is_core : (core : Core) (a : ℕ) → is_rampz core a ≡ true → is_core_register core a ≡ true
rampz_is_core core a h =
    let p = and_parts (a == 0x5B) (has_rampz core) h in
    subst (λ n. is_core_register core n ≡ true) (sym (eqb-true a 0x5B p.0)) p.1

no_rampz : (core : Core) (a : ℕ) → is_core_register core a ≡ false → is_rampz core a ≡ false
no_rampz core a h = false_from_ne_true (is_rampz core a) (λ r. true≢false (sym (rampz_is_core core a r) ∙ h))

-- SREG is hidden
not_sreg : (a : ℕ) → is_hidden a ≡ false → (a == 0x5F) ≡ false
not_sreg a h = by_parts (a == 0x5F) (a == 28 || a == 29) h where
  by_parts : (b c : Bool) → (b || c) ≡ false → b ≡ false
  by_parts true c q = absurd (true≢false q)
  by_parts false c q = refl

-- what is code's own is neither SREG nor RAMPZ
not_apart : (core : Core) (a : ℕ) → is_hidden a ≡ false → is_rampz core a ≡ false → is_core_register core a ≡ true → is_apart a ≡ false
not_apart core a seen other own = by_test (a == 0x5B) refl where
  by_test : (b : Bool) → (a == 0x5B) ≡ b → is_apart a ≡ false
  by_test true q =
      let at = eqb-true a 0x5B q in
      let none : has_rampz core ≡ false = subst (λ n. is_rampz core n ≡ false) at other in
      let has : has_rampz core ≡ true = subst (λ n. is_core_register core n ≡ true) at own in
      absurd (true≢false (sym has ∙ none))
  by_test false q = rw (q, not_sreg a seen) refl

own_if : (b c d : Bool) → b ≡ false → c ≡ false → d ≡ true → (if b then Barred else if c then Page else if d then Own else Port) ≡ Own
own_if b c d q r s = rw (q, r, s) refl

port_if : (b c d : Bool) → b ≡ false → c ≡ false → d ≡ false → (if b then Barred else if c then Page else if d then Own else Port) ≡ Port
port_if b c d q r s = rw (q, r, s) refl

-- ---- the whole

module _ (p : PlainProgram) (m : Map) (asm : AsmProgram) (l : Located) (map_valid : ValidMap m) (apart : DataStands p m asm l) where
  abbrev size : PlainObject → ℕ
  size o = size_of_type p.structs o.ty

  stands : (o : PlainObject) (q : Place) → IsAddressable o.storage → StandsIn m.core o.storage q.offset (size o)
      → IsInMemory m.core q.offset (size o)
  stands o q named at = by_storage o.storage named at where
    by_storage : (s : PlainStorage) → IsAddressable s → StandsIn m.core s q.offset (size o) → IsInMemory m.core q.offset (size o)
    by_storage (static inits) n h = h
    by_storage (local f) n h = h
    by_storage (param f) n h = h
    by_storage (register f) n h = absurd n

  objects : (a i : ℕ) (o : PlainObject) (q : Place) → IsByteOf p l Data a i o q → IsAddressable o.storage → kinds p m asm l a ≡ Object
  objects a i o q h named =
      let here = stands o q named (apart.objects i o q h.object h.home h.place) in
      let from = h.from_there in
      let below = h.within in
      high_kind p m asm l a (omega (arith, here.0, from)) (omega (arith, here.1, below))
      ∙ rw (object_there Data p.structs p.objects l.places.items a i o q h.object h.place h.home from below) refl

  -- what has another number is no byte of an object
  no_object : (n at s a : ℕ) → Names p m asm l n at s → at ≤ a → a < at + s
      → ((i : ℕ) (o : PlainObject) → slice_get p.objects i ≡ Some o → (n ≢ i) × CanBeLive p n i)
      → is_of_objects Data p.structs p.objects l.places.items a ≡ false
  no_object n at s a names from below other =
      false_from_ne_true (is_of_objects Data p.structs p.objects l.places.items a)
      (λ h.
      let f = object_told Data p.structs p.objects l.places.items a h in
      let start = f.from_there in
      let end = f.below in
      ⊎_elim (λ u. omega (arith, u, below, start)) (λ u. omega (arith, u, from, end))
      (apart.apart n f.i at f.q.offset s (size f.o) (other f.i f.o f.object).0 (other f.i f.o f.object).1 names (an_object f.i f.o f.q f.object f.home f.place)))

  own_kind : (a : ℕ) → 256 ≤ a → a < data_size m.core → is_of_objects Data p.structs p.objects l.places.items a ≡ false
      → (is_of_scratch asm.frames.items l.frames.items a || is_byte_of l.work (work_size m.io) a) ≡ true → kinds p m asm l a ≡ Own
  own_kind a low high none own = high_kind p m asm l a low high ∙ rw (none, own) refl

  few : (i : ℕ) (o : PlainObject) → length p.objects ≤ 1_024 → slice_get p.objects i ≡ Some o → i < 1024
  few i o count is = let b = slice_get_within p.objects i o is in omega (arith, b, count)

  module _ (count : length p.objects ≤ 1_024) where
    scratch_kind : (f frame at a : ℕ) → slice_get asm.frames.items f ≡ Some frame → slice_get l.frames.items f ≡ Some at
        → at ≤ a → a < at + frame_size frame → kinds p m asm l a ≡ Own
    scratch_kind f frame at a is there from below =
        let here = apart.frames f frame at is there in
        own_kind a (omega (arith, here.0, from)) (omega (arith, here.1, below))
        (no_object (1024 + f) at (frame_size frame) a (scratch f frame at is there) from below
        (λ i o q. let b = few i o count q in (omega (arith, b), object_last p count (1024 + f) i (omega arith) b)))
        (or_left (is_of_scratch asm.frames.items l.frames.items a) (is_byte_of l.work (work_size m.io) a)
        (scratch_there asm.frames.items l.frames.items a f frame at is there from below))

    work_kind : (a : ℕ) → l.work ≤ a → a < l.work + work_size m.io → kinds p m asm l a ≡ Own
    work_kind a from below =
        let here = apart.work in
        own_kind a (omega (arith, here.0, from)) (omega (arith, here.1, below))
        (no_object 1280 l.work (work_size m.io) a work from below
        (λ i o q. let b = few i o count q in (omega (arith, b), object_last p count 1280 i (omega arith) b)))
        (or_right (is_of_scratch asm.frames.items l.frames.items a) (is_byte_of l.work (work_size m.io) a)
        (byte_there l.work (work_size m.io) a from below))

    -- no byte of the stack is one of what has a number
    not_stacked : (n at s a : ℕ) → Names p m asm l n at s → m.stack.first ≤ a → a < end_of m.stack → at ≤ a → a < at + s → ⊥
    not_stacked n at s a names low high from below =
        ⊎_elim (λ u. omega (arith, u, below, low)) (λ u. omega (arith, u, from, high)) (apart.stack n at s names)

    stack_kind : (a : ℕ) → m.stack.first ≤ a → a < end_of m.stack → kinds p m asm l a ≡ Stacked
    stack_kind a low high =
        let first = map_valid.regions_valid.stack.from_there in
        let ends = map_valid.regions_valid.stack.ends in
        let none : is_of_objects Data p.structs p.objects l.places.items a ≡ false =
        false_from_ne_true (is_of_objects Data p.structs p.objects l.places.items a)
        (λ h. let f = object_told Data p.structs p.objects l.places.items a h in
        not_stacked f.i f.q.offset (size f.o) a (an_object f.i f.o f.q f.object f.home f.place) low high f.from_there f.below) in
        let no_scratch : is_of_scratch asm.frames.items l.frames.items a ≡ false =
        false_from_ne_true (is_of_scratch asm.frames.items l.frames.items a)
        (λ h. let f = scratch_told asm.frames.items l.frames.items a h in
        not_stacked (1024 + f.f) f.at (frame_size f.frame) a (scratch f.f f.frame f.at f.is f.there) low high f.from_there f.below) in
        let no_work : is_byte_of l.work (work_size m.io) a ≡ false =
        false_from_ne_true (is_byte_of l.work (work_size m.io) a)
        (λ h. let (from, below) = byte_told l.work (work_size m.io) a h in
        not_stacked 1280 l.work (work_size m.io) a work low high from below) in
        high_kind p m asm l a (omega (arith, low, first)) (omega (arith, high, ends))
        ∙ rw (none, no_scratch, no_work, byte_there m.stack.first m.stack.size a low high) refl

    page : has_rampz m.core ≡ true → kinds p m asm l 0x5B ≡ Page
    page h = low_kind p m asm l 0x5B (omega arith) ∙ rw h refl

    registers : (a : ℕ) → is_core_register m.core a ≡ true → is_hidden a ≡ false → is_rampz m.core a ≡ false → kinds p m asm l a ≡ Own
    registers a h seen other =
        low_kind p m asm l a (core_is_low m.core a h)
        ∙ own_if (is_hidden a) (is_rampz m.core a) (is_core_register m.core a) seen other h

    ports : (a : ℕ) → is_port m.core a ≡ true → kinds p m asm l a ≡ Port
    ports a h =
        let k = port_is_none m.core a h in
        let sreg : (a == 0x5F) ≡ false = ne_eqb a 0x5F (λ e. true≢false (subst (λ n. is_core_register m.core n ≡ false) e k.1)) in
        let low : (a == 28) ≡ false = ne_eqb a 28 (λ e. true≢false (subst (λ n. is_core_register m.core n ≡ false) e k.1)) in
        let high : (a == 29) ≡ false = ne_eqb a 29 (λ e. true≢false (subst (λ n. is_core_register m.core n ≡ false) e k.1)) in
        low_kind p m asm l a k.0
        ∙ port_if (is_hidden a) (is_rampz m.core a) (is_core_register m.core a) (rw (sreg, low, high) refl) (no_rampz m.core a k.1) k.1

    -- ---- which addresses are told to be of a kind

    -- what stands at an address tells where it is
    record Tells (a : ℕ) (k : Kind) : Type 0 where
      object : k ≡ Object → is_of_objects Data p.structs p.objects l.places.items a ≡ true
      own : k ≡ Own → IsOwnByte m asm l a
      port : k ≡ Port → is_port m.core a ≡ true
      stacked : k ≡ Stacked → (m.stack.first ≤ a) × (a < end_of m.stack)

    own_memory : (a : ℕ) → (is_of_scratch asm.frames.items l.frames.items a || is_byte_of l.work (work_size m.io) a) ≡ true
        → IsOwnByte m asm l a
    own_memory a h =
        ⊎_elim
        (λ u. let f = scratch_told asm.frames.items l.frames.items a u in of_scratch a f.f f.frame f.at f.is f.there f.from_there f.below)
        (λ u. let w = byte_told l.work (work_size m.io) a u in of_work a w.0 w.1)
        (or_cases (is_of_scratch asm.frames.items l.frames.items a) (is_byte_of l.work (work_size m.io) a) h)

    register_tells : (a : ℕ) → a < 256 → (b c d : Bool) → is_hidden a ≡ b → is_rampz m.core a ≡ c → is_core_register m.core a ≡ d
        → Tells a (if b then Barred else if c then Page else if d then Own else Port)
    register_tells a low true c d q r s =
        record { object = λ h. absurd cc; own = λ h. absurd cc; port = λ h. absurd cc; stacked = λ h. absurd cc }
    register_tells a low false true d q r s =
        record { object = λ h. absurd cc; own = λ h. absurd cc; port = λ h. absurd cc; stacked = λ h. absurd cc }
    register_tells a low false false true q r s =
        record { object = λ h. absurd cc; own = λ h. of_register a s (not_apart m.core a q r s); port = λ h. absurd cc; stacked = λ h. absurd cc }
    register_tells a low false false false q r s =
        record {
          object = λ h. absurd cc;
          own = λ h. absurd cc;
          port = λ h. and_from (nat_lt a 256) (not (is_core_register m.core a))
              (lt-ltb a 256 low) (ap not s);
          stacked = λ h. absurd cc;
        }

    memory_tells : (a : ℕ) (b c d : Bool) → is_of_objects Data p.structs p.objects l.places.items a ≡ b
        → (is_of_scratch asm.frames.items l.frames.items a || is_byte_of l.work (work_size m.io) a) ≡ c
        → is_byte_of m.stack.first m.stack.size a ≡ d
        → Tells a (if b then Object else if c then Own else if d then Stacked else Barred)
    memory_tells a true c d q r s = record { object = λ h. q; own = λ h. absurd cc; port = λ h. absurd cc; stacked = λ h. absurd cc }
    memory_tells a false true d q r s =
        record { object = λ h. absurd cc; own = λ h. own_memory a r; port = λ h. absurd cc; stacked = λ h. absurd cc }
    memory_tells a false false true q r s =
        record {
          object = λ h. absurd cc;
          own = λ h. absurd cc;
          port = λ h. absurd cc;
          stacked = λ h. byte_told m.stack.first m.stack.size a s;
        }
    memory_tells a false false false q r s =
        record { object = λ h. absurd cc; own = λ h. absurd cc; port = λ h. absurd cc; stacked = λ h. absurd cc }

    tells : (a : ℕ) → Tells a (kinds p m asm l a)
    tells a = by_tests (nat_lt a 256) (nat_lt a (data_size m.core)) refl where
      by_tests : (b c : Bool) → nat_lt a 256 ≡ b
          → Tells a (if b then register_kind m.core a else if c then memory_kind p m asm l a else Barred)
      by_tests true c q =
          register_tells a (ltb-true a 256 q) (is_hidden a) (is_rampz m.core a) (is_core_register m.core a) refl refl refl
      by_tests false true q =
          memory_tells a (is_of_objects Data p.structs p.objects l.places.items a)
          (is_of_scratch asm.frames.items l.frames.items a || is_byte_of l.work (work_size m.io) a)
          (is_byte_of m.stack.first m.stack.size a) refl refl refl
      by_tests false false q = record { object = λ h. absurd cc; own = λ h. absurd cc; port = λ h. absurd cc; stacked = λ h. absurd cc }

    pub are_kinds : AreKinds p m asm l
    are_kinds = record {
      page = page;
      registers = registers;
      ports = ports;
      objects = objects;
      scratch = scratch_kind;
      work = work_kind;
      stack = stack_kind;
      own_told = λ a h. (tells a).own h;
      port_told = λ a h. (tells a).port h;
      stack_told = λ a h. (tells a).stacked h;
      object_told = λ a h.
          let f = object_told Data p.structs p.objects l.places.items a ((tells a).object h) in
          record {
            number = f.i;
            object = f.o;
            place = f.q;
            is = record { object = f.object; home = f.home; place = f.place; from_there = f.from_there; within = f.below };
          };
    }

pub kinds_are_told : DataStandsApart → KindsAreTold
kinds_are_told apart p m asm l valid map_valid asm_valid located =
    are_kinds p m asm l map_valid (apart p m asm l valid map_valid asm_valid located) valid.object_count

-- ---- that they suit

pub register_may_be : (core : Core) (n a : ℕ) → a < 256 → may_be core (register_kind core a) n a ≡ true
register_may_be core n a low = by_tests (is_hidden a) (is_rampz core a) (is_core_register core a) refl refl refl where
  by_tests : (b c d : Bool) → is_hidden a ≡ b → is_rampz core a ≡ c → is_core_register core a ≡ d
      → may_be core (if b then Barred else if c then Page else if d then Own else Port) n a ≡ true
  by_tests true c d q r s = refl
  by_tests false true d q r s = r
  by_tests false false true q r s =
      or_left (is_core_register core a && not (is_apart a)) (nat_le 256 a && nat_lt a n)
      (and_from (is_core_register core a) (not (is_apart a)) s (ap not (not_apart core a q r s)))
  by_tests false false false q r s = and_from (nat_lt a 256) (not (is_core_register core a)) (lt-ltb a 256 low) (ap not s)

-- what can stand in memory above the ports
abbrev pub is_of_memory : Kind → Bool
is_of_memory Port = false
is_of_memory Page = false
is_of_memory kind = true

pub memory_may_be : (core : Core) (k : Kind) (n a : ℕ) → is_of_memory k ≡ true → 256 ≤ a → a < n → may_be core k n a ≡ true
memory_may_be core Own n a fits low high =
    or_right (is_core_register core a && not (is_apart a)) (nat_le 256 a && nat_lt a n) (rw (le-leb 256 a low, lt-ltb a n high) refl)
memory_may_be core Object n a fits low high = rw (le-leb 256 a low, lt-ltb a n high) refl
memory_may_be core Port n a fits low high = absurd (false≢true fits)
memory_may_be core Stacked n a fits low high = rw (le-leb 256 a low, lt-ltb a n high) refl
memory_may_be core Page n a fits low high = absurd (false≢true fits)
memory_may_be core Barred n a fits low high = refl

pub memory_is_so : (b c d : Bool) → is_of_memory (if b then Object else if c then Own else if d then Stacked else Barred) ≡ true
memory_is_so true c d = refl
memory_is_so false true d = refl
memory_is_so false false true = refl
memory_is_so false false false = refl

kinds_may_be : (p : PlainProgram) (m : Map) (asm : AsmProgram) (l : Located) (a : ℕ)
    → may_be m.core (kinds p m asm l a) (data_size m.core) a ≡ true
kinds_may_be p m asm l a = by_tests (nat_lt a 256) (nat_lt a (data_size m.core)) refl refl where
  by_tests : (b c : Bool) → nat_lt a 256 ≡ b → nat_lt a (data_size m.core) ≡ c
      → may_be m.core (if b then register_kind m.core a else if c then memory_kind p m asm l a else Barred) (data_size m.core) a ≡ true
  by_tests true c q r = register_may_be m.core (data_size m.core) a (ltb-true a 256 q)
  by_tests false true q r =
      memory_may_be m.core (memory_kind p m asm l a) (data_size m.core) a
      (memory_is_so (is_of_objects Data p.structs p.objects l.places.items a)
      (is_of_scratch asm.frames.items l.frames.items a || is_byte_of l.work (work_size m.io) a) (is_byte_of m.stack.first m.stack.size a))
      (ltb-false a 256 q) (ltb-true a (data_size m.core) r)
  by_tests false false q r = refl

tables_in_flash : (p : PlainProgram) (m : Map) (asm : AsmProgram) (l : Located) (n a : ℕ) → n ≡ flash_size m.core
    → in_flash (tables p m asm l a) n a ≡ true
tables_in_flash p m asm l n a size = by_test (nat_lt a (flash_size m.core)) refl where
  within : (k : Kind) → nat_lt a n ≡ true → in_flash k n a ≡ true
  within Own h = h
  within Object h = h
  within Port h = refl
  within Stacked h = refl
  within Page h = refl
  within Barred h = refl

  by_test : (b : Bool) → nat_lt a (flash_size m.core) ≡ b → in_flash (tables p m asm l a) n a ≡ true
  by_test true q = within (tables p m asm l a) (subst (λ k. nat_lt a k ≡ true) (sym size) q)
  by_test false q = rw q refl

-- what is told to be an object's in flash is one of an object that is kept there
pub flash_object : (p : PlainProgram) (m : Map) (asm : AsmProgram) (l : Located) (a : ℕ) → tables p m asm l a ≡ Object
    → IsObjectByte p l Flash a
flash_object p m asm l a h =
    let f =
    object_told Flash p.structs p.objects l.places.items a
    (by_tests (nat_lt a (flash_size m.core)) (is_of_objects Flash p.structs p.objects l.places.items a)
    (is_of_initials p.structs p.objects (layout_by p m asm).initials a) h) in
    record {
      number = f.i;
      object = f.o;
      place = f.q;
      is = record { object = f.object; home = f.home; place = f.place; from_there = f.from_there; within = f.below };
    } where
      by_tests : (b c d : Bool) → (if b then (if c then Object else if d then Own else Barred) else Barred) ≡ Object → c ≡ true
      by_tests true true d h = refl
      by_tests true false true h = absurd cc
      by_tests true false false h = absurd cc
      by_tests false c d h = absurd cc

pub flash_length : (p : PlainProgram) (m : Map) (asm : AsmProgram) (l : Located) → IsLocated p m asm l → length l.image.bytes.items
    ≡ flash_size m.core
flash_length p m asm l located = l.image.sized ∙ ap flash_size located.core

pub kinds_fit : KindsFit
kinds_fit p m asm l located bytes = record {
  ports = data_high m.core;
  kinds = kinds_may_be p m asm l;
  table = λ a. tables_in_flash p m asm l (length l.image.bytes.items) a (flash_length p m asm l located);
  code = bytes;
  base = λ below. (refl, refl);
}
