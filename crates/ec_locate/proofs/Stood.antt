-- What the map places, in either bank: its block, and that no two meet.
use Rattle.std.proofs.Common.{◌≡◌, ◌≢◌, ◌⊎◌, inl, inr, ⊎_elim, ◌+◌, ◌<◌, ◌≤◌, ℕ, ◌&&◌, true, false, get_or, List, Some}
use Rattle.std.proofs.Common.{refl, sym, ap, ◌∙◌, subst, arith}
use Rattle.std.specs.Prelude.{nat_le, slice_get, option_map}
use Rattle.std.proofs.lemmas.Bool.{and_parts, leb-true, cases_lt}
use Rattle.std.proofs.lemmas.Option.{slice_get-map, slice_get_within, get_or_from_slice_get}
use Rattle.ec_space.specs.Memory.{data_size}
use Rattle.ec_space.specs.declared.Core.{Core}
use Rattle.ec_space.specs.declared.space.Bank.{Bank}
use Rattle.ec_space.specs.declared.space.Bank.TheVariants.{Flash, Data}
use Rattle.ec_space.specs.declared.space.Home.{Home}
use Rattle.ec_space.specs.declared.space.Home.TheVariants.{Flash as FlashHome, Far as FarHome, Data as DataHome}
use Rattle.ec_space.specs.Spaces.{bank_of}
use Rattle.ec_core.specs.Layout.{size_of_type}
use Rattle.ec_core.specs.Plain.{PlainObject, PlainProgram}
use Rattle.ec_core.specs.Valid.{Valid, HaveOwnNames}
use Rattle.ec_map.specs.Cores.{home_end}
use Rattle.ec_map.specs.declared.map.Map.{Map}
use Rattle.ec_locate.specs.declared.entries.Entry.{Entry}
use Rattle.ec_locate.specs.declared.fixed.Block.{Block}
use Rattle.ec_locate.specs.Apart.{AreFree}
use Rattle.ec_locate.specs.Entries.{fixed_place, is_static, entry_of}
use Rattle.ec_locate.specs.Fixed.{blocks, shares, same_bank, lies_in_bank}
use Rattle.ec_locate.specs.Placing.{entries_by}
use Rattle.ec_locate.proofs.Where.{FoundPlace, found_place, named_is, block_there, free_pair, apart_where}

-- bytes of which the one part stands behind the other
abbrev pub Clear : (at size to many : ℕ) → Type 0
Clear at size to many = (at + size ≤ to) ⊎ (to + many ≤ at)

pub turned : (at size to many : ℕ) → Clear at size to many → Clear to many at size
turned at size to many h = ⊎_elim (λ a. inr a) (λ a. inl a) h

-- of two numbers one is the lesser
pub by_order : (n k at size to many : ℕ) → n ≢ k → (n < k → Clear at size to many) → (k < n → Clear to many at size) → Clear at size to many
by_order n k at size to many differ a b =
    ⊎_elim a (λ most. ⊎_elim (λ less. turned to many at size (b less))
    (λ least. let same : n ≡ k = omega (arith, most, least) in absurd (differ same)) (cases_lt k n)) (cases_lt n k)

-- ---- in a bank

pub in_flash_bank : (core : Core) (home : Home) (first end : ℕ) → bank_of home ≡ Flash → lies_in_bank core home first end ≡ true
    → end ≤ home_end home core
in_flash_bank core FlashHome first end f h = leb-true end (home_end FlashHome core) h
in_flash_bank core FarHome first end f h = leb-true end (home_end FarHome core) h
in_flash_bank core DataHome first end f h = cc

pub in_data_bank : (core : Core) (home : Home) (first end : ℕ) → bank_of home ≡ Data → lies_in_bank core home first end ≡ true
    → (256 ≤ first) × (end ≤ data_size core)
in_data_bank core FlashHome first end f h = cc
in_data_bank core FarHome first end f h = cc
in_data_bank core DataHome first end f h =
    let (low, high) = and_parts (nat_le 256 first) (nat_le end (data_size core)) h in
    (leb-true 256 first low, leb-true end (data_size core) high)

-- a bank is itself
same_self : (b : Bank) → same_bank b b ≡ true
same_self Flash = refl
same_self Data = refl

module _ (p : PlainProgram) (m : Map) where
  abbrev pub es : List Entry
  es = entries_by m p

  abbrev pub size : PlainObject → ℕ
  size o = size_of_type p.structs o.ty

  abbrev pub entry : PlainObject → Entry
  entry o = entry_of p.structs m.places.items o

  pub entry_there : (i : ℕ) (o : PlainObject) → slice_get p.objects i ≡ Some o → slice_get es i ≡ Some (entry o)
  entry_there i o q = slice_get-map (entry_of p.structs m.places.items) p.objects i ∙ ap (option_map (entry_of p.structs m.places.items)) q

  abbrev pub block : PlainObject → (at : ℕ) → Block
  block o at = record { home = o.home; at = at; size = size o }

  -- an object of a bank that the map places, and its block
  pub record Stood (bank : Bank) (o : PlainObject) (at : ℕ) : Type 0 where
    pub external : o.external ≡ true
    pub in_bank : bank_of o.home ≡ bank
    pub found : FoundPlace m.places.items o.name at
    pub is_block : slice_get (blocks es p.objects m.places.items) found.number ≡ Some (block o at)

  module _ (valid : Valid p m.io) (free : AreFree m (blocks es p.objects m.places.items)) where
    pub stood : (bank : Bank) (i : ℕ) (o : PlainObject) (at : ℕ) → slice_get p.objects i ≡ Some o → bank_of o.home ≡ bank → o.external ≡ true
        → is_static o.storage ≡ true → fixed_place m.places.items o.name ≡ Some at → Stood bank o at
    stood bank i o at q f x s z =
        let found = found_place m.places.items o.name at z in
        let named = named_is p.objects i o o.name valid.externals q x s refl in
        let there = block_there es p.objects m.places.items i (entry o) o.name at found (entry_there i o q) named in
        record { external = x; in_bank = f; found = found; is_block = there }

    -- of two blocks the later is clear of the earlier
    in_order : (bank : Bank) (j n : ℕ) (c d : PlainObject) (from there : ℕ) → j < n → bank_of c.home ≡ bank → bank_of d.home ≡ bank
        → slice_get (blocks es p.objects m.places.items) j ≡ Some (block c from)
        → slice_get (blocks es p.objects m.places.items) n ≡ Some (block d there) → Clear from (size c) there (size d)
    in_order bank j n c d from there less cb db u v =
        let h : (same_bank (bank_of c.home) (bank_of d.home) && shares from (size c) there (size d)) ≡ false =
        free_pair m (blocks es p.objects m.places.items) j n (block c from) (block d there) free less u v in
        let no : shares from (size c) there (size d) ≡ false = rw (cb, db, same_self bank) at h in
        turned there (size d) from (size c) (apart_where from (size c) there (size d) no)

    names_differ : (i k : ℕ) (o x : PlainObject) → i < k → slice_get p.objects i ≡ Some o → slice_get p.objects k ≡ Some x
        → o.external ≡ true → x.external ≡ true → o.name ≢ x.name
    names_differ i k o x l q r eo ex =
        let pair = valid.externals i k o l (slice_get_within p.objects k x r) in
        let o_there = get_or_from_slice_get p.objects i o o q in
        let x_there = get_or_from_slice_get p.objects k x o r in
        let apart : HaveOwnNames o x =
        subst (λ z. HaveOwnNames z x) o_there (subst (λ z. HaveOwnNames (get_or p.objects i o) z) x_there pair) in
        apart eo ex

    same_name : (bank : Bank) (o x : PlainObject) (at to : ℕ) (a : Stood bank o at) (b : Stood bank x to) → a.found.number ≡ b.found.number
        → o.name ≡ x.name
    same_name bank o x at to a b same =
        let here : slice_get m.places.items b.found.number ≡ Some a.found.place =
        subst (λ n. slice_get m.places.items n ≡ Some a.found.place) same a.found.is_place in
        let one : a.found.place ≡ b.found.place = (let both = sym here ∙ b.found.is_place in cc) in
        sym a.found.is_name ∙ ap (λ z. z.name.items) one ∙ b.found.is_name

    -- two that the map places have different names, so they stand at different places of the list
    pub both_stood : (bank : Bank) (i k : ℕ) (o x : PlainObject) (at to : ℕ) → i < k → slice_get p.objects i ≡ Some o
        → slice_get p.objects k ≡ Some x → Stood bank o at → Stood bank x to → Clear at (size o) to (size x)
    both_stood bank i k o x at to l q r a b =
        ⊎_elim (λ less. in_order bank a.found.number b.found.number o x at to less a.in_bank b.in_bank a.is_block b.is_block)
        (λ most.
        ⊎_elim (λ less. turned to (size x) at (size o)
        (in_order bank b.found.number a.found.number x o to at less b.in_bank a.in_bank b.is_block a.is_block))
        (λ least.
        let same : a.found.number ≡ b.found.number = omega (arith, most, least) in
        absurd (names_differ i k o x l q r a.external b.external (same_name bank o x at to a b same)))
        (cases_lt b.found.number a.found.number))
        (cases_lt a.found.number b.found.number)
