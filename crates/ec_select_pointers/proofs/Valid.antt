-- The items of the code are valid, and have no labels.
use Rattle.std.proofs.Common.{◌≡◌, ℕ, zero, suc, ◌+◌, ◌/◌, ◌%◌, ◌<◌, ◌≤◌, ◌==◌, Bool, true, false, List, [], ◌∷◌}
use Rattle.std.proofs.Common.{◌++◌, Option, Some, None, refl, ◌∙◌, arith}
use Rattle.std.specs.Prelude.{nat_le, nat_lt, count_by, cond, if◌then◌else◌}
use Rattle.std.specs.List.{list_all}
use Rattle.std.proofs.lemmas.Bool.{lt-ltb, le-leb, eqb-true, eqb-false, ne_eqb, false≢true, and_parts}
use Rattle.std.proofs.lemmas.List.Folds.{list_all-append, sum_by-zero}
use Rattle.ec_isa.specs.Table.{in_table}
use Rattle.ec_asm.specs.declared.items.AsmItem.{AsmItem}
use Rattle.ec_asm.specs.declared.items.AsmItem.TheVariants.{Plain, Label, JumpTo, CallTo, BranchTo, LoadPart, LoadObj}
use Rattle.ec_asm.specs.declared.items.AsmItem.TheVariants.{StoreObj}
use Rattle.ec_asm.specs.declared.pieces.Location.{Location}
use Rattle.ec_asm.specs.declared.pieces.Location.TheVariants.{InRegisters, InMemory}
use Rattle.ec_asm.specs.Items.{chain}
use Rattle.ec_asm.specs.Pieces.{copy_byte}
use Rattle.ec_asm.specs.Valid.{Sizes, is_offset, is_valid_item, used_label, is_label, is_placed}
use Rattle.ec_select_pointers.specs.Addresses.{is_low_pair, pointer_bytes, part_byte, parts_code, parts_pair, both_parts}
use Rattle.ec_select_pointers.specs.Addresses.{tag_code, address_code, rest_of, subtracts, subtract_byte, subtract_each}
use Rattle.ec_select_pointers.specs.Addresses.{subtract_pair, subtract_both, field_code}
use Rattle.ec_select_pointers.specs.Accesses.{point_code, data_byte, data_bytes, flash_byte, flash_bytes, bytes_words}
use Rattle.ec_select_pointers.specs.Accesses.{tag_test, over, either_bytes, load_data_code, load_flash_code}
use Rattle.ec_select_pointers.specs.Accesses.{load_table_code, load_any_code, store_byte, store_bytes}
use Rattle.ec_select_pointers.specs.Accesses.{store_data_code}
use Rattle.ec_select_pointers.specs.AddressLaws.{IsTag}
use Rattle.ec_select_pointers.specs.Form.{HasPlaces, HasNoLabel, AddressesAreValid, AccessesAreValid}
use Rattle.ec_select_pointers.specs.Form.{PointersHaveNoLabel, TablesAreValid, TablesHaveNoLabel}

-- ---- lists of items

pub both : (t : AsmItem → Bool) (a b : List AsmItem) → list_all t a ≡ true → list_all t b ≡ true → list_all t (a ++ b) ≡ true
both t a b h k = list_all-append t a b ∙ rw (h, k) refl

pub all_pass : (t : AsmItem → Bool) (body : ℕ → List AsmItem) (n : ℕ) → ((i : ℕ) → i < n → list_all t (body i) ≡ true)
    → list_all t (chain body n) ≡ true
all_pass t body zero h = refl
all_pass t body (suc n) h =
    both t (chain body n) (body n) (all_pass t body n (λ i l. h i (omega arith))) (h n (omega arith))

pub by_test : (t : AsmItem → Bool) (b : Bool) (a c : List AsmItem) → (b ≡ true → list_all t a ≡ true) → list_all t c ≡ true
    → list_all t (if b then a else c) ≡ true
by_test t true a c h k = h refl
by_test t false a c h k = k

-- ---- a test that each piece of the code passes

record PassAddresses (t : AsmItem → Bool) (o k : ℕ) (q : Location) (n : ℕ) (tag : Option ℕ) : Type 0 where
  parts : list_all t (both_parts o k q) ≡ true
  tagged : list_all t (tag_code tag q) ≡ true
  less : (x : ℕ) → x < 65536 → list_all t (subtract_both x q) ≡ true

module _ (t : AsmItem → Bool) (o k : ℕ) (q : Location) (n : ℕ) (tag : Option ℕ) (h : PassAddresses t o k q n tag) where
  address_passes : list_all t (address_code o k tag q) ≡ true
  address_passes = both t (both_parts o k q) (tag_code tag q) h.parts h.tagged

  field_passes : list_all t (field_code q k) ≡ true
  field_passes = by_size (k % 65536 == 0) refl
    where
      by_size : (b : Bool) → (k % 65536 == 0) ≡ b → list_all t (if b then [] else subtract_both (rest_of k) q) ≡ true
      by_size true e = refl
      by_size false e = let z = eqb-false (k % 65536) 0 e in h.less (rest_of k) (omega (arith, z))

record PassAccesses (t : AsmItem → Bool) (p q : Location) (n : ℕ) : Type 0 where
  point : list_all t (point_code p) ≡ true
  from_data : (i : ℕ) → i < n → list_all t (data_byte q i) ≡ true
  from_flash : (i : ℕ) → i < n → list_all t (flash_byte q i) ≡ true
  into : (i : ℕ) → i < n → list_all t (store_byte q i) ≡ true

module _ (t : AsmItem → Bool) (p q : Location) (n : ℕ) (h : PassAccesses t p q n) where
  load_data_passes : list_all t (load_data_code p q n) ≡ true
  load_data_passes = both t (point_code p) (data_bytes q n) h.point (all_pass t (data_byte q) n h.from_data)

  load_flash_passes : list_all t (load_flash_code p q n) ≡ true
  load_flash_passes = both t (point_code p) (flash_bytes q n) h.point (all_pass t (flash_byte q) n h.from_flash)

  store_data_passes : list_all t (store_data_code q p n) ≡ true
  store_data_passes = both t (point_code p) (store_bytes q n) h.point (all_pass t (store_byte q) n h.into)

  load_any_passes : list_all t (tag_test p) ≡ true → list_all t (over (bytes_words q n + 1)) ≡ true
      → list_all t (over (bytes_words q n)) ≡ true → list_all t (load_any_code p q n) ≡ true
  load_any_passes tag far near =
      let w = bytes_words q n in
      let last = both t (over w) (flash_bytes q n) near (all_pass t (flash_byte q) n h.from_flash) in
      let middle = both t (data_bytes q n) (over w ++ flash_bytes q n) (all_pass t (data_byte q) n h.from_data) last in
      let either = both t (over (w + 1)) (data_bytes q n ++ (over w ++ flash_bytes q n)) far middle in
      both t (point_code p) (tag_test p ++ either_bytes q n) h.point (both t (tag_test p) (either_bytes q n) tag either)

-- ---- fields

module _ (sizes : Sizes) where
  abbrev valid : AsmItem → Bool
  valid = is_valid_item sizes

  pub part_valid : (o k : ℕ) (q : Location) (n i : ℕ) → HasPlaces sizes q n → i < n → i < 2 → is_offset sizes o k ≡ true
      → list_all valid (part_byte o k q i) ≡ true
  part_valid o k (InRegisters r) n i h l m s =
      by_test valid (nat_le 16 (r + i)) _ _
      (λ e. rw (e, lt-ltb (r + i) 32 (omega arith), le-leb i 2 (omega arith), s) refl)
      (rw (le-leb i 2 (omega arith), lt-ltb (r + i) 32 (omega arith), s) refl)
  part_valid o k (InMemory p j) n i h l m s = rw (le-leb i 2 (omega arith), s, h i l) refl

  tag_valid : (tag : Option ℕ) (q : Location) → HasPlaces sizes q (pointer_bytes tag) → IsTag tag
      → list_all valid (tag_code tag q) ≡ true
  tag_valid None q h s = refl
  tag_valid (Some tag) (InRegisters r) h s =
      by_test valid (nat_le 16 (r + 2)) _ _
      (λ e. rw (e, lt-ltb (r + 2) 32 (omega arith), lt-ltb tag 256 s) refl)
      (rw (lt-ltb tag 256 s, lt-ltb (r + 2) 32 (omega arith)) refl)
  tag_valid (Some tag) (InMemory o k) h s = rw (lt-ltb tag 256 s, h 2 (omega arith)) refl

  subtracts_valid : (i d x : ℕ) → nat_le 16 d ≡ true → d < 32 → x < 256 → in_table (subtracts i d x) ≡ true
  subtracts_valid zero d x h l m = rw (h, lt-ltb d 32 l, lt-ltb x 256 m) refl
  subtracts_valid (suc i) d x h l m = rw (h, lt-ltb d 32 l, lt-ltb x 256 m) refl

  pub subtract_valid : (q : Location) (n i x : ℕ) → HasPlaces sizes q n → i < n → x < 256
      → list_all valid (subtract_byte x q i) ≡ true
  subtract_valid (InRegisters r) n i x h l m =
      by_test valid (nat_le 16 (r + i)) _ _
      (λ e. rw (subtracts_valid i (r + i) x e (omega arith) m) refl)
      (rw (lt-ltb (r + i) 32 (omega arith), subtracts_valid i 30 x refl (omega arith) m) refl)
  subtract_valid (InMemory o j) n i x h l m =
      rw (h i l, subtracts_valid i 30 x refl (omega arith) m) refl

  -- both bytes of an address
  both_parts_valid : (o k : ℕ) (q : Location) (n : ℕ) → HasPlaces sizes q n → 2 ≤ n → is_offset sizes o k ≡ true
      → list_all valid (both_parts o k q) ≡ true
  both_parts_valid o k q n h two s = by_place q h
    where
      each : (q : Location) → HasPlaces sizes q n → list_all valid (parts_code o k q) ≡ true
      each q h =
          both valid (part_byte o k q 0) (part_byte o k q 1) (part_valid o k q n 0 h (omega (arith, two)) (omega arith) s)
          (part_valid o k q n 1 h (omega (arith, two)) (omega arith) s)

      by_place : (q : Location) → HasPlaces sizes q n → list_all valid (both_parts o k q) ≡ true
      by_place (InMemory p j) h = each (InMemory p j) h
      by_place (InRegisters r) h =
          by_test valid (is_low_pair r) (parts_pair o k r) (parts_code o k (InRegisters r))
          (λ e. let even = (and_parts (nat_lt r 16) (r % 2 == 0) e).1 in rw (s, lt-ltb r 32 (omega (arith, h, two)), even) refl)
          (each (InRegisters r) h)

  -- two bytes subtracted
  both_less_valid : (q : Location) (n x : ℕ) → HasPlaces sizes q n → 2 ≤ n → x < 65536 → list_all valid (subtract_both x q) ≡ true
  both_less_valid q n x h two m = by_place q h
    where
      each : (q : Location) → HasPlaces sizes q n → list_all valid (subtract_each x q) ≡ true
      each q h =
          both valid (subtract_byte (x % 256) q 0) (subtract_byte (x / 256) q 1)
          (subtract_valid q n 0 (x % 256) h (omega (arith, two)) (omega arith))
          (subtract_valid q n 1 (x / 256) h (omega (arith, two)) (omega (arith, m)))

      by_place : (q : Location) → HasPlaces sizes q n → list_all valid (subtract_both x q) ≡ true
      by_place (InMemory p j) h = each (InMemory p j) h
      by_place (InRegisters r) h =
          by_test valid (is_low_pair r) (subtract_pair x r) (subtract_each x (InRegisters r))
          (λ e. let even = (and_parts (nat_lt r 16) (r % 2 == 0) e).1 in
          rw (lt-ltb r 32 (omega (arith, h, two)), even, lt-ltb (x % 256) 256 (omega arith), lt-ltb (x / 256) 256 (omega (arith, m))) refl)
          (each (InRegisters r) h)

  addresses_pass : (o k : ℕ) (q : Location) (tag : Option ℕ) → HasPlaces sizes q (pointer_bytes tag)
      → is_offset sizes o k ≡ true → IsTag tag → PassAddresses valid o k q (pointer_bytes tag) tag
  addresses_pass o k q None h s t = record {
    parts = both_parts_valid o k q 2 h (omega arith) s;
    tagged = refl;
    less = λ x m. both_less_valid q 2 x h (omega arith) m;
  }
  addresses_pass o k q (Some tag) h s t = record {
    parts = both_parts_valid o k q 3 h (omega arith) s;
    tagged = tag_valid (Some tag) q h t;
    less = λ x m. both_less_valid q 3 x h (omega arith) m;
  }

  pub point_valid : (p : Location) → HasPlaces sizes p 2 → list_all valid (point_code p) ≡ true
  point_valid (InRegisters r) h =
      by_test valid (r % 2 == 0) _ _ (λ e. rw (lt-ltb r 32 (omega arith), e) refl)
      (all_pass valid (copy_byte (InRegisters r) (InRegisters 30)) 2 copied)
    where
      copied : (i : ℕ) → i < 2 → list_all valid (copy_byte (InRegisters r) (InRegisters 30) i) ≡ true
      copied i l = rw (lt-ltb (r + i) 32 (omega arith), lt-ltb (30 + i) 32 (omega arith)) refl
  point_valid (InMemory o k) h = all_pass valid (copy_byte (InMemory o k) (InRegisters 30)) 2 loaded
    where
      loaded : (i : ℕ) → i < 2 → list_all valid (copy_byte (InMemory o k) (InRegisters 30) i) ≡ true
      loaded i l = rw (lt-ltb (30 + i) 32 (omega arith), h i l) refl

  pub data_valid : (q : Location) (n i : ℕ) → n ≤ 64 → HasPlaces sizes q n → i < n → list_all valid (data_byte q i) ≡ true
  data_valid (InRegisters r) n i m h l = rw (lt-ltb (r + i) 32 (omega arith), lt-ltb i 64 (omega arith)) refl
  data_valid (InMemory o k) n i m h l = rw (lt-ltb i 64 (omega arith), h i l) refl

  pub flash_valid : (q : Location) (n i : ℕ) → HasPlaces sizes q n → i < n → list_all valid (flash_byte q i) ≡ true
  flash_valid (InRegisters r) n i h l =
      rw (lt-ltb (r + i) 32 (omega arith), ne_eqb (r + i) 30 (omega arith), ne_eqb (r + i) 31 (omega arith)) refl
  flash_valid (InMemory o k) n i h l = rw (h i l) refl

  store_valid : (q : Location) (n i : ℕ) → n ≤ 64 → HasPlaces sizes q n → i < n → list_all valid (store_byte q i) ≡ true
  store_valid (InRegisters r) n i m h l = rw (lt-ltb (r + i) 32 (omega arith), lt-ltb i 64 (omega arith)) refl
  store_valid (InMemory o k) n i m h l = rw (lt-ltb i 64 (omega arith), h i l) refl

  accesses_pass : (p q : Location) (n : ℕ) → n ≤ 64 → HasPlaces sizes p 2 → HasPlaces sizes q n → PassAccesses valid p q n
  accesses_pass p q n m a b = record {
    point = point_valid p a;
    from_data = λ i l. data_valid q n i m b l;
    from_flash = λ i l. flash_valid q n i b l;
    into = λ i l. store_valid q n i m b l;
  }

  test_valid : (p : Location) → HasPlaces sizes p 3 → list_all valid (tag_test p) ≡ true
  test_valid (InRegisters r) h = rw (lt-ltb (r + 2) 32 (omega arith)) refl
  test_valid (InMemory o k) h = rw (h 2 (omega arith)) refl

  pub few_words : (q : Location) (n : ℕ) → n ≤ 64 → bytes_words q n ≤ 192
  few_words (InRegisters r) n l = omega arith
  few_words (InMemory o k) n l = omega arith

  pub over_valid : (w : ℕ) → w < 2048 → list_all valid (over w) ≡ true
  over_valid w l = rw (lt-ltb w 2048 l) refl

pub addresses_are_valid : AddressesAreValid
addresses_are_valid sizes o k tag q h s t =
    let a = addresses_pass sizes o k q tag h s t in
    let test = is_valid_item sizes in
    (address_passes test o k q (pointer_bytes tag) tag a, field_passes test o k q (pointer_bytes tag) tag a)

pub accesses_are_valid : AccessesAreValid
accesses_are_valid sizes p q n m a b =
    let t = is_valid_item sizes in
    let h = accesses_pass sizes p q n m a b in
    let w = few_words sizes q n m in (
      load_data_passes t p q n h,
      load_flash_passes t p q n h,
      store_data_passes t p q n h,
      λ c. load_any_passes t p q n h (test_valid sizes p c)
          (over_valid sizes (bytes_words q n + 1) (omega (arith, w))) (over_valid sizes (bytes_words q n) (omega (arith, w))),
    )

pub tables_are_valid : TablesAreValid
tables_are_valid sizes o k q n h s =
    let t = is_valid_item sizes in
    both t (LoadPart 30 o k 0 ∷ LoadPart 31 o k 1 ∷ []) (flash_bytes q n) (rw s refl)
    (all_pass t (flash_byte q) n (λ i l. flash_valid sizes q n i h l))

-- ---- labels

-- an item with no label
abbrev pub is_plain : AsmItem → Bool
is_plain (Plain i) = true
is_plain (Label l) = false
is_plain (JumpTo l) = false
is_plain (CallTo l) = false
is_plain (BranchTo set flag l) = false
is_plain (LoadPart d o k part) = true
is_plain (LoadObj d o k) = true
is_plain (StoreObj o k r) = true

pub no_use : (items : List AsmItem) (i : AsmItem) → is_plain i ≡ true → is_placed items (used_label i) ≡ true
no_use items (Plain i) h = refl
no_use items (Label l) h = refl
no_use items (JumpTo l) h = absurd (false≢true h)
no_use items (CallTo l) h = absurd (false≢true h)
no_use items (BranchTo set flag l) h = absurd (false≢true h)
no_use items (LoadPart d o k part) h = refl
no_use items (LoadObj d o k) h = refl
no_use items (StoreObj o k r) h = refl

pub no_place : (l : ℕ) (i : AsmItem) → is_plain i ≡ true → (cond (is_label l i) 1 0 == 0) ≡ true
no_place l (Plain i) h = refl
no_place l (Label k) h = absurd (false≢true h)
no_place l (JumpTo k) h = refl
no_place l (CallTo k) h = refl
no_place l (BranchTo set flag k) h = refl
no_place l (LoadPart d o k part) h = refl
no_place l (LoadObj d o k) h = refl
no_place l (StoreObj o k r) h = refl

-- what each of some items passes, all pass
pub passing : (t u : AsmItem → Bool) → ((i : AsmItem) → t i ≡ true → u i ≡ true) → (items : List AsmItem)
    → list_all t items ≡ true → list_all u items ≡ true
passing t u h [] f = refl
passing t u h (i ∷ is) f =
    let p = and_parts (t i) (list_all t is) f in
    rw (h i p.0, passing t u h is p.1) refl

pub has_no_label : (code : List AsmItem) → list_all is_plain code ≡ true → HasNoLabel code
has_no_label code h =
    record {
      uses = λ items. passing is_plain (λ i. is_placed items (used_label i)) (no_use items) code h;
      places = λ l.
          let number = λ (i : AsmItem). cond (is_label l i) 1 0 in
          eqb-true (count_by (is_label l) code) 0
          (sum_by-zero number code ∙ passing is_plain (λ i. number i == 0) (no_place l) code h);
    }

pub part_plain : (o k : ℕ) (q : Location) (i : ℕ) → list_all is_plain (part_byte o k q i) ≡ true
part_plain o k (InRegisters r) i = by_test is_plain (nat_le 16 (r + i)) _ _ (λ e. refl) refl
part_plain o k (InMemory p j) i = refl

tag_plain : (tag : Option ℕ) (q : Location) → list_all is_plain (tag_code tag q) ≡ true
tag_plain None q = refl
tag_plain (Some tag) (InRegisters r) = by_test is_plain (nat_le 16 (r + 2)) _ _ (λ e. refl) refl
tag_plain (Some tag) (InMemory o k) = refl

pub subtract_plain : (x : ℕ) (q : Location) (i : ℕ) → list_all is_plain (subtract_byte x q i) ≡ true
subtract_plain x (InRegisters r) i = by_test is_plain (nat_le 16 (r + i)) _ _ (λ e. refl) refl
subtract_plain x (InMemory o j) i = refl

both_parts_plain : (o k : ℕ) (q : Location) → list_all is_plain (both_parts o k q) ≡ true
both_parts_plain o k (InMemory p j) = refl
both_parts_plain o k (InRegisters r) =
    by_test is_plain (is_low_pair r) (parts_pair o k r) (parts_code o k (InRegisters r)) (λ e. refl)
    (both is_plain (part_byte o k (InRegisters r) 0) (part_byte o k (InRegisters r) 1) (part_plain o k (InRegisters r) 0)
    (part_plain o k (InRegisters r) 1))

both_less_plain : (x : ℕ) (q : Location) → list_all is_plain (subtract_both x q) ≡ true
both_less_plain x (InMemory o j) = refl
both_less_plain x (InRegisters r) =
    by_test is_plain (is_low_pair r) (subtract_pair x r) (subtract_each x (InRegisters r)) (λ e. refl)
    (both is_plain (subtract_byte (x % 256) (InRegisters r) 0) (subtract_byte (x / 256) (InRegisters r) 1)
    (subtract_plain (x % 256) (InRegisters r) 0) (subtract_plain (x / 256) (InRegisters r) 1))

plain_addresses : (o k : ℕ) (q : Location) (tag : Option ℕ) → PassAddresses is_plain o k q 2 tag
plain_addresses o k q tag = record {
  parts = both_parts_plain o k q;
  tagged = tag_plain tag q;
  less = λ x m. both_less_plain x q;
}

pub point_plain : (p : Location) → list_all is_plain (point_code p) ≡ true
point_plain (InRegisters r) = by_test is_plain (r % 2 == 0) _ _ (λ e. refl) refl
point_plain (InMemory o k) = refl

pub data_plain : (q : Location) (i : ℕ) → list_all is_plain (data_byte q i) ≡ true
data_plain (InRegisters r) i = refl
data_plain (InMemory o k) i = refl

pub flash_plain : (q : Location) (i : ℕ) → list_all is_plain (flash_byte q i) ≡ true
flash_plain (InRegisters r) i = refl
flash_plain (InMemory o k) i = refl

store_plain : (q : Location) (i : ℕ) → list_all is_plain (store_byte q i) ≡ true
store_plain (InRegisters r) i = refl
store_plain (InMemory o k) i = refl

test_plain : (p : Location) → list_all is_plain (tag_test p) ≡ true
test_plain (InRegisters r) = refl
test_plain (InMemory o k) = refl

plain_accesses : (p q : Location) (n : ℕ) → PassAccesses is_plain p q n
plain_accesses p q n = record {
  point = point_plain p;
  from_data = λ i l. data_plain q i;
  from_flash = λ i l. flash_plain q i;
  into = λ i l. store_plain q i;
}

pub pointers_have_no_label : PointersHaveNoLabel
pointers_have_no_label o k tag p q n =
    let a = plain_addresses o k q tag in
    let h = plain_accesses p q n in
    let back = plain_accesses q p n in (
      has_no_label (address_code o k tag q) (address_passes is_plain o k q 2 tag a),
      has_no_label (field_code q k) (field_passes is_plain o k q 2 tag a),
      has_no_label (load_data_code p q n) (load_data_passes is_plain p q n h),
      has_no_label (load_flash_code p q n) (load_flash_passes is_plain p q n h),
      has_no_label (load_any_code p q n) (load_any_passes is_plain p q n h (test_plain p) refl refl),
      has_no_label (store_data_code p q n) (store_data_passes is_plain q p n back),
    )

pub tables_have_no_label : TablesHaveNoLabel
tables_have_no_label o k q n =
    has_no_label (load_table_code o k q n) (all_pass is_plain (flash_byte q) n (λ i l. flash_plain q i))
