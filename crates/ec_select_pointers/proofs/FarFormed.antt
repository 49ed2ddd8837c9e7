-- The form of the code for a core with RAMPZ.
use Rattle.std.proofs.Common.{◌≡◌, ℕ, zero, suc, ◌+◌, ◌*◌, ◌/◌, ◌%◌, ◌<◌, ◌≤◌, ◌==◌, Bool, true, false, List, []}
use Rattle.std.proofs.Common.{◌∷◌, ◌++◌, refl, arith}
use Rattle.std.specs.Prelude.{nat_le, if◌then◌else◌}
use Rattle.std.specs.List.{list_all}
use Rattle.std.proofs.lemmas.Bool.{lt-ltb, ne_eqb, eqb-false}
use Rattle.std.proofs.lemmas.List.Sums.{sum_by-append}
use Rattle.ec_isa.specs.declared.instructions.Instr.TheVariants.{Out as OutInstr}
use Rattle.ec_asm.specs.declared.items.AsmItem.{AsmItem}
use Rattle.ec_asm.specs.declared.items.AsmItem.TheVariants.{Plain, LoadPart}
use Rattle.ec_asm.specs.declared.pieces.Location.{Location}
use Rattle.ec_asm.specs.declared.pieces.Location.TheVariants.{InRegisters, InMemory}
use Rattle.ec_asm.specs.Change.{Env, Own}
use Rattle.ec_asm.specs.Items.{code_words, item_words}
use Rattle.ec_asm.specs.Pieces.{StandsFrom}
use Rattle.ec_asm.specs.Valid.{Sizes, is_offset, is_valid_item}
use Rattle.ec_asm.proofs.ItemWords.{chain_words, all_far, chain_far, own_far}
use Rattle.ec_select_pointers.specs.Addresses.{part_byte, subtract_byte}
use Rattle.ec_select_pointers.specs.Accesses.{point_code, data_byte, data_bytes, bytes_words, over}
use Rattle.ec_select_pointers.specs.Form.{HasPlaces}
use Rattle.ec_select_pointers.specs.Far.{page_code, page_port, far_byte, far_bytes, load_far_code, load_far_table_code, top_test}
use Rattle.ec_select_pointers.specs.Far.{either_far_bytes, load_any_far_code, far_address_code, far_rest_of, field_far_code}
use Rattle.ec_select_pointers.specs.FarForm.{FarPointersAreStraight, FarPointersTake, FarPointersHave, FarAddressesAreValid}
use Rattle.ec_select_pointers.specs.FarForm.{FarTablesAreValid, FarAccessesAreValid, FarPointersHaveNoLabel}
use Rattle.ec_select_pointers.proofs.Short as short
use Rattle.ec_select_pointers.proofs.Short.{IsShort, joined, chained, part_short, subtract_short, point_short, all_data_short, takes}
use Rattle.ec_select_pointers.proofs.Valid.{both, all_pass, by_test, part_valid, subtract_valid, point_valid, data_valid, few_words}
use Rattle.ec_select_pointers.proofs.Valid.{over_valid, is_plain, has_no_label, part_plain, subtract_plain, point_plain, data_plain}

-- ---- steps and words

pub page_short : (p : Location) → IsShort (page_code p) 1 2 3
page_short (InRegisters r) = record { straight = refl; at_least = omega arith; steps_are = omega arith; words_are = omega arith }
page_short (InMemory o k) = record { straight = refl; at_least = omega arith; steps_are = omega arith; words_are = omega arith }

far_short : (q : Location) (i : ℕ) → IsShort (far_byte q i) 1 2 3
far_short (InRegisters r) i = record { straight = refl; at_least = omega arith; steps_are = omega arith; words_are = omega arith }
far_short (InMemory o k) i = record { straight = refl; at_least = omega arith; steps_are = omega arith; words_are = omega arith }

pub all_far_short : (q : Location) (n : ℕ) → IsShort (far_bytes q n) n (2 * n) (3 * n)
all_far_short q n = chained (far_byte q) n 2 3 (far_short q)

load_far_short : (p q : Location) (n : ℕ) → IsShort (load_far_code p q n) (1 + (1 + n)) (2 + (2 + 2 * n)) (4 + (3 + 3 * n))
load_far_short p q n =
    joined (point_code p) (page_code p ++ far_bytes q n) 1 (1 + n) 2 (2 + 2 * n) 4 (3 + 3 * n) (point_short p)
    (joined (page_code p) (far_bytes q n) 1 n 2 (2 * n) 3 (3 * n) (page_short p) (all_far_short q n))

-- the parts of an address, set
abbrev parts : (o k : ℕ) → List AsmItem
parts o k = LoadPart 30 o k 2 ∷ Plain (OutInstr page_port 30) ∷ LoadPart 30 o k 0 ∷ LoadPart 31 o k 1 ∷ []

load_table_short : (o k : ℕ) (q : Location) (n : ℕ) → IsShort (load_far_table_code o k q n) (4 + n) (4 + 2 * n) (4 + 3 * n)
load_table_short o k q n =
    joined (parts o k) (far_bytes q n) 4 n 4 (2 * n) 4 (3 * n)
    (record { straight = refl; at_least = omega arith; steps_are = omega arith; words_are = omega arith }) (all_far_short q n)

address_short : (o k : ℕ) (q : Location) → IsShort (far_address_code o k q) 3 6 9
address_short o k q =
    joined (part_byte o k q 0) (part_byte o k q 1 ++ part_byte o k q 2) 1 2 2 4 3 6 (part_short o k q 0)
    (joined (part_byte o k q 1) (part_byte o k q 2) 1 1 2 2 3 3 (part_short o k q 1) (part_short o k q 2))

field_short : (q : Location) (offset : ℕ) → IsShort (field_far_code q offset) 0 9 15
field_short q offset =
    let k = far_rest_of offset in
    short.by_test (offset % 16777216 == 0) []
    (subtract_byte (k % 256) q 0 ++ (subtract_byte (k / 256 % 256) q 1 ++ subtract_byte (k / 65536) q 2)) 0 9 15
    (record { straight = refl; at_least = omega arith; steps_are = omega arith; words_are = omega arith })
    (joined (subtract_byte (k % 256) q 0) _ 0 0 3 6 5 10 (subtract_short (k % 256) q 0)
    (joined (subtract_byte (k / 256 % 256) q 1) (subtract_byte (k / 65536) q 2) 0 0 3 3 5 5
    (subtract_short (k / 256 % 256) q 1) (subtract_short (k / 65536) q 2)))

test_words : (p : Location) → code_words (top_test p) ≤ 1
test_words (InRegisters r) = omega arith
test_words (InMemory o k) = omega arith

any_words : (p q : Location) (n : ℕ) → code_words (load_any_far_code p q n) ≤ 10 + 6 * n
any_words p q n =
    let w = bytes_words q n in
    let last = over w ++ far_bytes q n in
    let middle = data_bytes q n ++ last in
    let a = (point_short p).words_are in
    let g = (page_short p).words_are in
    let b = test_words p in
    let c = (all_data_short q n).words_are in
    let d = (all_far_short q n).words_are in
    let s1 = sum_by-append item_words (point_code p) (page_code p ++ (top_test p ++ either_far_bytes q n)) in
    let s2 = sum_by-append item_words (page_code p) (top_test p ++ either_far_bytes q n) in
    let s3 = sum_by-append item_words (top_test p) (either_far_bytes q n) in
    let s4 = sum_by-append item_words (over (w + 1)) middle in
    let s5 = sum_by-append item_words (data_bytes q n) last in
    let s6 = sum_by-append item_words (over w) (far_bytes q n) in
    let o1 : code_words (over (w + 1)) ≡ 1 = refl in
    let o2 : code_words (over w) ≡ 1 = refl in
    omega (arith, s1, s2, s3, s4, s5, s6, a, g, b, c, d, o1, o2)

pub far_pointers_are_straight : FarPointersAreStraight
far_pointers_are_straight o k p q n = (
  (address_short o k q).straight,
  (field_short q k).straight,
  (load_far_short p q n).straight,
  (load_table_short o k q n).straight,
)

pub far_pointers_take : FarPointersTake
far_pointers_take o k p q n =
    let h = load_far_short p q n in
    let least = h.at_least in
    let most = h.steps_are in (
      takes (far_address_code o k q) _ _ _ (address_short o k q),
      takes (field_far_code q k) _ _ _ (field_short q k),
      (omega (arith, least), omega (arith, most)),
      takes (load_far_table_code o k q n) _ _ _ (load_table_short o k q n),
    )

pub far_pointers_have : FarPointersHave
far_pointers_have o k p q n =
    let h = load_far_short p q n in
    let words = h.words_are in (
      (address_short o k q).words_are,
      (field_short q k).words_are,
      omega (arith, words),
      (load_table_short o k q n).words_are,
      any_words p q n,
    )

-- ---- where code ends

pub far_has_words : (q : Location) (n : ℕ) → code_words (far_bytes q n) ≡ bytes_words q n
far_has_words (InRegisters r) n = chain_words (far_byte (InRegisters r)) n 1 (λ i. refl)
far_has_words (InMemory o k) n = chain_words (far_byte (InMemory o k)) n 3 (λ i. refl)

-- all bytes in memory are those of the place
byte_far : (e : Env) (q : Location) (i n b : ℕ) → StandsFrom e q n b Own → i < n → all_far e (far_byte q i) ≡ true
byte_far e (InRegisters r) i n b st l = refl
byte_far e (InMemory o k) i n b st l = rw (own_far e o k i n b st l) refl

pub far_far : (e : Env) (q : Location) (n b : ℕ) → StandsFrom e q n b Own → all_far e (far_bytes q n) ≡ true
far_far e q n b st = chain_far e (far_byte q) n (λ i l. byte_far e q i n b st l)

-- ---- a test that each piece of the code passes

record Pass (t : AsmItem → Bool) (p q : Location) (n : ℕ) : Type 0 where
  point : list_all t (point_code p) ≡ true
  page : list_all t (page_code p) ≡ true
  from_data : (i : ℕ) → i < n → list_all t (data_byte q i) ≡ true
  from_flash : (i : ℕ) → i < n → list_all t (far_byte q i) ≡ true
  test : list_all t (top_test p) ≡ true
  far : list_all t (over (bytes_words q n + 1)) ≡ true
  near : list_all t (over (bytes_words q n)) ≡ true

module _ (t : AsmItem → Bool) (p q : Location) (n : ℕ) (h : Pass t p q n) where
  load_far_passes : list_all t (load_far_code p q n) ≡ true
  load_far_passes =
      both t (point_code p) (page_code p ++ far_bytes q n) h.point
      (both t (page_code p) (far_bytes q n) h.page (all_pass t (far_byte q) n h.from_flash))

  load_any_passes : list_all t (load_any_far_code p q n) ≡ true
  load_any_passes =
      let w = bytes_words q n in
      let last = both t (over w) (far_bytes q n) h.near (all_pass t (far_byte q) n h.from_flash) in
      let middle = both t (data_bytes q n) (over w ++ far_bytes q n) (all_pass t (data_byte q) n h.from_data) last in
      let either = both t (over (w + 1)) (data_bytes q n ++ (over w ++ far_bytes q n)) h.far middle in
      both t (point_code p) (page_code p ++ (top_test p ++ either_far_bytes q n)) h.point
      (both t (page_code p) (top_test p ++ either_far_bytes q n) h.page (both t (top_test p) (either_far_bytes q n) h.test either))

address_passes : (t : AsmItem → Bool) (o k : ℕ) (q : Location) → ((i : ℕ) → i < 3 → list_all t (part_byte o k q i) ≡ true)
    → list_all t (far_address_code o k q) ≡ true
address_passes t o k q h =
    both t (part_byte o k q 0) (part_byte o k q 1 ++ part_byte o k q 2) (h 0 (omega arith))
    (both t (part_byte o k q 1) (part_byte o k q 2) (h 1 (omega arith)) (h 2 (omega arith)))

field_passes : (t : AsmItem → Bool) (q : Location) (offset : ℕ)
    → ((i x : ℕ) → i < 3 → x < 256 → list_all t (subtract_byte x q i) ≡ true)
    → list_all t (field_far_code q offset) ≡ true
field_passes t q offset h = by_size (offset % 16777216 == 0) refl
  where
    k : ℕ
    k = far_rest_of offset

    by_size : (b : Bool) → (offset % 16777216 == 0) ≡ b
        → list_all t (if b then []
        else subtract_byte (k % 256) q 0 ++ (subtract_byte (k / 256 % 256) q 1 ++ subtract_byte (k / 65536) q 2)) ≡ true
    by_size true e = refl
    by_size false e =
        let z = eqb-false (offset % 16777216) 0 e in
        both t (subtract_byte (k % 256) q 0) (subtract_byte (k / 256 % 256) q 1 ++ subtract_byte (k / 65536) q 2)
        (h 0 (k % 256) (omega arith) (omega arith))
        (both t (subtract_byte (k / 256 % 256) q 1) (subtract_byte (k / 65536) q 2) (h 1 (k / 256 % 256) (omega arith) (omega arith))
        (h 2 (k / 65536) (omega arith) (omega (arith, z))))

-- ---- fields

module _ (sizes : Sizes) where
  abbrev valid : AsmItem → Bool
  valid = is_valid_item sizes

  page_valid : (p : Location) → HasPlaces sizes p 3 → list_all valid (page_code p) ≡ true
  page_valid (InRegisters r) h = rw (lt-ltb (r + 2) 32 (omega arith)) refl
  page_valid (InMemory o k) h = rw (h 2 (omega arith)) refl

  test_valid : (p : Location) → HasPlaces sizes p 3 → list_all valid (top_test p) ≡ true
  test_valid (InRegisters r) h = rw (lt-ltb (r + 2) 32 (omega arith)) refl
  test_valid (InMemory o k) h = refl

  far_valid : (q : Location) (n i : ℕ) → HasPlaces sizes q n → i < n → list_all valid (far_byte q i) ≡ true
  far_valid (InRegisters r) n i h l =
      rw (lt-ltb (r + i) 32 (omega arith), ne_eqb (r + i) 30 (omega arith), ne_eqb (r + i) 31 (omega arith)) refl
  far_valid (InMemory o k) n i h l = rw (h i l) refl

  third_valid : (o k : ℕ) (q : Location) → HasPlaces sizes q 3 → is_offset sizes o k ≡ true
      → list_all valid (part_byte o k q 2) ≡ true
  third_valid o k (InRegisters r) h s =
      by_test valid (nat_le 16 (r + 2)) _ _ (λ e. rw (e, lt-ltb (r + 2) 32 (omega arith), s) refl) (rw (lt-ltb (r + 2) 32 (omega arith), s) refl)
  third_valid o k (InMemory p j) h s = rw (s, h 2 (omega arith)) refl

  first_two : (p : Location) → HasPlaces sizes p 3 → HasPlaces sizes p 2
  first_two (InRegisters r) h = omega (arith, h)
  first_two (InMemory o k) h = λ i l. h i (omega (arith, l))

  parts_valid : (o k : ℕ) (q : Location) → HasPlaces sizes q 3 → is_offset sizes o k ≡ true
      → (i : ℕ) → i < 3 → list_all valid (part_byte o k q i) ≡ true
  parts_valid o k q h s zero l = part_valid sizes o k q 3 0 h (omega arith) (omega arith) s
  parts_valid o k q h s (suc zero) l = part_valid sizes o k q 3 1 h (omega arith) (omega arith) s
  parts_valid o k q h s (suc (suc zero)) l = third_valid o k q h s
  parts_valid o k q h s (suc (suc (suc i))) l = absurd (omega (arith, l))

pub far_addresses_are_valid : FarAddressesAreValid
far_addresses_are_valid sizes o k q h s =
    let t = is_valid_item sizes in (
      address_passes t o k q (parts_valid sizes o k q h s),
      field_passes t q k (λ i x l m. subtract_valid sizes q 3 i x h l m),
    )

pub far_tables_are_valid : FarTablesAreValid
far_tables_are_valid sizes o k q n h s =
    let t = is_valid_item sizes in
    both t (parts o k) (far_bytes q n) (rw s refl) (all_pass t (far_byte q) n (λ i l. far_valid sizes q n i h l))

pub far_accesses_are_valid : FarAccessesAreValid
far_accesses_are_valid sizes p q n m a b =
    let t = is_valid_item sizes in
    let w = few_words sizes q n m in
    let h : Pass t p q n = record {
      point = point_valid sizes p (first_two sizes p a);
      page = page_valid sizes p a;
      from_data = λ i l. data_valid sizes q n i m b l;
      from_flash = λ i l. far_valid sizes q n i b l;
      test = test_valid sizes p a;
      far = over_valid sizes (bytes_words q n + 1) (omega (arith, w));
      near = over_valid sizes (bytes_words q n) (omega (arith, w));
    } in
    (load_far_passes t p q n h, load_any_passes t p q n h)

-- ---- labels

page_plain : (p : Location) → list_all is_plain (page_code p) ≡ true
page_plain (InRegisters r) = refl
page_plain (InMemory o k) = refl

test_plain : (p : Location) → list_all is_plain (top_test p) ≡ true
test_plain (InRegisters r) = refl
test_plain (InMemory o k) = refl

far_plain : (q : Location) (i : ℕ) → list_all is_plain (far_byte q i) ≡ true
far_plain (InRegisters r) i = refl
far_plain (InMemory o k) i = refl

all_plain : (p q : Location) (n : ℕ) → Pass is_plain p q n
all_plain p q n = record {
  point = point_plain p;
  page = page_plain p;
  from_data = λ i l. data_plain q i;
  from_flash = λ i l. far_plain q i;
  test = test_plain p;
  far = refl;
  near = refl;
}

pub far_pointers_have_no_label : FarPointersHaveNoLabel
far_pointers_have_no_label o k p q n =
    let h = all_plain p q n in (
      has_no_label (far_address_code o k q) (address_passes is_plain o k q (λ i l. part_plain o k q i)),
      has_no_label (field_far_code q k) (field_passes is_plain q k (λ i x l m. subtract_plain x q i)),
      has_no_label (load_far_code p q n) (load_far_passes is_plain p q n h),
      has_no_label (load_far_table_code o k q n) (all_pass is_plain (far_byte q) n (λ i l. far_plain q i)),
      has_no_label (load_any_far_code p q n) (load_any_passes is_plain p q n h),
    )
