-- The form of the code: straight code, and its steps and words.
use Rattle.std.proofs.Common.{◌≡◌, ℕ, zero, suc, ◌+◌, ◌-◌, ◌*◌, ◌/◌, ◌%◌, ◌<◌, ◌≤◌, ◌==◌, Bool, true, false, List, []}
use Rattle.std.proofs.Common.{◌∷◌, ◌++◌, Option, Some, None, refl, arith}
use Rattle.std.specs.Prelude.{nat_le, if◌then◌else◌}
use Rattle.std.proofs.lemmas.List.Sums.{sum_by-append}
use Rattle.ec_isa.specs.declared.instructions.Instr.TheVariants.{Ldi, Mov, Movw}
use Rattle.ec_asm.specs.declared.items.AsmItem.{AsmItem}
use Rattle.ec_asm.specs.declared.items.AsmItem.TheVariants.{Plain, LoadPart}
use Rattle.ec_asm.specs.declared.pieces.Location.{Location}
use Rattle.ec_asm.specs.declared.pieces.Location.TheVariants.{InRegisters, InMemory}
use Rattle.ec_asm.specs.Change.{Env, Own}
use Rattle.ec_asm.specs.Items.{all_straight, code_steps, code_words, item_words, chain}
use Rattle.ec_asm.specs.Pieces.{StandsFrom, copy_code}
use Rattle.ec_asm.proofs.Hoare.{straight-append, steps-append}
use Rattle.ec_asm.proofs.ItemWords.{chain_words, all_far, chain_far, own_far}
use Rattle.ec_select_pointers.specs.Addresses.{is_low_pair, pointer_bytes, part_byte, parts_code, parts_pair, both_parts}
use Rattle.ec_select_pointers.specs.Addresses.{tag_code, address_code, rest_of, subtract_byte, subtract_each, subtract_pair}
use Rattle.ec_select_pointers.specs.Addresses.{subtract_both, field_code}
use Rattle.ec_select_pointers.specs.Accesses.{point_code, data_byte, data_bytes, flash_byte, flash_bytes, bytes_words}
use Rattle.ec_select_pointers.specs.Accesses.{tag_test, over, either_bytes, load_data_code, load_flash_code}
use Rattle.ec_select_pointers.specs.Accesses.{load_table_code, load_any_code, store_byte, store_bytes}
use Rattle.ec_select_pointers.specs.Accesses.{store_data_code}
use Rattle.ec_select_pointers.specs.Form.{Takes, PointersAreStraight, PointersTake, PointersHave, TablesAreShort}

-- ---- lists of items

-- code that is straight, with at least and at most so many steps, and at most so many words
pub record IsShort (code : List AsmItem) (least steps words : ℕ) : Type 0 where
  pub straight : all_straight code ≡ true
  pub at_least : least ≤ code_steps code
  pub steps_are : code_steps code ≤ steps
  pub words_are : code_words code ≤ words

pub joined : (a b : List AsmItem) (i j k m l n : ℕ) → IsShort a i k l → IsShort b j m n
    → IsShort (a ++ b) (i + j) (k + m) (l + n)
joined a b i j k m l n p q =
    let x = p.at_least in
    let y = q.at_least in
    let s = p.steps_are in
    let t = q.steps_are in
    let u = p.words_are in
    let w = q.words_are in
    record {
      straight = straight-append a b p.straight q.straight;
      at_least = omega (arith, steps-append a b, x, y);
      steps_are = omega (arith, steps-append a b, s, t);
      words_are = omega (arith, sum_by-append item_words a b, u, w);
    }

pub chained : (body : ℕ → List AsmItem) (n k l : ℕ) → ((i : ℕ) → IsShort (body i) 1 k l)
    → IsShort (chain body n) n (k * n) (l * n)
chained body zero k l h = record { straight = refl; at_least = omega arith; steps_are = omega arith; words_are = omega arith }
chained body (suc n) k l h =
    let j = joined (chain body n) (body n) n 1 (k * n) k (l * n) l (chained body n k l h) (h n) in
    let x = j.at_least in
    let s = j.steps_are in
    let w = j.words_are in
    record { straight = j.straight; at_least = omega (arith, x); steps_are = omega (arith, s); words_are = omega (arith, w) }

pub by_test : (b : Bool) (a c : List AsmItem) (j k l : ℕ) → IsShort a j k l → IsShort c j k l
    → IsShort (if b then a else c) j k l
by_test true a c j k l p q = p
by_test false a c j k l p q = q

-- ---- addresses

pub part_short : (o k : ℕ) (q : Location) (i : ℕ) → IsShort (part_byte o k q i) 1 2 3
part_short o k (InRegisters r) i =
    by_test (nat_le 16 (r + i)) (LoadPart (r + i) o k i ∷ []) (LoadPart 30 o k i ∷ Plain (Mov (r + i) 30) ∷ []) 1 2 3
    (record { straight = refl; at_least = omega arith; steps_are = omega arith; words_are = omega arith })
    (record { straight = refl; at_least = omega arith; steps_are = omega arith; words_are = omega arith })
part_short o k (InMemory p j) i = record { straight = refl; at_least = omega arith; steps_are = omega arith; words_are = omega arith }

tag_short : (tag : Option ℕ) (q : Location)
    → IsShort (tag_code tag q) (pointer_bytes tag - 2) (2 * (pointer_bytes tag - 2)) (3 * (pointer_bytes tag - 2))
tag_short None q = record { straight = refl; at_least = omega arith; steps_are = omega arith; words_are = omega arith }
tag_short (Some tag) (InRegisters r) =
    by_test (nat_le 16 (r + 2)) (Plain (Ldi (r + 2) tag) ∷ []) (Plain (Ldi 30 tag) ∷ Plain (Mov (r + 2) 30) ∷ []) 1 2 3
    (record { straight = refl; at_least = omega arith; steps_are = omega arith; words_are = omega arith })
    (record { straight = refl; at_least = omega arith; steps_are = omega arith; words_are = omega arith })
tag_short (Some tag) (InMemory o k) = record { straight = refl; at_least = omega arith; steps_are = omega arith; words_are = omega arith }

two_or_three : (tag : Option ℕ) → 2 ≤ pointer_bytes tag
two_or_three None = omega arith
two_or_three (Some tag) = omega arith

both_parts_short : (o k : ℕ) (q : Location) → IsShort (both_parts o k q) 2 4 6
both_parts_short o k (InMemory p j) =
    joined (part_byte o k (InMemory p j) 0) (part_byte o k (InMemory p j) 1) 1 1 2 2 3 3 (part_short o k (InMemory p j) 0)
    (part_short o k (InMemory p j) 1)
both_parts_short o k (InRegisters r) =
    by_test (is_low_pair r) (parts_pair o k r) (parts_code o k (InRegisters r)) 2 4 6
    (record { straight = refl; at_least = omega arith; steps_are = omega arith; words_are = omega arith })
    (joined (part_byte o k (InRegisters r) 0) (part_byte o k (InRegisters r) 1) 1 1 2 2 3 3 (part_short o k (InRegisters r) 0)
    (part_short o k (InRegisters r) 1))

address_short : (o k : ℕ) (tag : Option ℕ) (q : Location)
    → IsShort (address_code o k tag q) (pointer_bytes tag) (2 * pointer_bytes tag) (3 * pointer_bytes tag)
address_short o k tag q =
    let j = joined (both_parts o k q) (tag_code tag q) 2 _ 4 _ 6 _ (both_parts_short o k q) (tag_short tag q) in
    let m = two_or_three tag in
    let x = j.at_least in
    let s = j.steps_are in
    let w = j.words_are in
    record {
      straight = j.straight;
      at_least = omega (arith, x, m);
      steps_are = omega (arith, s, m);
      words_are = omega (arith, w, m);
    }

pub subtract_short : (k : ℕ) (q : Location) (i : ℕ) → IsShort (subtract_byte k q i) 0 3 5
subtract_short k (InRegisters r) zero =
    by_test (nat_le 16 (r + 0)) _ _ 0 3 5
    (record { straight = refl; at_least = omega arith; steps_are = omega arith; words_are = omega arith })
    (record { straight = refl; at_least = omega arith; steps_are = omega arith; words_are = omega arith })
subtract_short k (InRegisters r) (suc i) =
    by_test (nat_le 16 (r + suc i)) _ _ 0 3 5
    (record { straight = refl; at_least = omega arith; steps_are = omega arith; words_are = omega arith })
    (record { straight = refl; at_least = omega arith; steps_are = omega arith; words_are = omega arith })
subtract_short k (InMemory o j) zero =
    record { straight = refl; at_least = omega arith; steps_are = omega arith; words_are = omega arith }
subtract_short k (InMemory o j) (suc i) =
    record { straight = refl; at_least = omega arith; steps_are = omega arith; words_are = omega arith }

subtract_each_short : (k : ℕ) (q : Location) → IsShort (subtract_each k q) 0 6 10
subtract_each_short k q =
    joined (subtract_byte (k % 256) q 0) (subtract_byte (k / 256) q 1) 0 0 3 3 5 5 (subtract_short (k % 256) q 0)
    (subtract_short (k / 256) q 1)

subtract_both_short : (k : ℕ) (q : Location) → IsShort (subtract_both k q) 0 6 10
subtract_both_short k (InMemory o j) = subtract_each_short k (InMemory o j)
subtract_both_short k (InRegisters r) =
    by_test (is_low_pair r) (subtract_pair k r) (subtract_each k (InRegisters r)) 0 6 10
    (record { straight = refl; at_least = omega arith; steps_are = omega arith; words_are = omega arith })
    (subtract_each_short k (InRegisters r))

field_short : (q : Location) (offset : ℕ) → IsShort (field_code q offset) 0 6 10
field_short q offset =
    by_test (offset % 65536 == 0) [] (subtract_both (rest_of offset) q) 0 6 10
    (record { straight = refl; at_least = omega arith; steps_are = omega arith; words_are = omega arith })
    (subtract_both_short (rest_of offset) q)

-- ---- accesses

pub point_short : (p : Location) → IsShort (point_code p) 1 2 4
point_short (InRegisters r) =
    by_test (r % 2 == 0) (Plain (Movw 30 r) ∷ []) (copy_code (InRegisters r) (InRegisters 30) 2) 1 2 4
    (record { straight = refl; at_least = omega arith; steps_are = omega arith; words_are = omega arith })
    (record { straight = refl; at_least = omega arith; steps_are = omega arith; words_are = omega arith })
point_short (InMemory o k) = record { straight = refl; at_least = omega arith; steps_are = omega arith; words_are = omega arith }

data_short : (q : Location) (i : ℕ) → IsShort (data_byte q i) 1 2 3
data_short (InRegisters r) i = record { straight = refl; at_least = omega arith; steps_are = omega arith; words_are = omega arith }
data_short (InMemory o k) i = record { straight = refl; at_least = omega arith; steps_are = omega arith; words_are = omega arith }

flash_short : (q : Location) (i : ℕ) → IsShort (flash_byte q i) 1 2 3
flash_short (InRegisters r) i = record { straight = refl; at_least = omega arith; steps_are = omega arith; words_are = omega arith }
flash_short (InMemory o k) i = record { straight = refl; at_least = omega arith; steps_are = omega arith; words_are = omega arith }

store_short : (p : Location) (i : ℕ) → IsShort (store_byte p i) 1 2 3
store_short (InRegisters r) i = record { straight = refl; at_least = omega arith; steps_are = omega arith; words_are = omega arith }
store_short (InMemory o k) i = record { straight = refl; at_least = omega arith; steps_are = omega arith; words_are = omega arith }

pub all_data_short : (q : Location) (n : ℕ) → IsShort (data_bytes q n) n (2 * n) (3 * n)
all_data_short q n = chained (data_byte q) n 2 3 (data_short q)

pub all_flash_short : (q : Location) (n : ℕ) → IsShort (flash_bytes q n) n (2 * n) (3 * n)
all_flash_short q n = chained (flash_byte q) n 2 3 (flash_short q)

load_data_short : (p q : Location) (n : ℕ) → IsShort (load_data_code p q n) (1 + n) (2 + 2 * n) (4 + 3 * n)
load_data_short p q n =
    joined (point_code p) (data_bytes q n) 1 n 2 (2 * n) 4 (3 * n) (point_short p) (all_data_short q n)

load_flash_short : (p q : Location) (n : ℕ) → IsShort (load_flash_code p q n) (1 + n) (2 + 2 * n) (4 + 3 * n)
load_flash_short p q n =
    joined (point_code p) (flash_bytes q n) 1 n 2 (2 * n) 4 (3 * n) (point_short p) (all_flash_short q n)

store_data_short : (p q : Location) (n : ℕ) → IsShort (store_data_code p q n) (1 + n) (2 + 2 * n) (4 + 3 * n)
store_data_short p q n =
    joined (point_code q) (store_bytes p n) 1 n 2 (2 * n) 4 (3 * n) (point_short q)
    (chained (store_byte p) n 2 3 (store_short p))

-- ---- words

test_words : (p : Location) → code_words (tag_test p) ≤ 3
test_words (InRegisters r) = omega arith
test_words (InMemory o k) = omega arith

any_words : (p q : Location) (n : ℕ) → code_words (load_any_code p q n) ≤ 9 + 6 * n
any_words p q n =
    let w = bytes_words q n in
    let last = over w ++ flash_bytes q n in
    let middle = data_bytes q n ++ last in
    let a = (point_short p).words_are in
    let b = test_words p in
    let c = (all_data_short q n).words_are in
    let d = (all_flash_short q n).words_are in
    let s1 = sum_by-append item_words (point_code p) (tag_test p ++ either_bytes q n) in
    let s2 = sum_by-append item_words (tag_test p) (either_bytes q n) in
    let s3 = sum_by-append item_words (over (w + 1)) middle in
    let s4 = sum_by-append item_words (data_bytes q n) last in
    let s5 = sum_by-append item_words (over w) (flash_bytes q n) in
    let o1 : code_words (over (w + 1)) ≡ 1 = refl in
    let o2 : code_words (over w) ≡ 1 = refl in
    omega (arith, s1, s2, s3, s4, s5, a, b, c, d, o1, o2)

pub pointers_are_straight : PointersAreStraight
pointers_are_straight o k tag p q n = (
  (address_short o k tag q).straight,
  (field_short q k).straight,
  (load_data_short p q n).straight,
  (load_flash_short p q n).straight,
  (store_data_short p q n).straight,
)

pub takes : (code : List AsmItem) (least most words : ℕ) → IsShort code least most words → Takes least most code
takes code least most words h = (h.at_least, h.steps_are)

pub pointers_take : PointersTake
pointers_take o k tag p q n = (
  takes (address_code o k tag q) _ _ _ (address_short o k tag q),
  takes (field_code q k) _ _ _ (field_short q k),
  takes (load_data_code p q n) _ _ _ (load_data_short p q n),
  takes (load_flash_code p q n) _ _ _ (load_flash_short p q n),
  takes (store_data_code p q n) _ _ _ (store_data_short p q n),
)

pub pointers_have : PointersHave
pointers_have o k tag p q n = (
  (address_short o k tag q).words_are,
  (field_short q k).words_are,
  (load_data_short p q n).words_are,
  (load_flash_short p q n).words_are,
  any_words p q n,
  (store_data_short p q n).words_are,
)

pub tables_are_short : TablesAreShort
tables_are_short o k q n =
    let parts : IsShort (LoadPart 30 o k 0 ∷ LoadPart 31 o k 1 ∷ []) 2 2 2 =
    record { straight = refl; at_least = omega arith; steps_are = omega arith; words_are = omega arith } in
    let j = joined (LoadPart 30 o k 0 ∷ LoadPart 31 o k 1 ∷ []) (flash_bytes q n) 2 n 2 (2 * n) 2 (3 * n) parts (all_flash_short q n) in
    (j.straight, takes (load_table_code o k q n) _ _ _ j, j.words_are)

-- ---- where code ends

pub data_has_words : (q : Location) (n : ℕ) → code_words (data_bytes q n) ≡ bytes_words q n
data_has_words (InRegisters r) n = chain_words (data_byte (InRegisters r)) n 1 (λ i. refl)
data_has_words (InMemory o k) n = chain_words (data_byte (InMemory o k)) n 3 (λ i. refl)

pub flash_has_words : (q : Location) (n : ℕ) → code_words (flash_bytes q n) ≡ bytes_words q n
flash_has_words (InRegisters r) n = chain_words (flash_byte (InRegisters r)) n 1 (λ i. refl)
flash_has_words (InMemory o k) n = chain_words (flash_byte (InMemory o k)) n 3 (λ i. refl)

-- all bytes in memory are those of the place
data_byte_far : (e : Env) (q : Location) (i n b : ℕ) → StandsFrom e q n b Own → i < n → all_far e (data_byte q i) ≡ true
data_byte_far e (InRegisters r) i n b st l = refl
data_byte_far e (InMemory o k) i n b st l = rw (own_far e o k i n b st l) refl

flash_byte_far : (e : Env) (q : Location) (i n b : ℕ) → StandsFrom e q n b Own → i < n → all_far e (flash_byte q i) ≡ true
flash_byte_far e (InRegisters r) i n b st l = refl
flash_byte_far e (InMemory o k) i n b st l = rw (own_far e o k i n b st l) refl

pub data_far : (e : Env) (q : Location) (n b : ℕ) → StandsFrom e q n b Own → all_far e (data_bytes q n) ≡ true
data_far e q n b st = chain_far e (data_byte q) n (λ i l. data_byte_far e q i n b st l)

pub flash_far : (e : Env) (q : Location) (n b : ℕ) → StandsFrom e q n b Own → all_far e (flash_bytes q n) ≡ true
flash_far e q n b st = chain_far e (flash_byte q) n (λ i l. flash_byte_far e q i n b st l)
