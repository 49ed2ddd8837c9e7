-- Operators with a known number: their items, and their words.
use Rattle.std.proofs.Common.{◌≡◌, ℕ, zero, suc, ◌+◌, ◌-◌, ◌*◌, ◌/◌, ◌%◌, ◌<◌, ◌≤◌, Bool, true, false, not, [], ◌∷◌, ◌++◌}
use Rattle.std.proofs.Common.{refl, subst, ℤ, Option, Some, None}
use Rattle.std.proofs.Common.{arith}
use Rattle.std.specs.Prelude.{nat_le, nat_lt, if◌then◌else◌, ◌==◌, ◌&&◌}
use Rattle.std.proofs.lemmas.Bool.{lt-ltb, and_parts}
use Rattle.std.proofs.lemmas.Bool.Decides.{nat_tests}
use Rattle.ec_isa.specs.declared.instructions.Instr.TheVariants.{Cpi, Ldi, Mov}
use Rattle.ec_isa.specs.Table.{in_table}
use Rattle.ec_asm.specs.declared.items.AsmItem.TheVariants.{Plain}
use Rattle.ec_asm.specs.declared.pieces.Location.{Location}
use Rattle.ec_asm.specs.declared.pieces.Location.TheVariants.{InRegisters, InMemory}
use Rattle.ec_asm.specs.declared.pieces.Operator.{Operator}
use Rattle.ec_asm.specs.declared.pieces.Operator.TheVariants.{Sum, Difference, BitAnd, BitOr, BitXor}
use Rattle.ec_asm.specs.Items.{code_words}
use Rattle.ec_asm.specs.Pieces.{compares}
use Rattle.ec_asm.specs.Valid.{Sizes, is_offset}
use Rattle.ec_select_bytes.specs.Values.{byte_of, constant_code}
use Rattle.ec_ir.specs.Temporaries.{low_bytes}
use Rattle.ec_select_bytes.specs.Laws.{ValuesHave}
use Rattle.ec_select_numbers.specs.declared.operators.ByNumber.{ByNumber}
use Rattle.ec_select_numbers.specs.declared.operators.ByNumber.TheVariants.{Subtract, Mask, Set}
use Rattle.ec_select_numbers.specs.ByNumber.{is_low_pair, put_pair_code, put_code, immediate, is_neutral, immediate_byte}
use Rattle.ec_select_numbers.specs.ByNumber.{changed_byte, each_changed, changed_pair, rest_changed, changes_pair, changed_code, negated}
use Rattle.ec_select_numbers.specs.ByNumber.{compared_byte, compared_code as compared_with_code}
use Rattle.ec_select_numbers.specs.Laws.{NumbersAreStraight}
use Rattle.ec_select_operations.specs.Code.{changed_by_code, same_location, masked_at, masked_code, truth_register}
use Rattle.ec_select_functions.proofs.Joins.{several_there}
use Rattle.ec_select_operations.specs.Stores.{is_repeated, work_stored, number_byte_code, store_object_code}
use Rattle.ec_select.proofs.Fitting.{fits, Fit, chained, ByteFits, BytesFit, reg, joined}
use Rattle.ec_select.proofs.Pieces.{compares_fits, constant_fits, test_fits, truth_in_fits, copy_fits}
use Rattle.ec_select.proofs.Words.{chained_words, copy_words_most}
use Rattle.ec_select_order.specs.Relations.{truth_in_code}
use Rattle.ec_select_operations.specs.declared.bounds.Bound.{Bound}
use Rattle.ec_select_operations.specs.Bounds.{is_equality, bounded_code, truth_by_code}
use Rattle.ec_select_operations.specs.Tests.{join_there, joined_there_code, number_test}

module _ (sizes : Sizes) where
  -- an immediate fits a register of R16 and above
  immediate_fits : (op : ByNumber) (i d k : ℕ) → nat_le 16 d ≡ true → d < 32 → k < 256 → in_table (immediate op i d k) ≡ true
  immediate_fits Subtract zero d k h x b = rw (h, reg d x, lt-ltb k 256 b) refl
  immediate_fits Subtract (suc i) d k h x b = rw (h, reg d x, lt-ltb k 256 b) refl
  immediate_fits Mask i d k h x b = rw (h, reg d x, lt-ltb k 256 b) refl
  immediate_fits Set i d k h x b = rw (h, reg d x, lt-ltb k 256 b) refl

  byte_fits : (op : ByNumber) (p : Location) (k i : ℕ) → k < 256 → ByteFits sizes p i
      → Fit sizes (immediate_byte (immediate op i) p k i)
  byte_fits op (InMemory o j) k i b x = let a = immediate_fits op i 30 k refl (omega arith) b in rw (x, a) refl
  byte_fits op (InRegisters r) k i b x = by_register (nat_le 16 (r + i)) refl where
    by_register : (high : Bool) → nat_le 16 (r + i) ≡ high
        → Fit sizes (if high then Plain (immediate op i (r + i) k) ∷ []
        else Plain (Mov 30 (r + i)) ∷ Plain (immediate op i 30 k) ∷ Plain (Mov (r + i) 30) ∷ [])
    by_register true q = let a = immediate_fits op i (r + i) k q x b in rw a refl
    by_register false q = let a = immediate_fits op i 30 k refl (omega arith) b in rw (reg (r + i) x, a) refl

  changed_byte_fits : (op : ByNumber) (p : Location) (k i : ℕ) → k < 256 → ByteFits sizes p i → Fit sizes (changed_byte op p k i)
  changed_byte_fits op p k i b x = by_test (is_neutral op k) where
    by_test : (none : Bool) → Fit sizes (if none then [] else immediate_byte (immediate op i) p k i)
    by_test true = refl
    by_test false = byte_fits op p k i b x

  -- two bytes below R16 are changed in R30 and R31
  low_parts : (r n : ℕ) → is_low_pair r n ≡ true → ((r % 2 == 0) ≡ true) × (2 ≤ n)
  low_parts r n q =
      let t = and_parts (r % 2 == 0) (nat_le 2 n) (and_parts (nat_lt r 16) (r % 2 == 0 && nat_le 2 n) q).1 in
      let y = t.1 in
      (t.0, grind (arith, nat_tests, y))

  pair_fits : (op : ByNumber) (r number n : ℕ) → is_low_pair r n ≡ true → BytesFit sizes (InRegisters r) n
      → Fit sizes (changed_pair op r number)
  pair_fits op r number n low x =
      let h = low_parts r n low in
      let first = x 0 (omega (arith, h.1)) in
      let a = immediate_fits op 0 30 (byte_of number 0) refl (omega arith) (omega arith) in
      let b = immediate_fits op 1 31 (byte_of number 1) refl (omega arith) (omega arith) in
      rw (reg r (omega (arith, first)), h.0, a, b) refl

  each_fits : (op : ByNumber) (p : Location) (number n : ℕ) → BytesFit sizes p n → Fit sizes (each_changed op p number n)
  each_fits op p number n x =
      chained (fits sizes) (λ i. changed_byte op p (byte_of number i) i) n
      (λ i l. changed_byte_fits op p (byte_of number i) i (omega arith) (x i l))

  rest_fits : (op : ByNumber) (r number n : ℕ) → 2 ≤ n → BytesFit sizes (InRegisters r) n
      → Fit sizes (rest_changed op r number (n - 2))
  rest_fits op r number n two x =
      chained (fits sizes) (λ i. changed_byte op (InRegisters r) (byte_of number (2 + i)) (2 + i)) (n - 2)
      (λ i l. changed_byte_fits op (InRegisters r) (byte_of number (2 + i)) (2 + i) (omega arith) (x (2 + i) (omega (arith, l, two))))

  changed_fits : (op : ByNumber) (p : Location) (number n : ℕ) → BytesFit sizes p n → Fit sizes (changed_code op p number n)
  changed_fits op (InMemory o k) number n x = each_fits op (InMemory o k) number n x
  changed_fits op (InRegisters r) number n x = by_pair (changes_pair op r number n) refl where
    by_pair : (b : Bool) → changes_pair op r number n ≡ b
        → Fit sizes (if b then changed_pair op r number ++ rest_changed op r number (n - 2) else each_changed op (InRegisters r) number n)
    by_pair false q = each_fits op (InRegisters r) number n x
    by_pair true q =
        let low = (and_parts (is_low_pair r n) (not (is_neutral op (byte_of number 0)) && not (is_neutral op (byte_of number 1))) q).0 in
        joined (fits sizes) (changed_pair op r number) (rest_changed op r number (n - 2)) (pair_fits op r number n low x)
        (rest_fits op r number n (low_parts r n low).1 x)

  -- a number that is stored by R30
  number_byte_fits : (p : Location) (number i : ℕ) → ByteFits sizes p i → Fit sizes (number_byte_code p number i)
  number_byte_fits p number i x = by_repeat p (is_repeated number i) x
    where
      by_repeat : (p : Location) (b : Bool) → ByteFits sizes p i
          → Fit sizes (if b then work_stored p i ∷ [] else Plain (Ldi 30 (byte_of number i)) ∷ work_stored p i ∷ [])
      by_repeat (InRegisters r) true x = rw (reg (r + i) x) refl
      by_repeat (InRegisters r) false x = rw (reg (r + i) x, lt-ltb (byte_of number i) 256 (omega arith)) refl
      by_repeat (InMemory o k) true x = rw x refl
      by_repeat (InMemory o k) false x = rw (lt-ltb (byte_of number i) 256 (omega arith), x) refl

  pub store_object_fits : (number : Option ℤ) (p q : Location) (n : ℕ) → BytesFit sizes p n → BytesFit sizes q n
      → Fit sizes (store_object_code number p q n)
  store_object_fits None p q n x z = copy_fits sizes p q n x z
  store_object_fits (Some k) p q n x z =
      chained (fits sizes) (λ i. number_byte_code q (low_bytes 16 k) i) n (λ i l. number_byte_fits q (low_bytes 16 k) i (z i l))

  -- a number that is put to a place
  put_pair_fits : (r number n : ℕ) → is_low_pair r n ≡ true → BytesFit sizes (InRegisters r) n → Fit sizes (put_pair_code r number)
  put_pair_fits r number n low x =
      let h = low_parts r n low in
      let first = x 0 (omega (arith, h.1)) in
      rw (reg r (omega (arith, first)), h.0, lt-ltb (byte_of number 0) 256 (omega arith), lt-ltb (byte_of number 1) 256 (omega arith)) refl

  pub put_fits : (p : Location) (number n : ℕ) → BytesFit sizes p n → Fit sizes (put_code p number n)
  put_fits (InMemory o k) number n x = constant_fits sizes (InMemory o k) number n x
  put_fits (InRegisters r) number n x = by_pair (is_low_pair r n) refl where
    rest : Location
    rest = InRegisters (r + 2)

    rest_fit : 2 ≤ n → BytesFit sizes rest (n - 2)
    rest_fit two i l = let y = x (2 + i) (omega (arith, l, two)) in omega (arith, y)

    by_pair : (b : Bool) → is_low_pair r n ≡ b
        → Fit sizes (if b then put_pair_code r number ++ constant_code rest (number / 65536) (n - 2)
        else constant_code (InRegisters r) number n)
    by_pair false q = constant_fits sizes (InRegisters r) number n x
    by_pair true q =
        joined (fits sizes) (put_pair_code r number) (constant_code rest (number / 65536) (n - 2)) (put_pair_fits r number n q x)
        (constant_fits sizes rest (number / 65536) (n - 2) (rest_fit (low_parts r n q).1))

  pub changed_by_fits : (op : Operator) (p : Location) (number n : ℕ) → BytesFit sizes p n
      → Fit sizes (changed_by_code op p number n)
  changed_by_fits Sum p number n x = changed_fits Subtract p (negated number) n x
  changed_by_fits Difference p number n x = changed_fits Subtract p number n x
  changed_by_fits BitAnd p number n x = changed_fits Mask p number n x
  changed_by_fits BitOr p number n x = changed_fits Set p number n x
  changed_by_fits BitXor p number n x = refl

  compared_byte_fits : (p : Location) (k i : ℕ) → k < 256 → ByteFits sizes p i → Fit sizes (compared_byte p k i)
  compared_byte_fits (InMemory o j) k i b x = rw (x, lt-ltb k 256 b, compares_fits sizes i 0 30 (omega arith) (omega arith)) refl
  compared_byte_fits (InRegisters r) k (suc i) b x = rw (lt-ltb k 256 b, compares_fits sizes (suc i) (r + suc i) 30 x (omega arith)) refl
  compared_byte_fits (InRegisters r) k zero b x = by_register (nat_le 16 r) refl where
    here : r < 32
    here = omega (arith, x)

    by_register : (high : Bool) → nat_le 16 r ≡ high
        → Fit sizes (if high then Plain (Cpi r k) ∷ [] else Plain (Ldi 30 k) ∷ Plain (compares zero (r + zero) 30) ∷ [])
    by_register true q = rw (q, reg r here, lt-ltb k 256 b) refl
    by_register false q = rw (lt-ltb k 256 b, compares_fits sizes zero (r + zero) 30 x (omega arith)) refl

  pub compared_with_fits : (p : Location) (number n : ℕ) → BytesFit sizes p n → Fit sizes (compared_with_code p number n)
  compared_with_fits p number n x =
      chained (fits sizes) (λ i. compared_byte p (byte_of number i) i) n
      (λ i l. compared_byte_fits p (byte_of number i) i (omega arith) (x i l))

  -- a byte and a number
  pub masked_fits : (p q : Location) (k : ℕ) → k < 256 → BytesFit sizes p 1 → Fit sizes (masked_code p q k)
  masked_fits (InRegisters r) q k b x = by_place (nat_le 16 r) refl (same_location (InRegisters r) q) where
    here : r < 32
    here = let first = x 0 (omega arith) in omega (arith, first)

    by_place : (high : Bool) → nat_le 16 r ≡ high → (same : Bool) → Fit sizes (masked_at (high && same) r k)
    by_place true s true = rw (s, reg r here, lt-ltb k 256 b) refl
    by_place true s false = rw (reg r here, lt-ltb k 256 b) refl
    by_place false s same = rw (reg r here, lt-ltb k 256 b) refl
  masked_fits (InMemory o j) q k b x =
      let begin : j + 0 ≡ j = omega arith in
      let first = subst (λ (i : ℕ). is_offset sizes o i ≡ true) begin (x 0 (omega arith)) in
      rw (first, lt-ltb k 256 b) refl

  -- a relation to a number, and its truth value
  join_there_fits : (r i : ℕ) → ByteFits sizes (InRegisters r) 0 → ByteFits sizes (InRegisters r) (1 + i) → Fit sizes (join_there r i)
  join_there_fits r i x z =
      let begin : r + 0 ≡ r = omega arith in
      let here : r < 32 = subst (λ (j : ℕ). j < 32) begin x in
      rw (reg r here, reg (r + (1 + i)) z) refl

  pub number_test_fits : (is_free : Bool) (p : Location) (n : ℕ) → BytesFit sizes p n → Fit sizes (number_test is_free p n)
  number_test_fits false p n x = test_fits sizes p n x
  number_test_fits true (InMemory o k) n x = test_fits sizes (InMemory o k) n x
  number_test_fits true (InRegisters r) zero x = test_fits sizes (InRegisters r) zero x
  number_test_fits true (InRegisters r) (suc zero) x = test_fits sizes (InRegisters r) (suc zero) x
  number_test_fits true (InRegisters r) (suc (suc n)) x =
      rw (several_there r n)
      (chained (fits sizes) (join_there r) (suc n) (λ i l. join_there_fits r i (x 0 (omega arith)) (x (1 + i) (omega (arith, l)))))

  pub bounded_fits : (is_free : Bool) (b : Bound) (p : Location) (n : ℕ) → BytesFit sizes p n → Fit sizes (bounded_code is_free b p n)
  bounded_fits is_free b p n x = by_test (b.number == 0 && is_equality b.relation) where
    by_test : (t : Bool) → Fit sizes (if t then number_test is_free p n else compared_with_code p b.number n)
    by_test true = number_test_fits is_free p n x
    by_test false = compared_with_fits p b.number n x

  pub truth_by_fits : (to : Location) (b : Bound) (p : Location) (n : ℕ) → BytesFit sizes p n → ByteFits sizes to 0
      → Fit sizes (truth_by_code (truth_register to) b p n)
  truth_by_fits to b p n x z =
      joined (fits sizes) (bounded_code false b p n) (truth_in_code (truth_register to) b.relation b.signed) (bounded_fits false b p n x)
      (truth_in_fits sizes to b.relation b.signed z)

-- ---- words

pub masked_words : (p q : Location) (k : ℕ) → code_words (masked_code p q k) ≤ 3
masked_words (InRegisters r) q k = by_place (nat_le 16 r && same_location (InRegisters r) q) where
  by_place : (here : Bool) → code_words (masked_at here r k) ≤ 3
  by_place true = omega arith
  by_place false = omega arith
masked_words (InMemory o j) q k = omega arith

pub changed_by_words : NumbersAreStraight → (op : Operator) (p : Location) (number n : ℕ)
    → code_words (changed_by_code op p number n) ≤ 5 * n
changed_by_words laws Sum p number n = (laws Subtract p (negated number) n).0.few_words
changed_by_words laws Difference p number n = (laws Subtract p number n).0.few_words
changed_by_words laws BitAnd p number n = (laws Mask p number n).0.few_words
changed_by_words laws BitOr p number n = (laws Set p number n).0.few_words
changed_by_words laws BitXor p number n = omega arith

pub compared_with_words : NumbersAreStraight → (p : Location) (number n : ℕ) → code_words (compared_with_code p number n) ≤ 4 * n
compared_with_words laws p number n = (laws Subtract p number n).1.few_words

join_there_words : (r n : ℕ) → code_words (joined_there_code r n) ≤ n
join_there_words r n = let few = chained_words (join_there r) n 1 (λ i. omega arith) in omega (arith, few)

pub number_test_words : ValuesHave → (is_free : Bool) (p : Location) (n : ℕ) → code_words (number_test is_free p n) ≤ 1 + 3 * n
number_test_words values false p n = (values p 0 0 n).1
number_test_words values true (InMemory o k) n = (values (InMemory o k) 0 0 n).1
number_test_words values true (InRegisters r) zero = (values (InRegisters r) 0 0 0).1
number_test_words values true (InRegisters r) (suc zero) = (values (InRegisters r) 0 0 1).1
number_test_words values true (InRegisters r) (suc (suc n)) =
    let few = join_there_words r (suc n) in rw (several_there r n) (omega (arith, few))

some_test_words : ValuesHave → (is_free : Bool) (p : Location) (n : ℕ) → code_words (number_test is_free p n) ≤ 4 * n
some_test_words values false p zero = omega arith
some_test_words values true (InMemory o k) zero = omega arith
some_test_words values true (InRegisters r) zero = omega arith
some_test_words values is_free p (suc n) = let few = number_test_words values is_free p (suc n) in omega (arith, few)

pub bounded_words : NumbersAreStraight → ValuesHave → (is_free : Bool) (b : Bound) (p : Location) (n : ℕ)
    → code_words (bounded_code is_free b p n) ≤ 4 * n
bounded_words laws values is_free b p n = by_test (b.number == 0 && is_equality b.relation)
  where
    by_test : (t : Bool) → code_words (if t then number_test is_free p n else compared_with_code p b.number n) ≤ 4 * n
    by_test true = some_test_words values is_free p n
    by_test false = compared_with_words laws p b.number n

-- ---- the words of a store to an object

number_byte_words : (p : Location) (number i : ℕ) → code_words (number_byte_code p number i) ≤ 4
number_byte_words p number i = by_repeat p (is_repeated number i)
  where
    by_repeat : (p : Location) (b : Bool)
        → code_words (if b then work_stored p i ∷ [] else Plain (Ldi 30 (byte_of number i)) ∷ work_stored p i ∷ []) ≤ 4
    by_repeat (InRegisters r) true = omega arith
    by_repeat (InRegisters r) false = omega arith
    by_repeat (InMemory o k) true = omega arith
    by_repeat (InMemory o k) false = omega arith

pub store_object_words : (number : Option ℤ) (p q : Location) (n : ℕ) → code_words (store_object_code number p q n) ≤ 4 * n
store_object_words None p q n = copy_words_most p q n
store_object_words (Some k) p q n =
    chained_words (λ i. number_byte_code q (low_bytes 16 k) i) n 4 (number_byte_words q (low_bytes 16 k))
