-- The pieces of code fit.
use Rattle.std.proofs.Common.{◌≡◌, ℕ, zero, suc, ◌+◌, ◌-◌, ◌*◌, ◌/◌, ◌%◌, ◌<◌, ◌≤◌, Bool, true, false, []}
use Rattle.std.proofs.Common.{◌∷◌, refl, arith}
use Rattle.std.specs.Prelude.{◌==◌, ◌&&◌, nat_le, if◌then◌else◌}
use Rattle.std.proofs.lemmas.Bool.{lt-ltb, le-leb, eqb-true, eqb-false, and_parts}
use Rattle.ec_isa.specs.declared.instructions.Instr.{Instr}
use Rattle.ec_isa.specs.declared.instructions.Instr.TheVariants.{Eor, Add, Sbc, Mov, Ldi}
use Rattle.ec_isa.specs.Table.{in_table}
use Rattle.ec_asm.specs.declared.items.AsmItem.TheVariants.{Plain}
use Rattle.ec_asm.specs.declared.pieces.Location.{Location}
use Rattle.ec_asm.specs.declared.pieces.Location.TheVariants.{InRegisters, InMemory}
use Rattle.ec_asm.specs.declared.pieces.Operator.{Operator}
use Rattle.ec_asm.specs.declared.pieces.Operator.TheVariants.{Sum, Difference, BitAnd, BitOr, BitXor}
use Rattle.ec_asm.specs.Pieces.{copy_byte, copy_code, binary_byte, instruction, operate_byte, operate_code, compares}
use Rattle.ec_asm.specs.Pieces.{compare_byte, compare_code}
use Rattle.ec_asm.specs.Items.{chain}
use Rattle.ec_asm.specs.Valid.{Sizes}
use Rattle.ec_select_bytes.specs.Complements.{complement_byte, complement_code, carry_byte, carry_code, negation_code}
use Rattle.ec_select_bytes.specs.Values.{byte_of, constant_byte, constant_code, byte_test, first_byte, join_byte}
use Rattle.ec_select_bytes.specs.Values.{join_code, test_code, put_byte}
use Rattle.ec_select_bytes.proofs.Tests.{several}
use Rattle.ec_select_bytes.specs.Values.{take_byte, fill_code, puts_code, clear_byte, widen_code, extend_code}
use Rattle.ec_select_operations.specs.Code.{pair_code, odd_code, pairs_code, transfer_code, truth_register}
use Rattle.ec_select_order.specs.declared.relations.Relation.{Relation}
use Rattle.ec_select_order.specs.declared.relations.Relation.TheVariants.{Less, NotLess, Equal, NotEqual}
use Rattle.ec_select_order.specs.Relations.{truth_code, truth_in_code, relation_in_code}
use Rattle.ec_select.proofs.Fitting.{fits, Fit, joined, chained, ByteFits, BytesFit, fewer_fit}
use Rattle.ec_select.proofs.Fitting.{two_fit, reg}

module _ (sizes : Sizes) where
  -- ---- copies

  copy_byte_fits : (p q : Location) (i : ℕ) → ByteFits sizes p i → ByteFits sizes q i → Fit sizes (copy_byte p q i)
  copy_byte_fits (InRegisters a) (InRegisters b) i x y = rw (reg (b + i) y, reg (a + i) x) refl
  copy_byte_fits (InMemory o k) (InRegisters b) i x y = rw (reg (b + i) y, x) refl
  copy_byte_fits (InRegisters a) (InMemory o k) i x y = rw (reg (a + i) x, y) refl
  copy_byte_fits (InMemory o k) (InMemory p j) i x y = rw (x, y) refl

  pub copy_fits : (p q : Location) (n : ℕ) → BytesFit sizes p n → BytesFit sizes q n → Fit sizes (copy_code p q n)
  copy_fits p q n x y =
      chained (fits sizes) (copy_byte p q) n (λ i l. copy_byte_fits p q i (x i l) (y i l))

  -- ---- copies by pairs

  even_more : (a i : ℕ) → (a % 2 == 0) ≡ true → ((a + 2 * i) % 2 == 0) ≡ true
  even_more a i h = let e : (a + 2 * i) % 2 ≡ 0 = omega (arith, eqb-true (a % 2) 0 h) in rw e refl

  pair_fits : (a b n i : ℕ) → (a % 2 == 0) ≡ true → (b % 2 == 0) ≡ true → BytesFit sizes (InRegisters a) n
      → BytesFit sizes (InRegisters b) n → i < n / 2 → Fit sizes (pair_code a b i)
  pair_fits a b n i g h x y l =
      rw (reg (b + 2 * i) (y (2 * i) (omega arith)), reg (a + 2 * i) (x (2 * i) (omega arith)), even_more b i h, even_more a i g) refl

  pairs_fit : (a b n : ℕ) → (a % 2 == 0 && b % 2 == 0) ≡ true → BytesFit sizes (InRegisters a) n
      → BytesFit sizes (InRegisters b) n → Fit sizes (pairs_code a b n)
  pairs_fit a b n h x y =
      let even = and_parts (a % 2 == 0) (b % 2 == 0) h in
      joined (fits sizes) (chain (pair_code a b) (n / 2)) (odd_code a b n)
      (chained (fits sizes) (pair_code a b) (n / 2) (λ i l. pair_fits a b n i even.0 even.1 x y l)) (by_count (n % 2 == 0) refl)
    where
      by_count : (none : Bool) → (n % 2 == 0) ≡ none
          → Fit sizes (if none then [] else copy_byte (InRegisters a) (InRegisters b) (n / 2 * 2))
      by_count true q = refl
      by_count false q =
          let odd = eqb-false (n % 2) 0 q in
          copy_byte_fits (InRegisters a) (InRegisters b) (n / 2 * 2) (x (n / 2 * 2) (omega (arith, odd)))
          (y (n / 2 * 2) (omega (arith, odd)))

  pub transfer_fits : (p q : Location) (n : ℕ) → BytesFit sizes p n → BytesFit sizes q n → Fit sizes (transfer_code p q n)
  transfer_fits (InRegisters a) (InRegisters b) n x y = by_evenness (a % 2 == 0 && b % 2 == 0) refl
    where
      by_evenness : (even : Bool) → (a % 2 == 0 && b % 2 == 0) ≡ even
          → Fit sizes (if even then pairs_code a b n else copy_code (InRegisters a) (InRegisters b) n)
      by_evenness true h = pairs_fit a b n h x y
      by_evenness false h = copy_fits (InRegisters a) (InRegisters b) n x y
  transfer_fits (InRegisters a) (InMemory o k) n x y = copy_fits (InRegisters a) (InMemory o k) n x y
  transfer_fits (InMemory o k) (InRegisters b) n x y = copy_fits (InMemory o k) (InRegisters b) n x y
  transfer_fits (InMemory o k) (InMemory o' k') n x y = copy_fits (InMemory o k) (InMemory o' k') n x y

  -- ---- operators

  -- an instruction of two registers is one of the table
  abbrev IsOfRegisters : (ℕ → ℕ → Instr) → Type 0
  IsOfRegisters op = (d r : ℕ) → d < 32 → r < 32 → in_table (op d r) ≡ true

  pub instruction_fits : (op : Operator) (i : ℕ) → IsOfRegisters (instruction op i)
  instruction_fits Sum zero d r x y = two_fit d r x y
  instruction_fits Sum (suc i) d r x y = two_fit d r x y
  instruction_fits Difference zero d r x y = two_fit d r x y
  instruction_fits Difference (suc i) d r x y = two_fit d r x y
  instruction_fits BitAnd i d r x y = two_fit d r x y
  instruction_fits BitOr i d r x y = two_fit d r x y
  instruction_fits BitXor i d r x y = two_fit d r x y

  binary_byte_fits : (op : ℕ → ℕ → Instr) → IsOfRegisters op → (p q : Location) (i : ℕ) → ByteFits sizes p i
      → ByteFits sizes q i → Fit sizes (binary_byte op p q i)
  binary_byte_fits op h (InRegisters a) (InRegisters b) i x y = rw (h (b + i) (a + i) y x) refl
  binary_byte_fits op h (InMemory o k) (InRegisters b) i x y = rw (x, h (b + i) 0 y (omega arith)) refl
  binary_byte_fits op h (InRegisters a) (InMemory o k) i x y = rw (y, h 0 (a + i) (omega arith) x) refl
  binary_byte_fits op h (InMemory o k) (InMemory p j) i x y = rw (x, y, h 0 1 (omega arith) (omega arith)) refl

  pub operate_fits : (op : Operator) (p q : Location) (n : ℕ) → BytesFit sizes p n → BytesFit sizes q n
      → Fit sizes (operate_code op p q n)
  operate_fits op p q n x y =
      chained (fits sizes) (operate_byte op p q) n
      (λ i l. binary_byte_fits (instruction op i) (instruction_fits op i) p q i (x i l) (y i l))

  -- ---- comparisons

  pub compares_fits : (i : ℕ) → IsOfRegisters (compares i)
  compares_fits zero d r x y = two_fit d r x y
  compares_fits (suc i) d r x y = two_fit d r x y

  compare_byte_fits : (p q : Location) (i : ℕ) → ByteFits sizes p i → ByteFits sizes q i
      → Fit sizes (compare_byte p q i)
  compare_byte_fits (InRegisters a) (InRegisters b) i x y = rw (compares_fits i (b + i) (a + i) y x) refl
  compare_byte_fits (InMemory o k) (InRegisters b) i x y = rw (x, compares_fits i (b + i) 0 y (omega arith)) refl
  compare_byte_fits (InRegisters a) (InMemory o k) i x y = rw (y, compares_fits i 0 (a + i) (omega arith) x) refl
  compare_byte_fits (InMemory o k) (InMemory p j) i x y =
      rw (x, y, compares_fits i 0 1 (omega arith) (omega arith)) refl

  pub compare_fits : (p q : Location) (n : ℕ) → BytesFit sizes p n → BytesFit sizes q n
      → Fit sizes (compare_code p q n)
  compare_fits p q n x y = chained (fits sizes) (compare_byte p q) n (λ i l. compare_byte_fits p q i (x i l) (y i l))

  pub truth_fits : (r : Relation) (signed : Bool) → Fit sizes (truth_code r signed)
  truth_fits Less true = refl
  truth_fits Less false = refl
  truth_fits NotLess true = refl
  truth_fits NotLess false = refl
  truth_fits Equal signed = refl
  truth_fits NotEqual signed = refl

  -- in the register of a result
  loaded_fits : (d : ℕ) (r : Relation) (signed : Bool) → nat_le 16 d ≡ true → d < 32 → Fit sizes (truth_in_code d r signed)
  loaded_fits d Less true q l = rw (q, reg d l) refl
  loaded_fits d Less false q l = rw (q, reg d l) refl
  loaded_fits d NotLess true q l = rw (q, reg d l) refl
  loaded_fits d NotLess false q l = rw (q, reg d l) refl
  loaded_fits d Equal signed q l = rw (q, reg d l) refl
  loaded_fits d NotEqual signed q l = rw (q, reg d l) refl

  pub truth_in_fits : (to : Location) (r : Relation) (signed : Bool) → ByteFits sizes to 0
      → Fit sizes (truth_in_code (truth_register to) r signed)
  truth_in_fits (InRegisters d) r signed x = by_reach (nat_le 16 d) refl where
    by_reach : (high : Bool) → nat_le 16 d ≡ high → Fit sizes (truth_in_code (if high then d else 30) r signed)
    by_reach true q = loaded_fits d r signed q (omega (arith, x))
    by_reach false q = truth_fits r signed
  truth_in_fits (InMemory o k) r signed x = truth_fits r signed

  pub made_fits : (to : Location) → ByteFits sizes to 0 → BytesFit sizes (InRegisters (truth_register to)) 1
  made_fits (InRegisters d) x = by_reach (nat_le 16 d) where
    by_reach : (high : Bool) → BytesFit sizes (InRegisters (if high then d else 30)) 1
    by_reach true = λ i l. omega (arith, x)
    by_reach false = λ i l. omega arith
  made_fits (InMemory o k) x = λ i l. omega arith

  pub relation_in_fits : (to : Location) (r : Relation) (signed : Bool) (p q : Location) (n : ℕ) → BytesFit sizes p n
      → BytesFit sizes q n → ByteFits sizes to 0 → Fit sizes (relation_in_code (truth_register to) r signed p q n)
  relation_in_fits to r signed p q n x y z =
      joined (fits sizes) (compare_code q p n) (truth_in_code (truth_register to) r signed) (compare_fits q p n y x)
      (truth_in_fits to r signed z)

  -- ---- constants, tests, extensions

  constant_byte_fits : (p : Location) (byte i : ℕ) → byte < 256 → ByteFits sizes p i → Fit sizes (constant_byte p byte i)
  constant_byte_fits (InMemory o k) byte i b x = rw (lt-ltb byte 256 b, x) refl
  constant_byte_fits (InRegisters r) byte i b x = by_register (nat_le 16 (r + i)) refl where
    by_register : (high : Bool) → nat_le 16 (r + i) ≡ high → Fit sizes (if high then Plain (Ldi (r + i) byte) ∷ []
        else Plain (Ldi 30 byte) ∷ Plain (Mov (r + i) 30) ∷ [])
    by_register true q = rw (q, reg (r + i) x, lt-ltb byte 256 b) refl
    by_register false q = rw (reg (r + i) x, lt-ltb byte 256 b) refl

  pub constant_fits : (p : Location) (number n : ℕ) → BytesFit sizes p n → Fit sizes (constant_code p number n)
  constant_fits p number n x =
      chained (fits sizes) (λ i. constant_byte p (byte_of number i) i) n
      (λ i l. constant_byte_fits p (byte_of number i) i (omega arith) (x i l))

  byte_test_fits : (p : Location) → ByteFits sizes p 0 → Fit sizes (byte_test p)
  byte_test_fits (InRegisters r) x = rw (reg (r + 0) x) refl
  byte_test_fits (InMemory o k) x = rw x refl

  first_byte_fits : (p : Location) → ByteFits sizes p 0 → Fit sizes (first_byte p)
  first_byte_fits (InRegisters r) x = rw (reg (r + 0) x) refl
  first_byte_fits (InMemory o k) x = rw x refl

  join_byte_fits : (p : Location) (i : ℕ) → ByteFits sizes p (1 + i) → Fit sizes (join_byte p i)
  join_byte_fits (InRegisters r) i x = rw (reg (r + (1 + i)) x) refl
  join_byte_fits (InMemory o k) i x = rw x refl

  pub test_fits : (p : Location) (n : ℕ) → BytesFit sizes p n → Fit sizes (test_code p n)
  test_fits p zero x = refl
  test_fits p (suc zero) x = byte_test_fits p (x 0 (omega arith))
  test_fits p (suc (suc n)) x =
      rw (several p n) (joined (fits sizes) (first_byte p) (join_code p (suc n)) (first_byte_fits p (x 0 (omega arith)))
      (chained (fits sizes) (join_byte p) (suc n) (λ i l. join_byte_fits p i (x (1 + i) (omega (arith, l))))))

  put_byte_fits : (p : Location) (i : ℕ) → ByteFits sizes p i → Fit sizes (put_byte p i)
  put_byte_fits (InRegisters r) i x = rw (reg (r + i) x) refl
  put_byte_fits (InMemory o k) i x = rw x refl

  take_byte_fits : (p : Location) (i : ℕ) → ByteFits sizes p i → Fit sizes (take_byte p i)
  take_byte_fits (InRegisters r) i x = rw (reg (r + i) x) refl
  take_byte_fits (InMemory o k) i x = rw x refl

  fill_fits : (signed : Bool) (p : Location) (m : ℕ) → ByteFits sizes p (m - 1) → Fit sizes (fill_code signed p m)
  fill_fits true p m x =
      joined (fits sizes) (take_byte p (m - 1)) (Plain (Add 0 0) ∷ Plain (Sbc 0 0) ∷ []) (take_byte_fits p (m - 1) x) refl
  fill_fits false p m x = refl

  puts_fits : (p : Location) (m count : ℕ) → BytesFit sizes p (m + count) → Fit sizes (puts_code p m count)
  puts_fits p m count x =
      chained (fits sizes) (λ i. put_byte p (m + i)) count (λ i l. put_byte_fits p (m + i) (x (m + i) (omega arith)))

  widen_fits : (signed : Bool) (p : Location) (m count : ℕ) → 1 ≤ m → BytesFit sizes p (m + count)
      → Fit sizes (widen_code signed p m count)
  widen_fits false (InRegisters r) m count some x =
      chained (fits sizes) (λ i. clear_byte r (m + i)) count
      (λ i l. rw (reg (r + (m + i)) (x (m + i) (omega arith))) refl)
  widen_fits false (InMemory o k) m count some x =
      joined (fits sizes) (fill_code false (InMemory o k) m) (puts_code (InMemory o k) m count)
      (fill_fits false (InMemory o k) m (x (m - 1) (omega arith))) (puts_fits (InMemory o k) m count x)
  widen_fits true p m count some x =
      joined (fits sizes) (fill_code true p m) (puts_code p m count) (fill_fits true p m (x (m - 1) (omega arith)))
      (puts_fits p m count x)

  pub extend_fits : (signed : Bool) (p : Location) (m n : ℕ) → 1 ≤ m → BytesFit sizes p n
      → Fit sizes (extend_code signed p m n)
  extend_fits signed p m n some x = by_bytes (nat_le n m) refl where
    by_bytes : (few : Bool) → nat_le n m ≡ few
        → Fit sizes (if few then [] else widen_code signed p m (n - m))
    by_bytes true q = refl
    by_bytes false q =
        widen_fits signed p m (n - m) some
        (fewer_fit sizes p (m + (n - m)) n (grind (arith, le-leb n m)) x)

  -- ---- complements and negations

  complement_byte_fits : (p : Location) (i : ℕ) → ByteFits sizes p i → Fit sizes (complement_byte p i)
  complement_byte_fits (InRegisters r) i x = rw (reg (r + i) x) refl
  complement_byte_fits (InMemory o k) i x = rw x refl

  carry_byte_fits : (p : Location) (i : ℕ) → ByteFits sizes p i → Fit sizes (carry_byte p i)
  carry_byte_fits (InRegisters r) i x = rw (reg (r + i) x) refl
  carry_byte_fits (InMemory o k) i x = rw x refl

  pub complement_fits : (p : Location) (n : ℕ) → BytesFit sizes p n → Fit sizes (complement_code p n)
  complement_fits p n x = chained (fits sizes) (complement_byte p) n (λ i l. complement_byte_fits p i (x i l))

  pub negation_fits : (p : Location) (n : ℕ) → BytesFit sizes p n → Fit sizes (negation_code p n)
  negation_fits p n x =
      joined (fits sizes) (complement_code p n) (Plain (Eor 1 1) ∷ carry_code p n) (complement_fits p n x)
      (chained (fits sizes) (carry_byte p) n (λ i l. carry_byte_fits p i (x i l)))
