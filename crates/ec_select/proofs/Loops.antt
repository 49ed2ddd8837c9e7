-- The pieces of code that jump within themselves fit.
use Rattle.std.proofs.Common.{◌≡◌, ◌⊎◌, inl, inr, ℕ, zero, suc, ◌+◌, ◌-◌, ◌*◌, ◌/◌, ◌<◌, ◌≤◌, Bool, true, false, [], ◌∷◌, ◌++◌, refl}
use Rattle.std.proofs.Common.{arith}
use Rattle.std.specs.Prelude.{◌%◌, ◌==◌, nat_le, nat_lt, if◌then◌else◌}
use Rattle.std.proofs.lemmas.Bool.{lt-ltb, eqb-true, and_parts}
use Rattle.std.proofs.lemmas.Bool.Decides.{nat_tests}
use Rattle.ec_isa.specs.declared.instructions.Instr.TheVariants.{Mov, Movw, Ldi, Mul, Sbc}
use Rattle.ec_isa.specs.Table.{in_table}
use Rattle.ec_asm.specs.declared.items.AsmItem.TheVariants.{Plain}
use Rattle.ec_asm.specs.declared.pieces.Location.{Location}
use Rattle.ec_asm.specs.declared.pieces.Location.TheVariants.{InRegisters, InMemory}
use Rattle.ec_asm.specs.declared.pieces.Operator.TheVariants.{Sum, Difference}
use Rattle.ec_asm.specs.Items.{chain}
use Rattle.ec_asm.specs.Pieces.{copy_code, operate_code, halves, halve_byte}
use Rattle.ec_asm.specs.Valid.{Sizes}
use Rattle.ec_select_products.specs.Products.{factors_code, less_code, corrected_code, multiply_code, put_byte}
use Rattle.ec_select_products.specs.Products.{puts_code}
use Rattle.ec_select_products.specs.Products.{product_code}
use Rattle.ec_select_quotients.specs.Quotients.{remainder_row, divisor_register, rotate_byte, rotate_code, test_byte}
use Rattle.ec_select_quotients.specs.Quotients.{test_code, rows_code, bring_code, bring_words, less_byte, less_code as lessen_code, note_code}
use Rattle.ec_select_quotients.specs.Quotients.{note_words, take_code, take_words, skip_code, back_words, count_code, divide_code}
use Rattle.ec_select_quotients.specs.Signs.{fetch_byte, fetch_pairs, fetch_code, spread_code, top_code, divisor_top_code}
use Rattle.ec_select_quotients.specs.Signs.{turn_byte, turn_code as quotient_turn_code, turn_divisor_byte, turn_divisor_code}
use Rattle.ec_select_quotients.specs.Signs.{cross_code, number_sign_code, divisor_sign_code, signs_code, clear_byte, clear_code}
use Rattle.ec_select_quotients.specs.Signs.{put_pairs, put_code, start_code, result_code, sign_code, finish_code, divided_code, quotient_code}
use Rattle.ec_select_shifts.specs.declared.shifts.Direction.{Direction}
use Rattle.ec_select_shifts.specs.declared.shifts.Direction.TheVariants.{Left, Right}
use Rattle.ec_select_shifts.specs.Shifts.{turn_code, turn_words, jump_code, end_code, shift_code, turns_code, most_turn_words, bits_code}
use Rattle.ec_select_shifts.specs.Shifts.{filled_byte, sign_code as top_sign_code, moved_byte, moved_code, first_moved, bytes_code}
use Rattle.ec_select_shifts.specs.Shifts.{moves_bytes, against_code, carried_byte, carry_code, carried_code, takes_carry, counted_code}
use Rattle.ec_select.proofs.Fitting.{fits, Fit, joined, chained, ByteFits, BytesFit, registers_fit}
use Rattle.ec_select.proofs.Fitting.{reg}
use Rattle.ec_select.proofs.Pieces.{copy_fits, operate_fits, compares_fits, instruction_fits}

module _ (sizes : Sizes) where
  -- ---- shifts

  halves_fit : (signed : Bool) (k d : ℕ) → d < 32 → in_table (halves signed k d) ≡ true
  halves_fit true zero d x = reg d x
  halves_fit false zero d x = reg d x
  halves_fit true (suc k) d x = reg d x
  halves_fit false (suc k) d x = reg d x

  halve_byte_fits : (signed : Bool) (p : Location) (n k : ℕ) → ByteFits sizes p (n - 1 - k)
      → Fit sizes (halve_byte signed p n k)
  halve_byte_fits signed (InRegisters r) n k x = rw (halves_fit signed k (r + (n - 1 - k)) x) refl
  halve_byte_fits signed (InMemory o j) n k x = rw (x, halves_fit signed k 0 (omega arith)) refl

  pub turn_fits : (s : Direction) (p : Location) (n : ℕ) → BytesFit sizes p n → Fit sizes (turn_code s p n)
  turn_fits Left p n x = operate_fits sizes Sum p p n x x
  turn_fits (Right signed) p n x =
      chained (fits sizes) (halve_byte signed p n) n
      (λ k l. halve_byte_fits signed p n k (x (n - 1 - k) (omega arith)))

  few_words : (s : Direction) (p : Location) (n : ℕ) → n ≤ 8 → turn_words s p n ≤ 56
  few_words Left (InRegisters r) n h = omega arith
  few_words (Right signed) (InRegisters r) n h = omega arith
  few_words Left (InMemory o k) n h = omega arith
  few_words (Right signed) (InMemory o k) n h = omega arith

  pub shift_fits : (s : Direction) (p : Location) (n : ℕ) → n ≤ 8 → BytesFit sizes p n → Fit sizes (shift_code s p n)
  shift_fits s p n few x =
      let w : turn_words s p n ≤ 56 = few_words s p n few in
      let jump : Fit sizes (jump_code s p n) = rw (lt-ltb (turn_words s p n) 2048 (omega arith)) refl in
      let end : Fit sizes (end_code s p n) = rw (lt-ltb (turn_words s p n + 1) 64 (omega arith)) refl in
      joined (fits sizes) (jump_code s p n) (turn_code s p n ++ end_code s p n) jump
      (joined (fits sizes) (turn_code s p n) (end_code s p n) (turn_fits s p n x) end)

  -- by a known count
  bits_fit : (s : Direction) (p : Location) (n k : ℕ) → n ≤ 8 → k < 256 → BytesFit sizes p n → Fit sizes (bits_code s p n k)
  bits_fit s p n k few small x = by_words (nat_le (k * turn_words s p n) (most_turn_words s p n))
    where
      first : Fit sizes (Plain (Ldi 30 k) ∷ [])
      first = rw (lt-ltb k 256 small) refl

      by_words : (b : Bool) → Fit sizes (if b then turns_code s p n k else Plain (Ldi 30 k) ∷ shift_code s p n)
      by_words true = chained (fits sizes) (λ i. turn_code s p n) k (λ i l. turn_fits s p n x)
      by_words false = joined (fits sizes) (Plain (Ldi 30 k) ∷ []) (shift_code s p n) first (shift_fits s p n few x)

  -- a byte that moves, or is filled
  byte_fits : (s : Direction) (d r : ℕ) (b : Bool) → d < 32 → r < 32 ⊎ b ≡ false
      → Fit sizes (if b then Plain (Mov d r) ∷ [] else filled_byte s d)
  byte_fits s d r true h (inl l) = rw (lt-ltb d 32 h, lt-ltb r 32 l) refl
  byte_fits s d r true h (inr q) = absurd cc
  byte_fits Left d r false h l = rw (lt-ltb d 32 h) refl
  byte_fits (Right true) d r false h l = rw (lt-ltb d 32 h) refl
  byte_fits (Right false) d r false h l = rw (lt-ltb d 32 h) refl

  moved_fits : (s : Direction) (r n q : ℕ) → 1 ≤ n → BytesFit sizes (InRegisters r) n → Fit sizes (moved_code s r n q)
  moved_fits s r n q some x =
      joined (fits sizes) (top_sign_code s r n) (chain (moved_byte s r n q) n) (sign_fits s)
      (chained (fits sizes) (moved_byte s r n q) n (by_side s))
    where
      sign_fits : (s : Direction) → Fit sizes (top_sign_code s r n)
      sign_fits Left = refl
      sign_fits (Right true) = rw (lt-ltb (r + (n - 1)) 32 (x (n - 1) (omega arith))) refl
      sign_fits (Right false) = refl

      ltb_true : (a b : ℕ) → nat_lt a b ≡ true → a < b
      ltb_true a b h = grind (arith, nat_tests)

      below : (b : Bool) (i : ℕ) → nat_lt i n ≡ b → r + i < 32 ⊎ b ≡ false
      below true i t = inl (x i (ltb_true i n t))
      below false i t = inr refl

      by_side : (s : Direction) (i : ℕ) → i < n → Fit sizes (moved_byte s r n q i)
      by_side Left i l =
          byte_fits Left (r + (n - 1 - i)) (r + (n - 1 - i - q)) (nat_le q (n - 1 - i)) (x (n - 1 - i) (omega (arith, l)))
          (inl (x (n - 1 - i - q) (omega (arith, l))))
      by_side (Right signed) i l =
          byte_fits (Right signed) (r + i) (r + (q + i)) (nat_lt (q + i) n) (x i l) (below (nat_lt (q + i) n) (q + i) refl)

  -- the carry that comes with the bytes
  carried_byte_fits : (s : Direction) (r n q i : ℕ) → i < n → BytesFit sizes (InRegisters r) n → Fit sizes (carried_byte s r n q i)
  carried_byte_fits Left r n q i l x =
      byte_fits Left (r + (n - 1 - i)) (r + (n - 1 - i - q)) (nat_le q (n - 1 - i)) (x (n - 1 - i) (omega (arith, l)))
      (inl (x (n - 1 - i - q) (omega (arith, l))))
  carried_byte_fits (Right signed) r n q i l x = by_sign signed
    where
      ltb_true : (a b : ℕ) → nat_lt a b ≡ true → a < b
      ltb_true a b h = grind (arith, nat_tests)

      below : (b : Bool) → nat_lt (q + i) n ≡ b → r + (q + i) < 32 ⊎ b ≡ false
      below true t = inl (x (q + i) (ltb_true (q + i) n t))
      below false t = inr refl

      by_place : (b : Bool) → nat_lt (q + i) n ≡ b
          → Fit sizes (if b then Plain (Mov (r + i) (r + (q + i))) ∷ [] else Plain (Sbc (r + i) (r + i)) ∷ [])
      by_place true t = let a = x (q + i) (ltb_true (q + i) n t) in rw (lt-ltb (r + i) 32 (x i l), lt-ltb (r + (q + i)) 32 a) refl
      by_place false t = rw (lt-ltb (r + i) 32 (x i l)) refl

      by_sign : (signed : Bool) → Fit sizes (carried_byte (Right signed) r n q i)
      by_sign true = by_place (nat_lt (q + i) n) refl
      by_sign false = byte_fits (Right false) (r + i) (r + (q + i)) (nat_lt (q + i) n) (x i l) (below (nat_lt (q + i) n) refl)

  carried_fits : (s : Direction) (r n q : ℕ) → q < n → BytesFit sizes (InRegisters r) n → Fit sizes (carried_code s r n q)
  carried_fits s r n q some x =
      let bytes = chain (carried_byte s r n (suc q)) n in
      joined (fits sizes) (against_code s r q (n - q)) (bytes ++ carry_code s r q (n - q)) (against_fits s)
      (joined (fits sizes) bytes (carry_code s r q (n - q))
      (chained (fits sizes) (carried_byte s r n (suc q)) n (λ i l. carried_byte_fits s r n (suc q) i l x)) (carry_fits s))
    where
      against_fits : (s : Direction) → Fit sizes (against_code s r q (n - q))
      against_fits Left = turn_fits (Right false) (InRegisters r) (n - q) (λ i l. x i (omega (arith, l)))
      against_fits (Right signed) =
          turn_fits Left (InRegisters (r + q)) (n - q) (λ i l. let z = x (q + i) (omega (arith, l)) in omega (arith, z))

      carry_fits : (s : Direction) → Fit sizes (carry_code s r q (n - q))
      carry_fits Left = rw (lt-ltb (r + q) 32 (x q some)) refl
      carry_fits (Right false) = rw (lt-ltb (r + (n - q - 1)) 32 (x (n - q - 1) (omega (arith, some)))) refl
      carry_fits (Right true) = refl

  pub counted_fits : (s : Direction) (p : Location) (n k : ℕ) → n ≤ 8 → k < 256 → BytesFit sizes p n → Fit sizes (counted_code s p n k)
  counted_fits s (InMemory o j) n k few small x = bits_fit s (InMemory o j) n k few small x
  counted_fits s (InRegisters r) n k few small x = by_carry (takes_carry n k) refl
    where
      takes : (a b : ℕ) → nat_lt a b ≡ true → a < b
      takes a b h = grind (arith, nat_tests)

      by_bytes : (b : Bool) → moves_bytes n k ≡ b
          → Fit sizes (if b then bytes_code s r n (k / 8) (k % 8) else bits_code s (InRegisters r) n k)
      by_bytes false t = bits_fit s (InRegisters r) n k few small x
      by_bytes true t =
          let q = k / 8 in
          let within = ltb_true q n (and_parts (nat_le 8 k) (nat_lt q n) t).1 in
          joined (fits sizes) (moved_code s r n q) (bits_code s (InRegisters (first_moved s r q)) (n - q) (k % 8))
          (moved_fits s r n q (omega (arith, within)) x)
          (bits_fit s (InRegisters (first_moved s r q)) (n - q) (k % 8) (omega (arith, few)) (omega arith) (part s within))
        where
          ltb_true : (a b : ℕ) → nat_lt a b ≡ true → a < b
          ltb_true a b h = grind (arith, nat_tests)

          part : (s : Direction) → k / 8 < n → BytesFit sizes (InRegisters (first_moved s r (k / 8))) (n - k / 8)
          part Left w i l = let z = x (k / 8 + i) (omega (arith, l, w)) in omega (arith, z)
          part (Right signed) w i l = x i (omega (arith, l))

      by_carry : (b : Bool) → takes_carry n k ≡ b
          → Fit sizes (if b then carried_code s r n (k / 8)
          else if moves_bytes n k then bytes_code s r n (k / 8) (k % 8) else bits_code s (InRegisters r) n k)
      by_carry false t = by_bytes (moves_bytes n k) refl
      by_carry true t = carried_fits s r n (k / 8) (takes (k / 8) n (and_parts (nat_lt (k / 8) n) (k % 8 == 7) t).0) x

  -- ---- products

  less_fits : (neg : Bool) (factor other : ℕ) → factor < 32 → other < 32 → Fit sizes (less_code neg factor other)
  less_fits true factor other x y = rw (reg factor x, reg other y) refl
  less_fits false factor other x y = refl

  put_byte_fits : (p : Location) (i : ℕ) → i < 2 → ByteFits sizes p i → Fit sizes (put_byte p i)
  put_byte_fits (InRegisters r) i l x = rw (reg (r + i) x, reg i (omega arith)) refl
  put_byte_fits (InMemory o k) i l x = rw (x, reg i (omega arith)) refl

  factors_fit : (p q : Location) → BytesFit sizes p 1 → BytesFit sizes q 1 → Fit sizes (factors_code p q)
  factors_fit p q x y =
      let left = copy_fits sizes p (InRegisters 30) 1 x (registers_fit sizes 30 1 (omega arith)) in
      let right = copy_fits sizes q (InRegisters 31) 1 y (registers_fit sizes 31 1 (omega arith)) in
      joined (fits sizes) (copy_code p (InRegisters 30) 1) (copy_code q (InRegisters 31) 1 ++ Plain (Mul 30 31) ∷ []) left
      (joined (fits sizes) (copy_code q (InRegisters 31) 1) (Plain (Mul 30 31) ∷ []) right refl)

  pub product_fits : (left right : Bool) (p q to : Location) (n : ℕ) → n ≤ 2 → BytesFit sizes p 1 → BytesFit sizes q 1
      → BytesFit sizes to n → Fit sizes (product_code left right p q to n)
  product_fits left right p q to n few x y z =
      let corrected = joined (fits sizes) (less_code left 30 31) (less_code right 31 30) (less_fits left 30 31 (omega arith) (omega arith))
      (less_fits right 31 30 (omega arith) (omega arith)) in
      joined (fits sizes) (multiply_code left right p q) (puts_code to n)
      (joined (fits sizes) (factors_code p q) (corrected_code left right) (factors_fit p q x y) corrected)
      (chained (fits sizes) (put_byte to) n (λ i l. put_byte_fits to i (omega arith) (z i l)))

  -- ---- quotients

  -- the divisor's registers
  divisor_reg : (i : ℕ) → i < 4 → divisor_register i < 32
  divisor_reg zero l = omega arith
  divisor_reg (suc zero) l = omega arith
  divisor_reg (suc (suc zero)) l = omega arith
  divisor_reg (suc (suc (suc zero))) l = omega arith
  divisor_reg (suc (suc (suc (suc i)))) l = absurd (omega arith)

  rotate_fits : (n : ℕ) → n ≤ 4 → Fit sizes (rotate_code n)
  rotate_fits n few = chained (fits sizes) rotate_byte n (λ i l. rw (reg (8 + i) (omega arith)) refl)

  clear_fits : (n : ℕ) → n ≤ 4 → Fit sizes (clear_code n)
  clear_fits n few = chained (fits sizes) clear_byte n (λ i l. rw (reg (8 + i) (omega arith)) refl)

  tests_fit : (n : ℕ) → n ≤ 4 → Fit sizes (test_code n)
  tests_fit n few =
      chained (fits sizes) test_byte n
      (λ i l. rw (compares_fits sizes i (8 + i) (divisor_register i) (omega arith) (divisor_reg i (omega arith))) refl)

  taking_fits : (n : ℕ) → n ≤ 4 → Fit sizes (lessen_code n)
  taking_fits n few =
      chained (fits sizes) less_byte n
      (λ i l. rw (instruction_fits sizes Difference i (8 + i) (divisor_register i) (omega arith) (divisor_reg i (omega arith))) refl)

  bring_fits : (p : Location) (n : ℕ) → n ≤ 4 → BytesFit sizes p n → Fit sizes (bring_code p n)
  bring_fits p n few x =
      joined (fits sizes) (operate_code Sum p p n) (rows_code n) (operate_fits sizes Sum p p n x x)
      (joined (fits sizes) (rotate_code n) (test_code n) (rotate_fits n few) (tests_fit n few))

  note_fits : (r : Bool) (p : Location) → ByteFits sizes p 0 → Fit sizes (note_code r p)
  note_fits true p x = refl
  note_fits false (InRegisters r) x = rw (reg (r + 0) x) refl
  note_fits false (InMemory o k) x = rw x refl

  few_notes : (r : Bool) (p : Location) → note_words r p ≤ 5
  few_notes true p = omega arith
  few_notes false (InRegisters r) = omega arith
  few_notes false (InMemory o k) = omega arith

  few_brought : (p : Location) (n : ℕ) → n ≤ 4 → bring_words p n ≤ 36
  few_brought (InRegisters r) n few = omega arith
  few_brought (InMemory o k) n few = omega arith

  pub divide_fits : (r : Bool) (p : Location) (n : ℕ) → 1 ≤ n → n ≤ 4 → BytesFit sizes p n → Fit sizes (divide_code r p n)
  divide_fits r p n some few x =
      let m : note_words r p ≤ 5 = few_notes r p in
      let b : bring_words p n ≤ 36 = few_brought p n few in
      let skip : Fit sizes (skip_code r p n) = rw (lt-ltb (take_words r p n) 64 (omega arith)) refl in
      let count : Fit sizes (count_code r p n) = rw (lt-ltb (back_words r p n) 64 (omega arith)) refl in
      joined (fits sizes) (bring_code p n) (skip_code r p n ++ (take_code r p n ++ count_code r p n)) (bring_fits p n few x)
      (joined (fits sizes) (skip_code r p n) (take_code r p n ++ count_code r p n) skip
      (joined (fits sizes) (take_code r p n) (count_code r p n)
      (joined (fits sizes) (lessen_code n) (note_code r p) (taking_fits n few) (note_fits r p (x 0 some))) count))

  fetch_byte_fits : (p : Location) (i : ℕ) → i < 4 → ByteFits sizes p i → Fit sizes (fetch_byte p i)
  fetch_byte_fits (InRegisters r) i l x = rw (reg (divisor_register i) (divisor_reg i l), reg (r + i) x) refl
  fetch_byte_fits (InMemory o k) i l x = rw (reg (divisor_register i) (divisor_reg i l), x) refl

  fetch_bytes_fit : (p : Location) (n : ℕ) → n ≤ 4 → BytesFit sizes p n → Fit sizes (chain (fetch_byte p) n)
  fetch_bytes_fit p n few x = chained (fits sizes) (fetch_byte p) n (λ i l. fetch_byte_fits p i (omega arith) (x i l))

  first : (r : ℕ) → r + 0 < 32 → r < 32
  first r l = omega (arith, l)

  even_next : (r : ℕ) → (r % 2 == 0) ≡ true → ((r + 2) % 2 == 0) ≡ true
  even_next r even = let z : (r + 2) % 2 ≡ 0 = omega (arith, eqb-true (r % 2) 0 even) in rw z refl

  fetch_pairs_fit : (r top : ℕ) → top < 4 → (r % 2 == 0) ≡ true → BytesFit sizes (InRegisters r) (suc top)
      → Fit sizes (fetch_pairs r top)
  fetch_pairs_fit r top l even x = by_size (nat_lt top 2) refl
    where
      low : r < 32
      low = first r (x 0 (omega arith))

      high : nat_lt top 2 ≡ false → r + 2 < 32
      high q = x 2 (grind (arith, nat_tests))

      next : ((r + 2) % 2 == 0) ≡ true
      next = even_next r even

      by_size : (few : Bool) → nat_lt top 2 ≡ few
          → Fit sizes (if few then Plain (Movw 12 r) ∷ [] else Plain (Movw 12 r) ∷ Plain (Movw 26 (r + 2)) ∷ [])
      by_size true q = rw (reg r low, even) refl
      by_size false q = rw (reg r low, even, reg (r + 2) (high q), next) refl

  fetch_fits : (p : Location) (top : ℕ) → top < 4 → BytesFit sizes p (suc top) → Fit sizes (fetch_code p top)
  fetch_fits (InRegisters r) top l x = by_evenness (r % 2 == 0) refl
    where
      by_evenness : (even : Bool) → (r % 2 == 0) ≡ even
          → Fit sizes (if even then fetch_pairs r top else chain (fetch_byte (InRegisters r)) (suc top))
      by_evenness true q = fetch_pairs_fit r top l q x
      by_evenness false q = fetch_bytes_fit (InRegisters r) (suc top) (omega arith) x
  fetch_fits (InMemory o k) top l x = fetch_bytes_fit (InMemory o k) (suc top) (omega arith) x

  top_fits : (p : Location) (top : ℕ) → ByteFits sizes p top → Fit sizes (top_code p top)
  top_fits (InRegisters r) top x = rw (reg (r + top) x) refl
  top_fits (InMemory o k) top x = rw x refl

  turn_byte_fits : (p : Location) (i : ℕ) → ByteFits sizes p i → Fit sizes (turn_byte p i)
  turn_byte_fits (InRegisters r) i x =
      rw (reg (r + i) x, instruction_fits sizes Difference i (r + i) 31 x (omega arith)) refl
  turn_byte_fits (InMemory o k) i x = rw (x, instruction_fits sizes Difference i 0 31 (omega arith) (omega arith)) refl

  turn_number_fits : (p : Location) (n : ℕ) → BytesFit sizes p n → Fit sizes (quotient_turn_code p n)
  turn_number_fits p n x = chained (fits sizes) (turn_byte p) n (λ i l. turn_byte_fits p i (x i l))

  turn_divisor_fits : (n : ℕ) → n ≤ 4 → Fit sizes (turn_divisor_code n)
  turn_divisor_fits n few =
      chained (fits sizes) turn_divisor_byte n
      (λ i l. rw (
        reg (divisor_register i) (divisor_reg i (omega arith)),
        instruction_fits sizes Difference i (divisor_register i) 1 (divisor_reg i (omega arith)) (omega arith),
      ) refl)

  cross_fits : (r : Bool) → Fit sizes (cross_code r)
  cross_fits true = refl
  cross_fits false = refl

  number_sign_fits : (p : Location) (top : ℕ) → BytesFit sizes p (suc top) → Fit sizes (number_sign_code p top)
  number_sign_fits p top x =
      joined (fits sizes) (top_code p top) (spread_code 31 ++ quotient_turn_code p (suc top)) (top_fits p top (x top (omega arith)))
      (joined (fits sizes) (spread_code 31) (quotient_turn_code p (suc top)) refl (turn_number_fits p (suc top) x))

  divisor_sign_fits : (r : Bool) (top : ℕ) → top < 4 → Fit sizes (divisor_sign_code r top)
  divisor_sign_fits r top l =
      let first : Fit sizes (divisor_top_code top) = rw (reg (divisor_register top) (divisor_reg top l)) refl in
      joined (fits sizes) (divisor_top_code top) (spread_code 1 ++ (turn_divisor_code (suc top) ++ cross_code r)) first
      (joined (fits sizes) (spread_code 1) (turn_divisor_code (suc top) ++ cross_code r) refl
      (joined (fits sizes) (turn_divisor_code (suc top)) (cross_code r) (turn_divisor_fits (suc top) (omega arith)) (cross_fits r)))

  signs_fit : (r signed : Bool) (p : Location) (top : ℕ) → top < 4 → BytesFit sizes p (suc top)
      → Fit sizes (signs_code r signed p top)
  signs_fit r false p top l x = refl
  signs_fit r true p top l x =
      joined (fits sizes) (number_sign_code p top) (divisor_sign_code r top) (number_sign_fits p top x) (divisor_sign_fits r top l)

  start_fits : (n : ℕ) → n ≤ 4 → Fit sizes (start_code n)
  start_fits n few =
      let row : Fit sizes (Plain (Ldi 30 (8 * n)) ∷ []) = rw (lt-ltb (8 * n) 256 (omega arith)) refl in
      joined (fits sizes) (Plain (Ldi 30 (8 * n)) ∷ []) (clear_code n) row (clear_fits n few)

  put_pairs_fit : (r n : ℕ) → (r % 2 == 0) ≡ true → BytesFit sizes (InRegisters r) n → Fit sizes (put_pairs r n)
  put_pairs_fit r zero even x = refl
  put_pairs_fit r (suc zero) even x = rw (reg r (first r (x 0 (omega arith)))) refl
  put_pairs_fit r (suc (suc zero)) even x = rw (reg r (first r (x 0 (omega arith))), even) refl
  put_pairs_fit r (suc (suc (suc zero))) even x =
      rw (reg r (first r (x 0 (omega arith))), even, reg (r + 2) (x 2 (omega arith))) refl
  put_pairs_fit r (suc (suc (suc (suc n)))) even x =
      rw (reg r (first r (x 0 (omega arith))), even, reg (r + 2) (x 2 (omega arith)), even_next r even) refl

  put_fits : (p : Location) (n : ℕ) → n ≤ 4 → BytesFit sizes p n → Fit sizes (put_code p n)
  put_fits (InRegisters r) n few x = by_evenness (r % 2 == 0) refl
    where
      by_evenness : (even : Bool) → (r % 2 == 0) ≡ even
          → Fit sizes (if even then put_pairs r n else copy_code remainder_row (InRegisters r) n)
      by_evenness true q = put_pairs_fit r n q x
      by_evenness false q = copy_fits sizes remainder_row (InRegisters r) n (registers_fit sizes 8 n (omega arith)) x
  put_fits (InMemory o k) n few x =
      copy_fits sizes remainder_row (InMemory o k) n (registers_fit sizes 8 n (omega arith)) x

  result_fits : (r : Bool) (p : Location) (n : ℕ) → n ≤ 4 → BytesFit sizes p n → Fit sizes (result_code r p n)
  result_fits true p n few x = put_fits p n few x
  result_fits false p n few x = refl

  sign_fits : (signed : Bool) (p : Location) (n : ℕ) → BytesFit sizes p n → Fit sizes (sign_code signed p n)
  sign_fits true p n x = turn_number_fits p n x
  sign_fits false p n x = refl

  finish_fits : (r signed : Bool) (p : Location) (n : ℕ) → 1 ≤ n → n ≤ 4 → BytesFit sizes p n
      → Fit sizes (finish_code r signed p n)
  finish_fits r signed p n some few x =
      joined (fits sizes) (divide_code r p n) (result_code r p n ++ sign_code signed p n) (divide_fits r p n some few x)
      (joined (fits sizes) (result_code r p n) (sign_code signed p n) (result_fits r p n few x) (sign_fits signed p n x))

  pub quotient_fits : (r signed : Bool) (p q : Location) (top : ℕ) → top < 4 → BytesFit sizes p (suc top)
      → BytesFit sizes q (suc top) → Fit sizes (quotient_code r signed p q top)
  quotient_fits r signed p q top l x y =
      joined (fits sizes) (fetch_code q top) (divided_code r signed p top) (fetch_fits q top l y)
      (joined (fits sizes) (signs_code r signed p top) (start_code (suc top) ++ finish_code r signed p (suc top))
      (signs_fit r signed p top l x)
      (joined (fits sizes) (start_code (suc top)) (finish_code r signed p (suc top)) (start_fits (suc top) (omega arith))
      (finish_fits r signed p (suc top) (omega arith) (omega arith) x)))
