-- The code of operators on fixed-point numbers whose result is computed in its place: its items fit, and its words.
use Rattle.std.proofs.Common.{◌≡◌, ℕ, zero, suc, ◌+◌, ◌-◌, ◌*◌, ◌%◌, ◌^◌, ◌<◌, ◌≤◌, Bool, true, false, ◌++◌, refl, arith, ◌∷◌, [], Option}
use Rattle.std.proofs.Common.{Some, pos, leb-true, ℤ}
use Rattle.std.specs.Prelude.{None, nat_le, nat_lt, if◌then◌else◌}
use Rattle.std.proofs.lemmas.Bool.{lt-ltb, and_parts}
use Rattle.std.proofs.lemmas.Bool.Decides.{nat_tests}
use Rattle.ec_fx.specs.declared.numbers.Mode.{Mode}
use Rattle.ec_isa.specs.declared.instructions.Instr.TheVariants.{Add, Sbc, Andi, Eor, Ldi, Sbrs, Rjmp}
use Rattle.ec_isa.specs.Table.{in_table}
use Rattle.ec_asm.specs.declared.items.AsmItem.TheVariants.{Plain}
use Rattle.ec_asm.specs.declared.pieces.Location.{Location}
use Rattle.ec_asm.specs.declared.pieces.Location.TheVariants.{InRegisters, InMemory}
use Rattle.ec_asm.specs.declared.pieces.Operator.TheVariants.{Difference}
use Rattle.ec_asm.specs.Items.{chain, code_words}
use Rattle.ec_asm.specs.Pieces.{instruction, halve_code}
use Rattle.ec_asm.specs.Valid.{Sizes}
use Rattle.ec_core.specs.declared.expressions.BinOp.{BinOp}
use Rattle.ec_core.specs.declared.expressions.BinOp.TheVariants.{Add as Plus, Sub, Mul, Div, Rem, Shl, Shr, And, Or, Xor, Lt}
use Rattle.ec_core.specs.declared.expressions.BinOp.TheVariants.{Gt, Le, Ge, Eq, Ne}
use Rattle.ec_fxcode.specs.Clamps.{take_byte, sign_code}
use Rattle.ec_fxcode_placed.specs.Shifts.{raise_byte, raise_code, half_code, half_words, enter_code, again_code, rounded_code, placed_code}
use Rattle.ec_fxcode_placed.specs.Counts.{biased_byte, bias_code, known_bias_byte, known_bias_code, takes_known_bias, rounded_by_code}
use Rattle.ec_fxcode_placed.specs.Counts.{placed_by_code}
use Rattle.ec_fxcode_placed.proofs.Counted.{placed_counts_have}
use Rattle.ec_fxcode_placed.proofs.Known.{known_in_table}
use Rattle.ec_fxcode_placed.proofs.Words.{placed_shifts_have, few_bits}
use Rattle.ec_ir.specs.Costs.{is_bitwise}
use Rattle.ec_ir.specs.Temporaries.{low_bytes}
use Rattle.ec_ir_known.specs.declared.known.RightNumber.{RightNumber}
use Rattle.ec_select_shifts.specs.declared.shifts.Direction.TheVariants.{Left, Right}
use Rattle.ec_select_shifts.specs.Shifts.{counted_code}
use Rattle.ec_select_operations.specs.Code.{is_difference, takes_place, move_code, stopped_code, placed_shift, placed_whole}
use Rattle.ec_select_operations.specs.Needs.{number_known}
use Rattle.ec_select_operations.specs.Emitted.{second_bytes}
use Rattle.ec_select.proofs.Fitting.{fits, Fit, joined, chained, ByteFits, BytesFit, reg}
use Rattle.ec_select.proofs.Limits.{stopped_words, stopped_fits}
use Rattle.ec_select.proofs.Loops.{turn_fits, shift_fits, counted_fits}
use Rattle.ec_select.proofs.Words.{joined_words}

-- ---- words

pub placed_not_bitwise : (op : BinOp) (mode : Mode) (one : Bool) → takes_place op mode one ≡ true → is_bitwise op ≡ false
placed_not_bitwise Plus mode one q = refl
placed_not_bitwise Sub mode one q = refl
placed_not_bitwise Shl mode one q = refl
placed_not_bitwise Shr mode one q = refl
placed_not_bitwise Mul mode one q = absurd cc
placed_not_bitwise Div mode one q = absurd cc
placed_not_bitwise Rem mode one q = absurd cc
placed_not_bitwise And mode one q = absurd cc
placed_not_bitwise Or mode one q = absurd cc
placed_not_bitwise Xor mode one q = absurd cc
placed_not_bitwise Lt mode one q = absurd cc
placed_not_bitwise Gt mode one q = absurd cc
placed_not_bitwise Le mode one q = absurd cc
placed_not_bitwise Ge mode one q = absurd cc
placed_not_bitwise Eq mode one q = absurd cc
placed_not_bitwise Ne mode one q = absurd cc

module _ (known : Option RightNumber) (signed : Bool) (a b to : Location) (top : ℕ)
    (moved : code_words (move_code a to (suc top)) ≤ 4 * suc top)
    (counted : code_words (move_code b (InRegisters 30) 1) ≤ 4) where
  sum_words : (minus : Bool) → code_words (stopped_code minus signed a b to top) ≤ 14 * suc top + 12
  sum_words minus = let x = stopped_words minus signed a b to top moved in omega (arith, x)

  shift_words : (known : Option ℤ) (left : Bool) → code_words (placed_shift known left signed a b to top) ≤ 14 * suc top + 12
  shift_words (Some k) left =
      let z = placed_counts_have left signed to (suc top) (low_bytes 16 k % 256) in
      omega (
        arith,
        joined_words (move_code a to (suc top)) (placed_by_code left signed to (suc top) (low_bytes 16 k % 256)),
        moved,
        z,
      )
  shift_words None left =
      let z = placed_shifts_have left signed to (suc top) in
      omega (
        arith,
        joined_words (move_code b (InRegisters 30) 1) (move_code a to (suc top) ++ placed_code left signed to (suc top)),
        joined_words (move_code a to (suc top)) (placed_code left signed to (suc top)),
        moved,
        counted,
        z,
      )

  pub placed_words : (op : BinOp) → code_words (placed_whole known op signed a b to top) ≤ 14 * suc top + 12
  placed_words Shl = shift_words (number_known known) true
  placed_words Shr = shift_words (number_known known) false
  placed_words Plus = sum_words (is_difference Plus)
  placed_words Sub = sum_words (is_difference Sub)
  placed_words Mul = sum_words (is_difference Mul)
  placed_words Div = sum_words (is_difference Div)
  placed_words Rem = sum_words (is_difference Rem)
  placed_words And = sum_words (is_difference And)
  placed_words Or = sum_words (is_difference Or)
  placed_words Xor = sum_words (is_difference Xor)
  placed_words Lt = sum_words (is_difference Lt)
  placed_words Gt = sum_words (is_difference Gt)
  placed_words Le = sum_words (is_difference Le)
  placed_words Ge = sum_words (is_difference Ge)
  placed_words Eq = sum_words (is_difference Eq)
  placed_words Ne = sum_words (is_difference Ne)

-- ---- items

module _ (sizes : Sizes) where
  pub less_fits : (i d : ℕ) → d < 32 → in_table (instruction Difference i d 31) ≡ true
  less_fits zero d x = rw (reg d x) refl
  less_fits (suc i) d x = rw (reg d x) refl

  raise_byte_fits : (p : Location) (i : ℕ) → ByteFits sizes p i → Fit sizes (raise_byte p i)
  raise_byte_fits (InRegisters r) i x = rw (less_fits i (r + i) x) refl
  raise_byte_fits (InMemory o k) i x = rw (x, less_fits i 0 (omega arith)) refl

  pub take_fits : (p : Location) (i : ℕ) → ByteFits sizes p i → Fit sizes (take_byte p i)
  take_fits (InRegisters r) i x = rw (reg (r + i) x) refl
  take_fits (InMemory o k) i x = rw x refl

  half_fits : (p : Location) (n : ℕ) → 1 ≤ n → BytesFit sizes p n → Fit sizes (half_code p n)
  half_fits p n some x =
      joined (fits sizes) (sign_code p n) (raise_code p n ++ halve_code true p n)
      (joined (fits sizes) (take_byte p (n - 1)) (Plain (Add 0 0) ∷ Plain (Sbc 31 31) ∷ []) (take_fits p (n - 1) (x (n - 1) (omega arith)))
      refl)
      (joined (fits sizes) (raise_code p n) (halve_code true p n)
      (chained (fits sizes) (raise_byte p) n (λ i l. raise_byte_fits p i (x i l))) (turn_fits sizes (Right true) p n x))

  few_words : (p : Location) (n : ℕ) → n ≤ 8 → half_words p n ≤ 84
  few_words (InRegisters r) n h = omega arith
  few_words (InMemory o k) n h = omega arith

  rounded_fits : (p : Location) (n : ℕ) → 1 ≤ n → n ≤ 8 → BytesFit sizes p n → Fit sizes (rounded_code p n)
  rounded_fits p n some few x =
      let w : half_words p n ≤ 84 = few_words p n few in
      let enter : Fit sizes (enter_code p n) = rw (lt-ltb (half_words p n) 2048 (omega arith)) refl in
      let again : Fit sizes (again_code p n) = rw (lt-ltb (half_words p n + 2) 2048 (omega arith)) refl in
      joined (fits sizes) (enter_code p n) (half_code p n ++ again_code p n) enter
      (joined (fits sizes) (half_code p n) (again_code p n) (half_fits p n some x) again)

  placed_fits : (left signed : Bool) (p : Location) (n : ℕ) → 1 ≤ n → n ≤ 8 → BytesFit sizes p n → Fit sizes (placed_code left signed p n)
  placed_fits true signed p n some few x = shift_fits sizes Left p n few x
  placed_fits false true p n some few x = rounded_fits p n some few x
  placed_fits false false p n some few x = shift_fits sizes (Right false) p n few x

  -- by a known count
  rounded_by_fits : (p : Location) (n k : ℕ) → 1 ≤ n → n ≤ 8 → k < 256 → BytesFit sizes p n → Fit sizes (rounded_by_code p n k)
  rounded_by_fits p n k some few small x = by_place p x
    where
      by_bits : (q : Location) → BytesFit sizes q n → Fit sizes (Plain (Ldi 30 k) ∷ rounded_code q n)
      by_bits q y =
          joined (fits sizes) (Plain (Ldi 30 k) ∷ []) (rounded_code q n) (rw (lt-ltb k 256 small) refl) (rounded_fits q n some few y)

      by_place : (q : Location) → BytesFit sizes q n → Fit sizes (rounded_by_code q n k)
      by_place (InMemory o j) y = by_bits (InMemory o j) y
      by_place (InRegisters r) y = by_bytes (takes_known_bias r k) refl
        where
          ltb_true : (a b : ℕ) → nat_lt a b ≡ true → a < b
          ltb_true a b h = grind (arith, nat_tests)

          mask : nat_lt k 8 ≡ true → 2 ^ k - 1 < 256
          mask t = let h = few_bits k (ltb_true k 8 t) in omega (arith, h)

          byte_fits : (i : ℕ) → i < n → Fit sizes (biased_byte r i)
          byte_fits zero l = rw (lt-ltb (r + 0) 32 (y 0 l)) refl
          byte_fits (suc i) l = rw (lt-ltb (r + suc i) 32 (y (suc i) l)) refl

          by_count : (b : Bool) → nat_lt k 8 ≡ b → Fit sizes (if b then bias_code r n k ++ counted_code (Right true) (InRegisters r) n k
              else Plain (Ldi 30 k) ∷ rounded_code (InRegisters r) n)
          by_count false t = by_bits (InRegisters r) y
          by_count true t =
              joined (fits sizes) (bias_code r n k) (counted_code (Right true) (InRegisters r) n k)
              (joined (fits sizes) (sign_code (InRegisters r) n)
              (Plain (Andi 31 (2 ^ k - 1)) ∷ Plain (Eor 0 0) ∷ chain (biased_byte r) n)
              (joined (fits sizes) (take_byte (InRegisters r) (n - 1)) (Plain (Add 0 0) ∷ Plain (Sbc 31 31) ∷ [])
              (take_fits (InRegisters r) (n - 1) (y (n - 1) (omega (arith, some)))) refl)
              (joined (fits sizes) (Plain (Andi 31 (2 ^ k - 1)) ∷ Plain (Eor 0 0) ∷ []) (chain (biased_byte r) n)
              (rw (lt-ltb (2 ^ k - 1) 256 (mask t)) refl) (chained (fits sizes) (biased_byte r) n byte_fits)))
              (counted_fits sizes (Right true) (InRegisters r) n k few small y)

          -- the bytes of the bias fit registers of R16 and above
          known_fits : takes_known_bias r k ≡ true → Fit sizes (known_bias_code r n k)
          known_fits t =
              let parts = and_parts (nat_le 16 r) (nat_le 1 k) t in
              let high = leb-true 16 r parts.0 in
              let one = leb-true 1 k parts.1 in
              joined (fits sizes) (Plain (Sbrs (r + (n - 1)) 7) ∷ Plain (Rjmp (pos n)) ∷ []) (chain (known_bias_byte r k) n)
              (rw (reg (r + (n - 1)) (y (n - 1) (omega (arith, some))), lt-ltb n 2048 (omega (arith, few))) refl)
              (chained (fits sizes) (known_bias_byte r k) n
              (λ i l. let b = known_in_table k i (r + i) one (omega (arith, high)) (y i l) in rw b refl))

          by_bytes : (b : Bool) → takes_known_bias r k ≡ b
              → Fit sizes (if b then known_bias_code r n k ++ counted_code (Right true) (InRegisters r) n k
              else if nat_lt k 8 then bias_code r n k ++ counted_code (Right true) (InRegisters r) n k
              else Plain (Ldi 30 k) ∷ rounded_code (InRegisters r) n)
          by_bytes false t = by_count (nat_lt k 8) refl
          by_bytes true t =
              joined (fits sizes) (known_bias_code r n k) (counted_code (Right true) (InRegisters r) n k) (known_fits t)
              (counted_fits sizes (Right true) (InRegisters r) n k few small y)

  placed_by_fits : (left signed : Bool) (p : Location) (n k : ℕ) → 1 ≤ n → n ≤ 8 → k < 256 → BytesFit sizes p n
      → Fit sizes (placed_by_code left signed p n k)
  placed_by_fits true signed p n k some few small x = counted_fits sizes Left p n k few small x
  placed_by_fits false true p n k some few small x = rounded_by_fits p n k some few small x
  placed_by_fits false false p n k some few small x = counted_fits sizes (Right false) p n k few small x

  module _ (known : Option RightNumber) (signed : Bool) (a b to : Location) (top : ℕ) (few : top ≤ 7)
      (moved : Fit sizes (move_code a to (suc top)))
      (z : BytesFit sizes to (suc top)) where
    shifted_fits : (known : Option ℤ) (left : Bool) → Fit sizes (move_code b (InRegisters 30) 1)
        → Fit sizes (placed_shift known left signed a b to top)
    shifted_fits (Some k) left counted =
        joined (fits sizes) (move_code a to (suc top)) (placed_by_code left signed to (suc top) (low_bytes 16 k % 256)) moved
        (placed_by_fits left signed to (suc top) (low_bytes 16 k % 256) (omega arith) (omega arith) (omega arith) z)
    shifted_fits None left counted =
        joined (fits sizes) (move_code b (InRegisters 30) 1) (move_code a to (suc top) ++ placed_code left signed to (suc top)) counted
        (joined (fits sizes) (move_code a to (suc top)) (placed_code left signed to (suc top)) moved
        (placed_fits left signed to (suc top) (omega arith) (omega arith) z))

    summed_fits : (minus : Bool) → BytesFit sizes b (suc top) → Fit sizes (stopped_code minus signed a b to top)
    summed_fits minus y = stopped_fits sizes minus signed a b to top few moved y z

    pub whole_fits : (op : BinOp) → (BytesFit sizes b 1 → Fit sizes (move_code b (InRegisters 30) 1))
        → BytesFit sizes b (second_bytes op (suc top)) → Fit sizes (placed_whole known op signed a b to top)
    whole_fits Shl counted y = shifted_fits (number_known known) true (counted y)
    whole_fits Shr counted y = shifted_fits (number_known known) false (counted y)
    whole_fits Plus counted y = summed_fits (is_difference Plus) y
    whole_fits Sub counted y = summed_fits (is_difference Sub) y
    whole_fits Mul counted y = summed_fits (is_difference Mul) y
    whole_fits Div counted y = summed_fits (is_difference Div) y
    whole_fits Rem counted y = summed_fits (is_difference Rem) y
    whole_fits And counted y = summed_fits (is_difference And) y
    whole_fits Or counted y = summed_fits (is_difference Or) y
    whole_fits Xor counted y = summed_fits (is_difference Xor) y
    whole_fits Lt counted y = summed_fits (is_difference Lt) y
    whole_fits Gt counted y = summed_fits (is_difference Gt) y
    whole_fits Le counted y = summed_fits (is_difference Le) y
    whole_fits Ge counted y = summed_fits (is_difference Ge) y
    whole_fits Eq counted y = summed_fits (is_difference Eq) y
    whole_fits Ne counted y = summed_fits (is_difference Ne) y
