-- The words of operators that combine a number with a known one.
use Rattle.std.proofs.Common.{◌≡◌, ℕ, ◌+◌, ◌-◌, ◌*◌, ◌<◌, ◌≤◌, Bool, true, false, [], ◌++◌, refl, arith, leb-false, min}
use Rattle.std.specs.Prelude.{nat_le, if◌then◌else◌}
use Rattle.ec_asm.specs.declared.pieces.Location.{Location}
use Rattle.ec_asm.specs.declared.pieces.Location.TheVariants.{InRegisters, InMemory}
use Rattle.ec_asm.specs.declared.pieces.Operator.{Operator}
use Rattle.ec_asm.specs.declared.pieces.Operator.TheVariants.{BitAnd}
use Rattle.ec_asm.specs.Items.{code_words}
use Rattle.ec_select_bytes.specs.Values.{put_byte, fill_code, puts_code, clear_byte, widen_code, extend_code}
use Rattle.ec_select_numbers.specs.Laws.{NumbersAreStraight}
use Rattle.ec_select_operations.specs.Code.{same_location, transfer_code, move_code, changed_by_code, masks_low}
use Rattle.ec_select_operations.specs.Code.{low_mask_code, combined_by_code}
use Rattle.ec_select.proofs.ByNumber.{changed_by_words}
use Rattle.ec_select.proofs.Words.{joined_words, chained_words, transfer_words_most}

-- a byte gets zeros above it
extended_words : (p : Location) (n : ℕ) → code_words (extend_code false p 1 n) ≤ 3 * (n - 1)
extended_words p n = by_more (nat_le n 1) refl
  where
    widened : (p : Location) → 1 < n → code_words (widen_code false p 1 (n - 1)) ≤ 3 * (n - 1)
    widened (InRegisters r) l = let x = chained_words (λ i. clear_byte r (1 + i)) (n - 1) 1 (λ i. omega arith) in omega (arith, x)
    widened (InMemory o k) l =
        let x = chained_words (λ i. put_byte (InMemory o k) (1 + i)) (n - 1) 2 (λ i. omega arith) in
        omega (arith, x, l, joined_words (fill_code false (InMemory o k) 1) (puts_code (InMemory o k) 1 (n - 1)))

    by_more : (x : Bool) → nat_le n 1 ≡ x → code_words (if x then [] else widen_code false p 1 (n - 1)) ≤ 3 * (n - 1)
    by_more true e = omega arith
    by_more false e = widened p (leb-false n 1 e)

moved_words : (p q : Location) (n : ℕ) → code_words (move_code p q n) ≤ 4 * n
moved_words p q n = by_place (same_location p q)
  where
    by_place : (x : Bool) → code_words (if x then [] else transfer_code p q n) ≤ 4 * n
    by_place true = omega arith
    by_place false = transfer_words_most p q n

module _ (laws : NumbersAreStraight) (op : Operator) (p q : Location) (number n : ℕ) where
  pub combined_by_words : code_words (combined_by_code op p q number n) ≤ 9 * n
  combined_by_words = by_mask (masks_low op number)
    where
      by_mask : (x : Bool)
          → code_words (if x then low_mask_code p q number n else move_code p q n ++ changed_by_code op q number n) ≤ 9 * n
      by_mask true =
          let first = move_code p q (min n 1) in
          let second = changed_by_code BitAnd q number (min n 1) in
          let third = extend_code false q 1 n in
          let x = moved_words p q (min n 1) in
          let y = changed_by_words laws BitAnd q number (min n 1) in
          let z = extended_words q n in
          omega (arith, x, y, z, joined_words first (second ++ third), joined_words second third)
      by_mask false =
          let x = moved_words p q n in
          let y = changed_by_words laws op q number n in
          omega (arith, x, y, joined_words (move_code p q n) (changed_by_code op q number n))

  -- where nothing has to be brought to the result's place
  pub combined_by_place : ((m : ℕ) → code_words (move_code p q m) ≡ 0) → code_words (combined_by_code op p q number n) ≤ 5 * n
  combined_by_place none = by_mask (masks_low op number)
    where
      by_mask : (x : Bool)
          → code_words (if x then low_mask_code p q number n else move_code p q n ++ changed_by_code op q number n) ≤ 5 * n
      by_mask true =
          let first = move_code p q (min n 1) in
          let second = changed_by_code BitAnd q number (min n 1) in
          let third = extend_code false q 1 n in
          let x = none (min n 1) in
          let y = changed_by_words laws BitAnd q number (min n 1) in
          let z = extended_words q n in
          omega (arith, x, y, z, joined_words first (second ++ third), joined_words second third)
      by_mask false =
          let x = none n in
          let y = changed_by_words laws op q number n in
          omega (arith, x, y, joined_words (move_code p q n) (changed_by_code op q number n))
