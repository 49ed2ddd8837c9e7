-- The code that stops a sum or a difference at the ends of its range: its items fit, and its words.
use Rattle.std.proofs.Common.{◌≡◌, ℕ, suc, ◌+◌, ◌-◌, ◌*◌, ◌<◌, ◌≤◌, ◌==◌, Bool, true, false, [], ◌++◌, pos, refl}
use Rattle.std.proofs.Common.{subst, arith}
use Rattle.std.specs.Prelude.{◌&&◌, if◌then◌else◌}
use Rattle.std.proofs.lemmas.Bool.{le-leb, lt-ltb}
use Rattle.ec_isa.specs.declared.instructions.Instr.TheVariants.{Brbc}
use Rattle.ec_asm.specs.declared.items.AsmItem.TheVariants.{Plain}
use Rattle.ec_asm.specs.declared.pieces.Location.{Location}
use Rattle.ec_asm.specs.declared.pieces.Location.TheVariants.{InRegisters, InMemory}
use Rattle.ec_asm.specs.Items.{code_words}
use Rattle.ec_asm.specs.Pieces.{copy_code, operate_code}
use Rattle.ec_asm.specs.Valid.{Sizes}
use Rattle.ec_asm.proofs.ItemWords.{words_cons}
use Rattle.ec_fxcode.specs.Clamps.{put_byte}
use Rattle.ec_fxcode_limits.specs.Limits.{past_flag, fill_code, low_code, top_code, made_code, end_code, end_words, limit_code, operator_of}
use Rattle.ec_fxcode_limits.specs.Limits.{limited_code, opposite_code}
use Rattle.ec_fxcode_limits.proofs.Ends.{each_end, end_has}
use Rattle.ec_fxcode_limits.proofs.Limited.{limits_have}
use Rattle.ec_select_bytes.specs.Values.{constant_code}
use Rattle.ec_select_operations.specs.Code.{move_code, stopped_code, aside_location, from_zero_code, negated_code, negated_unary}
use Rattle.ec_select.proofs.Fitting.{fits, Fit, joined, chained, ByteFits, BytesFit, registers_fit, fewer_fit, reg}
use Rattle.ec_select.proofs.Pieces.{copy_fits, constant_fits, operate_fits}
use Rattle.ec_select.proofs.Words.{joined_words, copy_words_most, operate_words_most}

-- ---- words

-- the words that are passed over
passed_few : (minus signed : Bool) (q : Location) (n : ℕ) → end_words minus signed q n ≤ 5 + 2 * n
passed_few minus signed q n =
    let a = words_cons (Plain (Brbc (past_flag signed) (pos (end_words minus signed q n)))) (end_code minus signed q n) in
    let b = end_has minus signed q n in
    let c = limits_have minus signed q n in
    omega (arith, a, b, c)

pub limited_words : (minus signed : Bool) (b to : Location) (top : ℕ) → code_words (limited_code minus signed b to top) ≤ 9 * suc top + 4
limited_words minus signed b to top =
    let x = operate_words_most (operator_of minus) b to (suc top) in
    let z = limits_have minus signed to top in
    omega (arith, joined_words (operate_code (operator_of minus) b to (suc top)) (limit_code minus signed to top), x, z)

pub stopped_words : (minus signed : Bool) (a b to : Location) (top : ℕ) → code_words (move_code a to (suc top)) ≤ 4 * suc top
    → code_words (stopped_code minus signed a b to top) ≤ 13 * suc top + 4
stopped_words minus signed a b to top moved =
    let x = limited_words minus signed b to top in
    omega (arith, joined_words (move_code a to (suc top)) (limited_code minus signed b to top), moved, x)

-- a negation, where so many bytes are needed
pub negated_words : (signed : Bool) (a to : Location) (bytes n most : ℕ) → 1 ≤ bytes → code_words (constant_code to 0 bytes) ≤ 3 * bytes
    → 16 * bytes + 4 ≤ most → ((q : Location) → code_words (move_code a q 1) ≤ 4) → code_words (negated_unary signed a to bytes n) ≤ most
negated_words signed a to bytes n most some zero room moved = by_count (n == 0)
  where
    others : code_words (from_zero_code signed a to bytes) ≤ most
    others =
        let put = constant_code to 0 bytes in
        let limited = limited_code true signed aside_location to (bytes - 1) in
        let x = copy_words_most a aside_location bytes in
        let z = limited_words true signed aside_location to (bytes - 1) in
        omega (
          arith,
          joined_words (copy_code a aside_location bytes) (put ++ limited),
          joined_words put limited,
          x,
          zero,
          z,
          some,
          room,
        )

    by_place : (q : Location) → to ≡ q → code_words (negated_code signed a q bytes) ≤ most
    by_place (InMemory o k) is = subst (λ (q : Location). code_words (from_zero_code signed a q bytes) ≤ most) is others
    by_place (InRegisters r) is = by_kind (signed && bytes == 1)
      where
        by_kind : (b : Bool) → code_words (if b then move_code a (InRegisters r) 1 ++ opposite_code r
            else from_zero_code signed a (InRegisters r) bytes) ≤ most
        by_kind true =
            let x = moved (InRegisters r) in
            omega (arith, joined_words (move_code a (InRegisters r) 1) (opposite_code r), x, some, room)
        by_kind false = subst (λ (q : Location). code_words (from_zero_code signed a q bytes) ≤ most) is others

    by_count : (b : Bool) → code_words (if b then [] else negated_code signed a to bytes) ≤ most
    by_count true = omega arith
    by_count false = by_place to refl

-- ---- items

module _ (sizes : Sizes) where
  pub put_byte_fits : (s : ℕ) → s < 32 → (q : Location) (i : ℕ) → ByteFits sizes q i → Fit sizes (put_byte s q i)
  put_byte_fits s h (InRegisters r) i x = rw (reg (r + i) x, reg s h) refl
  put_byte_fits s h (InMemory o k) i x = rw (x, reg s h) refl

  -- a register that an immediate reaches
  fill_fits : (s : ℕ) → 16 ≤ s → s < 32 → (minus signed : Bool) → Fit sizes (fill_code s minus signed)
  fill_fits s reach low false true = rw (reg s low) refl
  fill_fits s reach low true true = rw (reg s low) refl
  fill_fits s reach low false false = rw (le-leb 16 s reach, reg s low) refl
  fill_fits s reach low true false = rw (le-leb 16 s reach, reg s low) refl

  top_fits : (s : ℕ) → 16 ≤ s → s < 32 → (signed : Bool) → Fit sizes (top_code s signed)
  top_fits s reach low true = rw (le-leb 16 s reach, reg s low) refl
  top_fits s reach low false = refl

  made_fits : (s : ℕ) → 16 ≤ s → s < 32 → (minus signed : Bool) (q : Location) (n : ℕ) → BytesFit sizes q n
      → Fit sizes (made_code s minus signed q n)
  made_fits s reach low minus signed q n x =
      joined (fits sizes) (fill_code s minus signed) (low_code s q n ++ top_code s signed) (fill_fits s reach low minus signed)
      (joined (fits sizes) (low_code s q n) (top_code s signed)
      (chained (fits sizes) (λ i. put_byte s q i) n (λ i l. put_byte_fits s low q i (x i l))) (top_fits s reach low signed))

  end_fits : (minus signed : Bool) (q : Location) (n : ℕ) → BytesFit sizes q (suc n) → Fit sizes (end_code minus signed q n)
  end_fits minus signed q n x =
      each_end (λ code words. Fit sizes code) minus signed q n
      (λ r is reach. made_fits (r + n) reach (subst (λ (p : Location). ByteFits sizes p n) is (x n (omega arith))) minus signed q n
      (fewer_fit sizes q n (suc n) (omega arith) x))
      (joined (fits sizes) (made_code 31 minus signed q n) (put_byte 31 q n)
      (made_fits 31 (omega arith) (omega arith) minus signed q n (fewer_fit sizes q n (suc n) (omega arith) x))
      (put_byte_fits 31 (omega arith) q n (x n (omega arith))))

  limit_fits : (minus signed : Bool) (q : Location) (n : ℕ) → n ≤ 7 → BytesFit sizes q (suc n) → Fit sizes (limit_code minus signed q n)
  limit_fits minus signed q n few x = by_sign signed
    where
      words : (signed : Bool) → end_words minus signed q n < 64
      words signed = let l = passed_few minus signed q n in omega arith

      by_sign : (signed : Bool) → Fit sizes (limit_code minus signed q n)
      by_sign true = rw (lt-ltb (end_words minus true q n) 64 (words true), end_fits minus true q n x) refl
      by_sign false = rw (lt-ltb (end_words minus false q n) 64 (words false), end_fits minus false q n x) refl

  pub limited_fits : (minus signed : Bool) (b to : Location) (top : ℕ) → top ≤ 7 → BytesFit sizes b (suc top) → BytesFit sizes to (suc top)
      → Fit sizes (limited_code minus signed b to top)
  limited_fits minus signed b to top few y z =
      joined (fits sizes) (operate_code (operator_of minus) b to (suc top)) (limit_code minus signed to top)
      (operate_fits sizes (operator_of minus) b to (suc top) y z) (limit_fits minus signed to top few z)

  pub stopped_fits : (minus signed : Bool) (a b to : Location) (top : ℕ) → top ≤ 7 → Fit sizes (move_code a to (suc top))
      → BytesFit sizes b (suc top) → BytesFit sizes to (suc top) → Fit sizes (stopped_code minus signed a b to top)
  stopped_fits minus signed a b to top few moved y z =
      joined (fits sizes) (move_code a to (suc top)) (limited_code minus signed b to top) moved
      (limited_fits minus signed b to top few y z)

  pub negated_fits : (signed : Bool) (a to : Location) (bytes n : ℕ) → 1 ≤ bytes → bytes ≤ 6 → BytesFit sizes a bytes
      → BytesFit sizes to bytes → ((q : Location) → BytesFit sizes q 1 → Fit sizes (move_code a q 1))
      → Fit sizes (negated_unary signed a to bytes n)
  negated_fits signed a to bytes n some few x z moved = by_count (n == 0)
    where
      aside : (i : ℕ) → i ≤ 6 → BytesFit sizes aside_location i
      aside i l = registers_fit sizes 8 i (omega (arith, l))

      others : Fit sizes (from_zero_code signed a to bytes)
      others =
          let put = constant_code to 0 bytes in
          let limited = limited_code true signed aside_location to (bytes - 1) in
          joined (fits sizes) (copy_code a aside_location bytes) (put ++ limited)
          (copy_fits sizes a aside_location bytes x (aside bytes few))
          (joined (fits sizes) put limited (constant_fits sizes to 0 bytes z)
          (limited_fits true signed aside_location to (bytes - 1) (omega (arith, few)) (aside (suc (bytes - 1)) (omega (arith, some, few)))
          (fewer_fit sizes to (suc (bytes - 1)) bytes (omega (arith, some)) z)))

      by_place : (q : Location) → to ≡ q → Fit sizes (negated_code signed a q bytes)
      by_place (InMemory o k) is = subst (λ (q : Location). Fit sizes (from_zero_code signed a q bytes)) is others
      by_place (InRegisters r) is = by_kind (signed && bytes == 1)
        where
          there : BytesFit sizes (InRegisters r) bytes
          there = subst (λ (q : Location). BytesFit sizes q bytes) is z

          low : r < 32
          low = let l : r + 0 < 32 = there 0 some in omega (arith, l)

          by_kind : (b : Bool) → Fit sizes (if b then move_code a (InRegisters r) 1 ++ opposite_code r
              else from_zero_code signed a (InRegisters r) bytes)
          by_kind true =
              joined (fits sizes) (move_code a (InRegisters r) 1) (opposite_code r)
              (moved (InRegisters r) (fewer_fit sizes (InRegisters r) 1 bytes some there)) (rw (reg r low) refl)
          by_kind false = subst (λ (q : Location). Fit sizes (from_zero_code signed a q bytes)) is others

      by_count : (b : Bool) → Fit sizes (if b then [] else negated_code signed a to bytes)
      by_count true = refl
      by_count false = by_place to refl
