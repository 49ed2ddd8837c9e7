-- The form of the code: the words and steps of one bit, and the words of the whole.
use Rattle.std.proofs.Common.{◌≡◌, ℕ, zero, suc, ◌+◌, ◌-◌, ◌*◌, ◌^◌, ◌<◌, ◌≤◌, true, false, refl, arith, ◌++◌}
use Rattle.std.proofs.lemmas.List.Sums.{sum_by-append}
use Rattle.ec_asm.specs.declared.pieces.Location.{Location}
use Rattle.ec_asm.specs.declared.pieces.Location.TheVariants.{InRegisters, InMemory}
use Rattle.ec_asm.specs.declared.pieces.Operator.TheVariants.{Sum}
use Rattle.ec_asm.specs.Items.{all_straight, code_steps, code_words, item_words}
use Rattle.ec_asm.specs.Change.{Env, Own}
use Rattle.ec_asm.specs.Pieces.{StandsFrom, halve_code}
use Rattle.ec_asm.proofs.Hoare.{straight-append, steps-append}
use Rattle.ec_asm.proofs.Far.{halve_far}
use Rattle.ec_asm.proofs.ItemWords.{chain_words, all_far, far-append, chain_far, own_far}
use Rattle.ec_asm.proofs.Results.{pieces_are_straight, pieces_take}
use Rattle.ec_select_shifts.specs.declared.shifts.Direction.{Direction}
use Rattle.ec_select_shifts.specs.declared.shifts.Direction.TheVariants.{Left, Right}
use Rattle.ec_select_shifts.specs.Shifts.{turn_words}
use Rattle.ec_select_shifts.proofs.Words.{turn_has_words, shifts_have_words}
use Rattle.ec_fxcode.specs.Clamps.{sign_code}
use Rattle.ec_fxcode.proofs.Short.{IsShort, sign_short, chained}
use Rattle.ec_fxcode_placed.specs.Shifts.{raise_byte, raise_code, half_code, half_words, enter_code, again_code}
use Rattle.ec_fxcode_placed.specs.ShiftLaws.{PlacedShiftsHave}

-- ---- one bit

raise_byte_short : (p : Location) (i : ℕ) → IsShort (raise_byte p i) 3 5
raise_byte_short (InRegisters r) zero = record { straight = refl; steps_are = omega arith; words_are = omega arith }
raise_byte_short (InRegisters r) (suc i) = record { straight = refl; steps_are = omega arith; words_are = omega arith }
raise_byte_short (InMemory o k) zero = record { straight = refl; steps_are = omega arith; words_are = omega arith }
raise_byte_short (InMemory o k) (suc i) = record { straight = refl; steps_are = omega arith; words_are = omega arith }

pub half_straight : (p : Location) (n : ℕ) → all_straight (half_code p n) ≡ true
half_straight p n =
    straight-append (sign_code p n) (raise_code p n ++ halve_code true p n) (sign_short p n).straight
    (straight-append (raise_code p n) (halve_code true p n) (chained (raise_byte p) n 3 5 (raise_byte_short p)).straight
    ((pieces_are_straight Sum p p n).3 true))

-- all its bytes in memory are those of the place
sign_far : (e : Env) (p : Location) (n a : ℕ) → StandsFrom e p (suc n) a Own → all_far e (sign_code p (suc n)) ≡ true
sign_far e (InRegisters r) n a st = refl
sign_far e (InMemory o k) n a st = rw (own_far e o k (suc n - 1) (suc n) a st (omega arith)) refl

raised_far : (e : Env) (p : Location) (i n a : ℕ) → StandsFrom e p n a Own → i < n → all_far e (raise_byte p i) ≡ true
raised_far e (InRegisters r) i n a st l = refl
raised_far e (InMemory o k) i n a st l = rw (own_far e o k i n a st l) refl

pub half_far : (e : Env) (p : Location) (n a : ℕ) → StandsFrom e p (suc n) a Own → all_far e (half_code p (suc n)) ≡ true
half_far e p n a st =
    far-append e (sign_code p (suc n)) (raise_code p (suc n) ++ halve_code true p (suc n)) (sign_far e p n a st)
    (far-append e (raise_code p (suc n)) (halve_code true p (suc n))
    (chain_far e (raise_byte p) (suc n) (λ i l. raised_far e p i (suc n) a st l)) (halve_far e true p (suc n) a st))

pub half_takes : (p : Location) (n : ℕ) → code_steps (half_code p n) ≤ 3 + 6 * n
half_takes p n =
    let a = (sign_short p n).steps_are in
    let b = (chained (raise_byte p) n 3 5 (raise_byte_short p)).steps_are in
    let c = ((pieces_take Sum p p n).3 true).1 in
    omega (
      arith,
      steps-append (sign_code p n) (raise_code p n ++ halve_code true p n),
      steps-append (raise_code p n) (halve_code true p n),
      a,
      b,
      c,
    )

raise_words : (r i : ℕ) → code_words (raise_byte (InRegisters r) i) ≡ 1
raise_words r zero = refl
raise_words r (suc i) = refl

raise_words_far : (o k i : ℕ) → code_words (raise_byte (InMemory o k) i) ≡ 5
raise_words_far o k zero = refl
raise_words_far o k (suc i) = refl

pub half_has_words : (p : Location) (n : ℕ) → code_words (half_code p n) ≡ half_words p n
half_has_words (InRegisters r) n =
    let p = InRegisters r in
    let a : code_words (sign_code p n) ≡ 3 = refl in
    let b = chain_words (raise_byte p) n 1 (raise_words r) in
    let c = turn_has_words (Right true) p n in
    omega (
      arith,
      sum_by-append item_words (sign_code p n) (raise_code p n ++ halve_code true p n),
      sum_by-append item_words (raise_code p n) (halve_code true p n),
      a,
      b,
      c,
    )
half_has_words (InMemory o k) n =
    let p = InMemory o k in
    let a : code_words (sign_code p n) ≡ 4 = refl in
    let b = chain_words (raise_byte p) n 5 (raise_words_far o k) in
    let c = turn_has_words (Right true) p n in
    omega (
      arith,
      sum_by-append item_words (sign_code p n) (raise_code p n ++ halve_code true p n),
      sum_by-append item_words (raise_code p n) (halve_code true p n),
      a,
      b,
      c,
    )

-- ---- the whole

half_most : (p : Location) (n : ℕ) → half_words p n ≤ 4 + 10 * n
half_most (InRegisters r) n = omega arith
half_most (InMemory o k) n = omega arith

turn_most : (s : Direction) (p : Location) (n : ℕ) → turn_words s p n ≤ 7 * n
turn_most Left (InRegisters r) n = omega arith
turn_most Left (InMemory o k) n = omega arith
turn_most (Right signed) (InRegisters r) n = omega arith
turn_most (Right signed) (InMemory o k) n = omega arith

pub placed_shifts_have : PlacedShiftsHave
placed_shifts_have true signed p n =
    let a = shifts_have_words Left p n in
    let b = turn_most Left p n in
    omega (arith, a, b)
placed_shifts_have false false p n =
    let a = shifts_have_words (Right false) p n in
    let b = turn_most (Right false) p n in
    omega (arith, a, b)
placed_shifts_have false true p n =
    let a = half_has_words p n in
    let b = half_most p n in
    omega (
      arith,
      sum_by-append item_words (enter_code p n) (half_code p n ++ again_code p n),
      sum_by-append item_words (half_code p n) (again_code p n),
      a,
      b,
    )

-- ---- few bits

pub few_bits : (k : ℕ) → k < 8 → 2 ^ k ≤ 128
few_bits zero l = omega arith
few_bits (suc zero) l = omega arith
few_bits (suc (suc zero)) l = omega arith
few_bits (suc (suc (suc zero))) l = omega arith
few_bits (suc (suc (suc (suc zero)))) l = omega arith
few_bits (suc (suc (suc (suc (suc zero))))) l = omega arith
few_bits (suc (suc (suc (suc (suc (suc zero)))))) l = omega arith
few_bits (suc (suc (suc (suc (suc (suc (suc zero))))))) l = omega arith
few_bits (suc (suc (suc (suc (suc (suc (suc (suc k)))))))) l = absurd (omega (arith, l))
