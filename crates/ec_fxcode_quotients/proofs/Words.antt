-- The steps and words of a turn.
use Rattle.std.proofs.Common.{◌≡◌, ℕ, zero, suc, ◌+◌, ◌*◌, ◌<◌, ◌≤◌, true, [], ◌∷◌, ◌++◌, refl, arith}
use Rattle.std.proofs.lemmas.List.Sums.{sum_by-append}
use Rattle.ec_isa.specs.declared.instructions.Instr.TheVariants.{Adc}
use Rattle.ec_asm.specs.declared.items.AsmItem.TheVariants.{Plain}
use Rattle.ec_asm.specs.declared.pieces.Location.{Location}
use Rattle.ec_asm.specs.declared.pieces.Location.TheVariants.{InRegisters, InMemory}
use Rattle.ec_asm.specs.declared.pieces.Operator.TheVariants.{Sum, Difference}
use Rattle.ec_asm.specs.Items.{all_straight, code_steps, code_words, item_words}
use Rattle.ec_asm.specs.Pieces.{operate_byte, operate_code, compare_byte, compare_code}
use Rattle.ec_asm.proofs.Hoare.{straight-append, steps-append}
use Rattle.ec_asm.specs.Change.{Env, Own}
use Rattle.ec_asm.specs.Pieces.{StandsFrom}
use Rattle.ec_asm.proofs.Far.{operate_far, compare_far as operands_far}
use Rattle.ec_asm.proofs.ItemWords.{chain_words, sum_words, sum_words_far, all_far, far-append, chain_far, own_far}
use Rattle.ec_asm.proofs.Results.{pieces_are_straight, pieces_take}
use Rattle.ec_select_quotients.specs.Quotients.{mark_code as lowest_code}
use Rattle.ec_select_quotients.proofs.Marks.{mark_straight, mark_steps}
use Rattle.ec_fxcode.specs.Clamps.{take_byte, put_byte}
use Rattle.ec_fxcode.proofs.Short.{IsShort, joined, chained, take_short, put_short}
use Rattle.ec_fxcode_quotients.specs.Quotients.{remainder_at, number_at, rotate_byte, rotate_code, bring_code, bring_words, take_code}
use Rattle.ec_fxcode_quotients.specs.Quotients.{take_words, skip_code, turn_code, turn_words}

rotate_byte_short : (r : Location) (i : ℕ) → IsShort (rotate_byte r i) 3 5
rotate_byte_short r i =
    joined (take_byte r i) (Plain (Adc 0 0) ∷ put_byte 0 r i) 1 2 2 3 (take_short r i)
    (joined (Plain (Adc 0 0) ∷ []) (put_byte 0 r i) 1 1 1 2 (record { straight = refl; steps_are = omega arith; words_are = omega arith })
    (put_short 0 r i))

pub rotate_short : (r : Location) (m : ℕ) → IsShort (rotate_code r m) (m * 3) (m * 5)
rotate_short r m = chained (rotate_byte r) m 3 5 (rotate_byte_short r)

pub bring_straight : (d r x : Location) (m n : ℕ) → all_straight (bring_code d r x m n) ≡ true
bring_straight d r x m n =
    straight-append (operate_code Sum x x n) (rotate_code r m ++ compare_code d r m) (pieces_are_straight Sum x x n).1
    (straight-append (rotate_code r m) (compare_code d r m) (rotate_short r m).straight (pieces_are_straight Sum d r m).2)

-- all bytes in memory are those of the work bytes
rotated_far : (e : Env) (r : Location) (i m a : ℕ) → StandsFrom e r m a Own → i < m → all_far e (rotate_byte r i) ≡ true
rotated_far e (InRegisters s) i m a st l = refl
rotated_far e (InMemory o k) i m a st l = rw (own_far e o k i m a st l) refl

pub bring_far : (e : Env) (d r x : Location) (m n jd jr jx : ℕ) → StandsFrom e d m jd Own → StandsFrom e r m jr Own
    → StandsFrom e x n jx Own → all_far e (bring_code d r x m n) ≡ true
bring_far e d r x m n jd jr jx sd sr sx =
    far-append e (operate_code Sum x x n) (rotate_code r m ++ compare_code d r m) (operate_far e Sum x x n jx jx sx sx)
    (far-append e (rotate_code r m) (compare_code d r m) (chain_far e (rotate_byte r) m (λ i l. rotated_far e r i m jr sr l))
    (operands_far e d r m jd jr sd sr))

lowest_far : (e : Env) (x : Location) (n jx : ℕ) → StandsFrom e x (suc n) jx Own → all_far e (lowest_code x) ≡ true
lowest_far e (InRegisters s) n jx st = refl
lowest_far e (InMemory o k) n jx st = rw (own_far e o k 0 (suc n) jx st (omega arith)) refl

pub take_far : (e : Env) (d r x : Location) (m n jd jr jx : ℕ) → StandsFrom e d m jd Own → StandsFrom e r m jr Own
    → StandsFrom e x (suc n) jx Own → all_far e (take_code d r x m) ≡ true
take_far e d r x m n jd jr jx sd sr sx =
    far-append e (operate_code Difference d r m) (lowest_code x) (operate_far e Difference d r m jd jr sd sr) (lowest_far e x n jx sx)

pub bring_steps : (d r x : Location) (m n : ℕ) → code_steps (bring_code d r x m n) ≤ 4 * n + 6 * m
bring_steps d r x m n =
    let a = (pieces_take Sum x x n).1.1 in
    let b = (rotate_short r m).steps_are in
    let c = (pieces_take Sum d r m).2.1 in
    omega (
      arith,
      steps-append (operate_code Sum x x n) (rotate_code r m ++ compare_code d r m),
      steps-append (rotate_code r m) (compare_code d r m),
      a,
      b,
      c,
    )

pub take_straight : (d r x : Location) (m : ℕ) → all_straight (take_code d r x m) ≡ true
take_straight d r x m =
    straight-append (operate_code Difference d r m) (lowest_code x) (pieces_are_straight Difference d r m).1 (mark_straight x)

pub take_steps : (d r x : Location) (m : ℕ) → code_steps (take_code d r x m) ≤ 4 * m + 3
take_steps d r x m =
    let a = (pieces_take Difference d r m).1.1 in
    let b = mark_steps x in
    omega (arith, steps-append (operate_code Difference d r m) (lowest_code x), a, b)

-- ---- words

less_near : (r s i : ℕ) → code_words (operate_byte Difference (InRegisters r) (InRegisters s) i) ≡ 1
less_near r s zero = refl
less_near r s (suc i) = refl

less_far : (o k p j i : ℕ) → code_words (operate_byte Difference (InMemory o k) (InMemory p j) i) ≡ 7
less_far o k p j zero = refl
less_far o k p j (suc i) = refl

compare_near : (r s i : ℕ) → code_words (compare_byte (InRegisters r) (InRegisters s) i) ≡ 1
compare_near r s zero = refl
compare_near r s (suc i) = refl

compare_far : (o k p j i : ℕ) → code_words (compare_byte (InMemory o k) (InMemory p j) i) ≡ 5
compare_far o k p j zero = refl
compare_far o k p j (suc i) = refl

pub bring_has_words : (w : Location) (b n : ℕ)
    → code_words (bring_code w (remainder_at w b) (number_at w b) (suc b) n) ≡ bring_words w (suc b) n
bring_has_words (InRegisters r) b n =
    let x = r + (2 * b + 2) in
    let y = r + suc b in
    let p = chain_words (operate_byte Sum (InRegisters x) (InRegisters x)) n 1 (sum_words x) in
    let q = chain_words (rotate_byte (InRegisters y)) (suc b) 3 (λ i. refl) in
    let s = chain_words (compare_byte (InRegisters r) (InRegisters y)) (suc b) 1 (compare_near r y) in
    omega (
      arith,
      sum_by-append item_words (operate_code Sum (InRegisters x) (InRegisters x) n)
          (rotate_code (InRegisters y) (suc b) ++ compare_code (InRegisters r) (InRegisters y) (suc b)),
      sum_by-append item_words (rotate_code (InRegisters y) (suc b)) (compare_code (InRegisters r) (InRegisters y) (suc b)),
      p,
      q,
      s,
    )
bring_has_words (InMemory o k) b n =
    let x = k + (2 * b + 2) in
    let y = k + suc b in
    let p = chain_words (operate_byte Sum (InMemory o x) (InMemory o x)) n 7 (sum_words_far o x) in
    let q = chain_words (rotate_byte (InMemory o y)) (suc b) 5 (λ i. refl) in
    let s = chain_words (compare_byte (InMemory o k) (InMemory o y)) (suc b) 5 (compare_far o k o y) in
    omega (
      arith,
      sum_by-append item_words (operate_code Sum (InMemory o x) (InMemory o x) n)
          (rotate_code (InMemory o y) (suc b) ++ compare_code (InMemory o k) (InMemory o y) (suc b)),
      sum_by-append item_words (rotate_code (InMemory o y) (suc b)) (compare_code (InMemory o k) (InMemory o y) (suc b)),
      p,
      q,
      s,
    )

pub take_has_words : (w : Location) (b : ℕ)
    → code_words (take_code w (remainder_at w b) (number_at w b) (suc b)) ≡ take_words w (suc b)
take_has_words (InRegisters r) b =
    let y = r + suc b in
    let p = chain_words (operate_byte Difference (InRegisters r) (InRegisters y)) (suc b) 1 (less_near r y) in
    omega (
      arith,
      sum_by-append item_words (operate_code Difference (InRegisters r) (InRegisters y) (suc b))
          (lowest_code (number_at (InRegisters r) b)),
      p,
    )
take_has_words (InMemory o k) b =
    let y = k + suc b in
    let p = chain_words (operate_byte Difference (InMemory o k) (InMemory o y)) (suc b) 7 (less_far o k o y) in
    omega (
      arith,
      sum_by-append item_words (operate_code Difference (InMemory o k) (InMemory o y) (suc b)) (lowest_code (number_at (InMemory o k) b)),
      p,
    )

pub turn_has_words : (w : Location) (b n : ℕ) → code_words (turn_code w b n) ≡ turn_words w b n
turn_has_words w b n =
    let r = remainder_at w b in
    let x = number_at w b in
    omega (
      arith,
      sum_by-append item_words (bring_code w r x (suc b) n) (skip_code w (suc b) ++ take_code w r x (suc b)),
      sum_by-append item_words (skip_code w (suc b)) (take_code w r x (suc b)),
      bring_has_words w b n,
      take_has_words w b,
    )
