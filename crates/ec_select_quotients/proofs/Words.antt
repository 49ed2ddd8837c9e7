-- The words of the code of division.
use Rattle.std.proofs.Common.{◌≡◌, ℕ, zero, suc, ◌+◌, ◌*◌, ◌≤◌, Bool, true, false, refl, arith}
use Rattle.std.proofs.lemmas.List.Sums.{sum_by-append}
use Rattle.ec_asm.specs.declared.pieces.Location.{Location}
use Rattle.ec_asm.specs.declared.pieces.Location.TheVariants.{InRegisters, InMemory}
use Rattle.ec_asm.specs.declared.pieces.Operator.TheVariants.{Sum}
use Rattle.ec_asm.specs.Items.{all_straight, code_steps, code_words, item_words}
use Rattle.ec_asm.specs.Pieces.{operate_byte, operate_code}
use Rattle.ec_asm.proofs.Hoare.{straight-append, steps-append}
use Rattle.ec_asm.specs.Change.{Env, Own}
use Rattle.ec_asm.specs.Pieces.{StandsFrom}
use Rattle.ec_asm.proofs.Far.{operate_far}
use Rattle.ec_asm.proofs.ItemWords.{chain_words, sum_words, sum_words_far, all_far, far-append, chain_far, own_far}
use Rattle.ec_asm.proofs.Results.{pieces_are_straight, pieces_take}
use Rattle.ec_select_quotients.specs.Quotients.{rotate_byte, rotate_code, test_byte, test_code, rows_code, bring_code, bring_words}
use Rattle.ec_select_quotients.specs.Quotients.{note_code, note_words, less_byte, less_code, take_code, take_words}
use Rattle.ec_select_quotients.proofs.Rotates.{rotate_straight, rotate_steps}
use Rattle.ec_select_quotients.proofs.Rows.{test_straight, test_steps, less_straight, less_steps}
use Rattle.ec_select_quotients.proofs.Marks.{mark_straight, mark_steps}

test_words : (i : ℕ) → code_words (test_byte i) ≡ 1
test_words zero = refl
test_words (suc i) = refl

less_words : (i : ℕ) → code_words (less_byte i) ≡ 1
less_words zero = refl
less_words (suc i) = refl

rows_words : (m : ℕ) → code_words (rows_code m) ≡ m + m
rows_words m =
    let a = chain_words rotate_byte m 1 (λ i. refl) in
    let b = chain_words test_byte m 1 test_words in
    omega (arith, sum_by-append item_words (rotate_code m) (test_code m), a, b)

pub bring_has_words : (p : Location) (n : ℕ) → code_words (bring_code p n) ≡ bring_words p n
bring_has_words (InRegisters r) n =
    let a = chain_words (operate_byte Sum (InRegisters r) (InRegisters r)) n 1 (sum_words r) in
    let b = rows_words n in
    omega (arith, sum_by-append item_words (operate_code Sum (InRegisters r) (InRegisters r) n) (rows_code n), a, b)
bring_has_words (InMemory o k) n =
    let a = chain_words (operate_byte Sum (InMemory o k) (InMemory o k)) n 7 (sum_words_far o k) in
    let b = rows_words n in
    omega (arith, sum_by-append item_words (operate_code Sum (InMemory o k) (InMemory o k) n) (rows_code n), a, b)

note_has_words : (r : Bool) (p : Location) → code_words (note_code r p) ≡ note_words r p
note_has_words true p = refl
note_has_words false (InRegisters r) = refl
note_has_words false (InMemory o k) = refl

pub take_has_words : (r : Bool) (p : Location) (n : ℕ) → code_words (take_code r p n) ≡ take_words r p n
take_has_words r p n =
    let a = chain_words less_byte n 1 less_words in
    let b = note_has_words r p in
    omega (arith, sum_by-append item_words (less_code n) (note_code r p), a, b)

pub bring_straight : (p : Location) (n : ℕ) → all_straight (bring_code p n) ≡ true
bring_straight p n =
    straight-append (operate_code Sum p p n) (rows_code n) (pieces_are_straight Sum p p n).1
    (straight-append (rotate_code n) (test_code n) (rotate_straight n) (test_straight n))

-- all bytes in memory are the number's
test_is_far : (e : Env) (i : ℕ) → all_far e (test_byte i) ≡ true
test_is_far e zero = refl
test_is_far e (suc i) = refl

less_is_far : (e : Env) (i : ℕ) → all_far e (less_byte i) ≡ true
less_is_far e zero = refl
less_is_far e (suc i) = refl

pub bring_far : (e : Env) (p : Location) (n a : ℕ) → StandsFrom e p n a Own → all_far e (bring_code p n) ≡ true
bring_far e p n a st =
    far-append e (operate_code Sum p p n) (rows_code n) (operate_far e Sum p p n a a st st)
    (far-append e (rotate_code n) (test_code n) (chain_far e rotate_byte n (λ i l. refl)) (chain_far e test_byte n (λ i l. test_is_far e i)))

note_far : (r : Bool) (e : Env) (p : Location) (n a : ℕ) → StandsFrom e p (suc n) a Own → all_far e (note_code r p) ≡ true
note_far true e p n a st = refl
note_far false e (InRegisters r) n a st = refl
note_far false e (InMemory o k) n a st = rw (own_far e o k 0 (suc n) a st (omega arith)) refl

pub take_far : (r : Bool) (e : Env) (p : Location) (n a : ℕ) → StandsFrom e p (suc n) a Own
    → all_far e (take_code r p (suc n)) ≡ true
take_far r e p n a st =
    far-append e (less_code (suc n)) (note_code r p) (chain_far e less_byte (suc n) (λ i l. less_is_far e i)) (note_far r e p n a st)

pub bring_steps : (p : Location) (n : ℕ) → code_steps (bring_code p n) ≤ 4 * n + 2 * n
bring_steps p n =
    let a = (pieces_take Sum p p n).1.1 in
    omega (
      arith,
      steps-append (operate_code Sum p p n) (rows_code n),
      steps-append (rotate_code n) (test_code n),
      a,
      rotate_steps n,
      test_steps n,
    )

note_straight : (r : Bool) (p : Location) → all_straight (note_code r p) ≡ true
note_straight true p = refl
note_straight false p = mark_straight p

note_steps : (r : Bool) (p : Location) → code_steps (note_code r p) ≤ 3
note_steps true p = omega arith
note_steps false p = mark_steps p

pub take_straight : (r : Bool) (p : Location) (n : ℕ) → all_straight (take_code r p n) ≡ true
take_straight r p n = straight-append (less_code n) (note_code r p) (less_straight n) (note_straight r p)

pub take_steps : (r : Bool) (p : Location) (n : ℕ) → code_steps (take_code r p n) ≤ n + 3
take_steps r p n =
    let b = note_steps r p in
    omega (arith, steps-append (less_code n) (note_code r p), less_steps n, b)
