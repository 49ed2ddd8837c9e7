-- The form of the pieces: straight code, and its steps and words.
use Rattle.std.proofs.Common.{◌≡◌, ℕ, zero, suc, ◌+◌, ◌-◌, ◌*◌, ◌≤◌, ⊎_elim, Bool, true, false, refl, arith}
use Rattle.std.specs.Prelude.{nat_le, if◌then◌else◌, List, [], ◌∷◌, ◌++◌}
use Rattle.std.proofs.lemmas.List.Sums.{sum_by-append}
use Rattle.std.proofs.lemmas.Bool.{cases_Bool}
use Rattle.ec_isa.specs.declared.instructions.Instr.TheVariants.{Eor}
use Rattle.ec_asm.specs.declared.items.AsmItem.{AsmItem}
use Rattle.ec_asm.specs.declared.items.AsmItem.TheVariants.{Plain}
use Rattle.ec_asm.specs.declared.pieces.Location.{Location}
use Rattle.ec_asm.specs.declared.pieces.Location.TheVariants.{InRegisters, InMemory}
use Rattle.ec_asm.specs.Items.{all_straight, code_steps, code_words, item_words, chain}
use Rattle.ec_asm.proofs.Hoare.{straight-append, steps-append}
use Rattle.ec_select_bytes.specs.Values.{byte_of, constant_byte, constant_code, byte_test, first_byte, join_byte, join_code}
use Rattle.ec_select_bytes.specs.Values.{test_code, put_byte}
use Rattle.ec_select_bytes.specs.Values.{fill_code, puts_code, clear_byte, clears_code, widen_code, extend_code}
use Rattle.ec_select_bytes.specs.Laws.{ValuesAreStraight, ValuesTake, ValuesHave}
use Rattle.ec_select_bytes.specs.Complements.{complement_byte, complement_code, carry_byte, carry_code, negation_code}
use Rattle.ec_select_bytes.proofs.Tests.{several}
use Rattle.ec_select_bytes.specs.ComplementLaws.{ComplementsAreStraight, ComplementsTake, ComplementsHave}

-- code that is straight, with at most so many steps and words
record IsShort (code : List AsmItem) (steps words : ℕ) : Type 0 where
  straight : all_straight code ≡ true
  steps_are : code_steps code ≤ steps
  words_are : code_words code ≤ words

joined : (a b : List AsmItem) (k m l n : ℕ) → IsShort a k l → IsShort b m n → IsShort (a ++ b) (k + m) (l + n)
joined a b k m l n p q =
    let s = p.steps_are in
    let t = q.steps_are in
    let u = p.words_are in
    let w = q.words_are in
    record {
      straight = straight-append a b p.straight q.straight;
      steps_are = omega (arith, steps-append a b, s, t);
      words_are = omega (arith, sum_by-append item_words a b, u, w);
    }

chained : (body : ℕ → List AsmItem) (n k l : ℕ) → ((i : ℕ) → IsShort (body i) k l)
    → IsShort (chain body n) (n * k) (n * l)
chained body zero k l h = record { straight = refl; steps_are = omega arith; words_are = omega arith }
chained body (suc n) k l h =
    let j = joined (chain body n) (body n) (n * k) k (n * l) l (chained body n k l h) (h n) in
    let s = j.steps_are in
    let w = j.words_are in
    record { straight = j.straight; steps_are = omega (arith, s); words_are = omega (arith, w) }

weaker : (code : List AsmItem) (k m l n : ℕ) → k ≤ m → l ≤ n → IsShort code k l → IsShort code m n
weaker code k m l n a b h =
    let s = h.steps_are in
    let w = h.words_are in
    record { straight = h.straight; steps_are = omega arith; words_are = omega arith }

by_reach : (byte d : ℕ) (b : Bool) (a c : List AsmItem) → IsShort a 2 3 → IsShort c 2 3 → IsShort (if b then a else c) 2 3
by_reach byte d true a c p q = p
by_reach byte d false a c p q = q

constant_short : (p : Location) (byte i : ℕ) → IsShort (constant_byte p byte i) 2 3
constant_short (InRegisters r) byte i =
    by_reach byte (r + i) (nat_le 16 (r + i)) _ _ (record { straight = refl; steps_are = omega arith; words_are = omega arith })
    (record { straight = refl; steps_are = omega arith; words_are = omega arith })
constant_short (InMemory o k) byte i = record { straight = refl; steps_are = omega arith; words_are = omega arith }

byte_short : (p : Location) → IsShort (byte_test p) 2 3
byte_short (InRegisters r) = record { straight = refl; steps_are = omega arith; words_are = omega arith }
byte_short (InMemory o k) = record { straight = refl; steps_are = omega arith; words_are = omega arith }

first_short : (p : Location) → IsShort (first_byte p) 1 2
first_short (InRegisters r) = record { straight = refl; steps_are = omega arith; words_are = omega arith }
first_short (InMemory o k) = record { straight = refl; steps_are = omega arith; words_are = omega arith }

join_short : (p : Location) (i : ℕ) → IsShort (join_byte p i) 2 3
join_short (InRegisters r) i = record { straight = refl; steps_are = omega arith; words_are = omega arith }
join_short (InMemory o k) i = record { straight = refl; steps_are = omega arith; words_are = omega arith }

put_short : (p : Location) (i : ℕ) → IsShort (put_byte p i) 1 2
put_short (InRegisters r) i = record { straight = refl; steps_are = omega arith; words_are = omega arith }
put_short (InMemory o k) i = record { straight = refl; steps_are = omega arith; words_are = omega arith }

fill_short : (signed : Bool) (p : Location) (m : ℕ) → IsShort (fill_code signed p m) 3 4
fill_short true (InRegisters r) m = record { straight = refl; steps_are = omega arith; words_are = omega arith }
fill_short true (InMemory o k) m = record { straight = refl; steps_are = omega arith; words_are = omega arith }
fill_short false p m = record { straight = refl; steps_are = omega arith; words_are = omega arith }

constants : (p : Location) (number n : ℕ) → IsShort (constant_code p number n) (2 * n) (3 * n)
constants p number n =
    weaker _ (n * 2) (2 * n) (n * 3) (3 * n) (omega arith) (omega arith)
    (chained (λ i. constant_byte p (byte_of number i) i) n 2 3 (λ i. constant_short p (byte_of number i) i))

tests : (p : Location) (n : ℕ) → IsShort (test_code p n) (1 + 2 * n) (1 + 3 * n)
tests p zero = record { straight = refl; steps_are = omega arith; words_are = omega arith }
tests p (suc zero) = weaker (byte_test p) 2 3 3 4 (omega arith) (omega arith) (byte_short p)
tests p (suc (suc n)) =
    rw (several p n)
    (weaker (first_byte p ++ join_code p (suc n)) (1 + suc n * 2) (1 + 2 * suc (suc n)) (2 + suc n * 3) (1 + 3 * suc (suc n))
    (omega arith) (omega arith) (joined (first_byte p) (join_code p (suc n)) 1 (suc n * 2) 2 (suc n * 3) (first_short p)
    (chained (join_byte p) (suc n) 2 3 (join_short p))))

puts : (p : Location) (m n : ℕ) → IsShort (puts_code p m (n - m)) n (2 * n)
puts p m n =
    weaker _ ((n - m) * 1) n ((n - m) * 2) (2 * n) (omega arith) (omega arith)
    (chained (λ i. put_byte p (m + i)) (n - m) 1 2 (λ i. put_short p (m + i)))

clears : (r m count : ℕ) → IsShort (clears_code r m count) count count
clears r m count =
    weaker _ (count * 1) count (count * 1) count (omega arith) (omega arith)
    (chained (λ i. clear_byte r (m + i)) count 1 1
    (λ i. record { straight = refl; steps_are = omega arith; words_are = omega arith }))

widens : (signed : Bool) (p : Location) (m n : ℕ) → IsShort (widen_code signed p m (n - m)) (3 + n) (4 + 2 * n)
widens false (InRegisters r) m n =
    weaker (clears_code r m (n - m)) (n - m) (3 + n) (n - m) (4 + 2 * n) (omega arith) (omega arith) (clears r m (n - m))
widens false (InMemory o k) m n =
    joined (fill_code false (InMemory o k) m) (puts_code (InMemory o k) m (n - m)) 3 n 4 (2 * n)
    (fill_short false (InMemory o k) m) (puts (InMemory o k) m n)
widens true p m n =
    joined (fill_code true p m) (puts_code p m (n - m)) 3 n 4 (2 * n) (fill_short true p m) (puts p m n)

extends : (signed : Bool) (p : Location) (m n : ℕ) → IsShort (extend_code signed p m n) (3 + n) (4 + 2 * n)
extends signed p m n =
    ⊎_elim
    (λ x. rw x (record { straight = refl; steps_are = omega arith; words_are = omega arith }))
    (λ x. rw x (widens signed p m n))
    (cases_Bool (nat_le n m))

pub values_are_straight : ValuesAreStraight
values_are_straight p number m n =
    ((constants p number n).straight, (tests p n).straight, λ signed. (extends signed p m n).straight)

pub values_take : ValuesTake
values_take p number m n =
    ((constants p number n).steps_are, (tests p n).steps_are, λ signed. (extends signed p m n).steps_are)

pub values_have : ValuesHave
values_have p number m n =
    ((constants p number n).words_are, (tests p n).words_are, λ signed. (extends signed p m n).words_are)

-- ---- complements

complement_short : (p : Location) (i : ℕ) → IsShort (complement_byte p i) 3 5
complement_short (InRegisters r) i = record { straight = refl; steps_are = omega arith; words_are = omega arith }
complement_short (InMemory o k) i = record { straight = refl; steps_are = omega arith; words_are = omega arith }

carry_short : (p : Location) (i : ℕ) → IsShort (carry_byte p i) 3 5
carry_short (InRegisters r) i = record { straight = refl; steps_are = omega arith; words_are = omega arith }
carry_short (InMemory o k) i = record { straight = refl; steps_are = omega arith; words_are = omega arith }

complements : (p : Location) (n : ℕ) → IsShort (complement_code p n) (3 * n) (5 * n)
complements p n =
    weaker _ (n * 3) (3 * n) (n * 5) (5 * n) (omega arith) (omega arith) (chained (complement_byte p) n 3 5 (complement_short p))

carries : (p : Location) (n : ℕ) → IsShort (carry_code p n) (3 * n) (5 * n)
carries p n =
    weaker _ (n * 3) (3 * n) (n * 5) (5 * n) (omega arith) (omega arith) (chained (carry_byte p) n 3 5 (carry_short p))

cleared : (p : Location) (n : ℕ) → IsShort (Plain (Eor 1 1) ∷ carry_code p n) (1 + 3 * n) (1 + 5 * n)
cleared p n =
    joined (Plain (Eor 1 1) ∷ []) (carry_code p n) 1 (3 * n) 1 (5 * n)
    (record { straight = refl; steps_are = omega arith; words_are = omega arith }) (carries p n)

negations : (p : Location) (n : ℕ) → IsShort (negation_code p n) (1 + 6 * n) (1 + 10 * n)
negations p n =
    weaker (negation_code p n) (3 * n + (1 + 3 * n)) (1 + 6 * n) (5 * n + (1 + 5 * n)) (1 + 10 * n) (omega arith) (omega arith) (joined
    (complement_code p n) (Plain (Eor 1 1) ∷ carry_code p n) (3 * n) (1 + 3 * n) (5 * n) (1 + 5 * n) (complements p n) (cleared p n))

pub complements_are_straight : ComplementsAreStraight
complements_are_straight p n = ((complements p n).straight, (negations p n).straight)

pub complements_take : ComplementsTake
complements_take p n = ((complements p n).steps_are, (negations p n).steps_are)

pub complements_have : ComplementsHave
complements_have p n = ((complements p n).words_are, (negations p n).words_are)
