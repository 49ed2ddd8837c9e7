-- The form of the pieces: straight code, and its steps and words.
use Rattle.std.proofs.Common.{◌≡◌, ℕ, zero, suc, ◌+◌, ◌-◌, ◌*◌, ◌/◌, ◌≤◌, Bool, true, false, List, refl, arith}
use Rattle.std.specs.Prelude.{nat_le, if◌then◌else◌, [], ◌∷◌, ◌++◌}
use Rattle.std.proofs.lemmas.Bool.{and_parts}
use Rattle.std.proofs.lemmas.List.Sums.{sum_by-append}
use Rattle.ec_isa.specs.declared.instructions.Instr.TheVariants.{Cpi, Ldi}
use Rattle.ec_asm.specs.declared.items.AsmItem.{AsmItem}
use Rattle.ec_asm.specs.declared.items.AsmItem.TheVariants.{Plain}
use Rattle.ec_asm.specs.declared.pieces.Location.{Location}
use Rattle.ec_asm.specs.declared.pieces.Location.TheVariants.{InRegisters, InMemory}
use Rattle.ec_asm.specs.Items.{all_straight, code_steps, code_words, item_words, chain}
use Rattle.ec_asm.specs.Pieces.{compares}
use Rattle.ec_asm.proofs.Hoare.{chain_straight, steps-append, straight-append}
use Rattle.ec_asm.proofs.ItemWords.{chain_words_below}
use Rattle.ec_select_bytes.specs.Values.{byte_of, constant_code}
use Rattle.ec_select_bytes.proofs.Straight.{values_are_straight, values_take, values_have}
use Rattle.ec_select_numbers.specs.declared.operators.ByNumber.{ByNumber}
use Rattle.ec_select_numbers.specs.declared.operators.ByNumber.TheVariants.{Subtract, Mask, Set}
use Rattle.ec_select_numbers.specs.ByNumber.{immediate, is_neutral, immediate_byte, changed_byte}
use Rattle.ec_select_numbers.specs.ByNumber.{is_low_pair, put_pair_code, each_changed, changed_pair, rest_changed}
use Rattle.ec_select_numbers.specs.ByNumber.{changes_pair, changed_code, compared_byte}
use Rattle.ec_select_numbers.specs.Laws.{IsShort, NumbersAreStraight, PutsAreStraight}
use Rattle.ec_select_numbers.proofs.Paired.{low_pair}

abbrev Short : List AsmItem → (steps words : ℕ) → Type 0
Short code steps words = IsShort (all_straight code) (code_steps code) (code_words code) steps words

steps_below : (body : ℕ → List AsmItem) (n k : ℕ) → ((i : ℕ) → code_steps (body i) ≤ k)
    → code_steps (chain body n) ≤ k * n
steps_below body zero k h = omega arith
steps_below body (suc n) k h =
    let r = steps_below body n k h in
    let b = h n in
    omega (arith, steps-append (chain body n) (body n), r, b)

chained : (body : ℕ → List AsmItem) (n k l : ℕ) → ((i : ℕ) → Short (body i) k l) → Short (chain body n) (k * n) (l * n)
chained body n k l h =
    let w = chain_words_below body n l (λ i. (h i).few_words) in
    record {
      is_straight = chain_straight body n (λ i. (h i).is_straight);
      few_steps = steps_below body n k (λ i. (h i).few_steps);
      few_words = omega (arith, w);
    }

either : (b : Bool) (x y : List AsmItem) (k l : ℕ) → Short x k l → Short y k l → Short (if b then x else y) k l
either true x y k l p q = p
either false x y k l p q = q

immediate_short : (op : ByNumber) (p : Location) (k i : ℕ) → Short (immediate_byte (immediate op i) p k i) 3 5
immediate_short Subtract (InRegisters r) k zero =
    either (nat_le 16 (r + zero)) _ _ 3 5 (record { is_straight = refl; few_steps = omega arith; few_words = omega arith })
    (record { is_straight = refl; few_steps = omega arith; few_words = omega arith })
immediate_short Subtract (InRegisters r) k (suc i) =
    either (nat_le 16 (r + suc i)) _ _ 3 5 (record { is_straight = refl; few_steps = omega arith; few_words = omega arith })
    (record { is_straight = refl; few_steps = omega arith; few_words = omega arith })
immediate_short Mask (InRegisters r) k i =
    either (nat_le 16 (r + i)) _ _ 3 5 (record { is_straight = refl; few_steps = omega arith; few_words = omega arith })
    (record { is_straight = refl; few_steps = omega arith; few_words = omega arith })
immediate_short Set (InRegisters r) k i =
    either (nat_le 16 (r + i)) _ _ 3 5 (record { is_straight = refl; few_steps = omega arith; few_words = omega arith })
    (record { is_straight = refl; few_steps = omega arith; few_words = omega arith })
immediate_short Subtract (InMemory o j) k zero = record { is_straight = refl; few_steps = omega arith; few_words = omega arith }
immediate_short Subtract (InMemory o j) k (suc i) =
    record { is_straight = refl; few_steps = omega arith; few_words = omega arith }
immediate_short Mask (InMemory o j) k i = record { is_straight = refl; few_steps = omega arith; few_words = omega arith }
immediate_short Set (InMemory o j) k i = record { is_straight = refl; few_steps = omega arith; few_words = omega arith }

changed_short : (op : ByNumber) (p : Location) (k i : ℕ) → Short (changed_byte op p k i) 3 5
changed_short op p k i =
    either (is_neutral op k) [] (immediate_byte (immediate op i) p k i) 3 5
    (record { is_straight = refl; few_steps = omega arith; few_words = omega arith }) (immediate_short op p k i)

compared_short : (p : Location) (k i : ℕ) → Short (compared_byte p k i) 3 4
compared_short (InRegisters r) k zero =
    either (nat_le 16 r) (Plain (Cpi r k) ∷ []) (Plain (Ldi 30 k) ∷ Plain (compares zero (r + zero) 30) ∷ []) 3 4
    (record { is_straight = refl; few_steps = omega arith; few_words = omega arith })
    (record { is_straight = refl; few_steps = omega arith; few_words = omega arith })
compared_short (InRegisters r) k (suc i) = record { is_straight = refl; few_steps = omega arith; few_words = omega arith }
compared_short (InMemory o j) k zero = record { is_straight = refl; few_steps = omega arith; few_words = omega arith }
compared_short (InMemory o j) k (suc i) = record { is_straight = refl; few_steps = omega arith; few_words = omega arith }

-- code behind other code
joined : (x y : List AsmItem) (k l m o : ℕ) → Short x k l → Short y m o → Short (x ++ y) (k + m) (l + o)
joined x y k l m o p q =
    let s = p.few_steps in
    let t = q.few_steps in
    let u = p.few_words in
    let w = q.few_words in
    record {
      is_straight = straight-append x y p.is_straight q.is_straight;
      few_steps = omega (arith, steps-append x y, s, t);
      few_words = omega (arith, sum_by-append item_words x y, u, w);
    }

pair_short : (op : ByNumber) (r number : ℕ) → Short (changed_pair op r number) 4 4
pair_short Subtract r number = record { is_straight = refl; few_steps = omega arith; few_words = omega arith }
pair_short Mask r number = record { is_straight = refl; few_steps = omega arith; few_words = omega arith }
pair_short Set r number = record { is_straight = refl; few_steps = omega arith; few_words = omega arith }

each_short : (op : ByNumber) (p : Location) (number n : ℕ) → Short (each_changed op p number n) (3 * n) (5 * n)
each_short op p number n =
    chained (λ i. changed_byte op p (byte_of number i) i) n 3 5 (λ i. changed_short op p (byte_of number i) i)

rest_short : (op : ByNumber) (r number n : ℕ) → Short (rest_changed op r number n) (3 * n) (5 * n)
rest_short op r number n =
    chained (λ i. changed_byte op (InRegisters r) (byte_of number (2 + i)) (2 + i)) n 3 5
    (λ i. changed_short op (InRegisters r) (byte_of number (2 + i)) (2 + i))

code_short : (op : ByNumber) (p : Location) (number n : ℕ) → Short (changed_code op p number n) (3 * n) (5 * n)
code_short op (InMemory o k) number n = each_short op (InMemory o k) number n
code_short op (InRegisters r) number n = by_pair (changes_pair op r number n) refl
  where
    by_pair : (b : Bool) → changes_pair op r number n ≡ b
        → Short (if b then changed_pair op r number ++ rest_changed op r number (n - 2) else each_changed op (InRegisters r) number n)
        (3 * n) (5 * n)
    by_pair false q = each_short op (InRegisters r) number n
    by_pair true q =
        let low = (and_parts (is_low_pair r n) _ q).0 in
        let two = (low_pair r n low).1 in
        let j = joined (changed_pair op r number) (rest_changed op r number (n - 2)) 4 4 _ _ (pair_short op r number)
        (rest_short op r number (n - 2)) in
        let s = j.few_steps in
        let w = j.few_words in
        record { is_straight = j.is_straight; few_steps = omega (arith, s, two); few_words = omega (arith, w, two) }

pub numbers_are_straight : NumbersAreStraight
numbers_are_straight op p number n = (
  code_short op p number n,
  chained (λ i. compared_byte p (byte_of number i) i) n 3 4 (λ i. compared_short p (byte_of number i) i),
)

-- ---- numbers that are put

constant_short : (p : Location) (number n : ℕ) → Short (constant_code p number n) (2 * n) (3 * n)
constant_short p number n =
    record {
      is_straight = (values_are_straight p number 0 n).0;
      few_steps = (values_take p number 0 n).0;
      few_words = (values_have p number 0 n).0;
    }

put_pair_short : (r number : ℕ) → Short (put_pair_code r number) 3 3
put_pair_short r number = record { is_straight = refl; few_steps = omega arith; few_words = omega arith }

pub puts_are_straight : PutsAreStraight
puts_are_straight (InMemory o k) number n = constant_short (InMemory o k) number n
puts_are_straight (InRegisters r) number n = by_pair (is_low_pair r n) refl
  where
    rest : Location
    rest = InRegisters (r + 2)

    by_pair : (b : Bool) → is_low_pair r n ≡ b
        → Short (if b then put_pair_code r number ++ constant_code rest (number / 65536) (n - 2)
        else constant_code (InRegisters r) number n) (2 * n) (3 * n)
    by_pair false q = constant_short (InRegisters r) number n
    by_pair true q =
        let two = (low_pair r n q).1 in
        let j = joined (put_pair_code r number) (constant_code rest (number / 65536) (n - 2)) 3 3 _ _ (put_pair_short r number)
        (constant_short rest (number / 65536) (n - 2)) in
        let s = j.few_steps in
        let w = j.few_words in
        record { is_straight = j.is_straight; few_steps = omega (arith, s, two); few_words = omega (arith, w, two) }
