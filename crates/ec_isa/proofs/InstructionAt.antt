-- The instruction of some words is the one that the table relates to them. The layers above cite these lemmas, and need
-- not look into `instruction_at`.
use Rattle.std.proofs.Common.{◌≡◌, ◌↔◌, ℕ, Bool, true, false, Some, None, Option, refl, sym, ap, ◌∙◌, subst, eq-eqb}
use Rattle.std.specs.Prelude.{IsTrue, IsNone, IfSome, ◌==◌, if◌then◌else◌}
use Rattle.std.proofs.lemmas.Bool.{and_parts, eqb-true}
use Rattle.ec_isa.specs.declared.instructions.Instr.{Instr}
use Rattle.ec_isa.specs.Formats.{Row, words_of}
use Rattle.ec_isa.specs.Table.{row, in_table, first_word, second_word, SecondIs, Decodes}
use Rattle.ec_isa.specs.Reading.{candidate, confirmed, are_words, is_second, instruction_at}
use Rattle.ec_isa.proofs.Rows.{reads}

second_true : (second : Option ℕ) (w : ℕ) → IsTrue (is_second second w) → SecondIs second w
second_true None w h = tt
second_true (Some k) w h = sym (eqb-true k w h)

true_second : (second : Option ℕ) (w : ℕ) → SecondIs second w → IsTrue (is_second second w)
true_second None w h = refl
true_second (Some k) w h = eq-eqb k w (sym h)

-- a row that has the words w0 and w1
record HasWords (r : Row) (w0 w1 : ℕ) : Type 0 where
  in_range : IsTrue r.in_range
  first : w0 ≡ r.first
  second : SecondIs r.second w1

words_true : (b : Bool) (first : ℕ) (second : Option ℕ) (w0 w1 : ℕ) →
    IsTrue (are_words (words_of (record { in_range = b; first = first; second = second })) w0 w1) →
    HasWords (record { in_range = b; first = first; second = second }) w0 w1
words_true true first second w0 w1 h =
    let p = and_parts (first == w0) (is_second second w1) h in
    record { in_range = refl; first = sym (eqb-true first w0 p.0); second = second_true second w1 p.1 }
words_true false first second w0 w1 h = cc

true_words : (b : Bool) (first : ℕ) (second : Option ℕ) (w0 w1 : ℕ) → IsTrue b → w0 ≡ first → SecondIs second w1 →
    IsTrue (are_words (words_of (record { in_range = b; first = first; second = second })) w0 w1)
true_words true first second w0 w1 h e s = rw (eq-eqb first w0 (sym e), true_second second w1 s) refl
true_words false first second w0 w1 h e s = cc

confirmed_at : (i : Instr) (w0 w1 : ℕ) → Decodes w0 w1 i → confirmed (Some i) w0 w1 ≡ Some i
confirmed_at i w0 w1 h =
    rw (true_words (row i).in_range (row i).first (row i).second w0 w1 h.in_range h.first h.second) refl

chosen : (b : Bool) (i j : Instr) → (if b then Some j else None) ≡ Some i → IsTrue b × (j ≡ i)
chosen true i j h = let same : j ≡ i = cc in (refl, same)
chosen false i j h = cc

confirmed_is : (o : Option Instr) (i : Instr) (w0 w1 : ℕ) → confirmed o w0 w1 ≡ Some i → Decodes w0 w1 i
confirmed_is None i w0 w1 h = cc
confirmed_is (Some j) i w0 w1 h =
    let c = chosen (are_words (words_of (row j)) w0 w1) i j h in
    let has = words_true (row j).in_range (row j).first (row j).second w0 w1 c.0 in
    let at : Decodes w0 w1 j = record { in_range = has.in_range; first = has.first; second = has.second } in
    subst (Decodes w0 w1) c.1 at

-- the instruction at the words is the one that the table relates to them
pub instruction_is : (i : Instr) (w0 w1 : ℕ) → (instruction_at w0 w1 ≡ Some i) ↔ Decodes w0 w1 i
unfolding instruction_at
instruction_is i w0 w1 = (
  λ e. confirmed_is (candidate w0 w1) i w0 w1 e,
  λ h. ap (λ o. confirmed o w0 w1) (reads i w0 w1 h) ∙ confirmed_at i w0 w1 h,
)

-- there is none exactly where the table relates none to them
none_is : (o : Option Instr) (w0 w1 : ℕ) → ((i : Instr) → (o ≡ Some i) ↔ Decodes w0 w1 i) →
    IsNone o ↔ ((i : Instr) → ¬ Decodes w0 w1 i)
none_is None w0 w1 h = (λ _ i d. let found = (h i).1 d in cc, λ _. refl)
none_is (Some j) w0 w1 h = (λ n. cc, λ n. absurd (n j ((h j).0 refl)))

pub no_instruction_is : (w0 w1 : ℕ) → IsNone (instruction_at w0 w1) ↔ ((i : Instr) → ¬ Decodes w0 w1 i)
no_instruction_is w0 w1 = none_is (instruction_at w0 w1) w0 w1 (λ i. instruction_is i w0 w1)

-- the words of an instruction of the table are read as it, whatever follows one word
pub instruction_at_words : (i : Instr) (next : ℕ) → IsTrue (in_table i) → SecondIs (second_word i) next →
    instruction_at (first_word i) next ≡ Some i
instruction_at_words i next h s =
    (instruction_is i (first_word i) next).1 (record { in_range = h; first = refl; second = s })

-- what is known of an instruction that was found
pub found_is : (o : Option Instr) (w0 w1 : ℕ) → ((i : Instr) → (o ≡ Some i) ↔ Decodes w0 w1 i) →
    IfSome o (Decodes w0 w1)
found_is None w0 w1 h = tt
found_is (Some i) w0 w1 h = (h i).0 refl

pub instruction_of : (i : Instr) (w0 w1 : ℕ) → Decodes w0 w1 i → instruction_at w0 w1 ≡ Some i
instruction_of i w0 w1 h = (instruction_is i w0 w1).1 h
