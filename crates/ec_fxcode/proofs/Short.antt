-- The form of the code: it is straight, and has so many steps and words.
use Rattle.std.proofs.Common.{◌≡◌, ℕ, zero, suc, ◌+◌, ◌-◌, ◌*◌, ◌≤◌, min, max, Bool, true, false, refl, arith, List, [], ◌∷◌, ◌++◌}
use Rattle.std.specs.Prelude.{◌&&◌}
use Rattle.std.proofs.lemmas.List.Sums.{sum_by-append}
use Rattle.ec_isa.specs.declared.instructions.Instr.TheVariants.{Add, Sub, Sbc, And, Or, Eor, Com, Andi}
use Rattle.ec_fx.specs.declared.formats.Format.{Format}
use Rattle.ec_fx.specs.declared.numbers.Mode.{Mode}
use Rattle.ec_asm.specs.declared.items.AsmItem.{AsmItem}
use Rattle.ec_asm.specs.declared.items.AsmItem.TheVariants.{Plain}
use Rattle.ec_asm.specs.declared.pieces.Location.{Location}
use Rattle.ec_asm.specs.declared.pieces.Location.TheVariants.{InRegisters, InMemory}
use Rattle.ec_asm.specs.Items.{all_straight, code_steps, code_words, item_words, chain}
use Rattle.ec_asm.specs.Pieces.{copy_byte, copy_code}
use Rattle.ec_asm.proofs.Hoare.{straight-append, steps-append}
use Rattle.ec_fxcode.specs.Clamps.{take_byte, put_byte, sign_code, fills_code, extended_code, wanted_code, gather_byte, gather_code}
use Rattle.ec_fxcode.specs.Clamps.{masks_code, end_byte, top_byte, ends_code, saturate_code, may_pass, saturate_if, clamp_code}

-- code that is straight, with at most so many steps and words
pub record IsShort (code : List AsmItem) (steps words : ℕ) : Type 0 where
  pub straight : all_straight code ≡ true
  pub steps_are : code_steps code ≤ steps
  pub words_are : code_words code ≤ words

pub joined : (a b : List AsmItem) (k m l n : ℕ) → IsShort a k l → IsShort b m n → IsShort (a ++ b) (k + m) (l + n)
joined a b k m l n p q =
    let s = p.steps_are in
    let t = q.steps_are in
    let u = p.words_are in
    let w = q.words_are in
    record {
      straight = straight-append a b p.straight q.straight;
      steps_are = omega (arith, steps-append a b, s, t);
      words_are = omega (arith, sum_by-append item_words a b, u, w);
    }

pub chained : (body : ℕ → List AsmItem) (n k l : ℕ) → ((i : ℕ) → IsShort (body i) k l)
    → IsShort (chain body n) (n * k) (n * l)
chained body zero k l h = record { straight = refl; steps_are = omega arith; words_are = omega arith }
chained body (suc n) k l h =
    let j = joined (chain body n) (body n) (n * k) k (n * l) l (chained body n k l h) (h n) in
    let s = j.steps_are in
    let w = j.words_are in
    record { straight = j.straight; steps_are = omega (arith, s); words_are = omega (arith, w) }

pub weaker : (code : List AsmItem) (k m l n : ℕ) → k ≤ m → l ≤ n → IsShort code k l → IsShort code m n
weaker code k m l n a b h =
    let s = h.steps_are in
    let w = h.words_are in
    record { straight = h.straight; steps_are = omega arith; words_are = omega arith }

-- ---- the pieces

pub take_short : (p : Location) (i : ℕ) → IsShort (take_byte p i) 1 2
take_short (InRegisters r) i = record { straight = refl; steps_are = omega arith; words_are = omega arith }
take_short (InMemory o k) i = record { straight = refl; steps_are = omega arith; words_are = omega arith }

pub put_short : (s : ℕ) (p : Location) (i : ℕ) → IsShort (put_byte s p i) 1 2
put_short s (InRegisters r) i = record { straight = refl; steps_are = omega arith; words_are = omega arith }
put_short s (InMemory o k) i = record { straight = refl; steps_are = omega arith; words_are = omega arith }

pub copy_short : (p q : Location) (i : ℕ) → IsShort (copy_byte p q i) 2 4
copy_short (InRegisters r) (InRegisters s) i = record { straight = refl; steps_are = omega arith; words_are = omega arith }
copy_short (InRegisters r) (InMemory o k) i = record { straight = refl; steps_are = omega arith; words_are = omega arith }
copy_short (InMemory o k) (InRegisters r) i = record { straight = refl; steps_are = omega arith; words_are = omega arith }
copy_short (InMemory o k) (InMemory o' k') i = record { straight = refl; steps_are = omega arith; words_are = omega arith }

pub sign_short : (p : Location) (n : ℕ) → IsShort (sign_code p n) 3 4
sign_short p n =
    joined (take_byte p (n - 1)) (Plain (Add 0 0) ∷ Plain (Sbc 31 31) ∷ []) 1 2 2 2 (take_short p (n - 1))
    (record { straight = refl; steps_are = omega arith; words_are = omega arith })

extended_short : (p q : Location) (n k : ℕ) → IsShort (extended_code p q n k) (3 + 2 * k) (4 + 4 * k)
extended_short p q n k =
    let m = min n k in
    weaker (extended_code p q n k) (3 + (m * 2 + (k - m) * 1)) (3 + 2 * k) (4 + (m * 4 + (k - m) * 2)) (4 + 4 * k)
    (omega arith) (omega arith)
    (joined (sign_code p n) (copy_code p q m ++ fills_code q m k) 3 (m * 2 + (k - m) * 1) 4 (m * 4 + (k - m) * 2) (sign_short p n)
    (joined (copy_code p q m) (fills_code q m k) (m * 2) ((k - m) * 1) (m * 4) ((k - m) * 2)
    (chained (copy_byte p q) m 2 4 (copy_short p q)) (chained (λ i. put_byte 31 q (m + i)) (k - m) 1 2 (λ i. put_short 31 q (m + i)))))

wanted_short : (signed : Bool) (p : Location) (k : ℕ) → IsShort (wanted_code signed p k) 4 5
wanted_short true p k =
    joined (take_byte p (k - 1)) (Plain (Add 0 0) ∷ Plain (Sbc 1 1) ∷ Plain (Eor 30 30) ∷ []) 1 3 2 3 (take_short p (k - 1))
    (record { straight = refl; steps_are = omega arith; words_are = omega arith })
wanted_short false p k = record { straight = refl; steps_are = omega arith; words_are = omega arith }

gather_short : (p : Location) (j : ℕ) → IsShort (gather_byte p j) 3 4
gather_short p j =
    joined (take_byte p j) (Plain (Sub 0 1) ∷ Plain (Or 30 0) ∷ []) 1 2 2 2 (take_short p j)
    (record { straight = refl; steps_are = omega arith; words_are = omega arith })

end_short : (q : Location) (i : ℕ) → IsShort (end_byte q i) 4 6
end_short q i =
    joined (take_byte q i) (Plain (And 0 30) ∷ Plain (Add 0 31) ∷ put_byte 0 q i) 1 3 2 4
    (take_short q i) (joined (Plain (And 0 30) ∷ Plain (Add 0 31) ∷ []) (put_byte 0 q i) 2 1 2 2
    (record { straight = refl; steps_are = omega arith; words_are = omega arith }) (put_short 0 q i))

top_short : (q : Location) (i : ℕ) → IsShort (top_byte q i) 7 9
top_short q i =
    joined (take_byte q i) (Plain (And 0 30) ∷ Plain (Com 30) ∷ Plain (Andi 30 128) ∷ Plain (Add 31 30) ∷ Plain (Add 0 31) ∷ put_byte 0 q i)
    1 6 2 7 (take_short q i) (joined (Plain (And 0 30) ∷ Plain (Com 30) ∷ Plain (Andi 30 128) ∷ Plain (Add 31 30) ∷ Plain (Add 0 31) ∷ [])
    (put_byte 0 q i) 5 1 5 2 (record { straight = refl; steps_are = omega arith; words_are = omega arith }) (put_short 0 q i))

ends_short : (signed : Bool) (q : Location) (k : ℕ) → IsShort (ends_code signed q k) (4 * k + 7) (6 * k + 9)
ends_short true q k =
    weaker (ends_code true q k) ((k - 1) * 4 + 7) (4 * k + 7) ((k - 1) * 6 + 9) (6 * k + 9) (omega arith) (omega arith)
    (joined (chain (end_byte q) (k - 1)) (top_byte q (k - 1)) ((k - 1) * 4) 7 ((k - 1) * 6) 9
    (chained (end_byte q) (k - 1) 4 6 (end_short q)) (top_short q (k - 1)))
ends_short false q k =
    weaker (ends_code false q k) (k * 4) (4 * k + 7) (k * 6) (6 * k + 9) (omega arith) (omega arith)
    (chained (end_byte q) k 4 6 (end_short q))

saturate_short : (signed : Bool) (p q : Location) (n k : ℕ)
    → IsShort (saturate_code signed p q n k) (16 + 4 * k + 3 * n) (19 + 6 * k + 4 * n)
saturate_short signed p q n k =
    let r = n - k in
    weaker (saturate_code signed p q n k) (4 + (r * 3 + (5 + (4 * k + 7)))) (16 + 4 * k + 3 * n) (5 + (r * 4 + (5 + (6 * k + 9))))
    (19 + 6 * k + 4 * n) (omega arith) (omega arith)
    (joined (wanted_code signed p k) (gather_code p k n ++ (masks_code ++ ends_code signed q k)) 4 (r * 3 + (5 + (4 * k + 7))) 5
    (r * 4 + (5 + (6 * k + 9))) (wanted_short signed p k)
    (joined (gather_code p k n) (masks_code ++ ends_code signed q k) (r * 3) (5 + (4 * k + 7)) (r * 4) (5 + (6 * k + 9))
    (chained (λ i. gather_byte p (k + i)) r 3 4 (λ i. gather_short p (k + i)))
    (joined masks_code (ends_code signed q k) 5 (4 * k + 7) 5 (6 * k + 9)
    (record { straight = refl; steps_are = omega arith; words_are = omega arith }) (ends_short signed q k))))

if_short : (test signed : Bool) (p q : Location) (n k : ℕ)
    → IsShort (saturate_if test signed p q n k) (16 + 4 * k + 3 * n) (19 + 6 * k + 4 * n)
if_short true signed p q n k = saturate_short signed p q n k
if_short false signed p q n k = record { straight = refl; steps_are = omega arith; words_are = omega arith }

pub clamp_short : (to : Format) (mode : Mode) (p q : Location) (n k : ℕ)
    → IsShort (clamp_code to mode p q n k) (60 + 20 * max n k) (60 + 20 * max n k)
clamp_short to mode p q n k =
    weaker (clamp_code to mode p q n k) (3 + 2 * k + (16 + 4 * k + 3 * n)) (60 + 20 * max n k) (4 + 4 * k + (19 + 6 * k + 4 * n))
    (60 + 20 * max n k) (omega arith) (omega arith)
    (joined (extended_code p q n k) (saturate_if (mode.saturate && may_pass to.signed n k) to.signed p q n k)
    (3 + 2 * k) (16 + 4 * k + 3 * n) (4 + 4 * k) (19 + 6 * k + 4 * n) (extended_short p q n k)
    (if_short (mode.saturate && may_pass to.signed n k) to.signed p q n k))

-- and so many words, by the bytes of the number beyond those of the format
pub clamp_words : (to : Format) (mode : Mode) (p q : Location) (n k : ℕ)
    → code_words (clamp_code to mode p q n k) ≤ 23 + 10 * k + 4 * (n - k)
clamp_words to mode p q n k =
    let a = (extended_short p q n k).words_are in
    let b = if_words (mode.saturate && may_pass to.signed n k) to.signed p q n k in
    omega (
      arith,
      sum_by-append item_words (extended_code p q n k) (saturate_if (mode.saturate && may_pass to.signed n k) to.signed p q n k),
      a,
      b,
    )
  where
    few : (signed : Bool) (p q : Location) (n k : ℕ) → code_words (saturate_code signed p q n k) ≤ 19 + 6 * k + 4 * (n - k)
    few signed p q n k =
        let r = n - k in
        (weaker (saturate_code signed p q n k) (4 + (r * 3 + (5 + (4 * k + 7)))) (4 + (r * 3 + (5 + (4 * k + 7))))
        (5 + (r * 4 + (5 + (6 * k + 9)))) (19 + 6 * k + 4 * r) (omega arith) (omega arith)
        (joined (wanted_code signed p k) (gather_code p k n ++ (masks_code ++ ends_code signed q k)) 4 (r * 3 + (5 + (4 * k + 7))) 5
        (r * 4 + (5 + (6 * k + 9))) (wanted_short signed p k)
        (joined (gather_code p k n) (masks_code ++ ends_code signed q k) (r * 3) (5 + (4 * k + 7)) (r * 4) (5 + (6 * k + 9))
        (chained (λ i. gather_byte p (k + i)) r 3 4 (λ i. gather_short p (k + i)))
        (joined masks_code (ends_code signed q k) 5 (4 * k + 7) 5 (6 * k + 9)
        (record { straight = refl; steps_are = omega arith; words_are = omega arith }) (ends_short signed q k))))).words_are

    if_words : (test signed : Bool) (p q : Location) (n k : ℕ) → code_words (saturate_if test signed p q n k) ≤ 19 + 6 * k + 4 * (n - k)
    if_words true signed p q n k = few signed p q n k
    if_words false signed p q n k = omega arith
