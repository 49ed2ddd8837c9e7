-- The words of the code that brings a number into a format.
use Rattle.std.proofs.Common.{ℕ, zero, suc, ◌+◌, ◌-◌, ◌*◌, ◌≤◌, min, Bool, true, false, [], ◌∷◌, ◌++◌, arith, List}
use Rattle.std.specs.Prelude.{◌&&◌}
use Rattle.std.proofs.lemmas.List.Sums.{sum_by-append}
use Rattle.ec_isa.specs.declared.instructions.Instr.TheVariants.{Add, Sub, Sbc, And, Or, Eor, Com, Andi}
use Rattle.ec_asm.specs.declared.items.AsmItem.{AsmItem}
use Rattle.ec_asm.specs.declared.items.AsmItem.TheVariants.{Plain}
use Rattle.ec_asm.specs.declared.pieces.Location.{Location}
use Rattle.ec_asm.specs.Items.{code_words, item_words, chain}
use Rattle.ec_asm.specs.Pieces.{copy_byte, copy_code}
use Rattle.ec_fxcode.specs.Clamps.{take_byte, put_byte, sign_code, fills_code, extended_code, wanted_code, gather_byte, gather_code}
use Rattle.ec_fxcode.specs.Clamps.{masks_code, end_byte, top_byte, ends_code, saturate_code, may_pass, saturate_if}
use Rattle.ec_fxcode.proofs.Short.{take_short, put_short, copy_short, sign_short}
use Rattle.ec_fxcode_scales.specs.ScaleLaws.{ClampsAreShort}

-- at most so many words
abbrev HasWords : List AsmItem → ℕ → Type 0
HasWords code words = code_words code ≤ words

two_parts : (a b : List AsmItem) (k l : ℕ) → HasWords a k → HasWords b l → HasWords (a ++ b) (k + l)
two_parts a b k l g h = omega (arith, sum_by-append item_words a b, g, h)

chain_words : (body : ℕ → List AsmItem) (n k : ℕ) → ((i : ℕ) → HasWords (body i) k) → HasWords (chain body n) (n * k)
chain_words body zero k h = omega arith
chain_words body (suc n) k h =
    let a = chain_words body n k h in
    let b = h n in
    omega (arith, sum_by-append item_words (chain body n) (body n), a, b)

take_words : (p : Location) (i : ℕ) → HasWords (take_byte p i) 2
take_words p i = (take_short p i).words_are

put_words : (s : ℕ) (p : Location) (i : ℕ) → HasWords (put_byte s p i) 2
put_words s p i = (put_short s p i).words_are

extended_words : (p q : Location) (n k : ℕ) → HasWords (extended_code p q n k) (4 + (min n k * 4 + (k - min n k) * 2))
extended_words p q n k =
    let m = min n k in
    two_parts (sign_code p n) (copy_code p q m ++ fills_code q m k) 4 (m * 4 + (k - m) * 2) (sign_short p n).words_are
    (two_parts (copy_code p q m) (fills_code q m k) (m * 4) ((k - m) * 2)
    (chain_words (copy_byte p q) m 4 (λ i. (copy_short p q i).words_are))
    (chain_words (λ i. put_byte 31 q (m + i)) (k - m) 2 (λ i. put_words 31 q (m + i))))

wanted_words : (signed : Bool) (p : Location) (k : ℕ) → HasWords (wanted_code signed p k) 5
wanted_words true p k =
    two_parts (take_byte p (k - 1)) (Plain (Add 0 0) ∷ Plain (Sbc 1 1) ∷ Plain (Eor 30 30) ∷ []) 2 3 (take_words p (k - 1)) (omega arith)
wanted_words false p k = omega arith

gather_words : (p : Location) (j : ℕ) → HasWords (gather_byte p j) 4
gather_words p j = two_parts (take_byte p j) (Plain (Sub 0 1) ∷ Plain (Or 30 0) ∷ []) 2 2 (take_words p j) (omega arith)

end_words : (q : Location) (i : ℕ) → HasWords (end_byte q i) 6
end_words q i =
    two_parts (take_byte q i) (Plain (And 0 30) ∷ Plain (Add 0 31) ∷ put_byte 0 q i) 2 4 (take_words q i)
    (two_parts (Plain (And 0 30) ∷ Plain (Add 0 31) ∷ []) (put_byte 0 q i) 2 2 (omega arith) (put_words 0 q i))

top_words : (q : Location) (i : ℕ) → HasWords (top_byte q i) 9
top_words q i =
    let mask : List AsmItem = Plain (And 0 30) ∷ Plain (Com 30) ∷ Plain (Andi 30 128) ∷ Plain (Add 31 30) ∷ Plain (Add 0 31) ∷ [] in
    two_parts (take_byte q i) (mask ++ put_byte 0 q i) 2 7 (take_words q i)
    (two_parts mask (put_byte 0 q i) 5 2 (omega arith) (put_words 0 q i))

ends_words : (signed : Bool) (q : Location) (k : ℕ) → 1 ≤ k → HasWords (ends_code signed q k) (6 * k + 3)
ends_words true q k some =
    let h = two_parts (chain (end_byte q) (k - 1)) (top_byte q (k - 1)) ((k - 1) * 6) 9
    (chain_words (end_byte q) (k - 1) 6 (end_words q)) (top_words q (k - 1)) in
    omega (arith, h, some)
ends_words false q k some = let h = chain_words (end_byte q) k 6 (end_words q) in omega (arith, h)

saturate_words : (signed : Bool) (p q : Location) (n k : ℕ) → 1 ≤ k
    → HasWords (saturate_code signed p q n k) (5 + ((n - k) * 4 + (5 + (6 * k + 3))))
saturate_words signed p q n k some =
    let r = n - k in
    two_parts (wanted_code signed p k) (gather_code p k n ++ (masks_code ++ ends_code signed q k)) 5 (r * 4 + (5 + (6 * k + 3)))
    (wanted_words signed p k)
    (two_parts (gather_code p k n) (masks_code ++ ends_code signed q k) (r * 4) (5 + (6 * k + 3))
    (chain_words (λ i. gather_byte p (k + i)) r 4 (λ i. gather_words p (k + i)))
    (two_parts masks_code (ends_code signed q k) 5 (6 * k + 3) (omega arith) (ends_words signed q k some)))

if_words : (test signed : Bool) (p q : Location) (n k : ℕ) → 1 ≤ k
    → HasWords (saturate_if test signed p q n k) (5 + ((n - k) * 4 + (5 + (6 * k + 3))))
if_words true signed p q n k some = saturate_words signed p q n k some
if_words false signed p q n k some = omega arith

pub clamps_are_short : ClampsAreShort
clamps_are_short to mode p q n k some many =
    let test = mode.saturate && may_pass to.signed n k in
    let h = two_parts (extended_code p q n k) (saturate_if test to.signed p q n k) _ _ (extended_words p q n k)
    (if_words test to.signed p q n k many) in
    omega (arith, h)
