-- What the pieces of code leave, as numbers.
use Rattle.std.proofs.Common.{◌≡◌, ℕ, zero, suc, ◌+◌, ◌-◌, ◌*◌, ◌%◌, ◌^◌, ◌<◌, ◌≤◌, Bool, true, false, List, refl, sym, ap, ◌∙◌, arith}
use Rattle.std.proofs.lemmas.Nat.{mod-mul-add}
use Rattle.ec_asm.specs.declared.items.AsmItem.{AsmItem}
use Rattle.ec_asm.specs.declared.pieces.Location.{Location}
use Rattle.ec_asm.specs.declared.pieces.Location.TheVariants.{InRegisters, InMemory}
use Rattle.ec_asm.specs.declared.pieces.Operator.{Operator}
use Rattle.ec_asm.specs.declared.pieces.Operator.TheVariants.{Sum, Difference, BitAnd, BitOr, BitXor}
use Rattle.ec_asm.specs.View.{View}
use Rattle.ec_asm.specs.Change.{goes_on}
use Rattle.ec_asm.specs.Items.{block, all_straight, code_steps, chain}
use Rattle.ec_asm.specs.Pieces.{value, instruction, operate_byte, operate_code, copy_byte, compares, compare_byte, halves, halve_byte}
use Rattle.ec_asm.specs.PieceLaws.{HoldsNumbers, SumsAreRight, DifferencesAreRight, ComparisonsTellLess, ComparisonsTellEqual}
use Rattle.ec_asm.specs.PieceLaws.{ComparisonsKeep, PiecesAreStraight, TakesEach, PiecesTake}
use Rattle.ec_asm.proofs.Hoare.{chain_straight, steps-append}
use Rattle.ec_asm.proofs.Numbers.{value_below}
use Rattle.ec_asm.proofs.Sum.{sum_holds, sum_is}
use Rattle.ec_asm.proofs.Operators.{difference_holds}
use Rattle.ec_asm.proofs.Compared.{compare_holds, borrow_is, equal_is}

pub sums_are_right : SumsAreRight
sums_are_right e p q n a b v sa sb far bytes =
    let h = sum_holds e p q n a b v sa sb far bytes in
    let w = block e (operate_code Sum p q n) v in
    let c : value v.at a n + value v.at b n ≡ value v.at b n + value v.at a n = omega arith in
    (h, sum_is v a b n w h ∙ ap (λ t. t % 256 ^ n) c)

-- x is the difference modulo p
low : (x xs ys c p : ℕ) → x + xs ≡ ys + c * p → x < p → c ≤ 1 → xs < p → x ≡ (ys + p - xs) % p
low x xs ys zero p h l m u = let q : ys + p - xs ≡ 1 * p + x = omega arith in sym (ap (λ t. t % p) q ∙ mod-mul-add 1 p x l)
low x xs ys (suc zero) p h l m u = let q : ys + p - xs ≡ 0 * p + x = omega arith in sym (ap (λ t. t % p) q ∙ mod-mul-add 0 p x l)
low x xs ys (suc (suc c)) p h l m u = absurd (omega arith)

value_is_below : (v : View) (a n : ℕ) → 2 ≤ a → HoldsNumbers v → value v.at a n < 256 ^ n
value_is_below v a n l bytes = value_below v.at a n (λ j m. bytes (a + j) (omega arith))

pub differences_are_right : DifferencesAreRight
differences_are_right e p q n a b v sa sb far bytes =
    let h = difference_holds e p q n a b v sa sb far bytes in
    (h, low _ (value v.at a n) (value v.at b n) _ (256 ^ n) h.difference h.below h.borrow (value_is_below v a n sa.clear bytes))

pub comparisons_tell_less : ComparisonsTellLess
comparisons_tell_less e p q n a b v sa sb bytes =
    let h = compare_holds e p q (suc n) a b v sa sb bytes in
    borrow_is h.rest (value v.at a (suc n)) (value v.at b (suc n)) _ (256 ^ suc n) h.difference h.below h.borrow
    (value_is_below v a (suc n) sa.clear bytes) (value_is_below v b (suc n) sb.clear bytes)

pub comparisons_tell_equal : ComparisonsTellEqual
comparisons_tell_equal e p q n a b v sa sb bytes =
    let h = compare_holds e p q (suc n) a b v sa sb bytes in
    h.equal ∙ equal_is h.rest (value v.at a (suc n)) (value v.at b (suc n)) _ (256 ^ suc n) h.difference h.below h.borrow
    (value_is_below v a (suc n) sa.clear bytes) (value_is_below v b (suc n) sb.clear bytes)

pub comparisons_keep : ComparisonsKeep
comparisons_keep e p q n a b v sa sb bytes = (compare_holds e p q n a b v sa sb bytes).keeps

-- ---- their form

instruction_goes : (op : Operator) (i d r : ℕ) → goes_on (instruction op i d r) ≡ true
instruction_goes Sum zero d r = refl
instruction_goes Sum (suc i) d r = refl
instruction_goes Difference zero d r = refl
instruction_goes Difference (suc i) d r = refl
instruction_goes BitAnd i d r = refl
instruction_goes BitOr i d r = refl
instruction_goes BitXor i d r = refl

compares_go : (i d r : ℕ) → goes_on (compares i d r) ≡ true
compares_go zero d r = refl
compares_go (suc i) d r = refl

copy_straight : (p q : Location) (i : ℕ) → all_straight (copy_byte p q i) ≡ true
copy_straight (InRegisters a) (InRegisters b) i = refl
copy_straight (InMemory o k) (InRegisters b) i = refl
copy_straight (InRegisters a) (InMemory o k) i = refl
copy_straight (InMemory o k) (InMemory u j) i = refl

operate_straight : (op : Operator) (p q : Location) (i : ℕ) → all_straight (operate_byte op p q i) ≡ true
operate_straight op (InRegisters a) (InRegisters b) i = rw (instruction_goes op i (b + i) (a + i)) refl
operate_straight op (InMemory o k) (InRegisters b) i = rw (instruction_goes op i (b + i) 0) refl
operate_straight op (InRegisters a) (InMemory o k) i = rw (instruction_goes op i 0 (a + i)) refl
operate_straight op (InMemory o k) (InMemory u j) i = rw (instruction_goes op i 0 1) refl

compare_straight : (p q : Location) (i : ℕ) → all_straight (compare_byte p q i) ≡ true
compare_straight (InRegisters a) (InRegisters b) i = rw (compares_go i (b + i) (a + i)) refl
compare_straight (InMemory o k) (InRegisters b) i = rw (compares_go i (b + i) 0) refl
compare_straight (InRegisters a) (InMemory o k) i = rw (compares_go i 0 (a + i)) refl
compare_straight (InMemory o k) (InMemory u j) i = rw (compares_go i 0 1) refl

halves_go : (signed : Bool) (k d : ℕ) → goes_on (halves signed k d) ≡ true
halves_go true zero d = refl
halves_go false zero d = refl
halves_go true (suc k) d = refl
halves_go false (suc k) d = refl

halve_straight : (signed : Bool) (p : Location) (n k : ℕ) → all_straight (halve_byte signed p n k) ≡ true
halve_straight signed (InRegisters r) n k = rw (halves_go signed k (r + (n - 1 - k))) refl
halve_straight signed (InMemory o j) n k = rw (halves_go signed k 0) refl

pub pieces_are_straight : PiecesAreStraight
pieces_are_straight op p q n = (
  chain_straight (copy_byte p q) n (copy_straight p q),
  chain_straight (operate_byte op p q) n (operate_straight op p q),
  chain_straight (compare_byte p q) n (compare_straight p q),
  λ signed. chain_straight (halve_byte signed p n) n (halve_straight signed p n),
)

abbrev IsFrom1To : (most steps : ℕ) → Type 0
IsFrom1To most steps = (1 ≤ steps) × (steps ≤ most)

copy_steps : (p q : Location) (i : ℕ) → IsFrom1To 2 (code_steps (copy_byte p q i))
copy_steps (InRegisters a) (InRegisters b) i = (omega arith, omega arith)
copy_steps (InMemory o k) (InRegisters b) i = (omega arith, omega arith)
copy_steps (InRegisters a) (InMemory o k) i = (omega arith, omega arith)
copy_steps (InMemory o k) (InMemory u j) i = (omega arith, omega arith)

operate_steps : (op : Operator) (p q : Location) (i : ℕ) → IsFrom1To 4 (code_steps (operate_byte op p q i))
operate_steps op (InRegisters a) (InRegisters b) i = (omega arith, omega arith)
operate_steps op (InMemory o k) (InRegisters b) i = (omega arith, omega arith)
operate_steps op (InRegisters a) (InMemory o k) i = (omega arith, omega arith)
operate_steps op (InMemory o k) (InMemory u j) i = (omega arith, omega arith)

compare_steps : (p q : Location) (i : ℕ) → IsFrom1To 3 (code_steps (compare_byte p q i))
compare_steps (InRegisters a) (InRegisters b) i = (omega arith, omega arith)
compare_steps (InMemory o k) (InRegisters b) i = (omega arith, omega arith)
compare_steps (InRegisters a) (InMemory o k) i = (omega arith, omega arith)
compare_steps (InMemory o k) (InMemory u j) i = (omega arith, omega arith)

halve_steps : (signed : Bool) (p : Location) (n k : ℕ) → IsFrom1To 3 (code_steps (halve_byte signed p n k))
halve_steps signed (InRegisters r) n k = (omega arith, omega arith)
halve_steps signed (InMemory o j) n k = (omega arith, omega arith)

chain_steps : (body : ℕ → List AsmItem) (n k : ℕ) → ((i : ℕ) → IsFrom1To k (code_steps (body i)))
    → TakesEach n k (code_steps (chain body n))
chain_steps body zero k h = (omega arith, omega arith)
chain_steps body (suc n) k h =
    let s = steps-append (chain body n) (body n) in
    let r = chain_steps body n k h in
    let b = h n in
    (omega (arith, s, r.0, b.0), omega (arith, s, r.1, b.1))

pub pieces_take : PiecesTake
pieces_take op p q n = (
  chain_steps (copy_byte p q) n 2 (copy_steps p q),
  chain_steps (operate_byte op p q) n 4 (operate_steps op p q),
  chain_steps (compare_byte p q) n 3 (compare_steps p q),
  λ signed. chain_steps (halve_byte signed p n) n 3 (halve_steps signed p n),
)
