-- A known number added, by the difference of its negation.
use Rattle.std.proofs.Common.{◌≡◌, ⊎_elim, ℕ, zero, suc, ◌+◌, ◌-◌, ◌*◌, ◌/◌, ◌%◌, ◌^◌, ◌<◌, ◌≤◌, refl, sym, ap, ◌∙◌}
use Rattle.std.proofs.Common.{arith, pow-add}
use Rattle.std.proofs.lemmas.Bool.{cases_lt}
use Rattle.std.proofs.lemmas.Nat.{div-add-mod', mod_below, mod-mul-add, mul-le}
use Rattle.ec_asm.specs.Pieces.{value}
use Rattle.ec_asm.proofs.Numbers.{pow_pos, mod_beside}
use Rattle.ec_select_numbers.specs.ByNumber.{negated}
use Rattle.ec_select_numbers.specs.Laws.{NumbersAreAdded}
use Rattle.ec_select_numbers.proofs.Paired.{numbers_are_subtracted}

-- (x + p - m) % p, where m is the negation of a number modulo p: q, d and s are factors of p
sums : (x number m p q d : ℕ) → 0 < p → m < p → number + (d * p + m) ≡ q * p → 0 < number
    → (x + p - m) % p ≡ (x + number) % p
sums x number m p q d h l e some =
    let less : d < q =
    ⊎_elim
    (λ (a : d < q). a)
    (λ (a : q ≤ d). let b : q * p ≤ d * p = mul-le q p d p a (omega arith) in absurd (omega (arith, e, b, some)))
    (cases_lt d q) in
    let s = q - d - 1 in
    let is : q ≡ d + 1 + s = omega (arith, less) in
    let whole : q * p ≡ (d + 1 + s) * p = ap (λ t. t * p) is in
    let sum : number + m ≡ p + s * p = omega (arith, e, whole) in
    let k : x + number ≡ s * p + (x + p - m) = omega (arith, sum, l) in
    sym (ap (λ t. t % p) k ∙ mod_beside s p (x + p - m) h)

-- a number below p is its own rest
small : (x p : ℕ) → x < p → x % p ≡ x
small x p h = let e : x ≡ 0 * p + x = omega arith in ap (λ t. t % p) e ∙ mod-mul-add 0 p x h

power_of : (n : ℕ) → n ≤ 16 → 256 ^ 16 ≡ 256 ^ (16 - n) * 256 ^ n
power_of n l = let e : 16 ≡ (16 - n) + n = omega arith in ap (λ k. 256 ^ k) e ∙ pow-add 256 (16 - n) n

-- a negation of 16 bytes, as it stands in n
negation_is : (number n : ℕ) → n ≤ 16 → 0 < number → number < 256 ^ 16
    → number + (negated number / 256 ^ n * 256 ^ n + negated number % 256 ^ n) ≡ 256 ^ (16 - n) * 256 ^ n
negation_is number n l some below =
    let m = negated number in
    let whole : m ≡ 256 ^ 16 - number = small (256 ^ 16 - number) (256 ^ 16) (omega (arith, some, below)) in
    let d : m / 256 ^ n * 256 ^ n + m % 256 ^ n ≡ m = div-add-mod' m (256 ^ n) in
    let e : number + m ≡ 256 ^ 16 = omega (arith, whole, below) in
    ap (λ t. number + t) d ∙ e ∙ power_of n l

none_of : (n : ℕ) → negated 0 % 256 ^ n ≡ 0
none_of n =
    let z : negated 0 ≡ 0 = refl in
    ap (λ t. t % 256 ^ n) z ∙ small 0 (256 ^ n) (pow_pos n)

sum_is : (x number n : ℕ) → n ≤ 16 → number < 256 ^ 16
    → (x + 256 ^ n - negated number % 256 ^ n) % 256 ^ n ≡ (x + number) % 256 ^ n
sum_is x zero n l below =
    let p = 256 ^ n in
    let e : x + p - 0 ≡ 1 * p + (x + 0) = omega arith in
    ap (λ t. (x + p - t) % p) (none_of n) ∙ ap (λ t. t % p) e ∙ mod_beside 1 p (x + 0) (pow_pos n)
sum_is x (suc number) n l below =
    let m = negated (suc number) in
    sums x (suc number) (m % 256 ^ n) (256 ^ n) (256 ^ (16 - n)) (m / 256 ^ n) (pow_pos n) (mod_below m (256 ^ n) (pow_pos n))
    (negation_is (suc number) n l (omega arith) below) (omega arith)

pub numbers_are_added : NumbersAreAdded
numbers_are_added e p number n a v most below s free bytes =
    let h = numbers_are_subtracted e p (negated number) n a v s free bytes in
    (h.0, h.1 ∙ sum_is (value v.at a n) number n most below)
