-- Bytes as digits, and their sums, in parts.
use Rattle.std.proofs.Common.{◌≡◌, ◌+◌, ◌*◌, ◌/◌, ◌%◌, ◌<◌, ℕ, List, [], ◌∷◌, ◌++◌, length, take, get_or, refl, sym, ap, ◌∙◌, arith}
use Rattle.std.proofs.lemmas.List.{take_more}
use Rattle.ec_hex.specs.Bytes.{digit, digits_of, total}

pub digits_of-append : (xs ys : List ℕ) → digits_of (xs ++ ys) ≡ digits_of xs ++ digits_of ys
digits_of-append [] ys = refl
digits_of-append (x ∷ xs) ys = ap (λ (l : List ℕ). digit (x / 16) ∷ digit (x % 16) ∷ l) (digits_of-append xs ys)

pub total-append : (xs ys : List ℕ) → total (xs ++ ys) ≡ total xs + total ys
total-append [] ys = omega arith
total-append (x ∷ xs) ys = omega (arith, total-append xs ys)

pub length-digits_of : (xs : List ℕ) → length (digits_of xs) ≡ 2 * length xs
length-digits_of [] = omega arith
length-digits_of (x ∷ xs) = omega (arith, length-digits_of xs)

-- one more byte
pub digits_of-more : (xs : List ℕ) (i : ℕ) → i < length xs
    → digits_of (take (i + 1) xs) ≡ digits_of (take i xs) ++ digits_of (get_or xs i 0 ∷ [])
digits_of-more xs i below = ap digits_of (take_more xs i 0 below) ∙ digits_of-append (take i xs) (get_or xs i 0 ∷ [])

pub total-more : (xs : List ℕ) (i : ℕ) → i < length xs → total (take (i + 1) xs) ≡ total (take i xs) + get_or xs i 0
total-more xs i below = ap total (take_more xs i 0 below) ∙ total-append (take i xs) (get_or xs i 0 ∷ []) ∙ omega arith

-- a line put together from its parts
pub line-parts : (count high low kind check : ℕ) (bytes : List ℕ)
    → (((58 ∷ digits_of (count ∷ high ∷ low ∷ kind ∷ [])) ++ digits_of bytes) ++ digits_of (check ∷ [])) ++ 10 ∷ []
    ≡ 58 ∷ digits_of (count ∷ high ∷ low ∷ kind ∷ (bytes ++ check ∷ [])) ++ 10 ∷ []
line-parts count high low kind check bytes =
    ap (λ (l : List ℕ). (58 ∷ (digits_of (count ∷ high ∷ low ∷ kind ∷ []) ++ l)) ++ 10 ∷ []) (sym (digits_of-append bytes (check ∷ [])))
