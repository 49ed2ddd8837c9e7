-- Sums and lists over entries, one entry after another.
use Rattle.std.proofs.Common.{◌≡◌, ◌+◌, ◌/◌, ◌%◌, ◌<◌, ◌-◌, ℕ, suc, List, [], ◌∷◌, ◌++◌, length, take, drop, get_or, append_assoc, refl}
use Rattle.std.proofs.Common.{sym, ap, ◌∙◌, arith}
use Rattle.std.proofs.lemmas.List.{drop_more}
use Rattle.std.proofs.lemmas.List.Sums.{sum_by_more, sum_by-drop_more}
use Rattle.std.specs.Prelude.{sum_by}
use Rattle.ec_space.specs.Bytes.{little_endian}

-- a sum over the entries that were looked at, where each adds less than 2^32
pub sum_step : {X : Type 0} (f : X → ℕ) (xs : List X) (i sum more : ℕ) (x : X) → i < length xs → sum ≡ sum_by f (take i xs)
    → x ≡ get_or xs i x → more ≡ f x → sum + more ≡ sum_by f (take (i + 1) xs)
sum_step f xs i sum more x l h is m =
    let q = sum_by_more f xs i x l in
    let e : f (get_or xs i x) ≡ f x = ap f (sym is) in
    omega (arith, q, e)

-- what is left of a list begins with the item at hand
pub split_at : {X : Type 0} (xs : List X) (i : ℕ) (x : X) → i < length xs → x ≡ get_or xs i x → drop i xs ≡ x ∷ drop (i + 1) xs
split_at xs i x l is = drop_more xs i x l ∙ ap (λ y. y ∷ drop (i + 1) xs) (sym is)

pub sum_left : {X : Type 0} (f : X → ℕ) (xs : List X) (i : ℕ) (x : X) → i < length xs → x ≡ get_or xs i x
    → sum_by f (drop i xs) ≡ f x + sum_by f (drop (i + 1) xs)
sum_left f xs i x l is =
    let q = sum_by-drop_more f xs i x l in
    let e : f (get_or xs i x) ≡ f x = ap f (sym is) in
    omega (arith, q, e)

-- an item that stood first of the rest stands last of what was made
pub made_step : {X : Type 0} (made new rest whole : List X) (x : X) → made ++ x ∷ rest ≡ whole → new ≡ made ++ x ∷ [] → new ++ rest ≡ whole
made_step made new rest whole x h pushed = rw pushed (append_assoc made (x ∷ []) rest ∙ h)

-- the lowest byte of what is left of a number, and what is left then
pub little_step : (size i rest : ℕ) → i < size → little_endian (size - i) rest ≡ rest % 256 ∷ little_endian (size - (i + 1)) (rest / 256)
little_step size i rest l = let e : size - i ≡ suc (size - (i + 1)) = omega arith in rw e refl
