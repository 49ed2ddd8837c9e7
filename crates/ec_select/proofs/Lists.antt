-- A list without its first elements.
use Rattle.std.proofs.Common.{◌≡◌, ℕ, ◌+◌, ◌-◌, ◌<◌, ◌≤◌, List, ◌∷◌, sym, ◌∙◌, ap, arith, map, length, drop, get_or}
use Rattle.std.proofs.lemmas.List.{length-map, get_or-map, drop_more}

pub drop_front : {A B : Type 0} (f : A → B) (xs : List A) (k : ℕ) (x : A) → k < length xs → x ≡ get_or xs k x
    → drop k (map f xs) ≡ f x ∷ drop (k + 1) (map f xs)
drop_front f xs k x h e =
    let m : k < length (map f xs) = omega (arith, length-map xs f) in
    drop_more (map f xs) k (f x) m ∙ ap (λ y. y ∷ drop (k + 1) (map f xs)) (get_or-map f xs k x (f x) h ∙ ap f (sym e))

-- so from the last one on
pub drop_last : {A B : Type 0} (f : A → B) (xs : List A) (k : ℕ) (x : A) → 0 < k → k ≤ length xs → x ≡ get_or xs (k - 1) x
    → drop (k - 1) (map f xs) ≡ f x ∷ drop k (map f xs)
drop_last f xs k x z h e =
    let n : k - 1 + 1 ≡ k = omega arith in
    drop_front f xs (k - 1) x (omega arith) e ∙ ap (λ j. f x ∷ drop j (map f xs)) n
