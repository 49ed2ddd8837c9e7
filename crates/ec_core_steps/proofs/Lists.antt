-- What is left of a list.
use Rattle.std.proofs.Common.{◌≡◌, ◌<◌, ◌+◌, ℕ, suc, List, ◌∷◌, length, get_or, drop, sym, ◌∙◌, ap, arith}
use Rattle.std.proofs.Math.Seq.{drop-cons}

pub list_next : {A : Type 0} (xs : List A) (i : ℕ) (x : A) → i < length xs → x ≡ get_or xs i x → drop i xs ≡ x ∷ drop (i + 1) xs
list_next xs i x l r =
    let n : suc i ≡ i + 1 = omega arith in drop-cons xs i x l ∙ (ap (λ y. y ∷ drop (suc i) xs) (sym r) ∙ ap (λ j. x ∷ drop j xs) n)
