-- Lists that are walked item by item.
use Rattle.std.proofs.Common.{◌≡◌, ◌∙◌, ◌+◌, ◌<◌, ℕ, zero, suc, refl, ap, sym, List, [], ◌∷◌, length, map, take, drop, get_or}
use Rattle.std.proofs.Math.Numerals.{add-one}
use Rattle.std.proofs.Math.Seq.{drop-cons}
use Rattle.ec_grammar.specs.declared.NextInitialiser.{NextInitialiser}
use Rattle.ec_grammar.specs.Views.{views_initialisers}
use Rattle.ec_check_initialisers.specs.Locals.{items_count}

pub taken : {X Y : Type 0} (f : X → Y) (n : ℕ) (xs : List X) → map f (take n xs) ≡ take n (map f xs)
taken f zero xs = refl
taken f (suc n) [] = refl
taken f (suc n) (x ∷ xs) = ap (λ ys. f x ∷ ys) (taken f n xs)

-- what a list has from an index on
pub here : {X : Type 0} (xs : List X) (i : ℕ) (x : X) → i < length xs → x ≡ get_or xs i x → drop i xs ≡ x ∷ drop (i + 1) xs
here xs i x h e = drop-cons xs i x h ∙ (ap (λ y. y ∷ drop (suc i) xs) (sym e) ∙ ap (λ k. x ∷ drop k xs) (sym (add-one i)))

pub counted : (xs : List NextInitialiser) → length xs ≡ items_count (views_initialisers xs)
counted [] = refl
counted (x ∷ xs) = sym (add-one (length xs)) ∙ ap (λ n. n + 1) (counted xs)
