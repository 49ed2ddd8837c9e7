-- How many items a list holds.
use Rattle.std.proofs.Common.{◌≡◌, ◌+◌, ◌∙◌, ℕ, zero, suc, refl, ap, sym, List, [], ◌∷◌, length, map, drop}
use Rattle.std.proofs.Math.Numerals.{add-one}
use Rattle.ec_grammar.specs.declared.NextInitialiser.{NextInitialiser}
use Rattle.ec_grammar.specs.Views.{views_initialisers}
use Rattle.ec_check_initialisers.specs.Locals.{items_count}

pub counted : (xs : List NextInitialiser) → length xs ≡ items_count (views_initialisers xs)
counted [] = refl
counted (x ∷ xs) = sym (add-one (length xs)) ∙ ap (λ n. n + 1) (counted xs)

pub dropped : {X Y : Type 0} (f : X → Y) (n : ℕ) (xs : List X) → map f (drop n xs) ≡ drop n (map f xs)
dropped f zero xs = refl
dropped f (suc n) [] = refl
dropped f (suc n) (x ∷ xs) = dropped f n xs
