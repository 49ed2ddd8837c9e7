-- The bytes of the first members of a struct.
use Rattle.std.proofs.Common.{ℕ, zero, suc, List, [], ◌∷◌, take, map}
use Rattle.std.specs.List.{AllByRecursion}

-- what holds of each item holds of the first ones
pub of_first : {A B : Type 0} (P : B → Type 0) (f : A → B) (n : ℕ) (xs : List A) → AllByRecursion P (map f xs)
    → AllByRecursion P (map f (take n xs))
of_first P f zero xs all = tt
of_first P f (suc n) [] all = tt
of_first P f (suc n) (x ∷ xs) all = (all.0, of_first P f n xs all.1)
