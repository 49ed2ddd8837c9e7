-- Lists that are made of others.
use Rattle.std.proofs.Common.{◌≡◌, ℕ, zero, suc, ◌+◌, List, [], ◌∷◌, Some, refl, sym, ap, ◌∙◌, subst, arith, map}
use Rattle.std.specs.Prelude.{slice_get}
use Rattle.ec_core.specs.Valid.{EachFrom}

pub map_twice : {A B C : Type 0} (f : A → B) (g : B → C) (xs : List A) → map g (map f xs) ≡ map (λ x. g (f x)) xs
map_twice f g [] = refl
map_twice f g (x ∷ xs) = ap (λ ys. g (f x) ∷ ys) (map_twice f g xs)

-- what is made of equal views is equal
pub by_view : {A B C : Type 0} (f : A → B) (g : B → C) (xs ys : List A) → map f xs ≡ map f ys
    → map (λ x. g (f x)) xs ≡ map (λ x. g (f x)) ys
by_view f g xs ys e = sym (map_twice f g xs) ∙ ap (map g) e ∙ map_twice f g ys

pub each_at : {A : Type 0} (P : ℕ → A → Type 0) (n k m : ℕ) (xs : List A) (x : A) → n + k ≡ m → EachFrom n P xs
    → slice_get xs k ≡ Some x → P m x
each_at P n k m [] x q h e = cc
each_at P n zero m (y ∷ xs) x q h e =
    let same : y ≡ x = cc in
    let here : n ≡ m = omega (arith, q) in
    subst (λ (i : ℕ). P i x) here (subst (P n) same h.0)
each_at P n (suc k) m (y ∷ xs) x q h e = each_at P (n + 1) k m xs x (omega (arith, q)) h.1 e
