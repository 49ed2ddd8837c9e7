-- Choices and lists.
use Rattle.std.proofs.Common.{◌≡◌, ◌<◌, ℕ, zero, suc, Bool, true, false, List, [], ◌∷◌, length, refl, arith}
use Rattle.std.specs.Prelude.{if◌then◌else◌, None, slice_get}

-- what holds of both cases of a choice holds of it
pub if_both : {A : Type 0} → (P : A → Type 0) (b : Bool) (x y : A) → (b ≡ true → P x) → (b ≡ false → P y) → P (if b then x else y)
if_both P true x y h k = h refl
if_both P false x y h k = k refl

-- there is something at a place in a list
pub stands_at : {X : Type 0} → (xs : List X) (i : ℕ) → i < length xs → slice_get xs i ≡ None → ⊥
stands_at [] i below e = omega (arith, below)
stands_at (x ∷ xs) zero below e = cc
stands_at (x ∷ xs) (suc i) below e = stands_at xs i (omega (arith, below)) e
