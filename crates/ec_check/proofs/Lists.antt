-- Lists with one element more, and choices.
use Rattle.std.proofs.Common.{◌≡◌, ◌+◌, ◌++◌, ℕ, zero, suc, Bool, true, false, List, [], ◌∷◌, length, refl, arith}
use Rattle.std.specs.Prelude.{if◌then◌else◌, Some, slice_get}
use Rattle.std.specs.List.{AllByRecursion}
use Rattle.std.proofs.lemmas.Bool.{both_ways}
use Rattle.ec_check_statements.proofs.Choices.{if_both}

pub if_true : {A : Type 0} → (P : A → Type 0) (b : Bool) (x y : A) → b ≡ true → P x → P (if b then x else y)
if_true P b x y e h = if_both P b x y (λ q. h) (λ q. absurd (both_ways b q e))

pub if_false : {A : Type 0} → (P : A → Type 0) (b : Bool) (x y : A) → b ≡ false → P y → P (if b then x else y)
if_false P b x y e h = if_both P b x y (λ q. absurd (both_ways b e q)) (λ q. h)

pub one_longer : {X : Type 0} → (xs : List X) (x : X) → length (xs ++ x ∷ []) ≡ length xs + 1
one_longer [] x = refl
one_longer (y ∷ ys) x = let h = one_longer ys x in omega (arith, h)

-- what holds of each element
pub all_push : {X : Type 0} → (P : X → Type 0) (xs : List X) (x : X) → AllByRecursion P xs → P x → AllByRecursion P (xs ++ x ∷ [])
all_push P [] x h k = (k, tt)
all_push P (y ∷ ys) x h k = (h.0, all_push P ys x h.1 k)

pub all_through : {X : Type 0} → (P Q : X → Type 0) (xs : List X) → ((x : X) → P x → Q x) → AllByRecursion P xs → AllByRecursion Q xs
all_through P Q [] f h = tt
all_through P Q (x ∷ xs) f h = (f x h.0, all_through P Q xs f h.1)

-- elements stay where others are put behind them
pub stands_before : {X : Type 0} → (xs more : List X) (i : ℕ) (x : X) → slice_get xs i ≡ Some x → slice_get (xs ++ more) i ≡ Some x
stands_before [] more i x e = cc
stands_before (o ∷ os) more zero x e = e
stands_before (o ∷ os) more (suc i) x e = stands_before os more i x e

pub stands_last : {X : Type 0} → (xs : List X) (x : X) → slice_get (xs ++ x ∷ []) (length xs) ≡ Some x
stands_last [] x = refl
stands_last (o ∷ os) x = stands_last os x
