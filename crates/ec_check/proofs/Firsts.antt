-- Lists that begin with others, and what holds of their elements.
use Rattle.std.proofs.Common.{◌≡◌, ◌∙◌, ◌≤◌, ◌<◌, ◌+◌, ◌++◌, ℕ, zero, suc, List, [], ◌∷◌, length, append_assoc, refl, sym, ap, subst, inl}
use Rattle.std.proofs.Common.{inr, arith}
use Rattle.std.specs.Prelude.{◌⊎◌, Option, Some, None, slice_get, slice_index_or, AllPairs, Contains}
use Rattle.std.specs.List.{AllByRecursion}
use Rattle.std.proofs.lemmas.Bool.{cases_order}
use Rattle.std.proofs.lemmas.Option.{slice_get-get_or, get_or_from_slice_get}
use Rattle.std.proofs.lemmas.List.Elements.{All-from_recursion, All-get_or, All-contains}
use Rattle.std.proofs.lemmas.List.Quantifiers.{all_pairs_push}
use Rattle.ec_core.specs.Valid.{EachFrom}

-- ---- the first elements of a list

-- the first elements of the second list are those of the first one
abbrev pub First : {X : Type 0} → List X → List X → Type 0
First {X} xs ys = (i : ℕ) (x : X) → slice_get xs i ≡ Some x → slice_get ys i ≡ Some x

pub first_appended : {X : Type 0} (xs more : List X) → First xs (xs ++ more)
first_appended [] more i x e = cc
first_appended (y ∷ ys) more zero x e = e
first_appended (y ∷ ys) more (suc i) x e = first_appended ys more i x e

pub first_longer : {X : Type 0} (xs ys : List X) → First xs ys → length xs ≤ length ys
first_longer [] ys h = omega arith
first_longer {X} (x ∷ xs) [] h = absurd (let q : ◌≡◌ {A = Option X} None (Some x) = h 0 x refl in cc)
first_longer {X} (x ∷ xs) (y ∷ ys) h = let q = first_longer xs ys (λ (i : ℕ) (z : X) e. h (suc i) z e) in omega arith

pub at_end : {X : Type 0} (xs : List X) (x : X) → slice_get (xs ++ x ∷ []) (length xs) ≡ Some x
at_end [] x = refl
at_end (y ∷ ys) x = at_end ys x

-- ---- what holds of each element

module _ {X : Type 0} (P : X → Type 0) where
  pub all_both : (xs ys : List X) → AllByRecursion P xs → AllByRecursion P ys → AllByRecursion P (xs ++ ys)
  all_both [] ys h k = k
  all_both (x ∷ xs) ys h k = (h.0, all_both xs ys h.1 k)

  pub all_and : (xs : List X) (y : X) → AllByRecursion P xs → P y → AllByRecursion P (xs ++ y ∷ [])
  all_and xs y h k = all_both xs (y ∷ []) h (k, tt)

  pub all_at : (xs : List X) (i : ℕ) (x : X) → AllByRecursion P xs → slice_get xs i ≡ Some x → P x
  all_at [] i x h e = cc
  all_at (y ∷ ys) zero x h e = let same : y ≡ x = cc in subst P same h.0
  all_at (y ∷ ys) (suc i) x h e = all_at ys i x h.1 e

  pub all_containing : (xs : List X) (x : X) → AllByRecursion P xs → Contains xs x → P x
  all_containing xs x h c = All-contains P xs x (All-from_recursion P xs h) c

  pub all_weaker : (Q : X → Type 0) → ((x : X) → P x → Q x) → (xs : List X) → AllByRecursion P xs → AllByRecursion Q xs
  all_weaker Q f [] h = tt
  all_weaker Q f (x ∷ xs) h = (f x h.0, all_weaker Q f xs h.1)

pub each_and : {X : Type 0} (P : ℕ → X → Type 0) (n : ℕ) (xs : List X) (y : X) → EachFrom n P xs → P (n + length xs) y
    → EachFrom n P (xs ++ y ∷ [])
each_and P n [] y h k = (let e : n + 0 ≡ n = omega arith in subst (λ m. P m y) e k, tt)
each_and P n (x ∷ xs) y h k =
    let e : n + suc (length xs) ≡ n + 1 + length xs = omega arith in (h.0, each_and P (n + 1) xs y h.1 (subst (λ m. P m y) e k))

-- ---- pairs

append_nothing : {X : Type 0} → (xs : List X) → xs ++ [] ≡ xs
append_nothing [] = refl
append_nothing (x ∷ xs) = ap (λ ys. x ∷ ys) (append_nothing xs)

-- what a list has at an index, whatever stands past its end
at_index : {X : Type 0} (xs : List X) (i : ℕ) (x d : X) → i < length xs → slice_index_or xs i x ≡ x → slice_index_or xs i d ≡ x
at_index xs i x d below e = get_or_from_slice_get xs i x d (slice_get-get_or xs i x below ∙ ap Some e)

module _ {X : Type 0} (R : X → X → Type 0) where
  pub pairs_and : (xs : List X) (y : X) → AllPairs R xs → AllByRecursion (λ x. R x y) xs → AllPairs R (xs ++ y ∷ [])
  pairs_and xs y h k = all_pairs_push R xs y h (λ i d below. All-get_or (λ x. R x y) xs i d below (All-from_recursion (λ x. R x y) xs k))

  anything : (P : X → Type 0) → ((x : X) → P x) → (xs : List X) → AllByRecursion P xs
  anything P f [] = tt
  anything P f (x ∷ xs) = (f x, anything P f xs)

  -- more elements, each of which may stand behind any other
  pub pairs_both : (Q : X → Type 0) → ((x y : X) → Q y → R x y) → (xs ys : List X) → AllPairs R xs → AllByRecursion Q ys
      → AllPairs R (xs ++ ys)
  pairs_both Q f xs [] h k = subst (AllPairs R) (sym (append_nothing xs)) h
  pairs_both Q f xs (y ∷ ys) h k =
      subst (AllPairs R) (append_assoc xs (y ∷ []) ys)
      (pairs_both Q f (xs ++ y ∷ []) ys (pairs_and xs y h (anything (λ x. R x y) (λ x. f x y k.0) xs)) k.1)

  -- of two elements one stands before the other, or they are one
  pub pair_of : (xs : List X) (x y : X) → AllPairs R xs → Contains xs x → Contains xs y → (x ≡ y) ⊎ (R x y ⊎ R y x)
  pair_of xs x y h (i, below, e) (j, lower, f) =
      elim (cases_order i j) as (λ z. (x ≡ y) ⊎ (R x y ⊎ R y x)) [
        | inl same ↦ inl (sym e ∙ ap (λ n. slice_index_or xs n x) same ∙ at_index xs j y x lower f)
        | inr (inl less) ↦
            inr (inl (subst (λ a. R a y) e (subst (R (slice_index_or xs i x)) (at_index xs j y x lower f) (h i j x less lower))))
        | inr (inr more) ↦
            inr (inr (subst (λ a. R a x) f (subst (R (slice_index_or xs j y)) (at_index xs i x y below e) (h j i y more below))))
      ]
