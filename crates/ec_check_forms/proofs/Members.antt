-- The place of an item among the images of items.
use Rattle.std.proofs.Common.{◌≡◌, ◌+◌, ℕ, Bool, not, List, [], ◌∷◌, length, map, refl, sym, ap, ◌∙◌, cond}
use Rattle.std.specs.Prelude.{Option, Some, None, option_map, position, slice_get}
use Rattle.std.specs.List.{prefix_len}
use Rattle.std.proofs.lemmas.List.{length-map}
use Rattle.std.proofs.lemmas.Option.{slice_get-map}
use Rattle.ec_check_operands.specs.Operands.{with_one}

pub prefix_len-map : {X Y : Type 0} (f : X → Y) (p : Y → Bool) (xs : List X) → prefix_len p (map f xs) ≡ prefix_len (λ x. p (f x)) xs
prefix_len-map f p [] = refl
prefix_len-map f p (x ∷ xs) = ap (λ n. cond (p (f x)) (1 + n) 0) (prefix_len-map f p xs)

pub position-map : {X Y : Type 0} (f : X → Y) (p : Y → Bool) (xs : List X) → position p (map f xs) ≡ position (λ x. p (f x)) xs
position-map f p xs = rw (prefix_len-map f (λ y. not (p y)) xs, length-map xs f) refl

with_image : {X Y Z : Type 0} (f : X → Y) (g : Y → Option Z) (o : Option X) → with_one o (λ x. g (f x)) ≡ with_one (option_map f o) g
with_image f g None = refl
with_image f g (Some x) = refl

-- what follows from the image of an item
pub with_one-map : {X Y Z : Type 0} (f : X → Y) (g : Y → Option Z) (xs : List X) (i : ℕ)
    → with_one (slice_get xs i) (λ x. g (f x)) ≡ with_one (slice_get (map f xs) i) g
with_one-map f g xs i = with_image f g (slice_get xs i) ∙ ap (λ o. with_one o g) (sym (slice_get-map f xs i))
