-- Lists that stand beside one another, item by item.
use Rattle.std.proofs.Common.{◌≡◌, ℕ, zero, suc, ◌+◌, ◌<◌, List, [], ◌∷◌, ◌++◌, length, take, map, get_or, arith, subst}
use Rattle.std.proofs.Common.{IsSomeAnd, slice_get}
use Rattle.std.specs.List.{AllZip}
use Rattle.std.proofs.lemmas.List.{take_more, take-map}
use Rattle.std.proofs.lemmas.Slice.Zip.{all_zipped_more}

-- one item more of each
pub zipped_next : {A B : Type 0} (R : A → B → Type 0) (xs : List A) (ys : List B) (i : ℕ) (x : A) (y : B) → i < length xs → x
    ≡ get_or xs i x → AllZip R (take i xs) ys → R x y → AllZip R (take (i + 1) xs) (ys ++ y ∷ [])
zipped_next R xs ys i x y h is before here =
    rw (take_more xs i x h)
    (subst (λ z. AllZip R (take i xs ++ z ∷ []) (ys ++ y ∷ [])) is (all_zipped_more R (take i xs) ys x y before here))

-- what holds of the images, for items of which something holds
pub zipped_images : {A B C D : Type 0} (R : A → B → Type 0) (S : C → D → Type 0) (f : A → C) (g : B → D)
    → ((x : A) (y : B) → R x y → S (f x) (g y)) → (xs : List A) (ys : List B) → AllZip R xs ys → AllZip S (map f xs) (map g ys)
zipped_images R S f g each [] [] h = tt
zipped_images R S f g each [] (y ∷ ys) h = absurd h
zipped_images R S f g each (x ∷ xs) [] h = absurd h
zipped_images R S f g each (x ∷ xs) (y ∷ ys) h = (each x y h.0, zipped_images R S f g each xs ys h.1)

-- the same of the first of them
pub zipped_first_images : {A B C D : Type 0} (R : A → B → Type 0) (S : C → D → Type 0) (f : A → C) (g : B → D)
    → ((x : A) (y : B) → R x y → S (f x) (g y)) → (i : ℕ) (xs : List A) (ys : List B) → AllZip R (take i xs) ys
    → AllZip S (take i (map f xs)) (map g ys)
zipped_first_images R S f g each i xs ys h = rw (take-map f i xs) (zipped_images R S f g each (take i xs) ys h)

-- what holds of the image of an item holds where it stands
pub holds_there : {A C : Type 0} (P : C → Type 0) (f : A → C) (xs : List A) (i : ℕ) (x : A) → i < length xs → x ≡ get_or xs i x → P (f x)
    → IsSomeAnd (slice_get (map f xs) i) P
holds_there P f [] i x h is p = absurd (omega arith)
holds_there P f (y ∷ ys) zero x h is p = subst (λ z. P (f z)) is p
holds_there P f (y ∷ ys) (suc i) x h is p = holds_there P f ys i x (omega arith) is p
