-- Arrays and tables of values beside the lists that they stand for.
use Rattle.std.proofs.Common.{◌≡◌, ◌≢◌, ℕ, ◌+◌, Bool, false, not, cond, ◌&&◌, ◌||◌, List, [], ◌∷◌, length, map, None, String, Global}
use Rattle.std.proofs.Common.{string_bytes, refl, ap}
use Rattle.std.specs.List.{list_all, list_any, position, prefix_len}
use Rattle.std.proofs.lemmas.List.{length-map}
use Rattle.std.specs.Map.{keys_of, values_of}
use Rattle.toml.specs.Data.{Data}
use Rattle.toml.specs.declared.value.Value.{Value}
use Rattle.toml.specs.View.{view, items_view, members_view}
use Rattle.ec_space.specs.declared.Core.{Core}
use Rattle.ec_map.specs.Values.{list_of, entries_of}
use Rattle.ec_map.specs.Regions.{region_in}
use Rattle.ec_map.specs.Rules.{are_two_integers, is_write_in, is_choice_in}

pub list_of-view : (vs : List Value) → list_of (items_view vs) ≡ map view vs
list_of-view [] = refl
list_of-view (v ∷ vs) = ap (λ ds. view v ∷ ds) (list_of-view vs)

-- an array that has not just two values
pub not_two : (vs : List Value) → length vs ≢ 2 → None ≡ region_in (items_view vs)
not_two [] h = refl
not_two (a ∷ []) h = refl
not_two (a ∷ b ∷ []) h = absurd (h refl)
not_two (a ∷ b ∷ c ∷ vs) h = refl

-- a test of each of what some values hold
pub list_all-viewed : {X Y : Type 0} (p : Y → Bool) (f : X → Y) (xs : List X) → list_all p (map f xs) ≡ list_all (λ x. p (f x)) xs
list_all-viewed p f [] = refl
list_all-viewed p f (x ∷ xs) = ap (λ b. p (f x) && b) (list_all-viewed p f xs)

pub list_any-viewed : {X Y : Type 0} (p : Y → Bool) (f : X → Y) (xs : List X) → list_any p (map f xs) ≡ list_any (λ x. p (f x)) xs
list_any-viewed p f [] = refl
list_any-viewed p f (x ∷ xs) = ap (λ b. p (f x) || b) (list_any-viewed p f xs)

-- the keys of a map of values
pub keys-viewed : (p : List ℕ → Bool) (es : List (String Global × Value))
    → list_all p (map (λ e. e.0) (entries_of (members_view es))) ≡ list_all (λ k. p (string_bytes k)) (keys_of es)
keys-viewed p [] = refl
keys-viewed p (e ∷ es) = ap (λ b. p (string_bytes e.0) && b) (keys-viewed p es)

prefix_len-viewed : {X Y : Type 0} (p : Y → Bool) (f : X → Y) (xs : List X) → prefix_len p (map f xs) ≡ prefix_len (λ x. p (f x)) xs
prefix_len-viewed p f [] = refl
prefix_len-viewed p f (x ∷ xs) = ap (λ n. cond (p (f x)) (1 + n) 0) (prefix_len-viewed p f xs)

pub position-viewed : {X Y : Type 0} (p : Y → Bool) (f : X → Y) (xs : List X) → position p (map f xs) ≡ position (λ x. p (f x)) xs
position-viewed p f xs = rw (prefix_len-viewed (λ y. not (p y)) f xs, length-map xs f) refl

pub not_two_integers : (vs : List Value) → length vs ≢ 2 → false ≡ are_two_integers (items_view vs)
not_two_integers [] h = refl
not_two_integers (a ∷ []) h = refl
not_two_integers (a ∷ b ∷ []) h = absurd (h refl)
not_two_integers (a ∷ b ∷ c ∷ vs) h = refl

pub no_write : (core : Core) (vs : List Value) → length vs ≢ 2 → false ≡ is_write_in core (items_view vs)
no_write core [] h = refl
no_write core (a ∷ []) h = refl
no_write core (a ∷ b ∷ []) h = absurd (h refl)
no_write core (a ∷ b ∷ c ∷ vs) h = refl

pub no_choice : (groups : List Data) (vs : List Value) → length vs ≢ 2 → false ≡ is_choice_in groups (items_view vs)
no_choice groups [] h = refl
no_choice groups (a ∷ []) h = refl
no_choice groups (a ∷ b ∷ []) h = absurd (h refl)
no_choice groups (a ∷ b ∷ c ∷ vs) h = refl

-- the values of a map of values
pub values-viewed : (p : Data → Bool) (es : List (String Global × Value))
    → list_all (λ e. p e.1) (entries_of (members_view es)) ≡ list_all (λ v. p (view v)) (values_of es)
values-viewed p [] = refl
values-viewed p (e ∷ es) = ap (λ b. p (view e.1) && b) (values-viewed p es)
