-- Lists that are made of others, one item after another.
use Rattle.std.proofs.Common.{◌≡◌, ℕ, ◌+◌, ◌≤◌, ◌<◌, Bool, true, List, [], ◌∷◌, ◌++◌, length, take, take_all, map, get_or, String, Global}
use Rattle.std.proofs.Common.{string_bytes, Less, refl, sym, ap, subst, ◌∙◌}
use Rattle.std.specs.List.{All, AllByRecursion, list_all}
use Rattle.std.specs.List.Sorted.{IsStrictlySortedBy}
use Rattle.std.specs.Cmp.Lexicographic.{slice_cmp}
use Rattle.std.specs.Ordering.{nat_cmp}
use Rattle.std.specs.Map.{keys_of}
use Rattle.std.specs.String.{string_cmp}
use Rattle.std.proofs.lemmas.Bool.{and_parts}
use Rattle.std.proofs.lemmas.List.{take_more, map-append, length-map, get_or-map}
use Rattle.std.proofs.lemmas.List.Elements.{All-nil, All-cons}
use Rattle.toml.specs.View.{view, members_view}
use Rattle.toml.specs.declared.value.Value.{Value}
use Rattle.ec_space.specs.declared.Core.{Core}
use Rattle.ec_map.specs.declared.map.Fixed1.{Fixed1}
use Rattle.ec_map.specs.Values.{entries_of}
use Rattle.ec_map.specs.Maps.{place_of, place_view, names_of, AreAscending}

-- one item more of a list that is made of another
pub made_more : {X Y Z : Type 0} (f : X → Z) (g : Y → Z) (made new : List X) (x : X) (ys : List Y) (i : ℕ) (y : Y)
    → map f made ≡ map g (take i ys) → i < length ys → y ≡ get_or ys i y → f x ≡ g y → new ≡ made ++ x ∷ []
    → map f new ≡ map g (take (i + 1) ys)
made_more f g made new x ys i y done within is one pushed =
    let more = take_more ys i y within in
    rw (pushed, more, ← is) (map-append f made (x ∷ []) ∙ ap (λ zs. zs ++ f x ∷ []) done ∙ ap (λ z. map g (take i ys) ++ z ∷ []) one
    ∙ sym (map-append g (take i ys) (y ∷ [])))

abbrev pub Entry : Type 0
Entry = String Global × Value

entries-last : (es : List Entry) (e : Entry)
    → entries_of (members_view (es ++ e ∷ [])) ≡ entries_of (members_view es) ++ (string_bytes e.0, view e.1) ∷ []
entries-last [] e = refl
entries-last (x ∷ es) e = ap (λ rest. (string_bytes x.0, view x.1) ∷ rest) (entries-last es e)

-- one place more
pub placed_more : (core : Core) (made new : List Fixed1) (p : Fixed1) (es : List Entry) (e : Entry)
    → map place_view made ≡ map (place_of core) (entries_of (members_view es))
    → place_view p ≡ place_of core (string_bytes e.0, view e.1) → new ≡ made ++ p ∷ []
    → map place_view new ≡ map (place_of core) (entries_of (members_view (es ++ e ∷ [])))
placed_more core made new p es e done one pushed =
    rw (pushed, entries-last es e)
    (map-append place_view made (p ∷ []) ∙ ap (λ zs. zs ++ place_view p ∷ []) done
    ∙ ap (λ z. map (place_of core) (entries_of (members_view es)) ++ z ∷ []) one
    ∙ sym (map-append (place_of core) (entries_of (members_view es)) ((string_bytes e.0, view e.1) ∷ [])))

names_seen : (ps : List Fixed1) → names_of ps ≡ map (λ q. q.name) (map place_view ps)
names_seen [] = refl
names_seen (p ∷ ps) = ap (λ ns. p.name.items ∷ ns) (names_seen ps)

keys_seen : (core : Core) (es : List Entry)
    → map (λ q. q.name) (map (place_of core) (entries_of (members_view es))) ≡ map string_bytes (keys_of es)
keys_seen core [] = refl
keys_seen core (e ∷ es) = ap (λ ns. string_bytes e.0 ∷ ns) (keys_seen core es)

pub names_told : (core : Core) (ps : List Fixed1) (es : List Entry)
    → map place_view ps ≡ map (place_of core) (entries_of (members_view es)) → names_of ps ≡ map string_bytes (keys_of es)
names_told core ps es h = names_seen ps ∙ ap (λ qs. map (λ q. q.name) qs) h ∙ keys_seen core es

below_all : (k : String Global) (ks : List (String Global)) → AllByRecursion (λ y. string_cmp k y ≡ Less) ks
    → AllByRecursion (λ y. slice_cmp nat_cmp (string_bytes k) y ≡ Less) (map string_bytes ks)
below_all k [] h = h
below_all k (x ∷ ks) h = (h.0, below_all k ks h.1)

-- keys in the order of their texts are so as bytes
pub ascending : (ks : List (String Global)) → IsStrictlySortedBy string_cmp ks → AreAscending (map string_bytes ks)
unfolding IsStrictlySortedBy
ascending [] h = h
ascending (k ∷ ks) h = (below_all k ks h.0, ascending ks h.1)

pub ascending-nil : AreAscending []
unfolding IsStrictlySortedBy
ascending-nil = tt

-- ---- facts about each item

pub all_passing : {X : Type 0} (P : X → Type 0) (p : X → Bool) → ((x : X) → p x ≡ true → P x) → (xs : List X)
    → list_all p xs ≡ true → All P xs
all_passing P p one [] h = All-nil P
all_passing P p one (x ∷ xs) h =
    let (here, more) = and_parts (p x) (list_all p xs) h in
    All-cons P x xs (one x here) (all_passing P p one xs more)

pub all_unmapped : {X Y : Type 0} (P : Y → Type 0) (f : X → Y) (xs : List X) → All P (map f xs) → All (λ x. P (f x)) xs
all_unmapped P f xs h k d l =
    let n : k < length (map f xs) = rw (length-map xs f) l in
    subst P (get_or-map f xs k d (f d) l) (h k (f d) n)

-- what holds of each item of a list holds of the list that is made of it
pub all_made : {X Y Z : Type 0} (P : Z → Type 0) (f : X → Z) (g : Y → Z) (xs : List X) (ys : List Y) → map f xs ≡ map g ys
    → All P (map g ys) → All (λ x. P (f x)) xs
all_made P f g xs ys same h = all_unmapped P f xs (subst (All P) (sym same) h)

pub length_made : {X Y Z : Type 0} (f : X → Z) (g : Y → Z) (xs : List X) (ys : List Y) → map f xs ≡ map g ys → length xs ≡ length ys
length_made f g xs ys same = sym (length-map xs f) ∙ ap length same ∙ length-map ys g

pub map_map : {X Y Z : Type 0} (f : Y → Z) (g : X → Y) (xs : List X) → map f (map g xs) ≡ map (λ x. f (g x)) xs
map_map f g [] = refl
map_map f g (x ∷ xs) = ap (λ zs. f (g x) ∷ zs) (map_map f g xs)

-- where all items were looked at
pub made_all : {X Y Z W : Type 0} (f : X → Z) (h : W → Z) (g : Y → W) (made : List X) (ys : List Y) (i : ℕ)
    → map f made ≡ map (λ y. h (g y)) (take i ys) → length ys ≤ i → map f made ≡ map h (map g ys)
made_all f h g made ys i done past =
    let whole = take_all i ys past in
    done ∙ rw whole (sym (map_map h g ys))

pub listed_all : {Y Z W : Type 0} (h : W → Z) (g : Y → W) (made : List Z) (ys : List Y) (i : ℕ)
    → made ≡ map (λ y. h (g y)) (take i ys) → length ys ≤ i → made ≡ map h (map g ys)
listed_all h g made ys i done past =
    let whole = take_all i ys past in
    done ∙ rw whole (sym (map_map h g ys))
