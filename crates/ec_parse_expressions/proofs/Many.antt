-- The items of a list, as a loop reads them.
use Rattle.std.proofs.Common.{◌≡◌, ℕ, suc, ◌-◌, ◌+◌, ◌<◌, ◌≤◌, List, [], ◌∷◌, ◌++◌, length, map, Ok, Err, Option, Some, None, refl, sym, ap}
use Rattle.std.proofs.Common.{◌∙◌, arith, append_assoc}
use Rattle.ec_grammar.specs.declared.token.Token.{Token}
use Rattle.ec_grammar.specs.Trees.{Leaf}
use Rattle.ec_parse_laws.specs.Reading.{Read, ◌>>=◌, many_up_to, many}
use Rattle.ec_parse_tokens.specs.declared.stop.ReadError.{ReadError}
use Rattle.ec_parse_tokens.specs.declared.stop.ReadError.TheVariants as errors
use Rattle.ec_parse_tokens.proofs.Leaves.{length_leaves}
use Rattle.ec_parse_tokens.specs.Reads.{leaves_of, Fails, FailsAt}

-- what was read, before what is read from here on
abbrev pub with_front : {A : Type 0} → List A → Read (List A) → Read (List A)
with_front front read = read >>= λ x. Ok (front ++ x.0, x.1)

-- what was read, and what so many items at most from here on give, is what all of them give
abbrev pub IsPart : {A : Type 0} → (List Leaf → Option (Read A)) → List A → ℕ → List Leaf → Read (List A) → Type 0
IsPart item front n ts total = with_front front (many_up_to item n ts) ≡ total

append_none : {A : Type 0} (xs : List A) → xs ++ [] ≡ xs
append_none [] = refl
append_none (x ∷ xs) = ap (λ ys. x ∷ ys) (append_none xs)

regroup : {A : Type 0} (front : List A) (x : A) (read : Read (List A))
    → with_front front (read >>= λ xs. Ok (x ∷ xs.0, xs.1)) ≡ with_front (front ++ x ∷ []) read
regroup front x (Ok y) = ap (λ z. Ok (z, y.1)) (sym (append_assoc front (x ∷ []) y.0))
regroup front x (Err f) = refl

nothing_before : {A : Type 0} (read : Read (List A)) → with_front [] read ≡ read
nothing_before (Ok x) = refl
nothing_before (Err f) = refl

-- before the first step nothing was read
pub begins : {A : Type 0} (item : List Leaf → Option (Read A)) (count : ℕ) (ts : List Token)
    → IsPart item [] (length ts - 0) (leaves_of count ts) (many item (leaves_of count ts))
begins item count ts = nothing_before (many_up_to item (length ts - 0) (leaves_of count ts))
    ∙ ap (λ n. many_up_to item n (leaves_of count ts)) (let e : length ts - 0 ≡ length ts = omega arith in e ∙ sym (length_leaves count ts))

goes_on : {A : Type 0} (item : List Leaf → Option (Read A)) (front : List A) (count i : ℕ) (ts : List Leaf) (x : A) (after : List Leaf)
    (total : Read (List A))
    → i < count → item ts ≡ Some (Ok (x, after)) → IsPart item front (count - i) ts total
    → IsPart item (front ++ x ∷ []) (count - (i + 1)) after total
unfolding many_up_to
goes_on item front count i ts x after total lt e so_far =
    let k : count - i ≡ suc (count - (i + 1)) = omega arith in
    let one : with_front front (many_up_to item (count - i) ts) ≡ with_front (front ++ x ∷ []) (many_up_to item (count - (i + 1)) after) =
    rw (k, e) (regroup front x (many_up_to item (count - (i + 1)) after)) in
    sym one ∙ so_far

-- where an item fails, all of them do
pub fails : {A : Type 0} (item : List Leaf → Option (Read A)) (e : ReadError) (front : List A) (count i : ℕ) (ts : List Leaf)
    (total : Read (List A))
    → i < count → FailsAt e (item ts) → IsPart item front (count - i) ts total → Fails e total
unfolding many_up_to
fails item errors.NoMemory front count i ts total lt h so_far = tt
fails item (errors.Syntax n) front count i ts total lt h so_far =
    let k : count - i ≡ suc (count - (i + 1)) = omega arith in
    sym so_far ∙ rw (k, h) refl
fails item (errors.TooDeep n) front count i ts total lt h so_far =
    let k : count - i ≡ suc (count - (i + 1)) = omega arith in
    sym so_far ∙ rw (k, h) refl

-- where no item stands, all of them are read
pub stops_at : {A : Type 0} (item : List Leaf → Option (Read A)) (front : List A) (count i : ℕ) (ts : List Leaf) (total : Read (List A))
    → i < count → item ts ≡ None → IsPart item front (count - i) ts total → total ≡ Ok (front, ts)
unfolding many_up_to
stops_at item front count i ts total lt none so_far =
    let k : count - i ≡ suc (count - (i + 1)) = omega arith in
    sym so_far ∙ rw (k, none) (ap (λ xs. Ok (xs, ts)) (append_none front))

-- and so they are after as many steps as there are tokens
pub is_done : {A : Type 0} (item : List Leaf → Option (Read A)) (front : List A) (count i : ℕ) (ts : List Leaf) (total : Read (List A))
    → count ≤ i → IsPart item front (count - i) ts total → total ≡ Ok (front, ts)
unfolding many_up_to
is_done item front count i ts total le so_far =
    let k : count - i ≡ 0 = omega arith in
    sym so_far ∙ rw k (ap (λ xs. Ok (xs, ts)) (append_none front))

-- the views of a list with one more
pub map_push : {A B : Type 0} (f : A → B) (xs : List A) (x : A) → map f (xs ++ x ∷ []) ≡ map f xs ++ f x ∷ []
map_push f [] x = refl
map_push f (y ∷ ys) x = ap (λ zs. f y ∷ zs) (map_push f ys x)

-- one more item was pushed
pub more : {A : Type 0} (item : List Leaf → Option (Read A)) (front pushed : List A) (count i : ℕ) (ts : List Leaf) (x : A)
    (after : List Leaf) (total : Read (List A))
    → i < count → item ts ≡ Some (Ok (x, after)) → pushed ≡ front ++ x ∷ [] → IsPart item front (count - i) ts total
    → IsPart item pushed (count - (i + 1)) after total
more item front pushed count i ts x after total lt e push so_far = rw push (goes_on item front count i ts x after total lt e so_far)

-- what the searches of loops take
pub ruleset loops = (begins, map_push)
