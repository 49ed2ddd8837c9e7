-- What the rounds of the count make of the table.
use Rattle.std.proofs.Common.{◌≡◌, ◌⊎◌, ⊎_elim, ℕ, zero, suc, ◌+◌, ◌*◌, ◌<◌, ◌≤◌, ◌==◌, Bool, true}
use Rattle.std.proofs.Common.{false, List, [], ◌∷◌, ◌++◌, length, take, get_or, refl, sym, ap, ◌∙◌, arith}
use Rattle.std.specs.Prelude.{max, if◌then◌else◌, slice_index, ◌||◌}
use Rattle.std.proofs.lemmas.List.{take_more, get_or_default}
use Rattle.ec_check_recursion.specs.Rows.{row_at}
use Rattle.ec_overlay.specs.Chains.{has}
use Rattle.ec_overlay.specs.Frames.{most_of, end_for, greatest_end, begin_within, begin_of, need_of}
use Rattle.ec_overlay.proofs.Most.{most_is}

-- ---- a row, function by function

or_back : (a b c : Bool) → (a || (b || c)) ≡ ((a || b) || c)
or_back true b c = refl
or_back false b c = refl

has_last : (row : List ℕ) (g f : ℕ) → has (row ++ g ∷ []) f ≡ (has row f || g == f)
has_last [] g f = last (g == f)
  where
    last : (b : Bool) → (b || false) ≡ b
    last true = refl
    last false = refl
has_last (x ∷ row) g f = ap (λ b. x == f || b) (has_last row g f) ∙ or_back (x == f) (has row f) (g == f)

joined : (a b : Bool) (end old : ℕ)
    → max (if b then end else 0) (max (if a then end else 0) old) ≡ max (if a || b then end else 0) old
joined true true end old = omega arith
joined true false end old = omega arith
joined false true end old = omega arith
joined false false end old = omega arith

pub raised_more : (row : List ℕ) (i f end old new before : ℕ) → i < length row
    → before ≡ max (if has (take i row) f then end else 0) old
    → new ≡ max (if get_or row i 0 == f then end else 0) before → new ≡ max (if has (take (i + 1) row) f then end else 0) old
raised_more row i f end old new before l b n =
    let more = take_more row i 0 l in
    let h : has (take (i + 1) row) f ≡ (has (take i row) f || get_or row i 0 == f) =
    ap (λ (r : List ℕ). has r f) more ∙ has_last (take i row) (get_or row i 0) f in
    let e : new ≡ max (if get_or row i 0 == f then end else 0) (max (if has (take i row) f then end else 0) old) = n ∙ ap (max _) b in
    e ∙ joined (has (take i row) f) (get_or row i 0 == f) end old ∙ ap (λ (c : Bool). max (if c then end else 0) old) (sym h)

-- ---- rounds

pub most_same : (h g : ℕ → ℕ) (n : ℕ) → ((k : ℕ) → k < n → h k ≡ g k) → most_of h n ≡ most_of g n
most_same h g zero same = refl
most_same h g (suc n) same =
    let a = same n (omega arith) in
    let b = most_same h g n (λ k l. same k (omega (arith, l))) in
    rw (a, b) refl

pub end_same : (rows : List (List ℕ)) (size : ℕ → ℕ) (a b : ℕ → ℕ) (f : ℕ) → ((k : ℕ) → k < length rows
    → a k ≡ b k)
    → greatest_end rows size a f ≡ greatest_end rows size b f
end_same rows size a b f same =
    most_same (end_for rows size a f) (end_for rows size b f) (length rows)
    (λ k l. ap (λ n. if has (row_at rows k) f then n + size k else 0) (same k l))

-- no frame begins behind so many bytes for each round
pub begin_most : (rows : List (List ℕ)) (size : ℕ → ℕ) (most : ℕ) → ((k : ℕ) → k < length rows → size k ≤ most)
    → (n f : ℕ)
    → begin_within rows size n f ≤ n * most
begin_most rows size most few zero f = omega arith
begin_most rows size most few (suc n) f =
    by_end (most_is (end_for rows size (begin_within rows size n) f) (length rows)) (λ c. begin_most rows size most few n c)
  where
    end_most : (c : ℕ) → c < length rows → begin_within rows size n c ≤ n * most → (b : Bool)
        → (if b then begin_within rows size n c + size c else 0) ≤ suc n * most
    end_most c l before true = let s = few c l in omega (arith, s, before)
    end_most c l before false = omega arith

    by_end : (greatest_end rows size (begin_within rows size n) f ≡ 0)
        ⊎ ((c : ℕ) × (c < length rows) × (end_for rows size (begin_within rows size n) f c
        ≡ greatest_end rows size (begin_within rows size n) f))
        → ((c : ℕ) → begin_within rows size n c ≤ n * most)
        → greatest_end rows size (begin_within rows size n) f ≤ suc n * most
    by_end found before =
        ⊎_elim (λ none. omega (arith, none))
        (λ one. let e = end_most one.0 one.1 (before one.0) (has (row_at rows one.0) f) in let q = one.2 in omega (arith, e, q)) found

-- size of 44 bits, and at most 65,536 functions
pub begin_fits : (rows : List (List ℕ)) (size : ℕ → ℕ) (begins : List ℕ) (n k d : ℕ)
    → ((i : ℕ) → i < length rows → size i ≤ 17592186044416) → n ≤ 65536
    → length begins ≡ length rows
    → ((f : ℕ) → f < length rows → slice_index begins f ≡ begin_within rows size n f) → k < length begins
    → get_or begins k d ≤ 1152921504606846976
begin_fits rows size begins n k d few round count is l =
    let m = begin_most rows size 17592186044416 few n k in
    let at : get_or begins k d ≡ get_or begins k 0 = get_or_default begins k d 0 l in
    let e : get_or begins k 0 ≡ begin_within rows size n k = is k (omega (arith, l, count)) in
    omega (arith, m, at, e, round)

pub next_round : (rows : List (List ℕ)) (size : ℕ → ℕ) (n f : ℕ)
    → begin_within rows size (n + 1) f ≡ greatest_end rows size (begin_within rows size n) f
next_round rows size n f = let e : n + 1 ≡ suc n = omega arith in ap (λ m. begin_within rows size m f) e

-- ---- the same sizes

pub within_same : (rows : List (List ℕ)) (a b : ℕ → ℕ) → ((k : ℕ) → k < length rows → a k ≡ b k) → (n f : ℕ)
    → begin_within rows a n f ≡ begin_within rows b n f
within_same rows a b same zero f = refl
within_same rows a b same (suc n) f =
    most_same (end_for rows a (begin_within rows a n) f) (end_for rows b (begin_within rows b n) f) (length rows)
    (λ k l. both k (within_same rows a b same n k) (same k l))
  where
    both : (k : ℕ) → begin_within rows a n k ≡ begin_within rows b n k → a k ≡ b k
        → end_for rows a (begin_within rows a n) f k ≡ end_for rows b (begin_within rows b n) f k
    both k s t = rw (s, t) refl

-- frames of the same sizes begin at the same places, and need as much
pub begins_same : (rows : List (List ℕ)) (a b : ℕ → ℕ) → ((k : ℕ) → k < length rows → a k ≡ b k) → (f : ℕ)
    → begin_of rows a f ≡ begin_of rows b f
begins_same rows a b same f = within_same rows a b same (length rows) f

pub need_same : (rows : List (List ℕ)) (a b : ℕ → ℕ) → ((k : ℕ) → k < length rows → a k ≡ b k)
    → need_of rows a ≡ need_of rows b
need_same rows a b same =
    most_same (λ f. begin_of rows a f + a f) (λ f. begin_of rows b f + b f) (length rows)
    (λ k l. let s = begins_same rows a b same k in let t = same k l in omega (arith, s, t))

-- ---- what all need

most_below : (h : ℕ → ℕ) (n m : ℕ) → ((k : ℕ) → k < n → h k ≤ m) → most_of h n ≤ m
most_below h zero m each = omega arith
most_below h (suc n) m each =
    let a = each n (omega arith) in
    let b = most_below h n m (λ k l. each k (omega (arith, l))) in
    omega (arith, a, b)

pub need_fits : (rows : List (List ℕ)) (size : ℕ → ℕ) (n need : ℕ) → ((i : ℕ) → i < length rows
    → size i ≤ 17592186044416)
    → length rows ≤ 65536 → n ≤ length rows → need ≡ most_of (λ f. begin_of rows size f + size f) n
    → need ≤ 2305843009213693952
need_fits rows size n need few round within is =
    let m = most_below (λ f. begin_of rows size f + size f) n 2305843009213693952
    (λ k l.
    let b = begin_most rows size 17592186044416 few (length rows) k in
    let s = few k (omega (arith, l, within)) in
    omega (arith, b, s, round)) in
    omega (arith, m, is)
