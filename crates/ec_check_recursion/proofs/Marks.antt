-- A search marks just what a function reaches.
use Rattle.std.proofs.Common.{◌≡◌, ℕ, zero, suc, ◌+◌, ◌<◌, ◌≤◌, Bool, true, false, List, [], ◌∷◌, ◌++◌, ◌⊎◌, inl, inr, refl, sym, cond, ◌∙◌}
use Rattle.std.proofs.Common.{ap, subst, length, replicate, take, ◌-◌, arith, ◌↔◌}
use Rattle.std.specs.Prelude.{Contains, slice_index_or, not, slice_set}
use Rattle.std.specs.List.{count_by}
use Rattle.std.proofs.lemmas.List.Elements.{Contains-append_left, Contains-append_right, Contains-append_cases, Contains-push}
use Rattle.std.proofs.lemmas.List.Elements.{Contains-push_cases}
use Rattle.std.proofs.lemmas.List.Sums.{sum_by-set}
use Rattle.std.proofs.lemmas.List.{length-append, length-map, length-set, get_or-set_same, get_or-set_other}
use Rattle.std.proofs.lemmas.Bool.{cases_eq}
use Rattle.ec_space.specs.Listed.{Listed}
use Rattle.ec_check_recursion.specs.Rows.{plain_rows, row_at, LeadsTo, calls, calls_through, IsMarked, AreReached, AreNoted, IsSearch}

-- ---- chains

extended : (rows : List (List ℕ)) (g h f : ℕ) → LeadsTo rows h f → Contains (row_at rows h) g → LeadsTo rows g f
extended rows g h _ (calls f c) d = calls_through f h c (calls h d)
extended rows g h _ (calls_through f k c r) d = calls_through f k c (extended rows g h k r d)

row_within : (rows : List (List ℕ)) (f g : ℕ) → Contains (row_at rows f) g → f < length rows
row_within [] f g c = let l : c.0 < 0 = c.1 in absurd (omega arith)
row_within (r ∷ rows) zero g c = omega arith
row_within (r ∷ rows) (suc f) g c = let l = row_within rows f g c in omega (arith, l)

pub leads_within : (rows : List (List ℕ)) (g f : ℕ) → LeadsTo rows g f → f < length rows
leads_within rows g _ (calls f c) = row_within rows f g c
leads_within rows g _ (calls_through f h c r) = row_within rows f h c

-- ---- the search

-- what f reaches is marked, where the calls of f and of all that is marked are
all_marked : (rows : List (List ℕ)) (marks : List Bool)
    → ((h : ℕ) → IsMarked marks h → (g : ℕ) → Contains (row_at rows h) g → g < length rows → IsMarked marks g)
    → (g : ℕ) → g < length rows → (f : ℕ) → ((h : ℕ) → Contains (row_at rows f) h → h < length rows → IsMarked marks h)
    → LeadsTo rows g f → IsMarked marks g
all_marked rows marks closed g l _ own (calls f c) = own g c l
all_marked rows marks closed g l _ own (calls_through f h c r) =
    all_marked rows marks closed g l h (closed h (own h c (leads_within rows g h r))) r

none_contained : (h : ℕ) → Contains [] h → ⊥
none_contained h c = let l : c.0 < 0 = c.1 in omega arith

no_marks : (n h : ℕ) → IsMarked (replicate n false) h → ⊥
no_marks zero h e = cc
no_marks (suc n) zero e = cc
no_marks (suc n) (suc h) e = no_marks n h e

pub search_begins : (rows : List (List ℕ)) (f : ℕ) (marks : List Bool) (waiting : List ℕ)
    → length marks ≡ length rows
    → AreNoted (row_at rows f) (replicate (length rows) false) marks [] waiting → IsSearch rows f marks waiting
search_begins rows f marks waiting count n = record {
  count = count;
  sound = λ g e. elim (n.only g e) [ inl old ↦ absurd (no_marks (length rows) g old) | inr c ↦ calls f c ];
  own = λ g c l. n.all g c (omega (arith, n.count, count));
  held = λ h c. elim (n.come h c) [ inl old ↦ absurd (none_contained h old) | inr e ↦ e ];
  closed = λ h e. elim (n.wait h e) [ inl old ↦ absurd (no_marks (length rows) h old) | inr c ↦ inl c ];
}

closed_more : (rows : List (List ℕ)) (f h : ℕ) (marks new : List Bool) (rest more : List ℕ)
    → IsSearch rows f marks (rest ++ h ∷ []) → AreNoted (row_at rows h) marks new rest more → (k : ℕ)
    → Contains (rest ++ h ∷ []) k
    → Contains more k ⊎ ((g : ℕ) → Contains (row_at rows k) g → g < length rows → IsMarked new g)
closed_more rows f h marks new rest more s n k c =
    elim (Contains-push_cases rest h k c) [
      | inl there ↦ inl (n.stay k there)
      | inr same ↦ inr (λ g d l. n.all g (subst (λ x. Contains (row_at rows x) g) (sym same) d) (omega (arith, s.count)))
    ]

pub search_goes_on : (rows : List (List ℕ)) (f h : ℕ) (marks new : List Bool) (rest more : List ℕ)
    → IsSearch rows f marks (rest ++ h ∷ []) → AreNoted (row_at rows h) marks new rest more → IsSearch rows f new more
search_goes_on rows f h marks new rest more s n = record {
  count = n.count ∙ s.count;
  sound = λ g e. elim (n.only g e) [
    | inl old ↦ s.sound g old
    | inr c ↦ extended rows g h f (s.sound h (s.held h (Contains-push rest h))) c
  ];
  own = λ g c l. n.kept g (s.own g c l);
  held = λ k c. elim (n.come k c) [
    | inl old ↦ n.kept k (s.held k (Contains-append_left rest (h ∷ []) k old))
    | inr e ↦ e
  ];
  closed = λ k e. elim (n.wait k e) [
    | inr c ↦ inl c
    | inl old ↦ elim (s.closed k old) [
      | inl c ↦ closed_more rows f h marks new rest more s n k c
      | inr done ↦ inr (λ g c l. n.kept g (done g c l))
    ]
  ];
}

closed_last : (rows : List (List ℕ)) (f : ℕ) (marks : List Bool) → IsSearch rows f marks []
    → (h : ℕ) → IsMarked marks h → (g : ℕ) → Contains (row_at rows h) g → g < length rows → IsMarked marks g
closed_last rows f marks s h e = elim (s.closed h e) [ inl c ↦ absurd (none_contained h c) | inr done ↦ done ]

pub search_ends : (rows : List (List ℕ)) (f : ℕ) (marks : List Bool) → IsSearch rows f marks [] → AreReached rows f marks
search_ends rows f marks s = record {
  sound = s.sound;
  complete = λ g l r. all_marked rows marks (closed_last rows f marks s) g l f s.own r;
}

-- ---- what is noted

pub none_noted : (marks : List Bool) (waiting : List ℕ) → AreNoted [] marks marks waiting waiting
none_noted marks waiting = record {
  count = refl;
  kept = λ f e. e;
  all = λ f c l. absurd (none_contained f c);
  only = λ f e. inl e;
  wait = λ f e. inl e;
  stay = λ f c. c;
  come = λ f c. inl c;
  fewer = omega arith;
}

pub noted_joined : (xs ys : List ℕ) (a b c : List Bool) (u v w : List ℕ)
    → AreNoted xs a b u v → AreNoted ys b c v w → AreNoted (xs ++ ys) a c u w
noted_joined xs ys a b c u v w m n = record {
  count = n.count ∙ m.count;
  kept = λ f e. n.kept f (m.kept f e);
  all = λ f h l. elim (Contains-append_cases xs ys f h) [
    | inl x ↦ n.kept f (m.all f x l)
    | inr y ↦ n.all f y (omega (arith, m.count))
  ];
  only = λ f e. elim (n.only f e) [
    | inl x ↦ elim (m.only f x) [ inl old ↦ inl old | inr h ↦ inr (Contains-append_left xs ys f h) ]
    | inr y ↦ inr (Contains-append_right xs ys f y)
  ];
  wait = λ f e. elim (n.wait f e) [
    | inl x ↦ elim (m.wait f x) [ inl old ↦ inl old | inr h ↦ inr (n.stay f h) ]
    | inr y ↦ inr y
  ];
  stay = λ f h. n.stay f (m.stay f h);
  come = λ f h. elim (n.come f h) [
    | inl x ↦ elim (m.come f x) [ inl old ↦ inl old | inr e ↦ inr (n.kept f e) ]
    | inr e ↦ inr e
  ];
  fewer = omega (arith, m.fewer, n.fewer);
}

one_of : (f k : ℕ) → Contains (f ∷ []) k → k ≡ f
one_of f k (zero, l, e) = sym e
one_of f k (suc i, l, e) = let m : suc i < 1 = l in absurd (omega arith)

-- a function that is marked already, or that there is none of
pub nothing_noted : (f : ℕ) (marks : List Bool) (waiting : List ℕ) → IsMarked marks f ⊎ (length marks ≤ f)
    → AreNoted (f ∷ []) marks marks waiting waiting
nothing_noted f marks waiting h = record {
  count = refl;
  kept = λ k e. e;
  all = λ k c l. elim h [
    | inl e ↦ subst (λ x. IsMarked marks x) (sym (one_of f k c)) e
    | inr past ↦ let same = one_of f k c in absurd (omega (arith, l, past, same))
  ];
  only = λ k e. inl e;
  wait = λ k e. inl e;
  stay = λ k c. c;
  come = λ k c. inl c;
  fewer = omega arith;
}

marked_same : (marks : List Bool) (f k : ℕ) → f < length marks → k ≡ f → IsMarked (slice_set marks f true) k
marked_same marks f k l same = subst (λ x. IsMarked (slice_set marks f true) x) (sym same) (get_or-set_same marks f true false l)

fewer_noted : (f : ℕ) (marks : List Bool) (waiting : List ℕ) → f < length marks → slice_index_or marks f false ≡ false
    → count_by not (slice_set marks f true) + length (waiting ++ f ∷ []) ≤ count_by not marks + length waiting
fewer_noted f marks waiting l e =
    let change = sum_by-set (λ x. cond (not x) 1 0) marks f true false l in
    let counts = rw e at change in
    let long = length-append waiting (f ∷ []) in
    omega (arith, counts, long)

-- a function that is not
pub one_noted : (f : ℕ) (marks : List Bool) (waiting : List ℕ) → f < length marks → slice_index_or marks f false ≡ false
    → AreNoted (f ∷ []) marks (slice_set marks f true) waiting (waiting ++ f ∷ [])
one_noted f marks waiting l e = record {
  count = length-set marks f true;
  kept = λ k m. elim (cases_eq k f) [
    | inl same ↦ marked_same marks f k l same
    | inr other ↦ get_or-set_other marks f k true false other ∙ m
  ];
  all = λ k c n. marked_same marks f k l (one_of f k c);
  only = λ k m. elim (cases_eq k f) [
    | inl same ↦ inr (subst (λ x. Contains (f ∷ []) x) (sym same) (Contains-push [] f))
    | inr other ↦ inl (sym (get_or-set_other marks f k true false other) ∙ m)
  ];
  wait = λ k m. elim (cases_eq k f) [
    | inl same ↦ inr (subst (λ x. Contains (waiting ++ f ∷ []) x) (sym same) (Contains-push waiting f))
    | inr other ↦ inl (sym (get_or-set_other marks f k true false other) ∙ m)
  ];
  stay = λ k c. Contains-append_left waiting (f ∷ []) k c;
  come = λ k c. elim (Contains-push_cases waiting f k c) [
    | inl there ↦ inl there
    | inr same ↦ inr (marked_same marks f k l (sym same))
  ];
  fewer = fewer_noted f marks waiting l e;
}

-- ---- the whole search

plain_count : (rows : List (Listed ℕ)) → length (plain_rows rows) ≡ length rows
plain_count rows = length-map rows (λ row. row.items)

pub leads_back : (rows : List (Listed ℕ)) (f : ℕ) (marks : List Bool) → f < length rows → AreReached (plain_rows rows) f marks
    → (slice_index_or marks f false ≡ true) ↔ LeadsTo (plain_rows rows) f f
leads_back rows f marks l r =
    let count = plain_count rows in
    (λ e. r.sound f e, λ h. r.complete f (omega (arith, l, count)) h)

pub begun : (rows : List (Listed ℕ)) (f : ℕ) (marks : List Bool) (waiting : List ℕ) → length marks ≡ length rows
    → AreNoted (row_at (plain_rows rows) f) (replicate (length rows) false) marks [] waiting
    → IsSearch (plain_rows rows) f marks waiting
begun rows f marks waiting count n =
    let plain = plain_count rows in
    search_begins (plain_rows rows) f marks waiting (omega (arith, count, plain)) (rw plain n)

-- where none of all leads to itself, no function does
pub nowhere : (rows : List (Listed ℕ)) (n : ℕ) → length rows ≤ n → ((k : ℕ) → k < n → ¬ LeadsTo (plain_rows rows) k k)
    → (f : ℕ) → ¬ LeadsTo (plain_rows rows) f f
nowhere rows n all none f h =
    let l = leads_within (plain_rows rows) f f h in
    let count = plain_count rows in
    none f (omega (arith, l, count, all)) h

-- a list from which nothing is popped is empty
pub none_popped : (xs ys : List ℕ) (n : ℕ) → xs ≡ ys ++ [] → ys ≡ take (n - 1) xs → n ≡ 0 → xs ≡ []
none_popped xs ys n whole rest none =
    let low : n - 1 ≡ 0 = omega (arith, none) in
    whole ∙ ap (λ l. l ++ []) (rest ∙ ap (λ k. take k xs) low)
