-- What marked functions call is marked until nothing is new: then all is marked that they reach.
use Rattle.std.proofs.Common.{◌≡◌, ℕ, zero, suc, ◌+◌, ◌<◌, ◌≤◌, Bool, true, false, ◌||◌, List, [], ◌∷◌, ◌++◌, ◌⊎◌, inl, inr, refl, sym, cond}
use Rattle.std.proofs.Common.{◌∙◌, ap, subst, length, replicate, map, Option, Some, None, arith, if◌then◌else◌}
use Rattle.std.specs.Prelude.{Contains, slice_get, slice_index_or, not, slice_set}
use Rattle.std.specs.List.{count_by}
use Rattle.std.proofs.lemmas.List.Elements.{Contains-append_left, Contains-append_right, Contains-append_cases, Contains-push}
use Rattle.std.proofs.lemmas.List.Sums.{sum_by-set}
use Rattle.std.proofs.lemmas.List.{length-set, length-map, length-replicate, get_or-set_same, get_or-set_other}
use Rattle.std.proofs.lemmas.Bool.{cases_eq}
use Rattle.ec_space.specs.Listed.{Listed}
use Rattle.ec_core.specs.Needs.{stmt_calls}
use Rattle.ec_core.specs.Plain.{PlainFunction, PlainProgram}
use Rattle.ec_core.specs.Valid.{Reaches, calls, calls_through}
use Rattle.ec_check_recursion.specs.Rows.{plain_rows, row_at, rows_of_program, IsMarked}
use Rattle.ec_core_steps.specs.Laws.{IsReached}
use Rattle.ec_core_steps.specs.Reached.{AreReached, MarkReached, AreMarked, IsSpreadFrom, IsSpread, IsClosed}

-- ---- rows of functions

none_contained : (h : ℕ) → Contains [] h → ⊥
none_contained h c = let l : c.0 < 0 = c.1 in omega arith

row_within : (rows : List (List ℕ)) (f g : ℕ) → Contains (row_at rows f) g → f < length rows
row_within [] f g c = absurd (none_contained g c)
row_within (r ∷ rows) zero g c = omega arith
row_within (r ∷ rows) (suc f) g c = let l = row_within rows f g c in omega (arith, l)

row_of : (fs : List PlainFunction) (f : ℕ) (x : PlainFunction) → slice_get fs f ≡ Some x
    → row_at (map (λ g. stmt_calls g.body []) fs) f ≡ stmt_calls x.body []
row_of [] f x e = cc
row_of (y ∷ fs) zero x e = let same : y ≡ x = cc in rw same refl
row_of (y ∷ fs) (suc f) x e = row_of fs f x e

no_row : (fs : List PlainFunction) (f : ℕ) → slice_get fs f ≡ None → row_at (map (λ g. stmt_calls g.body []) fs) f ≡ []
no_row [] f e = refl
no_row (y ∷ fs) zero e = cc
no_row (y ∷ fs) (suc f) e = no_row fs f e

within_some : (fs : List PlainFunction) (f : ℕ) (x : PlainFunction) → slice_get fs f ≡ Some x → f < length fs
within_some [] f x e = cc
within_some (y ∷ fs) zero x e = omega arith
within_some (y ∷ fs) (suc f) x e = let l = within_some fs f x e in omega (arith, l)

-- ---- what main reaches

record IsCaller (p : PlainProgram) (f g : ℕ) : Type 0 where
  function : PlainFunction
  is : slice_get p.functions f ≡ Some function
  has : Contains (stmt_calls function.body []) g

caller_by : (p : PlainProgram) (f g : ℕ) (o : Option PlainFunction) → slice_get p.functions f ≡ o
    → Contains (row_at (rows_of_program p) f) g → IsCaller p f g
caller_by p f g None is c = absurd (none_contained g (rw (no_row p.functions f is) at c))
caller_by p f g (Some x) is c = record { function = x; is = is; has = rw (row_of p.functions f x is) at c }

caller : (p : PlainProgram) (f g : ℕ) → Contains (row_at (rows_of_program p) f) g → IsCaller p f g
caller p f g c = caller_by p f g (slice_get p.functions f) refl c

reach_within : (p : PlainProgram) (g f : ℕ) → Reaches p g f → f < length p.functions
reach_within p g _ (calls f x is c) = within_some p.functions f x is
reach_within p g _ (calls_through f h x is c r) = within_some p.functions f x is

further : (p : PlainProgram) (f g k : ℕ) → Reaches p f k → IsCaller p f g → Reaches p g k
further p f g _ (calls k x is c) d = calls_through k f x is c (calls f d.function d.is d.has)
further p f g _ (calls_through k h x is c r) d = calls_through k h x is c (further p f g h r d)

reached_next : (p : PlainProgram) (f g : ℕ) → IsReached p f → IsCaller p f g → IsReached p g
reached_next p f g (inl main) d = inr (subst (λ k. Reaches p g k) main (calls f d.function d.is d.has))
reached_next p f g (inr r) d = inr (further p f g p.main r d)

-- ---- marks

one_of : (f k : ℕ) → Contains (f ∷ []) k → k ≡ f
one_of f k (zero, l, e) = sym e
one_of f k (suc i, l, e) = let m : suc i < 1 = l in absurd (omega arith)

pub none_marked : (marks : List Bool) → AreMarked [] marks marks false
none_marked marks = record {
  count = refl;
  kept = λ f e. e;
  all = λ f c l. absurd (none_contained f c);
  only = λ f e. inl e;
  fewer = omega arith;
  still = λ e. refl;
}

-- a function that is marked already, or that there is none of
pub nothing_marked : (f : ℕ) (marks : List Bool) → IsMarked marks f ⊎ (length marks ≤ f) → AreMarked (f ∷ []) marks marks false
nothing_marked f marks h = record {
  count = refl;
  kept = λ k e. e;
  all = λ k c l. elim h [
    | inl e ↦ subst (λ x. IsMarked marks x) (sym (one_of f k c)) e
    | inr past ↦ let same = one_of f k c in absurd (omega (arith, l, past, same))
  ];
  only = λ k e. inl e;
  fewer = omega arith;
  still = λ e. refl;
}

marked_same : (marks : List Bool) (f k : ℕ) → f < length marks → k ≡ f → IsMarked (slice_set marks f true) k
marked_same marks f k l same = subst (λ x. IsMarked (slice_set marks f true) x) (sym same) (get_or-set_same marks f true false l)

fewer_marked : (f : ℕ) (marks : List Bool) → f < length marks → slice_index_or marks f false ≡ false
    → count_by not (slice_set marks f true) + 1 ≤ count_by not marks
fewer_marked f marks l e =
    let change = sum_by-set (λ x. cond (not x) 1 0) marks f true false l in
    let counts = rw e at change in
    omega (arith, counts)

-- a function that is not
pub one_marked : (f : ℕ) (marks : List Bool) → f < length marks → slice_index_or marks f false ≡ false
    → AreMarked (f ∷ []) marks (slice_set marks f true) true
one_marked f marks l e = record {
  count = length-set marks f true;
  kept = λ k m. elim (cases_eq k f) [
    | inl same ↦ marked_same marks f k l same
    | inr other ↦ get_or-set_other marks f k true false other ∙ m
  ];
  all = λ k c n. marked_same marks f k l (one_of f k c);
  only = λ k m. elim (cases_eq k f) [
    | inl same ↦ inr (subst (λ x. Contains (f ∷ []) x) (sym same) (Contains-push [] f))
    | inr other ↦ inl (sym (get_or-set_other marks f k true false other) ∙ m)
  ];
  fewer = fewer_marked f marks l e;
  still = λ g. cc;
}

-- a row and then one more, in which nothing is new or something is
pub marked_on : (xs ys : List ℕ) (a b c : List Bool) (grown : Bool) → AreMarked xs a b grown → AreMarked ys b c false
    → AreMarked (xs ++ ys) a c grown
marked_on xs ys a b c grown m n = record {
  count = n.count ∙ m.count;
  kept = λ f e. n.kept f (m.kept f e);
  all = λ f h l. elim (Contains-append_cases xs ys f h) [
    | inl x ↦ n.kept f (m.all f x l)
    | inr y ↦ n.all f y (omega (arith, m.count, l))
  ];
  only = λ f e. elim (n.only f e) [
    | inl x ↦ elim (m.only f x) [ inl old ↦ inl old | inr h ↦ inr (Contains-append_left xs ys f h) ]
    | inr y ↦ inr (Contains-append_right xs ys f y)
  ];
  fewer = omega (arith, m.fewer, n.fewer);
  still = λ e. n.still refl ∙ m.still e;
}

fewer_after : (a b c : ℕ) (grown : Bool) → b + (if grown then 1 else 0) ≤ a → c + 1 ≤ b → c + 1 ≤ a
fewer_after a b c true l m = omega (arith, l, m)
fewer_after a b c false l m = omega (arith, l, m)

pub marked_more : (xs ys : List ℕ) (a b c : List Bool) (grown : Bool) → AreMarked xs a b grown → AreMarked ys b c true
    → AreMarked (xs ++ ys) a c true
marked_more xs ys a b c grown m n = record {
  count = n.count ∙ m.count;
  kept = λ f e. n.kept f (m.kept f e);
  all = λ f h l. elim (Contains-append_cases xs ys f h) [
    | inl x ↦ n.kept f (m.all f x l)
    | inr y ↦ n.all f y (omega (arith, m.count, l))
  ];
  only = λ f e. elim (n.only f e) [
    | inl x ↦ elim (m.only f x) [ inl old ↦ inl old | inr h ↦ inr (Contains-append_left xs ys f h) ]
    | inr y ↦ inr (Contains-append_right xs ys f y)
  ];
  fewer = fewer_after (count_by not a) (count_by not b) (count_by not c) grown m.fewer n.fewer;
  still = λ e. cc;
}

pub marked_joined : (xs ys : List ℕ) (a b c : List Bool) (grown more result : Bool) → AreMarked xs a b grown → AreMarked ys b c more
    → result ≡ (grown || more) → AreMarked (xs ++ ys) a c result
marked_joined xs ys a b c true true result m n e = subst (AreMarked (xs ++ ys) a c) (sym e) (marked_more xs ys a b c true m n)
marked_joined xs ys a b c true false result m n e = subst (AreMarked (xs ++ ys) a c) (sym e) (marked_on xs ys a b c true m n)
marked_joined xs ys a b c false true result m n e = subst (AreMarked (xs ++ ys) a c) (sym e) (marked_more xs ys a b c false m n)
marked_joined xs ys a b c false false result m n e = subst (AreMarked (xs ++ ys) a c) (sym e) (marked_on xs ys a b c false m n)

-- ---- what one function calls

-- it is not marked
pub nothing_spread : (f : ℕ) (row : List ℕ) (marks : List Bool) → (IsMarked marks f → ⊥) → IsSpreadFrom f row marks marks false
nothing_spread f row marks none = record {
  count = refl;
  kept = λ g e. e;
  all = λ m. absurd (none m);
  only = λ g e. inl e;
  fewer = omega arith;
  still = λ e. refl;
}

-- it is
pub row_spread : (f : ℕ) (row : List ℕ) (marks new : List Bool) (grown : Bool) → IsMarked marks f → AreMarked row marks new grown
    → IsSpreadFrom f row marks new grown
row_spread f row marks new grown m n = record {
  count = n.count;
  kept = n.kept;
  all = λ _. n.all;
  only = λ g e. elim (n.only g e) [ inl old ↦ inl old | inr c ↦ inr (m, c) ];
  fewer = n.fewer;
  still = n.still;
}

-- ---- what the first functions call

pub none_spread : (rows : List (List ℕ)) (marks : List Bool) → IsSpread rows 0 marks marks false
none_spread rows marks = record {
  count = refl;
  kept = λ f e. e;
  sound = λ p e r. r;
  fewer = omega arith;
  closed = λ e f g l. absurd (omega (arith, l));
}

sound_on : (p : PlainProgram) (rows : List (List ℕ)) (f : ℕ) (b c : List Bool) (grown : Bool) → rows ≡ rows_of_program p
    → IsSpreadFrom f (row_at rows f) b c grown → AreReached p b → AreReached p c
sound_on p rows f b c grown same n r g e = elim (n.only g e) [
  | inl old ↦ r g old
  | inr h ↦ reached_next p f g (r f h.0) (caller p f g (subst (λ x. Contains (row_at x f) g) same h.1))
]

closed_on : (rows : List (List ℕ)) (most : ℕ) (a b c : List Bool) → IsSpread rows most a b false
    → IsSpreadFrom most (row_at rows most) b c false → (f g : ℕ) → f < most + 1 → IsMarked c f → Contains (row_at rows f) g
    → g < length c → IsMarked c g
closed_on rows most a b c m n f g l e h k = elim (cases_eq f most) [
  | inl same ↦
      let own : IsMarked b most = subst (λ x. IsMarked x most) (n.still refl) (subst (λ x. IsMarked c x) same e) in
      n.all own g (subst (λ x. Contains (row_at rows x) g) same h) (omega (arith, n.count, k))
  | inr other ↦
      let old : IsMarked b f = subst (λ x. IsMarked x f) (n.still refl) e in
      n.kept g (m.closed refl f g (omega (arith, l, other)) old h (omega (arith, n.count, k)))
]

pub spread_on : (rows : List (List ℕ)) (most : ℕ) (a b c : List Bool) (grown : Bool) → IsSpread rows most a b grown
    → IsSpreadFrom most (row_at rows most) b c false → IsSpread rows (most + 1) a c grown
spread_on rows most a b c grown m n = record {
  count = n.count ∙ m.count;
  kept = λ f e. n.kept f (m.kept f e);
  sound = λ p e r. sound_on p rows most b c false e n (m.sound p e r);
  fewer = omega (arith, m.fewer, n.fewer);
  closed = λ e. closed_on rows most a b c (subst (λ x. IsSpread rows most a b x) e m) n;
}

pub spread_more : (rows : List (List ℕ)) (most : ℕ) (a b c : List Bool) (grown : Bool) → IsSpread rows most a b grown
    → IsSpreadFrom most (row_at rows most) b c true → IsSpread rows (most + 1) a c true
spread_more rows most a b c grown m n = record {
  count = n.count ∙ m.count;
  kept = λ f e. n.kept f (m.kept f e);
  sound = λ p e r. sound_on p rows most b c true e n (m.sound p e r);
  fewer = fewer_after (count_by not a) (count_by not b) (count_by not c) grown m.fewer n.fewer;
  closed = λ e. cc;
}

pub spread_joined : (rows : List (List ℕ)) (most : ℕ) (a b c : List Bool) (grown more result : Bool) → IsSpread rows most a b grown
    → IsSpreadFrom most (row_at rows most) b c more → result ≡ (grown || more) → IsSpread rows (most + 1) a c result
spread_joined rows most a b c true true result m n e = subst (IsSpread rows (most + 1) a c) (sym e) (spread_more rows most a b c true m n)
spread_joined rows most a b c true false result m n e = subst (IsSpread rows (most + 1) a c) (sym e) (spread_on rows most a b c true m n)
spread_joined rows most a b c false true result m n e =
    subst (IsSpread rows (most + 1) a c) (sym e) (spread_more rows most a b c false m n)
spread_joined rows most a b c false false result m n e =
    subst (IsSpread rows (most + 1) a c) (sym e) (spread_on rows most a b c false m n)

-- what holds of more functions holds of fewer
pub spread_of_all : (rows : List (List ℕ)) (all most : ℕ) (a b : List Bool) (grown : Bool) → all ≤ most → IsSpread rows most a b grown
    → IsSpread rows all a b grown
spread_of_all rows all most a b grown l s = record {
  count = s.count;
  kept = s.kept;
  sound = s.sound;
  fewer = s.fewer;
  closed = λ e f g m. s.closed e f g (omega (arith, l, m));
}

-- ---- all that is reached

-- how far the loop that spreads has come; where nothing was new, it is at its end
pub record IsSpreading (rows : List (Listed ℕ)) (marks new : List Bool) (grown : Bool) : Type 0 where
  pub count : length new ≡ length marks
  pub kept : (f : ℕ) → IsMarked marks f → IsMarked new f
  pub sound : (p : PlainProgram) → plain_rows rows ≡ rows_of_program p → AreReached p marks → AreReached p new
  pub closed : grown ≡ false → (f g : ℕ) → f < length rows → IsMarked new f → Contains (row_at (plain_rows rows) f) g → g < length new
      → IsMarked new g

pub spreading_begins : (rows : List (Listed ℕ)) (marks : List Bool) → IsSpreading rows marks marks true
spreading_begins rows marks = record { count = refl; kept = λ f e. e; sound = λ p e r. r; closed = λ e. cc }

pub spreading_on : (rows : List (Listed ℕ)) (a b c : List Bool) (grown more : Bool) → IsSpreading rows a b grown
    → IsSpread (plain_rows rows) (length rows) b c more → IsSpreading rows a c more
spreading_on rows a b c grown more m n = record {
  count = n.count ∙ m.count;
  kept = λ f e. n.kept f (m.kept f e);
  sound = λ p e r. n.sound p e (m.sound p e r);
  closed = n.closed;
}

-- each turn but the last marks a function
pub measure_falls : (a b : ℕ) (more grown : Bool) → grown ≡ true → a + (if more then 1 else 0) ≤ b
    → a + (if more then 1 else 0) < b + (if grown then 1 else 0)
measure_falls a b more true g l = omega (arith, l)
measure_falls a b more false g l = absurd (cc)

plain_count : (rows : List (Listed ℕ)) → length (plain_rows rows) ≡ length rows
plain_count rows = length-map rows (λ row. row.items)

caller_within : (rows : List (Listed ℕ)) (f g : ℕ) → Contains (row_at (plain_rows rows) f) g → f < length rows
caller_within rows f g h =
    let within = row_within (plain_rows rows) f g h in
    let long = plain_count rows in
    omega (arith, within, long)

pub spreading_ends : (rows : List (Listed ℕ)) (a c : List Bool) (grown : Bool) → grown ≡ false → IsSpreading rows a c grown
    → IsClosed (plain_rows rows) a c
spreading_ends rows a c grown e m = record {
  count = m.count;
  kept = m.kept;
  sound = m.sound;
  closed = λ f g k h l. m.closed e f g (caller_within rows f g h) k h l;
}

reached_marked : (p : PlainProgram) (marks : List Bool) → length marks ≡ length p.functions
    → ((f g : ℕ) → IsMarked marks f → Contains (row_at (rows_of_program p) f) g → g < length marks → IsMarked marks g)
    → (g : ℕ) → g < length p.functions → (f : ℕ) → IsMarked marks f → Reaches p g f → IsMarked marks g
reached_marked p marks long closed g l _ m (calls f x is c) =
    closed f g m (rw (row_of p.functions f x is) c) (omega (arith, long, l))
reached_marked p marks long closed g l _ m (calls_through f h x is c r) =
    let within = reach_within p g h r in
    reached_marked p marks long closed g l h (closed f h m (rw (row_of p.functions f x is) c) (omega (arith, long, within))) r

no_marks : (n h : ℕ) → IsMarked (replicate n false) h → ⊥
no_marks zero h e = cc
no_marks (suc n) zero e = cc
no_marks (suc n) (suc h) e = no_marks n h e

-- main is marked alone, and then all that it reaches
pub all_reached : (p : PlainProgram) (rows : List (List ℕ)) (n : ℕ) (marks new : List Bool) (grown : Bool) → rows ≡ rows_of_program p
    → n ≡ length p.functions → AreMarked (p.main ∷ []) (replicate n false) marks grown → IsClosed rows marks new → MarkReached p new
all_reached p rows n marks new grown same long m c =
    let begun : AreReached p marks = λ g e. elim (m.only g e) [
      | inl old ↦ absurd (no_marks n g old)
      | inr own ↦ inl (one_of p.main g own)
    ] in
    let count = c.count ∙ m.count ∙ length-replicate n false ∙ long in
    let closed = subst (λ x. (f g : ℕ) → IsMarked new f → Contains (row_at x f) g → g < length new → IsMarked new g) same c.closed in
    record {
      count = count;
      sound = c.sound p same begun;
      complete = λ g l r. elim r [
        | inl main ↦ c.kept g (m.all g (subst (λ x. Contains (p.main ∷ []) x) (sym main) (Contains-push [] p.main)) (main_within n g long l))
        | inr reaches ↦
            reached_marked p new count closed g l p.main
            (c.kept p.main (m.all p.main (Contains-push [] p.main) (own_within n (reach_within p g p.main reaches) long))) reaches
      ];
    }
  where
    main_within : (n g : ℕ) → n ≡ length p.functions → g < length p.functions → g < length (replicate n false)
    main_within n g e l = rw (length-replicate n false, e) l

    own_within : (n : ℕ) → p.main < length p.functions → n ≡ length p.functions → p.main < length (replicate n false)
    own_within n l e = rw (length-replicate n false, e) l

pub rows_counted : (p : PlainProgram) (rows : List (Listed ℕ)) → plain_rows rows ≡ rows_of_program p → length rows ≡ length p.functions
rows_counted p rows same = sym (plain_count rows) ∙ ap length same ∙ length-map p.functions (λ f. stmt_calls f.body [])

pub reached_from : (p : PlainProgram) (rows : List (Listed ℕ)) (main : ℕ) (old marks new : List Bool) (grown : Bool)
    → old ≡ replicate (length rows) false → AreMarked (main ∷ []) old marks grown → IsClosed (plain_rows rows) marks new
    → plain_rows rows ≡ rows_of_program p → p.main ≡ main → MarkReached p new
reached_from p rows main old marks new grown none m c same is =
    let count = rows_counted p rows same in
    let begun = subst (λ o. AreMarked (main ∷ []) o marks grown) none m in
    all_reached p (plain_rows rows) (length rows) marks new grown same count
    (subst (λ g. AreMarked (g ∷ []) (replicate (length rows) false) marks grown) (sym is) begun) c
