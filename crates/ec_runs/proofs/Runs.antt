-- The laws of runs.
use Rattle.std.proofs.Common.{◌≡◌, ℕ, zero, suc, ◌+◌, ◌≤◌, List, [], ◌++◌, refl, sym, ap, ◌∙◌, subst, ⊎_elim, arith, append_assoc}
use Rattle.std.proofs.Common.{append-nil, zero-add}
use Rattle.std.specs.Prelude.{Bool, IsTrue}
use Rattle.std.proofs.lemmas.Bool.{cases_lt}
use Rattle.ec_runs.specs.Behaviours.{Behaviour, Running, Ended, Failed, BeginWith, GoesOn, Continues, IsRun, Stepped, On, End, Fail}
use Rattle.ec_runs.specs.Behaviours.{preceded, continued, steps, stepped_after, and_next, many, Reached, Reaches, IsWithin, seen_as}
use Rattle.ec_runs.specs.Behaviours.{KeepsOrder}
use Rattle.ec_runs.specs.Laws.{StepsAreRuns, StepsJoin, ManyJoin, RunsHaveOneEnd, WhatReachesStaysWithin, ReachesThrough, SeenRunsAreRuns}
use Rattle.ec_runs.specs.Laws.{ReachesAsSeen}

-- ---- events

pub begin_itself : {E : Type 0} (es : List E) → BeginWith es es
begin_itself es = record { added = []; is = sym (append-nil es) }

pub begin_onward : {E : Type 0} (es fs gs : List E) → BeginWith es fs → BeginWith fs gs → BeginWith es gs
begin_onward es fs gs a b = record { added = a.added ++ b.added; is = b.is ∙ ap (λ l. l ++ b.added) a.is ∙ append_assoc es a.added b.added }

begin_within : {E : Type 0} (gs es fs : List E) → BeginWith es fs → BeginWith (gs ++ es) (gs ++ fs)
begin_within gs es fs a = record { added = a.added; is = ap (λ l. gs ++ l) a.is ∙ sym (append_assoc gs es a.added) }

-- ---- steps

module _ {E R F : Type 0} where
  starts : (b : Behaviour E R F) → GoesOn [] b
  starts (Running fs) = record { added = fs; is = refl }
  starts (Ended fs result) = record { added = fs; is = refl }
  starts (Failed reason) = tt

  goes_on_within : (gs es : List E) (b : Behaviour E R F) → GoesOn es b → GoesOn (gs ++ es) (preceded gs b)
  goes_on_within gs es (Running fs) h = begin_within gs es fs h
  goes_on_within gs es (Ended fs result) h = begin_within gs es fs h
  goes_on_within gs es (Failed reason) h = tt

  preceded_continues : (gs : List E) (a b : Behaviour E R F) → Continues a b → Continues (preceded gs a) (preceded gs b)
  preceded_continues gs (Running es) b h = goes_on_within gs es b h
  preceded_continues gs (Ended es result) b h = ap (preceded gs) h
  preceded_continues gs (Failed reason) b h = ap (preceded gs) h

module _ {S E R F : Type 0} (step : S → Stepped S E R F) where
  continued_continues : (f g : S → Behaviour E R F) (p : Stepped S E R F) → ((s : S) → Continues (f s) (g s))
      → Continues (continued f p) (continued g p)
  continued_continues f g (On es s) h = preceded_continues es (f s) (g s) (h s)
  continued_continues f g (End es result) h = refl
  continued_continues f g (Fail reason) h = refl

  pub steps_run : (n k : ℕ) → n ≤ k → (s : S) → Continues (steps step s n) (steps step s k)
  steps_run zero k le s = starts (steps step s k)
  steps_run (suc n) zero le s = absurd (omega arith)
  steps_run (suc n) (suc k) le s =
      continued_continues (λ t. steps step t n) (λ t. steps step t k) (step s) (λ t. steps_run n k (omega arith) t)

pub steps_are_runs : (S E R F : Type 0) → StepsAreRuns S E R F
steps_are_runs S E R F step s n k le = steps_run step n k le s

-- ---- several steps as one

module _ {E R F : Type 0} where
  preceded_twice : (es fs : List E) (b : Behaviour E R F) → preceded es (preceded fs b) ≡ preceded (es ++ fs) b
  preceded_twice es fs (Running gs) = ap Running (sym (append_assoc es fs gs))
  preceded_twice es fs (Ended gs result) = ap (λ l. Ended l result) (sym (append_assoc es fs gs))
  preceded_twice es fs (Failed reason) = refl

  preceded_none : (b : Behaviour E R F) → preceded [] b ≡ b
  preceded_none (Running gs) = refl
  preceded_none (Ended gs result) = refl
  preceded_none (Failed reason) = refl

module _ {S E R F : Type 0} where
  stepped_twice : (es fs : List E) (p : Stepped S E R F) → stepped_after es (stepped_after fs p) ≡ stepped_after (es ++ fs) p
  stepped_twice es fs (On gs s) = ap (λ l. On l s) (sym (append_assoc es fs gs))
  stepped_twice es fs (End gs result) = ap (λ l. End l result) (sym (append_assoc es fs gs))
  stepped_twice es fs (Fail reason) = refl

  stepped_none : (p : Stepped S E R F) → stepped_after [] p ≡ p
  stepped_none (On gs s) = refl
  stepped_none (End gs result) = refl
  stepped_none (Fail reason) = refl

  continued_after : (rest : S → Behaviour E R F) (es : List E) (p : Stepped S E R F)
      → preceded es (continued rest p) ≡ continued rest (stepped_after es p)
  continued_after rest es (On fs s) = preceded_twice es fs (rest s)
  continued_after rest es (End fs result) = refl
  continued_after rest es (Fail reason) = refl

  next_after : (rest : S → Stepped S E R F) (es : List E) (p : Stepped S E R F)
      → stepped_after es (and_next rest p) ≡ and_next rest (stepped_after es p)
  next_after rest es (On fs s) = stepped_twice es fs (rest s)
  next_after rest es (End fs result) = refl
  next_after rest es (Fail reason) = refl

module _ {S E R F : Type 0} (step : S → Stepped S E R F) where
  -- the first step, and then the others
  first_continued : (f : S → Behaviour E R F) (g : S → Behaviour E R F) (rest : S → Stepped S E R F) (p : Stepped S E R F)
      → ((s : S) → f s ≡ continued g (rest s)) → continued f p ≡ continued g (and_next rest p)
  first_continued f g rest (On es s) h = ap (preceded es) (h s) ∙ continued_after g es (rest s)
  first_continued f g rest (End es result) h = refl
  first_continued f g rest (Fail reason) h = refl

  first_next : (f : S → Stepped S E R F) (g : S → Stepped S E R F) (rest : S → Stepped S E R F) (p : Stepped S E R F)
      → ((s : S) → f s ≡ and_next g (rest s)) → and_next f p ≡ and_next g (and_next rest p)
  first_next f g rest (On es s) h = ap (stepped_after es) (h s) ∙ next_after g es (rest s)
  first_next f g rest (End es result) h = refl
  first_next f g rest (Fail reason) h = refl

  steps_joined : (n k : ℕ) (s : S) → steps step s (n + k) ≡ continued (λ t. steps step t k) (many step n s)
  steps_joined zero k s = ap (steps step s) (zero-add k) ∙ sym (preceded_none (steps step s k))
  steps_joined (suc n) k s =
      let e : suc n + k ≡ suc (n + k) = omega arith in
      ap (steps step s) e ∙ first_continued (λ t. steps step t (n + k)) (λ t. steps step t k) (many step n) (step s) (steps_joined n k)

  many_joined : (n k : ℕ) (s : S) → many step (n + k) s ≡ and_next (many step k) (many step n s)
  many_joined zero k s = ap (λ (m : ℕ). many step m s) (zero-add k) ∙ sym (stepped_none (many step k s))
  many_joined (suc n) k s =
      let e : suc n + k ≡ suc (n + k) = omega arith in
      ap (λ (m : ℕ). many step m s) e ∙ first_next (many step (n + k)) (many step k) (many step n) (step s) (many_joined n k)

pub steps_join : (S E R F : Type 0) → StepsJoin S E R F
steps_join S E R F step n k s = steps_joined step n k s

pub many_join : (S E R F : Type 0) → ManyJoin S E R F
many_join S E R F step n k s = many_joined step n k s

-- ---- ends

one_end : {E R F : Type 0} (run : ℕ → Behaviour E R F) → IsRun run → (n k : ℕ) → n ≤ k → (es fs : List E) (result other : R)
    → run n ≡ Ended es result → run k ≡ Ended fs other → (es ≡ fs) × (result ≡ other)
one_end run h n k le es fs result other a b =
    let c : run k ≡ Ended es result = subst (λ x. Continues x (run k)) a (h n k le) in
    (cc, cc)

pub runs_have_one_end : (E R F : Type 0) → RunsHaveOneEnd E R F
runs_have_one_end E R F run h n k es fs result other a b =
    ⊎_elim (λ lt. one_end run h n k (omega arith) es fs result other a b)
    (λ le. let e = one_end run h k n le fs es other result b a in (sym e.0, sym e.1)) (cases_lt n k)

-- ---- one run beside another

module _ (E R F G : Type 0) where
  within_end : (es : List E) (result : R) (b : Behaviour E R G) → Continues b (Ended es result)
      → IsWithin {E = E} {R = R} {F = F} {G = G} (Ended es result) b
  within_end es result (Running fs) h = h
  within_end es result (Ended fs other) h = (cc, cc)
  within_end es result (Failed reason) h = cc

  within_running : (es : List E) (b : Behaviour E R G) → Continues b (Running es) → IsWithin {E = E} {R = R} {F = F} {G = G} (Running es) b
  within_running es (Running fs) h = h
  within_running es (Ended fs other) h = cc
  within_running es (Failed reason) h = cc

  ended_within : (es : List E) (result : R) (b : Behaviour E R G) → b ≡ Ended es result
      → IsWithin {E = E} {R = R} {F = F} {G = G} (Ended es result) b
  ended_within es result b h = within_end es result b (subst (λ x. Continues x (Ended es result)) (sym h) refl)

  within_of : (allowed : ℕ → Bool) (run : ℕ → Behaviour E R G) → IsRun run → (m : ℕ) (b : Behaviour E R F) → Reached allowed run m b
      → IsWithin b (run m)
  within_of allowed run h m (Running es) r = within_running es (run m) (subst (λ x. Continues (run m) x) r.3 (h m r.0 r.2))
  within_of allowed run h m (Ended es result) r =
      ⊎_elim (λ lt. within_end es result (run m) (subst (λ x. Continues (run m) x) r.2 (h m r.0 (omega arith))))
      (λ le. ended_within es result (run m) (subst (λ x. Continues x (run m)) r.2 (h r.0 m le))) (cases_lt m r.0)
  within_of allowed run h m (Failed reason) r = tt

pub what_reaches_stays_within : (E R F G : Type 0) → WhatReachesStaysWithin E R F G
what_reaches_stays_within E R F G allowed source run h r m = within_of E R F G (allowed m) run h m (source m) (r m)

-- ---- through another run

module _ (E R F G H : Type 0) (first second both : ℕ → ℕ → Bool) (join : (n m j : ℕ) → IsTrue (first n m) → IsTrue (second m j)
    → IsTrue (both n j)) (between : ℕ → Behaviour E R G) (run : ℕ → Behaviour E R H) (r : Reaches second between run) where
  through_running : (n m : ℕ) (es : List E) → IsTrue (first n m) → n ≤ m
      → Reached {E = E} {R = R} {F = G} {G = H} (second m) run m (Running es)
      → Reached {E = E} {R = R} {F = F} {G = H} (both n) run n (Running es)
  through_running n m es a le q = (q.0, join n m q.0 a q.1, omega (arith, q.2), q.3)

  through_end : (n m : ℕ) (es : List E) (result : R) → IsTrue (first n m)
      → Reached {E = E} {R = R} {F = G} {G = H} (second m) run m (Ended es result)
      → Reached {E = E} {R = R} {F = F} {G = H} (both n) run n (Ended es result)
  through_end n m es result a q = (q.0, join n m q.0 a q.1, q.2)

  through : (n : ℕ) (b : Behaviour E R F) → Reached (first n) between n b → Reached (both n) run n b
  through n (Running es) p = through_running n p.0 es p.1 p.2 (subst (Reached (second p.0) run p.0) p.3 (r p.0))
  through n (Ended es result) p = through_end n p.0 es result p.1 (subst (Reached (second p.0) run p.0) p.2 (r p.0))
  through n (Failed reason) p = tt

pub reaches_through : (E R F G H : Type 0) → ReachesThrough E R F G H
reaches_through E R F G H first second both join source between run p r n =
    through E R F G H first second both join between run r n (source n) (p n)

-- ---- other events

seen_continues : {D E R F : Type 0} (f : List D → List E) → KeepsOrder f → (a b : Behaviour D R F) → Continues a b
    → Continues (seen_as f a) (seen_as f b)
seen_continues f k (Running es) (Running fs) h = k es fs h
seen_continues f k (Running es) (Ended fs result) h = k es fs h
seen_continues f k (Running es) (Failed reason) h = tt
seen_continues f k (Ended es result) b h = ap (seen_as f) h
seen_continues f k (Failed reason) b h = ap (seen_as f) h

pub seen_runs_are_runs : (D E R F : Type 0) → SeenRunsAreRuns D E R F
seen_runs_are_runs D E R F f k run h n m le = seen_continues f k (run n) (run m) (h n m le)

seen_reached : {D E R F G : Type 0} (f : List D → List E) (allowed : ℕ → Bool) (run : ℕ → Behaviour D R G) (n : ℕ) (b : Behaviour D R F)
    → Reached allowed run n b → Reached allowed (λ m. seen_as f (run m)) n (seen_as f b)
seen_reached f allowed run n (Running es) r = (r.0, r.1, r.2, ap (seen_as f) r.3)
seen_reached f allowed run n (Ended es result) r = (r.0, r.1, ap (seen_as f) r.2)
seen_reached f allowed run n (Failed reason) r = tt

pub reaches_as_seen : (D E R F G : Type 0) → ReachesAsSeen D E R F G
reaches_as_seen D E R F G f allowed source run r n = seen_reached f (allowed n) run n (source n) (r n)
