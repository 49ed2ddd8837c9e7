-- Where nothing recurs, frames that begin at the greatest end of any caller's stand apart on each chain of calls.
use Rattle.std.proofs.Common.{◌≡◌, ◌⊎◌, inl, inr, ⊎_elim, ℕ, zero, suc, ◌+◌, ◌<◌, ◌≤◌, ◌==◌, Bool, true}
use Rattle.std.proofs.Common.{false, List, [], ◌∷◌, length, refl, sym, subst, arith}
use Rattle.std.specs.Prelude.{Contains, ⊤, slice_index}
use Rattle.std.specs.List.{AllByRecursion, IsDistinct, list_any}
use Rattle.std.proofs.lemmas.Bool.{eqb-true, cases_Bool}
use Rattle.std.proofs.lemmas.Map.Steps.{length-le_from_distinct_below}
use Rattle.ec_check_recursion.specs.Rows.{row_at, LeadsTo, calls, calls_through}
use Rattle.ec_overlay.specs.Chains.{NothingRecurs, IsChain, total, has}
use Rattle.ec_overlay.specs.Frames.{end_for, greatest_end, begin_within, begin_of, need_of, FramesAreOverlaid}
use Rattle.ec_overlay.proofs.Most.{most_at, most_is, has_contained, contained, row_within}

-- the first of a list calls f, and each next one the one before it
abbrev pub AreCallers : List (List ℕ) → ℕ → List ℕ → Type 0
AreCallers rows f [] = ⊤
AreCallers rows f (c ∷ cs) = Contains (row_at rows c) f × AreCallers rows c cs

-- ---- callers are other functions than those that they call

lifted : (rows : List (List ℕ)) (f c : ℕ) (cs : List ℕ) → Contains (row_at rows c) f → AllByRecursion (λ d. LeadsTo rows c d) cs
    → AllByRecursion (λ d. LeadsTo rows f d) cs
lifted rows f c [] is below = tt
lifted rows f c (d ∷ cs) is below = (further below.0, lifted rows f c cs is below.1)
  where
    further : {d : ℕ} → LeadsTo rows c d → LeadsTo rows f d
    further {d} (calls _ q) = calls_through d c q (calls c is)
    further {d} (calls_through _ h q r) = calls_through d h q (further r)

lead : (rows : List (List ℕ)) (f : ℕ) (cs : List ℕ) → AreCallers rows f cs → AllByRecursion (λ d. LeadsTo rows f d) cs
lead rows f [] h = tt
lead rows f (c ∷ cs) h = (calls c h.0, lifted rows f c cs h.0 (lead rows c cs h.1))

others : (rows : List (List ℕ)) → NothingRecurs rows → (c : ℕ) (cs : List ℕ) → AllByRecursion (λ d. LeadsTo rows c d) cs
    → AllByRecursion (λ d. (c == d) ≡ false) cs
others rows never c [] h = tt
others rows never c (d ∷ cs) h = (
  ⊎_elim
      (λ q. let same : c ≡ d = eqb-true c d q in absurd (never c (subst (λ x. LeadsTo rows c x) (sym same) h.0)))
      (λ q. q) (cases_Bool (c == d)),
  others rows never c cs h.1,
)

distinct : (rows : List (List ℕ)) → NothingRecurs rows → (f : ℕ) (cs : List ℕ) → AreCallers rows f cs
    → IsDistinct (λ c d. c == d) cs
unfolding IsDistinct
distinct rows never f [] h = tt
distinct rows never f (c ∷ cs) h = (others rows never c cs (lead rows c cs h.1), distinct rows never c cs h.1)

all_within : (rows : List (List ℕ)) (f : ℕ) (cs : List ℕ) → AreCallers rows f cs → (q : ℕ)
    → list_any (λ c. q == c) cs ≡ true → q < length rows
all_within rows f [] h q there = cc
all_within rows f (c ∷ cs) h q there =
    ⊎_elim
    (λ e. let same : q ≡ c = eqb-true q c e in rw same (row_within rows c f h.0))
    (λ e. all_within rows c cs h.1 q (rw e at there)) (cases_Bool (q == c))

callers_few : (rows : List (List ℕ)) → NothingRecurs rows → (f : ℕ) (cs : List ℕ) → AreCallers rows f cs
    → length cs ≤ length rows
callers_few rows never f cs h =
    length-le_from_distinct_below cs (length rows) (distinct rows never f cs h) (all_within rows f cs h)

module _ (rows : List (List ℕ)) (size : ℕ → ℕ) where
  -- the end of a caller
  end_is : (begin : ℕ → ℕ) (f c : ℕ) → Contains (row_at rows c) f → end_for rows size begin f c ≡ begin c + size c
  end_is begin f c is = rw (has_contained (row_at rows c) f is) refl

  -- no caller ends behind the greatest end
  end_within : (begin : ℕ → ℕ) (f c : ℕ) → Contains (row_at rows c) f → begin c + size c ≤ greatest_end rows size begin f
  end_within begin f c is =
      let m = most_at (end_for rows size begin f) (length rows) c (row_within rows c f is) in
      omega (arith, m, end_is begin f c is)

  -- and it is 0 or the end of one
  abbrev IsEnd : (begin : ℕ → ℕ) (f : ℕ) → Type 0
  IsEnd begin f =
      (greatest_end rows size begin f ≡ 0)
      ⊎ ((c : ℕ) × Contains (row_at rows c) f × (begin c + size c ≡ greatest_end rows size begin f))

  end_found : (begin : ℕ → ℕ) (f : ℕ) → IsEnd begin f
  end_found begin f =
      ⊎_elim (λ none. inl none) (λ found. by_test found.0 found.2 (has (row_at rows found.0) f) refl)
      (most_is (end_for rows size begin f) (length rows))
    where
      by_test : (c : ℕ) → end_for rows size begin f c ≡ greatest_end rows size begin f → (b : Bool) → has (row_at rows c) f ≡ b
          → IsEnd begin f
      by_test c e true q = inr (c, contained (row_at rows c) f q, (rw q at e))
      by_test c e false q = inl (let z : 0 ≡ greatest_end rows size begin f = (rw q at e) in sym z)

  -- ---- chains of callers

  -- callers that are no more than n end by where a frame begins
  callers_end : (n f : ℕ) (cs : List ℕ) → AreCallers rows f cs → length cs ≤ n → total size cs ≤ begin_within rows size n f
  callers_end n f [] h l = omega arith
  callers_end zero f (c ∷ cs) h l = absurd (omega arith)
  callers_end (suc n) f (c ∷ cs) h l =
      let rest = callers_end n c cs h.1 (omega (arith, l)) in
      let end = end_within (begin_within rows size n) f c h.0 in
      omega (arith, rest, end)

  -- and some end there
  pub record HasCallers (n f : ℕ) : Type 0 where
    pub callers : List ℕ
    pub are : AreCallers rows f callers
    pub few : length callers ≤ n
    pub bytes : total size callers ≡ begin_within rows size n f

  no_callers : (n f : ℕ) → begin_within rows size n f ≡ 0 → HasCallers n f
  no_callers n f z = record { callers = []; are = tt; few = omega arith; bytes = sym z }

  one_more : (n f c : ℕ) → Contains (row_at rows c) f
      → begin_within rows size n c + size c ≡ greatest_end rows size (begin_within rows size n) f → HasCallers n c
      → HasCallers (suc n) f
  one_more n f c is e r = record {
    callers = c ∷ r.callers;
    are = (is, r.are);
    few = (let few = r.few in omega (arith, few));
    bytes = (let bytes = r.bytes in omega (arith, bytes, e));
  }

  has_callers : (n f : ℕ) → HasCallers n f
  has_callers zero f = no_callers zero f refl
  has_callers (suc n) f =
      ⊎_elim (λ none. no_callers (suc n) f none) (λ found. one_more n f found.0 found.1 found.2 (has_callers n found.0))
      (end_found (begin_within rows size n) f)

  -- a chain from a function can be made longer at its front, up to where its frame begins
  pub record HasChain (bytes : ℕ) : Type 0 where
    pub chain : List ℕ
    pub is : IsChain rows chain
    pub has : total size chain ≡ bytes

  chain_at : (bytes f : ℕ) (fs : List ℕ) → IsChain rows (f ∷ fs) → bytes ≡ 0 → HasChain (bytes + total size (f ∷ fs))
  chain_at bytes f fs h z = record { chain = f ∷ fs; is = h; has = omega (arith, z) }

  chain_from : (n f : ℕ) (fs : List ℕ) → IsChain rows (f ∷ fs) → HasChain (begin_within rows size n f + total size (f ∷ fs))
  chain_from zero f fs h = chain_at 0 f fs h refl
  chain_from (suc n) f fs h =
      ⊎_elim (λ none. chain_at (begin_within rows size (suc n) f) f fs h none)
      (λ found. longer found.0 found.2 (chain_from n found.0 (f ∷ fs) (row_within rows found.0 f found.1, found.1, h)))
      (end_found (begin_within rows size n) f)
    where
      longer : (c : ℕ)
          → begin_within rows size n c + size c ≡ greatest_end rows size (begin_within rows size n) f
          → HasChain (begin_within rows size n c + total size (c ∷ f ∷ fs))
          → HasChain (begin_within rows size (suc n) f + total size (f ∷ fs))
      longer c e r = record { chain = r.chain; is = r.is; has = (let bytes = r.has in omega (arith, bytes, e)) }

  module _ (never : NothingRecurs rows) where
    -- one round more changes nothing
    settled : (f : ℕ) → begin_within rows size (suc (length rows)) f ≡ begin_of rows size f
    settled f =
        let more = has_callers (suc (length rows)) f in
        let some = has_callers (length rows) f in
        let few = some.few in
        let a = callers_end (length rows) f more.callers more.are (callers_few rows never f more.callers more.are) in
        let b = callers_end (suc (length rows)) f some.callers some.are (omega (arith, few)) in
        let c = more.bytes in
        let d = some.bytes in
        omega (arith, a, b, c, d)

    begins_at : (f : ℕ) → begin_of rows size f ≡ greatest_end rows size (begin_of rows size) f
    begins_at f = sym (settled f)

    ends_before : (f g : ℕ) → Contains (row_at rows f) g → begin_of rows size f + size f ≤ begin_of rows size g
    ends_before f g is =
        let e = end_within (begin_of rows size) g f is in
        omega (arith, e, begins_at g)

    stand_apart : (g f : ℕ) → LeadsTo rows g f → begin_of rows size f + size f ≤ begin_of rows size g
    stand_apart g f (calls _ is) = ends_before f g is
    stand_apart g f (calls_through _ h is r) =
        let a = ends_before f h is in
        let b = stand_apart g h r in
        omega (arith, a, b)

    in_need : (f : ℕ) → f < length rows → begin_of rows size f + size f ≤ need_of rows size
    in_need f l = most_at (λ g. begin_of rows size g + size g) (length rows) f l

    chain_within : (f : ℕ) (fs : List ℕ) → IsChain rows (f ∷ fs)
        → begin_of rows size f + total size (f ∷ fs) ≤ need_of rows size
    chain_within f [] h = let a = in_need f h.0 in omega (arith, a)
    chain_within f (g ∷ gs) h =
        let a = ends_before f g h.1 in
        let b = chain_within g gs h.2 in
        omega (arith, a, b)

    chains_within : (fs : List ℕ) → IsChain rows fs → total size fs ≤ need_of rows size
    chains_within [] h = omega arith
    chains_within (f ∷ fs) h = let a = chain_within f fs h in omega (arith, a)

    needed : (fs : List ℕ) × IsChain rows fs × (total size fs ≡ need_of rows size)
    needed =
        ⊎_elim (λ none. ([], tt, sym none))
        (λ found. let r = chain_from (length rows) found.0 [] (found.1, tt, tt) in
        (r.chain, r.is, (let a = r.has in let b = found.2 in omega (arith, a, b))))
        (most_is (λ g. begin_of rows size g + size g) (length rows))

pub frames-are-overlaid : FramesAreOverlaid
frames-are-overlaid rows size never = record {
  begins = begins_at rows size never;
  apart = λ f g r. stand_apart rows size never g f r;
  within = in_need rows size never;
  need = record { most = chains_within rows size never; is_reached = needed rows size never };
}
