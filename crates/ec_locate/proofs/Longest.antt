-- No chain of calls is longer than all functions, and one is as long as the depth that is counted.
use Rattle.std.proofs.Common.{◌≡◌, ◌⊎◌, inl, inr, ⊎_elim, ◌+◌, ◌<◌, ◌≤◌, ◌==◌, ℕ, zero, suc, true, false}
use Rattle.std.proofs.Common.{List, [], ◌∷◌, length, Option}
use Rattle.std.proofs.Common.{Some, None, refl, sym, ◌∙◌, subst, arith}
use Rattle.std.specs.List.{AllByRecursion, IsDistinct, list_any}
use Rattle.std.specs.Prelude.{IsSomeAnd, Contains, slice_get, slice_index}
use Rattle.std.proofs.lemmas.Bool.{eqb-true, cases_Bool, cases_lt}
use Rattle.std.proofs.lemmas.Map.Steps.{length-le_from_distinct_below}
use Rattle.std.proofs.lemmas.List.{length-map}
use Rattle.std.proofs.lemmas.Option.{slice_get_within}
use Rattle.ec_check_recursion.specs.Rows.{row_at, rows_of_program, LeadsTo, calls, calls_through}
use Rattle.ec_core.specs.Plain.{PlainFunction}
use Rattle.ec_overlay.specs.Chains.{NothingRecurs, IsChain}
use Rattle.ec_overlay.proofs.Programs.{nothing_recurs}
use Rattle.ec_locate.specs.Calls.{deepest, chains, ChainsAreCounted}
use Rattle.ec_locate.proofs.Chains.{chain_below, mapped_at}

module _ (rows : List (List ℕ)) where
  -- ---- a chain has no function twice

  lifted : (f g : ℕ) (gs : List ℕ) → Contains (row_at rows f) g → AllByRecursion (λ h. LeadsTo rows h g) gs
      → AllByRecursion (λ h. LeadsTo rows h f) gs
  lifted f g [] called below = tt
  lifted f g (h ∷ gs) called below = (calls_through f g called below.0, lifted f g gs called below.1)

  -- the first function of a chain leads to each later one
  leads : (f : ℕ) (gs : List ℕ) → IsChain rows (f ∷ gs) → AllByRecursion (λ g. LeadsTo rows g f) gs
  leads f [] h = tt
  leads f (g ∷ gs) h = (calls f h.1, lifted f g gs h.1 (leads g gs h.2))

  other : NothingRecurs rows → (f : ℕ) (gs : List ℕ) → AllByRecursion (λ g. LeadsTo rows g f) gs
      → AllByRecursion (λ g. (f == g) ≡ false) gs
  other never f [] h = tt
  other never f (g ∷ gs) h = (
    ⊎_elim
        (λ e. let same : f ≡ g = eqb-true f g e in absurd (never f (subst (λ x. LeadsTo rows x f) (sym same) h.0)))
        (λ e. e) (cases_Bool (f == g)),
    other never f gs h.1,
  )

  distinct : NothingRecurs rows → (fs : List ℕ) → IsChain rows fs → IsDistinct (λ f g. f == g) fs
  unfolding IsDistinct
  distinct never [] h = tt
  distinct never (f ∷ fs) h = (other never f fs (leads f fs h), distinct never fs h.2)

  -- and is of functions that there are
  within : (fs : List ℕ) → IsChain rows fs → (q : ℕ) → list_any (λ f. q == f) fs ≡ true → q < length rows
  within [] h q there = cc
  within (f ∷ fs) h q there =
      ⊎_elim
      (λ e. let same : q ≡ f = eqb-true q f e in rw same h.0)
      (λ e. within fs h.2 q (rw e at there)) (cases_Bool (q == f))

  pub chain_few : NothingRecurs rows → (fs : List ℕ) → IsChain rows fs → length fs ≤ length rows
  chain_few never fs h = length-le_from_distinct_below fs (length rows) (distinct never fs h) (within fs h)

  -- ---- a chain is as long as is counted

  -- the deepest of some functions is one of them, where there is any depth
  abbrev IsDeepest : (depths fs : List ℕ) → Type 0
  IsDeepest depths fs = (deepest depths fs ≡ 0) ⊎ ((g : ℕ) × Contains fs g × (slice_index depths g ≡ deepest depths fs))

  deepest_is : (depths fs : List ℕ) → IsDeepest depths fs
  deepest_is depths [] = inl refl
  deepest_is depths (f ∷ fs) =
      ⊎_elim
      (λ less. ⊎_elim
      (λ none. absurd (omega (arith, less, none)))
      (λ found. inr (found.0, (suc found.1.0, omega (arith, found.1.1), found.1.2), omega (arith, less, found.2)))
      (deepest_is depths fs))
      (λ most. inr (f, (0, omega arith, refl), omega (arith, most)))
      (cases_lt (slice_index depths f) (deepest depths fs))

  past_end : (depths : List ℕ) (g : ℕ) → length depths ≤ g → slice_index depths g ≡ 0
  past_end [] g h = refl
  past_end (d ∷ depths) zero h = absurd (omega arith)
  past_end (d ∷ depths) (suc g) h = past_end depths g (omega arith)

  length_chains : (n : ℕ) → length (chains n rows) ≡ length rows
  length_chains zero = length-map rows (λ row. 0)
  length_chains (suc n) = length-map rows (λ row. 1 + deepest (chains n rows) row)

  -- a chain from a function that is as long as a depth
  abbrev HasChain : (f depth : ℕ) → Type 0
  HasChain f depth = (gs : List ℕ) × IsChain rows (f ∷ gs) × (length (f ∷ gs) ≡ depth)

  nothing : (some : List (List ℕ)) (g : ℕ) → slice_index (chains 0 some) g ≡ 0
  nothing [] g = refl
  nothing (row ∷ some) zero = refl
  nothing (row ∷ some) (suc g) = nothing some g

  -- where nothing deeper is called, the function is a chain by itself
  single : (f d : ℕ) → f < length rows → d ≡ 0 → HasChain f (1 + d)
  single f d l z = ([], (l, tt, tt), omega (arith, z))

  -- so many functions stand on a chain from each function
  abbrev HaveChains : List ℕ → Type 0
  HaveChains depths = (g : ℕ) → g < length rows → HasChain g (slice_index depths g)

  next_called : (depths : List ℕ) (f g d : ℕ) → f < length rows → length depths ≡ length rows → HaveChains depths
      → Contains (row_at rows f) g → slice_index depths g ≡ d → HasChain f (1 + d)
  next_called depths f g d l long chain called e =
      ⊎_elim
      (λ known. let (gs, goes, many) = chain g known in (g ∷ gs, (l, called, goes), omega (arith, many, e)))
      (λ past. single f d l (sym e ∙ past_end depths g (omega (arith, past, long))))
      (cases_lt g (length rows))

  from_deepest : (depths : List ℕ) (f : ℕ) → f < length rows → length depths ≡ length rows → HaveChains depths
      → HasChain f (1 + deepest depths (row_at rows f))
  from_deepest depths f l long chain =
      ⊎_elim (λ z. single f (deepest depths (row_at rows f)) l z)
      (λ found. next_called depths f found.0 (deepest depths (row_at rows f)) l long chain found.1 found.2)
      (deepest_is depths (row_at rows f))

  none_deeper : (cs : List ℕ) → deepest (chains 0 rows) cs ≡ 0
  none_deeper cs = ⊎_elim (λ z. z) (λ found. sym found.2 ∙ nothing rows found.0) (deepest_is (chains 0 rows) cs)

  here : (n f : ℕ) → f < length rows → slice_index (chains (suc n) rows) f ≡ 1 + deepest (chains n rows) (row_at rows f)
  here n f l = mapped_at (λ row. 1 + deepest (chains n rows) row) rows f l

  pub has_chain : (n f : ℕ) → f < length rows → HasChain f (slice_index (chains (suc n) rows) f)
  has_chain zero f l =
      subst (λ d. HasChain f d) (sym (here zero f l))
      (single f (deepest (chains 0 rows) (row_at rows f)) l (none_deeper (row_at rows f)))
  has_chain (suc n) f l =
      subst (λ d. HasChain f d) (sym (here (suc n) f l))
      (from_deepest (chains (suc n) rows) f l (length_chains (suc n)) (λ g q. has_chain n g q))

  -- where there are some functions, as many rounds as there are find a chain
  pub has_longest : (f : ℕ) → f < length rows → HasChain f (slice_index (chains (length rows) rows) f)
  has_longest f l = by_count (length rows) l
    where
      by_count : (n : ℕ) → f < n → HasChain f (slice_index (chains n rows) f)
      by_count zero below = absurd (omega arith)
      by_count (suc n) below = has_chain n f l

-- ---- the whole

some_within : (fs : List PlainFunction) (f : ℕ) (o : Option PlainFunction) (P : PlainFunction → Type 0) → slice_get fs f ≡ o
    → IsSomeAnd o P → f < length fs
some_within fs f None P is h = absurd h
some_within fs f (Some x) P is h = slice_get_within fs f x is

pub chains-are-counted : ChainsAreCounted
chains-are-counted p table valid =
    let rows = rows_of_program p in
    let never = nothing_recurs p valid.no_recursion in
    let long : length rows ≡ length p.functions = length-map p.functions _ in
    let main : p.main < length p.functions = some_within p.functions p.main (slice_get p.functions p.main) _ refl valid.main in
    record {
      most = λ fs chain. chain_below rows (length rows) p.main fs chain (chain_few rows never (p.main ∷ fs) chain);
      is_reached = has_longest rows p.main (omega (arith, main, long));
    }
