-- What stands once by the sizes of code is within the rows of shapes.
use Rattle.std.proofs.Common.{◌≡◌, ℕ, ◌+◌, ◌*◌, ◌≤◌, Bool, true, false, List, [], ◌∷◌, map, refl, sym, ap, ◌∙◌, subst, arith}
use Rattle.std.proofs.Common.{ltb-true, ltb-false}
use Rattle.std.specs.Prelude.{⊤, if◌then◌else◌, ◌||◌, nat_lt}
use Rattle.std.specs.List.{AllByRecursion}
use Rattle.std.proofs.lemmas.Bool.{or_right}
use Rattle.ec_shapes.specs.Shapes.{total, IsTest, has, uses, shapes_of, by_shapes, least_row}
use Rattle.ec_shapes.proofs.Sums.{total_same, total_most, total_most_in, total_sum, total_none}
use Rattle.ec_shapes.proofs.Once.{Once, once, one_met, has_shapes, all_shapes}
use Rattle.ec_select_routines.specs.Sizes.{of_shape, Sizes, is_shared, decided_words, SizesDecide}

module _ {U K : Type 0} (same : K → K → Bool) (shape : U → K) (test : IsTest same) where
  -- each use is of one of some shapes
  abbrev AreOf : List K → List U → Type 0
  AreOf ds [] = ⊤
  AreOf ds (u ∷ us) = (has same ds (shape u) ≡ true) × AreOf ds us

  more_of : (xs ys : List K) (us : List U) → ((k : K) → has same xs k ≡ true → has same ys k ≡ true) → AreOf xs us → AreOf ys us
  more_of xs ys [] h all = tt
  more_of xs ys (u ∷ us) h all = (h (shape u) all.0, more_of xs ys us h all.1)

  of_their_shapes : (us : List U) → AreOf (map shape us) us
  of_their_shapes [] = tt
  of_their_shapes (u ∷ us) = (
    ap (λ b. b || has same (map shape us) (shape u)) (test.own (shape u)),
    more_of (map shape us) (shape u ∷ map shape us) us (λ k q. or_right (same (shape u) k) (has same (map shape us) k) q) (of_their_shapes us),
  )

  all_of : (us : List U) → AreOf (shapes_of same (map shape us)) us
  all_of us =
      more_of (map shape us) (shapes_of same (map shape us)) us (λ k q. has_shapes same test (map shape us) k ∙ q) (of_their_shapes us)

  -- a sum over uses is one by their shapes
  by_shape : (f : U → ℕ) (ds : List K) (us : List U) → Once same test ds → AreOf ds us
      → total f us ≡ total (λ d. of_shape same shape f us d) ds
  by_shape f ds [] o all = sym (total_none ds)
  by_shape f ds (u ∷ us) o all =
      let rest = by_shape f ds us o all.1 in
      let one = one_met same test (shape u) (λ d. f u) ds o all.0 in
      let sum = total_sum (λ d. if same (shape u) d then f u else 0) (λ d. of_shape same shape f us d) ds in
      omega (arith, rest, one, sum)

  -- of one shape all uses are calls, or none is
  of_decided : (shared : K → Bool) (own call : U → ℕ) (d : K) (us : List U)
      → of_shape same shape (λ u. if shared (shape u) then call u else own u) us d
      ≡ (if shared d then of_shape same shape call us d else of_shape same shape own us d)
  of_decided shared own call d [] = by_test (shared d)
    where
      by_test : (b : Bool) → of_shape same shape own [] d ≡ (if b then of_shape same shape call [] d else of_shape same shape own [] d)
      by_test true = refl
      by_test false = refl
  of_decided shared own call d (u ∷ us) = by_tests (same (shape u) d) refl (shared d) refl (of_decided shared own call d us)
    where
      by_tests : (b : Bool) → same (shape u) d ≡ b → (c : Bool) → shared d ≡ c
          → of_shape same shape (λ u. if shared (shape u) then call u else own u) us d
          ≡ (if c then of_shape same shape call us d else of_shape same shape own us d)
          → (if b then (if shared (shape u) then call u else own u) else 0)
          + of_shape same shape (λ u. if shared (shape u) then call u else own u) us d
          ≡ (if c then (if b then call u else 0) + of_shape same shape call us d else (if b then own u else 0) + of_shape same shape own us d)
      by_tests true p true q h =
          let e : shared (shape u) ≡ true = ap shared (test.one (shape u) d p) ∙ q in
          rw e (ap (λ n. call u + n) h)
      by_tests true p false q h =
          let e : shared (shape u) ≡ false = ap shared (test.one (shape u) d p) ∙ q in
          rw e (ap (λ n. own u + n) h)
      by_tests false p true q h = ap (λ n. 0 + n) h
      by_tests false p false q h = ap (λ n. 0 + n) h

  -- each use has at most so many
  of_most : (f : U → ℕ) (most : K → ℕ) (d : K) (us : List U) → AllByRecursion (λ u. f u ≤ most (shape u)) us
      → of_shape same shape f us d ≤ uses same (map shape us) d * most d
  of_most f most d [] all = omega arith
  of_most f most d (u ∷ us) all = by_test (same (shape u) d) refl (of_most f most d us all.1)
    where
      by_test : (b : Bool) → same (shape u) d ≡ b → of_shape same shape f us d ≤ uses same (map shape us) d * most d
          → (if b then f u else 0) + of_shape same shape f us d ≤ ((if b then 1 else 0) + uses same (map shape us) d) * most d
      by_test true p h =
          let l : f u ≤ most d = subst (λ k. f u ≤ most k) (test.one (shape u) d p) all.0 in
          omega (arith, l, h)
      by_test false p h = omega (arith, h)

module _ {U K : Type 0} (same : K → K → Bool) (s : Sizes U K) (us : List U) (test : IsTest same) where
  abbrev shared : K → Bool
  shared k = is_shared same s us k

  abbrev ds : List K
  ds = shapes_of same (map s.shape us)

  abbrev own_of : K → ℕ
  own_of k = of_shape same s.shape s.own us k

  abbrev call_of : K → ℕ
  call_of k = of_shape same s.shape s.call us k

  -- what stands of a shape
  abbrev standing : K → ℕ
  standing k = (if shared k then call_of k else own_of k) + (if shared k then s.routine k else 0)

  words_by_shapes : decided_words same s us ≡ total standing ds
  words_by_shapes =
      let per = λ (u : U). if shared (s.shape u) then s.call u else s.own u in
      let a = by_shape same s.shape test per ds us (once same test (map s.shape us)) (all_of same s.shape test us) in
      let b = total_same (λ d. of_shape same s.shape per us d) (λ d. if shared d then call_of d else own_of d) ds
      (λ d. of_decided same s.shape test shared s.own s.call d us) in
      let c = total_sum (λ d. if shared d then call_of d else own_of d) (λ d. if shared d then s.routine d else 0) ds in
      omega (arith, a, b, c)

  -- the shorter of both ways
  shorter : (k : K) → (standing k ≤ own_of k) × (standing k ≤ s.routine k + call_of k)
  shorter k = by_test (shared k) refl
    where
      by_test : (b : Bool) → nat_lt (s.routine k + call_of k) (own_of k) ≡ b
          → ((if b then call_of k else own_of k) + (if b then s.routine k else 0) ≤ own_of k)
          × ((if b then call_of k else own_of k) + (if b then s.routine k else 0) ≤ s.routine k + call_of k)
      by_test true q = let l = ltb-true (s.routine k + call_of k) (own_of k) q in (omega (arith, l), omega arith)
      by_test false q = let l = ltb-false (s.routine k + call_of k) (own_of k) q in (omega arith, omega (arith, l))

  short : decided_words same s us ≤ total s.own us
  short =
      let a = total_most standing own_of ds (λ k. (shorter k).0) in
      let b = by_shape same s.shape test s.own ds us (once same test (map s.shape us)) (all_of same s.shape test us) in
      let c = words_by_shapes in
      omega (arith, a, b, c)

  fits : (most further : K → ℕ) → AllByRecursion (λ u. s.own u ≤ most (s.shape u)) us
      → AllByRecursion (λ u. s.call u ≤ further (s.shape u)) us → AllByRecursion (λ k. s.routine k ≤ most k + 1) (map s.shape us)
      → decided_words same s us ≤ by_shapes same (λ k u. least_row (most k) (most k + 1) (further k) u) (map s.shape us)
  fits most further owns calls routines =
      let a = total_most_in (λ k. s.routine k ≤ most k + 1) standing
      (λ k. least_row (most k) (most k + 1) (further k) (uses same (map s.shape us) k)) ds
      (λ k l. one_shape k l) (all_shapes same test (λ k. s.routine k ≤ most k + 1) (map s.shape us) routines) in
      let b = words_by_shapes in
      omega (arith, a, b)
    where
      one_shape : (k : K) → s.routine k ≤ most k + 1
          → standing k ≤ least_row (most k) (most k + 1) (further k) (uses same (map s.shape us) k)
      one_shape k l =
          let a = of_most same s.shape test s.own most k us owns in
          let b = of_most same s.shape test s.call further k us calls in
          let c = shorter k in
          omega (arith, a, b, c.0, c.1, l)

pub sizes_decide : (U K : Type 0) → SizesDecide U K
sizes_decide U K same s us test = record { short = short same s us test; fits = fits same s us test }
