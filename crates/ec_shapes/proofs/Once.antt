-- The shapes of a list have each of its shapes once, so a sum over the list is one by shapes.
use Rattle.std.proofs.Common.{◌≡◌, ℕ, ◌+◌, ◌*◌, ◌≤◌, Bool, true, false, List, [], ◌∷◌, refl, sym, ap, ◌∙◌, subst, arith}
use Rattle.std.specs.Prelude.{⊤, if◌then◌else◌, ◌||◌}
use Rattle.std.specs.List.{AllByRecursion}
use Rattle.std.proofs.lemmas.Bool.{false≢true}
use Rattle.ec_shapes.specs.Shapes.{total, IsTest, has, uses, shapes_of, by_shapes}
use Rattle.ec_shapes.specs.Laws.{SharedCodeFits}
use Rattle.ec_shapes.proofs.Sums.{total_same, total_most, total_sum, total_none}

module _ {K : Type 0} (same : K → K → Bool) (test : IsTest same) where
  abbrev pub Once : List K → Type 0
  Once [] = ⊤
  Once (d ∷ ds) = (has same ds d ≡ false) × Once ds

  has_if : (b : Bool) (x k : K) (ds : List K) → has same (if b then ds else x ∷ ds) k ≡ (if b then has same ds k else (same x k || has same ds k))
  has_if true x k ds = refl
  has_if false x k ds = refl

  -- a shape that stands further behind stands there
  absorbed : (x k : K) (xs : List K) → has same xs x ≡ true → has same xs k ≡ (same x k || has same xs k)
  absorbed x k xs h = by_test (same x k) refl
    where
      by_test : (b : Bool) → same x k ≡ b → has same xs k ≡ (b || has same xs k)
      by_test true q = subst (λ y. has same xs y ≡ true) (test.one x k q) h
      by_test false q = refl

  pub has_shapes : (xs : List K) (k : K) → has same (shapes_of same xs) k ≡ has same xs k
  has_shapes [] k = refl
  has_shapes (x ∷ xs) k = by_test (has same xs x) refl (has_shapes xs k)
    where
      by_test : (b : Bool) → has same xs x ≡ b → has same (shapes_of same xs) k ≡ has same xs k
          → has same (if b then shapes_of same xs else x ∷ shapes_of same xs) k ≡ (same x k || has same xs k)
      by_test true q h = h ∙ absorbed x k xs q
      by_test false q h = ap (λ b. same x k || b) h

  pub once : (xs : List K) → Once (shapes_of same xs)
  once [] = tt
  once (x ∷ xs) = by_test (has same xs x) refl (once xs)
    where
      by_test : (b : Bool) → has same xs x ≡ b → Once (shapes_of same xs) → Once (if b then shapes_of same xs else x ∷ shapes_of same xs)
      by_test true q h = h
      by_test false q h = (has_shapes xs x ∙ q, h)

  -- ---- what is tested of each shape is met once

  none_met : (x : K) (f : K → ℕ) (ds : List K) → has same ds x ≡ false → total (λ d. if same x d then f d else 0) ds ≡ 0
  none_met x f [] h = refl
  none_met x f (d ∷ ds) h = by_tests (same x d) refl (same d x) refl h (λ q. none_met x f ds q)
    where
      by_tests : (b : Bool) → same x d ≡ b → (c : Bool) → same d x ≡ c → (c || has same ds x) ≡ false
          → (has same ds x ≡ false → total (λ d. if same x d then f d else 0) ds ≡ 0)
          → (if b then f d else 0) + total (λ d. if same x d then f d else 0) ds ≡ 0
      by_tests b p true q h rest = absurd (false≢true (sym h))
      by_tests true p false q h rest =
          let one = test.one x d p in
          let t : same d x ≡ true = subst (λ y. same d y ≡ true) (sym one) (test.own d) in
          absurd (false≢true (sym q ∙ t))
      by_tests false p false q h rest = let z = rest h in omega (arith, z)

  pub one_met : (x : K) (f : K → ℕ) (ds : List K) → Once ds → has same ds x ≡ true → total (λ d. if same x d then f d else 0) ds ≡ f x
  one_met x f [] o h = absurd (false≢true h)
  one_met x f (d ∷ ds) o h = by_tests (same x d) refl h (λ q. one_met x f ds o.1 q)
    where
      by_tests : (b : Bool) → same x d ≡ b → (same d x || has same ds x) ≡ true
          → (has same ds x ≡ true → total (λ d. if same x d then f d else 0) ds ≡ f x)
          → (if b then f d else 0) + total (λ d. if same x d then f d else 0) ds ≡ f x
      by_tests true p h rest =
          let one = test.one x d p in
          let none = none_met x f ds (subst (λ y. has same ds y ≡ false) (sym one) o.0) in
          let e : f d ≡ f x = ap f (sym one) in
          omega (arith, none, e)
      by_tests false p h rest = let z = rest (behind (same d x) refl h) in omega (arith, z)
        where
          behind : (c : Bool) → same d x ≡ c → (c || has same ds x) ≡ true → has same ds x ≡ true
          behind true q h =
              let one = test.one d x q in
              absurd (false≢true (sym p ∙ subst (λ y. same x y ≡ true) (sym one) (test.own x)))
          behind false q h = h

  -- at most once, whatever the shapes are
  pub met_most : (x : K) (f : K → ℕ) (ds : List K) → Once ds → total (λ d. if same x d then f d else 0) ds ≤ f x
  met_most x f ds o = by_test (has same ds x) refl
    where
      by_test : (b : Bool) → has same ds x ≡ b → total (λ d. if same x d then f d else 0) ds ≤ f x
      by_test true q = let e = one_met x f ds o q in omega (arith, e)
      by_test false q = let e = none_met x f ds q in omega (arith, e)

  -- ---- shapes of a list

  -- a shape that does not stand in a list has no uses there
  pub unused : (xs : List K) (k : K) → has same xs k ≡ false → uses same xs k ≡ 0
  unused [] k h = refl
  unused (x ∷ xs) k h = by_test (same x k) h (λ q. unused xs k q)
    where
      by_test : (b : Bool) → (b || has same xs k) ≡ false → (has same xs k ≡ false → uses same xs k ≡ 0)
          → (if b then 1 else 0) + uses same xs k ≡ 0
      by_test true h rest = absurd (false≢true (sym h))
      by_test false h rest = let z = rest h in omega (arith, z)

  -- which of two is asked about is one
  pub turned : (x y : K) → same x y ≡ same y x
  turned x y = by_tests (same x y) refl (same y x) refl
    where
      swapped : (x y : K) → same x y ≡ true → same y x ≡ true
      swapped x y p = subst (λ z. same z x ≡ true) (test.one x y p) (test.own x)

      by_tests : (b : Bool) → same x y ≡ b → (c : Bool) → same y x ≡ c → b ≡ c
      by_tests true p true q = refl
      by_tests true p false q = absurd (false≢true (sym q ∙ swapped x y p))
      by_tests false p true q = absurd (false≢true (sym p ∙ swapped y x q))
      by_tests false p false q = refl

  -- what holds of each of a list holds of its shapes
  pub all_shapes : (P : K → Type 0) (xs : List K) → AllByRecursion P xs → AllByRecursion P (shapes_of same xs)
  all_shapes P [] all = tt
  all_shapes P (x ∷ xs) all = by_test (has same xs x) (all_shapes P xs all.1)
    where
      by_test : (b : Bool) → AllByRecursion P (shapes_of same xs)
          → AllByRecursion P (if b then shapes_of same xs else x ∷ shapes_of same xs)
      by_test true h = h
      by_test false h = (all.0, h)

  -- ---- sums by shapes

  abbrev AllIn : List K → List K → Type 0
  AllIn ds [] = ⊤
  AllIn ds (x ∷ xs) = (has same ds x ≡ true) × AllIn ds xs

  -- what a shape counts, and one use more
  one_use : (x d : K) (n f : ℕ) (b : Bool) → ((if b then 1 else 0) + n) * f ≡ (if b then f else 0) + n * f
  one_use x d n f true = omega arith
  one_use x d n f false = omega arith

  by_uses : (f : K → ℕ) (ds xs : List K) → Once ds → AllIn ds xs → total f xs ≡ total (λ d. uses same xs d * f d) ds
  by_uses f ds [] o all = sym (total_same (λ d. 0 * f d) (λ d. 0) ds (λ d. omega arith) ∙ total_none ds)
  by_uses f ds (x ∷ xs) o all =
      let rest = by_uses f ds xs o all.1 in
      let one = one_met x f ds o all.0 in
      let split = total_same (λ d. uses same (x ∷ xs) d * f d) (λ d. (if same x d then f d else 0) + uses same xs d * f d) ds
      (λ d. one_use x d (uses same xs d) (f d) (same x d)) in
      let sum = total_sum (λ d. if same x d then f d else 0) (λ d. uses same xs d * f d) ds in
      omega (arith, rest, one, split, sum)

  all_more : (x : K) (ds xs : List K) → AllIn ds xs → AllIn (x ∷ ds) xs
  all_more x ds [] h = tt
  all_more x ds (y ∷ ys) h = (by_test (same x y) h.0, all_more x ds ys h.1)
    where
      by_test : (b : Bool) → has same ds y ≡ true → (b || has same ds y) ≡ true
      by_test true q = refl
      by_test false q = q

  all_in : (xs : List K) → AllIn (shapes_of same xs) xs
  all_in [] = tt
  all_in (x ∷ xs) = by_test (has same xs x) refl (all_in xs)
    where
      by_test : (b : Bool) → has same xs x ≡ b → AllIn (shapes_of same xs) xs
          → (has same (if b then shapes_of same xs else x ∷ shapes_of same xs) x ≡ true)
          × AllIn (if b then shapes_of same xs else x ∷ shapes_of same xs) xs
      by_test true q h = (has_shapes xs x ∙ q, h)
      by_test false q h = (ap (λ b. b || has same (shapes_of same xs) x) (test.own x), all_more x (shapes_of same xs) xs h)

  pub in_shapes : (f : K → ℕ) (xs : List K) → total f xs ≡ by_shapes same (λ k u. u * f k) xs
  in_shapes f xs = by_uses f (shapes_of same xs) xs (once xs) (all_in xs)

-- ---- code

pub shared-code-fits : (K : Type 0) → SharedCodeFits K
shared-code-fits K same row shared own routine call xs test fits =
    let per : K → ℕ = λ k. if shared k then call k else own k in
    let once : K → ℕ = λ k. if shared k then routine k else 0 in
    let a = in_shapes same test per xs in
    let b = total_sum (λ k. uses same xs k * per k) once (shapes_of same xs) in
    let c = total_most (λ k. uses same xs k * per k + once k) (λ k. row k (uses same xs k)) (shapes_of same xs)
    (λ k. one_shape k (uses same xs k) (shared k) (fits k (uses same xs k) refl)) in
    omega (arith, a, b, c)
  where
    one_shape : (k : K) (u : ℕ) (b : Bool) → (if b then routine k + u * call k else u * own k) ≤ row k u
        → u * (if b then call k else own k) + (if b then routine k else 0) ≤ row k u
    one_shape k u true h = omega (arith, h)
    one_shape k u false h = omega (arith, h)
