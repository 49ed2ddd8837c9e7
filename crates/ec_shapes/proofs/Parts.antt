-- Operations count at most as much as the parts that are made of them.
use Rattle.std.proofs.Common.{◌≡◌, ℕ, zero, suc, ◌+◌, ◌*◌, ◌≤◌, Bool, true, false, List, [], ◌∷◌, refl, sym, ap, ◌∙◌, arith}
use Rattle.std.specs.Prelude.{if◌then◌else◌}
use Rattle.ec_shapes.specs.Shapes.{total, IsTest, has, uses, shapes_of, by_shapes, all_made}
use Rattle.ec_shapes.specs.Laws.{IsRow, IsPaid, PartsCountMore}
use Rattle.ec_shapes.proofs.Sums.{total_same, total_most, total_most_in, total_sum, total_joined, total_turned}
use Rattle.ec_shapes.proofs.Once.{once, one_met, met_most, in_shapes, has_shapes, unused, turned, all_shapes}

-- a row of a sum is within the sum of rows
row_sum : {S : Type 0} (row : ℕ → ℕ) → IsRow row → (f : S → ℕ) (es : List S) → row (total f es) ≤ total (λ e. row (f e)) es
row_sum row is f [] = let z = is.none in omega (arith, z)
row_sum row is f (e ∷ es) =
    let a = is.joins (f e) (total f es) in let b = row_sum row is f es in omega (arith, a, b)

-- and one of n uses, m times, within m rows
row_times : (row : ℕ → ℕ) → IsRow row → (n m : ℕ) → row (n * m) ≤ m * row n
row_times row is n zero = let z = is.none in let e : n * 0 ≡ 0 = omega arith in rw e (omega (arith, z))
row_times row is n (suc m) =
    let a = is.joins n (n * m) in
    let b = row_times row is n m in
    let e : n * suc m ≡ n + n * m = omega arith in
    let c : suc m * row n ≡ row n + m * row n = omega arith in
    rw e (omega (arith, a, b, c))

module _ {S K : Type 0} (part : S → S → Bool) (same : K → K → Bool) (made : S → List K) (tests : IsTest part) (test : IsTest same) where
  -- the uses of a shape in what is made
  uses_made : (ss : List S) (d : K) → uses same (all_made made ss) d ≡ total (λ s. uses same (made s) d) ss
  uses_made [] d = refl
  uses_made (s ∷ ss) d =
      let a = total_joined (λ x. if same x d then 1 else 0) (made s) (all_made made ss) in
      let b = uses_made ss d in
      omega (arith, a, b)

  module _ (row : K → ℕ → ℕ) (rows : (k : K) → IsRow (row k)) where
    -- m uses of d in a part count m rows, one for each
    each_use : (d : K) (n : ℕ) (ks : List K) → uses same ks d * row d n ≡ total (λ k. if same k d then row d n else 0) ks
    each_use d n [] = omega arith
    each_use d n (k ∷ ks) = by_test (same k d) (each_use d n ks)
      where
        by_test : (b : Bool) → uses same ks d * row d n ≡ total (λ k. if same k d then row d n else 0) ks
            → ((if b then 1 else 0) + uses same ks d) * row d n ≡ (if b then row d n else 0) + total (λ k. if same k d then row d n else 0) ks
        by_test true h = omega (arith, h)
        by_test false h = omega (arith, h)

    module _ (ss : List S) where
      abbrev number : S → ℕ
      number e = uses part ss e

      abbrev es : List S
      es = shapes_of part ss

      abbrev ds : List K
      ds = shapes_of same (all_made made ss)

      -- one shape of an operation
      one_shape : (d : K) → row d (uses same (all_made made ss) d) ≤ total (λ e. total (λ k. if same k d then row d (number e) else 0) (made e)) es
      one_shape d =
          let a = uses_made ss d in
          let b = in_shapes part tests (λ s. uses same (made s) d) ss in
          let c = row_sum (row d) (rows d) (λ e. number e * uses same (made e) d) es in
          let f = total_most (λ e. row d (number e * uses same (made e) d)) (λ e. total (λ k. if same k d then row d (number e) else 0) (made e)) es
          (λ e. let x = row_times (row d) (rows d) (number e) (uses same (made e) d) in let z = each_use d (number e) (made e) in omega (arith, x, z)) in
          let q : row d (uses same (all_made made ss) d) ≡ row d (total (λ e. number e * uses same (made e) d) es) = ap (row d) (a ∙ b) in
          omega (arith, q, c, f)

      -- an operation of a part is of one shape
      of_part : (e : S) → total (λ d. total (λ k. if same k d then row d (number e) else 0) (made e)) ds ≤ total (λ k. row k (number e)) (made e)
      of_part e =
          let a = total_turned (λ d k. if same k d then row d (number e) else 0) ds (made e) in
          let b = total_most (λ k. total (λ d. if same k d then row d (number e) else 0) ds) (λ k. row k (number e)) (made e)
          (λ k. met_most same test k (λ d. row d (number e)) ds (once same test (all_made made ss))) in
          omega (arith, a, b)

      pub made_most : by_shapes same row (all_made made ss) ≤ by_shapes part (λ e u. total (λ k. row k u) (made e)) ss
      made_most =
          let a = total_most (λ d. row d (uses same (all_made made ss) d)) (λ d. total (λ e. total (λ k. if same k d then row d (number e) else 0) (made e)) es) ds one_shape in
          let b = total_turned (λ d e. total (λ k. if same k d then row d (number e) else 0) (made e)) ds es in
          let c = total_most (λ e. total (λ d. total (λ k. if same k d then row d (number e) else 0) (made e)) ds) (λ e. total (λ k. row k (number e)) (made e)) es of_part in
          omega (arith, a, b, c)

-- ---- fewer uses count no more

module _ {K : Type 0} (same : K → K → Bool) (test : IsTest same) (row : K → ℕ → ℕ) (rows : (k : K) → IsRow (row k)) (xs ys : List K) where
  -- what a shape of the fewer counts, it counts among the others
  met_in : (d : K) → row d (uses same ys d) ≤ total (λ e. if same d e then row e (uses same ys e) else 0) (shapes_of same ys)
  met_in d = by_test (has same (shapes_of same ys) d) refl
    where
      by_test : (b : Bool) → has same (shapes_of same ys) d ≡ b
          → row d (uses same ys d) ≤ total (λ e. if same d e then row e (uses same ys e) else 0) (shapes_of same ys)
      by_test true q = let x = one_met same test d (λ e. row e (uses same ys e)) (shapes_of same ys) (once same test ys) q in omega (arith, x)
      by_test false q =
          let x = unused same test ys d (sym (has_shapes same test ys d) ∙ q) in
          let y : row d (uses same ys d) ≡ row d 0 = ap (row d) x in
          let z = (rows d).none in omega (arith, y, z)

  met_once : (e : K) → total (λ d. if same d e then row e (uses same ys e) else 0) (shapes_of same xs) ≤ row e (uses same ys e)
  met_once e =
      let x = total_same (λ d. if same d e then row e (uses same ys e) else 0) (λ d. if same e d then row e (uses same ys e) else 0)
      (shapes_of same xs) (λ d. ap (λ b. if b then row e (uses same ys e) else 0) (turned same test d e)) in
      let y = met_most same test e (λ d. row e (uses same ys e)) (shapes_of same xs) (once same test xs) in
      omega (arith, x, y)

  pub fewer_count : ((k : K) → uses same xs k ≤ uses same ys k) → by_shapes same row xs ≤ by_shapes same row ys
  fewer_count fewer =
      let a = total_most (λ d. row d (uses same xs d)) (λ d. total (λ e. if same d e then row e (uses same ys e) else 0) (shapes_of same ys))
      (shapes_of same xs)
      (λ d. let g = (rows d).grows (uses same xs d) (uses same ys d) (fewer d) in let m = met_in d in omega (arith, g, m)) in
      let b = total_turned (λ d e. if same d e then row e (uses same ys e) else 0) (shapes_of same xs) (shapes_of same ys) in
      let c = total_most (λ e. total (λ d. if same d e then row e (uses same ys e) else 0) (shapes_of same xs)) (λ e. row e (uses same ys e))
      (shapes_of same ys) met_once in
      omega (arith, a, b, c)

pub parts-count-more : (S K : Type 0) → PartsCountMore S K
parts-count-more S K part same made own row most ss ks tests test rows fits fewer =
    let f = fewer_count same test row rows ks (all_made made ss) fewer in
    let a = made_most part same made tests test row rows ss in
    let b = in_shapes part tests own ss in
    let c = total_sum (λ e. uses part ss e * own e) (λ e. total (λ k. row k (uses part ss e)) (made e)) (shapes_of part ss) in
    let d = total_most_in (IsPaid made own row most)
    (λ e. uses part ss e * own e + total (λ k. row k (uses part ss e)) (made e)) (λ e. most e (uses part ss e)) (shapes_of part ss)
    (λ e p. p (uses part ss e)) (all_shapes part tests (IsPaid made own row most) ss fits) in
    omega (arith, f, a, b, c, d)
