-- Laws of sums by shapes.
use Rattle.std.specs.Prelude.{◌≡◌, ℕ, ◌+◌, ◌*◌, ◌≤◌, Bool, if◌then◌else◌, List}
use Rattle.std.specs.List.{AllByRecursion}
use Rattle.ec_shapes.specs.Shapes.{total, IsTest, uses, shapes_of, by_shapes, all_made, least_row}

-- Code of which each shape that is shared stands once, and is called at each use, has at most the words of the rows
abbrev pub SharedCodeFits : (K : Type 0) → Type 0
SharedCodeFits K =
    (same : K → K → Bool) (row : K → ℕ → ℕ) (shared : K → Bool) (own routine call : K → ℕ) (xs : List K) → IsTest same
    → ((k : K) (u : ℕ) → u ≡ uses same xs k
    → (if shared k then routine k + u * call k else u * own k) ≤ row k u)
    → total (λ k. if shared k then call k else own k) xs
    + total (λ k. if shared k then routine k else 0) (shapes_of same xs) ≤ by_shapes same row xs

-- a row grows with the uses, and never counts more for two kinds of uses together than for each by itself
pub record IsRow (row : ℕ → ℕ) : Type 0 where
  pub none : row 0 ≡ 0
  pub grows : (a b : ℕ) → a ≤ b → row a ≤ row b
  pub joins : (a b : ℕ) → row (a + b) ≤ row a + row b

-- what each use of a part is made of, at any number of uses, counts at most what the part does
abbrev pub IsPaid : {S K : Type 0}
    → (made : S → List K) (own : S → ℕ) (row : K → ℕ → ℕ) (most : S → ℕ → ℕ) → S → Type 0
IsPaid made own row most s = (u : ℕ) → u * own s + total (λ k. row k u) (made s) ≤ most s u

-- Where each part is made of operations, of which some count by shapes and others by themselves, operations of which no
-- shape has more uses than in what the parts are made of count at most as much as the parts by their shapes
abbrev pub PartsCountMore : (S K : Type 0) → Type 0
PartsCountMore S K =
    (part : S → S → Bool) (same : K → K → Bool) (made : S → List K) (own : S → ℕ) (row : K → ℕ → ℕ) (most : S → ℕ → ℕ)
    (ss : List S) (ks : List K) → IsTest part → IsTest same → ((k : K) → IsRow (row k))
    → AllByRecursion (IsPaid made own row most) ss
    → ((k : K) → uses same ks k ≤ uses same (all_made made ss) k)
    → total own ss + by_shapes same row ks ≤ by_shapes part most ss

-- the lesser of both ways is a row, where a call is no longer than the code
abbrev pub LeastRowsAreRows : Type 0
LeastRowsAreRows = (words routine call : ℕ) → call ≤ words → IsRow (least_row words routine call)
