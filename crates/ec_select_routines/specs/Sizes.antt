-- Which shapes stand once, by the sizes of their code.
use Rattle.std.specs.Prelude.{ℕ, ◌+◌, ◌≤◌, nat_lt, Bool, if◌then◌else◌, List, map}
use Rattle.std.specs.List.{AllByRecursion}
use Rattle.ec_shapes.specs.Shapes.{total, IsTest, shapes_of, by_shapes, least_row}

-- the words of the uses of a shape
abbrev pub of_shape : {U K : Type 0} → (same : K → K → Bool) → (shape : U → K) → (U → ℕ) → List U → K → ℕ
of_shape same shape f us k = total (λ u. if same (shape u) k then f u else 0) us

-- The sizes of uses of shapes: the words of the code of a use by itself and of a call, and those of the routine of a shape
pub record Sizes (U K : Type 0) : Type 0 where
  pub shape : U → K
  pub own : U → ℕ
  pub call : U → ℕ
  pub routine : K → ℕ

-- a shape stands once where its routine and the calls of it are shorter than code at each use
abbrev pub is_shared : {U K : Type 0} → (same : K → K → Bool) → Sizes U K → List U → K → Bool
is_shared same s us k = nat_lt (s.routine k + of_shape same s.shape s.call us k) (of_shape same s.shape s.own us k)

-- the words of all uses, and of the routines
abbrev pub decided_words : {U K : Type 0} → (same : K → K → Bool) → Sizes U K → List U → ℕ
decided_words same s us =
    total (λ u. if is_shared same s us (s.shape u) then s.call u else s.own u) us
    + total (λ k. if is_shared same s us k then s.routine k else 0) (shapes_of same (map s.shape us))

-- Code so decided is never longer than code at each use. And it is within the rows of shapes that count a use by itself and
-- a further use at their most, where a routine has one word more at most than a use by itself
pub record AreDecided {U K : Type 0} (same : K → K → Bool) (s : Sizes U K) (us : List U) : Type 0 where
  pub short : decided_words same s us ≤ total s.own us
  pub fits : (most further : K → ℕ) → AllByRecursion (λ u. s.own u ≤ most (s.shape u)) us
      → AllByRecursion (λ u. s.call u ≤ further (s.shape u)) us
      → AllByRecursion (λ k. s.routine k ≤ most k + 1) (map s.shape us)
      → decided_words same s us ≤ by_shapes same (λ k u. least_row (most k) (most k + 1) (further k) u) (map s.shape us)

abbrev pub SizesDecide : (U K : Type 0) → Type 0
SizesDecide U K = (same : K → K → Bool) (s : Sizes U K) (us : List U) → IsTest same → AreDecided same s us
