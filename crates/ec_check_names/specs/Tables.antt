-- Tables by name, passed on.
use Rattle.std.specs.Prelude.{ℕ, if◌then◌else◌, Option, Some, None, List, [], ◌∷◌, map}
use Rattle.std.specs.Str.{bytes_eq}
use Rattle.ec_space.specs.Listed.{Listed}

abbrev pub Table : Type 0 → Type 0
Table Y = List (List ℕ × Y)

-- the table that a map's entries make, where each value is seen so
abbrev pub table_of : {X Y : Type 0} → (X → Y) → List (Listed ℕ × X) → Table Y
table_of view es = map (λ e. (e.0.items, view e.1)) es

-- what a name stands for
abbrev pub at_name : {Y : Type 0} → List ℕ → Table Y → Option Y
at_name n [] = None
at_name n (e ∷ es) = if bytes_eq n e.0 then Some e.1 else at_name n es

-- the table in which a name stands for something: in its old place, where it has one, and else at the end
abbrev pub with_name : {Y : Type 0} → List ℕ → Y → Table Y → Table Y
with_name n y [] = (n, y) ∷ []
with_name n y (e ∷ es) = if bytes_eq n e.0 then (e.0, y) ∷ es else e ∷ with_name n y es
