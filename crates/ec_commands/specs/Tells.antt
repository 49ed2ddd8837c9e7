-- A line that goes out on a sink.
use Rattle.std.specs.Prelude.{ℕ, ◌≤◌, ◌⊎◌, List, take, Option, Result, MatchResult}
use Rattle.std.specs.Io.KnownBytes.{Appends}
use Rattle.ec_io.specs.Causes.{Rose}

-- a line went out, or a prefix of it
abbrev pub WritesPrefix : {E : Type 0} → Option (List ℕ) → Option (List ℕ) → Result Unit E → List ℕ → Type 0
WritesPrefix old new r line = MatchResult r (λ _. Appends old new line) (λ _. (n : ℕ) × Appends old new (take n line))

-- a sink received a line, or a prefix of it where its count rose
pub record Tells (old new : Option (List ℕ)) (before now : ℕ) (line : List ℕ) : Type 0 where
  pub later : before ≤ now
  pub text : Appends old new line ⊎ (Rose before now × ((n : ℕ) × Appends old new (take n line)))
