-- When a count of faults lets a call fail.
use Rattle.std.specs.Prelude.{ℕ, ◌+◌, ◌≤◌, ◌≡◌, min, Result, OnErr, IsOk}
pub use Rattle.ec_io.specs.Counts.{greatest}

-- the count rose by n, or up to its greatest value
pub record Counted (before now n : ℕ) : Type 0 where
  pub least : min (before + n) greatest ≤ now
  pub most : now ≤ before + n
  pub later : before ≤ now

-- the count rose, or stands at its greatest value
abbrev pub Rose : ℕ → ℕ → Type 0
Rose before now = min (before + 1) greatest ≤ now

-- the count never falls, and a failure has made it rise
pub record HasCause {T E : Type 0} (before now : ℕ) (result : Result T E) : Type 0 where
  pub later : before ≤ now
  pub failed : OnErr result (Rose before now)

-- the call succeeded and the count stayed
pub record Went {T E : Type 0} (before now : ℕ) (result : Result T E) : Type 0 where
  pub ok : IsOk result
  pub same : now ≡ before
