-- The first function that reaches itself by calls. The profile has no recursion: each object has one place for the
-- whole run, with parameters and locals.
use Rattle.std.specs.Prelude.{ℕ, ◌<◌}
use Rattle.ec_core.specs.Plain.{PlainProgram}
use Rattle.ec_core.specs.Valid.{Reaches}

-- no function reaches itself, as `no_recursion` of `Valid` has it
abbrev pub NothingRecurs : PlainProgram → Type 0
NothingRecurs p = (f : ℕ) → ¬ Reaches p f f

-- f reaches itself, and none before it does
pub record IsFirstRecursive (p : PlainProgram) (f : ℕ) : Type 0 where
  pub reaches : Reaches p f f
  pub first : (k : ℕ) → k < f → ¬ Reaches p k k
