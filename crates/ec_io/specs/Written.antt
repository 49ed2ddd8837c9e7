-- What a call left in a sink that wrote all of some bytes, or a prefix of them.
use Rattle.std.specs.Prelude.{ℕ, ◌<◌, List, Option, Result, MatchResult, length, take}
use Rattle.std.specs.Io.KnownBytes.{Appends}
use Rattle.ec_io.specs.declared.write.Written.{Written}

-- all bytes went out, or just so many as the error tells
abbrev pub WritesAll : Option (List ℕ) → Option (List ℕ) → Result Unit Written → List ℕ → Type 0
WritesAll old new r bytes =
    MatchResult r (λ _. Appends old new bytes) (λ e. (e.0 < length bytes) × Appends old new (take e.0 bytes))
