-- A text that goes out line by line.
use Rattle.std.specs.Prelude.{ℕ, ◌+◌, ◌/◌, ◌%◌, ◌<◌, ◌≡◌, List, [], ◌∷◌, ◌++◌, Option, Result, MatchResult, length, take}
use Rattle.std.specs.Io.KnownBytes.{Appends}
use Rattle.ec_io.specs.declared.write.Written.{Written}
use Rattle.ec_hex.specs.Text.{record_line, base_line}
use Rattle.ec_hex.specs.declared.line.RecordType.TheVariants.{Data}

-- the lines of a run of bytes, if there are any, where a base is in force
abbrev pub run_lines : (base at : ℕ) → List ℕ → List ℕ
run_lines base at [] = []
run_lines base at (byte ∷ bytes) = base_line base at ++ record_line Data (at % 65536) (byte ∷ bytes)

-- the base behind them
abbrev pub base_behind : (base at : ℕ) → List ℕ → ℕ
base_behind base at [] = base
base_behind base at (byte ∷ bytes) = at / 65536

-- after so many bytes these went out too, or a prefix of them, and the result counts all
abbrev pub WritesOn : ℕ → Option (List ℕ) → Option (List ℕ) → Result ℕ Written → List ℕ → Type 0
WritesOn done old new r bytes =
    MatchResult r (λ after. (after ≡ done + length bytes) × Appends old new bytes)
    (λ e. (n : ℕ) × (e.0 ≡ done + n) × (n < length bytes) × Appends old new (take n bytes))
