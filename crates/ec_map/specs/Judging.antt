-- What is judged of a map by numbers and answers alone.
use Rattle.std.specs.Prelude.{ℕ, ◌+◌, nat_le, Bool, not, ◌&&◌, List, Option, option_map}
use Rattle.std.specs.Prelude.{position}

-- bytes begin at an address or later, and end by another
abbrev pub lie_in : (first size from to : ℕ) → Bool
lie_in first size from to = nat_le from first && nat_le (first + size) to

-- the first rule that is not kept, by its number from 1
abbrev pub first_broken : (kept : List Bool) → Option ℕ
first_broken kept = option_map (λ n. n + 1) (position not kept)
