-- The ranges of two's complement and unsigned numbers.
use Rattle.std.specs.Prelude.{ℕ, ◌-◌, ◌^◌, Bool, true, false, ℤ, pos, neg_ℤ, ◌≤ℤ◌}

-- the least number of so many bits
abbrev pub least : Bool → ℕ → ℤ
least true bits = neg_ℤ (pos (2 ^ (bits - 1)))
least false bits = pos 0

-- the greatest number of so many bits
abbrev pub greatest : Bool → ℕ → ℤ
greatest true bits = pos (2 ^ (bits - 1) - 1)
greatest false bits = pos (2 ^ bits - 1)

-- the number is in the range
pub record IsWithin (signed : Bool) (bits : ℕ) (n : ℤ) : Type 0 where
  pub low : least signed bits ≤ℤ n
  pub high : n ≤ℤ greatest signed bits
