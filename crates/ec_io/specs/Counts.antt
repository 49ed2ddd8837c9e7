-- Counts of calls and faults, which stay at a greatest value.
use Rattle.std.specs.Prelude.{ℕ, ◌+◌, ◌-◌, ◌^◌, min}

-- the greatest value of a count, at which it stands still
abbrev pub greatest : ℕ
greatest = 2 ^ 64 - 1

-- the number after a number, which stays at the greatest
abbrev pub next_call : ℕ → ℕ
next_call calls = min (calls + 1) greatest
