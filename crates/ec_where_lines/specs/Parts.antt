-- Parts of a line.
use Rattle.std.specs.Prelude.{ℕ, ◌-◌, ◌==◌, ◌^◌, Bool, true, false, ◌&&◌, List, [], ◌∷◌, length, slice_get}
use Rattle.std.specs.Prelude.{Option, Some, None, option_map, nat_lt, bytes_eq, if◌then◌else◌}
use Rattle.std.specs.Char.{digit_value}
use Rattle.std.specs.Str.Parse.{digits_value}

-- what stands behind a text at the front of a line
abbrev pub behind : List ℕ → List ℕ → Option (List ℕ)
behind [] line = Some line
behind (b ∷ head) [] = None
behind (b ∷ head) (c ∷ line) = if b == c then behind head line else None

-- a byte more before a mark
abbrev pub longer : ℕ → Option (List ℕ × List ℕ) → Option (List ℕ × List ℕ)
longer b parts = option_map (λ x. (b ∷ x.0, x.1)) parts

-- nothing before the mark, or what stands round it further on
abbrev pub around_from : Option (List ℕ) → Option (List ℕ × List ℕ) → Option (List ℕ × List ℕ)
around_from (Some rest) later = Some ([], rest)
around_from None later = later

-- what stands before the first place of a mark in a line, and what behind it
abbrev pub around : List ℕ → List ℕ → Option (List ℕ × List ℕ)
around mark [] = around_from (behind mark []) None
around mark (b ∷ line) = around_from (behind mark (b ∷ line)) (longer b (around mark line))

-- a byte more before the last mark, or nothing before it
abbrev pub last_from : ℕ → ℕ → List ℕ → Option (List ℕ × List ℕ) → Option (List ℕ × List ℕ)
last_from mark b line (Some parts) = Some (b ∷ parts.0, parts.1)
last_from mark b line None = if b == mark then Some ([], line) else None

-- what stands before the last place of a byte in a line, and what behind it
abbrev pub around_last : ℕ → List ℕ → Option (List ℕ × List ℕ)
around_last mark [] = None
around_last mark (b ∷ line) = last_from mark b line (around_last mark line)

abbrev pub are_digits : List ℕ → Bool
are_digits [] = true
are_digits (c ∷ cs) = nat_lt (digit_value c) 10 && are_digits cs

-- the number below 2 ^ 32 that decimal digits write, without a sign
abbrev pub number_of : List ℕ → Option ℕ
number_of digits =
    if nat_lt 0 (length digits) && are_digits digits && nat_lt (digits_value 10 digits) (2 ^ 32)
    then Some (digits_value 10 digits) else None

-- the row of a table that has this number, counted from 1
abbrev pub row_of : List (List ℕ) → ℕ → Option (List ℕ)
row_of table number = if number == 0 then None else slice_get table (number - 1)

-- what the first row of a table for this text says
abbrev pub look_up : List ℕ → List (List ℕ × List ℕ) → Option (List ℕ)
look_up text [] = None
look_up text (row ∷ rows) = if bytes_eq text row.0 then Some row.1 else look_up text rows
