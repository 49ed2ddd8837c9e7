-- A text with its numbers taken out.
use Rattle.std.specs.Prelude.{ℕ, ◌+◌, ◌-◌, ◌*◌, ◌%◌, List, [], ◌∷◌, ◌++◌, ◌&&◌, ◌||◌, nat_le, nat_lt, Bool, true, false}
use Rattle.std.specs.Prelude.{if◌then◌else◌}

-- the text so far
pub record Scan : Type 0 where
  -- with `#` in the place of each run of digits
  pub pattern : List ℕ
  -- the number of the first run, and the digits behind it as one number, both modulo 65,536
  pub first : ℕ
  pub second : ℕ
  -- the first run has ended
  pub later : Bool
  -- the last character was a digit
  pub inside : Bool

abbrev pub is_decimal : ℕ → Bool
is_decimal c = nat_le 48 c && nat_lt c 58

abbrev pub begin : Scan
begin = record { pattern = []; first = 0; second = 0; later = false; inside = false }

abbrev pub digit_on : ℕ → Scan → Scan
digit_on d s = record {
  pattern = if s.inside then s.pattern else s.pattern ++ 35 ∷ [];
  first = if s.later then s.first else (10 * s.first + d) % 65536;
  second = if s.later then (10 * s.second + d) % 65536 else s.second;
  later = s.later;
  inside = true;
}

abbrev pub other_on : ℕ → Scan → Scan
other_on c s = record {
  pattern = s.pattern ++ c ∷ [];
  first = s.first;
  second = s.second;
  later = s.later || s.inside;
  inside = false;
}

abbrev pub scan_one : ℕ → Scan → Scan
scan_one c s = if is_decimal c then digit_on (c - 48) s else other_on c s

abbrev pub scan_on : Scan → List ℕ → Scan
scan_on s [] = s
scan_on s (c ∷ text) = scan_on (scan_one c s) text

abbrev pub scanned : List ℕ → Scan
scanned text = scan_on begin text
