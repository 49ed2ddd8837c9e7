-- Names that have a meaning of their own: those of registers (ISO/IEC TR 18037:2008, 5.2.2; this project's profile has
-- `_R2` to `_R7`), and `main` (ISO/IEC 9899:1999, 5.1.2.2.1).
use Rattle.std.specs.Prelude.{ℕ, ◌-◌, ◌==◌, nat_le, Bool, ◌&&◌, if◌then◌else◌, Option, Some, None, List, [], ◌∷◌}
use Rattle.std.specs.Str.{bytes_eq}

-- `_`, `R` and a digit from 2 to 7
abbrev pub register_by : ℕ → ℕ → ℕ → Option ℕ
register_by a b c = if a == 95 && b == 82 && nat_le 50 c && nat_le c 55 then Some (c - 48) else None

-- the number of the register that a name is, if it is one
abbrev pub register_number : List ℕ → Option ℕ
register_number [] = None
register_number (a ∷ []) = None
register_number (a ∷ b ∷ []) = None
register_number (a ∷ b ∷ c ∷ []) = register_by a b c
register_number (a ∷ b ∷ c ∷ d ∷ more) = None

abbrev pub is_main : List ℕ → Bool
is_main n = bytes_eq n (109 ∷ 97 ∷ 105 ∷ 110 ∷ [])
