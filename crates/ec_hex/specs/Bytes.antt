-- Bytes as pairs of hexadecimal digits, and their sum.
use Rattle.std.specs.Prelude.{ℕ, ◌+◌, ◌*◌, ◌/◌, ◌%◌, nat_lt, if◌then◌else◌, ◌&&◌, Option, Some, None, option_map, List}
use Rattle.std.specs.Prelude.{[], ◌∷◌}
use Rattle.std.specs.Char.{digit_value, is_digit}

-- a digit in upper case
abbrev pub digit : ℕ → ℕ
digit n = if nat_lt n 10 then 48 + n else 55 + n

abbrev pub digits_of : List ℕ → List ℕ
digits_of [] = []
digits_of (byte ∷ bytes) = digit (byte / 16) ∷ digit (byte % 16) ∷ digits_of bytes

-- what digits of either case stand for; none where a character is no digit or a digit is left over
abbrev pub bytes_of : List ℕ → Option (List ℕ)
bytes_of [] = Some []
bytes_of (c ∷ []) = None
bytes_of (c ∷ d ∷ more) =
    if is_digit c 16 && is_digit d 16
    then option_map (λ bytes. (16 * digit_value c + digit_value d) ∷ bytes) (bytes_of more) else None

abbrev pub total : List ℕ → ℕ
total [] = 0
total (byte ∷ bytes) = byte + total bytes
