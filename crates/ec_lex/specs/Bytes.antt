-- The classes of bytes (ISO/IEC 9899:1999, 5.2.1 and 6.4). A byte is its ASCII code.
use Rattle.std.specs.Prelude.{ℕ, ◌-◌, ◌==◌, ◌&&◌, ◌||◌, nat_le, not, Bool, if◌then◌else◌}
pub use Rattle.ec_lex.specs.Comments.{begins}

-- space, tab, LF, VT, FF and CR
abbrev pub is_space : ℕ → Bool
is_space b = (b == 32) || (nat_le 9 b && nat_le b 13)

-- A line ends with LF alone.
abbrev pub is_newline : ℕ → Bool
is_newline b = b == 10

abbrev pub is_in_line : ℕ → Bool
is_in_line b = not (b == 10)

abbrev pub is_letter : ℕ → Bool
is_letter b = (nat_le 97 b && nat_le b 122) || ((nat_le 65 b && nat_le b 90) || (b == 95))

abbrev pub is_digit : ℕ → Bool
is_digit b = nat_le 48 b && nat_le b 57

-- what may follow the first letter of an identifier
abbrev pub is_word : ℕ → Bool
is_word b = is_letter b || is_digit b

-- what may follow the first digit of a number
abbrev pub is_run : ℕ → Bool
is_run b = is_word b || (b == 46)

abbrev pub is_octal : ℕ → Bool
is_octal b = nat_le 48 b && nat_le b 55

abbrev pub is_hexadecimal : ℕ → Bool
is_hexadecimal b = is_digit b || ((nat_le 97 b && nat_le b 102) || (nat_le 65 b && nat_le b 70))

-- the value of a digit of any base
abbrev pub digit_value : ℕ → ℕ
digit_value b = if nat_le b 57 then b - 48 else if nat_le b 70 then b - 55 else b - 87
