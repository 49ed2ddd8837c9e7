-- What is told of a fault at a byte, by the bytes from there on. The words stand in the tables of the crate.
use Rattle.std.specs.Prelude.{ℕ, ◌-◌, ◌==◌, min, nat_le, Bool, false, not, ◌&&◌, ◌||◌, List, [], ◌∷◌, length, map, take, drop, slice_get}
use Rattle.std.specs.Prelude.{Option, Some, None, unwrap_or, if◌then◌else◌}
use Rattle.std.specs.List.{list_all, list_any, prefix_len}
use Rattle.ec_where_lines.specs.declared.fault.ByteFault.{ByteFault}
use Rattle.ec_where_lines.specs.declared.fault.ByteFault.TheVariants.{BadByte, BadNumber, Unclosed, BadDirective}
use Rattle.ec_where_lines.specs.declared.words.NumberKind.{NumberKind}
use Rattle.ec_where_lines.specs.declared.words.NumberKind.TheVariants.{Binary, Floating, Octal, Decimal, Other}
use Rattle.ec_where_lines.specs.declared.words.TheConstants.{BINARY, DECIMAL, DIRECTIVE, DIRECTIVES, FLOATING, NUMBER, OCTAL}
use Rattle.ec_where_lines.specs.declared.words.TheConstants.{CAPITALS, NAMES, STRAY, STRAYS, UNCLOSED}
use Rattle.ec_where_lines.specs.Parts.{look_up}

-- ---- bytes

abbrev pub lies_in : ℕ → ℕ → ℕ → Bool
lies_in low high b = nat_le low b && nat_le b high

abbrev pub is_digit : ℕ → Bool
is_digit b = lies_in 48 57 b

abbrev pub is_word_byte : ℕ → Bool
is_word_byte b = lies_in 97 122 b || lies_in 65 90 b || is_digit b || b == 95

-- a letter, digit or underscore, and no small letter
abbrev pub is_capital : ℕ → Bool
is_capital b = lies_in 65 90 b || is_digit b || b == 95

abbrev pub is_number_byte : ℕ → Bool
is_number_byte b = is_word_byte b || b == 46

abbrev pub is_blank : ℕ → Bool
is_blank b = b == 32 || b == 9

abbrev pub is_floating : ℕ → Bool
is_floating b = b == 46 || b == 101 || b == 69

-- the letters, digits and underscores at the front
abbrev pub word_run : List ℕ → List ℕ
word_run bytes = take (prefix_len is_word_byte bytes) bytes

abbrev pub number_run : List ℕ → List ℕ
number_run bytes = take (prefix_len is_number_byte bytes) bytes

-- the word of a directive, behind its `#`
abbrev pub behind_blanks : List ℕ → List ℕ
behind_blanks bytes = drop (prefix_len is_blank bytes) bytes

abbrev pub directive_word : List ℕ → List ℕ
directive_word bytes = word_run (behind_blanks (drop (min (length bytes) 1) bytes))

-- ---- numbers

abbrev pub is_byte : ℕ → Option ℕ → Bool
is_byte wanted None = false
is_byte wanted (Some b) = b == wanted

-- the number begins with 0 and this letter
abbrev pub has_prefix : ℕ → ℕ → List ℕ → Bool
has_prefix lower upper run =
    is_byte 48 (slice_get run 0) && (is_byte lower (slice_get run 1) || is_byte upper (slice_get run 1))

-- the last byte is the letter of a fixed-point type
abbrev pub is_fixed_end : Option ℕ → Bool
is_fixed_end None = false
is_fixed_end (Some b) = b == 107 || b == 75 || b == 114 || b == 82

-- what letters, digits and dots that are no constant look like
abbrev pub kind_of : List ℕ → NumberKind
kind_of run =
    if has_prefix 98 66 run then Binary
    else if has_prefix 120 88 run || is_fixed_end (slice_get run (length run - 1)) then Other
    else if list_any is_floating run then Floating
    else if not (list_all is_digit run) then Other
    else if is_byte 48 (slice_get run 0) then Octal
    else Decimal

abbrev pub number_message : NumberKind → List ℕ
number_message Binary = BINARY.now
number_message Floating = FLOATING.now
number_message Octal = OCTAL.now
number_message Decimal = DECIMAL.now
number_message Other = NUMBER.now

-- ---- all faults at a byte

abbrev pub stray_message : Option ℕ → List ℕ
stray_message None = STRAY.now
stray_message (Some b) = unwrap_or (look_up (b ∷ []) (map (λ x. (x.0.now, x.1.now)) STRAYS)) STRAY.now

abbrev pub byte_message : ByteFault → List ℕ → List ℕ
byte_message BadByte rest = stray_message (slice_get rest 0)
byte_message BadNumber rest = number_message (kind_of (number_run rest))
byte_message Unclosed rest = UNCLOSED.now
byte_message BadDirective rest = unwrap_or (look_up (directive_word rest) (map (λ x. (x.0.now, x.1.now)) DIRECTIVES)) DIRECTIVE.now

-- ---- names

abbrev pub undeclared_from : Option (List ℕ) → Bool → Option (List ℕ)
undeclared_from (Some message) capitals = Some message
undeclared_from None capitals = if capitals then Some CAPITALS.now else None

-- what is told of a name that is not declared before its use, where more is known of it than that: it needs an include or
-- is of another compiler, or it has no small letter, as the names of ports
abbrev pub undeclared : List ℕ → Option (List ℕ)
undeclared word = undeclared_from (look_up word (map (λ x. (x.0.now, x.1.now)) NAMES)) (list_all is_capital word)
