-- Reading, as the code does it: each function gives what it read and what follows. The laws of proofs/ join it to the
-- forms, constants and directives of the other files.
use Rattle.std.specs.Prelude.{ℕ, ◌-◌, ◌==◌, ◌&&◌, ◌||◌, List, [], ◌∷◌, length, take, drop, Bool, true, false, Option}
use Rattle.std.specs.Prelude.{Some, None, option_map, option_and_then, if◌then◌else◌, nat_eq, nat_lt, ◌+◌, ◌^◌, ◌≡◌}
use Rattle.std.specs.Prelude.{unwrap_or, is_some, codes, Result, Ok, Err}
use Rattle.std.specs.List.{prefix_len, starts_with, list_any}
use Rattle.ec_grammar.specs.declared.token.PunctKind.{PunctKind}
use Rattle.ec_lex.specs.declared.pieces.Form.{Form}
use Rattle.ec_lex.specs.declared.pieces.Form.TheVariants.{Space, LineComment, Comment, OpenComment, Identifier, Number}
use Rattle.ec_lex.specs.declared.pieces.Form.TheVariants.{Character, Quote, Punctuator, Directive}
use Rattle.ec_fx.specs.declared.formats.FxKind.{FxKind}
use Rattle.ec_fx.specs.declared.numbers.Fx.{Fx}
use Rattle.ec_fx.specs.declared.numbers.Fx.TheVariants as fx
use Rattle.ec_fx.specs.Formats.{format_of}
use Rattle.ec_fx.specs.Constants.{value_of_constant}
use Rattle.ec_grammar.specs.Tokens.{Lexeme, whole, fixed, punct, view_kind, Placed}
use Rattle.ec_grammar.specs.declared.token.PragmaKind.{PragmaKind}
use Rattle.ec_grammar.specs.declared.token.PragmaState.{PragmaState}
use Rattle.ec_grammar.specs.declared.token.TokenKind.{TokenKind}
use Rattle.ec_lex.specs.declared.stop.Header.{Header}
use Rattle.ec_lex.specs.declared.stop.LexStop.{LexStop}
use Rattle.ec_lex.specs.declared.stop.LexStop.TheVariants as lex_stops
use Rattle.ec_lex.specs.declared.stop.Refusal.{Refusal}
use Rattle.ec_lex.specs.declared.stop.Refusal.TheVariants as stops
use Rattle.ec_lex.specs.declared.stop.Cause.TheVariants.{BadByte, BadNumber, Unclosed, BadDirective}
use Rattle.ec_lex.specs.declared.constants.Suffix.{Suffix}
use Rattle.ec_lex.specs.Words.{Known, same, look_up, known_word, meaning}
use Rattle.ec_lex.specs.Directives.{Directed, include, define, set, ignored, headers, pragmas, states_of}
use Rattle.ec_lex.specs.Text.{Effect, passed, taken, fault, after_blank, after_token, effect_of, line_of}
use Rattle.ec_lex.specs.Constants.{value_from, suffix_value, integer_suffixes, fixed_suffixes, types_tried}
use Rattle.ec_lex.specs.Constants.{first_holding}
use Rattle.ec_lex.specs.Bytes.{is_octal, is_hexadecimal, is_space, is_in_line, is_letter, is_digit, is_word, is_run}
use Rattle.ec_lex.specs.Bytes.{begins}
use Rattle.ec_lex.specs.Pieces.{punctuators, comment_end, is_plain, escaped}

-- the first entry of the table that the bytes begin with
abbrev pub first_prefix : {K : Type 0} → List ℕ → List (List ℕ × K) → Option (K × List ℕ)
first_prefix bs [] = None
first_prefix bs (entry ∷ entries) =
    if starts_with nat_eq bs entry.0 then Some (entry.1, drop (length entry.0) bs) else first_prefix bs entries

unfoldable pub punctuator_at : List ℕ → Option (PunctKind × List ℕ)
punctuator_at bs = first_prefix bs punctuators

abbrev pub escaped_at : ℕ → List ℕ → Option (ℕ × List ℕ)
escaped_at b bs = if begins (λ c. c == 39) bs then option_map (λ v. (v, drop 1 bs)) (escaped b) else None

-- a character constant after its first quote
abbrev pub character_at : List ℕ → Option (ℕ × List ℕ)
character_at [] = None
character_at (b ∷ []) = None
character_at (b ∷ c ∷ bs) = if b == 92 then escaped_at c bs else if (c == 39) && is_plain b then Some (b, bs) else None

abbrev pub quoted : List ℕ → Option (ℕ × List ℕ) → Form × List ℕ
quoted bs None = (Quote, bs)
quoted bs (Some c) = (Character c.0, c.1)

abbrev pub commented : List ℕ → Option ℕ → Form × List ℕ
commented inside None = (OpenComment, drop (length inside) inside)
commented inside (Some n) = (Comment, drop n inside)

-- the piece at the front
unfoldable pub piece_at : Bool → List ℕ → Option (Form × List ℕ)
piece_at line_start [] = None
piece_at line_start (b ∷ bs) =
    if is_space b then Some (Space, bs)
    else if is_letter b then Some (Identifier, drop (prefix_len is_word bs) bs)
    else if is_digit b then Some (Number, drop (prefix_len is_run bs) bs)
    else if (b == 46) && begins is_digit bs then Some (Number, drop (prefix_len is_run bs) bs)
    else if b == 39 then Some (quoted bs (character_at bs))
    else if b == 35 then (if line_start then Some (Directive, drop (prefix_len is_in_line bs) bs) else None)
    else if (b == 47) && begins (λ c. c == 47) bs then Some (LineComment, drop (prefix_len is_in_line bs) bs)
    else if (b == 47) && begins (λ c. c == 42) bs then Some (commented (drop 1 bs) (comment_end (drop 1 bs)))
    else option_map (λ x. (Punctuator x.0, x.1)) (punctuator_at (b ∷ bs))

-- the number, where it is below the limit
abbrev pub below : ℕ → ℕ → Option ℕ
below limit n = if nat_lt n limit then Some n else None

unfoldable pub integer_suffix : List ℕ → Option Suffix
integer_suffix bs = suffix_value bs integer_suffixes

unfoldable pub fixed_suffix : List ℕ → Option FxKind
fixed_suffix bs = suffix_value bs fixed_suffixes

-- the constant whose first bytes are so many digits of the base
unfoldable pub whole_of : ℕ → ℕ → List ℕ → Option Lexeme
whole_of base len bs =
    option_and_then (λ s. option_and_then
    (λ n. option_map (λ t. whole n t.signed t.bytes) (first_holding n (types_tried (base == 10) s.unsigned s.long)))
    (below (2 ^ 32) (value_from base 0 (take len bs))))
    (integer_suffix (drop len bs))

abbrev pub hexadecimal_of : List ℕ → Option Lexeme
hexadecimal_of ds = if prefix_len is_hexadecimal ds == 0 then None else whole_of 16 (prefix_len is_hexadecimal ds) ds

unfoldable pub integer_of : List ℕ → Option Lexeme
integer_of [] = None
integer_of (b ∷ bs) =
    if b == 48 then (if begins (λ x. (x == 120) || (x == 88)) bs then hexadecimal_of (drop 1 bs)
    else whole_of 8 (prefix_len is_octal bs) bs)
    else if is_digit b then whole_of 10 (prefix_len is_digit (b ∷ bs)) (b ∷ bs) else None

abbrev pub fixed_value : FxKind → Fx → Option Lexeme
fixed_value kind (fx.Got x) = Some (fixed kind x.n)
fixed_value kind fx.Overflow = None
fixed_value kind fx.ZeroDivisor = None

-- the fixed-point constant of the digits before the point and what follows the point
unfoldable pub fixed_of : List ℕ → List ℕ → Option Lexeme
fixed_of before more =
    if (length before == 0) && (prefix_len is_digit more == 0) then None
    else if nat_lt 24 (length before + prefix_len is_digit more) then None
    else option_and_then (λ kind. option_and_then
    (λ n. option_and_then (λ digits.
    fixed_value kind (value_of_constant digits (prefix_len is_digit more) (format_of kind)))
    (below (10 ^ 24) (value_from 10 n (take (prefix_len is_digit more) more))))
    (below (10 ^ 24) (value_from 10 0 before)))
    (fixed_suffix (drop (prefix_len is_digit more) more))

unfoldable pub constant_of : List ℕ → Option Lexeme
constant_of run =
    if begins (λ b. b == 46) (drop (prefix_len is_digit run) run)
    then fixed_of (take (prefix_len is_digit run) run) (drop 1 (drop (prefix_len is_digit run) run))
    else integer_of run

-- what follows a comment, by the bytes after its `/*`
abbrev pub after_comment : List ℕ → Option (List ℕ)
after_comment bs = option_map (λ n. drop n bs) (comment_end bs)

-- what follows the white space or the comment at the front
abbrev pub after_blank_at : List ℕ → Option (List ℕ)
after_blank_at [] = None
after_blank_at (b ∷ bs) =
    if is_space b then Some bs else if (b == 47) && begins (λ c. c == 42) bs then after_comment (drop 1 bs) else None

-- what follows the byte or the comment at the front, where that comment ends
abbrev pub after_byte_at : List ℕ → Option (List ℕ)
after_byte_at [] = None
after_byte_at (b ∷ bs) = if (b == 47) && begins (λ c. c == 42) bs then after_comment (drop 1 bs) else Some bs

-- without the white space and the comments at the front
unfoldable mutual
  pub skip : List ℕ → List ℕ
  skip [] = []
  skip (b ∷ []) = if is_space b then [] else b ∷ []
  skip (b ∷ c ∷ bs) =
      if is_space b then skip (c ∷ bs) else if (b == 47) && (c == 42) then unwrap_or (skip_comment bs) (b ∷ c ∷ bs)
      else b ∷ c ∷ bs

  pub skip_comment : List ℕ → Option (List ℕ)
  skip_comment [] = None
  skip_comment (b ∷ []) = None
  skip_comment (b ∷ c ∷ bs) = if (b == 42) && (c == 47) then Some (skip bs) else skip_comment (c ∷ bs)

-- whether each `/*` ends
unfoldable mutual
  pub is_quiet : List ℕ → Bool
  is_quiet [] = true
  is_quiet (b ∷ []) = true
  is_quiet (b ∷ c ∷ bs) =
      if (b == 47) && (c == 47) then true else if (b == 47) && (c == 42) then is_quiet_after bs else is_quiet (c ∷ bs)

  pub is_quiet_after : List ℕ → Bool
  is_quiet_after [] = false
  is_quiet_after (b ∷ []) = false
  is_quiet_after (b ∷ c ∷ bs) = if (b == 42) && (c == 47) then is_quiet bs else is_quiet_after (c ∷ bs)

-- whether the bytes are at their end, or at a line comment
abbrev pub is_end : List ℕ → Bool
is_end [] = true
is_end (b ∷ bs) = (b == 47) && begins (λ c. c == 47) bs

abbrev pub identifier_at : List ℕ → Option (List ℕ × List ℕ)
identifier_at [] = None
identifier_at (b ∷ bs) =
    if is_letter b then Some (take (prefix_len is_word bs + 1) (b ∷ bs), drop (prefix_len is_word bs) bs) else None

unfoldable pub header_at : List ℕ → Option (Header × List ℕ)
header_at bs = first_prefix bs headers

unfoldable pub pragma_named : List ℕ → Option PragmaKind
pragma_named w = look_up w pragmas

unfoldable pub state_named : PragmaKind → List ℕ → Option PragmaState
state_named which w = look_up w (states_of which)

-- the bytes before the rest
abbrev pub before : List ℕ → List ℕ → List ℕ
before bs rest = take (length bs - length rest) bs

abbrev pub value_of : Form → List ℕ → List ℕ → Option (Lexeme × List ℕ)
value_of Number t rest = option_map (λ k. (k, rest)) (constant_of t)
value_of (Character v) t rest = Some (whole v true 2, rest)
value_of _ t rest = None

unfoldable pub value_at : List ℕ → Option (Lexeme × List ℕ)
value_at bs = option_and_then (λ x. value_of x.0 (before bs x.1) x.1) (piece_at false bs)

unfoldable pub include_of : List ℕ → Option Directed
include_of bs = option_and_then (λ x. if is_end (skip x.1) then Some (include x.0) else None) (header_at (skip bs))

abbrev pub is_taken : Known → List ℕ → Bool
is_taken s w = is_some (known_word s w) || is_some (look_up w s.defines)

unfoldable pub define_of : Known → List ℕ → Option Directed
define_of s bs =
    option_and_then (λ x. if is_taken s x.0 then None
    else option_and_then (λ y. if is_end (skip y.1) then Some (define x.0 y.0) else None) (value_at (skip x.1)))
    (identifier_at (skip bs))

unfoldable pub set_of : List ℕ → Option Directed
set_of bs =
    option_and_then (λ x. option_and_then
    (λ which. option_and_then (λ y.
    option_and_then (λ state. if is_end (skip y.1) then Some (set which state) else None)
    (state_named which y.0)) (identifier_at (skip x.1))) (pragma_named x.0))
    (identifier_at (skip bs))

abbrev pub pragma_by : List ℕ → Option (List ℕ × List ℕ) → Option Directed
pragma_by bs None = if is_quiet bs then Some ignored else None
pragma_by bs (Some x) = if same x.0 (codes "STDC") then set_of x.1 else if is_quiet bs then Some ignored else None

unfoldable pub pragma_of : List ℕ → Option Directed
pragma_of bs = pragma_by bs (identifier_at (skip bs))

-- what the rest of a line after `#` says
unfoldable pub directive_of : Known → List ℕ → Option Directed
directive_of s line =
    option_and_then (λ x. if same x.0 (codes "include") then include_of x.1 else if same x.0 (codes "define")
    then define_of s x.1 else if same x.0 (codes "pragma") then pragma_of x.1 else None)
    (identifier_at (skip line))

abbrev pub numbered : Known → Option Lexeme → Effect
numbered s None = fault BadNumber
numbered s (Some k) = taken k (after_token s)

abbrev pub directed : Known → Option Directed → Effect
directed s None = fault BadDirective
directed s (Some d) = effect_of d s

-- what a piece does before the rest
unfoldable pub does : Known → Form → List ℕ → List ℕ → Effect
does s Space t rest = passed (after_blank t s)
does s LineComment t rest = passed s
does s Comment t rest = passed (after_blank t s)
does s OpenComment t rest = fault Unclosed
does s Identifier t rest = taken (meaning s t) (after_token s)
does s Number t rest = numbered s (constant_of t)
does s (Character v) t rest = taken (whole v true 2) (after_token s)
does s Quote t rest = fault (if list_any (λ b. b == 39) (line_of rest) then BadByte else Unclosed)
does s (Punctuator p) t rest = taken (punct p) (after_token s)
does s Directive t rest = directed s (directive_of s (drop 1 t))

abbrev pub step_by : Known → List ℕ → Option (Form × List ℕ) → Effect × List ℕ
step_by s bs None = (fault BadByte, bs)
step_by s bs (Some x) = (does s x.0 (before bs x.1) x.1, x.1)

-- what the front of the bytes does, and what follows
unfoldable pub step : Known → List ℕ → Effect × List ℕ
step s bs = step_by s bs (piece_at s.line_start bs)

-- what was answered, with what is known then, is this effect
abbrev pub Gives : Result (Option TokenKind) Refusal → Known → Effect → Type 0
Gives (Ok None) s e = e ≡ passed s
Gives (Ok (Some k)) s e = e ≡ taken (view_kind k) s
Gives (Err stops.NoMemory) s e = Unit {0}
Gives (Err (stops.Fault cause)) s e = e ≡ fault cause

-- the token, where there is one, with its place
abbrev pub told : ℕ → Option TokenKind → List Placed
told at None = []
told at (Some k) = record { at = at; lexeme = view_kind k } ∷ []

-- the answer for a stop at a place
abbrev pub IsAt : Refusal → ℕ → LexStop → Type 0
IsAt stops.NoMemory at result = result ≡ lex_stops.NoMemory
IsAt (stops.Fault BadByte) at result = result ≡ lex_stops.BadByte at
IsAt (stops.Fault BadNumber) at result = result ≡ lex_stops.BadNumber at
IsAt (stops.Fault Unclosed) at result = result ≡ lex_stops.Unclosed at
IsAt (stops.Fault BadDirective) at result = result ≡ lex_stops.BadDirective at
