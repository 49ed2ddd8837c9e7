-- What the bytes of a text may form (ISO/IEC 9899:1999, 6.4).
use Rattle.std.specs.Prelude.{ℕ, ◌≤◌, ◌≡◌, ◌==◌, ◌&&◌, ◌⊎◌, nat_le, not, List, [], ◌∷◌, ◌++◌, length, Bool, true}
use Rattle.std.specs.Prelude.{Option, Some, None, if◌then◌else◌, ⊤, codes}
use Rattle.ec_grammar.specs.declared.token.PunctKind.{PunctKind}
use Rattle.ec_grammar.specs.declared.token.PunctKind.TheVariants.{LeftBrace, RightBrace, LeftParenthesis}
use Rattle.ec_grammar.specs.declared.token.PunctKind.TheVariants.{RightParenthesis, LeftBracket, RightBracket}
use Rattle.ec_grammar.specs.declared.token.PunctKind.TheVariants.{Semicolon, Comma, Dot, Arrow, Increment, Decrement}
use Rattle.ec_grammar.specs.declared.token.PunctKind.TheVariants.{Ampersand, Star, Plus, Minus, Tilde, Not, Slash}
use Rattle.ec_grammar.specs.declared.token.PunctKind.TheVariants.{Percent, ShiftLeft, ShiftRight, Less, Greater}
use Rattle.ec_grammar.specs.declared.token.PunctKind.TheVariants.{LessEqual, GreaterEqual, Equal, NotEqual, Caret, Bar}
use Rattle.ec_grammar.specs.declared.token.PunctKind.TheVariants.{AndAnd, OrOr, Question, Colon, Assign, StarAssign}
use Rattle.ec_grammar.specs.declared.token.PunctKind.TheVariants.{SlashAssign, PercentAssign, PlusAssign, MinusAssign}
use Rattle.ec_grammar.specs.declared.token.PunctKind.TheVariants.{ShiftLeftAssign, ShiftRightAssign, AmpersandAssign}
use Rattle.ec_grammar.specs.declared.token.PunctKind.TheVariants.{CaretAssign, BarAssign}
use Rattle.ec_lex.specs.declared.pieces.Form.{Form}
use Rattle.ec_lex.specs.declared.pieces.Form.TheVariants.{Space, LineComment, Comment, OpenComment, Identifier, Number}
use Rattle.ec_lex.specs.declared.pieces.Form.TheVariants.{Character, Quote, Punctuator, Directive}
use Rattle.ec_lex.specs.Bytes.{is_space, is_in_line, is_letter, is_digit, is_word, is_run}
pub use Rattle.ec_lex.specs.Comments.{comment_end}

-- the punctuators, longer ones first (6.4.6)
abbrev pub punctuators : List (List ℕ × PunctKind)
punctuators =
    (codes "<<=", ShiftLeftAssign) ∷ (codes ">>=", ShiftRightAssign)
    ∷ (codes "->", Arrow) ∷ (codes "++", Increment) ∷ (codes "--", Decrement)
    ∷ (codes "<<", ShiftLeft) ∷ (codes ">>", ShiftRight)
    ∷ (codes "<=", LessEqual) ∷ (codes ">=", GreaterEqual) ∷ (codes "==", Equal) ∷ (codes "!=", NotEqual)
    ∷ (codes "&&", AndAnd) ∷ (codes "||", OrOr)
    ∷ (codes "*=", StarAssign) ∷ (codes "/=", SlashAssign) ∷ (codes "%=", PercentAssign)
    ∷ (codes "+=", PlusAssign) ∷ (codes "-=", MinusAssign)
    ∷ (codes "&=", AmpersandAssign) ∷ (codes "^=", CaretAssign) ∷ (codes "|=", BarAssign)
    ∷ (codes "{", LeftBrace) ∷ (codes "}", RightBrace)
    ∷ (codes "(", LeftParenthesis) ∷ (codes ")", RightParenthesis)
    ∷ (codes "[", LeftBracket) ∷ (codes "]", RightBracket)
    ∷ (codes ";", Semicolon) ∷ (codes ",", Comma) ∷ (codes ".", Dot)
    ∷ (codes "&", Ampersand) ∷ (codes "*", Star) ∷ (codes "+", Plus) ∷ (codes "-", Minus)
    ∷ (codes "~", Tilde) ∷ (codes "!", Not) ∷ (codes "/", Slash) ∷ (codes "%", Percent)
    ∷ (codes "<", Less) ∷ (codes ">", Greater) ∷ (codes "^", Caret) ∷ (codes "|", Bar)
    ∷ (codes "?", Question) ∷ (codes ":", Colon) ∷ (codes "=", Assign) ∷ []

-- a byte that stands for itself in a character constant (6.4.4.4)
abbrev pub is_plain : ℕ → Bool
is_plain b = nat_le 32 b && (nat_le b 126 && (not (b == 39) && not (b == 92)))

-- the value of a backslash and a byte: \n, \r, \t, \0, \\ and \'
abbrev pub escaped : ℕ → Option ℕ
escaped b =
    if b == 110 then Some 10 else if b == 114 then Some 13 else if b == 116 then Some 9
    else if b == 48 then Some 0 else if b == 92 then Some 92 else if b == 39 then Some 39 else None

-- each of the bytes passes
abbrev pub Pass : (ℕ → Bool) → List ℕ → Type 0
Pass test [] = ⊤
Pass test (b ∷ bs) = (test b ≡ true) × Pass test bs

-- a first byte, and the bytes that follow it
abbrev pub Begins : (ℕ → Bool) → (ℕ → Bool) → List ℕ → Type 0
Begins first others [] = ⊥
Begins first others (b ∷ bs) = (first b ≡ true) × Pass others bs

-- the table has an entry of these bytes with this value
abbrev pub Lists : {K : Type 0} → List (List ℕ × K) → List ℕ → K → Type 0
Lists [] t k = ⊥
Lists (entry ∷ entries) t k = ((t ≡ entry.0) × (k ≡ entry.1)) ⊎ Lists entries t k

-- The bytes t are of the form. A directive stands only where a line has nothing but white space before it.
abbrev pub Is : Bool → Form → List ℕ → Type 0
-- one byte of white space (6.4)
Is line_start Space t = (b : ℕ) × (t ≡ b ∷ []) × (is_space b ≡ true)
-- `//` and bytes of its line (6.4.9)
Is line_start LineComment t = (body : List ℕ) × (t ≡ 47 ∷ 47 ∷ body) × Pass is_in_line body
-- `/*`, and the first `*/` after it at the end (6.4.9)
Is line_start Comment t = (body : List ℕ) × (t ≡ 47 ∷ 42 ∷ body) × (comment_end body ≡ Some (length body))
-- `/*`, and no `*/` after it: the longest prefix of this form is all that is left of a text in which no `*/` follows
Is line_start OpenComment t = (body : List ℕ) × (t ≡ 47 ∷ 42 ∷ body) × (comment_end body ≡ None)
-- a letter or `_`, then letters, digits and `_` (6.4.2.1)
Is line_start Identifier t = Begins is_letter is_word t
-- a digit, or `.` and a digit, then letters, digits, `_` and `.` (6.4.8, without signs)
Is line_start Number t = Begins is_digit is_run t ⊎ ((run : List ℕ) × (t ≡ 46 ∷ run) × Begins is_digit is_run run)
-- a quote, one byte or an escape, and a quote (6.4.4.4)
Is line_start (Character v) t =
    ((t ≡ 39 ∷ v ∷ 39 ∷ []) × (is_plain v ≡ true)) ⊎ ((b : ℕ) × (t ≡ 39 ∷ 92 ∷ b ∷ 39 ∷ []) × (escaped b ≡ Some v))
-- a quote alone
Is line_start Quote t = t ≡ 39 ∷ []
-- a punctuator (6.4.6)
Is line_start (Punctuator p) t = Lists punctuators t p
-- `#` and bytes of its line (6.10)
Is line_start Directive t = (body : List ℕ) × (t ≡ 35 ∷ body) × Pass is_in_line body × (line_start ≡ true)

-- t is of the form, stands at the front, and nothing longer there is of any form (6.4, the longest match)
pub record Longest (line_start : Bool) (bs : List ℕ) (f : Form) (t rest : List ℕ) : Type 0 where
  pub is : Is line_start f t
  pub front : bs ≡ t ++ rest
  pub most : (g : Form) (u other : List ℕ) → Is line_start g u → bs ≡ u ++ other → length u ≤ length t
