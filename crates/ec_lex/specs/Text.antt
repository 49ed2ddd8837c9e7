-- A text as tokens (ISO/IEC 9899:1999, 5.1.1.2 and 6.4): white space, directives and tokens, from the front on, by the
-- longest match.
use Rattle.std.specs.Prelude.{ℕ, ◌-◌, ◌≤◌, ◌≡◌, ◌==◌, List, [], ◌∷◌, ◌++◌, length, take, true, false, Result, Ok, Err}
use Rattle.std.specs.Prelude.{◌⊎◌, if◌then◌else◌}
use Rattle.std.specs.List.{prefix_len, list_any}
use Rattle.ec_grammar.specs.declared.token.PunctKind.{PunctKind}
use Rattle.ec_grammar.specs.Tokens.{Lexeme, punct, whole, pragma, end, Placed, view_tokens}
use Rattle.ec_grammar.specs.declared.token.Token.{Token}
use Rattle.ec_space.specs.Listed.{Listed}
use Rattle.ec_lex.specs.declared.stop.Cause.{Cause}
use Rattle.ec_lex.specs.declared.stop.Cause.TheVariants.{BadByte, BadNumber, Unclosed, BadDirective}
use Rattle.ec_lex.specs.declared.stop.LexStop.{LexStop}
use Rattle.ec_lex.specs.declared.stop.LexStop.TheVariants as stops
use Rattle.ec_lex.specs.declared.stop.Header.{Header}
use Rattle.ec_lex.specs.declared.stop.Header.TheVariants.{Stdint, Stdfix, Iohw}
use Rattle.ec_lex.specs.declared.pieces.Form.{Form}
use Rattle.ec_lex.specs.declared.pieces.Form.TheVariants.{Space, LineComment, Comment, OpenComment, Identifier, Number}
use Rattle.ec_lex.specs.declared.pieces.Form.TheVariants.{Character, Quote, Punctuator, Directive}
use Rattle.ec_lex.specs.Bytes.{is_newline, is_in_line}
use Rattle.ec_lex.specs.Pieces.{Is, Longest}
use Rattle.ec_lex.specs.Words.{Known, meaning}
use Rattle.ec_lex.specs.Constants.{IsConstant}
use Rattle.ec_lex.specs.Directives.{Directed, include, define, set, ignored, IsDirective}

-- what is known at the start of a text
abbrev pub nothing_known : Known
nothing_known = record { line_start = true; stdint = false; stdfix = false; iohw = false; defines = [] }

-- what is known after white space: behind a newline a line starts
abbrev pub after_blank : List ℕ → Known → Known
after_blank t s = if list_any is_newline t then record s { line_start = true } else s

abbrev pub after_token : Known → Known
after_token s = record s { line_start = false }

abbrev pub with_header : Header → Known → Known
with_header Stdint s = record s { stdint = true }
with_header Stdfix s = record s { stdfix = true }
with_header Iohw s = record s { iohw = true }

-- what a piece does: it is passed over, it is a token, or it is a fault; and what is known after it
pub data Effect : Type 0 where
  passed : Known → Effect
  taken : Lexeme → Known → Effect
  fault : Cause → Effect

abbrev pub effect_of : Directed → Known → Effect
effect_of (include h) s = passed (with_header h s)
effect_of (define n k) s = passed (record s { defines = s.defines ++ (n, k) ∷ [] })
effect_of (set which state) s = taken (pragma which state) s
effect_of ignored s = passed s

-- the rest of the line
abbrev pub line_of : List ℕ → List ℕ
line_of rest = take (prefix_len is_in_line rest) rest

-- What a piece of this form and these bytes does before the rest. A character constant has type int.
pub data Does (s : Known) (rest : List ℕ) : Form → List ℕ → Effect → Type 0 where
  space : {t : List ℕ} → Does s rest Space t (passed (after_blank t s))
  line_comment : {t : List ℕ} → Does s rest LineComment t (passed s)
  comment : {t : List ℕ} → Does s rest Comment t (passed (after_blank t s))
  open_comment : {t : List ℕ} → Does s rest OpenComment t (fault Unclosed)
  identifier : {t : List ℕ} → Does s rest Identifier t (taken (meaning s t) (after_token s))
  number : {t : List ℕ} {k : Lexeme} → IsConstant t k → Does s rest Number t (taken k (after_token s))
  bad_number : {t : List ℕ} → ((k : Lexeme) → IsConstant t k → ⊥) → Does s rest Number t (fault BadNumber)
  character : {t : List ℕ} {v : ℕ} → Does s rest (Character v) t (taken (whole v true 2) (after_token s))
  bad_character : {t : List ℕ} → list_any (λ b. b == 39) (line_of rest) ≡ true → Does s rest Quote t (fault BadByte)
  open_character : {t : List ℕ} → list_any (λ b. b == 39) (line_of rest) ≡ false → Does s rest Quote t (fault Unclosed)
  punctuator : {t : List ℕ} {p : PunctKind} → Does s rest (Punctuator p) t (taken (punct p) (after_token s))
  directive : {line : List ℕ} {d : Directed} → IsDirective s line d → Does s rest Directive (35 ∷ line) (effect_of d s)
  bad_directive : {line : List ℕ} → ((d : Directed) → IsDirective s line d → ⊥)
      → Does s rest Directive (35 ∷ line) (fault BadDirective)

-- what stands at the front of the bytes does this, and the rest follows it
pub data Steps (s : Known) : List ℕ → Effect → List ℕ → Type 0 where
  piece : {bs t rest : List ℕ} {f : Form} {e : Effect} → Longest s.line_start bs f t rest → Does s rest f t e
      → Steps s bs e rest
  stray : {b : ℕ} {bs : List ℕ} → ((f : Form) (t rest : List ℕ) → Is s.line_start f t → b ∷ bs ≡ t ++ rest → ⊥)
      → Steps s (b ∷ bs) (fault BadByte) (b ∷ bs)

-- the place of the bytes that are left of a text of so many
abbrev pub place : ℕ → List ℕ → ℕ
place size bs = size - length bs

abbrev pub placed : ℕ → List ℕ → Lexeme → Placed
placed size bs k = record { at = place size bs; lexeme = k }

-- Read from here on, the bytes before the rest are these tokens, and then this much is known.
pub data Reads (size : ℕ) : Known → List ℕ → List Placed → Known → List ℕ → Type 0 where
  here : {s : Known} {bs : List ℕ} → Reads size s bs [] s bs
  pass : {s s' after : Known} {bs next rest : List ℕ} {ts : List Placed} → Steps s bs (passed s') next
      → Reads size s' next ts after rest → Reads size s bs ts after rest
  token : {s s' after : Known} {bs next rest : List ℕ} {ts : List Placed} {k : Lexeme} → Steps s bs (taken k s') next
      → Reads size s' next ts after rest → Reads size s bs (placed size bs k ∷ ts) after rest

-- The text is these tokens, and the end.
pub record Tokens (bytes : List ℕ) (list : List Placed) : Type 0 where
  pub tokens : List Placed
  pub known : Known
  pub reads : Reads (length bytes) nothing_known bytes tokens known []
  pub ended : list ≡ tokens ++ placed (length bytes) [] end ∷ []

-- The text reads as at most 65,535 tokens up to the place, and there this fault stands. It is the fault with the least
-- place.
pub record IsFault (bytes : List ℕ) (cause : Cause) (at : ℕ) : Type 0 where
  pub tokens : List Placed
  pub known : Known
  pub rest : List ℕ
  pub next : List ℕ
  pub reads : Reads (length bytes) nothing_known bytes tokens known rest
  pub few : length tokens ≤ 65_535
  pub stands : Steps known rest (fault cause) next
  pub is_at : at ≡ place (length bytes) rest

-- The text begins with 65,536 tokens.
pub record IsTooLong (bytes : List ℕ) : Type 0 where
  pub tokens : List Placed
  pub known : Known
  pub rest : List ℕ
  pub reads : Reads (length bytes) nothing_known bytes tokens known rest
  pub many : length tokens ≡ 65_536

-- why the text is refused
abbrev pub IsRefused : List ℕ → LexStop → Type 0
IsRefused bytes (stops.BadByte at) = IsFault bytes BadByte at
IsRefused bytes (stops.BadNumber at) = IsFault bytes BadNumber at
IsRefused bytes (stops.Unclosed at) = IsFault bytes Unclosed at
IsRefused bytes (stops.BadDirective at) = IsFault bytes BadDirective at
IsRefused bytes stops.TooManyTokens = IsTooLong bytes
IsRefused bytes stops.NoMemory = ⊥

-- the answer shows these tokens, or that memory ran out
abbrev pub Shows : List Placed → Result (Listed Token) LexStop → Type 0
Shows list (Ok answer) = view_tokens answer.items ≡ list
Shows list (Err stop) = stop ≡ stops.NoMemory

-- the tokens of the text, at most 65,535 before the end, or out of memory, or why the text is refused
abbrev pub IsFound : List ℕ → Result (Listed Token) LexStop → Type 0
IsFound bytes (Ok answer) = Tokens bytes (view_tokens answer.items) × (length answer.items ≤ 65_536)
IsFound bytes (Err stop) = (stop ≡ stops.NoMemory) ⊎ IsRefused bytes stop
