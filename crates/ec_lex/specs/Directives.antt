-- Directives: three includes, definitions of a name as a constant, and pragmas (ISO/IEC 9899:1999, 6.10; ISO/IEC TR
-- 18037:2008, 4.1.3 and 4.1.7).
use Rattle.std.specs.Prelude.{ℕ, ◌≡◌, ◌==◌, ◌&&◌, ◌||◌, List, [], ◌∷◌, ◌++◌, drop, true, false, Some, None, ◌⊎◌, codes}
use Rattle.ec_grammar.specs.declared.token.PragmaKind.{PragmaKind}
use Rattle.ec_grammar.specs.declared.token.PragmaKind.TheVariants as kinds
use Rattle.ec_grammar.specs.declared.token.PragmaState.{PragmaState}
use Rattle.ec_grammar.specs.declared.token.PragmaState.TheVariants as states
use Rattle.ec_grammar.specs.Tokens.{Lexeme, whole}
use Rattle.ec_lex.specs.declared.stop.Header.{Header}
use Rattle.ec_lex.specs.declared.stop.Header.TheVariants.{Stdint, Stdfix, Iohw}
use Rattle.ec_lex.specs.declared.pieces.Form.TheVariants.{Number, Character}
use Rattle.ec_lex.specs.Bytes.{is_space, is_letter, is_word, begins}
use Rattle.ec_lex.specs.Pieces.{comment_end, Begins, Lists, Longest}
use Rattle.ec_lex.specs.Words.{Known, known_word, look_up}
use Rattle.ec_lex.specs.Constants.{IsConstant}

-- what a directive says
pub data Directed : Type 0 where
  include : Header → Directed
  define : List ℕ → Lexeme → Directed
  set : PragmaKind → PragmaState → Directed
  ignored : Directed

abbrev pub headers : List (List ℕ × Header)
headers = (codes "<stdint.h>", Stdint) ∷ (codes "<stdfix.h>", Stdfix) ∷ (codes "<iohw.h>", Iohw) ∷ []

abbrev pub pragmas : List (List ℕ × PragmaKind)
pragmas =
    (codes "FX_FULL_PRECISION", kinds.Precision) ∷ (codes "FX_FRACT_OVERFLOW", kinds.Fract)
    ∷ (codes "FX_ACCUM_OVERFLOW", kinds.Accum) ∷ []

abbrev pub overflow_states : List (List ℕ × PragmaState)
overflow_states = (codes "SAT", states.Sat) ∷ (codes "DEFAULT", states.Default) ∷ []

abbrev pub precision_states : List (List ℕ × PragmaState)
precision_states = (codes "ON", states.On) ∷ (codes "OFF", states.Off) ∷ (codes "DEFAULT", states.Default) ∷ []

abbrev pub states_of : PragmaKind → List (List ℕ × PragmaState)
states_of kinds.Precision = precision_states
states_of kinds.Fract = overflow_states
states_of kinds.Accum = overflow_states

-- White space and comments stand before the rest. The bytes are those of one line, so each comment ends on it.
pub data Gap : List ℕ → List ℕ → Type 0 where
  none : {bs : List ℕ} → Gap bs bs
  space : {b : ℕ} {bs rest : List ℕ} → is_space b ≡ true → Gap bs rest → Gap (b ∷ bs) rest
  comment : {n : ℕ} {bs rest : List ℕ} → comment_end bs ≡ Some n → Gap (drop n bs) rest → Gap (47 ∷ 42 ∷ bs) rest

-- nothing but white space and comments follows
pub record Ends (bs : List ℕ) : Type 0 where
  pub rest : List ℕ
  pub gap : Gap bs rest
  pub end : (rest ≡ []) ⊎ ((body : List ℕ) × (rest ≡ 47 ∷ 47 ∷ body))

-- the identifier w stands first, by the longest match
pub record Word (w bs rest : List ℕ) : Type 0 where
  pub is : Begins is_letter is_word w
  pub front : bs ≡ w ++ rest
  pub whole_word : begins is_word rest ≡ false

-- a number or a character constant stands first, by the longest match
abbrev pub Value : Lexeme → List ℕ → List ℕ → Type 0
Value k bs rest =
    ((t : List ℕ) × Longest false bs Number t rest × IsConstant t k)
    ⊎ ((v : ℕ) × (t : List ℕ) × Longest false bs (Character v) t rest × (k ≡ whole v true 2))

-- each `/*` ends on the line
pub data Quiet : List ℕ → Type 0 where
  done : Quiet []
  line_comment : {bs : List ℕ} → Quiet (47 ∷ 47 ∷ bs)
  comment : {n : ℕ} {bs : List ℕ} → comment_end bs ≡ Some n → Quiet (drop n bs) → Quiet (47 ∷ 42 ∷ bs)
  other : {b : ℕ} {bs : List ℕ} → ((b == 47) && begins (λ c. (c == 47) || (c == 42)) bs) ≡ false → Quiet bs
      → Quiet (b ∷ bs)

-- What the rest of a line after `#` says. A name is defined once, and is no word; a pragma that does not begin with
-- STDC says nothing.
pub data IsDirective (s : Known) : List ℕ → Directed → Type 0 where
  includes : {line a b c d spelling : List ℕ} {h : Header} → Gap line a → Word (codes "include") a b → Gap b c
      → Lists headers spelling h → c ≡ spelling ++ d → Ends d
      → IsDirective s line (include h)
  defines : {line a b c d e f name : List ℕ} {k : Lexeme} → Gap line a → Word (codes "define") a b → Gap b c
      → Word name c d → known_word s name ≡ None → look_up name s.defines ≡ None → Gap d e → Value k e f → Ends f
      → IsDirective s line (define name k)
  sets : {line a b c d e f g i u v : List ℕ} {which : PragmaKind} {state : PragmaState} → Gap line a
      → Word (codes "pragma") a b → Gap b c
      → Word (codes "STDC") c d → Gap d e → Word u e f → look_up u pragmas ≡ Some which → Gap f g → Word v g i
      → look_up v (states_of which) ≡ Some state → Ends i
      → IsDirective s line (set which state)
  passes : {line a b : List ℕ} → Gap line a → Word (codes "pragma") a b
      → ((c d : List ℕ) → Gap b c → Word (codes "STDC") c d → ⊥) → Quiet b
      → IsDirective s line ignored
