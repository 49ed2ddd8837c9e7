-- Each constant among the tokens of a text stands for a number of its type.
use Rattle.std.proofs.Common.{ℕ, Bool, true, false, List, [], ◌∷◌, ◌++◌, length, sym, subst, inl, inr}
use Rattle.std.specs.Prelude.{if◌then◌else◌, ⊤, Option, Some, None, IfSome, option_map, unwrap_or}
use Rattle.std.specs.List.{AllByRecursion, list_any}
use Rattle.ec_grammar.specs.Tokens.{Lexeme, word, name, io_name, group_name, reserved, end, whole, Placed}
use Rattle.ec_lex.specs.declared.pieces.Form.{Form}
use Rattle.ec_lex.specs.declared.pieces.Form.TheVariants.{Character}
use Rattle.ec_lex.specs.declared.stop.Header.{Header}
use Rattle.ec_lex.specs.declared.stop.Header.TheVariants.{Stdint, Stdfix, Iohw}
use Rattle.ec_lex.specs.Bytes.{is_newline}
use Rattle.ec_lex.specs.Directives.{Directed, include, define, set, ignored, Value, IsDirective, defines}
use Rattle.ec_lex.specs.Pieces.{Is}
use Rattle.ec_lex.specs.Text.{nothing_known, after_blank, with_header, Effect, passed, taken, fault, effect_of, Does, space, line_comment}
use Rattle.ec_lex.specs.Text.{comment, open_comment, identifier, number, bad_number, character, bad_character, open_character, punctuator}
use Rattle.ec_lex.specs.Text.{directive, bad_directive, Steps, piece, stray, placed, Reads, here, pass, token}
use Rattle.ec_lex.specs.Words.{same, look_up, words, stdint_words, stdfix_words, io_names, group_names, Known, or_else, only_if, io_word}
use Rattle.ec_lex.specs.Words.{plain_word, stdint_word, stdfix_word, known_word, is_reserved, meaning}
use Rattle.ec_lex_laws.specs.Laws.{IsHeld, TextsHoldNumbers}
use Rattle.ec_lex_laws.proofs.Constants.{if_both, constant_held, plain_held, escape_held}

-- the names that were defined stand for held constants
abbrev AreDefined : List (List ℕ × Lexeme) → Type 0
AreDefined ds = AllByRecursion (λ d. IsHeld d.1) ds

abbrev MayHold : Option Lexeme → Type 0
MayHold o = IfSome o IsHeld

-- ---- words

either : (x y : Option Lexeme) → MayHold x → MayHold y → MayHold (or_else x y)
either None y h k = k
either (Some x) y h k = h

only : (b : Bool) (x : Option Lexeme) → MayHold x → MayHold (only_if b x)
only true x h = h
only false x h = tt

mapped : {A : Type 0} → (f : A → Lexeme) → ((a : A) → IsHeld (f a)) → (o : Option A) → MayHold (option_map f o)
mapped f h None = tt
mapped f h (Some a) = h a

plain_words : (w : List ℕ) → MayHold (plain_word w)
unfolding plain_word
plain_words w = mapped word (λ a. tt) (look_up w words)

stdint_held : (w : List ℕ) → MayHold (stdint_word w)
unfolding stdint_word
stdint_held w = mapped word (λ a. tt) (look_up w stdint_words)

stdfix_held : (w : List ℕ) → MayHold (stdfix_word w)
unfolding stdfix_word
stdfix_held w = mapped word (λ a. tt) (look_up w stdfix_words)

io_held : (w : List ℕ) → MayHold (io_word w)
unfolding io_word
io_held w =
    either (option_map io_name (look_up w io_names)) (option_map group_name (look_up w group_names))
    (mapped io_name (λ a. tt) (look_up w io_names))
    (mapped group_name (λ a. tt) (look_up w group_names))

defined_held : (w : List ℕ) (ds : List (List ℕ × Lexeme)) → AreDefined ds → MayHold (look_up w ds)
defined_held w [] h = tt
defined_held w (d ∷ ds) h = if_both MayHold (same w d.0) (Some d.1) (look_up w ds) (λ e. h.0) (λ e. defined_held w ds h.1)

known_held : (s : Known) (w : List ℕ) → MayHold (known_word s w)
known_held s w =
    let io = only_if s.iohw (io_word w) in
    let fix = only_if s.stdfix (stdfix_word w) in
    let int = only_if s.stdint (stdint_word w) in
    either (plain_word w) (or_else int (or_else fix io)) (plain_words w)
    (either int (or_else fix io) (only s.stdint (stdint_word w) (stdint_held w))
    (either fix io (only s.stdfix (stdfix_word w) (stdfix_held w)) (only s.iohw (io_word w) (io_held w))))

or_name : (o : Option Lexeme) (w : List ℕ) → MayHold o → IsHeld (unwrap_or o (name w))
or_name None w h = tt
or_name (Some x) w h = h

meaning_held : (s : Known) (w : List ℕ) → AreDefined s.defines → IsHeld (meaning s w)
meaning_held s w h =
    let last = if is_reserved w then Some reserved else None in
    or_name (or_else (look_up w s.defines) (or_else (known_word s w) last)) w
    (either (look_up w s.defines) (or_else (known_word s w) last) (defined_held w s.defines h)
    (either (known_word s w) last (known_held s w) (if_both MayHold (is_reserved w) (Some reserved) None (λ e. tt) (λ e. tt))))

-- ---- pieces

character_is : (line_start : Bool) (v : ℕ) (t : List ℕ) → Is line_start (Character v) t → IsHeld (whole v true 2)
character_is line_start v t (inl h) = plain_held v h.1
character_is line_start v t (inr h) = escape_held h.0 v h.2

value_held : (k : Lexeme) (bs rest : List ℕ) → Value k bs rest → IsHeld k
value_held k bs rest (inl h) = constant_held h.0 k h.2
value_held k bs rest (inr h) = subst IsHeld (sym h.3) (character_is false h.0 h.1 h.2.is)

one_more : (ds : List (List ℕ × Lexeme)) (n : List ℕ) (k : Lexeme) → AreDefined ds → IsHeld k → AreDefined (ds ++ (n, k) ∷ [])
one_more [] n k h g = (g, tt)
one_more (d ∷ ds) n k h g = (h.0, one_more ds n k h.1 g)

-- a piece leaves held constants, and is one if it is a constant
abbrev IsHeldAfter : Effect → Type 0
IsHeldAfter (passed s) = AreDefined s.defines
IsHeldAfter (taken k s) = IsHeld k × AreDefined s.defines
IsHeldAfter (fault c) = ⊤

header_held : (h : Header) (s : Known) → AreDefined s.defines → AreDefined (with_header h s).defines
header_held Stdint s h = h
header_held Stdfix s h = h
header_held Iohw s h = h

directive_held : (s : Known) (line : List ℕ) (d : Directed) → AreDefined s.defines → IsDirective s line d → IsHeldAfter (effect_of d s)
directive_held s line (include x) h i = header_held x s h
directive_held s line (define n k) h (defines a b c d e f g v z) = one_more s.defines n k h (value_held k _ _ v)
directive_held s line (set which state) h i = (tt, h)
directive_held s line ignored h i = h

blank_held : (t : List ℕ) (s : Known) → AreDefined s.defines → AreDefined (after_blank t s).defines
blank_held t s h =
    if_both (λ (k : Known). AreDefined k.defines) (list_any is_newline t) (record s { line_start = true }) s (λ e. h) (λ e. h)

does_held : (s : Known) (rest : List ℕ) (f : Form) (t : List ℕ) (e : Effect) → AreDefined s.defines → Is s.line_start f t
    → Does s rest f t e → IsHeldAfter e
does_held s rest f t e h i space = blank_held t s h
does_held s rest f t e h i line_comment = h
does_held s rest f t e h i comment = blank_held t s h
does_held s rest f t e h i open_comment = tt
does_held s rest f t e h i identifier = (meaning_held s t h, h)
does_held s rest f t e h i (number {k = k} c) = (constant_held t k c, h)
does_held s rest f t e h i (bad_number c) = tt
does_held s rest f t e h i (character {v = v}) = (character_is s.line_start v t i, h)
does_held s rest f t e h i (bad_character c) = tt
does_held s rest f t e h i (open_character c) = tt
does_held s rest f t e h i punctuator = (tt, h)
does_held s rest f t e h i (directive {line = line} {d = d} c) = directive_held s line d h c
does_held s rest f t e h i (bad_directive c) = tt

steps_held : (s : Known) (bs : List ℕ) (e : Effect) (rest : List ℕ) → AreDefined s.defines → Steps s bs e rest → IsHeldAfter e
steps_held s bs e rest h (piece {t = t} {f = f} l d) = does_held s rest f t e h l.is d
steps_held s bs e rest h (stray none) = tt

reads_held : (size : ℕ) (s : Known) (bs : List ℕ) (ts : List Placed) (after : Known) (rest : List ℕ) → AreDefined s.defines
    → Reads size s bs ts after rest → AllByRecursion (λ x. IsHeld x.lexeme) ts
reads_held size s bs ts after rest h here = tt
reads_held size s bs ts after rest h (pass {s' = s'} {next = next} st r) =
    reads_held size s' next ts after rest (steps_held s bs (passed s') next h st) r
reads_held size s bs ts after rest h (token {s' = s'} {next = next} {ts = more} {k = k} st r) =
    let g = steps_held s bs (taken k s') next h st in
    (g.0, reads_held size s' next more after rest g.1 r)

with_end : (ts : List Placed) (x : Placed) → AllByRecursion (λ y. IsHeld y.lexeme) ts → IsHeld x.lexeme
    → AllByRecursion (λ y. IsHeld y.lexeme) (ts ++ x ∷ [])
with_end [] x h k = (k, tt)
with_end (y ∷ ts) x h k = (h.0, with_end ts x h.1 k)

pub texts_hold_numbers : TextsHoldNumbers
texts_hold_numbers bytes list h =
    subst (λ (l : List Placed). AllByRecursion (λ y. IsHeld y.lexeme) l) (sym h.ended)
    (with_end h.tokens (placed (length bytes) [] end) (reads_held (length bytes) nothing_known bytes h.tokens h.known [] tt h.reads) tt)
