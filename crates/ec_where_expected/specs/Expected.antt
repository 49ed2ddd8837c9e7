-- The kinds of tokens that may stand at a place of a source.
use Rattle.std.specs.Prelude.{ℕ, ◌≡◌, ◌<◌, ◌↔◌, List, [], ◌∷◌, ◌++◌, Bool, true}
use Rattle.std.specs.Prelude.{false, Option, Some, length, map, slice_get, slice_index_or, take, pos}
use Rattle.ec_fx.specs.declared.formats.FxKind.TheVariants as formats
use Rattle.ec_iohw.specs.declared.operations.IoOp.TheVariants as ops
use Rattle.ec_grammar.specs.declared.token.GroupOp.TheVariants as groups
use Rattle.ec_grammar.specs.declared.token.PragmaKind.TheVariants as kinds
use Rattle.ec_grammar.specs.declared.token.PragmaState.TheVariants as states
use Rattle.ec_grammar.specs.Tokens.{Lexeme, Placed, word, name, punct, whole, fixed, io_name, group_name, pragma, end}
use Rattle.ec_parse_laws.specs.Passing.{BeginsProgram}
use Rattle.ec_parse_laws.specs.Refusals.{NoneOfFirstPasses}
use Rattle.ec_where_expected.specs.declared.candidates.Candidate.{Candidate}
use Rattle.ec_where_expected.specs.declared.candidates.Candidate.TheVariants.{Word, Punct, Name, Integer, FixedPoint}
use Rattle.ec_where_expected.specs.declared.candidates.Candidate.TheVariants.{PortOperation, GroupOperation, Pragma, End}
use Rattle.ec_where_expected.specs.declared.candidates.TheConstants.{ROWS}

-- a token of this kind; what it carries plays no part in reading
abbrev pub lexeme_of : Candidate → Lexeme
lexeme_of (Word w) = word w
lexeme_of (Punct p) = punct p
lexeme_of Name = name []
lexeme_of Integer = whole 1 true 2
lexeme_of FixedPoint = fixed formats.Fract (pos 1)
lexeme_of PortOperation = io_name ops.Read
lexeme_of GroupOperation = group_name groups.Acquire
lexeme_of Pragma = pragma kinds.Precision states.On
lexeme_of End = end

abbrev pub placed : Candidate → Placed
placed c = record { at = 0; lexeme = lexeme_of c }

-- some program begins with these tokens and one of this kind
abbrev pub MayStand : List Placed → Candidate → Type 0
MayStand front c = BeginsProgram (front ++ placed c ∷ [])

-- the first k tokens begin a program, and none of them passes the limit of nesting
abbrev pub IsGoodFront : ℕ → List Placed → Type 0
IsGoodFront k all = BeginsProgram (take k all) × NoneOfFirstPasses 64 k all

-- the kind of a row
unfoldable pub candidate_at : ℕ → Option Candidate
candidate_at i = slice_get (map (λ row. row.0) ROWS) i

-- the flags tell of the first kinds, as many as there are flags, which of them may stand behind the tokens
abbrev pub TellFirst : List Placed → List Bool → Type 0
TellFirst front flags =
    (i : ℕ) (c : Candidate) → i < length flags → candidate_at i ≡ Some c
    → (slice_index_or flags i false ≡ true) ↔ MayStand front c

-- the flags tell of each kind whether it may stand behind the tokens
pub record AreStanding (front : List Placed) (flags : List Bool) : Type 0 where
  pub all : length flags ≡ 85
  pub each : TellFirst front flags
