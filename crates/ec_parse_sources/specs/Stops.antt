-- Why sources have no trees, by the answer that tells it.
use Rattle.std.specs.Prelude.{ℕ, ◌≡◌, ⊤, List}
use Rattle.ec_space.specs.Listed.{Listed}
use Rattle.ec_grammar.specs.declared.token.Token.{Token}
use Rattle.ec_grammar.specs.Tokens.{Placed}
use Rattle.ec_lex.specs.declared.stop.LexStop.{LexStop}
use Rattle.ec_parse.specs.declared.stop.ParseStop.{ParseStop}
use Rattle.ec_parse_sources.specs.declared.stop.UnitStop.{UnitStop}
use Rattle.ec_parse_sources.specs.declared.stop.UnitStop.TheVariants.{Lex, Parse, NoMemory}
use Rattle.ec_parse_sources.specs.Units.{IsFaulty, IsFirstFault, IsFirstUnparsed, HaveNoTree, IsFirstTreeless}

-- a text has a fault, told so, or the tokens of one have no tree
abbrev pub StopsUnit : (lexing : ℕ → LexStop → Type 0) → (parsing : ℕ → ParseStop → Type 0) → UnitStop → Type 0
StopsUnit lexing parsing (Lex unit stop) = lexing unit stop
StopsUnit lexing parsing (Parse unit stop) = parsing unit stop
StopsUnit lexing parsing NoMemory = ⊤

-- why sources have no trees
abbrev pub StopsReading : List (List ℕ) → UnitStop → Type 0
StopsReading sources stop = StopsUnit (IsFirstFault sources) (IsFirstUnparsed sources) stop

-- ---- parts of the reading

abbrev pub StopsLexing : ℕ → List ℕ → UnitStop → Type 0
StopsLexing unit bytes stop = StopsUnit (λ i fault. (i ≡ unit) × IsFaulty bytes fault) (λ i fault. ⊥) stop

abbrev pub StopsLexingAll : List (List ℕ) → UnitStop → Type 0
StopsLexingAll sources stop = StopsUnit (IsFirstFault sources) (λ i fault. ⊥) stop

abbrev pub StopsParsing : ℕ → List Placed → UnitStop → Type 0
StopsParsing unit list stop = StopsUnit (λ i fault. ⊥) (λ i fault. (i ≡ unit) × HaveNoTree list fault) stop

abbrev pub StopsParsingAll : List (Listed Token) → UnitStop → Type 0
StopsParsingAll lists stop = StopsUnit (λ i fault. ⊥) (IsFirstTreeless lists) stop
