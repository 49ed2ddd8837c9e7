-- Why sources have no trees, by the answer that tells it.
use Rattle.std.specs.Prelude.{ℕ, ⊤, List}
use Rattle.ec_lex.specs.declared.stop.LexStop.{LexStop}
use Rattle.ec_parse.specs.declared.stop.ParseStop.{ParseStop}
use Rattle.ec_build.specs.declared.stop.BuildStop.{BuildStop}
use Rattle.ec_build.specs.declared.stop.BuildStop.TheVariants.{Lex, Parse, NoMemory}
use Rattle.ec_parse_sources.specs.Units.{IsFirstFault, IsFirstUnparsed}

-- a text has a fault, told so, or the tokens of one have no tree
abbrev pub StopsUnit : (lexing : ℕ → LexStop → Type 0) → (parsing : ℕ → ParseStop → Type 0) → BuildStop → Type 0
StopsUnit lexing parsing (Lex unit stop) = lexing unit stop
StopsUnit lexing parsing (Parse unit stop) = parsing unit stop
StopsUnit lexing parsing NoMemory = ⊤
StopsUnit lexing parsing _ = ⊥

-- why sources have no trees
abbrev pub StopsReading : List (List ℕ) → BuildStop → Type 0
StopsReading sources stop = StopsUnit (IsFirstFault sources) (IsFirstUnparsed sources) stop
