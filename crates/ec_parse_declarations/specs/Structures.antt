-- What the definition of a struct ends with.
use Rattle.std.specs.Prelude.{List, Ok}
use Rattle.ec_grammar.specs.declared.token.PunctKind.TheVariants.{RightBrace, Semicolon}
use Rattle.ec_grammar.specs.declared.Spot.{Spot}
use Rattle.ec_grammar.specs.Trees.{Leaf}
use Rattle.ec_parse_laws.specs.Reading.{Read, ◌>>=◌, expected}

abbrev pub ended_by : Spot → Spot → List Leaf → Read (Spot × Spot)
ended_by r e ts = Ok ((r, e), ts)

-- the brace and the semicolon
abbrev pub structure_end : List Leaf → Read (Spot × Spot)
structure_end ts = expected RightBrace ts >>= λ r. expected Semicolon r.1 >>= λ e. ended_by r.0 e.0 e.1
