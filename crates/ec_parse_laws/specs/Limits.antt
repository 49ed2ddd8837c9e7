-- The laws of the nesting limit, over lists of tokens alone.
use Rattle.std.specs.Prelude.{ℕ, ◌≡◌, ◌≤◌, List, Ok, Err}
use Rattle.ec_grammar.specs.Tokens.{Placed}
use Rattle.ec_grammar.specs.Trees as t
use Rattle.ec_grammar.specs.Grammar.{Derives}
use Rattle.ec_grammar.specs.Nesting.{NestsIn}
use Rattle.ec_parse_laws.specs.Reading.{too_deep}
use Rattle.ec_parse_laws.specs.Laws.{tree_of}
use Rattle.ec_parse_laws.specs.Passing.{PassesTree}

-- what is read nests no deeper than the limit
abbrev pub ReadsWithinTheLimit : Type 0
ReadsWithinTheLimit = (limit : ℕ) (tokens : List Placed) (u : t.Tree) → tree_of limit tokens ≡ Ok u → NestsIn limit u

-- where nesting passes the limit at a token of a program, a token is told too deep, and none after that one. A place is
-- told by the number of tokens from it on, so an earlier place is a greater number
abbrev pub TellsNoLater : Type 0
TellsNoLater =
    (limit : ℕ) (tokens : List Placed) (u : t.Tree) (place : ℕ) → Derives tokens u → PassesTree limit u place
    → (told : ℕ) × (tree_of limit tokens ≡ Err (too_deep told)) × (place ≤ told)
