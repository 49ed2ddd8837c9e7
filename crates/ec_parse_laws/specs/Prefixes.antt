-- What was read before a fault, over lists of tokens alone.
use Rattle.std.specs.Prelude.{ℕ, suc, ◌-◌, ◌≤◌, ◌≡◌, List, length, take, Err}
use Rattle.ec_grammar.specs.Tokens.{Placed}
use Rattle.ec_parse_laws.specs.Reading.{syntax, too_deep}
use Rattle.ec_parse_laws.specs.Laws.{tree_of}
use Rattle.ec_parse_laws.specs.Passing.{BeginsProgram, PassesAtLast}

-- where a token cannot be gone on with, the tokens before it begin a program
abbrev pub BeginsBeforeSyntax : Type 0
BeginsBeforeSyntax =
    (limit : ℕ) (tokens : List Placed) (n : ℕ) → tree_of limit tokens ≡ Err (syntax n)
    → BeginsProgram (take (length tokens - n) tokens)

-- a token that is told too deep passes the limit in the tree of some program that begins with the tokens up to it
abbrev pub PassesWhereTold : Type 0
PassesWhereTold =
    (limit : ℕ) (tokens : List Placed) (n : ℕ) → tree_of limit tokens ≡ Err (too_deep n)
    → (1 ≤ n) × (n ≤ length tokens) × PassesAtLast limit (take (suc (length tokens - n)) tokens)
