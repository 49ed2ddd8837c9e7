-- The laws of reading, over lists of tokens alone.
use Rattle.std.specs.Prelude.{ℕ, ◌≡◌, List, Result, Ok, Err, ◌⊎◌}
use Rattle.ec_grammar.specs.Tokens.{Placed}
use Rattle.ec_grammar.specs.Trees as t
use Rattle.ec_grammar.specs.Grammar.{leaves_from, Derives}
use Rattle.ec_grammar.specs.Nesting.{NestsIn}
use Rattle.ec_parse_laws.specs.Reading.{Fault, too_deep, read}

-- the tree of a list of tokens, or the first token that cannot be gone on with
abbrev pub tree_of : ℕ → List Placed → Result t.Tree Fault
tree_of limit tokens = read limit (leaves_from 0 tokens)

-- what is read is a derivation of the list
abbrev pub ReadsDerivationsAlone : Type 0
ReadsDerivationsAlone = (limit : ℕ) (tokens : List Placed) (u : t.Tree) → tree_of limit tokens ≡ Ok u → Derives tokens u

-- every derivation of any depth is read whole; or it is told too deep, and then nests deeper than the limit
abbrev pub ReadsEveryDerivation : Type 0
ReadsEveryDerivation = (limit : ℕ) (tokens : List Placed) (u : t.Tree) → Derives tokens u
    → (tree_of limit tokens ≡ Ok u)
    ⊎ ((place : ℕ) × (tree_of limit tokens ≡ Err (too_deep place)) × (NestsIn limit u → ⊥))

-- no list of tokens has two derivations
abbrev pub DerivesOneTree : Type 0
DerivesOneTree = (tokens : List Placed) (u v : t.Tree) → Derives tokens u → Derives tokens v → u ≡ v
