-- What a list of tokens is answered.
use Rattle.std.specs.Prelude.{ℕ, ◌+◌, ◌-◌, ◌≡◌, List, length, Result, Ok, Err}
use Rattle.ec_grammar.specs.declared.Tree.{Tree}
use Rattle.ec_grammar.specs.Tokens.{Placed}
use Rattle.ec_grammar.specs.Trees as t
use Rattle.ec_grammar.specs.Grammar.{Derives}
use Rattle.ec_grammar.specs.Nesting.{Nests}
use Rattle.ec_grammar.specs.Views.{view_tree}
use Rattle.ec_parse_laws.specs.Reading.{syntax, too_deep}
use Rattle.ec_parse_laws.specs.Laws.{tree_of}
use Rattle.ec_parse_laws.specs.Refusals.{StopsBehind, PassesFirstBehind}
use Rattle.ec_parse_tokens.specs.declared.stop.ReadError.{ReadError}
use Rattle.ec_parse_tokens.specs.declared.stop.ReadError.TheVariants as errors
use Rattle.ec_parse.specs.declared.stop.ParseStop.{ParseStop}
use Rattle.ec_parse.specs.declared.stop.ParseStop.TheVariants.{NoMemory, Syntax, TooDeep}

-- A stop, told by the index of the token in a list of so many.
abbrev pub IsTold : ℕ → ReadError → ParseStop → Type 0
IsTold count errors.NoMemory told = told ≡ NoMemory
IsTold count (errors.Syntax n) told = told ≡ Syntax (count - n)
IsTold count (errors.TooDeep n) told = told ≡ TooDeep (count - n)

-- The answer is what reading answers, unless memory ran out. Reading tells a token by how many there are from it on,
-- parsing by its index.
abbrev pub IsRead : List Placed → Result Tree ParseStop → Type 0
IsRead tokens (Ok u) = tree_of 64 tokens ≡ Ok (view_tree u)
IsRead tokens (Err (Syntax k)) = (n : ℕ) × (tree_of 64 tokens ≡ Err (syntax n)) × (k + n ≡ length tokens)
IsRead tokens (Err (TooDeep k)) = (n : ℕ) × (tree_of 64 tokens ≡ Err (too_deep n)) × (k + n ≡ length tokens)
IsRead tokens (Err NoMemory) = Unit {0}

-- This tree is the answer, unless memory ran out.
abbrev pub IsOnly : t.Tree → Result Tree ParseStop → Type 0
IsOnly u (Ok v) = view_tree v ≡ u
IsOnly u (Err (Syntax k)) = ⊥
IsOnly u (Err (TooDeep k)) = ⊥
IsOnly u (Err NoMemory) = Unit {0}

-- The list is in no derivation, and this is its first bad token; or it is in none that nests within the limit, and at
-- this token nesting first passes it.
abbrev pub IsRefused : List Placed → ParseStop → Type 0
IsRefused tokens (Syntax k) = StopsBehind 64 k tokens × ((u : t.Tree) → Derives tokens u → ⊥)
IsRefused tokens (TooDeep k) = PassesFirstBehind 64 k tokens × ((u : t.Tree) → Derives tokens u → Nests u → ⊥)
IsRefused tokens NoMemory = Unit {0}

-- Whether this token is the first bad one, or the first at which nesting passes the limit.
abbrev pub IsBadAt : List Placed → ParseStop → Type 0
IsBadAt tokens (Syntax k) = StopsBehind 64 k tokens
IsBadAt tokens (TooDeep k) = PassesFirstBehind 64 k tokens
IsBadAt tokens NoMemory = ⊥
