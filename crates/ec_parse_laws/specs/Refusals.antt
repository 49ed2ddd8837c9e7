-- Which token a refusal names. The place of a fault is the number of tokens from it on, so the token is the one behind
-- the k first where k and that number are the length of the list.
use Rattle.std.specs.Prelude.{ℕ, suc, ◌≡◌, ◌+◌, ◌-◌, ◌<◌, ◌≤◌, ◌↔◌, List, [], ◌∷◌, ◌++◌, length, take, Ok, Err}
use Rattle.ec_grammar.specs.Tokens as tokens
use Rattle.ec_grammar.specs.Tokens.{Placed}
use Rattle.ec_grammar.specs.Trees as t
use Rattle.ec_grammar.specs.Grammar.{Derives}
use Rattle.ec_grammar.specs.Nesting.{NestsIn}
use Rattle.ec_parse_laws.specs.Reading.{Fault, syntax, too_deep}
use Rattle.ec_parse_laws.specs.Laws.{tree_of}
use Rattle.ec_parse_laws.specs.Passing.{BeginsProgram, PassesAtLast}

abbrev pub place : Fault → ℕ
place (syntax n) = n
place (too_deep n) = n

-- the last token is the end
abbrev pub EndsWithEnd : List Placed → Type 0
EndsWithEnd all = (before : List Placed) × (last : Placed) × (all ≡ before ++ last ∷ []) × (last.lexeme ≡ tokens.end)

-- no program goes on with a token that cannot be gone on with
abbrev pub NoProgramGoesOn : Type 0
NoProgramGoesOn =
    (limit : ℕ) (all : List Placed) (n : ℕ) → EndsWithEnd all → tree_of limit all ≡ Err (syntax n)
    → (0 < n) × (n ≤ length all) × (BeginsProgram (take (suc (length all - n)) all) → ⊥)

-- ---- each answer exactly

-- a fault names a token of the list
abbrev pub NamesToken : Type 0
NamesToken =
    (limit : ℕ) (all : List Placed) (f : Fault) → EndsWithEnd all → tree_of limit all ≡ Err f
    → (0 < place f) × (place f ≤ length all)

-- nothing follows the end in the list of a program
abbrev pub EndsOnce : Type 0
EndsOnce =
    (prefix more : List Placed) (x : Placed) (u : t.Tree) → x.lexeme ≡ tokens.end → Derives (prefix ++ x ∷ more) u
    → more ≡ []

-- the tree is read exactly where it is the derivation of the list and keeps the limit
abbrev pub TreeExactly : Type 0
TreeExactly =
    (limit : ℕ) (all : List Placed) (u : t.Tree) → (tree_of limit all ≡ Ok u) ↔ (Derives all u × NestsIn limit u)

-- none of the k first tokens passes the limit in a program
abbrev pub NoneOfFirstPasses : ℕ → ℕ → List Placed → Type 0
NoneOfFirstPasses limit k all = (j : ℕ) → j < k → PassesAtLast limit (take (suc j) all) → ⊥

-- the k first tokens begin a program, and with the next one they begin none; and none of them passes the limit
abbrev pub StopsBehind : ℕ → ℕ → List Placed → Type 0
StopsBehind limit k all =
    (k < length all) × BeginsProgram (take k all) × (BeginsProgram (take (suc k) all) → ⊥)
    × NoneOfFirstPasses limit k all

-- the token behind the k first ones passes the limit in a program, and none of them does
abbrev pub PassesFirstBehind : ℕ → ℕ → List Placed → Type 0
PassesFirstBehind limit k all = (k < length all) × PassesAtLast limit (take (suc k) all) × NoneOfFirstPasses limit k all

abbrev pub SyntaxExactly : Type 0
SyntaxExactly =
    (limit : ℕ) (all : List Placed) (k n : ℕ) → EndsWithEnd all → k + n ≡ length all
    → (tree_of limit all ≡ Err (syntax n)) ↔ StopsBehind limit k all

abbrev pub TooDeepExactly : Type 0
TooDeepExactly =
    (limit : ℕ) (all : List Placed) (k n : ℕ) → EndsWithEnd all → k + n ≡ length all
    → (tree_of limit all ≡ Err (too_deep n)) ↔ PassesFirstBehind limit k all
