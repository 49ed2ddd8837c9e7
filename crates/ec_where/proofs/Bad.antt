-- Which token is the first bad one, by what parsing answers.
use Rattle.std.proofs.Common.{◌≡◌, ◌⊎◌, ◌↔◌, inl, inr, ℕ, List, subst}
use Rattle.std.specs.Prelude.{true, false, Result, Ok, Err, ◌==◌}
use Rattle.std.proofs.lemmas.Bool.{eqb-true, eq-eqb, false≢true}
use Rattle.ec_grammar.specs.declared.Tree.{Tree}
use Rattle.ec_grammar.specs.Tokens.{Placed}
use Rattle.ec_parse.specs.declared.stop.ParseStop.{ParseStop}
use Rattle.ec_parse.specs.declared.stop.ParseStop.TheVariants.{NoMemory, Syntax, TooDeep}
use Rattle.ec_parse.specs.Parse.{IsBadAt}
use Rattle.ec_parse_laws.specs.Refusals.{StopsBehind}

-- a bad token is told, unless memory runs out
abbrev pub Tells : List Placed → Result Tree ParseStop → Type 0
Tells list r = (stop : ParseStop) → IsBadAt list stop → (r ≡ Err stop) ⊎ (r ≡ Err NoMemory)

pub bad_told : (list : List Placed) (k at : ℕ) → Tells list (Err (Syntax at)) → StopsBehind 64 at list
    → ((at == k) ≡ true) ↔ StopsBehind 64 k list
bad_told list k at told stops = (
  λ same. subst (λ (n : ℕ). StopsBehind 64 n list) (eqb-true at k same) stops,
  λ here. elim (told (Syntax k) here) as (λ _. (at == k) ≡ true) [
    | inl e ↦ (let same : at ≡ k = cc in eq-eqb at k same)
    | inr e ↦ cc
  ],
)

pub none_told : (list : List Placed) (k : ℕ) (tree : Tree) → Tells list (Ok tree) → (false ≡ true) ↔ StopsBehind 64 k list
none_told list k tree told = (
  λ no. absurd (false≢true no),
  λ here. elim (told (Syntax k) here) as (λ _. false ≡ true) [ inl e ↦ cc | inr e ↦ cc ],
)

pub deep_told : (list : List Placed) (k at : ℕ) → Tells list (Err (TooDeep at)) → (false ≡ true) ↔ StopsBehind 64 k list
deep_told list k at told = (
  λ no. absurd (false≢true no),
  λ here. elim (told (Syntax k) here) as (λ _. false ≡ true) [ inl e ↦ cc | inr e ↦ cc ],
)
