-- Fronts of programs.
use Rattle.std.proofs.Common.{◌≡◌, ◌≢◌, ◌⊎◌, inl, inr, ℕ, suc, ◌<◌, ◌≤◌, List}
use Rattle.std.proofs.Common.{[], ◌++◌, take, drop, refl, sym, ◌∙◌, subst, arith, append_assoc}
use Rattle.std.proofs.lemmas.List.{take-append-drop, take-take, append-nil}
use Rattle.std.specs.Prelude.{Bool, true, false, not, nat_lt, ◌==◌, ◌↔◌}
use Rattle.std.proofs.lemmas.Bool.{ltb-true, ltb-false, eqb-true, eqb-false, false≢true}
use Rattle.ec_grammar.specs.Tokens.{Placed}
use Rattle.ec_grammar.specs.Trees as t
use Rattle.ec_grammar.specs.Grammar.{Derives}
use Rattle.ec_parse_laws.specs.Passing.{BeginsProgram}
use Rattle.ec_parse_laws.specs.Refusals.{StopsBehind, PassesFirstBehind}
use Rattle.ec_where_expected.specs.Expected.{IsGoodFront}

lt_by : (a b : ℕ) (t : Bool) → nat_lt a b ≡ t → (a < b) ⊎ (b ≤ a)
lt_by a b true e = inl (ltb-true a b e)
lt_by a b false e = inr (ltb-false a b e)

pub lt_or_le : (a b : ℕ) → (a < b) ⊎ (b ≤ a)
lt_or_le a b = lt_by a b (nat_lt a b) refl

-- what begins a program goes on so at its front too
begins_front : (front more : List Placed) → BeginsProgram (front ++ more) → BeginsProgram front
begins_front front more (rest, u, d) = (more ++ rest, u, subst (λ l. Derives l u) (append_assoc front more rest) d)

begins_take : (n : ℕ) (all : List Placed) → BeginsProgram all → BeginsProgram (take n all)
begins_take n all b = begins_front (take n all) (drop n all) (subst BeginsProgram (sym (take-append-drop n all)) b)

-- a longer front is one of the shorter
begins_shorter : (n m : ℕ) (all : List Placed) → n ≤ m → BeginsProgram (take m all) → BeginsProgram (take n all)
begins_shorter n m all le b = subst BeginsProgram (take-take n m all le) (begins_take n (take m all) b)

pub stands_whole : (k : ℕ) (all : List Placed) (u : t.Tree) → Derives all u → BeginsProgram (take (suc k) all)
stands_whole k all u d =
    let whole = sym (append-nil _ ∙ take-append-drop (suc k) all) in
    begins_front (take (suc k) all) (drop (suc k) all) ([], u, subst (λ l. Derives l u) whole d)

pub stands_before : (k j : ℕ) (all : List Placed) → IsGoodFront k all → StopsBehind 64 j all → j ≢ k → BeginsProgram (take (suc k) all)
stands_before k j all good stops other =
    elim (lt_or_le j k) as (λ _. BeginsProgram (take (suc k) all)) [
      | inl below ↦ absurd (stops.2 (begins_shorter (suc j) k all (omega arith) good.0))
      | inr above ↦ begins_shorter (suc k) j all (omega arith) stops.1
    ]

pub stands_deep : (k j : ℕ) (all : List Placed) → IsGoodFront k all → PassesFirstBehind 64 j all → BeginsProgram (take (suc k) all)
stands_deep k j all good passes =
    elim (lt_or_le j k) as (λ _. BeginsProgram (take (suc k) all)) [
      | inl below ↦ absurd (good.1 j below passes.1)
      | inr above ↦
          let more = passes.1 in
          begins_shorter (suc k) (suc j) all (omega arith) (more.0, more.1, more.2)
    ]

pub stands_syntax : (k at : ℕ) (all : List Placed) (t : Bool) → (at == k) ≡ t → IsGoodFront k all → StopsBehind 64 at all
    → (not t ≡ true) ↔ BeginsProgram (take (suc k) all)
stands_syntax k at all true e good stops = (
  λ no. absurd (false≢true no),
  λ b. absurd ((subst (λ (n : ℕ). StopsBehind 64 n all) (eqb-true at k e) stops).2 b),
)
stands_syntax k at all false e good stops = (λ _. stands_before k at all good stops (eqb-false at k e), λ _. refl)
