-- The costs of all functions, one after the other and round by round.
use Rattle.std.proofs.Common.{◌≡◌, ◌<◌, ◌≤◌, ◌+◌, ℕ, suc, List, [], ◌∷◌, ◌++◌, map, length, get_or, drop, sym, ◌∙◌, ap, arith}
use Rattle.std.proofs.Common.{append-nil, append_assoc}
use Rattle.std.proofs.lemmas.List.{drop_all}
use Rattle.ec_core.specs.declared.programs.Func.{Func}
use Rattle.ec_core.specs.Plain.{PlainProgram, plain_function, plain_stmt}
use Rattle.ec_core.specs.PortTable.{PlainTable}
use Rattle.ec_core_steps.specs.Costs.{function_cost, costs_from, costs_within}
use Rattle.ec_core_steps.proofs.Lists.{list_next}

module _ (table : PlainTable) (costs : List ℕ) (p : PlainProgram) (fs : List Func) where
  pub costs_on : (i : ℕ) (x : Func) (old new all : List ℕ) → i < length fs → x ≡ get_or fs i x
      → new ≡ old ++ function_cost table costs p i (plain_stmt x.body) ∷ []
      → old ++ costs_from table costs p i (map plain_function (drop i fs)) ≡ all
      → new ++ costs_from table costs p (i + 1) (map plain_function (drop (i + 1) fs)) ≡ all
  costs_on i x old new all l h e q =
      let rest = costs_from table costs p (i + 1) (map plain_function (drop (i + 1) fs)) in
      ap (λ xs. xs ++ rest) e ∙ append_assoc old (function_cost table costs p i (plain_stmt x.body) ∷ []) rest
      ∙ ap (λ (xs : List Func). old ++ costs_from table costs p i (map plain_function xs)) (sym (list_next fs i x l h)) ∙ q

  pub costs_end : (n : ℕ) (found all : List ℕ) → length fs ≤ n
      → found ++ costs_from table costs p n (map plain_function (drop n fs)) ≡ all → found ≡ all
  costs_end n found all l q =
      sym (append-nil found)
      ∙ ap (λ (xs : List Func). found ++ costs_from table costs p n (map plain_function xs)) (sym (drop_all n fs l)) ∙ q

pub one_round : (table : PlainTable) (p : PlainProgram) (depth : ℕ) (old new : List ℕ) → old ≡ costs_within table p depth
    → new ≡ costs_from table old p 0 p.functions → new ≡ costs_within table p (depth + 1)
one_round table p depth old new e h =
    let n : suc depth ≡ depth + 1 = omega arith in
    h ∙ ap (λ costs. costs_from table costs p 0 p.functions) e ∙ ap (costs_within table p) n
