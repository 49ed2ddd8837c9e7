-- How many arguments a list holds.
use Rattle.std.proofs.Common.{◌≡◌, ◌≤◌, ◌+◌, ◌∙◌, ℕ, refl, ap, sym, List, [], ◌∷◌, length, arith}
use Rattle.std.proofs.Math.Numerals.{add-one}
use Rattle.std.specs.Prelude.{None}
use Rattle.ec_grammar.specs.declared.Argument.{Argument}
use Rattle.ec_grammar.specs.Views.{views_further}
use Rattle.ec_iohw.specs.declared.table.IoTable.{IoTable}
use Rattle.ec_check_expressions.specs.Bindings.{binding_of}
use Rattle.ec_check_expressions.specs.Counts.{further_count}

pub counted : (xs : List Argument) → length xs ≡ further_count (views_further xs)
counted [] = refl
counted (x ∷ xs) = sym (add-one (length xs)) ∙ ap (λ n. n + 1) (counted xs)

-- several arguments behind the first one bind nothing
pub none_of_several : (table : IoTable) (d : List ℕ) (xs : List Argument) → 2 ≤ length xs → None ≡ binding_of table d (views_further xs)
none_of_several table d [] h = absurd (omega arith)
none_of_several table d (x ∷ []) h = absurd (let z : 2 ≤ 1 = h in omega arith)
none_of_several table d (x ∷ y ∷ xs) h = refl
