-- How many functions are active at once.
use Rattle.std.specs.Prelude.{ℕ, zero, suc, ◌+◌, ◌≡◌, ◌≤◌, List, ◌∷◌, map, length, slice_index}
use Rattle.ec_check_recursion.specs.Rows.{rows_of_program}
use Rattle.ec_core.specs.Needs.{most}
use Rattle.ec_core.specs.Plain.{PlainProgram}
use Rattle.ec_core.specs.Valid.{Valid}
use Rattle.ec_iohw.specs.declared.table.IoTable.{IoTable}
use Rattle.ec_overlay.specs.Chains.{IsChain}

-- the greatest of what stands beside some functions, 0 where there are none
abbrev pub deepest : (depths : List ℕ) → List ℕ → ℕ
deepest depths functions = most (map (slice_index depths) functions)

-- for each function, by what each calls, how many functions stand on the longest chain that begins with it and has n at
-- most
abbrev pub chains : ℕ → List (List ℕ) → List ℕ
chains zero rows = map (λ row. 0) rows
chains (suc n) rows = map (λ row. 1 + deepest (chains n rows) row) rows

-- on the longest chain of calls from main, main included. Where nothing recurses no chain is longer than all functions
abbrev pub call_depth : PlainProgram → ℕ
call_depth p = slice_index (chains (length (rows_of_program p)) (rows_of_program p)) p.main

-- so many functions stand on the longest chain of calls from main, main included
pub record IsLongest (p : PlainProgram) (depth : ℕ) : Type 0 where
  pub most : (fs : List ℕ) → IsChain (rows_of_program p) (p.main ∷ fs) → length (p.main ∷ fs) ≤ depth
  pub is_reached : (fs : List ℕ) × IsChain (rows_of_program p) (p.main ∷ fs) × (length (p.main ∷ fs) ≡ depth)

abbrev pub ChainsAreCounted : Type 0
ChainsAreCounted = (p : PlainProgram) (table : IoTable) → Valid p table → IsLongest p (call_depth p)
