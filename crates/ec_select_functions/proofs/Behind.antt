-- Branches over a jump, and where they go.
use Rattle.std.proofs.Common.{◌≡◌, ℕ, ◌+◌, ◌≤◌, Bool, true, false, List, [], ◌∷◌, ◌++◌, Some, refl, sym, ap}
use Rattle.std.proofs.Common.{◌∙◌, subst, arith, append_assoc}
use Rattle.std.specs.Prelude.{◌==◌, if◌then◌else◌, slice_get, ⊤}
use Rattle.std.specs.List.{AllByRecursion}
use Rattle.std.proofs.lemmas.Bool.{eq-eqb}
use Rattle.ec_ir.specs.Meaning.{find}
use Rattle.ec_ir.specs.Operations.{PlainIr, label, jump, branch_zero, PlainIrFunction, PlainIrProgram}
use Rattle.ec_ir.specs.Valid.{Results, count, ValidOperation, ValidIr, ValidIrFunction}
use Rattle.ec_select_functions.proofs.Cells.{each_at}

-- a branch over a jump goes to what stands behind the jump and the label there, where `all` are the operations of the function
abbrev pub GoesBehind : (all : List PlainIr) → PlainIr → (code : List PlainIr) → Type 0
GoesBehind all (branch_zero t l) code =
    (k : ℕ) (rest : List PlainIr) → code ≡ jump k ∷ (label l ∷ rest) → find l all ≡ Some rest
GoesBehind all i code = ⊤

abbrev pub GoBehind : (all code : List PlainIr) → Type 0
GoBehind all [] = ⊤
GoBehind all (i ∷ code) = GoesBehind all i code × GoBehind all code

-- ---- a label that stands once

-- 1 where the label is this one
abbrev is_at : (k l : ℕ) → ℕ
is_at k l = if k == l then 1 else 0

count_more : (l : ℕ) (i : PlainIr) (code : List PlainIr) → count l code ≤ count l (i ∷ code)
count_more l (label k) code = omega arith
count_more l i code = omega arith

stands : (l : ℕ) (before rest : List PlainIr) → 1 ≤ count l (before ++ label l ∷ rest)
stands l [] rest = let e : is_at l l ≡ 1 = ap (λ b. if b then 1 else 0) (eq-eqb l l refl) in omega (arith, e)
stands l (i ∷ before) rest =
    let a = stands l before rest in
    let b = count_more l i (before ++ label l ∷ rest) in
    omega (arith, a, b)

-- behind another operation it is found as well
found_later : (l : ℕ) (i : PlainIr) (code : List PlainIr) → 1 ≤ count l code → count l (i ∷ code) ≡ 1
    → (find l (i ∷ code) ≡ find l code) × (count l code ≡ 1)
found_later l (label k) code some one = by_test (k == l) one
  where
    by_test : (b : Bool) → (if b then 1 else 0) + count l code ≡ 1
        → ((if b then Some code else find l code) ≡ find l code) × (count l code ≡ 1)
    by_test true h = absurd (omega (arith, some, h))
    by_test false h = (refl, omega (arith, h))
found_later l i code some one = (refl, one)

found_once : (l : ℕ) (before rest : List PlainIr) → count l (before ++ label l ∷ rest) ≡ 1
    → find l (before ++ label l ∷ rest) ≡ Some rest
found_once l [] rest one = ap (λ b. if b then Some rest else find l rest) (eq-eqb l l refl)
found_once l (i ∷ before) rest one =
    let z = found_later l i (before ++ label l ∷ rest) (stands l before rest) one in
    z.0 ∙ found_once l before rest z.1

-- ---- valid operations

module _ (cells : ℕ) (p : PlainIrProgram) (results : Results) (f slots : ℕ) (all : List PlainIr) where
  goes_behind : (i : PlainIr) (before code : List PlainIr) → before ++ i ∷ code ≡ all → ValidOperation cells p results f slots all i
      → GoesBehind all i code
  goes_behind (branch_zero t l) before code q v =
      λ k rest is.
      let whole : (before ++ branch_zero t l ∷ jump k ∷ []) ++ label l ∷ rest ≡ all =
      append_assoc before (branch_zero t l ∷ jump k ∷ []) (label l ∷ rest)
      ∙ ap (λ c. before ++ branch_zero t l ∷ c) (sym is) ∙ q in
      subst (λ c. count l c ≡ 1 → find l c ≡ Some rest) whole (found_once l (before ++ branch_zero t l ∷ jump k ∷ []) rest) v.1
  goes_behind i before code q v = tt

  go_behind : (before code : List PlainIr) → before ++ code ≡ all → AllByRecursion (ValidOperation cells p results f slots all) code
      → GoBehind all code
  go_behind before [] q v = tt
  go_behind before (i ∷ code) q v = (
    goes_behind i before code q v.0,
    go_behind (before ++ i ∷ []) code (append_assoc before (i ∷ []) code ∙ q) v.1,
  )

-- in a valid program
pub functions_go : (cells : ℕ) (p : PlainIrProgram) → ValidIr cells p → (f : ℕ) (g : PlainIrFunction)
    → slice_get p.functions f ≡ Some g → GoBehind g.code g.code
functions_go cells p valid f g q =
    let v = each_at (ValidIrFunction cells p valid.results) 0 p.functions f g valid.functions q in
    go_behind cells p valid.results (0 + f) g.slots g.code [] g.code refl v.code
