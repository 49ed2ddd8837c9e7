-- The least table that tells what is needed.
use Rattle.std.specs.Prelude.{ℕ, Bool, ◌<◌, ◌≤◌, ⊤, List}
use Rattle.std.specs.List.{AllByRecursion}
use Rattle.ec_ir.specs.Operations.{PlainIr, label, jump, branch_zero}
use Rattle.ec_ir.specs.Valid.{count}
use Rattle.ec_select_operations.specs.Needs.{Need, IsLive}

-- at the labels of the code, of the first places, no other table that tells all that is needed tells less
abbrev pub IsLeast : (in_flash : Bool) → ℕ → (ℕ → Need) → List PlainIr → Type 0
IsLeast in_flash slots at code =
    (other : ℕ → Need) → IsLive in_flash other code → (l : ℕ) → 1 ≤ count l code → (place : ℕ) → place < slots
    → at l place ≤ other l place

-- the labels that an operation names are below a number
abbrev pub HasLabel : ℕ → PlainIr → Type 0
HasLabel labels (label l) = l < labels
HasLabel labels (jump l) = l < labels
HasLabel labels (branch_zero t l) = l < labels
HasLabel labels i = ⊤

abbrev pub HaveLabels : ℕ → List PlainIr → Type 0
HaveLabels labels code = AllByRecursion (HasLabel labels) code
