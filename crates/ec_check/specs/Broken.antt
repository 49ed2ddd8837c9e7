-- Which constraints units break, each at a token of a unit, and the least of these by unit, token and number.
use Rattle.std.specs.Prelude.{ℕ, ◌+◌, ◌<◌, ◌≤◌, ◌≡◌, ◌⊎◌, ◌↔◌, Option, Some, None, List, [], ◌∷◌, slice_get}
use Rattle.ec_grammar.specs.Trees as t
use Rattle.ec_iohw.specs.declared.table.IoTable.{IoTable}
use Rattle.ec_check_names.specs.Definitions.{Definition, definitions}
use Rattle.ec_check_declarations.specs.Sites.{Site}
use Rattle.ec_check_file_scope.specs.States.{State, nothing_declared}
use Rattle.ec_check_least.specs.Told.{IsToldAt}
use Rattle.ec_check_parts.specs.Parts.{Part, Breaks}
use Rattle.ec_check_parts.specs.Units.{Stands}
use Rattle.ec_check.specs.Units.{unit_sites, setting_of, is_last, after_unit, UnitFault, least_fault}

-- a part stands in the unit, and breaks the constraint with this number, which is told at the token
pub record IsBroken (us : List t.Tree) (io : IoTable) (unit token rule : ℕ) : Type 0 where
  pub part : Part
  pub stands : Stands us io unit part
  pub breaks : Breaks part (record { at = token; rule = rule })

abbrev pub NothingIsBroken : List t.Tree → IoTable → Type 0
NothingIsBroken us io = (unit token rule : ℕ) → ¬ IsBroken us io unit token rule

-- a unit, a token and a rule come no later than others, by unit, then by token, then by rule
abbrev pub ComesNoLater : (unit token rule : ℕ) → (other_unit other_token other_rule : ℕ) → Type 0
ComesNoLater unit token rule u t r =
    (unit < u) ⊎ ((unit ≡ u) × ((token < t) ⊎ ((token ≡ t) × (rule ≤ r))))

-- the rule is broken there, and none that is broken comes before it
pub record IsLeastBroken (us : List t.Tree) (io : IoTable) (unit token rule : ℕ) : Type 0 where
  pub broken : IsBroken us io unit token rule
  pub first : (u t r : ℕ) → IsBroken us io u t r → ComesNoLater unit token rule u t r

-- ---- what the walk tells

-- the places of each unit where the walk judges, in the order of the units, the first of which has this number
abbrev pub sites_from : List Definition → IoTable → (unit : ℕ) → List t.Tree → State → List (List Site)
sites_from ds io unit [] s = []
sites_from ds io unit (u ∷ us) s =
    unit_sites (setting_of ds io unit) (is_last us) u s []
    ∷ sites_from ds io (unit + 1) us (after_unit (setting_of ds io unit) u s)

abbrev pub sites_of : List t.Tree → IoTable → List (List Site)
sites_of us io = sites_from (definitions us) io 0 us nothing_declared

-- a fault is told at one of the places of the unit with a number
pub record IsToldInUnit (us : List t.Tree) (io : IoTable) (unit token rule : ℕ) : Type 0 where
  pub places : List Site
  pub stand : slice_get (sites_of us io) unit ≡ Some places
  pub told : IsToldAt places (record { at = token; rule = rule })

-- ---- laws

abbrev pub IsLeastOf : List t.Tree → IoTable → Option UnitFault → Type 0
IsLeastOf us io None = NothingIsBroken us io
IsLeastOf us io (Some f) = IsLeastBroken us io f.unit f.fault.at f.fault.rule

-- what the walk tells is exactly what is broken; what it finds is the least of that; and of that there is one
pub record LeastIsFound : Type 0 where
  pub told : (us : List t.Tree) (io : IoTable) (unit token rule : ℕ)
      → IsToldInUnit us io unit token rule ↔ IsBroken us io unit token rule
  pub found : (us : List t.Tree) (io : IoTable) → IsLeastOf us io (least_fault us io)
  pub nothing : (us : List t.Tree) (io : IoTable) → NothingIsBroken us io → least_fault us io ≡ None
  pub only : (us : List t.Tree) (io : IoTable) (unit token rule : ℕ) → IsLeastBroken us io unit token rule
      → least_fault us io ≡ Some (record { unit = unit; fault = record { at = token; rule = rule } })
