-- What is told at the places of declarations and statements where rules are judged, and the least of it.
use Rattle.std.specs.Prelude.{◌⊎◌, Option, Some, None, List, [], ◌∷◌}
use Rattle.ec_check_operands.specs.declared.faults.Fault.{Fault}
use Rattle.ec_check_operands.specs.Laws.{IsTold, ComesFirst}
use Rattle.ec_check_declarations.specs.Sites.{Site, rules_at, told}

-- a fault is told at one of some places
abbrev pub IsToldAt : List Site → Fault → Type 0
IsToldAt [] f = ⊥
IsToldAt (s ∷ ss) f = IsTold (rules_at s) f ⊎ IsToldAt ss f

-- the least fault that is told at some places, or none where none is
abbrev pub IsLeastToldAt : List Site → Option Fault → Type 0
IsLeastToldAt ss None = (f : Fault) → ¬ IsToldAt ss f
IsLeastToldAt ss (Some f) = IsToldAt ss f × ((g : Fault) → IsToldAt ss g → ComesFirst f g)

abbrev pub LeastIsTold : Type 0
LeastIsTold = (ss : List Site) → IsLeastToldAt ss (told None ss)
