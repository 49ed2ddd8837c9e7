-- What is kept of judgements.
use Rattle.std.specs.Prelude.{◌<◌, ◌≤◌, ◌≡◌, ◌⊎◌, IsTrue, Option, Some, None, List, [], ◌∷◌, ◌++◌}
use Rattle.ec_check_operands.specs.declared.faults.Fault.{Fault}
use Rattle.ec_check_operands.specs.Faults.{Judgement, all_judged}

-- a judgement tells a fault
abbrev pub Tells : Judgement → Fault → Type 0
Tells j f = IsTrue j.broken × (f.at ≡ j.at) × (f.rule ≡ j.rule)

-- one of the judgements tells it
abbrev pub IsTold : List Judgement → Fault → Type 0
IsTold [] f = ⊥
IsTold (j ∷ js) f = Tells j f ⊎ IsTold js f

-- a fault comes no later than another, by its token and then by its rule
abbrev pub ComesFirst : Fault → Fault → Type 0
ComesFirst f g = (f.at < g.at) ⊎ ((f.at ≡ g.at) × (f.rule ≤ g.rule))

-- the least fault that judgements tell, or none where they tell none
abbrev pub IsLeastTold : List Judgement → Option Fault → Type 0
IsLeastTold js None = (f : Fault) → ¬ IsTold js f
IsLeastTold js (Some f) = IsTold js f × ((g : Fault) → IsTold js g → ComesFirst f g)

abbrev pub LeastIsKept : Type 0
LeastIsKept = (js : List Judgement) → IsLeastTold js (all_judged None js)

abbrev pub JudgementsAddUp : Type 0
JudgementsAddUp =
    (known : Option Fault) (js ks : List Judgement) → all_judged known (js ++ ks) ≡ all_judged (all_judged known js) ks
