-- Walks one after another.
use Rattle.std.proofs.Common.{◌∙◌, subst, List}
use Rattle.std.specs.Prelude.{Option}
use Rattle.ec_check_operands.specs.declared.faults.Fault.{Fault}
use Rattle.ec_check_declarations.specs.Sites.{Site, Walked}

-- what is told of one part, and then of what it gives
pub then : {A B : Type 0} {f g h : Option Fault} {first : List Site → List Site} {x v : A} {z : B}
    (second : A → List Site → List Site) (form : A → B)
    → Walked f g first x v → Walked g h (second x) z (form x) → Walked f h (λ rest. first (second v rest)) z (form v)
then {A} {B} {f} {g} {h} {first} {x} {v} {z} second form a b =
    let c = subst (λ (y : A). Walked g h (second y) z (form y)) a.meant b in
    record { meant = c.meant; noted = λ rest. c.noted rest ∙ a.noted (second v rest) }
