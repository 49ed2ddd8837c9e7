-- Walks one after another.
use Rattle.std.proofs.Common.{◌≡◌, ◌∙◌, ℕ, ap, subst, List, ◌∷◌}
use Rattle.std.specs.Prelude.{Option}
use Rattle.ec_core.specs.Plain.{PlainType}
use Rattle.ec_check_operands.specs.Faults.{all_judged}
use Rattle.ec_grammar.specs.Trees as t
use Rattle.ec_check_names.specs.Tags.{Tags}
use Rattle.ec_check_operands.specs.declared.operands.Modes.{Modes}
use Rattle.ec_check_forms.specs.Choices.{cast, cast_rules}
use Rattle.ec_check_operands.specs.Operands.{Operand, with_both}
use Rattle.ec_check_forms.specs.Sites.{a_cast}
use Rattle.ec_check_expressions.specs.Types.{meant_type}
use Rattle.ec_check_expressions.specs.TypeNames.{said_type, void_said}
use Rattle.ec_check_operands.specs.declared.faults.Fault.{Fault}
use Rattle.ec_check_expressions.specs.Sites.{Site, on, a_type_name, told, Walked}

-- what is told of one part and then of a form with it
pub then : {A B : Type 0} {f g h : Option Fault} {first : List Site → List Site} {x v : A} {z : B} (second : A → List Site → List Site)
    (form : A → B) → Walked f g first x v → Walked g h (second x) z (form x) → Walked f h (λ rest. first (second v rest)) z (form v)
then {A} {B} {f} {g} {h} {first} {x} {v} {z} second form a b =
    let c = subst (λ (y : A). Walked g h (second y) z (form y)) a.meant b in
    record { meant = c.meant; noted = λ rest. c.noted rest ∙ a.noted (second v rest) }

-- a cast, whose type name was judged before
pub cast_walked : {f g h : Option Fault} (tags : Tags) (name : t.TypeName) (at : ℕ)
    (m : Modes) {ty : Option PlainType} {at_void : Option ℕ} {a z : Option Operand} → ty ≡ said_type tags name
    → at_void ≡ void_said tags name → ((rest : List Site) → told g rest ≡ told f (a_type_name tags name ∷ rest))
    → h ≡ all_judged g (cast_rules ty a at) → z ≡ with_both (meant_type at_void ty) a (cast m) → Walked f h (λ rest. a_type_name tags name
    ∷ on (a_cast (said_type tags name) a at) ∷ rest) z (with_both (meant_type (void_said tags name) (said_type tags name)) a (cast m))
cast_walked {f} {g} {h} tags name at m {ty} {at_void} {a} {z} typed void judged noted meant =
    let n = subst (λ (u : Option PlainType). h ≡ all_judged g (cast_rules u a at)) typed noted in
    let m1 = subst (λ (u : Option ℕ). z ≡ with_both (meant_type u ty) a (cast m)) void meant in
    let m2 = subst (λ (u : Option PlainType). z ≡ with_both (meant_type (void_said tags name) u) a (cast m)) typed m1 in
    record { meant = m2; noted = λ rest. ap (λ u. told u rest) n ∙ judged (on (a_cast (said_type tags name) a at) ∷ rest) }
