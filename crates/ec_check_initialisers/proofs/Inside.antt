-- What is told of an expression, among other places.
use Rattle.std.proofs.Common.{◌≡◌, ◌∙◌, refl, sym, ap, Bool, List, [], ◌∷◌}
use Rattle.std.specs.Prelude.{ℕ, Option}
use Rattle.ec_check_operands.specs.declared.faults.Fault.{Fault}
use Rattle.ec_check_operands.specs.Faults.{all_judged}
use Rattle.ec_core.specs.Plain.{PlainType, PlainExpr}
use Rattle.ec_check_forms.specs.Nodes.{used, use_rules}
use Rattle.ec_check_operands.specs.Operands.{Operand}
use Rattle.ec_check_operands.specs.Passing.{passing_rules}
use Rattle.ec_check_expressions.specs.Sites as expressions
use Rattle.ec_check_initialisers.specs.declared.places.ItemForm.{ItemForm}
use Rattle.ec_check_initialisers.specs.Items.{leaf_rules}
use Rattle.ec_check_initialisers.specs.Parts.{bare_rules}
use Rattle.ec_check_initialisers.specs.Sites.{Site, told, sites_in, a_bare, a_leaf}

told_in : (f : Option Fault) (ss : List expressions.Site) (rest : List Site) → told f (sites_in ss rest) ≡ told (expressions.told f ss) rest
told_in f [] rest = refl
told_in f (s ∷ ss) rest = told_in (all_judged f (expressions.rules_at s)) ss rest

-- an expression that was walked, and what was judged of it then
pub walked_in : {A : Type 0} {f g h : Option Fault} {sites : List expressions.Site → List expressions.Site} {x v : A}
    (us : List expressions.Site)
    → expressions.Walked f g sites x v → h ≡ expressions.told g us → (rest : List Site) → told h rest ≡ told f (sites_in (sites us) rest)
walked_in {A} {f} {g} {h} {sites} us w e rest =
    ap (λ z. told z rest) (e ∙ w.noted us) ∙ sym (told_in f (sites us) rest)

-- what is judged of an operand that is used and then brought to a type
pub used_and_judged : (g h i : Option Fault) (x v y : Option Operand) (to : Option PlainType) (at first : ℕ)
    → h ≡ all_judged g (use_rules x at) → i ≡ all_judged h (passing_rules y to at) → x ≡ v → y ≡ used x → at ≡ first
    → i ≡ all_judged (all_judged g (use_rules v first)) (passing_rules (used v) to first)
used_and_judged g h i x v y to at first a b ex ey ea =
    b
    ∙ ap (λ z. all_judged z (passing_rules y to at)) a
    ∙ ap (λ z. all_judged (all_judged g (use_rules x at)) (passing_rules z to at)) ey
    ∙ ap (λ z. all_judged (all_judged g (use_rules z at)) (passing_rules (used z) to at)) ex
    ∙ ap (λ z. all_judged (all_judged g (use_rules v z)) (passing_rules (used v) to z)) ea

-- what is judged of an item without braces, behind its expression
pub told_leaf : (f g h i : Option Fault) (sites : List Site → List Site) (ty : Option PlainType) (form : ItemForm) (z null : Bool)
    (e v : Option PlainExpr) (at first : ℕ)
    → ((rest : List Site) → told g rest ≡ told f (sites rest)) → h ≡ all_judged g (bare_rules ty at)
    → i ≡ all_judged h (leaf_rules form z e at) → z ≡ null → e ≡ v → at ≡ first
    → (rest : List Site) → told i rest ≡ told f (sites (a_bare ty first ∷ a_leaf form null v first ∷ rest))
told_leaf f g h i sites ty form z null e v at first w a b ez ee ea rest =
    ap (λ x. told x rest)
    (b
    ∙ ap (λ x. all_judged x (leaf_rules form z e at)) a
    ∙ ap (λ x. all_judged (all_judged g (bare_rules ty at)) (leaf_rules form x e at)) ez
    ∙ ap (λ x. all_judged (all_judged g (bare_rules ty at)) (leaf_rules form null x at)) ee
    ∙ ap (λ x. all_judged (all_judged g (bare_rules ty x)) (leaf_rules form null v x)) ea)
    ∙ w (a_bare ty first ∷ a_leaf form null v first ∷ rest)
