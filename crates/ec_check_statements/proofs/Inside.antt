-- What is told of an expression, a size or an initialiser, among other places.
use Rattle.std.proofs.Common.{◌≡◌, ◌∙◌, ℕ, refl, sym, ap, subst, List, [], ◌∷◌}
use Rattle.std.specs.Prelude.{Option}
use Rattle.ec_check_operands.specs.declared.faults.Fault.{Fault}
use Rattle.ec_check_operands.specs.Faults.{Judgement, rule, judged, all_judged}
use Rattle.ec_check_forms.specs.Nodes.{used, use_rules, part_rules, condition_rules}
use Rattle.ec_core.specs.Plain.{PlainType, PlainExpr}
use Rattle.ec_check_operands.specs.Operands.{Operand}
use Rattle.ec_check_operands.specs.Passing.{passing_rules}
use Rattle.ec_grammar.specs.Trees as t
use Rattle.ec_check_expressions.specs.Expressions.{of_expression, expression_sites}
use Rattle.ec_check_expressions.specs.Known.{Known}
use Rattle.ec_check_expressions.specs.Sites as expressions
use Rattle.ec_check_initialisers.specs.Locals.{leaf_values, leaf_sites}
use Rattle.ec_check_initialisers.specs.Sites as initialisers
use Rattle.ec_check_declarations.specs.Sites.{Site, on, told, expression_in, initialiser_in}
use Rattle.ec_check_statements.specs.Results.{returned_type, has_no_result}

told_in : (f : Option Fault) (ss : List expressions.Site) (rest : List Site)
    → told f (expression_in ss rest) ≡ told (expressions.told f ss) rest
told_in f [] rest = refl
told_in f (s ∷ ss) rest = told_in (all_judged f (expressions.rules_at s)) ss rest

told_in_initialiser : (f : Option Fault) (ss : List initialisers.Site) (rest : List Site)
    → told f (initialiser_in ss rest) ≡ told (initialisers.told f ss) rest
told_in_initialiser f [] rest = refl
told_in_initialiser f (s ∷ ss) rest = told_in_initialiser (all_judged f (initialisers.rules_at s)) ss rest

-- an expression that was walked, and what was judged of it then
pub walked_in : {A : Type 0} {f g h : Option Fault} {sites : List expressions.Site → List expressions.Site} {x v : A}
    (us : List expressions.Site)
    → expressions.Walked f g sites x v → h ≡ expressions.told g us → (rest : List Site)
    → told h rest ≡ told f (expression_in (sites us) rest)
walked_in {A} {f} {g} {h} {sites} us w e rest =
    ap (λ z. told z rest) (e ∙ w.noted us) ∙ sym (told_in f (sites us) rest)

-- an expression that was walked where this is known
pub known_as : {f g : Option Fault} {x : Option Operand} {k l : Known} (e : t.Expression) → k ≡ l
    → expressions.Walked f g (expression_sites k e) x (of_expression k e)
    → expressions.Walked f g (expression_sites l e) x (of_expression l e)
known_as {f} {g} {x} e same w = subst (λ (k : Known). expressions.Walked f g (expression_sites k e) x (of_expression k e)) same w

-- the same, where it was judged at a place of a statement
pub walked_and_judged : {A : Type 0} {f g h : Option Fault} {sites : List expressions.Site → List expressions.Site} {x v : A}
    (js : List Judgement)
    → expressions.Walked f g sites x v → h ≡ all_judged g js → (rest : List Site)
    → told h rest ≡ told f (expression_in (sites []) (on js ∷ rest))
walked_and_judged {A} {f} {g} {h} {sites} js w e rest =
    ap (λ z. told z rest) e ∙ walked_in [] w refl (on js ∷ rest)

-- an initialiser that was walked
pub walked_initialiser : {A : Type 0} {f g : Option Fault} {sites : List initialisers.Site → List initialisers.Site} {x v : A}
    → initialisers.Walked f g sites x v → (rest : List Site) → told g rest ≡ told f (initialiser_in (sites []) rest)
walked_initialiser {A} {f} {g} {sites} w rest =
    ap (λ z. told z rest) (w.noted []) ∙ sym (told_in_initialiser f (sites []) rest)

-- what is judged of a value that is used as a condition
pub used_and_tested : (g h i : Option Fault) (x v y : Option Operand) (at first word : ℕ) → h ≡ all_judged g (use_rules x at)
    → i ≡ all_judged h (condition_rules y word) → x ≡ v → y ≡ used x → at ≡ first
    → i ≡ all_judged (all_judged g (use_rules v first)) (condition_rules (used v) word)
used_and_tested g h i x v y at first word a b ex ey ea =
    b
    ∙ ap (λ z. all_judged z (condition_rules y word)) a
    ∙ ap (λ z. all_judged (all_judged g (use_rules x at)) (condition_rules z word)) ey
    ∙ ap (λ z. all_judged (all_judged g (use_rules z at)) (condition_rules (used z) word)) ex
    ∙ ap (λ z. all_judged (all_judged g (use_rules v z)) (condition_rules (used v) word)) ea

-- of one that is not used
pub unused_and_judged : (g h : Option Fault) (x v : Option Operand) (at first : ℕ) → h ≡ all_judged g (part_rules x at) → x ≡ v → at ≡ first
    → h ≡ all_judged g (part_rules v first)
unused_and_judged g h x v at first a ex ea =
    a
    ∙ ap (λ z. all_judged g (part_rules z at)) ex
    ∙ ap (λ z. all_judged g (part_rules v z)) ea

-- of one that is returned
pub returned_and_judged : (g h i : Option Fault) (x v : Option Operand) (to ty : Option PlainType) (at : ℕ)
    → h ≡ judged g (rule 39 (has_no_result ty) at)
    → i ≡ all_judged h (passing_rules x to at) → x ≡ v → to ≡ returned_type ty
    → i ≡ all_judged g (rule 39 (has_no_result ty) at ∷ passing_rules v (returned_type ty) at)
returned_and_judged g h i x v to ty at a b ex et =
    b
    ∙ ap (λ z. all_judged z (passing_rules x to at)) a
    ∙ ap (λ z. all_judged (judged g (rule 39 (has_no_result ty) at)) (passing_rules z to at)) ex
    ∙ ap (λ z. all_judged (judged g (rule 39 (has_no_result ty) at)) (passing_rules v z at)) et

-- an initialiser that was walked where this is known
pub known_as_initialiser : {f g : Option Fault} {x : Option (List PlainExpr)} {k l : Known} (i : t.Initialiser) (ty : Option PlainType)
    → k ≡ l
    → initialisers.Walked f g (leaf_sites k i ty) x (leaf_values k i ty)
    → initialisers.Walked f g (leaf_sites l i ty) x (leaf_values l i ty)
known_as_initialiser {f} {g} {x} i ty same w =
    subst (λ (k : Known). initialisers.Walked f g (leaf_sites k i ty) x (leaf_values k i ty)) same w
