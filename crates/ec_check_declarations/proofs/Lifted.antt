-- What is told of an expression, of a size or of an initialiser, among other places.
use Rattle.std.proofs.Common.{◌≡◌, ◌∙◌, refl, sym, ap, List, [], ◌∷◌}
use Rattle.std.specs.Prelude.{Option}
use Rattle.ec_check_operands.specs.declared.faults.Fault.{Fault}
use Rattle.ec_check_operands.specs.Faults.{all_judged}
use Rattle.ec_check_expressions.specs.Sites as expressions
use Rattle.ec_check_initialisers.specs.Sites as initialisers
use Rattle.ec_check_declarations.specs.Sites.{Site, told, expression_in, initialiser_in, Walked}

pub told_expression : (f : Option Fault) (ss : List expressions.Site) (rest : List Site)
    → told f (expression_in ss rest) ≡ told (expressions.told f ss) rest
told_expression f [] rest = refl
told_expression f (s ∷ ss) rest = told_expression (all_judged f (expressions.rules_at s)) ss rest

pub told_initialiser : (f : Option Fault) (ss : List initialisers.Site) (rest : List Site)
    → told f (initialiser_in ss rest) ≡ told (initialisers.told f ss) rest
told_initialiser f [] rest = refl
told_initialiser f (s ∷ ss) rest = told_initialiser (all_judged f (initialisers.rules_at s)) ss rest

-- an expression that was walked
pub expression_walked : {A : Type 0} {f g : Option Fault} {sites : List expressions.Site → List expressions.Site} {x v : A}
    → expressions.Walked f g sites x v → Walked f g (expression_in (sites [])) x v
expression_walked {A} {f} {g} {sites} w =
    record {
      meant = w.meant;
      noted = λ rest. ap (λ z. told z rest) (w.noted []) ∙ sym (told_expression f (sites []) rest);
    }

-- a size or an initialiser that was walked
pub initialiser_walked : {A : Type 0} {f g : Option Fault} {sites : List initialisers.Site → List initialisers.Site} {x v : A}
    → initialisers.Walked f g sites x v → Walked f g (initialiser_in (sites [])) x v
initialiser_walked {A} {f} {g} {sites} w =
    record {
      meant = w.meant;
      noted = λ rest. ap (λ z. told z rest) (w.noted []) ∙ sym (told_initialiser f (sites []) rest);
    }
