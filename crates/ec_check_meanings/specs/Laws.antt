-- The walk over expressions gives what they mean.
use Rattle.std.specs.Prelude.{◌≡◌, ◌↔◌, ◌⊎◌, Some, List, [], ◌∷◌}
use Rattle.ec_grammar.specs.Trees as t
use Rattle.ec_check_operands.specs.declared.faults.Fault.{Fault}
use Rattle.ec_check_operands.specs.Laws.{IsTold}
use Rattle.ec_check_operands.specs.Operands.{Operand}
use Rattle.ec_check_forms.specs.Sites as operands
use Rattle.ec_check_expressions.specs.Expressions as e
use Rattle.ec_check_expressions.specs.Known.{Known}
use Rattle.ec_check_expressions.specs.Sites.{Site, on}
use Rattle.ec_check_meanings.specs.Means.{Means, HasNone}
use Rattle.ec_check_meanings.specs.NodeModes.{OperandHas}
use Rattle.ec_check_meanings.specs.Parts.{IsPart}
use Rattle.ec_check_meanings.specs.Rules.{IsBroken}
use Rattle.ec_check_meanings.specs.Sites.{SiteIn}
use Rattle.ec_check_meanings.specs.Terms.{Term, term_of_expression, term_of_assignment, term_of_conditional}

-- an expression means an operand, by the relation, exactly where the walk gives that operand; so do an assignment and a
-- conditional expression, which stand alone as initialisers and as sizes
pub record AreMeanings (k : Known) : Type 0 where
  pub expressions : (x : t.Expression) (o : Operand)
      → Means k (term_of_expression x) o ↔ e.of_expression k x ≡ Some o
  pub assignments : (x : t.Assignment) (o : Operand)
      → Means k (term_of_assignment x) o ↔ e.of_assignment k x ≡ Some o
  pub conditionals : (x : t.Conditional) (o : Operand)
      → Means k (term_of_conditional x) o ↔ e.of_conditional k x ≡ Some o

abbrev pub WalkGivesMeanings : Type 0
WalkGivesMeanings = (k : Known) → AreMeanings k

-- a part that means nothing leaves no meaning to what stands around it
abbrev pub BrokenPartsBreakAll : Type 0
BrokenPartsBreakAll = (k : Known) (x y : Term) → IsPart x y → HasNone k x → HasNone k y

-- each node of what an expression means has the mode that the states at its place say of its type
abbrev pub ModesAreSaid : Type 0
ModesAreSaid = (k : Known) (x : Term) (o : Operand) → Means k x o → OperandHas k.modes o

-- ---- sites

abbrev pub StandsIn : Site → List Site → Type 0
StandsIn s [] = ⊥
StandsIn s (x ∷ xs) = (s ≡ x) ⊎ StandsIn s xs

-- the places where the walk judges are those of the expression, and then the others
pub record AreJudged (k : Known) : Type 0 where
  pub expressions : (x : t.Expression) (rest : List Site) (s : Site)
      → StandsIn s (e.expression_sites k x rest) ↔ (SiteIn k (term_of_expression x) s ⊎ StandsIn s rest)
  pub assignments : (x : t.Assignment) (rest : List Site) (s : Site)
      → StandsIn s (e.assignment_sites k x rest) ↔ (SiteIn k (term_of_assignment x) s ⊎ StandsIn s rest)
  pub conditionals : (x : t.Conditional) (rest : List Site) (s : Site)
      → StandsIn s (e.conditional_sites k x rest) ↔ (SiteIn k (term_of_conditional x) s ⊎ StandsIn s rest)

abbrev pub SitesAreJudged : Type 0
SitesAreJudged = (k : Known) → AreJudged k

-- a fault that the walk tells where operands are judged in an expression
abbrev pub ToldInSites : Known → t.Expression → Fault → Type 0
ToldInSites k x f =
    (s : operands.Site) × StandsIn (on s) (e.expression_sites k x []) × IsTold (operands.rules_at s) f

-- what the walk tells there is exactly what breaks a constraint of the expression
abbrev pub ConstraintsAreTold : Type 0
ConstraintsAreTold =
    (k : Known) (x : t.Expression) (f : Fault) → ToldInSites k x f ↔ IsBroken k (term_of_expression x) f.at f.rule
