-- The places of declarations and statements where rules are judged, and what is told there.
use Rattle.std.specs.Prelude.{◌≡◌, Bool, is_some, Option, None, List, [], ◌∷◌}
use Rattle.ec_check_operands.specs.declared.faults.Fault.{Fault}
use Rattle.ec_check_operands.specs.Faults.{Judgement, all_judged}
use Rattle.ec_check_expressions.specs.Sites as expressions
use Rattle.ec_check_initialisers.specs.Sites as initialisers

pub data Site : Type 0 where
  -- a place in an expression
  in_expression : expressions.Site → Site
  -- a place in the size of an array, or in an initialiser
  in_initialiser : initialisers.Site → Site
  -- a place of a declaration or a statement, with the rules that are judged there
  on : List Judgement → Site

abbrev pub rules_at : Site → List Judgement
rules_at (in_expression s) = expressions.rules_at s
rules_at (in_initialiser s) = initialisers.rules_at s
rules_at (on js) = js

-- the least fault of one that is known and those at some sites
abbrev pub told : Option Fault → List Site → Option Fault
told known [] = known
told known (s ∷ ss) = told (all_judged known (rules_at s)) ss

-- a rule is broken at one of some sites
abbrev pub is_told : List Site → Bool
is_told ss = is_some (told None ss)

-- the places of an expression, and then others
abbrev pub expression_in : List expressions.Site → List Site → List Site
expression_in [] rest = rest
expression_in (s ∷ ss) rest = in_expression s ∷ expression_in ss rest

-- the places of a size or of an initialiser, and then others
abbrev pub initialiser_in : List initialisers.Site → List Site → List Site
initialiser_in [] rest = rest
initialiser_in (s ∷ ss) rest = in_initialiser s ∷ initialiser_in ss rest

-- What walking a part of a tree does: it gives what the part means, and what was told so far becomes what was told
-- before and what is told at the part's sites, whatever other sites follow.
pub record Walked {A : Type 0} (old new : Option Fault) (sites : List Site → List Site) (x meaning : A) : Type 0 where
  pub meant : x ≡ meaning
  pub noted : (rest : List Site) → told new rest ≡ told old (sites rest)
