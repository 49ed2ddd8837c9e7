-- The places of an expression where rules are judged, and what is told there.
use Rattle.std.specs.Prelude.{◌≡◌, Option, List, [], ◌∷◌}
use Rattle.ec_check_operands.specs.declared.faults.Fault.{Fault}
use Rattle.ec_check_operands.specs.Faults.{Judgement, all_judged}
use Rattle.ec_grammar.specs.Trees as t
use Rattle.ec_check_names.specs.Tags.{Tags}
use Rattle.ec_check_forms.specs.Sites as operands
use Rattle.ec_check_expressions.specs.TypeNames.{type_name_rules}

pub data Site : Type 0 where
  -- where operands are judged
  on : operands.Site → Site
  -- a type name, where these tags are known
  a_type_name : Tags → t.TypeName → Site

-- the rules that are judged there
abbrev pub rules_at : Site → List Judgement
rules_at (on s) = operands.rules_at s
rules_at (a_type_name tags n) = type_name_rules tags n []

-- the least fault of one that is known and those at some sites
abbrev pub told : Option Fault → List Site → Option Fault
told known [] = known
told known (s ∷ ss) = told (all_judged known (rules_at s)) ss

-- What walking a part of a tree does: it gives what the part means, and what was told so far becomes what was told
-- before and what is told at the part's sites, whatever other sites follow.
pub record Walked {A : Type 0} (old new : Option Fault) (sites : List Site → List Site) (x meaning : A) : Type 0 where
  pub meant : x ≡ meaning
  pub noted : (rest : List Site) → told new rest ≡ told old (sites rest)
