-- The places of sizes and initialisers where rules are judged, and what is told there.
use Rattle.std.specs.Prelude.{ℕ, Bool, true, false, if◌then◌else◌, ◌≡◌, Option, None, List, [], ◌∷◌}
use Rattle.ec_check_operands.specs.declared.faults.Fault.{Fault}
use Rattle.ec_check_operands.specs.Faults.{Judgement, all_judged}
use Rattle.ec_grammar.specs.Trees as t
use Rattle.ec_check_names.specs.Firsts.{first_conditional}
use Rattle.ec_core.specs.Plain.{PlainType, PlainStruct, PlainExpr}
use Rattle.ec_check_operands.specs.Operands.{Operand}
use Rattle.ec_check_forms.specs.Nodes.{used}
use Rattle.ec_check_forms.specs.Sites.{a_use}
use Rattle.ec_check_expressions.specs.Expressions.{of_conditional, conditional_sites}
use Rattle.ec_check_expressions.specs.Known.{Known}
use Rattle.ec_check_expressions.specs.Sites as expressions
use Rattle.ec_check_initialisers.specs.Forms.{is_constant_conditional}
use Rattle.ec_check_initialisers.specs.declared.places.ItemForm.{ItemForm}
use Rattle.ec_check_initialisers.specs.Items.{leaf_rules}
use Rattle.ec_check_initialisers.specs.Parts.{bare_rules, braces_rules}
use Rattle.ec_check_initialisers.specs.Sizes.{size_rules}

pub data Site : Type 0 where
  -- a place in an expression
  in_expression : expressions.Site → Site
  -- the size of an array, which has the form of a constant expression or not, at `[`
  a_size : (form : Bool) → Option Operand → (at : ℕ) → Site
  -- an initialiser without braces of an object of a type, at its first token
  a_bare : Option PlainType → (at : ℕ) → Site
  -- an initialiser with so many items in braces, at `{`
  braces : List PlainStruct → Option PlainType → (count at : ℕ) → Site
  -- an item of an initialiser of a static object, with its form and its value in the leaf's type, which is the null
  -- pointer or not, at its first token
  a_leaf : ItemForm → (null : Bool) → Option PlainExpr → (at : ℕ) → Site

-- the rules that are judged there
abbrev pub rules_at : Site → List Judgement
rules_at (in_expression s) = expressions.rules_at s
rules_at (a_size form x at) = size_rules form x at
rules_at (a_bare ty at) = bare_rules ty at
rules_at (braces structs ty count at) = braces_rules structs ty count at
rules_at (a_leaf form null e at) = leaf_rules form null e at

-- the least fault of one that is known and those at some sites
abbrev pub told : Option Fault → List Site → Option Fault
told known [] = known
told known (s ∷ ss) = told (all_judged known (rules_at s)) ss

-- the places of an expression, and then others
abbrev pub sites_in : List expressions.Site → List Site → List Site
sites_in [] rest = rest
sites_in (s ∷ ss) rest = in_expression s ∷ sites_in ss rest

-- What walking a part of a tree does: it gives what the part means, and what was told so far becomes what was told
-- before and what is told at the part's sites, whatever other sites follow.
pub record Walked {A : Type 0} (old new : Option Fault) (sites : List Site → List Site) (x meaning : A) : Type 0 where
  pub meant : x ≡ meaning
  pub noted : (rest : List Site) → told new rest ≡ told old (sites rest)

-- the size of an array; what has not the form of a constant expression is not looked into
abbrev pub size_sites : Known → t.Conditional → (at : ℕ) → List Site → List Site
size_sites k c at rest =
    if is_constant_conditional k c
    then sites_in
    (conditional_sites k c (expressions.on (a_use (of_conditional k c) (first_conditional c)) ∷ []))
    (a_size true (used (of_conditional k c)) at ∷ rest) else a_size false None at ∷ rest
