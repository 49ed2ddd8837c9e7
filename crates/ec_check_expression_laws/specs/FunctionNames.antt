-- What is called: the name of a function, which may stand in parentheses (ISO/IEC 9899:1999, 6.5.1 and 6.5.2.2).
use Rattle.std.specs.Prelude.{ℕ, ◌≡◌, ◌↔◌, Option, Some, List, ◌∷◌}
use Rattle.ec_grammar.specs.declared.Spot.{Spot}
use Rattle.ec_grammar.specs.Trees as t
use Rattle.ec_core.specs.Plain.{PlainType}
use Rattle.ec_check_names.specs.Firsts.{first_postfix}
use Rattle.ec_check_names.specs.Names.{a_function, found}
use Rattle.ec_check_operands.specs.declared.faults.Fault.{Fault}
use Rattle.ec_check_operands.specs.Laws.{IsTold}
use Rattle.ec_check_expressions.specs.Expressions.{postfix_sites}
use Rattle.ec_check_expressions.specs.Known.{Known}
use Rattle.ec_check_expressions.specs.Sites.{Site, rules_at}

-- an expression that is a postfix expression and nothing else
abbrev pub alone : t.Postfix → t.Expression
alone p = t.single (t.value (t.plain (t.operand (t.uncast (t.postfix p)))))

-- a name, or one in parentheses
pub data IsName (n : t.Identifier) : t.Postfix → Type 0 where
  bare : IsName n (t.primary (t.name n))
  enclosed : (l : Spot) (p : t.Postfix) (r : Spot) → IsName n p → IsName n (t.primary (t.parenthesised l (alone p) r))

-- the name of a function, in parentheses or not
pub record IsFunctionName (k : Known) (p : t.Postfix) : Type 0 where
  pub spot : Spot
  pub name : List ℕ
  pub number : Option ℕ
  pub returns : Option PlainType
  pub params : Option (List PlainType)
  pub named : IsName (t.identifier spot name) p
  pub function : found name k.names ≡ Some (a_function number returns params)

-- the first site of a call of p, at which 21 and nothing else is told: at the first token of p, where p is not the name
-- of a function
pub record IsJudgedCall (k : Known) (p : t.Postfix) (l : Spot) (a : t.Arguments) (r : Spot) (rest : List Site) : Type 0 where
  pub site : Site
  pub others : List Site
  pub first : postfix_sites k (t.call p l a r) rest ≡ site ∷ others
  pub told : (f : Fault) → IsTold (rules_at site) f
      ↔ ((¬ IsFunctionName k p) × (f.at ≡ first_postfix p) × (f.rule ≡ 21))

-- nothing but functions is called, and those by their names
abbrev pub OnlyFunctionsAreCalled : Type 0
OnlyFunctionsAreCalled =
    (k : Known) (p : t.Postfix) (l : Spot) (a : t.Arguments) (r : Spot) (rest : List Site)
    → IsJudgedCall k p l a r rest
