-- What is called is judged by its name.
use Rattle.std.proofs.Common.{◌≡◌, ◌∙◌, ℕ, Bool, true, false, not, refl, ap, subst, inl, inr, Option, Some, None, List}
use Rattle.std.specs.Prelude.{is_some}
use Rattle.std.proofs.lemmas.Bool.{false≢true}
use Rattle.ec_grammar.specs.declared.Spot.{Spot}
use Rattle.ec_grammar.specs.Trees as t
use Rattle.ec_check_names.specs.Firsts.{first_postfix}
use Rattle.ec_check_names.specs.Names.{Named, an_object, a_function, found}
use Rattle.ec_check_operands.specs.declared.faults.Fault.{Fault}
use Rattle.ec_check_operands.specs.Laws.{IsTold}
use Rattle.ec_check_expressions.specs.Callees.{name_in_expression, name_in_postfix, name_in_primary, function_named, called_by, callee}
use Rattle.ec_check_expressions.specs.Expressions.{callee_site}
use Rattle.ec_check_expressions.specs.Known.{Known}
use Rattle.ec_check_expressions.specs.Sites.{rules_at}
use Rattle.ec_check_expression_laws.specs.FunctionNames.{IsName, bare, enclosed, IsFunctionName, OnlyFunctionsAreCalled}

-- ---- names

mutual
  is_name : (p : t.Postfix) (n : t.Identifier) → name_in_postfix p ≡ Some n → IsName n p
  is_name (t.primary q) n e = primary_name q n e
  is_name (t.index p l x r) n e = cc
  is_name (t.call p l a r) n e = cc
  is_name (t.member p s op m) n e = cc
  is_name (t.stepped p s op) n e = cc

  primary_name : (q : t.Primary) (n : t.Identifier) → name_in_primary q ≡ Some n → IsName n (t.primary q)
  primary_name (t.name m) n e = let same : m ≡ n = cc in subst (λ (z : t.Identifier). IsName z (t.primary (t.name m))) same bare
  primary_name (t.constant s c) n e = cc
  primary_name (t.parenthesised l x r) n e = enclosed_name x n e l r
  primary_name (t.operation s op l m more r) n e = cc

  enclosed_name : (x : t.Expression) (n : t.Identifier) → name_in_expression x ≡ Some n → (l r : Spot)
      → IsName n (t.primary (t.parenthesised l x r))
  enclosed_name (t.single (t.value (t.plain (t.operand (t.uncast (t.postfix p)))))) n e l r = enclosed l p r (is_name p n e)
  enclosed_name (t.single (t.value (t.plain (t.operand (t.uncast (t.step s op u)))))) n e l r = cc
  enclosed_name (t.single (t.value (t.plain (t.operand (t.uncast (t.prefix s op c)))))) n e l r = cc
  enclosed_name (t.single (t.value (t.plain (t.operand (t.uncast (t.size s b ty d)))))) n e l r = cc
  enclosed_name (t.single (t.value (t.plain (t.operand (t.convert b ty d c))))) n e l r = cc
  enclosed_name (t.single (t.value (t.plain (t.join a s op b)))) n e l r = cc
  enclosed_name (t.single (t.value (t.choose b q x s c))) n e l r = cc
  enclosed_name (t.single (t.assign u s op a)) n e l r = cc
  enclosed_name (t.comma x s a) n e l r = cc

name_of : (n : t.Identifier) (p : t.Postfix) → IsName n p → name_in_postfix p ≡ Some n
name_of n _ bare = refl
name_of n _ (enclosed l p r h) = name_of n p h

-- ---- functions

module _ (k : Known) (p : t.Postfix) where
  by_meaning : (s : Spot) (n : List ℕ) → name_in_postfix p ≡ Some (t.identifier s n) → (what : Option Named) → found n k.names ≡ what
      → is_some (function_named s.index what) ≡ true → IsFunctionName k p
  by_meaning s n q None u h = absurd (false≢true h)
  by_meaning s n q (Some (an_object number ty konst space register)) u h = absurd (false≢true h)
  by_meaning s n q (Some (a_function number returns params)) u h = record {
    spot = s;
    name = n;
    number = number;
    returns = returns;
    params = params;
    named = is_name p (t.identifier s n) q;
    function = u;
  }

  by_name : (o : Option t.Identifier) → name_in_postfix p ≡ o → is_some (called_by k o) ≡ true → IsFunctionName k p
  by_name None q h = absurd (false≢true h)
  by_name (Some (t.identifier s n)) q h = by_meaning s n q (found n k.names) refl h

  is_function_name : is_some (callee k p) ≡ true → IsFunctionName k p
  is_function_name h = by_name (name_in_postfix p) refl h

  is_callee : IsFunctionName k p → is_some (callee k p) ≡ true
  is_callee f = ap (λ o. is_some (called_by k o)) (name_of (t.identifier f.spot f.name) p f.named)
      ∙ ap (λ what. is_some (function_named f.spot.index what)) f.function

  other : (b : Bool) → is_some (callee k p) ≡ b → not b ≡ true → ¬ IsFunctionName k p
  other true q h f = false≢true h
  other false q h f = let there = is_callee f in cc

  judged : (b : Bool) → is_some (callee k p) ≡ b → ¬ IsFunctionName k p → not b ≡ true
  judged true q h = absurd (h (is_function_name q))
  judged false q h = refl

pub only_functions_are_called : OnlyFunctionsAreCalled
only_functions_are_called k p l a r rest = record {
  site = callee_site k p;
  others = _;
  first = refl;
  told = λ f. (told_there f, λ h. inl (judged k p (is_some (callee k p)) refl h.0, h.1, h.2));
}
  where
    told_there : (f : Fault) → IsTold (rules_at (callee_site k p)) f
        → (¬ IsFunctionName k p) × (f.at ≡ first_postfix p) × (f.rule ≡ 21)
    told_there f (inl (b, at, rule)) = (other k p (is_some (callee k p)) refl b, at, rule)
    told_there f (inr h) = absurd h
