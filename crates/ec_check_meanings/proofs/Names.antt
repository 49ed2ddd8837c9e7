-- What is called by its name.
use Rattle.std.proofs.Common.{◌≡◌, ◌∙◌, ℕ, List, refl, sym, ap, subst}
use Rattle.std.specs.Prelude.{Option, Some, None}
use Rattle.ec_grammar.specs.declared.Spot.{Spot}
use Rattle.ec_grammar.specs.declared.token.PunctKind.{PunctKind}
use Rattle.ec_grammar.specs.Trees as t
use Rattle.ec_core.specs.declared.expressions.BinOp.{BinOp}
use Rattle.ec_check_expressions.specs.Callees.{name_in_expression, name_in_assignment, name_in_conditional, name_in_binary, name_in_cast}
use Rattle.ec_check_expressions.specs.Callees.{name_in_unary, name_in_postfix, name_in_primary}
use Rattle.ec_check_expressions.specs.Tokens.{operator_of, compound_operator}
use Rattle.ec_check_meanings.specs.Means.{IsName, bare, enclosed}
use Rattle.ec_check_meanings.specs.Terms as term
use Rattle.ec_check_meanings.specs.Terms.{joined_term, stored_term, term_of_expression, term_of_assignment, term_of_conditional}
use Rattle.ec_check_meanings.specs.Terms.{term_of_binary, term_of_cast, term_of_unary, term_of_postfix, term_of_primary}
use Rattle.ec_check_meanings.proofs.Options.{inside, nothing_there}

-- the name that a term is
abbrev pub name_of : term.Term → Option (ℕ × List ℕ)
name_of (term.name at n) = Some (at, n)
name_of (term.parenthesised at x) = name_of x
name_of x = None

pub name_is : (at : ℕ) (n : List ℕ) (x : term.Term) → name_of x ≡ Some (at, n) → IsName at n x
name_is at n (term.name b o) e = subst (λ (z : ℕ × List ℕ). IsName z.0 z.1 (term.name b o)) (inside e) bare
name_is at n (term.parenthesised l x) e = enclosed (name_is at n x e)
name_is at n x e = cc

pub is_name : (at : ℕ) (n : List ℕ) (x : term.Term) → IsName at n x → name_of x ≡ Some (at, n)
is_name at n _ bare = refl
is_name at n _ (enclosed {x = x} h) = is_name at n x h

abbrev pub spelled : Option t.Identifier → Option (ℕ × List ℕ)
spelled None = None
spelled (Some (t.identifier s n)) = Some (s.index, n)

no_join : (o : Option BinOp) (op : PunctKind) (x y : term.Term) (at : ℕ) → name_of (joined_term o op x at y) ≡ None
no_join None op x y at = refl
no_join (Some o) op x y at = refl

no_store : (o : Option BinOp) (x y : term.Term) (at : ℕ) → name_of (stored_term o x at y) ≡ None
no_store None x y at = refl
no_store (Some o) x y at = refl

mutual
  of_expression : (x : t.Expression) → name_of (term_of_expression x) ≡ spelled (name_in_expression x)
  of_expression (t.single a) = of_assignment a
  of_expression (t.comma e s a) = refl

  of_assignment : (x : t.Assignment) → name_of (term_of_assignment x) ≡ spelled (name_in_assignment x)
  of_assignment (t.value c) = of_conditional c
  of_assignment (t.assign u s op a) = no_store (compound_operator op) (term_of_unary u) (term_of_assignment a) s.index

  of_conditional : (x : t.Conditional) → name_of (term_of_conditional x) ≡ spelled (name_in_conditional x)
  of_conditional (t.plain b) = of_binary b
  of_conditional (t.choose b q e s c) = refl

  of_binary : (x : t.Binary) → name_of (term_of_binary x) ≡ spelled (name_in_binary x)
  of_binary (t.operand c) = of_cast c
  of_binary (t.join a s op b) = no_join (operator_of op) op (term_of_binary a) (term_of_binary b) s.index

  of_cast : (x : t.Cast) → name_of (term_of_cast x) ≡ spelled (name_in_cast x)
  of_cast (t.uncast u) = of_unary u
  of_cast (t.convert l n r c) = refl

  of_unary : (x : t.Unary) → name_of (term_of_unary x) ≡ spelled (name_in_unary x)
  of_unary (t.postfix p) = of_postfix p
  of_unary (t.step s op u) = refl
  of_unary (t.prefix s op c) = refl
  of_unary (t.size s l n r) = refl

  pub of_postfix : (x : t.Postfix) → name_of (term_of_postfix x) ≡ spelled (name_in_postfix x)
  of_postfix (t.primary p) = of_primary p
  of_postfix (t.index p l e r) = refl
  of_postfix (t.call p l a r) = refl
  of_postfix (t.member p s op (t.identifier at n)) = refl
  of_postfix (t.stepped p s op) = refl

  of_primary : (x : t.Primary) → name_of (term_of_primary x) ≡ spelled (name_in_primary x)
  of_primary (t.name (t.identifier s n)) = refl
  of_primary (t.constant s c) = refl
  of_primary (t.parenthesised l e r) = of_expression e
  of_primary (t.operation s op l (t.identifier at n) more r) = refl

-- a name that stands before the arguments
pub called_name : (p : t.Postfix) (s : Spot) (n : List ℕ) → name_in_postfix p ≡ Some (t.identifier s n)
    → IsName s.index n (term_of_postfix p)
called_name p s n e = name_is s.index n (term_of_postfix p) (of_postfix p ∙ ap spelled e)

-- the identifier of a name
pub named_so : (p : t.Postfix) (at : ℕ) (n : List ℕ) → IsName at n (term_of_postfix p) → spelled (name_in_postfix p) ≡ Some (at, n)
named_so p at n h = sym (of_postfix p) ∙ is_name at n (term_of_postfix p) h

pub spelling_of : (z : Option t.Identifier) (at : ℕ) (n : List ℕ) → spelled z ≡ Some (at, n)
    → (s : Spot) × (z ≡ Some (t.identifier s n)) × (s.index ≡ at)
spelling_of None at n q = absurd (nothing_there (at, n) q)
spelling_of (Some (t.identifier s o)) at n q = (
  s,
  ap (λ (z : ℕ × List ℕ). Some (t.identifier s z.1)) (inside q),
  ap (λ (z : ℕ × List ℕ). z.0) (inside q),
)
