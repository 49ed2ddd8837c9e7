-- The sites of each production, in the order in which the walk comes to them.
use Rattle.std.proofs.Common.{◌≡◌, ◌∙◌, ℕ, ◌+◌, ◌-◌, List, [], ◌∷◌, refl, sym, ap, inl}
use Rattle.std.proofs.Common.{inr}
use Rattle.std.specs.Prelude.{◌⊎◌, ◌↔◌, Option, Some, None}
use Rattle.ec_grammar.specs.declared.token.PunctKind.{PunctKind}
use Rattle.ec_grammar.specs.Trees as t
use Rattle.ec_core.specs.declared.expressions.BinOp.{BinOp}
use Rattle.ec_check_names.specs.Firsts.{first_expression, first_assignment, first_conditional, first_binary, first_cast, first_unary}
use Rattle.ec_check_names.specs.Firsts.{first_postfix, first_primary}
use Rattle.ec_check_forms.specs.Nodes.{used}
use Rattle.ec_check_forms.specs.Sites.{a_use}
use Rattle.ec_check_operands.specs.Operands.{Operand}
use Rattle.ec_check_expressions.specs.Known.{Known}
use Rattle.ec_check_expressions.specs.Sites.{Site, on}
use Rattle.ec_check_expressions.specs.Tokens.{operator_of, compound_operator}
use Rattle.ec_check_meanings.specs.Laws.{StandsIn}
use Rattle.ec_check_meanings.specs.Sites.{SiteIn}
use Rattle.ec_check_meanings.specs.Terms.{Term, first, joined_term, stored_term, term_of_expression, term_of_assignment}
use Rattle.ec_check_meanings.specs.Terms.{term_of_conditional, term_of_binary, term_of_cast, term_of_unary, term_of_postfix}
use Rattle.ec_check_meanings.specs.Terms.{term_of_primary}
use Rattle.ec_check_meanings.proofs.Parts.{IsOf}
use Rattle.ec_check_meanings.proofs.Sites.{sees_of, of_sees, used_sees, of_used, Used, One, Two}

-- ---- first tokens

first_join : (o : Option BinOp) (op : PunctKind) (x y : Term) (at : ℕ) → first (joined_term o op x at y) ≡ first x
first_join None op x y at = refl
first_join (Some o) op x y at = refl

first_store : (o : Option BinOp) (x y : Term) (at : ℕ) → first (stored_term o x at y) ≡ first x
first_store None x y at = refl
first_store (Some o) x y at = refl

mutual
  pub expression_first : (x : t.Expression) → first (term_of_expression x) ≡ first_expression x
  expression_first (t.single a) = assignment_first a
  expression_first (t.comma e s a) = expression_first e

  pub assignment_first : (x : t.Assignment) → first (term_of_assignment x) ≡ first_assignment x
  assignment_first (t.value c) = conditional_first c
  assignment_first (t.assign u s op a) =
      first_store (compound_operator op) (term_of_unary u) (term_of_assignment a) s.index ∙ unary_first u

  pub conditional_first : (x : t.Conditional) → first (term_of_conditional x) ≡ first_conditional x
  conditional_first (t.plain b) = binary_first b
  conditional_first (t.choose b q e s c) = binary_first b

  pub binary_first : (x : t.Binary) → first (term_of_binary x) ≡ first_binary x
  binary_first (t.operand c) = cast_first c
  binary_first (t.join a s op b) = first_join (operator_of op) op (term_of_binary a) (term_of_binary b) s.index ∙ binary_first a

  pub cast_first : (x : t.Cast) → first (term_of_cast x) ≡ first_cast x
  cast_first (t.uncast u) = unary_first u
  cast_first (t.convert l n r c) = refl

  pub unary_first : (x : t.Unary) → first (term_of_unary x) ≡ first_unary x
  unary_first (t.postfix p) = postfix_first p
  unary_first (t.step s op u) = refl
  unary_first (t.prefix s op c) = refl
  unary_first (t.size s l n r) = refl

  pub postfix_first : (x : t.Postfix) → first (term_of_postfix x) ≡ first_postfix x
  postfix_first (t.primary p) = primary_first p
  postfix_first (t.index p l e r) = postfix_first p
  postfix_first (t.call p l a r) = postfix_first p
  postfix_first (t.member p s op (t.identifier at n)) = postfix_first p
  postfix_first (t.stepped p s op) = postfix_first p

  pub primary_first : (x : t.Primary) → first (term_of_primary x) ≡ first_primary x
  primary_first (t.name (t.identifier s n)) = refl
  primary_first (t.constant s c) = refl
  primary_first (t.parenthesised l e r) = refl
  primary_first (t.operation s op l (t.identifier at n) more r) = refl

module _ (k : Known) where
  -- ---- rows of sites

  -- what the walk lists for a term, before other sites
  abbrev pub Splits : Term → (List Site → List Site) → Type 0
  Splits x sites = (rest : List Site) (s : Site) → StandsIn s (sites rest) ↔ (SiteIn k x s ⊎ StandsIn s rest)

  -- a value that is used, behind the sites in it
  module _ (x : Term) (m : Option Operand) (at : ℕ) (sites : List Site → List Site) (h : IsOf k x m) (e : first x ≡ at)
      (f : Splits x sites) (rest : List Site) (s : Site) where
    pub used_out : StandsIn s (sites (on (a_use m at) ∷ rest)) → Used k x s ⊎ StandsIn s rest
    used_out z = by ((f (on (a_use m at) ∷ rest) s).0 z)
      where
        by : SiteIn k x s ⊎ ((s ≡ on (a_use m at)) ⊎ StandsIn s rest) → Used k x s ⊎ StandsIn s rest
        by (inl i) = inl (inl i)
        by (inr (inl q)) = inl (inr (m, sees_of k x m h, q ∙ ap (λ (n : ℕ). on (a_use m n)) (sym e)))
        by (inr (inr r)) = inr r

    pub used_in : Used k x s ⊎ StandsIn s rest → StandsIn s (sites (on (a_use m at) ∷ rest))
    used_in (inl (inl i)) = (f (on (a_use m at) ∷ rest) s).1 (inl i)
    used_in (inl (inr (n, see, q))) =
        (f (on (a_use m at) ∷ rest) s).1 (inr (inl (q ∙ ap (λ (z : Option Operand). on (a_use z (first x))) (of_sees k x m h n see)
        ∙ ap (λ (z : ℕ). on (a_use m z)) e)))
    used_in (inr r) = (f (on (a_use m at) ∷ rest) s).1 (inr (inr r))

  -- a form of one operand
  module _ (x : Term) (m : Option Operand) (at : ℕ) (sites : List Site → List Site) (h : IsOf k x m) (e : first x ≡ at)
      (f : Splits x sites) (P : Option Operand → Site) (node : Site) (g : P (used m) ≡ node) (rest : List Site) (s : Site) where
    pub one_out : StandsIn s (sites (on (a_use m at) ∷ node ∷ rest)) → One k x s P ⊎ StandsIn s rest
    one_out z = by (used_out x m at sites h e f (node ∷ rest) s z)
      where
        by : Used k x s ⊎ ((s ≡ node) ⊎ StandsIn s rest) → One k x s P ⊎ StandsIn s rest
        by (inl u) = inl (inl u)
        by (inr (inl q)) = inl (inr (used m, used_sees k x m h, q ∙ sym g))
        by (inr (inr r)) = inr r

    pub one_in : One k x s P ⊎ StandsIn s rest → StandsIn s (sites (on (a_use m at) ∷ node ∷ rest))
    one_in (inl (inl u)) = used_in x m at sites h e f (node ∷ rest) s (inl u)
    one_in (inl (inr (n, see, q))) = used_in x m at sites h e f (node ∷ rest) s (inr (inl (q ∙ ap P (of_used k x m h n see) ∙ g)))
    one_in (inr r) = used_in x m at sites h e f (node ∷ rest) s (inr (inr r))

  -- a form of two operands
  module _ (x y : Term) (m n : Option Operand) (at bt : ℕ) (sites others : List Site → List Site) (h : IsOf k x m) (h' : IsOf k y n)
      (e : first x ≡ at) (e' : first y ≡ bt) (f : Splits x sites) (f' : Splits y others) (P : Option Operand → Option Operand → Site)
      (rest : List Site) (s : Site) where
    abbrev tail : List Site
    tail = others (on (a_use n bt) ∷ P (used m) (used n) ∷ rest)

    pub two_out : StandsIn s (sites (on (a_use m at) ∷ tail)) → Two k x y s P ⊎ StandsIn s rest
    two_out z = by (used_out x m at sites h e f tail s z)
      where
        last : Used k y s ⊎ ((s ≡ P (used m) (used n)) ⊎ StandsIn s rest) → Two k x y s P ⊎ StandsIn s rest
        last (inl u) = inl (inr (inl u))
        last (inr (inl q)) = inl (inr (inr (used m, used n, used_sees k x m h, used_sees k y n h', q)))
        last (inr (inr r)) = inr r

        by : Used k x s ⊎ StandsIn s tail → Two k x y s P ⊎ StandsIn s rest
        by (inl u) = inl (inl u)
        by (inr r) = last (used_out y n bt others h' e' f' (P (used m) (used n) ∷ rest) s r)

    pub two_in : Two k x y s P ⊎ StandsIn s rest → StandsIn s (sites (on (a_use m at) ∷ tail))
    two_in (inl (inl u)) = used_in x m at sites h e f tail s (inl u)
    two_in (inl (inr (inl u))) = used_in x m at sites h e f tail s
        (inr (used_in y n bt others h' e' f' (P (used m) (used n) ∷ rest) s (inl u)))
    two_in (inl (inr (inr (a, b, see, seen, q)))) =
        used_in x m at sites h e f tail s (inr (used_in y n bt others h' e' f' (P (used m) (used n) ∷ rest) s (inr (inl
        (q ∙ ap (λ (z : Option Operand). P z b) (of_used k x m h a see) ∙ ap (P (used m)) (of_used k y n h' b seen))))))
    two_in (inr r) = used_in x m at sites h e f tail s (inr (used_in y n bt others h' e' f' (P (used m) (used n) ∷ rest) s (inr (inr r))))
