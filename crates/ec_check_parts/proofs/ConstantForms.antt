-- The form of a constant expression is told exactly where an expression is one.
use Rattle.std.proofs.Common.{◌≡◌, ℕ, Bool, true, false, not, ◌&&◌, refl, subst}
use Rattle.std.specs.Prelude.{Option, Some, None}
use Rattle.std.specs.Bool.{Decides}
use Rattle.std.proofs.lemmas.Bool.{false≢true}
use Rattle.std.proofs.lemmas.Bool.Decides.{Decides-and, Decides-like, Decides-not}
use Rattle.ec_grammar.specs.declared.token.PunctKind.{PunctKind}
use Rattle.ec_grammar.specs.declared.token.PunctKind.TheVariants as p
use Rattle.ec_grammar.specs.Trees as t
use Rattle.ec_core.specs.declared.expressions.BinOp.{BinOp}
use Rattle.ec_check_operands.specs.Operands.{Operand, value_type}
use Rattle.ec_check_operands.specs.Sorts.{is_pointer}
use Rattle.ec_check_forms.specs.Constraints.{IsPointer}
use Rattle.ec_check_forms.proofs.Decided.{pointers}
use Rattle.ec_check_expressions.specs.Expressions.{of_cast}
use Rattle.ec_check_expressions.specs.Known.{Known}
use Rattle.ec_check_expressions.specs.Tokens.{operator_of, compound_operator, prefix_operator}
use Rattle.ec_check_initialisers.specs.Forms as forms
use Rattle.ec_check_initialisers.specs.Forms.{is_value_operator, is_pointer_operand}
use Rattle.ec_check_meanings.specs.Laws.{WalkGivesMeanings}
use Rattle.ec_check_meanings.specs.Terms as term
use Rattle.ec_check_meanings.specs.Terms.{Term, joined_term, stored_term}
use Rattle.ec_check_parts.specs.ConstantForms.{IsValueOperator, MeansPointer, IsConstantTerm}
use Rattle.ec_check_parts.specs.Said.{ConstantsAreTold}

yes : {P : Type 0} → P → Decides true P
yes p = (λ e. p, λ h. refl)

no : {P : Type 0} → ¬ P → Decides false P
no n = (λ e. absurd (false≢true e), λ h. absurd (n h))

operator_told : (op : PunctKind) → Decides (is_value_operator op) (IsValueOperator (prefix_operator op))
operator_told p.Ampersand = no (λ h. h)
operator_told p.Star = no (λ h. h)
operator_told op = yes tt

module _ (meanings : WalkGivesMeanings) (k : Known) where
  -- a cast is a conditional expression
  alone : t.Cast → t.Conditional
  alone c = t.plain (t.operand c)

  pointer_told : (c : t.Cast) → Decides (is_pointer_operand (of_cast k c)) (MeansPointer k (term.term_of_cast c))
  unfolding alone
  pointer_told c = by (of_cast k c) refl
    where
      by : (o : Option Operand) → of_cast k c ≡ o → Decides (is_pointer_operand o) (MeansPointer k (term.term_of_cast c))
      by None e = no (λ h. none h.0 (((meanings k).conditionals (alone c) h.0).0 h.1))
        where
          none : (o : Operand) → of_cast k c ≡ Some o → ⊥
          none o q = cc
      by (Some o) e =
          Decides-like (is_pointer (value_type o)) (λ h. (o, ((meanings k).conditionals (alone c) o).1 e, h)) back (pointers (value_type o))
        where
          back : MeansPointer k (term.term_of_cast c) → IsPointer (value_type o)
          back (q, m, h) =
              let other : of_cast k c ≡ Some q = ((meanings k).conditionals (alone c) q).0 m in
              let same : q ≡ o = cc in
              subst (λ z. IsPointer (value_type z)) same h

  abbrev Told : Bool → Term → Type 0
  Told b x = Decides b (IsConstantTerm k x)

  joined_told : (o : Option BinOp) (op : PunctKind) (a b : Bool) (x : Term) (at : ℕ) (y : Term) → Told a x → Told b y
      → Told (a && b) (joined_term o op x at y)
  joined_told (Some o) op a b x at y h q = Decides-and a b h q
  joined_told None op a b x at y h q = Decides-and a b h q

  -- no assignment is one
  stored_told : (o : Option BinOp) (x : Term) (at : ℕ) (y : Term) → Told false (stored_term o x at y)
  stored_told (Some o) x at y = no (λ h. h)
  stored_told None x at y = no (λ h. h)

  three_told : (a b c : Bool) (w x y : Term) (at : ℕ) → Told a w → Told b x → Told c y
      → Told (a && (b && c)) (term.choice w at x y)
  three_told a b c w x y at h q r =
      Decides-like (a && (b && c)) (λ z. (z.0, z.1.0, z.1.1)) (λ z. (z.0, (z.1, z.2))) (Decides-and a (b && c) h (Decides-and b c q r))

  mutual
    expression_told : (x : t.Expression) → Told (forms.is_constant_expression k x) (term.term_of_expression x)
    expression_told (t.single a) = assignment_told a
    expression_told (t.comma e s a) = no (λ h. h)

    assignment_told : (x : t.Assignment) → Told (forms.is_constant_assignment k x) (term.term_of_assignment x)
    assignment_told (t.value c) = conditional_told c
    assignment_told (t.assign u s op a) = stored_told (compound_operator op) (term.term_of_unary u) s.index (term.term_of_assignment a)

    conditional_told : (x : t.Conditional) → Told (forms.is_constant_conditional k x) (term.term_of_conditional x)
    conditional_told (t.plain b) = binary_told b
    conditional_told (t.choose b q e s c) =
        three_told (forms.is_constant_binary k b) (forms.is_constant_expression k e) (forms.is_constant_conditional k c)
        (term.term_of_binary b) (term.term_of_expression e) (term.term_of_conditional c) q.index (binary_told b) (expression_told e)
        (conditional_told c)

    binary_told : (x : t.Binary) → Told (forms.is_constant_binary k x) (term.term_of_binary x)
    binary_told (t.operand c) = cast_told c
    binary_told (t.join a s op b) =
        joined_told (operator_of op) op (forms.is_constant_binary k a) (forms.is_constant_binary k b) (term.term_of_binary a) s.index
        (term.term_of_binary b) (binary_told a) (binary_told b)

    cast_told : (x : t.Cast) → Told (forms.is_constant_cast k x) (term.term_of_cast x)
    cast_told (t.uncast u) = unary_told u
    cast_told (t.convert l n r c) =
        let pointer = is_pointer_operand (of_cast k (t.convert l n r c)) in
        Decides-and (forms.is_constant_cast k c) (not pointer) (cast_told c) (Decides-not pointer (pointer_told (t.convert l n r c)))

    unary_told : (x : t.Unary) → Told (forms.is_constant_unary k x) (term.term_of_unary x)
    unary_told (t.postfix q) = postfix_told q
    unary_told (t.step s op u) = no (λ h. h)
    unary_told (t.prefix s op c) = Decides-and (is_value_operator op) (forms.is_constant_cast k c) (operator_told op) (cast_told c)
    unary_told (t.size s l n r) = yes tt

    postfix_told : (x : t.Postfix) → Told (forms.is_constant_postfix k x) (term.term_of_postfix x)
    postfix_told (t.primary q) = primary_told q
    postfix_told (t.index q l e r) = no (λ h. h)
    postfix_told (t.call q l a r) = no (λ h. h)
    postfix_told (t.member q s op (t.identifier at n)) = no (λ h. h)
    postfix_told (t.stepped q s op) = no (λ h. h)

    primary_told : (x : t.Primary) → Told (forms.is_constant_primary k x) (term.term_of_primary x)
    primary_told (t.name (t.identifier at n)) = no (λ h. h)
    primary_told (t.constant s c) = yes tt
    primary_told (t.parenthesised l e r) = expression_told e
    primary_told (t.operation s op l (t.identifier at n) more r) = no (λ h. h)

pub constants_are_told : WalkGivesMeanings → ConstantsAreTold
constants_are_told meanings k = record {
  expressions = expression_told meanings k;
  assignments = assignment_told meanings k;
  conditionals = conditional_told meanings k;
}
