-- What is told of the size of an array breaks the constraint on it, and the other way round.
use Rattle.std.proofs.Common.{◌≡◌, ◌+◌, ◌<◌, ℕ, Bool, true, false, ◌&&◌, List, [], ◌∷◌, refl, sym, subst, inl}
use Rattle.std.proofs.Common.{inr, arith}
use Rattle.std.specs.Prelude.{◌⊎◌, ◌↔◌, if◌then◌else◌, is_none, pos, int_le, unsigned_abs, Option, Some, None}
use Rattle.std.specs.Bool.{Decides}
use Rattle.std.proofs.lemmas.Bool.{false≢true}
use Rattle.ec_grammar.specs.Trees as t
use Rattle.ec_check_operands.specs.declared.faults.Fault.{Fault}
use Rattle.ec_check_operands.specs.Faults.{rule}
use Rattle.ec_check_operands.specs.Laws.{IsTold}
use Rattle.ec_check_operands.specs.Operands.{Operand}
use Rattle.ec_check_forms.specs.Nodes.{used}
use Rattle.ec_check_forms.specs.Sites.{a_use}
use Rattle.ec_check_names.specs.Firsts.{first_conditional}
use Rattle.ec_check_expressions.specs.Expressions.{of_conditional, conditional_sites}
use Rattle.ec_check_expressions.specs.Known.{Known}
use Rattle.ec_check_expressions.specs.Sites as expressions
use Rattle.ec_check_initialisers.specs.Forms.{is_constant_conditional}
use Rattle.ec_check_initialisers.specs.Locals.{items_count}
use Rattle.ec_check_initialisers.specs.Sites as initialisers
use Rattle.ec_check_initialisers.specs.Sizes.{size_of_number, size_of_operand, is_unsized}
use Rattle.ec_check_declarations.specs.Declarators.{given_size, shape_sites}
use Rattle.ec_check_declarations.specs.Sites.{initialiser_in}
use Rattle.ec_check_meanings.specs.Terms.{term_of_conditional}
use Rattle.ec_check_meanings.proofs.Options.{inside, nothing_there}
use Rattle.ec_check_parts.specs.ConstantForms.{IsConstantTerm}
use Rattle.ec_check_parts.specs.Declared.{IsSize}
use Rattle.ec_check_parts.specs.Sizes.{BreakSize, no_form, no_size, in_size, GivesNoSize, BreakShape}
use Rattle.ec_check_parts.specs.Laws.{TellAt}
use Rattle.ec_check_parts.proofs.ConstantForms.{constants_are_told}
use Rattle.ec_check_parts.proofs.Joined.{nowhere, at_one, like}
use Rattle.ec_check_parts.proofs.Nested.{IsToldIn, IsToldInside, inside_told, in_expressions}
use Rattle.ec_check_parts.proofs.Expressions.{ExpressionLaws, conditional_used, uses_conditional}
use Rattle.ec_check_parts.proofs.Numbers.{few, many, none_counted, size_is}

-- ---- sizes

-- an operand that is known and no size
abbrev HasNone : Operand → Type 0
HasNone x = (n : ℕ) → ¬ IsSize x n

abbrev IsNoSize : Option Operand → Type 0
IsNoSize o = (x : Operand) × (o ≡ Some x) × HasNone x

none_told : (x : Operand) → Decides (is_none (size_of_operand x)) (HasNone x)
none_told x = by (size_of_operand x) (size_is x)
  where
    by : (o : Option ℕ) → ((n : ℕ) → o ≡ Some n ↔ IsSize x n) → Decides (is_none o) (HasNone x)
    by None law = (λ e n h. nothing_there n ((law n).1 h), λ h. refl)
    by (Some n) law = (λ e. absurd (false≢true e), λ h. absurd (h n ((law n).0 refl)))

unsized_told : (o : Option Operand) → Decides (is_unsized o) (IsNoSize o)
unsized_told None = (λ e. absurd (false≢true e), λ h. absurd (nothing_there h.0 h.1))
unsized_told (Some y) =
    (λ e. (y, refl, (none_told y).0 e), λ h. (none_told y).1 (subst HasNone (sym (inside h.1)) h.2))

module _ (laws : ExpressionLaws) (k : Known) (c : t.Conditional) (at : ℕ) (f : Fault) where
  abbrev pub places_of : List expressions.Site
  places_of = conditional_sites k c (expressions.on (a_use (of_conditional k c) (first_conditional c)) ∷ [])

  abbrev sites_by : Bool → List initialisers.Site
  sites_by form =
      if form then initialisers.sites_in places_of (initialisers.a_size true (used (of_conditional k c)) at ∷ [])
      else initialisers.a_size false None at ∷ []

  abbrev Form : Type 0
  Form = IsConstantTerm k (term_of_conditional c)

  size_there : (form : Bool) → Decides form Form → IsToldInside (sites_by form) f → BreakSize k c at f
  size_there false d (inl (inl (b, a, r))) = no_form r a (λ h. false≢true (d.1 h))
  size_there false d (inl (inr h)) = absurd h
  size_there false d (inr h) = absurd h
  size_there true d h = by ((in_expressions places_of (initialisers.a_size true (used (of_conditional k c)) at ∷ []) f).0 h)
    where
      by : IsToldIn places_of f ⊎ IsToldInside (initialisers.a_size true (used (of_conditional k c)) at ∷ []) f → BreakSize k c at f
      by (inl t) = in_size (d.0 refl) ((conditional_used laws k c f).0 t)
      by (inr (inl (inl (b, a, r)))) =
          let n = (unsized_told (used (of_conditional k c))).0 b in
          no_size r a (d.0 refl) n.0 ((uses_conditional laws k c n.0).1 n.1) n.2
      by (inr (inl (inr h))) = absurd h
      by (inr (inr h)) = absurd h

  size_back : (form : Bool) → Decides form Form → BreakSize k c at f → IsToldInside (sites_by form) f
  size_back false d (no_form r a q) = inl (inl (refl, a, r))
  size_back true d (no_form r a q) = absurd (q (d.0 refl))
  size_back false d (no_size r a q x m n) = absurd (false≢true (d.1 q))
  size_back true d (no_size r a q x m n) =
      (in_expressions places_of (initialisers.a_size true (used (of_conditional k c)) at ∷ []) f).1
      (inr (inl (inl ((unsized_told (used (of_conditional k c))).1 (x, (uses_conditional laws k c x).0 m, n), a, r))))
  size_back false d (in_size q t) = absurd (false≢true (d.1 q))
  size_back true d (in_size q t) =
      (in_expressions places_of (initialisers.a_size true (used (of_conditional k c)) at ∷ []) f).1
      (inl ((conditional_used laws k c f).1 t))

  pub size_judged : IsToldInside (initialisers.size_sites k c at []) f ↔ BreakSize k c at f
  size_judged =
      let d = (constants_are_told laws.meanings k).conditionals c in
      (λ h. size_there (is_constant_conditional k c) d h, λ h. size_back (is_constant_conditional k c) d h)

-- ---- sizes that are left out

number_told : (n : ℕ) → Decides (is_none (size_of_number (pos (n + 1)))) (32_767 < n + 1)
number_told n = by (int_le (pos 1) (pos (n + 1))) (int_le (pos (n + 1)) (pos 32_767)) refl refl
  where
    by : (a b : Bool) → int_le (pos 1) (pos (n + 1)) ≡ a → int_le (pos (n + 1)) (pos 32_767) ≡ b
        → Decides (is_none (if a && b then Some (unsigned_abs (pos (n + 1))) else None)) (32_767 < n + 1)
    by true true d e = let most = few (n + 1) e in (λ q. absurd (false≢true q), λ q. absurd (omega (arith, most, q)))
    by true false d e = (λ q. many (n + 1) e, λ q. refl)
    by false b d e = let least = none_counted (n + 1) d in absurd (omega (arith, least))

open_told : (start : Option t.Start) → Decides (is_none (given_size start)) (GivesNoSize start)
open_told None = (λ e. tt, λ h. refl)
open_told (Some (t.start equals (t.initial_value a))) = (λ e. tt, λ h. refl)
open_told (Some (t.start equals (t.braces l first more c r))) = number_told (items_count more)

pub shape_judged : (laws : ExpressionLaws) (k : Known) (shape : t.Shape) (start : Option t.Start)
    → TellAt (shape_sites k shape start) (BreakShape k shape start)
shape_judged laws k t.object start = nowhere
shape_judged laws k (t.array l None r) start =
    at_one (rule 8 (is_none (given_size start)) l.index ∷ []) (BreakShape k (t.array l None r) start) (λ f. (there f, back f))
  where
    there : (f : Fault) → IsTold (rule 8 (is_none (given_size start)) l.index ∷ []) f
        → BreakShape k (t.array l None r) start f
    there f (inl (b, a, q)) = (q, a, (open_told start).0 b)
    there f (inr h) = absurd h

    back : (f : Fault) → BreakShape k (t.array l None r) start f
        → IsTold (rule 8 (is_none (given_size start)) l.index ∷ []) f
    back f (q, a, h) = inl ((open_told start).1 h, a, q)
shape_judged laws k (t.array l (Some c) r) start =
    like (initialiser_in (initialisers.size_sites k c l.index [])) (IsToldInside (initialisers.size_sites k c l.index []))
    (BreakShape k (t.array l (Some c) r) start) (λ f. (size_judged laws k c l.index f).0) (λ f. (size_judged laws k c l.index f).1)
    (inside_told (initialisers.size_sites k c l.index []))
shape_judged laws k (t.function_shape l ps r) start = nowhere
