-- An expression has just the sites where the walk judges.
use Rattle.std.proofs.Common.{◌≡◌, ◌∙◌, ℕ, suc, Bool, true, false, ◌+◌, ◌-◌, List, [], ◌∷◌, length, refl, sym, ap, subst, inl}
use Rattle.std.proofs.Common.{inr, arith}
use Rattle.std.specs.Prelude.{◌⊎◌, ◌↔◌, ⊤, is_some, Option, Some, None}
use Rattle.ec_grammar.specs.declared.Operation.{Operation}
use Rattle.ec_grammar.specs.declared.Operation.TheVariants as operations
use Rattle.ec_grammar.specs.declared.Spot.{Spot}
use Rattle.ec_grammar.specs.declared.token.GroupOp.TheVariants as groups
use Rattle.ec_grammar.specs.declared.token.PunctKind.{PunctKind}
use Rattle.ec_grammar.specs.Trees as t
use Rattle.ec_core.specs.declared.expressions.BinOp.{BinOp}
use Rattle.ec_core.specs.Laws.{TypesAreTold}
use Rattle.ec_core.specs.Plain.{PlainType}
use Rattle.ec_check_names.specs.Names.{Named, an_object, a_function, found}
use Rattle.ec_check_names.specs.Firsts.{first_assignment, first_postfix}
use Rattle.ec_check_forms.specs.declared.ports.Binding.{Binding}
use Rattle.ec_check_forms.specs.Calls.{port_named, group_named}
use Rattle.ec_check_forms.specs.Nodes.{used}
use Rattle.ec_check_forms.specs.Sites.{a_use, a_part, an_operation, a_logical, a_prefix, a_step, an_index, a_member, an_assignment}
use Rattle.ec_check_forms.specs.Sites.{a_compound, a_passing, a_choice, a_cast, a_callee, a_call, a_function as a_function_name}
use Rattle.ec_check_forms.specs.Sites.{a_port, a_group, a_binding}
use Rattle.ec_check_operands.specs.Operands.{Operand}
use Rattle.ec_check_expressions.specs.Arguments.{Wanted, nothing, wanted_of, wanted_type}
use Rattle.ec_check_expressions.specs.Bindings.{binding_of}
use Rattle.ec_check_expressions.specs.Callees.{Called, callee, called_by, function_named, name_in_postfix, called_sites}
use Rattle.ec_check_expressions.specs.Counts.{further_count, argument_count}
use Rattle.ec_check_expressions.specs.Expressions.{of_expression, of_assignment, of_conditional, of_binary, of_cast, of_unary, of_postfix}
use Rattle.ec_check_expressions.specs.Expressions.{expression_sites, assignment_sites, conditional_sites, binary_sites}
use Rattle.ec_check_expressions.specs.Expressions.{cast_sites}
use Rattle.ec_check_expressions.specs.Expressions.{unary_sites, postfix_sites, arguments_sites, further_sites, primary_sites}
use Rattle.ec_check_expressions.specs.Expressions.{operation_sites}
use Rattle.ec_check_expressions.specs.Expressions.{wanted_for, wanted_by, call_sites}
use Rattle.ec_check_expressions.specs.Known.{Known}
use Rattle.ec_check_expressions.specs.Sites.{Site, on, a_type_name}
use Rattle.ec_check_expressions.specs.Tokens.{operator_of, is_and, compound_operator, prefix_operator, is_up, is_arrow, join_by}
use Rattle.ec_check_expressions.specs.Tokens.{storing_by}
use Rattle.ec_check_expressions.specs.TypeNames.{said_type}
use Rattle.ec_check_meanings.specs.Laws.{StandsIn, SitesAreJudged}
use Rattle.ec_check_meanings.specs.Sites.{SiteIn, Calls, CallsFunction, count, type_at, type_of_operand}
use Rattle.ec_check_meanings.specs.Terms as term
use Rattle.ec_check_meanings.specs.Terms.{Term, Terms, first, joined_term, stored_term, term_of_expression, term_of_assignment}
use Rattle.ec_check_meanings.specs.Terms.{term_of_conditional, term_of_binary, term_of_cast, term_of_unary, term_of_postfix}
use Rattle.ec_check_meanings.specs.Terms.{term_of_primary}
use Rattle.ec_check_meanings.specs.Terms.{terms_of_arguments, terms_of_further}
use Rattle.ec_check_meanings.proofs.Meanings.{is_expression, is_assignment, is_conditional, is_binary, is_cast, is_unary, is_postfix}
use Rattle.ec_check_meanings.proofs.Bindings.{sees_binding, seen_binding}
use Rattle.ec_check_meanings.proofs.Names.{called_name, named_so, spelling_of}
use Rattle.ec_check_meanings.proofs.Options.{inside, nothing_there}
use Rattle.ec_check_meanings.proofs.Parts.{IsOf}
use Rattle.ec_check_meanings.proofs.Sites.{sees_of, of_sees, used_sees, of_used, Used, One, Two, Row, Counted}
use Rattle.ec_check_meanings.proofs.Sites.{no_type, Operated}
use Rattle.ec_check_meanings.proofs.Sites.{Listed, listed, unlisted}
use Rattle.ec_check_meanings.proofs.SitesWalk.{expression_first, assignment_first, binary_first, cast_first}
use Rattle.ec_check_meanings.proofs.SitesWalk.{unary_first}
use Rattle.ec_check_meanings.proofs.SitesWalk.{postfix_first, Splits, used_out, used_in, one_out, one_in, two_out, two_in}

left : {A B C : Type 0} → (A → B) → A ⊎ C → B ⊎ C
left f (inl a) = inl (f a)
left f (inr c) = inr c

module _ (k : Known) where
  -- a form of one operand, and of two
  one_splits : (T x : Term) (m : Option Operand) (at : ℕ) (sites : List Site → List Site) → IsOf k x m → first x ≡ at → Splits k x sites
      → (P : Option Operand → Site) → ((s : Site) → SiteIn k T s → One k x s P) → ((s : Site) → One k x s P → SiteIn k T s)
      → Splits k T (λ rest. sites (on (a_use m at) ∷ P (used m) ∷ rest))
  one_splits T x m at sites h e f P out back rest s = (
    λ z. left (back s) (one_out k x m at sites h e f P (P (used m)) refl rest s z),
    λ z. one_in k x m at sites h e f P (P (used m)) refl rest s (left (out s) z),
  )

  module _ (x y : Term) (m n : Option Operand) (at bt : ℕ) (sites others : List Site → List Site) (h : IsOf k x m) (g : IsOf k y n)
      (e : first x ≡ at) (d : first y ≡ bt) (f : Splits k x sites) (i : Splits k y others) where
    two_splits : (T : Term) (P : Option Operand → Option Operand → Site) → ((s : Site) → SiteIn k T s → Two k x y s P)
        → ((s : Site) → Two k x y s P → SiteIn k T s)
        → Splits k T (λ rest. sites (on (a_use m at) ∷ others (on (a_use n bt) ∷ P (used m) (used n) ∷ rest)))
    two_splits T P out back rest s = (
      λ z. left (back s) (two_out k x y m n at bt sites others h g e d f i P rest s z),
      λ z. two_in k x y m n at bt sites others h g e d f i P rest s (left (out s) z),
    )

    join_splits : (op : PunctKind) (z : Option BinOp) (o : ℕ) → Splits k (joined_term z op x o y)
        (λ rest. sites (on (a_use m at) ∷ others (on (a_use n bt) ∷ join_by z (used m) (used n) o ∷ rest)))
    join_splits op None o =
        two_splits (term.logical x o (is_and op) y) (λ u v. on (a_logical u v o)) (listed k (term.logical x o (is_and op) y))
        (unlisted k (term.logical x o (is_and op) y))
    join_splits op (Some b) o =
        two_splits (term.binary x o b y) (λ u v. on (an_operation b u v o)) (listed k (term.binary x o b y))
        (unlisted k (term.binary x o b y))

    store_splits : (z : Option BinOp) (o : ℕ) → Splits k (stored_term z x o y)
        (λ rest. sites (on (a_use m at) ∷ others (on (a_use n bt) ∷ storing_by z (used m) (used n) o ∷ rest)))
    store_splits None o =
        two_splits (term.assign x o y) (λ u v. on (an_assignment u v o)) (listed k (term.assign x o y)) (unlisted k (term.assign x o y))
    store_splits (Some b) o =
        two_splits (term.compound x o b y) (λ u v. on (a_compound b u v o)) (listed k (term.compound x o b y))
        (unlisted k (term.compound x o b y))

    comma_splits : (o : ℕ) → Splits k (term.comma x o y)
        (λ rest. sites (on (a_use m at) ∷ on (a_part (used m) at) ∷ others (on (a_use n bt) ∷ on (a_part (used n) bt) ∷ rest)))
    comma_splits o rest s = (λ z. by (one_out k x m at sites h e f P (on (a_part (used m) at)) same after s z), λ z. back (split z))
      where
        P : Option Operand → Site
        P u = on (a_part u (first x))

        Q : Option Operand → Site
        Q u = on (a_part u (first y))

        same : P (used m) ≡ on (a_part (used m) at)
        same = ap (λ (j : ℕ). on (a_part (used m) j)) e

        like : Q (used n) ≡ on (a_part (used n) bt)
        like = ap (λ (j : ℕ). on (a_part (used n) j)) d

        after : List Site
        after = others (on (a_use n bt) ∷ on (a_part (used n) bt) ∷ rest)

        last : One k y s Q ⊎ StandsIn s rest → SiteIn k (term.comma x o y) s ⊎ StandsIn s rest
        last (inl u) = inl (unlisted k (term.comma x o y) s (inr u))
        last (inr r) = inr r

        by : One k x s P ⊎ StandsIn s after → SiteIn k (term.comma x o y) s ⊎ StandsIn s rest
        by (inl u) = inl (unlisted k (term.comma x o y) s (inl u))
        by (inr r) = last (one_out k y n bt others g d i Q (on (a_part (used n) bt)) like rest s r)

        split : SiteIn k (term.comma x o y) s ⊎ StandsIn s rest → One k x s P ⊎ (One k y s Q ⊎ StandsIn s rest)
        split (inr r) = inr (inr r)
        split (inl v) = sort (listed k (term.comma x o y) s v)
          where
            sort : One k x s P ⊎ One k y s Q → One k x s P ⊎ (One k y s Q ⊎ StandsIn s rest)
            sort (inl u) = inl u
            sort (inr u) = inr (inl u)

        back : One k x s P ⊎ (One k y s Q ⊎ StandsIn s rest)
            → StandsIn s (sites (on (a_use m at) ∷ on (a_part (used m) at) ∷ after))
        back (inl u) = one_in k x m at sites h e f P (on (a_part (used m) at)) same after s (inl u)
        back (inr r) =
            one_in k x m at sites h e f P (on (a_part (used m) at)) same after s
            (inr (one_in k y n bt others g d i Q (on (a_part (used n) bt)) like rest s r))

  cast_splits : (o : ℕ) (n : t.TypeName) (x : Term) (m : Option Operand) (at : ℕ) (sites : List Site → List Site) → IsOf k x m
      → first x ≡ at
      → Splits k x sites → Splits k (term.cast o n x)
      (λ rest. sites (on (a_use m at) ∷ a_type_name k.tags n ∷ on (a_cast (said_type k.tags n) (used m) o) ∷ rest))
  cast_splits o n x m at sites h e f rest s = (
    λ z. by (used_out k x m at sites h e f after s z),
    λ z. used_in k x m at sites h e f after s (split z),
  )
    where
      after : List Site
      after = a_type_name k.tags n ∷ on (a_cast (said_type k.tags n) (used m) o) ∷ rest

      found_so : Listed k (term.cast o n x) s → SiteIn k (term.cast o n x) s
      found_so v = unlisted k (term.cast o n x) s v

      by : Used k x s ⊎ StandsIn s after → SiteIn k (term.cast o n x) s ⊎ StandsIn s rest
      by (inl u) = inl (found_so (inr (inl u)))
      by (inr (inl q)) = inl (found_so (inl q))
      by (inr (inr (inl q))) = inl (found_so (inr (inr (used m, used_sees k x m h, q))))
      by (inr (inr (inr r))) = inr r

      sort : Listed k (term.cast o n x) s → Used k x s ⊎ StandsIn s after
      sort (inl q) = inr (inl q)
      sort (inr (inl u)) = inl u
      sort (inr (inr (v, see, q))) =
          inr (inr (inl (q ∙ ap (λ (z : Option Operand). on (a_cast (said_type k.tags n) z o)) (of_used k x m h v see))))

      split : SiteIn k (term.cast o n x) s ⊎ StandsIn s rest → Used k x s ⊎ StandsIn s after
      split (inl v) = sort (listed k (term.cast o n x) s v)
      split (inr r) = inr (inr (inr r))

  choice_splits : (c x y : Term) (l m n : Option Operand) (at o : ℕ) (sites firsts seconds : List Site → List Site) → IsOf k c l
      → IsOf k x m
      → IsOf k y n → first c ≡ at → Splits k c sites → Splits k x firsts → Splits k y seconds
      → Splits k (term.choice c o x y) (λ rest. sites (on (a_use l at) ∷ firsts (seconds (on (a_choice (used l) m n o) ∷ rest))))
  choice_splits c x y l m n at o sites firsts seconds h g i e f d b rest s = (
    λ z. by (used_out k c l at sites h e f inner_sites s z),
    λ z. used_in k c l at sites h e f inner_sites s (split z),
  )
    where
      node : Site
      node = on (a_choice (used l) m n o)

      inner_sites : List Site
      inner_sites = firsts (seconds (node ∷ rest))

      found_so : Listed k (term.choice c o x y) s → SiteIn k (term.choice c o x y) s
      found_so v = unlisted k (term.choice c o x y) s v

      third : SiteIn k y s ⊎ ((s ≡ node) ⊎ StandsIn s rest) → SiteIn k (term.choice c o x y) s ⊎ StandsIn s rest
      third (inl v) = inl (found_so (inr (inr (inl v))))
      third (inr (inl q)) = inl (found_so (inr (inr (inr (used l, m, n, used_sees k c l h, sees_of k x m g, sees_of k y n i, q)))))
      third (inr (inr r)) = inr r

      second : SiteIn k x s ⊎ StandsIn s (seconds (node ∷ rest)) → SiteIn k (term.choice c o x y) s ⊎ StandsIn s rest
      second (inl v) = inl (found_so (inr (inl v)))
      second (inr r) = third ((b (node ∷ rest) s).0 r)

      by : Used k c s ⊎ StandsIn s inner_sites → SiteIn k (term.choice c o x y) s ⊎ StandsIn s rest
      by (inl u) = inl (found_so (inl u))
      by (inr r) = second ((d (seconds (node ∷ rest)) s).0 r)

      behind_first : SiteIn k y s ⊎ ((s ≡ node) ⊎ StandsIn s rest) → StandsIn s inner_sites
      behind_first z = (d (seconds (node ∷ rest)) s).1 (inr ((b (node ∷ rest) s).1 z))

      sort : Listed k (term.choice c o x y) s → Used k c s ⊎ StandsIn s inner_sites
      sort (inl u) = inl u
      sort (inr (inl v)) = inr ((d (seconds (node ∷ rest)) s).1 (inl v))
      sort (inr (inr (inl v))) = inr (behind_first (inl v))
      sort (inr (inr (inr (u, v, z, see, seen, known, q)))) =
          inr (behind_first (inr (inl (q ∙ ap (λ (j : Option Operand). on (a_choice j v z o)) (of_used k c l h u see)
          ∙ ap (λ (j : Option Operand). on (a_choice (used l) j z o)) (of_sees k x m g v seen)
          ∙ ap (λ (j : Option Operand). on (a_choice (used l) m j o)) (of_sees k y n i z known)))))

      split : SiteIn k (term.choice c o x y) s ⊎ StandsIn s rest → Used k c s ⊎ StandsIn s inner_sites
      split (inl v) = sort (listed k (term.choice c o x y) s v)
      split (inr r) = inr (behind_first (inr (inr r)))

  -- ---- arguments

  -- each argument has the sites that the walk lists
  abbrev AllSplit : t.Further → Type 0
  AllSplit t.no_further = ⊤
  AllSplit (t.further s a rest) =
      IsOf k (term_of_assignment a) (of_assignment k a) × Splits k (term_of_assignment a) (assignment_sites k a) × AllSplit rest

  abbrev AllSplitThem : t.Arguments → Type 0
  AllSplitThem t.no_arguments = ⊤
  AllSplitThem (t.arguments a rest) =
      IsOf k (term_of_assignment a) (of_assignment k a) × Splits k (term_of_assignment a) (assignment_sites k a) × AllSplit rest

  -- the types that are wanted from a number on
  abbrev AreWanted : Wanted → ℕ → (ℕ → Option PlainType) → ℕ → Type 0
  AreWanted w i T j = (n : ℕ) → wanted_type w (i + n) ≡ T (j + n)

  first_wanted : (w : Wanted) (i : ℕ) (T : ℕ → Option PlainType) (j : ℕ) → AreWanted w i T j → wanted_type w i ≡ T j
  first_wanted w i T j h =
      ap (wanted_type w) (let e : i ≡ i + 0 = omega arith in e) ∙ h 0 ∙ ap T (let e : j + 0 ≡ j = omega arith in e)

  next_wanted : (w : Wanted) (i : ℕ) (T : ℕ → Option PlainType) (j : ℕ) → AreWanted w i T j → AreWanted w (i + 1) T (j + 1)
  next_wanted w i T j h n =
      ap (wanted_type w) (let e : i + 1 + n ≡ i + suc n = omega arith in e) ∙ h (suc n)
      ∙ ap T (let e : j + suc n ≡ j + 1 + n = omega arith in e)

  module _ (a : t.Assignment) (w : Wanted) (T : ℕ → Option PlainType) (h : IsOf k (term_of_assignment a) (of_assignment k a))
      (f : Splits k (term_of_assignment a) (assignment_sites k a)) (i j : ℕ) (q : wanted_type w i ≡ T j) (s : Site) where
    abbrev passing : Option Operand → Site
    passing m = on (a_passing m (T j) (first (term_of_assignment a)))

    abbrev passing_site : Site
    passing_site = on (a_passing (used (of_assignment k a)) (wanted_type w i) (first_assignment a))

    same_passing : passing (used (of_assignment k a)) ≡ passing_site
    same_passing =
        ap (λ (z : Option PlainType). on (a_passing (used (of_assignment k a)) z (first (term_of_assignment a)))) (sym q)
        ∙ ap (λ (n : ℕ). on (a_passing (used (of_assignment k a)) (wanted_type w i) n)) (assignment_first a)

    argument_out : (rest : List Site)
        → StandsIn s (assignment_sites k a (on (a_use (of_assignment k a) (first_assignment a)) ∷ passing_site ∷ rest))
        → One k (term_of_assignment a) s passing ⊎ StandsIn s rest
    argument_out rest z =
        one_out k (term_of_assignment a) (of_assignment k a) (first_assignment a) (assignment_sites k a) h (assignment_first a) f passing
        passing_site same_passing rest s z

    argument_in : (rest : List Site) → One k (term_of_assignment a) s passing ⊎ StandsIn s rest
        → StandsIn s (assignment_sites k a (on (a_use (of_assignment k a) (first_assignment a)) ∷ passing_site ∷ rest))
    argument_in rest z =
        one_in k (term_of_assignment a) (of_assignment k a) (first_assignment a) (assignment_sites k a) h (assignment_first a) f passing
        passing_site same_passing rest s z

    -- with what is found behind it
    row_out : (ys : Terms) (rest behind : List Site) → (StandsIn s behind → Row k ys (j + 1) T s ⊎ StandsIn s rest)
        → One k (term_of_assignment a) s passing ⊎ StandsIn s behind → Row k (term.terms (term_of_assignment a) ys) j T s ⊎ StandsIn s rest
    row_out ys rest behind next (inl (inl u)) = inl (inl u)
    row_out ys rest behind next (inl (inr u)) = inl (inr (inl u))
    row_out ys rest behind next (inr v) = deeper (next v)
      where
        deeper : Row k ys (j + 1) T s ⊎ StandsIn s rest → Row k (term.terms (term_of_assignment a) ys) j T s ⊎ StandsIn s rest
        deeper (inl v) = inl (inr (inr v))
        deeper (inr v) = inr v

    row_in : (ys : Terms) (rest behind : List Site) → (Row k ys (j + 1) T s ⊎ StandsIn s rest → StandsIn s behind)
        → Row k (term.terms (term_of_assignment a) ys) j T s ⊎ StandsIn s rest → One k (term_of_assignment a) s passing ⊎ StandsIn s behind
    row_in ys rest behind next (inl (inl u)) = inl (inl u)
    row_in ys rest behind next (inl (inr (inl u))) = inl (inr u)
    row_in ys rest behind next (inl (inr (inr v))) = inr (next (inl v))
    row_in ys rest behind next (inr v) = inr (next (inr v))

  further_out : (x : t.Further) → AllSplit x → (w : Wanted) (i : ℕ) (T : ℕ → Option PlainType) (j : ℕ) → AreWanted w i T j
      → (rest : List Site) (s : Site) → StandsIn s (further_sites k w i x rest) → Row k (terms_of_further x) j T s ⊎ StandsIn s rest
  further_out t.no_further all w i T j h rest s z = inr z
  further_out (t.further r a more) all w i T j h rest s z =
      row_out a w T all.0 all.1 i j (first_wanted w i T j h) s (terms_of_further more) rest (further_sites k w (i + 1) more rest)
      (λ v. further_out more all.2 w (i + 1) T (j + 1) (next_wanted w i T j h) rest s v)
      (argument_out a w T all.0 all.1 i j (first_wanted w i T j h) s (further_sites k w (i + 1) more rest) z)

  further_in : (x : t.Further) → AllSplit x → (w : Wanted) (i : ℕ) (T : ℕ → Option PlainType) (j : ℕ) → AreWanted w i T j
      → (rest : List Site) (s : Site) → Row k (terms_of_further x) j T s ⊎ StandsIn s rest → StandsIn s (further_sites k w i x rest)
  further_in t.no_further all w i T j h rest s (inl v) = absurd v
  further_in t.no_further all w i T j h rest s (inr v) = v
  further_in (t.further r a more) all w i T j h rest s z =
      argument_in a w T all.0 all.1 i j (first_wanted w i T j h) s (further_sites k w (i + 1) more rest)
      (row_in a w T all.0 all.1 i j (first_wanted w i T j h) s (terms_of_further more) rest (further_sites k w (i + 1) more rest)
      (λ v. further_in more all.2 w (i + 1) T (j + 1) (next_wanted w i T j h) rest s v) z)

  arguments_out : (l : Spot) (x : t.Arguments) → AllSplitThem x → (w : Wanted) (T : ℕ → Option PlainType) → AreWanted w 0 T 0
      → (rest : List Site) (s : Site) → StandsIn s (arguments_sites k w x rest) → Row k (terms_of_arguments x) 0 T s ⊎ StandsIn s rest
  arguments_out l t.no_arguments all w T h rest s z = inr z
  arguments_out l (t.arguments a more) all w T h rest s z = further_out (t.further l a more) all w 0 T 0 h rest s z

  arguments_in : (l : Spot) (x : t.Arguments) → AllSplitThem x → (w : Wanted) (T : ℕ → Option PlainType) → AreWanted w 0 T 0
      → (rest : List Site) (s : Site) → Row k (terms_of_arguments x) 0 T s ⊎ StandsIn s rest → StandsIn s (arguments_sites k w x rest)
  arguments_in l t.no_arguments all w T h rest s (inl v) = absurd v
  arguments_in l t.no_arguments all w T h rest s (inr v) = v
  arguments_in l (t.arguments a more) all w T h rest s z = further_in (t.further l a more) all w 0 T 0 h rest s z

  count_more : (x : t.Further) → count (terms_of_further x) ≡ further_count x
  count_more t.no_further = refl
  count_more (t.further s a more) = ap (λ (n : ℕ). n + 1) (count_more more)

  count_all : (x : t.Arguments) → count (terms_of_arguments x) ≡ argument_count x
  count_all t.no_arguments = refl
  count_all (t.arguments a more) = ap (λ (n : ℕ). n + 1) (count_more more)

  -- ---- operations

  wanted_operands : (op : Operation) → AreWanted (wanted_for op) 1 (type_of_operand op) 0
  wanted_operands (operations.Port op) n = ap (type_of_operand (operations.Port op)) (let e : 1 + n - 1 ≡ 0 + n = omega arith in e)
  wanted_operands (operations.Group op) n = refl

  -- an operation whose arguments are values has their sites and its own
  module _ (T : Term) (op : Operation) (x : t.Further) (all : AllSplit x) (P : ℕ → Site)
      (out : (s : Site) → SiteIn k T s → Operated k op (terms_of_further x) (P (count (terms_of_further x))) s)
      (back : (s : Site) → Operated k op (terms_of_further x) (P (count (terms_of_further x))) s → SiteIn k T s) where
    values_split : Splits k T (λ rest. further_sites k (wanted_for op) 1 x (P (further_count x) ∷ rest))
    values_split rest s = (
      λ z. by (further_out x all (wanted_for op) 1 (type_of_operand op) 0 (wanted_operands op) (P (further_count x) ∷ rest) s z),
      λ z. further_in x all (wanted_for op) 1 (type_of_operand op) 0 (wanted_operands op) (P (further_count x) ∷ rest) s (split z),
    )
      where
        same : P (further_count x) ≡ P (count (terms_of_further x))
        same = ap P (sym (count_more x))

        by : Row k (terms_of_further x) 0 (type_of_operand op) s ⊎ ((s ≡ P (further_count x)) ⊎ StandsIn s rest)
            → SiteIn k T s ⊎ StandsIn s rest
        by (inl v) = inl (back s (inl v))
        by (inr (inl q)) = inl (back s (inr (q ∙ same)))
        by (inr (inr r)) = inr r

        sort : Operated k op (terms_of_further x) (P (count (terms_of_further x))) s
            → Row k (terms_of_further x) 0 (type_of_operand op) s ⊎ ((s ≡ P (further_count x)) ⊎ StandsIn s rest)
        sort (inl v) = inl v
        sort (inr q) = inr (inl (q ∙ sym same))

        split : SiteIn k T s ⊎ StandsIn s rest
            → Row k (terms_of_further x) 0 (type_of_operand op) s ⊎ ((s ≡ P (further_count x)) ⊎ StandsIn s rest)
        split (inl v) = sort (out s v)
        split (inr r) = inr (inr r)

  -- `iogroup_map` has its own alone
  map_splits : (at : ℕ) (n : List ℕ) (x : t.Further)
      → Splits k (term.operation at (operations.Group groups.Map) n (terms_of_further x))
      (λ rest. on (a_binding (binding_of k.ports n x) at) ∷ rest)
  map_splits at n x rest s = (left back, left out)
    where
      T : Term
      T = term.operation at (operations.Group groups.Map) n (terms_of_further x)

      back : s ≡ on (a_binding (binding_of k.ports n x) at) → SiteIn k T s
      back q = unlisted k T s (binding_of k.ports n x, sees_binding k.ports n x, q)

      out : SiteIn k T s → s ≡ on (a_binding (binding_of k.ports n x) at)
      out v =
          let h = listed k T s v in
          h.2 ∙ ap (λ (b : Option Binding). on (a_binding b at)) (seen_binding k.ports n x h.0 h.1)

  operation_splits : (at : ℕ) (op : Operation) (n : List ℕ) (x : t.Further) → AllSplit x
      → Splits k (term.operation at op n (terms_of_further x)) (operation_sites k op n x at (further_sites k (wanted_for op) 1 x))
  operation_splits at (operations.Port op) n x all =
      let T = term.operation at (operations.Port op) n (terms_of_further x) in
      values_split T (operations.Port op) x all (λ c. on (a_port op (port_named k.ports n) c at)) (listed k T) (unlisted k T)
  operation_splits at (operations.Group groups.Acquire) n x all =
      let T = term.operation at (operations.Group groups.Acquire) n (terms_of_further x) in
      values_split T (operations.Group groups.Acquire) x all (λ c. on (a_group (group_named k.ports n) c at)) (listed k T) (unlisted k T)
  operation_splits at (operations.Group groups.Release) n x all =
      let T = term.operation at (operations.Group groups.Release) n (terms_of_further x) in
      values_split T (operations.Group groups.Release) x all (λ c. on (a_group (group_named k.ports n) c at)) (listed k T) (unlisted k T)
  operation_splits at (operations.Group groups.Map) n x all = map_splits at n x

  -- ---- calls

  callee_is : (p : t.Postfix) (f : Called) → callee k p ≡ Some f → Calls k (term_of_postfix p) f.at f.number f.params
  callee_is p f q = by_name (name_in_postfix p) refl q
    where
      by_what : (s : Spot) (n : List ℕ) → name_in_postfix p ≡ Some (t.identifier s n) → (what : Option Named) → found n k.names ≡ what
          → function_named s.index what ≡ Some f → Calls k (term_of_postfix p) f.at f.number f.params
      by_what s n e None g z = absurd (nothing_there f z)
      by_what s n e (Some (an_object i ty c sp r)) g z = absurd (nothing_there f z)
      by_what s n e (Some (a_function i returns params)) g z =
          subst (λ (v : Called). Calls k (term_of_postfix p) v.at v.number v.params) (inside z)
          (record { name = n; returns = returns; named = called_name p s n e; function = g })

      by_name : (o : Option t.Identifier) → name_in_postfix p ≡ o → called_by k o ≡ Some f
          → Calls k (term_of_postfix p) f.at f.number f.params
      by_name None e z = absurd (nothing_there f z)
      by_name (Some (t.identifier s n)) e z = by_what s n e (found n k.names) refl z

  -- a function that is called, by the walk
  is_callee : (p : t.Postfix) (at : ℕ) (number : Option ℕ) (params : Option (List PlainType)) → Calls k (term_of_postfix p) at number params
      → (f : Called) × (callee k p ≡ Some f) × (f.at ≡ at) × (f.number ≡ number) × (f.params ≡ params)
  is_callee p at number params c =
      let g = spelling_of (name_in_postfix p) at c.name (named_so p at c.name c.named) in (
        record { at = g.0.index; number = number; returns = c.returns; params = params },
        ap (called_by k) g.1 ∙ ap (function_named g.0.index) c.function,
        g.2,
        refl,
        refl,
      )

  wanted_params : (params : Option (List PlainType)) → AreWanted (wanted_of params) 0 (type_at params) 0
  wanted_params None n = refl
  wanted_params (Some tys) n = refl

  -- what the walk lists where a function is called
  abbrev Calling : t.Postfix → t.Arguments → ℕ → Called → Site → Type 0
  Calling p a l f s = (s ≡ on (a_function_name (is_some f.number) f.at))
      ⊎ (Counted k f.params (terms_of_arguments a) l s ⊎ Row k (terms_of_arguments a) 0 (type_at f.params) s)

  module _ (p : t.Postfix) (a : t.Arguments) (l : Spot) (all : AllSplitThem a) (rest : List Site) (s : Site) where
    abbrev argument_list : Option (List PlainType) → List Site
    argument_list params = arguments_sites k (wanted_of params) a rest

    abbrev at_call : List PlainType → Site
    at_call tys = on (a_call (length tys) (argument_count a) l.index)

    same_call : (tys : List PlainType) → on (a_call (length tys) (count (terms_of_arguments a)) l.index) ≡ at_call tys
    same_call tys = ap (λ (c : ℕ). on (a_call (length tys) c l.index)) (count_all a)

    called_out : (at : ℕ) (number : Option ℕ) (returns : Option PlainType) (params : Option (List PlainType))
        → StandsIn s (called_sites (record { at = at; number = number; returns = returns; params = params }) (argument_count a) l.index
        (argument_list params))
        → Calling p a l.index (record { at = at; number = number; returns = returns; params = params }) s ⊎ StandsIn s rest
    called_out at number returns params (inl q) = inl (inl q)
    called_out at number returns None (inr z) = behind (arguments_out l a all (wanted_of None) (type_at None) (wanted_params None) rest s z)
      where
        behind : Row k (terms_of_arguments a) 0 (type_at None) s ⊎ StandsIn s rest
            → Calling p a l.index (record { at = at; number = number; returns = returns; params = None }) s ⊎ StandsIn s rest
        behind (inl v) = inl (inr (inr v))
        behind (inr v) = inr v
    called_out at number returns (Some tys) (inr (inl q)) = inl (inr (inl (q ∙ sym (same_call tys))))
    called_out at number returns (Some tys) (inr (inr z)) =
        behind (arguments_out l a all (wanted_of (Some tys)) (type_at (Some tys)) (wanted_params (Some tys)) rest s z)
      where
        behind : Row k (terms_of_arguments a) 0 (type_at (Some tys)) s ⊎ StandsIn s rest
            → Calling p a l.index (record { at = at; number = number; returns = returns; params = Some tys }) s ⊎ StandsIn s rest
        behind (inl v) = inl (inr (inr v))
        behind (inr v) = inr v

    called_in : (at : ℕ) (number : Option ℕ) (returns : Option PlainType) (params : Option (List PlainType))
        → Calling p a l.index (record { at = at; number = number; returns = returns; params = params }) s ⊎ StandsIn s rest
        → StandsIn s (called_sites (record { at = at; number = number; returns = returns; params = params }) (argument_count a) l.index
        (argument_list params))
    called_in at number returns params (inl (inl q)) = inl q
    called_in at number returns None (inl (inr (inl v))) = absurd v
    called_in at number returns None (inl (inr (inr v))) =
        inr (arguments_in l a all (wanted_of None) (type_at None) (wanted_params None) rest s (inl v))
    called_in at number returns None (inr v) =
        inr (arguments_in l a all (wanted_of None) (type_at None) (wanted_params None) rest s (inr v))
    called_in at number returns (Some tys) (inl (inr (inl q))) = inr (inl (q ∙ same_call tys))
    called_in at number returns (Some tys) (inl (inr (inr v))) =
        inr (inr (arguments_in l a all (wanted_of (Some tys)) (type_at (Some tys)) (wanted_params (Some tys)) rest s (inl v)))
    called_in at number returns (Some tys) (inr v) =
        inr (inr (arguments_in l a all (wanted_of (Some tys)) (type_at (Some tys)) (wanted_params (Some tys)) rest s (inr v)))

  module _ (p : t.Postfix) (a : t.Arguments) (l : Spot) (all : AllSplitThem a) (f : Splits k (term_of_postfix p) (postfix_sites k p))
      (rest : List Site) (s : Site) where
    abbrev whole_call : Term
    whole_call = term.call (term_of_postfix p) l.index (terms_of_arguments a)

    abbrev call_list : Option Called → List Site
    call_list c = on (a_callee (is_some c) (first_postfix p))
        ∷ call_sites c (postfix_sites k p) (argument_count a) l.index (arguments_sites k (wanted_by c) a rest)

    first_so : (b : Bool) → on (a_callee b (first_postfix p)) ≡ on (a_callee b (first (term_of_postfix p)))
    first_so b = ap (λ (n : ℕ). on (a_callee b n)) (sym (postfix_first p))

    uncalled : callee k p ≡ None → ¬ CallsFunction k (term_of_postfix p)
    uncalled e c =
        let g = is_callee p c.0 c.1 c.2 c.3 in nothing_there g.0 (sym e ∙ g.1)

    call_out : (c : Option Called) → callee k p ≡ c → StandsIn s (call_list c) → SiteIn k whole_call s ⊎ StandsIn s rest
    call_out None e (inl q) = inl (unlisted k whole_call s (inl (uncalled e, inl (q ∙ first_so false))))
    call_out None e (inr z) = by ((f (arguments_sites k nothing a rest) s).0 z)
      where
        behind : Row k (terms_of_arguments a) 0 (no_type k) s ⊎ StandsIn s rest → SiteIn k whole_call s ⊎ StandsIn s rest
        behind (inl v) = inl (unlisted k whole_call s (inl (uncalled e, inr (inr v))))
        behind (inr r) = inr r

        by : SiteIn k (term_of_postfix p) s ⊎ StandsIn s (arguments_sites k nothing a rest) → SiteIn k whole_call s ⊎ StandsIn s rest
        by (inl v) = inl (unlisted k whole_call s (inl (uncalled e, inr (inl v))))
        by (inr r) = behind (arguments_out l a all nothing (no_type k) (λ n. refl) rest s r)
    call_out (Some c) e (inl q) =
        inl (unlisted k whole_call s (inr (c.at, c.number, c.params, callee_is p c e, inl (q ∙ first_so true))))
    call_out (Some c) e (inr z) = by (called_out p a l all rest s c.at c.number c.returns c.params z)
      where
        by : Calling p a l.index c s ⊎ StandsIn s rest → SiteIn k whole_call s ⊎ StandsIn s rest
        by (inl v) = inl (unlisted k whole_call s (inr (c.at, c.number, c.params, callee_is p c e, inr v)))
        by (inr r) = inr r

    -- the function that is called is the one that the walk takes
    called_so : (name_at : ℕ) (number : Option ℕ) (params : Option (List PlainType)) → Calls k (term_of_postfix p) name_at number params
        → (c : Called) → callee k p ≡ Some c
        → ((s ≡ on (a_callee true (first (term_of_postfix p)))) ⊎ ((s ≡ on (a_function_name (is_some number) name_at))
        ⊎ (Counted k params (terms_of_arguments a) l.index s ⊎ Row k (terms_of_arguments a) 0 (type_at params) s)))
        → (s ≡ on (a_callee true (first (term_of_postfix p)))) ⊎ Calling p a l.index c s
    called_so name_at number params h c e v =
        let g = is_callee p name_at number params h in
        let same : g.0 ≡ c = inside (sym g.1 ∙ e) in
        subst (λ (z : Called). (s ≡ on (a_callee true (first (term_of_postfix p)))) ⊎ Calling p a l.index z s) same
        (subst (λ (z : Option (List PlainType)). (s ≡ on (a_callee true (first (term_of_postfix p))))
        ⊎ ((s ≡ on (a_function_name (is_some g.0.number) g.0.at))
        ⊎ (Counted k z (terms_of_arguments a) l.index s ⊎ Row k (terms_of_arguments a) 0 (type_at z) s))) (sym g.4)
        (subst (λ (z : Option ℕ). (s ≡ on (a_callee true (first (term_of_postfix p)))) ⊎ ((s ≡ on (a_function_name (is_some z) g.0.at))
        ⊎ (Counted k params (terms_of_arguments a) l.index s ⊎ Row k (terms_of_arguments a) 0 (type_at params) s))) (sym g.3)
        (subst (λ (z : ℕ). (s ≡ on (a_callee true (first (term_of_postfix p)))) ⊎ ((s ≡ on (a_function_name (is_some number) z))
        ⊎ (Counted k params (terms_of_arguments a) l.index s ⊎ Row k (terms_of_arguments a) 0 (type_at params) s))) (sym g.2) v)))

    call_in : (c : Option Called) → callee k p ≡ c → SiteIn k whole_call s ⊎ StandsIn s rest → StandsIn s (call_list c)
    call_in None e (inr r) =
        inr ((f (arguments_sites k nothing a rest) s).1 (inr (arguments_in l a all nothing (no_type k) (λ n. refl) rest s (inr r))))
    call_in None e (inl v) = by (listed k whole_call s v)
      where
        by : Listed k whole_call s → StandsIn s (call_list None)
        by (inl (n, inl q)) = inl (q ∙ sym (first_so false))
        by (inl (n, inr (inl w))) = inr ((f (arguments_sites k nothing a rest) s).1 (inl w))
        by (inl (n, inr (inr w))) =
            inr ((f (arguments_sites k nothing a rest) s).1 (inr (arguments_in l a all nothing (no_type k) (λ n. refl) rest s (inl w))))
        by (inr (name_at, number, params, h, w)) =
            let g = is_callee p name_at number params h in absurd (nothing_there g.0 (sym e ∙ g.1))
    call_in (Some c) e (inr r) = inr (called_in p a l all rest s c.at c.number c.returns c.params (inr r))
    call_in (Some c) e (inl v) = by (listed k whole_call s v)
      where
        sort : (s ≡ on (a_callee true (first (term_of_postfix p)))) ⊎ Calling p a l.index c s → StandsIn s (call_list (Some c))
        sort (inl q) = inl (q ∙ sym (first_so true))
        sort (inr w) = inr (called_in p a l all rest s c.at c.number c.returns c.params (inl w))

        by : Listed k whole_call s → StandsIn s (call_list (Some c))
        by (inl (n, w)) = absurd (n (c.at, c.number, c.params, callee_is p c e))
        by (inr (name_at, number, params, h, w)) = sort (called_so name_at number params h c e w)

  -- ---- trees

  -- a term without operands that are used, whose sites the walk lists first
  one_site : (T : Term) (node : Site) → ((s : Site) → SiteIn k T s → s ≡ node) → ((s : Site) → s ≡ node → SiteIn k T s)
      → Splits k T (λ rest. node ∷ rest)
  one_site T node out back rest s = (left (back s), left (out s))

  no_site : (T : Term) → ((s : Site) → SiteIn k T s → ⊥) → Splits k T (λ rest. rest)
  no_site T out rest s = (λ z. inr z, only_rest)
    where
      only_rest : SiteIn k T s ⊎ StandsIn s rest → StandsIn s rest
      only_rest (inl v) = absurd (out s v)
      only_rest (inr r) = r

  same_sites : (T x : Term) (sites : List Site → List Site) → Splits k x sites → ((s : Site) → SiteIn k T s → SiteIn k x s)
      → ((s : Site) → SiteIn k x s → SiteIn k T s) → Splits k T sites
  same_sites T x sites f out back rest s = (λ z. left (back s) ((f rest s).0 z), λ z. (f rest s).1 (left (out s) z))

module _ (told : TypesAreTold) (k : Known) where
  mutual
    expression_splits : (x : t.Expression) → Splits k (term_of_expression x) (expression_sites k x)
    expression_splits (t.single a) = assignment_splits a
    expression_splits (t.comma e s a) =
        comma_splits k (term_of_expression e) (term_of_assignment a) (of_expression k e) (of_assignment k a) _ _ (expression_sites k e)
        (assignment_sites k a) (is_expression told k e) (is_assignment told k a) (expression_first e) (assignment_first a)
        (expression_splits e) (assignment_splits a) s.index

    assignment_splits : (x : t.Assignment) → Splits k (term_of_assignment x) (assignment_sites k x)
    assignment_splits (t.value c) = conditional_splits c
    assignment_splits (t.assign u s op a) =
        store_splits k (term_of_unary u) (term_of_assignment a) (of_unary k u) (of_assignment k a) _ _ (unary_sites k u)
        (assignment_sites k a)
        (is_unary told k u) (is_assignment told k a) (unary_first u) (assignment_first a) (unary_splits u) (assignment_splits a)
        (compound_operator op) s.index

    conditional_splits : (x : t.Conditional) → Splits k (term_of_conditional x) (conditional_sites k x)
    conditional_splits (t.plain b) = binary_splits b
    conditional_splits (t.choose b q e s c) =
        choice_splits k (term_of_binary b) (term_of_expression e) (term_of_conditional c) (of_binary k b) (of_expression k e)
        (of_conditional k c) _ q.index (binary_sites k b) (expression_sites k e) (conditional_sites k c) (is_binary told k b)
        (is_expression told k e) (is_conditional told k c) (binary_first b) (binary_splits b) (expression_splits e) (conditional_splits c)

    binary_splits : (x : t.Binary) → Splits k (term_of_binary x) (binary_sites k x)
    binary_splits (t.operand c) = cast_tree_splits c
    binary_splits (t.join a s op b) =
        join_splits k (term_of_binary a) (term_of_binary b) (of_binary k a) (of_binary k b) _ _ (binary_sites k a) (binary_sites k b)
        (is_binary told k a) (is_binary told k b) (binary_first a) (binary_first b) (binary_splits a) (binary_splits b) op
        (operator_of op) s.index

    cast_tree_splits : (x : t.Cast) → Splits k (term_of_cast x) (cast_sites k x)
    cast_tree_splits (t.uncast u) = unary_splits u
    cast_tree_splits (t.convert l n r c) =
        cast_splits k l.index n (term_of_cast c) (of_cast k c) _ (cast_sites k c) (is_cast told k c) (cast_first c) (cast_tree_splits c)

    unary_splits : (x : t.Unary) → Splits k (term_of_unary x) (unary_sites k x)
    unary_splits (t.postfix p) = postfix_splits p
    unary_splits (t.step s op u) =
        one_splits k (term.step s.index (is_up op) (term_of_unary u)) (term_of_unary u) (of_unary k u) _ (unary_sites k u)
        (is_unary told k u)
        (unary_first u) (unary_splits u) (λ m. on (a_step m s.index)) (listed k (term.step s.index (is_up op) (term_of_unary u)))
        (unlisted k (term.step s.index (is_up op) (term_of_unary u)))
    unary_splits (t.prefix s op c) =
        one_splits k (term.prefixed s.index (prefix_operator op) (term_of_cast c)) (term_of_cast c) (of_cast k c) _ (cast_sites k c)
        (is_cast told k c) (cast_first c) (cast_tree_splits c) (λ m. on (a_prefix (prefix_operator op) m s.index))
        (listed k (term.prefixed s.index (prefix_operator op) (term_of_cast c)))
        (unlisted k (term.prefixed s.index (prefix_operator op) (term_of_cast c)))
    unary_splits (t.size s l n r) =
        one_site k (term.size s.index n) (a_type_name k.tags n) (listed k (term.size s.index n)) (unlisted k (term.size s.index n))

    postfix_splits : (x : t.Postfix) → Splits k (term_of_postfix x) (postfix_sites k x)
    postfix_splits (t.primary p) = primary_splits p
    postfix_splits (t.index p l e r) =
        two_splits k (term_of_postfix p) (term_of_expression e) (of_postfix k p) (of_expression k e) _ _ (postfix_sites k p)
        (expression_sites k e) (is_postfix told k p) (is_expression told k e) (postfix_first p) (expression_first e) (postfix_splits p)
        (expression_splits e) (term.index (term_of_postfix p) l.index (term_of_expression e)) (λ m n. on (an_index m n l.index))
        (listed k (term.index (term_of_postfix p) l.index (term_of_expression e)))
        (unlisted k (term.index (term_of_postfix p) l.index (term_of_expression e)))
    postfix_splits (t.call p l a r) = λ rest s. (
      call_out k p a l (all_arguments_split a) (postfix_splits p) rest s (callee k p) refl,
      call_in k p a l (all_arguments_split a) (postfix_splits p) rest s (callee k p) refl,
    )
    postfix_splits (t.member p s op (t.identifier at n)) =
        one_splits k (term.member (term_of_postfix p) s.index (is_arrow op) at.index n) (term_of_postfix p) (of_postfix k p) _
        (postfix_sites k p)
        (is_postfix told k p) (postfix_first p) (postfix_splits p) (λ m. on (a_member k.structs n (is_arrow op) m s.index at.index))
        (listed k (term.member (term_of_postfix p) s.index (is_arrow op) at.index n))
        (unlisted k (term.member (term_of_postfix p) s.index (is_arrow op) at.index n))
    postfix_splits (t.stepped p s op) =
        one_splits k (term.stepped (term_of_postfix p) s.index (is_up op)) (term_of_postfix p) (of_postfix k p) _ (postfix_sites k p)
        (is_postfix told k p) (postfix_first p) (postfix_splits p) (λ m. on (a_step m s.index))
        (listed k (term.stepped (term_of_postfix p) s.index (is_up op))) (unlisted k (term.stepped (term_of_postfix p) s.index (is_up op)))

    all_arguments_split : (x : t.Arguments) → AllSplitThem k x
    all_arguments_split t.no_arguments = tt
    all_arguments_split (t.arguments a more) = (is_assignment told k a, assignment_splits a, all_further_split more)

    all_further_split : (x : t.Further) → AllSplit k x
    all_further_split t.no_further = tt
    all_further_split (t.further s a more) = (is_assignment told k a, assignment_splits a, all_further_split more)

    primary_splits : (x : t.Primary) → Splits k (term_of_primary x) (primary_sites k x)
    primary_splits (t.name (t.identifier s n)) = one_site k (term.name s.index n) _ (listed k (term.name s.index n))
        (unlisted k (term.name s.index n))
    primary_splits (t.constant s c) = no_site k (term.constant s.index c) (listed k (term.constant s.index c))
    primary_splits (t.parenthesised l e r) =
        same_sites k (term.parenthesised l.index (term_of_expression e)) (term_of_expression e) (expression_sites k e) (expression_splits e)
        (listed k (term.parenthesised l.index (term_of_expression e))) (unlisted k (term.parenthesised l.index (term_of_expression e)))
    primary_splits (t.operation s op l (t.identifier at n) more r) = operation_splits k s.index op n more (all_further_split more)

pub sites_are_judged : TypesAreTold → SitesAreJudged
sites_are_judged told k = record {
  expressions = λ x rest s. expression_splits told k x rest s;
  assignments = λ x rest s. assignment_splits told k x rest s;
  conditionals = λ x rest s. conditional_splits told k x rest s;
}
