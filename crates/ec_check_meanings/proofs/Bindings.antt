-- What `iogroup_map` binds is what the walk finds.
use Rattle.std.proofs.Common.{◌≡◌, ◌∙◌, ℕ, suc, Bool, true, false, List, [], ◌∷◌, refl, sym, ap, subst, arith}
use Rattle.std.specs.Prelude.{◌==◌, ◌≢◌, Option, Some, None, option_map, position, slice_get}
use Rattle.std.proofs.lemmas.Bool.Decides.{Decides-eqb}
use Rattle.std.proofs.lemmas.Grind.{common_steps}
use Rattle.ec_grammar.specs.declared.token.PunctKind.{PunctKind}
use Rattle.ec_grammar.specs.declared.Spot.{Spot}
use Rattle.ec_grammar.specs.Trees as t
use Rattle.ec_iohw.specs.declared.table.Choice.{Choice}
use Rattle.ec_iohw.specs.declared.table.Designator.{Designator}
use Rattle.ec_iohw.specs.declared.table.Designator.TheVariants as designators
use Rattle.ec_iohw.specs.declared.table.Dynamic.{Dynamic}
use Rattle.ec_iohw.specs.declared.table.IoTable.{IoTable}
use Rattle.ec_iohw.specs.Names.{designated}
use Rattle.ec_core.specs.declared.expressions.BinOp.{BinOp}
use Rattle.ec_check_forms.specs.declared.ports.Binding.{Binding}
use Rattle.ec_check_forms.specs.declared.ports.NamedGroup.{NamedGroup}
use Rattle.ec_check_forms.specs.declared.ports.NamedGroup.TheVariants as named
use Rattle.ec_check_forms.specs.Calls.{group_at, group_named, choice_of, bound_to, binding_named}
use Rattle.ec_check_operands.specs.Options.{with_one, with_both}
use Rattle.ec_check_expressions.specs.Bindings.{bare_in_primary, bare_in_postfix, bare_in_unary, bare_in_cast, bare_in_binary}
use Rattle.ec_check_expressions.specs.Bindings.{bare_in_conditional, bare_name, bound_by, binding_of}
use Rattle.ec_check_expressions.specs.Tokens.{operator_of, is_and, compound_operator}
use Rattle.ec_check_meanings.specs.Bindings.{IsChoiceOf, here, later, AreBound, Binds, bare, SeesBinding}
use Rattle.ec_check_meanings.specs.Terms as term
use Rattle.ec_check_meanings.specs.Terms.{Term, Terms, joined_term, stored_term, term_of_assignment, term_of_conditional}
use Rattle.ec_check_meanings.specs.Terms.{term_of_binary, term_of_cast, term_of_unary, term_of_postfix, term_of_primary}
use Rattle.ec_check_meanings.specs.Terms.{terms_of_further}
use Rattle.ec_check_meanings.proofs.Options.{clash, inside, nothing_there}

-- ---- bare names

abbrev name_term : t.Identifier → Term
name_term (t.identifier s n) = term.name s.index n

primary_term : (x : t.Primary) (n : t.Identifier) → bare_in_primary x ≡ Some n → term_of_primary x ≡ name_term n
primary_term (t.name (t.identifier s m)) n q = ap name_term (inside q)
primary_term (t.constant s c) n q = absurd (nothing_there n q)
primary_term (t.parenthesised l e r) n q = absurd (nothing_there n q)
primary_term (t.operation s op l m more r) n q = absurd (nothing_there n q)

postfix_term : (x : t.Postfix) (n : t.Identifier) → bare_in_postfix x ≡ Some n → term_of_postfix x ≡ name_term n
postfix_term (t.primary p) n q = primary_term p n q
postfix_term (t.index p l e r) n q = absurd (nothing_there n q)
postfix_term (t.call p l a r) n q = absurd (nothing_there n q)
postfix_term (t.member p s op m) n q = absurd (nothing_there n q)
postfix_term (t.stepped p s op) n q = absurd (nothing_there n q)

unary_term : (x : t.Unary) (n : t.Identifier) → bare_in_unary x ≡ Some n → term_of_unary x ≡ name_term n
unary_term (t.postfix p) n q = postfix_term p n q
unary_term (t.step s op u) n q = absurd (nothing_there n q)
unary_term (t.prefix s op c) n q = absurd (nothing_there n q)
unary_term (t.size s l ty r) n q = absurd (nothing_there n q)

cast_term : (x : t.Cast) (n : t.Identifier) → bare_in_cast x ≡ Some n → term_of_cast x ≡ name_term n
cast_term (t.uncast u) n q = unary_term u n q
cast_term (t.convert l ty r c) n q = absurd (nothing_there n q)

binary_term : (x : t.Binary) (n : t.Identifier) → bare_in_binary x ≡ Some n → term_of_binary x ≡ name_term n
binary_term (t.operand c) n q = cast_term c n q
binary_term (t.join a s op b) n q = absurd (nothing_there n q)

conditional_term : (x : t.Conditional) (n : t.Identifier) → bare_in_conditional x ≡ Some n → term_of_conditional x ≡ name_term n
conditional_term (t.plain b) n q = binary_term b n q
conditional_term (t.choose b q e s c) n z = absurd (nothing_there n z)

bare_term : (x : t.Assignment) (n : t.Identifier) → bare_name x ≡ Some n → term_of_assignment x ≡ name_term n
bare_term (t.value c) n q = conditional_term c n q
bare_term (t.assign u s op a) n q = absurd (nothing_there n q)

-- a term that is a name is that of a bare one
abbrev IsBare : Option t.Identifier → List ℕ → Type 0
IsBare o n = (s : Spot) × (o ≡ Some (t.identifier s n))

bare_primary : (x : t.Primary) (at : ℕ) (n : List ℕ) → term_of_primary x ≡ term.name at n → IsBare (bare_in_primary x) n
bare_primary (t.name (t.identifier s m)) at n q =
    let z : term.name s.index m ≡ term.name at n = q in
    let same : m ≡ n = cc in
    (s, ap (λ (v : List ℕ). Some (t.identifier s v)) same)
bare_primary (t.constant s c) at n q = absurd (let z : term.constant s.index c ≡ term.name at n = q in cc)
bare_primary (t.parenthesised l e r) at n q = absurd (let z : term.parenthesised l.index _ ≡ term.name at n = q in cc)
bare_primary (t.operation s op l (t.identifier i m) more r) at n q =
    absurd (let z : term.operation s.index op m (terms_of_further more) ≡ term.name at n = q in cc)

bare_postfix : (x : t.Postfix) (at : ℕ) (n : List ℕ) → term_of_postfix x ≡ term.name at n → IsBare (bare_in_postfix x) n
bare_postfix (t.primary p) at n q = bare_primary p at n q
bare_postfix (t.index p l e r) at n q = absurd (let z : term.index (term_of_postfix p) l.index _ ≡ term.name at n = q in cc)
bare_postfix (t.call p l a r) at n q = absurd (let z : term.call (term_of_postfix p) l.index _ ≡ term.name at n = q in cc)
bare_postfix (t.member p s op (t.identifier i m)) at n q =
    absurd (let z : term.member (term_of_postfix p) s.index _ i.index m ≡ term.name at n = q in cc)
bare_postfix (t.stepped p s op) at n q = absurd (let z : term.stepped (term_of_postfix p) s.index _ ≡ term.name at n = q in cc)

bare_unary : (x : t.Unary) (at : ℕ) (n : List ℕ) → term_of_unary x ≡ term.name at n → IsBare (bare_in_unary x) n
bare_unary (t.postfix p) at n q = bare_postfix p at n q
bare_unary (t.step s op u) at n q = absurd (let z : term.step s.index _ (term_of_unary u) ≡ term.name at n = q in cc)
bare_unary (t.prefix s op c) at n q = absurd (let z : term.prefixed s.index _ (term_of_cast c) ≡ term.name at n = q in cc)
bare_unary (t.size s l ty r) at n q = absurd (let z : term.size s.index ty ≡ term.name at n = q in cc)

bare_cast : (x : t.Cast) (at : ℕ) (n : List ℕ) → term_of_cast x ≡ term.name at n → IsBare (bare_in_cast x) n
bare_cast (t.uncast u) at n q = bare_unary u at n q
bare_cast (t.convert l ty r c) at n q = absurd (let z : term.cast l.index ty (term_of_cast c) ≡ term.name at n = q in cc)

no_join : (o : Option BinOp) (op : PunctKind) (x : Term) (i : ℕ) (y : Term) (at : ℕ) (n : List ℕ)
    → joined_term o op x i y ≡ term.name at n → ⊥
no_join (Some o) op x i y at n q = let z : term.binary x i o y ≡ term.name at n = q in cc
no_join None op x i y at n q = let z : term.logical x i (is_and op) y ≡ term.name at n = q in cc

bare_binary : (x : t.Binary) (at : ℕ) (n : List ℕ) → term_of_binary x ≡ term.name at n → IsBare (bare_in_binary x) n
bare_binary (t.operand c) at n q = bare_cast c at n q
bare_binary (t.join a s op b) at n q = absurd (no_join (operator_of op) op (term_of_binary a) s.index (term_of_binary b) at n q)

bare_conditional : (x : t.Conditional) (at : ℕ) (n : List ℕ) → term_of_conditional x ≡ term.name at n → IsBare (bare_in_conditional x) n
bare_conditional (t.plain b) at n q = bare_binary b at n q
bare_conditional (t.choose b i e s c) at n q =
    absurd (let z : term.choice (term_of_binary b) i.index _ (term_of_conditional c) ≡ term.name at n = q in cc)

no_store : (o : Option BinOp) (x : Term) (i : ℕ) (y : Term) (at : ℕ) (n : List ℕ) → stored_term o x i y ≡ term.name at n → ⊥
no_store (Some o) x i y at n q = let z : term.compound x i o y ≡ term.name at n = q in cc
no_store None x i y at n q = let z : term.assign x i y ≡ term.name at n = q in cc

bare_assignment : (x : t.Assignment) (at : ℕ) (n : List ℕ) → term_of_assignment x ≡ term.name at n → IsBare (bare_name x) n
bare_assignment (t.value c) at n q = bare_conditional c at n q
bare_assignment (t.assign u s op a) at n q =
    absurd (no_store (compound_operator op) (term_of_unary u) s.index (term_of_assignment a) at n q)

-- ---- choices

first_so : {X : Type 0} → (p : X → Bool) (x : X) (xs : List X) → p x ≡ true → position p (x ∷ xs) ≡ Some 0
first_so p x xs e = grind (arith, common_steps, e)

later_so : {X : Type 0} → (p : X → Bool) (x : X) (xs : List X) → p x ≡ false → position p (x ∷ xs) ≡ option_map suc (position p xs)
later_so p x xs e = grind (arith, common_steps, e)

differs : (m n : ℕ) → m ≢ n → (m == n) ≡ false
differs m n h = by (m == n) refl
  where
    by : (b : Bool) → (m == n) ≡ b → (m == n) ≡ false
    by true e = absurd (h ((Decides-eqb m n).0 e))
    by false e = e

is_choice : (g i : ℕ) (cs : List Choice) → IsChoiceOf g i cs → choice_of cs g ≡ Some i
is_choice g _ _ (here {c = c} {cs = cs} e) = first_so (λ (x : Choice). x.group == g) c cs ((Decides-eqb c.group g).1 e)
is_choice g _ _ (later {i = i} {c = c} {cs = cs} n h) =
    later_so (λ (x : Choice). x.group == g) c cs (differs c.group g n) ∙ ap (option_map suc) (is_choice g i cs h)

choice_is : (g i : ℕ) (cs : List Choice) → choice_of cs g ≡ Some i → IsChoiceOf g i cs
choice_is g i [] q = absurd (nothing_there i q)
choice_is g i (c ∷ cs) q = by (c.group == g) refl (λ j e. choice_is g j cs e)
  where
    after : (o : Option ℕ) → option_map suc o ≡ Some i → c.group ≢ g → ((j : ℕ) → o ≡ Some j → IsChoiceOf g j cs)
        → IsChoiceOf g i (c ∷ cs)
    after None z n deeper = absurd (nothing_there i z)
    after (Some j) z n deeper = subst (λ (v : ℕ). IsChoiceOf g v (c ∷ cs)) (inside z) (later n (deeper j refl))

    by : (b : Bool) → (c.group == g) ≡ b → ((j : ℕ) → choice_of cs g ≡ Some j → IsChoiceOf g j cs) → IsChoiceOf g i (c ∷ cs)
    by true e deeper =
        subst (λ (v : ℕ). IsChoiceOf g v (c ∷ cs)) (inside (sym (first_so (λ (x : Choice). x.group == g) c cs e) ∙ q))
        (here ((Decides-eqb c.group g).0 e))
    by false e deeper =
        after (choice_of cs g) (sym (later_so (λ (x : Choice). x.group == g) c cs e) ∙ q)
        (λ z. clash ((Decides-eqb c.group g).1 z) e) deeper

-- ---- bindings

module _ (io : IoTable) (dynamic : List ℕ) where
  are_bound : (group : List ℕ) (b : Binding) → AreBound io dynamic group b → binding_named io dynamic group ≡ Some b
  are_bound group b h =
      ap (λ (z : Option Designator). with_both (with_one z group_at) (group_named io group) (bound_to io)) h.dynamic_named
      ∙ ap (λ (z : Option Designator). with_both (Some (named.Dynamic b.dynamic)) (with_one z group_at) (bound_to io)) h.group_named
      ∙ ap (λ (z : Option Dynamic). with_one z (λ x.
      option_map (λ c. record { dynamic = b.dynamic; choice = c }) (choice_of x.choices.items h.number))) h.there
      ∙ ap (option_map (λ (c : ℕ). record { dynamic = b.dynamic; choice = c }))
      (is_choice h.number b.choice h.the_dynamic.choices.items h.choice)

  bound_are : (group : List ℕ) (b : Binding) → binding_named io dynamic group ≡ Some b → AreBound io dynamic group b
  bound_are group b q = by_dynamic (designated io dynamic true) refl q
    where
      by_choice : (d g : ℕ) (x : Dynamic) → designated io dynamic true ≡ Some (designators.Dynamic d)
          → designated io group true ≡ Some (designators.Group g) → slice_get io.dynamics.items d ≡ Some x
          → (o : Option ℕ) → choice_of x.choices.items g ≡ o
          → option_map (λ (c : ℕ). record { dynamic = d; choice = c }) o ≡ Some b → AreBound io dynamic group b
      by_choice d g x e f h None i z = absurd (nothing_there b z)
      by_choice d g x e f h (Some c) i z =
          subst (AreBound io dynamic group) (inside z) (record {
            dynamic_named = e;
            the_dynamic = x;
            there = h;
            number = g;
            group_named = f;
            choice = choice_is g c x.choices.items i;
          })

      by_place : (d g : ℕ) → designated io dynamic true ≡ Some (designators.Dynamic d)
          → designated io group true ≡ Some (designators.Group g)
          → (o : Option Dynamic) → slice_get io.dynamics.items d ≡ o
          → with_one o (λ x. option_map (λ (c : ℕ). record { dynamic = d; choice = c }) (choice_of x.choices.items g)) ≡ Some b
          → AreBound io dynamic group b
      by_place d g e f None h z = absurd (nothing_there b z)
      by_place d g e f (Some x) h z = by_choice d g x e f h (choice_of x.choices.items g) refl z

      by_group : (d : ℕ) → designated io dynamic true ≡ Some (designators.Dynamic d)
          → (o : Option Designator) → designated io group true ≡ o
          → with_both (Some (named.Dynamic d)) (with_one o group_at) (bound_to io) ≡ Some b → AreBound io dynamic group b
      by_group d e None f z = absurd (nothing_there b z)
      by_group d e (Some (designators.Port n)) f z = absurd (nothing_there b z)
      by_group d e (Some (designators.Dynamic n)) f z = absurd (nothing_there b z)
      by_group d e (Some (designators.Group n)) f z = by_place d n e f (slice_get io.dynamics.items d) refl z

      no_group : (n : ℕ) (o : Option NamedGroup) → with_both (Some (named.Group n)) o (bound_to io) ≡ Some b → ⊥
      no_group n None z = nothing_there b z
      no_group n (Some g) z = nothing_there b z

      by_dynamic : (o : Option Designator) → designated io dynamic true ≡ o
          → with_both (with_one o group_at) (group_named io group) (bound_to io) ≡ Some b → AreBound io dynamic group b
      by_dynamic None e z = absurd (nothing_there b z)
      by_dynamic (Some (designators.Port n)) e z = absurd (nothing_there b z)
      by_dynamic (Some (designators.Group n)) e z = absurd (no_group n (group_named io group) z)
      by_dynamic (Some (designators.Dynamic n)) e z = by_group n e (designated io group true) refl z

  -- the arguments of what is bound
  bound_names : (ys : Terms) (b : Binding) → Binds io dynamic ys b
      → (at : ℕ) × (group : List ℕ) × (ys ≡ term.terms (term.name at group) term.no_terms) × AreBound io dynamic group b
  bound_names _ b (bare {at = at} {group = group} h) = (at, group, refl, h)

  named_so : (at : ℕ) (group : List ℕ) (b : Binding) (x : t.Further)
      → terms_of_further x ≡ term.terms (term.name at group) term.no_terms
      → AreBound io dynamic group b → binding_of io dynamic x ≡ Some b
  named_so at group b t.no_further q h = absurd (let z : term.no_terms ≡ term.terms (term.name at group) term.no_terms = q in cc)
  named_so at group b (t.further s a (t.further r c more)) q h =
      absurd (let z : term.terms (term_of_assignment a) (term.terms (term_of_assignment c) (terms_of_further more))
      ≡ term.terms (term.name at group) term.no_terms = q in cc)
  named_so at group b (t.further s a t.no_further) q h =
      let z : term.terms (term_of_assignment a) term.no_terms ≡ term.terms (term.name at group) term.no_terms = q in
      let same : term_of_assignment a ≡ term.name at group = cc in
      let n = bare_assignment a at group same in
      ap (bound_by io dynamic) n.1 ∙ are_bound group b h

  pub is_binding : (x : t.Further) (b : Binding) → Binds io dynamic (terms_of_further x) b → binding_of io dynamic x ≡ Some b
  is_binding x b h = let n = bound_names (terms_of_further x) b h in named_so n.0 n.1 b x n.2 n.3

  pub binding_is : (x : t.Further) (b : Binding) → binding_of io dynamic x ≡ Some b → Binds io dynamic (terms_of_further x) b
  binding_is t.no_further b q = absurd (nothing_there b q)
  binding_is (t.further s a (t.further r c more)) b q = absurd (nothing_there b q)
  binding_is (t.further s a t.no_further) b q = by_name (bare_name a) refl q
    where
      by_name : (o : Option t.Identifier) → bare_name a ≡ o → bound_by io dynamic o ≡ Some b
          → Binds io dynamic (term.terms (term_of_assignment a) term.no_terms) b
      by_name None e z = absurd (nothing_there b z)
      by_name (Some (t.identifier r n)) e z =
          subst (λ (v : Term). Binds io dynamic (term.terms v term.no_terms) b) (sym (bare_term a (t.identifier r n) e))
          (bare (bound_are n b z))

  -- what is seen is what the walk finds, and nothing else is
  pub sees_binding : (x : t.Further) → SeesBinding io dynamic (terms_of_further x) (binding_of io dynamic x)
  sees_binding x = by (binding_of io dynamic x) refl
    where
      by : (o : Option Binding) → binding_of io dynamic x ≡ o → SeesBinding io dynamic (terms_of_further x) o
      by None e = λ b h. nothing_there b (sym e ∙ is_binding x b h)
      by (Some b) e = binding_is x b e

  pub seen_binding : (x : t.Further) (o : Option Binding) → SeesBinding io dynamic (terms_of_further x) o → o ≡ binding_of io dynamic x
  seen_binding x (Some b) h = sym (is_binding x b h)
  seen_binding x None h = by (binding_of io dynamic x) refl
    where
      by : (o : Option Binding) → binding_of io dynamic x ≡ o → None ≡ binding_of io dynamic x
      by None e = sym e
      by (Some b) e = absurd (h b (binding_is x b e))
