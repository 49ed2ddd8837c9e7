-- The sites of an expression are those where the walk judges.
use Rattle.std.proofs.Common.{◌≡◌, ◌∙◌, ℕ, zero, suc, Bool, true, false, ◌+◌, List, [], ◌∷◌, length, refl, sym, ap, subst, inl, inr}
use Rattle.std.proofs.Common.{arith, zero-add}
use Rattle.std.specs.Prelude.{◌⊎◌, ◌↔◌, is_some, Option, Some, None}
use Rattle.ec_grammar.specs.declared.Operation.{Operation}
use Rattle.ec_grammar.specs.declared.Operation.TheVariants as operations
use Rattle.ec_grammar.specs.declared.token.GroupOp.TheVariants as groups
use Rattle.ec_grammar.specs.Trees.{TypeName}
use Rattle.ec_core.specs.Plain.{PlainType}
use Rattle.ec_check_names.specs.Names.{Named, an_object, a_function, found}
use Rattle.ec_check_forms.specs.declared.ports.Binding.{Binding}
use Rattle.ec_check_forms.specs.Calls.{port_named, group_named}
use Rattle.ec_check_forms.specs.Nodes.{used}
use Rattle.ec_check_forms.specs.Sites.{a_name, a_callee, a_call, a_use, a_part, an_operation, a_logical, a_prefix, a_step}
use Rattle.ec_check_forms.specs.Sites.{an_index, a_member, an_assignment, a_compound, a_passing, a_choice, a_cast, a_port}
use Rattle.ec_check_forms.specs.Sites.{a_group, a_binding, a_function as a_function_name}
use Rattle.ec_check_operands.specs.Operands.{Operand}
use Rattle.ec_check_expressions.specs.Known.{Known}
use Rattle.ec_check_expressions.specs.Names.{what_is_meant}
use Rattle.ec_check_expressions.specs.Sites.{Site, on, a_type_name}
use Rattle.ec_check_expressions.specs.TypeNames.{said_type}
use Rattle.ec_check_meanings.specs.Bindings.{SeesBinding}
use Rattle.ec_check_meanings.specs.Sites as w
use Rattle.ec_check_meanings.specs.Sites.{Sees, SeesUsed, Calls, CallsFunction, count, IsAt, type_at, type_of_operand, IsUsed}
use Rattle.ec_check_meanings.specs.Sites.{IsLookedInto}
use Rattle.ec_check_meanings.specs.Sites.{SiteOf, SiteIn, own, inner}
use Rattle.ec_check_meanings.specs.Terms as term
use Rattle.ec_check_meanings.specs.Terms.{Term, Terms, TakesValues, first}
use Rattle.ec_space.specs.declared.space.SpaceId.{SpaceId}
use Rattle.ec_check_meanings.proofs.Names.{name_of, name_is, is_name}
use Rattle.ec_check_meanings.proofs.Options.{inside, nothing_there}
use Rattle.ec_check_meanings.proofs.Parts.{IsOf, uses_of, used_to}

no_function : (i : Option ℕ) (ty : Option PlainType) (konst : Bool) (space : SpaceId) (register : Bool) (number : Option ℕ)
    (returns : Option PlainType) (params : Option (List PlainType))
    → an_object i ty konst space register ≡ a_function number returns params → ⊥
no_function i ty konst space register number returns params q = cc

module _ (k : Known) where
  -- ---- what is seen

  pub sees_of : (x : Term) (m : Option Operand) → IsOf k x m → Sees k x m
  sees_of x None h = λ o g. nothing_there o ((h o).0 g)
  sees_of x (Some o) h = (h o).1 refl

  pub of_sees : (x : Term) (m : Option Operand) → IsOf k x m → (n : Option Operand) → Sees k x n → n ≡ m
  of_sees x None h None s = refl
  of_sees x (Some o) h None s = absurd (s o ((h o).1 refl))
  of_sees x m h (Some o) s = sym ((h o).0 s)

  pub used_sees : (x : Term) (m : Option Operand) → IsOf k x m → SeesUsed k x (used m)
  used_sees x m h = by_value (used m) refl
    where
      by_value : (v : Option Operand) → used m ≡ v → SeesUsed k x v
      by_value None e = λ o u. nothing_there o (sym e ∙ used_to k x m h o u)
      by_value (Some a) e = uses_of k x m h a e

  pub of_used : (x : Term) (m : Option Operand) → IsOf k x m → (n : Option Operand) → SeesUsed k x n → n ≡ used m
  of_used x m h (Some a) s = sym (used_to k x m h a s)
  of_used x m h None s = by_value (used m) refl
    where
      by_value : (v : Option Operand) → used m ≡ v → None ≡ used m
      by_value None e = sym e
      by_value (Some a) e = absurd (s a (uses_of k x m h a e))

  -- ---- the sites of each operator, in a row

  abbrev pub Used : Term → Site → Type 0
  Used x s = SiteIn k x s ⊎ ((m : Option Operand) × Sees k x m × (s ≡ on (a_use m (first x))))

  abbrev pub One : Term → Site → (Option Operand → Site) → Type 0
  One x s P = Used x s ⊎ ((m : Option Operand) × SeesUsed k x m × (s ≡ P m))

  abbrev pub Two : Term → Term → Site → (Option Operand → Option Operand → Site) → Type 0
  Two x y s P = Used x s ⊎ (Used y s ⊎ ((m : Option Operand) × (n : Option Operand) × SeesUsed k x m × SeesUsed k y n × (s ≡ P m n)))

  abbrev pub Row : Terms → ℕ → (ℕ → Option PlainType) → Site → Type 0
  Row term.no_terms i T s = ⊥
  Row (term.terms x ys) i T s =
      Used x s ⊎ (((m : Option Operand) × SeesUsed k x m × (s ≡ on (a_passing m (T i) (first x)))) ⊎ Row ys (i + 1) T s)

  abbrev pub Counted : Option (List PlainType) → Terms → (at : ℕ) → Site → Type 0
  Counted None ys at s = ⊥
  Counted (Some tys) ys at s = s ≡ on (a_call (length tys) (count ys) at)

  -- nothing is known of the types of arguments
  abbrev pub no_type : ℕ → Option PlainType
  no_type i = None

  abbrev pub Uncalled : Term → Terms → Site → Type 0
  Uncalled x ys s = ¬ CallsFunction k x × ((s ≡ on (a_callee false (first x))) ⊎ (SiteIn k x s ⊎ Row ys 0 no_type s))

  abbrev pub IsCalled : Term → (at : ℕ) → Terms → Site → Type 0
  IsCalled x at ys s = (name_at : ℕ) × (number : Option ℕ) × (params : Option (List PlainType)) × Calls k x name_at number params
      × ((s ≡ on (a_callee true (first x))) ⊎ ((s ≡ on (a_function_name (is_some number) name_at))
      ⊎ (Counted params ys at s ⊎ Row ys 0 (type_at params) s)))

  -- those of an operation whose arguments are values
  abbrev pub Operated : Operation → Terms → (node : Site) → Site → Type 0
  Operated op ys node s = Row ys 0 (type_of_operand op) s ⊎ (s ≡ node)

  -- that of `iogroup_map`
  abbrev pub Mapped : List ℕ → Terms → (at : ℕ) → Site → Type 0
  Mapped n ys at s = (b : Option Binding) × SeesBinding k.ports n ys b × (s ≡ on (a_binding b at))

  abbrev pub Listed : Term → Site → Type 0
  Listed (term.name at n) s = s ≡ on (a_name (what_is_meant (found n k.names)) at)
  Listed (term.constant at c) s = ⊥
  Listed (term.parenthesised at x) s = SiteIn k x s
  Listed (term.operation at (operations.Port op) n ys) s =
      Operated (operations.Port op) ys (on (a_port op (port_named k.ports n) (count ys) at)) s
  Listed (term.operation at (operations.Group groups.Acquire) n ys) s =
      Operated (operations.Group groups.Acquire) ys (on (a_group (group_named k.ports n) (count ys) at)) s
  Listed (term.operation at (operations.Group groups.Release) n ys) s =
      Operated (operations.Group groups.Release) ys (on (a_group (group_named k.ports n) (count ys) at)) s
  Listed (term.operation at (operations.Group groups.Map) n ys) s = Mapped n ys at s
  Listed (term.index x at y) s = Two x y s (λ m n. on (an_index m n at))
  Listed (term.call x at ys) s = Uncalled x ys s ⊎ IsCalled x at ys s
  Listed (term.member x at arrow name_at n) s = One x s (λ m. on (a_member k.structs n arrow m at name_at))
  Listed (term.stepped x at up) s = One x s (λ m. on (a_step m at))
  Listed (term.step at up x) s = One x s (λ m. on (a_step m at))
  Listed (term.prefixed at op x) s = One x s (λ m. on (a_prefix op m at))
  Listed (term.size at n) s = s ≡ a_type_name k.tags n
  Listed (term.cast at n x) s = (s ≡ a_type_name k.tags n) ⊎ One x s (λ m. on (a_cast (said_type k.tags n) m at))
  Listed (term.binary x at op y) s = Two x y s (λ m n. on (an_operation op m n at))
  Listed (term.logical x at both y) s = Two x y s (λ m n. on (a_logical m n at))
  Listed (term.choice c at x y) s = Used c s ⊎ (SiteIn k x s ⊎ (SiteIn k y s
      ⊎ ((l : Option Operand) × (m : Option Operand) × (n : Option Operand) × SeesUsed k c l × Sees k x m × Sees k y n
      × (s ≡ on (a_choice l m n at)))))
  Listed (term.assign x at y) s = Two x y s (λ m n. on (an_assignment m n at))
  Listed (term.compound x at op y) s = Two x y s (λ m n. on (a_compound op m n at))
  Listed (term.comma x at y) s = One x s (λ m. on (a_part m (first x))) ⊎ One y s (λ m. on (a_part m (first y)))

  row_used : (x : Term) (i : ℕ) (ys : Terms) → IsAt x i ys → (j : ℕ) (T : ℕ → Option PlainType) (s : Site) → Used x s → Row ys j T s
  row_used x _ _ w.here j T s u = inl u
  row_used x _ _ (w.later {i = i} {ys = ys} a) j T s u = inr (inr (row_used x i ys a (j + 1) T s u))

  row_passing : (x : Term) (i : ℕ) (ys : Terms) → IsAt x i ys → (j : ℕ) (T : ℕ → Option PlainType) (m : Option Operand) → SeesUsed k x m
      → Row ys j T (on (a_passing m (T (j + i)) (first x)))
  row_passing x _ _ w.here j T m u =
      inr (inl (m, u, ap (λ (n : ℕ). on (a_passing m (T n) (first x))) (let e : j + 0 ≡ j = omega arith in e)))
  row_passing x _ _ (w.later {i = i} {ys = ys} a) j T m u =
      inr (inr (subst (λ (n : ℕ). Row ys (j + 1) T (on (a_passing m (T n) (first x)))) (let e : j + 1 + i ≡ j + suc i = omega arith in e)
      (row_passing x i ys a (j + 1) T m u)))

  -- what is called is the name of a function, or not
  calls_or_not : (x : Term) → CallsFunction k x ⊎ (¬ CallsFunction k x)
  calls_or_not x = by_name (name_of x) refl
    where
      same_name : (at : ℕ) (n : List ℕ) → name_of x ≡ Some (at, n) → (c : CallsFunction k x) → n ≡ c.3.name
      same_name at n e c = ap (λ (z : ℕ × List ℕ). z.1) (inside (sym e ∙ is_name c.0 c.3.name x c.3.named))

      by_what : (at : ℕ) (n : List ℕ) → name_of x ≡ Some (at, n) → (what : Option Named) → found n k.names ≡ what
          → CallsFunction k x ⊎ (¬ CallsFunction k x)
      by_what at n e None g =
          inr (λ c. nothing_there (a_function c.1 c.3.returns c.2)
          (sym g ∙ ap (λ (z : List ℕ). found z k.names) (same_name at n e c) ∙ c.3.function))
      by_what at n e (Some (an_object i ty konst space register)) g =
          inr (λ c. no_function i ty konst space register c.1 c.3.returns c.2
          (inside (sym g ∙ ap (λ (z : List ℕ). found z k.names) (same_name at n e c) ∙ c.3.function)))
      by_what at n e (Some (a_function i returns params)) g =
          inl (at, i, params, record { name = n; returns = returns; named = name_is at n x e; function = g })

      by_name : (o : Option (ℕ × List ℕ)) → name_of x ≡ o → CallsFunction k x ⊎ (¬ CallsFunction k x)
      by_name None e = inr (λ c. nothing_there (c.0, c.3.name) (sym e ∙ is_name c.0 c.3.name x c.3.named))
      by_name (Some n) e = by_what n.0 n.1 e (found n.1 k.names) refl

  argument_used : (x y : Term) (at i : ℕ) (ys : Terms) → IsAt x i ys → (s : Site) → Used x s → CallsFunction k y ⊎ (¬ CallsFunction k y)
      → Uncalled y ys s ⊎ IsCalled y at ys s
  argument_used x y at i ys a s u (inl c) = inr (c.0, c.1, c.2, c.3, inr (inr (inr (row_used x i ys a 0 (type_at c.2) s u))))
  argument_used x y at i ys a s u (inr n) = inl (n, inr (inr (row_used x i ys a 0 no_type s u)))

  of_used_part : (x y : Term) → IsUsed x y → (s : Site) → Used x s → Listed y s
  of_used_part x _ (w.operand {i = i} {op = operations.Port op} {ys = ys} v a) s u =
      inl (row_used x i ys a 0 (type_of_operand (operations.Port op)) s u)
  of_used_part x _ (w.operand {i = i} {op = operations.Group groups.Acquire} {ys = ys} v a) s u =
      inl (row_used x i ys a 0 (type_of_operand (operations.Group groups.Acquire)) s u)
  of_used_part x _ (w.operand {i = i} {op = operations.Group groups.Release} {ys = ys} v a) s u =
      inl (row_used x i ys a 0 (type_of_operand (operations.Group groups.Release)) s u)
  of_used_part x _ (w.operand {op = operations.Group groups.Map} v a) s u = absurd v
  of_used_part x _ w.before_index s u = inl u
  of_used_part x _ w.in_index s u = inr (inl u)
  of_used_part x _ (w.argument {at = at} {i = i} {y = y} {ys = ys} a) s u = argument_used x y at i ys a s u (calls_or_not y)
  of_used_part x _ w.before_member s u = inl u
  of_used_part x _ w.before_step s u = inl u
  of_used_part x _ w.behind_step s u = inl u
  of_used_part x _ w.behind_prefix s u = inl u
  of_used_part x _ w.behind_cast s u = inr (inl u)
  of_used_part x _ w.left_operand s u = inl u
  of_used_part x _ w.right_operand s u = inr (inl u)
  of_used_part x _ w.left_condition s u = inl u
  of_used_part x _ w.right_condition s u = inr (inl u)
  of_used_part x _ w.condition s u = inl u
  of_used_part x _ w.assigned_place s u = inl u
  of_used_part x _ w.assigned_value s u = inr (inl u)
  of_used_part x _ w.changed_place s u = inl u
  of_used_part x _ w.changing_value s u = inr (inl u)
  of_used_part x _ w.before_comma s u = inl (inl u)
  of_used_part x _ w.behind_comma s u = inr (inl u)

  operand_passing : (op : Operation) (i : ℕ) (x : Term) (ys : Terms) (m : Option Operand) → IsAt x i ys → SeesUsed k x m
      → Row ys 0 (type_of_operand op) (on (a_passing m (type_of_operand op i) (first x)))
  operand_passing op i x ys m a h =
      subst (λ (n : ℕ). Row ys 0 (type_of_operand op) (on (a_passing m (type_of_operand op n) (first x)))) (zero-add i)
      (row_passing x i ys a 0 (type_of_operand op) m h)

  of_own : (y : Term) (s : Site) → SiteOf k y s → Listed y s
  of_own _ _ (w.of_use {x = x} {y = y} {m = m} u h) = of_used_part x y u (on (a_use m (first x))) (inr (m, h, refl))
  of_own _ _ w.of_name = refl
  of_own _ _ w.of_port = inr refl
  of_own _ _ w.of_acquire = inr refl
  of_own _ _ w.of_release = inr refl
  of_own _ _ (w.of_map {b = b} h) = (b, h, refl)
  of_own _ _ (w.of_operand {i = i} {op = operations.Port op} {x = x} {ys = ys} {m = m} v a h) =
      inl (operand_passing (operations.Port op) i x ys m a h)
  of_own _ _ (w.of_operand {i = i} {op = operations.Group groups.Acquire} {x = x} {ys = ys} {m = m} v a h) =
      inl (operand_passing (operations.Group groups.Acquire) i x ys m a h)
  of_own _ _ (w.of_operand {i = i} {op = operations.Group groups.Release} {x = x} {ys = ys} {m = m} v a h) =
      inl (operand_passing (operations.Group groups.Release) i x ys m a h)
  of_own _ _ (w.of_operand {op = operations.Group groups.Map} v a h) = absurd v
  of_own _ _ (w.of_callee c) = inr (c.0, c.1, c.2, c.3, inl refl)
  of_own _ _ (w.of_no_callee n) = inl (n, inl refl)
  of_own _ _ (w.of_function {name_at = name_at} {number = number} {params = params} c) = inr (name_at, number, params, c, inr (inl refl))
  of_own _ _ (w.of_call {name_at = name_at} {number = number} {tys = tys} c) =
      inr (name_at, number, Some tys, c, inr (inr (inl refl)))
  of_own _ _ (w.of_argument {name_at = name_at} {i = i} {y = y} {ys = ys} {number = number} {params = params} {m = m} c a h) =
      inr (
        name_at,
        number,
        params,
        c,
        inr (inr (inr
            (subst (λ (n : ℕ). Row ys 0 (type_at params) (on (a_passing m (type_at params n) (first y)))) (zero-add i)
            (row_passing y i ys a 0 (type_at params) m h)))),
      )
  of_own _ _ (w.of_other_argument {i = i} {y = y} {ys = ys} {m = m} n a h) =
      inl (n, inr (inr (row_passing y i ys a 0 no_type m h)))
  of_own _ _ (w.of_index {m = m} {n = n} h g) = inr (inr (m, n, h, g, refl))
  of_own _ _ (w.of_member {m = m} h) = inr (m, h, refl)
  of_own _ _ (w.of_step_behind {m = m} h) = inr (m, h, refl)
  of_own _ _ (w.of_step {m = m} h) = inr (m, h, refl)
  of_own _ _ (w.of_prefix {m = m} h) = inr (m, h, refl)
  of_own _ _ w.of_size = refl
  of_own _ _ w.of_type = inl refl
  of_own _ _ (w.of_cast {m = m} h) = inr (inr (m, h, refl))
  of_own _ _ (w.of_binary {m = m} {n = n} h g) = inr (inr (m, n, h, g, refl))
  of_own _ _ (w.of_logical {m = m} {n = n} h g) = inr (inr (m, n, h, g, refl))
  of_own _ _ (w.of_choice {l = l} {m = m} {n = n} h g f) = inr (inr (inr (l, m, n, h, g, f, refl)))
  of_own _ _ (w.of_assignment {m = m} {n = n} h g) = inr (inr (m, n, h, g, refl))
  of_own _ _ (w.of_compound {m = m} {n = n} h g) = inr (inr (m, n, h, g, refl))
  of_own _ _ (w.of_left_part {m = m} h) = inl (inr (m, h, refl))
  of_own _ _ (w.of_right_part {m = m} h) = inr (inr (m, h, refl))

  of_inner : (x y : Term) → IsLookedInto k x y → (s : Site) → SiteIn k x s → Listed y s
  of_inner x _ (w.used {y = y} u) s h = of_used_part x y u s (inl h)
  of_inner x _ w.in_parentheses s h = h
  of_inner x _ w.first_branch s h = inr (inl h)
  of_inner x _ w.second_branch s h = inr (inr (inl h))
  of_inner x _ (w.called n) s h = inl (n, inr (inl h))

  pub listed : (y : Term) (s : Site) → SiteIn k y s → Listed y s
  listed y s (own h) = of_own y s h
  listed y s (inner {x = x} p h) = of_inner x y p s h

  -- ---- back

  used_back : (x y : Term) → IsUsed x y → (s : Site) → Used x s → SiteIn k y s
  used_back x y u s (inl h) = inner (w.used u) h
  used_back x y u s (inr (m, h, q)) = subst (SiteIn k y) (sym q) (own (w.of_use u h))

  one_back : (x y : Term) → IsUsed x y → (P : Option Operand → Site) → ((m : Option Operand) → SeesUsed k x m → SiteOf k y (P m))
      → (s : Site) → One x s P → SiteIn k y s
  one_back x y u P f s (inl h) = used_back x y u s h
  one_back x y u P f s (inr (m, h, q)) = subst (SiteIn k y) (sym q) (own (f m h))

  two_back : (x y z : Term) → IsUsed x z → IsUsed y z → (P : Option Operand → Option Operand → Site)
      → ((m n : Option Operand) → SeesUsed k x m → SeesUsed k y n → SiteOf k z (P m n)) → (s : Site) → Two x y s P → SiteIn k z s
  two_back x y z u v P f s (inl h) = used_back x z u s h
  two_back x y z u v P f s (inr (inl h)) = used_back y z v s h
  two_back x y z u v P f s (inr (inr (m, n, h, g, q))) = subst (SiteIn k z) (sym q) (own (f m n h g))

  row_back : (ys : Terms) (z : Term) (j : ℕ) (T : ℕ → Option PlainType) → ((x : Term) (i : ℕ) → IsAt x i ys → IsUsed x z)
      → ((x : Term) (i : ℕ) (m : Option Operand) → IsAt x i ys → SeesUsed k x m → SiteOf k z (on (a_passing m (T (j + i)) (first x))))
      → (s : Site) → Row ys j T s → SiteIn k z s
  row_back term.no_terms z j T f g s h = absurd h
  row_back (term.terms x ys) z j T f g s (inl h) = used_back x z (f x 0 w.here) s h
  row_back (term.terms x ys) z j T f g s (inr (inl (m, h, q))) =
      subst (SiteIn k z) (sym q)
      (own (subst (λ (n : ℕ). SiteOf k z (on (a_passing m (T n) (first x)))) (let e : j + 0 ≡ j = omega arith in e) (g x 0 m w.here h)))
  row_back (term.terms x ys) z j T f g s (inr (inr h)) =
      row_back ys z (j + 1) T (λ v i a. f v (suc i) (w.later a))
      (λ v i m a u. subst (λ (n : ℕ). SiteOf k z (on (a_passing m (T n) (first v)))) (let e : j + suc i ≡ j + 1 + i = omega arith in e)
      (g v (suc i) m (w.later a) u)) s h

  operation_back : (at : ℕ) (op : Operation) (n : List ℕ) (ys : Terms) (node : Site) → TakesValues op
      → SiteOf k (term.operation at op n ys) node
      → (s : Site) → Operated op ys node s → SiteIn k (term.operation at op n ys) s
  operation_back at op n ys node t f s (inr q) = subst (SiteIn k (term.operation at op n ys)) (sym q) (own f)
  operation_back at op n ys node t f s (inl h) =
      row_back ys (term.operation at op n ys) 0 (type_of_operand op) (λ v i a. w.operand t a)
      (λ v i m a u. subst (λ (j : ℕ). SiteOf k (term.operation at op n ys) (on (a_passing m (type_of_operand op j) (first v))))
      (sym (zero-add i)) (w.of_operand t a u)) s h

  map_back : (at : ℕ) (n : List ℕ) (ys : Terms) (s : Site) → Mapped n ys at s
      → SiteIn k (term.operation at (operations.Group groups.Map) n ys) s
  map_back at n ys s (b, h, q) = subst (SiteIn k (term.operation at (operations.Group groups.Map) n ys)) (sym q) (own (w.of_map h))

  counted_back : (x : Term) (at : ℕ) (ys : Terms) (name_at : ℕ) (number : Option ℕ) (params : Option (List PlainType))
      → Calls k x name_at number params → (s : Site) → Counted params ys at s → SiteIn k (term.call x at ys) s
  counted_back x at ys name_at number None c s h = absurd h
  counted_back x at ys name_at number (Some tys) c s q = subst (SiteIn k (term.call x at ys)) (sym q) (own (w.of_call c))

  call_back : (x : Term) (at : ℕ) (ys : Terms) (s : Site) → Uncalled x ys s ⊎ IsCalled x at ys s → SiteIn k (term.call x at ys) s
  call_back x at ys s (inl (n, inl q)) = subst (SiteIn k (term.call x at ys)) (sym q) (own (w.of_no_callee n))
  call_back x at ys s (inl (n, inr (inl h))) = inner (w.called n) h
  call_back x at ys s (inl (n, inr (inr h))) =
      row_back ys (term.call x at ys) 0 no_type (λ v i a. w.argument a) (λ v i m a u. w.of_other_argument n a u) s h
  call_back x at ys s (inr (name_at, number, params, c, inl q)) =
      subst (SiteIn k (term.call x at ys)) (sym q) (own (w.of_callee (name_at, number, params, c)))
  call_back x at ys s (inr (name_at, number, params, c, inr (inl q))) = subst (SiteIn k (term.call x at ys)) (sym q) (own (w.of_function c))
  call_back x at ys s (inr (name_at, number, params, c, inr (inr (inl h)))) = counted_back x at ys name_at number params c s h
  call_back x at ys s (inr (name_at, number, params, c, inr (inr (inr h)))) =
      row_back ys (term.call x at ys) 0 (type_at params) (λ v i a. w.argument a)
      (λ v i m a u. subst (λ (j : ℕ). SiteOf k (term.call x at ys) (on (a_passing m (type_at params j) (first v))))
      (sym (zero-add i)) (w.of_argument c a u)) s h

  choice_back : (c x y : Term) (at : ℕ) (s : Site) → Listed (term.choice c at x y) s → SiteIn k (term.choice c at x y) s
  choice_back c x y at s (inl h) = used_back c (term.choice c at x y) w.condition s h
  choice_back c x y at s (inr (inl h)) = inner w.first_branch h
  choice_back c x y at s (inr (inr (inl h))) = inner w.second_branch h
  choice_back c x y at s (inr (inr (inr (l, m, n, h, g, f, q)))) =
      subst (SiteIn k (term.choice c at x y)) (sym q) (own (w.of_choice h g f))

  cast_back : (at : ℕ) (n : TypeName) (x : Term) (s : Site) → Listed (term.cast at n x) s → SiteIn k (term.cast at n x) s
  cast_back at n x s (inl q) = subst (SiteIn k (term.cast at n x)) (sym q) (own w.of_type)
  cast_back at n x s (inr h) =
      one_back x (term.cast at n x) w.behind_cast (λ m. on (a_cast (said_type k.tags n) m at)) (λ m h. w.of_cast h) s h

  comma_back : (x y : Term) (at : ℕ) (s : Site) → Listed (term.comma x at y) s → SiteIn k (term.comma x at y) s
  comma_back x y at s (inl h) =
      one_back x (term.comma x at y) w.before_comma (λ m. on (a_part m (first x))) (λ m h. w.of_left_part h) s h
  comma_back x y at s (inr h) =
      one_back y (term.comma x at y) w.behind_comma (λ m. on (a_part m (first y))) (λ m h. w.of_right_part h) s h

  pub unlisted : (y : Term) (s : Site) → Listed y s → SiteIn k y s
  unlisted (term.name at n) s q = subst (SiteIn k (term.name at n)) (sym q) (own w.of_name)
  unlisted (term.constant at c) s h = absurd h
  unlisted (term.parenthesised at x) s h = inner w.in_parentheses h
  unlisted (term.operation at (operations.Port op) n ys) s h = operation_back at (operations.Port op) n ys _ tt w.of_port s h
  unlisted (term.operation at (operations.Group groups.Acquire) n ys) s h =
      operation_back at (operations.Group groups.Acquire) n ys _ tt w.of_acquire s h
  unlisted (term.operation at (operations.Group groups.Release) n ys) s h =
      operation_back at (operations.Group groups.Release) n ys _ tt w.of_release s h
  unlisted (term.operation at (operations.Group groups.Map) n ys) s h = map_back at n ys s h
  unlisted (term.index x at y) s h =
      two_back x y (term.index x at y) w.before_index w.in_index (λ m n. on (an_index m n at)) (λ m n h g. w.of_index h g) s h
  unlisted (term.call x at ys) s h = call_back x at ys s h
  unlisted (term.member x at arrow name_at n) s h =
      one_back x (term.member x at arrow name_at n) w.before_member (λ m. on (a_member k.structs n arrow m at name_at))
      (λ m h. w.of_member h) s h
  unlisted (term.stepped x at up) s h =
      one_back x (term.stepped x at up) w.before_step (λ m. on (a_step m at)) (λ m h. w.of_step_behind h) s h
  unlisted (term.step at up x) s h = one_back x (term.step at up x) w.behind_step (λ m. on (a_step m at)) (λ m h. w.of_step h) s h
  unlisted (term.prefixed at op x) s h =
      one_back x (term.prefixed at op x) w.behind_prefix (λ m. on (a_prefix op m at)) (λ m h. w.of_prefix h) s h
  unlisted (term.size at n) s q = subst (SiteIn k (term.size at n)) (sym q) (own w.of_size)
  unlisted (term.cast at n x) s h = cast_back at n x s h
  unlisted (term.binary x at op y) s h =
      two_back x y (term.binary x at op y) w.left_operand w.right_operand (λ m n. on (an_operation op m n at))
      (λ m n h g. w.of_binary h g) s h
  unlisted (term.logical x at both y) s h =
      two_back x y (term.logical x at both y) w.left_condition w.right_condition (λ m n. on (a_logical m n at))
      (λ m n h g. w.of_logical h g) s h
  unlisted (term.choice c at x y) s h = choice_back c x y at s h
  unlisted (term.assign x at y) s h =
      two_back x y (term.assign x at y) w.assigned_place w.assigned_value (λ m n. on (an_assignment m n at))
      (λ m n h g. w.of_assignment h g) s h
  unlisted (term.compound x at op y) s h =
      two_back x y (term.compound x at op y) w.changed_place w.changing_value (λ m n. on (a_compound op m n at))
      (λ m n h g. w.of_compound h g) s h
  unlisted (term.comma x at y) s h = comma_back x y at s h
