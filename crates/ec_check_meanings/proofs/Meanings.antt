-- An expression means just what the walk gives.
use Rattle.std.proofs.Common.{◌≡◌, ◌∙◌, ℕ, Bool, true, false, ◌+◌, List, [], ◌∷◌, length, refl, sym, ap, subst, arith}
use Rattle.std.specs.Prelude.{◌↔◌, ◌≢◌, ◌==◌, pos, ⊤, if◌then◌else◌, Option, Some, None, option_map}
use Rattle.std.proofs.lemmas.Bool.{false≢true}
use Rattle.std.proofs.lemmas.Bool.Decides.{Decides-eqb}
use Rattle.ec_grammar.specs.declared.Constant.{Constant}
use Rattle.ec_grammar.specs.declared.Constant.TheVariants as constants
use Rattle.ec_grammar.specs.declared.Operation.{Operation}
use Rattle.ec_grammar.specs.declared.Operation.TheVariants as operations
use Rattle.ec_grammar.specs.declared.Spot.{Spot}
use Rattle.ec_grammar.specs.declared.token.GroupOp.TheVariants as groups
use Rattle.ec_grammar.specs.declared.token.PunctKind.{PunctKind}
use Rattle.ec_grammar.specs.declared.token.PunctKind.TheVariants as punct
use Rattle.ec_grammar.specs.Trees as t
use Rattle.ec_core.specs.declared.arithmetic_types.Arithmetic.TheVariants.{Integer}
use Rattle.ec_core.specs.declared.expressions.BinOp.{BinOp}
use Rattle.ec_core.specs.declared.expressions.BinOp.TheVariants.{Add, Sub, Mul, Div, Rem, Shl, Shr, And, Or, Xor}
use Rattle.ec_core.specs.Laws.{TypesAreTold}
use Rattle.ec_core.specs.Plain.{PlainType, void, integer, struct, PlainExpr, number, call, bind}
use Rattle.ec_check_names.specs.Names.{Named, an_object, a_function, found}
use Rattle.ec_check_forms.specs.Accesses.{indexed, member_of}
use Rattle.ec_check_forms.specs.declared.ports.Binding.{Binding}
use Rattle.ec_check_forms.specs.declared.ports.NamedGroup.{NamedGroup}
use Rattle.ec_check_forms.specs.declared.ports.NamedGroup.TheVariants as named_groups
use Rattle.ec_check_forms.specs.Calls.{port_named, group_named, group_node, group_operation, binding_operation, size_value, called}
use Rattle.ec_check_forms.specs.Choices.{sequence, cast, chosen}
use Rattle.ec_check_forms.specs.Constraints.{IsComparison}
use Rattle.ec_check_forms.specs.Meanings.{HasNullType}
use Rattle.ec_check_forms.specs.Nodes.{used, used_part, condition, prefixed, assigned, compounded, stepped}
use Rattle.ec_check_operands.specs.Operands.{Operand, place, value, made, valued}
use Rattle.ec_check_operands.specs.Operators.{operated}
use Rattle.ec_check_operands.specs.Options.{with_one, with_both}
use Rattle.ec_check_expressions.specs.Arguments.{wanted_of, arguments, operands, arguments_in}
use Rattle.ec_check_expressions.specs.Bindings.{binding_of}
use Rattle.ec_check_expressions.specs.Callees.{name_in_postfix, Called, function_named, called_by, takes, exprs_of, call_of}
use Rattle.ec_check_expressions.specs.Counts.{further_count, argument_count}
use Rattle.ec_check_expressions.specs.Expressions.{of_expression, of_assignment, of_conditional, of_binary, of_cast, of_unary, of_postfix}
use Rattle.ec_check_expressions.specs.Expressions.{passed_arguments, passed_further, of_primary, operation_of, wanted_for}
use Rattle.ec_check_expressions.specs.Known.{Known}
use Rattle.ec_check_expressions.specs.Names.{named, constant_value}
use Rattle.ec_check_expressions.specs.Tokens.{operator_of, is_and, compound_operator, prefix_operator, is_up, is_arrow, joined_by}
use Rattle.ec_check_expressions.specs.Tokens.{stored_by}
use Rattle.ec_check_expressions.specs.Types.{meant_type}
use Rattle.ec_check_expressions.specs.TypeNames.{said_type, void_said, size_of_type_name}
use Rattle.ec_check_meanings.specs.Bindings.{Binds}
use Rattle.ec_check_meanings.specs.Laws.{WalkGivesMeanings}
use Rattle.ec_check_meanings.specs.Means as r
use Rattle.ec_check_meanings.specs.Means.{Means, Uses, not_void, Says}
use Rattle.ec_check_meanings.specs.Terms as term
use Rattle.ec_check_meanings.specs.Terms.{joined_term, stored_term, term_of_expression, term_of_assignment, term_of_conditional}
use Rattle.ec_check_meanings.specs.Terms.{term_of_binary, term_of_cast, term_of_unary, term_of_postfix, term_of_primary}
use Rattle.ec_check_meanings.specs.Terms.{terms_of_arguments}
use Rattle.ec_check_meanings.specs.Terms.{terms_of_further}
use Rattle.ec_check_meanings.proofs.Bindings.{is_binding, binding_is}
use Rattle.ec_check_meanings.proofs.Forms.{only, only_so, value_in, index_is, index_to, member_is, arrow_to, dot_to, IsStep, step_is}
use Rattle.ec_check_meanings.proofs.Forms.{step_to, prefix_is}
use Rattle.ec_check_meanings.proofs.Forms.{deref_to, plus_to, minus_to, invert_to, not_to}
use Rattle.ec_check_meanings.proofs.Names.{called_name, named_so, spelling_of}
use Rattle.ec_check_meanings.proofs.Operations.{operated_is, is_operated}
use Rattle.ec_check_meanings.proofs.Options.{clash, refuted, inside, nothing_there, with_given, with_granted}
use Rattle.ec_check_meanings.proofs.Parts.{IsOf, uses_of, used_to, FromOne, FromTwo, one_is, two_is, AllOf, AllOfThem, arguments_given}
use Rattle.ec_check_meanings.proofs.Parts.{given_arguments}
use Rattle.ec_check_meanings.proofs.Ports.{IsAccess, port_is, is_port}
use Rattle.ec_check_meanings.proofs.Stores.{meant_is, meant_to, size_is, size_to, cast_is, cast_to, logical_first, logical_second}
use Rattle.ec_check_meanings.proofs.Stores.{logical_is}
use Rattle.ec_check_meanings.proofs.Stores.{both_to, either_to, comma_first, comma_second, comma_is, comma_to, choice_in, choice_to}
use Rattle.ec_check_meanings.proofs.Stores.{assign_is}
use Rattle.ec_check_meanings.proofs.Stores.{assign_to, compound_is, compound_to, logical_by, comma_by, choice_by}

module _ (told : TypesAreTold) (k : Known) where
  -- ---- the null constant is an integer

  never : {A : Type 0} → false ≡ true → A
  never h = absurd (false≢true h)

  null_type : (x : term.Term) (o : Operand) → Means k x o → HasNullType o
  null_type _ _ (r.named q) = λ h. never h
  null_type _ _ r.null_constant = λ h. tt
  null_type _ _ (r.whole_constant n) = λ h. never h
  null_type _ _ r.fixed_constant = λ h. never h
  null_type _ _ (r.inside {x = x} {o = o} h) = null_type x o h
  null_type _ _ (r.indexed u v q h) = λ h. never h
  null_type _ _ (r.called h q b) = λ h. never h
  null_type _ _ (r.reached u q h) = λ h. never h
  null_type _ _ (r.part u h) = λ h. never h
  null_type _ _ (r.stepped_behind u h) = λ h. never h
  null_type _ _ (r.stepped_before u h) = λ h. never h
  null_type _ _ (r.address u) = λ h. never h
  null_type _ _ (r.pointed u q) = λ h. never h
  null_type _ _ (r.plus t u q h) = λ h. never h
  null_type _ _ (r.minus t u q h) = λ h. never h
  null_type _ _ (r.inverted t u q h) = λ h. never h
  null_type _ _ (r.negated u h) = λ h. never h
  null_type _ _ (r.sized h q) = λ h. never h
  null_type _ _ (r.casted h u q) = λ h. never h
  null_type _ _ (r.operated u v h) = λ h. never h
  null_type _ _ (r.both_true u v h q) = λ h. never h
  null_type _ _ (r.one_true u v h q) = λ h. never h
  null_type _ _ (r.chosen u h v w q b d) = λ h. never h
  null_type _ _ (r.assigned u h v q) = λ h. never h
  null_type _ _ (r.compounded u h v q a b d f) = λ h. never h
  null_type _ _ (r.sequence u h v q) = λ h. never h
  null_type _ _ (r.accessed q h f b) = λ h. never h
  null_type _ _ (r.acquired q) = λ h. never h
  null_type _ _ (r.released q) = λ h. never h
  null_type _ _ (r.acquired_choice q) = λ h. never h
  null_type _ _ (r.released_choice q) = λ h. never h
  null_type _ _ (r.mapped q) = λ h. never h

  uses_null : (x : term.Term) (a : Operand) → Uses k x a → HasNullType a
  uses_null x a (not_void h n) = null_type x a h

  -- ---- what a term means, by what the walk makes of its parts

  pub record IsCalled (x : term.Term) (ys : term.Terms) (o : Operand) : Type 0 where
    pub f : ℕ
    pub name_at : ℕ
    pub n : List ℕ
    pub returns : PlainType
    pub params : List PlainType
    pub es : List PlainExpr
    pub name : r.IsName name_at n x
    pub function : found n k.names ≡ Some (a_function (Some f) (Some returns) (Some params))
    pub brought : r.AreBrought k params ys es
    pub same : value (made k.modes returns (call f (exprs_of es))) false ≡ o

  pub record IsGroup (acquire : Bool) (n : List ℕ) (ys : term.Terms) (o : Operand) : Type 0 where
    pub of : NamedGroup
    pub none : ys ≡ term.no_terms
    pub there : group_named k.ports n ≡ Some of
    pub made_so : value (made k.modes void (group_node acquire of)) false ≡ o

  pub record IsBinding (n : List ℕ) (ys : term.Terms) (o : Operand) : Type 0 where
    pub of : Binding
    pub binds : Binds k.ports n ys of
    pub made_so : value (made k.modes void (bind of.dynamic of.choice)) false ≡ o

  abbrev pub Shown : term.Term → Operand → Type 0
  Shown (term.name at n) o = named (found n k.names) ≡ Some o
  Shown (term.constant at c) o = constant_value k.modes c ≡ o
  Shown (term.parenthesised at x) o = Means k x o
  Shown (term.operation at (operations.Port op) n ys) o = IsAccess k op (port_named k.ports n) ys o
  Shown (term.operation at (operations.Group groups.Acquire) n ys) o = IsGroup true n ys o
  Shown (term.operation at (operations.Group groups.Release) n ys) o = IsGroup false n ys o
  Shown (term.operation at (operations.Group groups.Map) n ys) o = IsBinding n ys o
  Shown (term.index x at y) o = FromTwo k x y (λ a b. indexed k.modes a b ≡ Some o)
  Shown (term.call x at ys) o = IsCalled x ys o
  Shown (term.member x at arrow name_at n) o = FromOne k x (λ a. member_of k.modes k.structs n arrow a ≡ Some o)
  Shown (term.stepped x at up) o = FromOne k x (λ a. stepped k.modes up false a ≡ Some o)
  Shown (term.step at up x) o = FromOne k x (λ a. stepped k.modes up true a ≡ Some o)
  Shown (term.prefixed at op x) o = FromOne k x (λ a. prefixed k.modes op a ≡ Some o)
  Shown (term.size at n) o =
      (ty : PlainType) × Says k n ty × r.HasSize (length k.structs) ty × (size_value k.modes k.structs ty ≡ o)
  Shown (term.cast at n x) o = (ty : PlainType) × Says k n ty × FromOne k x (λ a. cast k.modes ty a ≡ Some o)
  Shown (term.binary x at op y) o = FromTwo k x y (λ a b. operated k.modes op (Some a) (Some b) ≡ Some o)
  Shown (term.logical x at both y) o = FromTwo k x y (λ a b. logical_by k both (Some a) (Some b) ≡ Some o)
  Shown (term.choice c at x y) o = (w : Operand) × (a : Operand) × (b : Operand) × Uses k c w × Means k x a × Means k y b
      × (choice_by k told (Some w) a b ≡ Some o)
  Shown (term.assign x at y) o = FromTwo k x y (λ a b. assigned k.modes a b ≡ Some o)
  Shown (term.compound x at op y) o = FromTwo k x y (λ a b. compounded k.modes op a b ≡ Some o)
  Shown (term.comma x at y) o = FromTwo k x y (λ a b. comma_by k (Some a) (Some b) ≡ Some o)

  pub shown : (x : term.Term) (o : Operand) → Means k x o → Shown x o
  shown _ _ (r.named q) = ap named q
  shown _ _ r.null_constant = refl
  shown _ _ (r.whole_constant {n = n} {bytes = bytes} {signed = signed} h) =
      ap (value (made k.modes (integer signed bytes) (number (pos n)))) (unequal n h)
    where
      unequal : (n : ℕ) → n ≢ 0 → (n == 0) ≡ false
      unequal n h = refuted (n == 0) (λ e. h ((Decides-eqb n 0).0 e))
  shown _ _ r.fixed_constant = refl
  shown _ _ (r.inside h) = h
  shown _ _ (r.indexed {a = a} {b = b} {s = s} {const = c} {to = to} u v q h) = (a, b, u, v, index_to k told a b s c to q h)
  shown _ _ (r.called {name_at = name_at} {f = f} {n = n} {returns = returns} {params = params} {es = es} h q b) = record {
    f = f;
    name_at = name_at;
    n = n;
    returns = returns;
    params = params;
    es = es;
    name = h;
    function = q;
    brought = b;
    same = refl;
  }
  shown _ _ (r.reached {index = index} {i = i} {n = n} {a = a} {s = s} {const = c} {ty = ty} u q h) =
      (a, u, arrow_to k told n a s c index i ty q h)
  shown _ _ (r.part {index = index} {i = i} {n = n} {s = s} {const = c} {register = g} {q = f} {ty = ty} u h) =
      (place (struct index) c s g f, u, dot_to k told n c s g f index i ty h)
  shown _ _ (r.stepped_behind {up = up} {register = g} {ty = ty} {s = s} {q = f} u h) =
      (place ty false s g f, u, step_to k told up false ty s g f h)
  shown _ _ (r.stepped_before {up = up} {register = g} {ty = ty} {s = s} {q = f} u h) =
      (place ty false s g f, u, step_to k told up true ty s g f h)
  shown _ _ (r.address {ty = ty} {const = c} {s = s} {q = f} u) = (place ty c s false f, u, refl)
  shown _ _ (r.pointed {a = a} {s = s} {const = c} {to = to} u q) = (a, u, deref_to k told a s c to q)
  shown _ _ (r.plus {a = a} {e = e} t u q h) = (a, u, plus_to k told a t e q h)
  shown _ _ (r.minus {a = a} {e = e} t u q h) = (a, u, minus_to k told a t e q h)
  shown _ _ (r.inverted {a = a} {e = e} t u q h) = (a, u, invert_to k told a (Integer t) e q refl h)
  shown _ _ (r.negated {a = a} u h) = (a, u, not_to k told a h)
  shown _ _ (r.sized {ty = ty} h q) = (ty, h, q, refl)
  shown _ _ (r.casted {ty = ty} {a = a} {e = e} h u q) = (ty, h, (a, u, cast_to told k.modes ty a e q))
  shown _ _ (r.operated {op = op} {x = x} {y = y} {a = a} {b = b} {e = e} u v h) =
      (a, b, u, v, is_operated told k.modes op a b (uses_null x a u) (uses_null y b v) e h)
  shown _ _ (r.both_true {a = a} {b = b} u v h q) = (a, b, u, v, both_to k a b h q)
  shown _ _ (r.one_true {a = a} {b = b} u v h q) = (a, b, u, v, either_to k a b h q)
  shown _ _ (r.chosen {x = x} {y = y} {w = w} {a = a} {b = b} {ty = ty} {e = e} {f = f} u h v z q i j) =
      (w, a, b, u, v, z, choice_to k told w a b (null_type x a v) (null_type y b z) ty e f h q i j)
  shown _ _ (r.assigned {ty = ty} {register = g} {s = s} {q = f} {b = b} {e = e} u h v q) =
      (place ty false s g f, b, u, v, assign_to k told ty s g f b e h q)
  shown _ _ (r.compounded {op = op} {ty = ty} {register = g} {s = s} {q = f} {b = b} {mode = mode} u h v n i j l z) =
      (place ty false s g f, b, u, v, compound_to k told op ty s g f b mode h n i j l z)
  shown _ _ (r.sequence {a = a} {b = b} u h v q) = (a, b, u, v, comma_to k a b h q)
  shown _ _ (r.accessed {p = p} {tys = tys} {es = es} {index = index} {contents = contents} q h f b) = record {
    p = p;
    tys = tys;
    es = es;
    index = index;
    contents = contents;
    there = q;
    reaches = h;
    takes = f;
    brought = b;
    made_so = refl;
  }
  shown _ _ (r.acquired {g = g} q) = record { of = named_groups.Group g; none = refl; there = q; made_so = refl }
  shown _ _ (r.released {g = g} q) = record { of = named_groups.Group g; none = refl; there = q; made_so = refl }
  shown _ _ (r.acquired_choice {d = d} q) = record { of = named_groups.Dynamic d; none = refl; there = q; made_so = refl }
  shown _ _ (r.released_choice {d = d} q) = record { of = named_groups.Dynamic d; none = refl; there = q; made_so = refl }
  shown _ _ (r.mapped {b = b} q) = record { of = b; binds = q; made_so = refl }

  -- ---- names, constants, calls and groups mean what the walk gives

  name_is : (at : ℕ) (n : List ℕ) (o : Operand) → named (found n k.names) ≡ Some o → Means k (term.name at n) o
  name_is at n o h = by_what (found n k.names) refl h
    where
      by_what : (what : Option Named) → found n k.names ≡ what → named what ≡ Some o → Means k (term.name at n) o
      by_what None e h = absurd (nothing_there o h)
      by_what (Some (a_function i returns params)) e h = absurd (nothing_there o h)
      by_what (Some (an_object None ty c s g)) e h = absurd (nothing_there o h)
      by_what (Some (an_object (Some i) None c s g)) e h = absurd (nothing_there o h)
      by_what (Some (an_object (Some i) (Some ty) c s g)) e h =
          subst (Means k (term.name at n)) (inside h) (r.named e)

  abbrev whole_value : (signed : Bool) (bytes n : ℕ) → Bool → Operand
  whole_value signed bytes n zero = value (made k.modes (integer signed bytes) (number (pos n))) zero

  constant_is : (at : ℕ) (x : Constant) (o : Operand) → constant_value k.modes x ≡ o → Means k (term.constant at x) o
  constant_is at (constants.Fixed kind n) o h = subst (Means k (term.constant at (constants.Fixed kind n))) h r.fixed_constant
  constant_is at (constants.Whole n signed bytes) o h = by_value (n == 0) refl
    where
      by_value : (b : Bool) → (n == 0) ≡ b → Means k (term.constant at (constants.Whole n signed bytes)) o
      by_value true e =
          let null : n ≡ 0 = (Decides-eqb n 0).0 e in
          let same : whole_value signed bytes n true ≡ o = ap (whole_value signed bytes n) (sym e) ∙ h in
          subst (Means k (term.constant at (constants.Whole n signed bytes))) same
          (subst (λ (z : ℕ). Means k (term.constant at (constants.Whole z signed bytes)) (whole_value signed bytes z true)) (sym null)
          r.null_constant)
      by_value false e =
          let same : whole_value signed bytes n false ≡ o = ap (whole_value signed bytes n) (sym e) ∙ h in
          subst (Means k (term.constant at (constants.Whole n signed bytes))) same
          (r.whole_constant (λ z. clash ((Decides-eqb n 0).1 z) e))

  acquire_is : (at : ℕ) (n : List ℕ) (ys : term.Terms) (o : Operand) → IsGroup true n ys o
      → Means k (term.operation at (operations.Group groups.Acquire) n ys) o
  acquire_is at n ys o h =
      subst (λ (z : term.Terms). Means k (term.operation at (operations.Group groups.Acquire) n z) o) (sym h.none)
      (subst (Means k (term.operation at (operations.Group groups.Acquire) n term.no_terms)) h.made_so (by h.of h.there))
    where
      by : (g : NamedGroup) → group_named k.ports n ≡ Some g
          → Means k (term.operation at (operations.Group groups.Acquire) n term.no_terms)
          (value (made k.modes void (group_node true g)) false)
      by (named_groups.Group i) q = r.acquired q
      by (named_groups.Dynamic i) q = r.acquired_choice q

  release_is : (at : ℕ) (n : List ℕ) (ys : term.Terms) (o : Operand) → IsGroup false n ys o
      → Means k (term.operation at (operations.Group groups.Release) n ys) o
  release_is at n ys o h =
      subst (λ (z : term.Terms). Means k (term.operation at (operations.Group groups.Release) n z) o) (sym h.none)
      (subst (Means k (term.operation at (operations.Group groups.Release) n term.no_terms)) h.made_so (by h.of h.there))
    where
      by : (g : NamedGroup) → group_named k.ports n ≡ Some g
          → Means k (term.operation at (operations.Group groups.Release) n term.no_terms)
          (value (made k.modes void (group_node false g)) false)
      by (named_groups.Group i) q = r.released q
      by (named_groups.Dynamic i) q = r.released_choice q

  map_is : (at : ℕ) (n : List ℕ) (ys : term.Terms) (o : Operand) → IsBinding n ys o
      → Means k (term.operation at (operations.Group groups.Map) n ys) o
  map_is at n ys o h = subst (Means k (term.operation at (operations.Group groups.Map) n ys)) h.made_so (r.mapped h.binds)

  operated_so : (x y : term.Term) (at : ℕ) (op : BinOp) (a b o : Operand) → Uses k x a → Uses k y b
      → operated k.modes op (Some a) (Some b) ≡ Some o
      → Means k (term.binary x at op y) o
  operated_so x y at op a b o u v q =
      let g = operated_is told k.modes op a b (uses_null x a u) (uses_null y b v) o q in
      subst (Means k (term.binary x at op y)) g.1 (r.operated u v g.2)

  cast_so : (at : ℕ) (n : t.TypeName) (x : term.Term) (ty : PlainType) (a o : Operand) → Says k n ty → Uses k x a
      → cast k.modes ty a ≡ Some o
      → Means k (term.cast at n x) o
  cast_so at n x ty a o h u q =
      let g = cast_is told k.modes ty a o q in subst (Means k (term.cast at n x)) g.2 (r.casted h u g.1)

  before_so : (at : ℕ) (up : Bool) (x : term.Term) (o : Operand) → IsStep k told x up true o → Means k (term.step at up x) o
  before_so at up x o h = subst (Means k (term.step at up x)) h.same (r.stepped_before h.uses h.scalar)

  behind_so : (x : term.Term) (at : ℕ) (up : Bool) (o : Operand) → IsStep k told x up false o → Means k (term.stepped x at up) o
  behind_so x at up o h = subst (Means k (term.stepped x at up)) h.same (r.stepped_behind h.uses h.scalar)

  -- no compound assignment compares
  abbrev IsFine : term.Term → Type 0
  IsFine (term.compound x at op y) = ¬ IsComparison op
  IsFine x = ⊤

  means : (x : term.Term) → IsFine x → (o : Operand) → Shown x o → Means k x o
  means (term.name at n) fine o h = name_is at n o h
  means (term.constant at c) fine o h = constant_is at c o h
  means (term.parenthesised at x) fine o h = r.inside h
  means (term.operation at (operations.Port op) n ys) fine o h =
      subst (Means k (term.operation at (operations.Port op) n ys)) h.made_so (r.accessed h.there h.reaches h.takes h.brought)
  means (term.operation at (operations.Group groups.Acquire) n ys) fine o h = acquire_is at n ys o h
  means (term.operation at (operations.Group groups.Release) n ys) fine o h = release_is at n ys o h
  means (term.operation at (operations.Group groups.Map) n ys) fine o h = map_is at n ys o h
  means (term.index x at y) fine o h = index_is k told x y at h.0 h.1 o h.2 h.3 h.4
  means (term.call x at ys) fine o h = subst (Means k (term.call x at ys)) h.same (r.called h.name h.function h.brought)
  means (term.member x at arrow name_at n) fine o h = member_is k told x at name_at arrow n h.0 o h.1 h.2
  means (term.stepped x at up) fine o h = behind_so x at up o (step_is k told x up false h.0 o h.1 h.2)
  means (term.step at up x) fine o h = before_so at up x o (step_is k told x up true h.0 o h.1 h.2)
  means (term.prefixed at op x) fine o h = prefix_is k told x at op h.0 o h.1 h.2
  means (term.size at n) fine o h = subst (Means k (term.size at n)) h.3 (r.sized h.1 h.2)
  means (term.cast at n x) fine o h = cast_so at n x h.0 h.2.0 o h.1 h.2.1 h.2.2
  means (term.binary x at op y) fine o h = operated_so x y at op h.0 h.1 o h.2 h.3 h.4
  means (term.logical x at both y) fine o h = logical_is k x y at both h.0 h.1 o h.2 h.3 h.4
  means (term.choice c at x y) fine o h =
      choice_in k told c x y at h.0 h.1 h.2 o (null_type x h.1 h.4) (null_type y h.2 h.5) h.3 h.4 h.5 h.6
  means (term.assign x at y) fine o h = assign_is k told x y at h.0 h.1 o h.2 h.3 h.4
  means (term.compound x at op y) fine o h = compound_is k told x y at op fine h.0 h.1 o h.2 h.3 h.4
  means (term.comma x at y) fine o h = comma_is k x y at h.0 h.1 o h.2 h.3 h.4

  as_shown : (x : term.Term) → IsFine x → (o : Operand) → Means k x o ↔ Shown x o
  as_shown x fine o = (shown x o, means x fine o)

  -- ---- productions

  not_compared : (a o : BinOp) → ¬ IsComparison a → Some a ≡ Some o → ¬ IsComparison o
  not_compared a o n q h = n (subst IsComparison (sym (inside q)) h)

  compound_known : (op : PunctKind) (o : BinOp) → compound_operator op ≡ Some o → ¬ IsComparison o
  compound_known punct.StarAssign o q = not_compared Mul o (λ h. h) q
  compound_known punct.SlashAssign o q = not_compared Div o (λ h. h) q
  compound_known punct.PercentAssign o q = not_compared Rem o (λ h. h) q
  compound_known punct.PlusAssign o q = not_compared Add o (λ h. h) q
  compound_known punct.MinusAssign o q = not_compared Sub o (λ h. h) q
  compound_known punct.ShiftLeftAssign o q = not_compared Shl o (λ h. h) q
  compound_known punct.ShiftRightAssign o q = not_compared Shr o (λ h. h) q
  compound_known punct.AmpersandAssign o q = not_compared And o (λ h. h) q
  compound_known punct.CaretAssign o q = not_compared Xor o (λ h. h) q
  compound_known punct.BarAssign o q = not_compared Or o (λ h. h) q
  compound_known op o q = absurd (nothing_there o q)

  module _ (x y : term.Term) (at : ℕ) (m n : Option Operand) (h : IsOf k x m) (g : IsOf k y n) where
    store_is : (op : PunctKind) (z : Option BinOp) → compound_operator op ≡ z
        → IsOf k (stored_term z x at y) (stored_by k.modes z (used m) (used n))
    store_is op None e =
        two_is k (term.assign x at y) x y m n h g (λ u v. with_both u v (assigned k.modes)) (λ v o q. nothing_there o q)
        (λ u o q. nothing_there o q)
        (as_shown (term.assign x at y) tt)
    store_is op (Some o) e =
        two_is k (term.compound x at o y) x y m n h g (λ u v. with_both u v (compounded k.modes o)) (λ v w q. nothing_there w q)
        (λ u w q. nothing_there w q) (as_shown (term.compound x at o y) (compound_known op o e))

    join_is : (op : PunctKind) (z : Option BinOp) → IsOf k (joined_term z op x at y) (joined_by k.modes op z (used m) (used n))
    join_is op None =
        two_is k (term.logical x at (is_and op) y) x y m n h g (logical_by k (is_and op)) (logical_first k (is_and op))
        (logical_second k (is_and op)) (as_shown (term.logical x at (is_and op) y) tt)
    join_is op (Some o) =
        two_is k (term.binary x at o y) x y m n h g (operated k.modes o) (λ v w q. nothing_there w q) (λ u w q. nothing_there w q)
        (as_shown (term.binary x at o y) tt)

    index_so : IsOf k (term.index x at y) (with_both (used m) (used n) (indexed k.modes))
    index_so =
        two_is k (term.index x at y) x y m n h g (λ u v. with_both u v (indexed k.modes)) (λ v o q. nothing_there o q)
        (λ u o q. nothing_there o q)
        (as_shown (term.index x at y) tt)

    comma_so : IsOf k (term.comma x at y) (with_both (used_part (used m)) (used_part (used n)) (sequence k.modes))
    comma_so = two_is k (term.comma x at y) x y m n h g (comma_by k) (comma_first k) (comma_second k) (as_shown (term.comma x at y) tt)

  abbrev with_condition : Option Operand → Operand → Operand → Option Operand
  with_condition u a b = with_one (condition k.modes u) (λ w. chosen k.modes w a b)

  choose_is : (c x y : term.Term) (at : ℕ) (l m n : Option Operand) → IsOf k c l → IsOf k x m → IsOf k y n
      → IsOf k (term.choice c at x y) (with_both m n (λ a b. with_one (condition k.modes (used l)) (λ w. chosen k.modes w a b)))
  choose_is c x y at l m n f h g o = (there, back)
    where
      there : Means k (term.choice c at x y) o → with_both m n (with_condition (used l)) ≡ Some o
      there z =
          let s = shown (term.choice c at x y) o z in
          with_granted m (λ a. with_one n (λ b. with_condition (used l) a b)) s.1 o ((h s.1).0 s.4)
          (with_granted n (λ b. with_condition (used l) s.1 b) s.2 o ((g s.2).0 s.5)
          (ap (λ (u : Option Operand). with_condition u s.1 s.2) (used_to k c l f s.0 s.3) ∙ s.6))

      by_condition : (a b : Operand) → Means k x a → Means k y b → (u : Option Operand) → used l ≡ u → with_condition u a b ≡ Some o
          → Means k (term.choice c at x y) o
      by_condition a b p q None e z = absurd (nothing_there o z)
      by_condition a b p q (Some w) e z = means (term.choice c at x y) tt o (w, a, b, uses_of k c l f w e, p, q, z)

      back : with_both m n (with_condition (used l)) ≡ Some o → Means k (term.choice c at x y) o
      back q =
          let a = with_given m (λ a. with_one n (λ b. with_condition (used l) a b)) o q in
          let b = with_given n (λ b. with_condition (used l) a.0 b) o a.2 in
          by_condition a.0 b.0 ((h a.0).1 a.1) ((g b.0).1 b.1) (used l) refl b.2

  says_is : (n : t.TypeName) (ty : PlainType) → meant_type (void_said k.tags n) (said_type k.tags n) ≡ Some ty → Says k n ty
  says_is n ty q = let g = meant_is (void_said k.tags n) (said_type k.tags n) ty q in record { no_void = g.0; said = g.1 }

  is_said : (n : t.TypeName) (ty : PlainType) → Says k n ty → meant_type (void_said k.tags n) (said_type k.tags n) ≡ Some ty
  is_said n ty h = meant_to (void_said k.tags n) (said_type k.tags n) ty h.no_void h.said

  cast_of : (at : ℕ) (n : t.TypeName) (x : term.Term) (m : Option Operand) → IsOf k x m
      → IsOf k (term.cast at n x) (with_both (meant_type (void_said k.tags n) (said_type k.tags n)) (used m) (cast k.modes))
  cast_of at n x m h o = (there, back)
    where
      there : Means k (term.cast at n x) o
          → with_both (meant_type (void_said k.tags n) (said_type k.tags n)) (used m) (cast k.modes) ≡ Some o
      there z =
          let s = shown (term.cast at n x) o z in
          with_granted (meant_type (void_said k.tags n) (said_type k.tags n)) (λ ty. with_one (used m) (λ a. cast k.modes ty a)) s.0 o
          (is_said n s.0 s.1) (with_granted (used m) (λ a. cast k.modes s.0 a) s.2.0 o (used_to k x m h s.2.0 s.2.1) s.2.2)

      back : with_both (meant_type (void_said k.tags n) (said_type k.tags n)) (used m) (cast k.modes) ≡ Some o
          → Means k (term.cast at n x) o
      back q =
          let ty = with_given (meant_type (void_said k.tags n) (said_type k.tags n)) (λ ty. with_one (used m) (λ a. cast k.modes ty a)) o
          q in
          let a = with_given (used m) (λ a. cast k.modes ty.0 a) o ty.2 in
          cast_so at n x ty.0 a.0 o (says_is n ty.0 ty.1) (uses_of k x m h a.0 a.1) a.2

  size_of : (at : ℕ) (n : t.TypeName)
      → IsOf k (term.size at n) (size_of_type_name k.modes k.structs (meant_type (void_said k.tags n) (said_type k.tags n)))
  size_of at n o = (there, back)
    where
      there : Means k (term.size at n) o
          → size_of_type_name k.modes k.structs (meant_type (void_said k.tags n) (said_type k.tags n)) ≡ Some o
      there z =
          let s = shown (term.size at n) o z in
          size_to k.modes k.structs (meant_type (void_said k.tags n) (said_type k.tags n)) s.0 (is_said n s.0 s.1) s.2
          ∙ ap (λ (z : Operand). Some z) s.3

      back : size_of_type_name k.modes k.structs (meant_type (void_said k.tags n) (said_type k.tags n)) ≡ Some o
          → Means k (term.size at n) o
      back q =
          let g = size_is k.modes k.structs (meant_type (void_said k.tags n) (said_type k.tags n)) o q in
          means (term.size at n) tt o (g.0, says_is n g.0 g.1, g.2, g.3)

  -- ---- calls

  mapped : {A B : Type 0} → (f : A → B) (o : Option A) (b : B) → option_map f o ≡ Some b → (a : A) × (o ≡ Some a) × (f a ≡ b)
  mapped f None b q = absurd (nothing_there b q)
  mapped f (Some a) b q = (a, refl, inside q)

  module _ (p : t.Postfix) (l : Spot) (a : t.Arguments) (all : AllOfThem k a) (o : Operand) where
    abbrev given_by : Option (List PlainType) → Option (List PlainExpr)
    given_by params = arguments_in (passed_arguments k (wanted_of params) (arguments (Some [])) a)

    abbrev call_by : Called → Option Operand
    call_by f = call_of k.modes f (argument_count a) (given_by f.params)

    called_is : (n : List ℕ) (at : ℕ) → r.IsName at n (term_of_postfix p) → (f : ℕ) (ty : PlainType) (ts : List PlainType)
        → found n k.names ≡ Some (a_function (Some f) (Some ty) (Some ts))
        → (if length ts == argument_count a then called k.modes f ty (option_map exprs_of (given_by (Some ts))) else None) ≡ Some o
        → IsCalled (term_of_postfix p) (terms_of_arguments a) o
    called_is n at name f ty ts e q =
        let g = only (length ts == argument_count a) (called k.modes f ty (option_map exprs_of (given_by (Some ts)))) o q in
        let h = with_given (option_map exprs_of (given_by (Some ts))) (λ es. valued (made k.modes ty (call f es))) o g.1 in
        let i = mapped exprs_of (given_by (Some ts)) h.0 h.1 in record {
          f = f;
          name_at = at;
          n = n;
          returns = ty;
          params = ts;
          es = i.0;
          name = name;
          function = e;
          brought = arguments_given k told l a all ts i.0 ((Decides-eqb (length ts) (argument_count a)).0 g.0) i.1;
          same = ap (λ es. value (made k.modes ty (call f es)) false) i.2 ∙ value_in (made k.modes ty (call f h.0)) o h.2;
        }

    by_what : (n : List ℕ) (at : ℕ) → r.IsName at n (term_of_postfix p) → (what : Option Named) → found n k.names ≡ what
        → with_one (function_named at what) call_by ≡ Some o → IsCalled (term_of_postfix p) (terms_of_arguments a) o
    by_what n at name None e q = absurd (nothing_there o q)
    by_what n at name (Some (an_object i ty c s g)) e q = absurd (nothing_there o q)
    by_what n at name (Some (a_function None ty ts)) e q = absurd (nothing_there o q)
    by_what n at name (Some (a_function (Some f) None ts)) e q = absurd (nothing_there o q)
    by_what n at name (Some (a_function (Some f) (Some ty) None)) e q = absurd (nothing_there o q)
    by_what n at name (Some (a_function (Some f) (Some ty) (Some ts))) e q = called_is n at name f ty ts e q

    by_name : (z : Option t.Identifier) → name_in_postfix p ≡ z → with_one (called_by k z) call_by ≡ Some o
        → IsCalled (term_of_postfix p) (terms_of_arguments a) o
    by_name None e q = absurd (nothing_there o q)
    by_name (Some (t.identifier s n)) e q = by_what n s.index (called_name p s n e) (found n k.names) refl q

    called_to : IsCalled (term_of_postfix p) (terms_of_arguments a) o → with_one (called_by k (name_in_postfix p)) call_by ≡ Some o
    called_to h =
        let s = spelling_of (name_in_postfix p) h.name_at h.n (named_so p h.name_at h.n h.name) in
        let g = given_arguments k told l a all h.params h.es h.brought in
        ap (λ z. with_one (called_by k z) call_by) s.1
        ∙ ap (λ what. with_one (function_named s.0.index what) call_by) h.function
        ∙ only_so (length h.params == argument_count a) (called k.modes h.f h.returns (option_map exprs_of (given_by (Some h.params))))
        (Some o)
        ((Decides-eqb (length h.params) (argument_count a)).1 g.1)
        (ap (λ z. called k.modes h.f h.returns (option_map exprs_of z)) g.0 ∙ ap (λ (z : Operand). Some z) h.same)

    call_is : Means k (term.call (term_of_postfix p) l.index (terms_of_arguments a)) o
        ↔ with_one (called_by k (name_in_postfix p)) call_by ≡ Some o
    call_is = (
      λ z. called_to (shown (term.call (term_of_postfix p) l.index (terms_of_arguments a)) o z),
      λ q. means (term.call (term_of_postfix p) l.index (terms_of_arguments a)) tt o (by_name (name_in_postfix p) refl q),
    )

  -- ---- operations of <iohw.h>

  no_more : (x : t.Further) → further_count x ≡ 0 → terms_of_further x ≡ term.no_terms
  no_more t.no_further e = refl
  no_more (t.further s a rest) e = absurd (let z : further_count rest + 1 ≡ 0 = e in omega arith)

  none_more : (x : t.Further) → terms_of_further x ≡ term.no_terms → further_count x ≡ 0
  none_more t.no_further e = refl
  none_more (t.further s a rest) e =
      absurd (let z : term.terms (term_of_assignment a) (terms_of_further rest) ≡ term.no_terms = e in cc)

  module _ (n : List ℕ) (x : t.Further) (o : Operand) where
    abbrev group_value : Bool → NamedGroup → Option Operand
    group_value acquire g = valued (made k.modes void (group_node acquire g))

    abbrev binding_value : Binding → Option Operand
    binding_value b = valued (made k.modes void (bind b.dynamic b.choice))

    group_to : (acquire : Bool) → IsGroup acquire n (terms_of_further x) o
        → group_operation k.modes acquire (group_named k.ports n) (further_count x) ≡ Some o
    group_to acquire s =
        only_so (further_count x == 0) (with_one (group_named k.ports n) (group_value acquire)) (Some o)
        ((Decides-eqb (further_count x) 0).1 (none_more x s.none))
        (with_granted (group_named k.ports n) (group_value acquire) s.of o s.there (ap Some s.made_so))

    group_is : (acquire : Bool) → group_operation k.modes acquire (group_named k.ports n) (further_count x) ≡ Some o
        → IsGroup acquire n (terms_of_further x) o
    group_is acquire q =
        let g = only (further_count x == 0) (with_one (group_named k.ports n) (group_value acquire)) o q in
        let h = with_given (group_named k.ports n) (group_value acquire) o g.1 in record {
          of = h.0;
          none = no_more x ((Decides-eqb (further_count x) 0).0 g.0);
          there = h.1;
          made_so = value_in (made k.modes void (group_node acquire h.0)) o h.2;
        }

    binding_to : IsBinding n (terms_of_further x) o → binding_operation k.modes (binding_of k.ports n x) ≡ Some o
    binding_to s =
        with_granted (binding_of k.ports n x) binding_value s.of o (is_binding k.ports n x s.of s.binds) (ap Some s.made_so)

    is_bound : binding_operation k.modes (binding_of k.ports n x) ≡ Some o → IsBinding n (terms_of_further x) o
    is_bound q =
        let h = with_given (binding_of k.ports n x) binding_value o q in record {
          of = h.0;
          binds = binding_is k.ports n x h.0 h.1;
          made_so = value_in (made k.modes void (bind h.0.dynamic h.0.choice)) o h.2;
        }

  operation_so : (at : ℕ) (op : Operation) (n : List ℕ) (x : t.Further) → AllOf k x
      → IsOf k (term.operation at op n (terms_of_further x))
      (operation_of k op n x (passed_further k (wanted_for op) (operands None None) 1 x))
  operation_so at (operations.Group groups.Acquire) n x all o = (
    λ z. group_to n x o true (shown (term.operation at (operations.Group groups.Acquire) n (terms_of_further x)) o z),
    λ q. acquire_is at n (terms_of_further x) o (group_is n x o true q),
  )
  operation_so at (operations.Group groups.Release) n x all o = (
    λ z. group_to n x o false (shown (term.operation at (operations.Group groups.Release) n (terms_of_further x)) o z),
    λ q. release_is at n (terms_of_further x) o (group_is n x o false q),
  )
  operation_so at (operations.Group groups.Map) n x all o = (
    λ z. binding_to n x o (shown (term.operation at (operations.Group groups.Map) n (terms_of_further x)) o z),
    λ q. map_is at n (terms_of_further x) o (is_bound n x o q),
  )
  operation_so at (operations.Port op) n x all o = (
    λ z. is_port told k op (port_named k.ports n) x all o (shown (term.operation at (operations.Port op) n (terms_of_further x)) o z),
    λ q. means (term.operation at (operations.Port op) n (terms_of_further x)) tt o (port_is told k op (port_named k.ports n) x all o q),
  )

  -- ---- trees

  inside_is : (at : ℕ) (x : term.Term) (m : Option Operand) → IsOf k x m → IsOf k (term.parenthesised at x) m
  inside_is at x m h o = (λ z. (h o).0 (shown (term.parenthesised at x) o z), λ q. r.inside ((h o).1 q))

  name_so : (at : ℕ) (n : List ℕ) → IsOf k (term.name at n) (named (found n k.names))
  name_so at n o = (shown (term.name at n) o, name_is at n o)

  constant_so : (at : ℕ) (c : Constant) → IsOf k (term.constant at c) (Some (constant_value k.modes c))
  constant_so at c o = (
    λ z. ap (λ (v : Operand). Some v) (shown (term.constant at c) o z),
    λ q. constant_is at c o (inside q),
  )

  mutual
    pub is_expression : (x : t.Expression) → IsOf k (term_of_expression x) (of_expression k x)
    is_expression (t.single a) = is_assignment a
    is_expression (t.comma e s a) =
        comma_so (term_of_expression e) (term_of_assignment a) s.index (of_expression k e) (of_assignment k a) (is_expression e)
        (is_assignment a)

    pub is_assignment : (x : t.Assignment) → IsOf k (term_of_assignment x) (of_assignment k x)
    is_assignment (t.value c) = is_conditional c
    is_assignment (t.assign u s op a) =
        store_is (term_of_unary u) (term_of_assignment a) s.index (of_unary k u) (of_assignment k a) (is_unary u) (is_assignment a)
        op (compound_operator op) refl

    pub is_conditional : (x : t.Conditional) → IsOf k (term_of_conditional x) (of_conditional k x)
    is_conditional (t.plain b) = is_binary b
    is_conditional (t.choose b q e s c) =
        choose_is (term_of_binary b) (term_of_expression e) (term_of_conditional c) q.index (of_binary k b) (of_expression k e)
        (of_conditional k c) (is_binary b) (is_expression e) (is_conditional c)

    pub is_binary : (x : t.Binary) → IsOf k (term_of_binary x) (of_binary k x)
    is_binary (t.operand c) = is_cast c
    is_binary (t.join a s op b) =
        join_is (term_of_binary a) (term_of_binary b) s.index (of_binary k a) (of_binary k b) (is_binary a) (is_binary b) op
        (operator_of op)

    pub is_cast : (x : t.Cast) → IsOf k (term_of_cast x) (of_cast k x)
    is_cast (t.uncast u) = is_unary u
    is_cast (t.convert l n r c) = cast_of l.index n (term_of_cast c) (of_cast k c) (is_cast c)

    pub is_unary : (x : t.Unary) → IsOf k (term_of_unary x) (of_unary k x)
    is_unary (t.postfix p) = is_postfix p
    is_unary (t.step s op u) =
        one_is k (term.step s.index (is_up op) (term_of_unary u)) (term_of_unary u) (of_unary k u) (is_unary u)
        (stepped k.modes (is_up op) true) (as_shown (term.step s.index (is_up op) (term_of_unary u)) tt)
    is_unary (t.prefix s op c) =
        one_is k (term.prefixed s.index (prefix_operator op) (term_of_cast c)) (term_of_cast c) (of_cast k c) (is_cast c)
        (prefixed k.modes (prefix_operator op)) (as_shown (term.prefixed s.index (prefix_operator op) (term_of_cast c)) tt)
    is_unary (t.size s l n r) = size_of s.index n

    pub is_postfix : (x : t.Postfix) → IsOf k (term_of_postfix x) (of_postfix k x)
    is_postfix (t.primary p) = is_primary p
    is_postfix (t.index p l e r) =
        index_so (term_of_postfix p) (term_of_expression e) l.index (of_postfix k p) (of_expression k e) (is_postfix p) (is_expression e)
    is_postfix (t.call p l a r) = call_is p l a (all_arguments a)
    is_postfix (t.member p s op (t.identifier at n)) =
        one_is k (term.member (term_of_postfix p) s.index (is_arrow op) at.index n) (term_of_postfix p) (of_postfix k p) (is_postfix p)
        (member_of k.modes k.structs n (is_arrow op)) (as_shown (term.member (term_of_postfix p) s.index (is_arrow op) at.index n) tt)
    is_postfix (t.stepped p s op) =
        one_is k (term.stepped (term_of_postfix p) s.index (is_up op)) (term_of_postfix p) (of_postfix k p) (is_postfix p)
        (stepped k.modes (is_up op) false) (as_shown (term.stepped (term_of_postfix p) s.index (is_up op)) tt)

    all_arguments : (x : t.Arguments) → AllOfThem k x
    all_arguments t.no_arguments = tt
    all_arguments (t.arguments a rest) = (is_assignment a, all_further rest)

    all_further : (x : t.Further) → AllOf k x
    all_further t.no_further = tt
    all_further (t.further s a rest) = (is_assignment a, all_further rest)

    is_primary : (x : t.Primary) → IsOf k (term_of_primary x) (of_primary k x)
    is_primary (t.name (t.identifier s n)) = name_so s.index n
    is_primary (t.constant s c) = constant_so s.index c
    is_primary (t.parenthesised l e r) = inside_is l.index (term_of_expression e) (of_expression k e) (is_expression e)
    is_primary (t.operation s op l (t.identifier at n) more r) = operation_so s.index op n more (all_further more)

pub walk_gives_meanings : TypesAreTold → WalkGivesMeanings
walk_gives_meanings told k = record {
  expressions = is_expression told k;
  assignments = is_assignment told k;
  conditionals = is_conditional told k;
}
