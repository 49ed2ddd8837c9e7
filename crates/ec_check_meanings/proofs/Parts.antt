-- What the parts of an expression mean, where it is known that the walk gives just that.
use Rattle.std.proofs.Common.{◌≡◌, ◌∙◌, ℕ, Bool, ◌+◌, ◌++◌, List, [], ◌∷◌, length, append_assoc, refl, sym, ap, subst}
use Rattle.std.proofs.Common.{arith, zero-add}
use Rattle.std.proofs.Common.{zero, suc}
use Rattle.std.specs.Prelude.{◌↔◌, ◌≢◌, if◌then◌else◌, ⊤, Option, Some, None, slice_get}
use Rattle.std.proofs.lemmas.List.{append-nil}
use Rattle.ec_grammar.specs.declared.Spot.{Spot}
use Rattle.ec_grammar.specs.Trees as t
use Rattle.ec_core.specs.Laws.{TypesAreTold}
use Rattle.ec_core.specs.Plain.{PlainType, PlainExpr}
use Rattle.ec_check_forms.proofs.Decided.{voids}
use Rattle.ec_check_forms.specs.Nodes.{used}
use Rattle.ec_check_operands.specs.Operands.{Operand, value_type}
use Rattle.ec_check_operands.specs.Options.{with_one}
use Rattle.ec_check_operands.specs.Passing.{brought, passed}
use Rattle.ec_check_operands.specs.Sorts.{is_void}
use Rattle.ec_check_expressions.specs.Arguments.{parameters, arguments, appended, arguments_in}
use Rattle.ec_check_expressions.specs.Counts.{further_count, argument_count}
use Rattle.ec_check_expressions.specs.Expressions.{of_assignment, passed_arguments, passed_further}
use Rattle.ec_check_expressions.specs.Known.{Known}
use Rattle.ec_check_meanings.specs.Conversions.{IsPassed}
use Rattle.ec_check_meanings.specs.Means.{Means, Uses, not_void, AreBrought, none, more}
use Rattle.ec_check_meanings.specs.Terms as term
use Rattle.ec_check_meanings.specs.Terms.{term_of_assignment, terms_of_further, terms_of_arguments}
use Rattle.ec_check_meanings.proofs.Conversions.{brought_is, is_brought}
use Rattle.ec_check_meanings.proofs.Options.{clash, refuted, inside, nothing_there, with_given, with_granted, unless}

module _ (k : Known) where
  -- a term means just what the walk gives
  abbrev pub IsOf : term.Term → Option Operand → Type 0
  IsOf x m = (o : Operand) → Means k x o ↔ m ≡ Some o

  pub uses_of : (x : term.Term) (m : Option Operand) → IsOf x m → (a : Operand) → used m ≡ Some a → Uses k x a
  uses_of x None h a q = absurd (nothing_there a q)
  uses_of x (Some y) h a q =
      let g = unless (is_void (value_type y)) (Some y) a q in
      not_void ((h a).1 g.1) (λ e. let same : y ≡ a = inside g.1 in
      clash ((voids (value_type y)).1 (ap value_type same ∙ e)) g.0)

  pub used_to : (x : term.Term) (m : Option Operand) → IsOf x m → (a : Operand) → Uses k x a → used m ≡ Some a
  used_to x m h a (not_void g n) =
      ap used ((h a).0 g)
      ∙ ap (λ (z : Bool). if z then None else Some a) (refuted (is_void (value_type a)) (λ e. n ((voids (value_type a)).0 e)))

  -- ---- forms of one and of two operands

  abbrev pub FromOne : term.Term → (Operand → Type 0) → Type 0
  FromOne x P = (a : Operand) × Uses k x a × P a

  abbrev pub FromTwo : term.Term → term.Term → (Operand → Operand → Type 0) → Type 0
  FromTwo x y P = (a : Operand) × (b : Operand) × Uses k x a × Uses k y b × P a b

  pub one_is : (T x : term.Term) (m : Option Operand) → IsOf x m → (F : Operand → Option Operand)
      → ((o : Operand) → Means k T o ↔ FromOne x (λ a. F a ≡ Some o)) → IsOf T (with_one (used m) F)
  one_is T x m h F s o = (there, back)
    where
      there : Means k T o → with_one (used m) F ≡ Some o
      there z = let g = (s o).0 z in with_granted (used m) F g.0 o (used_to x m h g.0 g.1) g.2

      back : with_one (used m) F ≡ Some o → Means k T o
      back q = let g = with_given (used m) F o q in (s o).1 (g.0, uses_of x m h g.0 g.1, g.2)

  pub two_is : (T x y : term.Term) (m n : Option Operand) → IsOf x m → IsOf y n → (G : Option Operand → Option Operand → Option Operand)
      → ((v : Option Operand) (o : Operand) → G None v ≡ Some o → ⊥) → ((u o : Operand) → G (Some u) None ≡ Some o → ⊥)
      → ((o : Operand) → Means k T o ↔ FromTwo x y (λ a b. G (Some a) (Some b) ≡ Some o)) → IsOf T (G (used m) (used n))
  two_is T x y m n h g G first second s o = (there, λ q. back (used m) (used n) refl refl q)
    where
      there : Means k T o → G (used m) (used n) ≡ Some o
      there z =
          let p = (s o).0 z in
          ap (λ (u : Option Operand). G u (used n)) (used_to x m h p.0 p.2) ∙ ap (G (Some p.0)) (used_to y n g p.1 p.3) ∙ p.4

      back : (u v : Option Operand) → used m ≡ u → used n ≡ v → G u v ≡ Some o → Means k T o
      back None v e f q = absurd (first v o q)
      back (Some a) None e f q = absurd (second a o q)
      back (Some a) (Some b) e f q = (s o).1 (a, b, uses_of x m h a e, uses_of y n g b f, q)

  -- ---- arguments

  pub record IsMore (x : term.Term) (xs : term.Terms) (tys : List PlainType) (es : List PlainExpr) : Type 0 where
    pub ty : PlainType
    pub others : List PlainType
    pub operand : Operand
    pub e : PlainExpr
    pub rest : List PlainExpr
    pub types : tys ≡ ty ∷ others
    pub values : es ≡ e ∷ rest
    pub uses : Uses k x operand
    pub passes : IsPassed k.modes ty operand e
    pub brought : AreBrought k others xs rest

  pub more_in : (x : term.Term) (xs : term.Terms) (tys : List PlainType) (es : List PlainExpr) → AreBrought k tys (term.terms x xs) es
      → IsMore x xs tys es
  more_in x xs _ _ (more {a = a} {ty = ty} {tys = tys} {e = e} {es = es} u p b) = record {
    ty = ty;
    others = tys;
    operand = a;
    e = e;
    rest = es;
    types = refl;
    values = refl;
    uses = u;
    passes = p;
    brought = b;
  }

  pub none_in : (tys : List PlainType) (es : List PlainExpr) → AreBrought k tys term.no_terms es → (tys ≡ []) × (es ≡ [])
  none_in _ _ none = (refl, refl)

  -- each argument means what the walk gives
  abbrev pub AllOf : t.Further → Type 0
  AllOf t.no_further = ⊤
  AllOf (t.further s a rest) = IsOf (term_of_assignment a) (of_assignment k a) × AllOf rest

  abbrev pub AllOfThem : t.Arguments → Type 0
  AllOfThem t.no_arguments = ⊤
  AllOfThem (t.arguments a rest) = IsOf (term_of_assignment a) (of_assignment k a) × AllOf rest

  module _ (told : TypesAreTold) where
    pub passes_of : (x : term.Term) (m : Option Operand) → IsOf x m → (ty : Option PlainType) (e : PlainExpr)
        → passed k.modes ty (used m) ≡ Some e → (to : PlainType) × (a : Operand) × (ty ≡ Some to) × Uses k x a × IsPassed k.modes to a e
    passes_of x m h ty e q =
        let g = with_given ty (λ to. with_one (used m) (λ a. brought k.modes to a)) e q in
        let i = with_given (used m) (λ a. brought k.modes g.0 a) e g.2 in
        (g.0, i.0, g.1, uses_of x m h i.0 i.1, brought_is told k.modes g.0 i.0 e i.2)

    pub passes_to : (x : term.Term) (m : Option Operand) → IsOf x m → (ty : Option PlainType) (to : PlainType) (a : Operand) (e : PlainExpr)
        → ty ≡ Some to → Uses k x a → IsPassed k.modes to a e → passed k.modes ty (used m) ≡ Some e
    passes_to x m h ty to a e q u p =
        with_granted ty (λ to. with_one (used m) (λ a. brought k.modes to a)) to e q
        (with_granted (used m) (λ a. brought k.modes to a) a e (used_to x m h a u) (is_brought told k.modes to a e p))

    -- ---- the arguments of a call

    -- the types from a number on
    abbrev AreFrom : List PlainType → ℕ → List PlainType → Type 0
    AreFrom ts i back = (j : ℕ) → slice_get ts (i + j) ≡ slice_get back j

    at_first : (ts : List PlainType) (i : ℕ) (back : List PlainType) → AreFrom ts i back → slice_get ts i ≡ slice_get back 0
    at_first ts i back h = ap (slice_get ts) (let e : i ≡ i + 0 = omega arith in e) ∙ h 0

    next_from : (ts : List PlainType) (i : ℕ) (ty : PlainType) (back : List PlainType) → AreFrom ts i (ty ∷ back) → AreFrom ts (i + 1) back
    next_from ts i ty back h j = ap (slice_get ts) (let e : i + 1 + j ≡ i + suc j = omega arith in e) ∙ h (suc j)

    -- an argument that was not passed stays so
    lost : (x : t.Further) (ts : List PlainType) (i : ℕ) → arguments_in (passed_further k (parameters ts) (arguments None) i x) ≡ None
    lost t.no_further ts i = refl
    lost (t.further s a rest) ts i = lost rest ts (i + 1)

    abbrev given_from : List PlainType → t.Further → ℕ → Option (List PlainExpr) → Option (List PlainExpr)
    given_from ts x i acc = arguments_in (passed_further k (parameters ts) (arguments acc) i x)

    record AreGiven (x : t.Further) (back : List PlainType) (acc es : List PlainExpr) : Type 0 where
      own : List PlainExpr
      all : es ≡ acc ++ own
      brought : AreBrought k back (terms_of_further x) own

    -- an argument, and those that follow it
    module _ (s : Spot) (a : t.Assignment) (rest : t.Further) (whole : IsOf (term_of_assignment a) (of_assignment k a))
        (ts back : List PlainType) (ty : PlainType) (i : ℕ) (here : slice_get ts i ≡ Some ty) (acc es : List PlainExpr)
        (next : (acc' : List PlainExpr) → given_from ts rest (i + 1) (Some acc') ≡ Some es → AreGiven rest back acc' es)
        (q : given_from ts (t.further s a rest) i (Some acc) ≡ Some es) where
      given_more : (v : Option PlainExpr) → passed k.modes (slice_get ts i) (used (of_assignment k a)) ≡ v
          → AreGiven (t.further s a rest) (ty ∷ back) acc es
      given_more None f =
          let gone : given_from ts rest (i + 1) (appended (Some acc) None) ≡ Some es =
          ap (λ (v : Option PlainExpr). given_from ts rest (i + 1) (appended (Some acc) v)) (sym f) ∙ q in
          absurd (nothing_there es (sym (lost rest ts (i + 1)) ∙ gone))
      given_more (Some e) f =
          let on : given_from ts rest (i + 1) (Some (acc ++ e ∷ [])) ≡ Some es =
          ap (λ (v : Option PlainExpr). given_from ts rest (i + 1) (appended (Some acc) v)) (sym f) ∙ q in
          let g = next (acc ++ e ∷ []) on in
          let p = passes_of (term_of_assignment a) (of_assignment k a) whole (slice_get ts i) e f in
          let same : p.0 ≡ ty = inside (sym p.2 ∙ here) in record {
            own = e ∷ g.own;
            all = g.all ∙ append_assoc acc (e ∷ []) g.own;
            brought = more p.3 (subst (λ (z : PlainType). IsPassed k.modes z p.1 e) same p.4) g.brought;
          }

    given_rest : (x : t.Further) → AllOf x → (ts back : List PlainType) (i : ℕ) → AreFrom ts i back → (acc es : List PlainExpr)
        → length back ≡ further_count x → given_from ts x i (Some acc) ≡ Some es → AreGiven x back acc es
    given_rest t.no_further all ts [] i h acc es n q = record {
      own = [];
      all = sym (inside q) ∙ sym (append-nil acc);
      brought = none;
    }
    given_rest t.no_further all ts (ty ∷ back) i h acc es n q = absurd (let z : suc (length back) ≡ 0 = n in omega arith)
    given_rest (t.further s a rest) all ts [] i h acc es n q = absurd (let z : 0 ≡ further_count rest + 1 = n in omega arith)
    given_rest (t.further s a rest) all ts (ty ∷ back) i h acc es n q =
        let counted : length back ≡ further_count rest = (let z : suc (length back) ≡ further_count rest + 1 = n in omega arith) in
        given_more s a rest all.0 ts back ty i (at_first ts i (ty ∷ back) h) acc es
        (λ (acc' : List PlainExpr) on. given_rest rest all.1 ts back (i + 1) (next_from ts i ty back h) acc' es counted on) q
        (passed k.modes (slice_get ts i) (used (of_assignment k a))) refl

    rest_given : (x : t.Further) → AllOf x → (ts back : List PlainType) (i : ℕ) → AreFrom ts i back → (acc own : List PlainExpr)
        → AreBrought k back (terms_of_further x) own → (given_from ts x i (Some acc) ≡ Some (acc ++ own)) × (length back ≡ further_count x)
    rest_given t.no_further all ts back i h acc own b =
        let e = none_in back own b in
        (ap (λ (z : List PlainExpr). Some z) (sym (append-nil acc) ∙ ap (λ (z : List PlainExpr). acc ++ z) (sym e.1)), ap length e.0)
    rest_given (t.further s a rest) all ts back i h acc own b =
        let g = more_in (term_of_assignment a) (terms_of_further rest) back own b in
        let from : AreFrom ts i (g.ty ∷ g.others) = subst (AreFrom ts i) g.types h in
        let p = passes_to (term_of_assignment a) (of_assignment k a) all.0 (slice_get ts i) g.ty g.operand g.e
        (at_first ts i (g.ty ∷ g.others) from) g.uses g.passes in
        let r = rest_given rest all.1 ts g.others (i + 1) (next_from ts i g.ty g.others from) (acc ++ g.e ∷ []) g.rest g.brought in
        let one_more : length back ≡ further_count rest + 1 =
        let u : length back ≡ suc (length g.others) = ap length g.types in let v : length g.others ≡ further_count rest = r.1 in omega
        arith in (
          ap (λ (v : Option PlainExpr). given_from ts rest (i + 1) (appended (Some acc) v)) p ∙ r.0
              ∙ ap (λ (z : List PlainExpr). Some z)
              (append_assoc acc (g.e ∷ []) g.rest ∙ ap (λ (z : List PlainExpr). acc ++ z) (sym g.values)),
          one_more,
        )

    from_start : (ts : List PlainType) → AreFrom ts 0 ts
    from_start ts j = ap (slice_get ts) (zero-add j)

    pub arguments_given : (l : Spot) (x : t.Arguments) → AllOfThem x → (ts : List PlainType) (es : List PlainExpr)
        → length ts ≡ argument_count x → arguments_in (passed_arguments k (parameters ts) (arguments (Some [])) x) ≡ Some es
        → AreBrought k ts (terms_of_arguments x) es
    arguments_given l t.no_arguments all ts es n q =
        let g = given_rest t.no_further tt ts ts 0 (from_start ts) [] es n q in
        subst (λ (z : List PlainExpr). AreBrought k ts term.no_terms z) (sym g.all) g.brought
    arguments_given l (t.arguments a rest) all ts es n q =
        let g = given_rest (t.further l a rest) all ts ts 0 (from_start ts) [] es n q in
        subst (λ (z : List PlainExpr). AreBrought k ts (term.terms (term_of_assignment a) (terms_of_further rest)) z) (sym g.all) g.brought

    pub given_arguments : (l : Spot) (x : t.Arguments) → AllOfThem x → (ts : List PlainType) (es : List PlainExpr)
        → AreBrought k ts (terms_of_arguments x) es
        → (arguments_in (passed_arguments k (parameters ts) (arguments (Some [])) x) ≡ Some es) × (length ts ≡ argument_count x)
    given_arguments l t.no_arguments all ts es b = rest_given t.no_further tt ts ts 0 (from_start ts) [] es b
    given_arguments l (t.arguments a rest) all ts es b = rest_given (t.further l a rest) all ts ts 0 (from_start ts) [] es b
