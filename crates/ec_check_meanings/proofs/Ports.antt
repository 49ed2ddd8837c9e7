-- Operations on ports: what the walk gives is what the relation says.
use Rattle.std.proofs.Common.{◌≡◌, ◌∙◌, ◌≤◌, ℕ, Bool, true, false, not, ◌&&◌, ◌||◌, ◌+◌, List, [], ◌∷◌, refl, sym, ap, subst, arith}
use Rattle.std.specs.Prelude.{◌==◌, if◌then◌else◌, Option, Some, None}
use Rattle.std.specs.Bool.{Decides}
use Rattle.std.proofs.lemmas.Bool.{true≢false, false≢true}
use Rattle.std.proofs.lemmas.Bool.Decides.{Decides-eqb}
use Rattle.ec_grammar.specs.declared.Spot.{Spot}
use Rattle.ec_grammar.specs.Trees as t
use Rattle.ec_iohw.specs.declared.operations.IoOp.{IoOp}
use Rattle.ec_core.specs.Laws.{TypesAreTold}
use Rattle.ec_core.specs.Plain.{PlainType, PlainExpr, OptionPlainExpr, no_expr, an_expr, io}
use Rattle.ec_core.specs.PortOperations.{PortOperation, port_operation, takes_value}
use Rattle.ec_core.specs.Typing.{unsigned_int, port_value, port_result}
use Rattle.ec_check_forms.specs.declared.ports.NamedPort.{NamedPort}
use Rattle.ec_check_forms.specs.Calls.{one_if, is_too_wide, fits, optional}
use Rattle.ec_check_forms.specs.Nodes.{used}
use Rattle.ec_check_operands.specs.Operands.{Operand, value, made, valued}
use Rattle.ec_check_operands.specs.Passing.{passed}
use Rattle.ec_check_expressions.specs.Arguments.{port_operands, Passed, arguments, operands, appended, with_argument, access_by}
use Rattle.ec_check_expressions.specs.Arguments.{access_of}
use Rattle.ec_check_expressions.specs.Counts.{further_count}
use Rattle.ec_check_expressions.specs.Expressions.{of_assignment, passed_further}
use Rattle.ec_check_expressions.specs.Known.{Known}
use Rattle.ec_check_meanings.specs.Conversions.{IsPassed}
use Rattle.ec_check_meanings.specs.Means.{Takes, neither, an_index, a_value, both, Reaches, AreBrought, none, more}
use Rattle.ec_check_meanings.specs.Terms as term
use Rattle.ec_check_meanings.specs.Terms.{term_of_assignment, terms_of_further}
use Rattle.ec_check_meanings.proofs.Options.{inside, nothing_there, unless, implied}
use Rattle.ec_check_meanings.proofs.Parts.{IsOf, AllOf, more_in, none_in, passes_of, passes_to}

-- ---- tests

both_false : (a b : Bool) → (a || b) ≡ false → (a ≡ false) × (b ≡ false)
both_false false false h = (refl, refl)
both_false false true h = absurd (true≢false h)
both_false true b h = absurd (true≢false h)

reaching : (op : PortOperation) (p : NamedPort) → is_too_wide op p ≡ false → Reaches op p
reaching op p h e = implied (p.width == 4) op.long h ((Decides-eqb p.width 4).1 e)

not_wide : (w l : Bool) → (w ≡ true → l ≡ true) → (w && not l) ≡ false
not_wide true true h = refl
not_wide true false h = absurd (false≢true (h refl))
not_wide false l h = refl

reached : (op : PortOperation) (p : NamedPort) → Reaches op p → is_too_wide op p ≡ false
reached op p h = not_wide (p.width == 4) op.long (λ e. h ((Decides-eqb p.width 4).0 e))

-- ---- what is passed, by whether an index and a value are taken

abbrev put : Bool → ℕ → Passed → Option PlainExpr → Passed
put b i (arguments es) e = arguments (appended es e)
put b i (operands index v) e = if b && i == 1 then operands e v else operands index e

put_so : (op : IoOp) (i : ℕ) (args : Passed) (e : Option PlainExpr)
    → with_argument (port_operands op) i args e ≡ put (port_operation op).indexed i args e
put_so op i (arguments es) e = refl
put_so op i (operands index v) e = refl

abbrev first_type : (value : PlainType) → Bool → Bool → Option PlainType
first_type ty b c = if b then Some unsigned_int else (if c then Some ty else None)

abbrev second_type : (value : PlainType) → Bool → Bool → Option PlainType
second_type ty b c = if b then (if c then Some ty else None) else None

-- an operation is on a port by these operands
pub record IsAccess (k : Known) (op : IoOp) (port : Option NamedPort) (ys : term.Terms) (o : Operand) : Type 0 where
  pub p : NamedPort
  pub tys : List PlainType
  pub es : List PlainExpr
  pub index : OptionPlainExpr
  pub contents : OptionPlainExpr
  pub there : port ≡ Some p
  pub reaches : Reaches (port_operation op) p
  pub takes : Takes (port_operation op) tys es index contents
  pub brought : AreBrought k tys ys es
  pub made_so : value (made k.modes (port_result (port_operation op).action (port_value (port_operation op)))
      (io op p.number index contents)) false ≡ o

module _ (told : TypesAreTold) (k : Known) (op : IoOp) where
  abbrev form : PortOperation
  form = port_operation op

  abbrev node : NamedPort → OptionPlainExpr → OptionPlainExpr → PlainExpr
  node p i v = made k.modes (port_result form.action (port_value form)) (io op p.number i v)

  abbrev first_of : Bool → Bool → t.Assignment → Option PlainExpr
  first_of b c a = passed k.modes (first_type (port_value form) b c) (used (of_assignment k a))

  abbrev second_of : Bool → Bool → t.Assignment → Option PlainExpr
  second_of b c a = passed k.modes (second_type (port_value form) b c) (used (of_assignment k a))

  -- at most two operands
  abbrev passed_by : Bool → Bool → t.Further → Passed
  passed_by b c t.no_further = operands None None
  passed_by b c (t.further s a t.no_further) = put b 1 (operands None None) (first_of b c a)
  passed_by b c (t.further s a (t.further r d others)) = put b 2 (put b 1 (operands None None) (first_of b c a)) (second_of b c d)

  one_most : (b : Bool) → one_if b ≤ 1
  one_most true = omega arith
  one_most false = omega arith

  passed_so : (x : t.Further) → further_count x ≡ one_if form.indexed + one_if (takes_value form)
      → passed_further k (port_operands op) (operands None None) 1 x ≡ passed_by form.indexed (takes_value form) x
  passed_so t.no_further n = refl
  passed_so (t.further s a t.no_further) n = refl
  passed_so (t.further s a (t.further r d t.no_further)) n =
      put_so op 2 (with_argument (port_operands op) 1 (operands None None) (first_of form.indexed (takes_value form) a))
      (second_of form.indexed (takes_value form) d)
  passed_so (t.further s a (t.further r d (t.further q e others))) n =
      let i = one_most form.indexed in let j = one_most (takes_value form) in
      let z : further_count others + 1 + 1 + 1 ≡ one_if form.indexed + one_if (takes_value form) = n in absurd (omega arith)

  abbrev accessed_by : Bool → Bool → NamedPort → Passed → Option Operand
  accessed_by b c p (arguments es) = None
  accessed_by b c p (operands i v) =
      if is_too_wide form p || not (fits b i && fits c v) then None else valued (node p (optional i) (optional v))

  access_so : (p : NamedPort) (args : Passed) → access_by k.modes op (Some p) args ≡ accessed_by form.indexed (takes_value form) p args
  access_so p (arguments es) = refl
  access_so p (operands i v) = refl

  no_port : (args : Passed) → access_by k.modes op None args ≡ None
  no_port (arguments es) = refl
  no_port (operands i v) = refl

  -- ---- from the walk

  module _ (port : Option NamedPort) (x : t.Further) (p : NamedPort) (q : port ≡ Some p) (o : Operand) where
    suits : (b c : Bool) (i v : Option PlainExpr) → accessed_by b c p (operands i v) ≡ Some o
        → Reaches form p × (not (fits b i && fits c v) ≡ false) × (value (node p (optional i) (optional v)) false ≡ o)
    suits b c i v h =
        let g = unless (is_too_wide form p || not (fits b i && fits c v)) (valued (node p (optional i) (optional v))) o h in
        let e = both_false (is_too_wide form p) (not (fits b i && fits c v)) g.0 in
        (reaching form p e.0, e.1, inside g.1)

  module _ (port : Option NamedPort) (p : NamedPort) (q : port ≡ Some p) (o : Operand) where
    none_access : form.indexed ≡ false → takes_value form ≡ false → accessed_by false false p (operands None None) ≡ Some o
        → IsAccess k op port (terms_of_further t.no_further) o
    none_access hb hc h =
        let g = suits port t.no_further p q o false false None None h in record {
          p = p;
          tys = [];
          es = [];
          index = no_expr;
          contents = no_expr;
          there = q;
          reaches = g.0;
          takes = neither hb hc;
          brought = none;
          made_so = g.2;
        }

    module _ (a : t.Assignment) (whole : IsOf k (term_of_assignment a) (of_assignment k a)) where
      index_access : (s : Spot) → form.indexed ≡ true → takes_value form ≡ false → (v : Option PlainExpr) → first_of true false a ≡ v
          → accessed_by true false p (operands v None) ≡ Some o → IsAccess k op port (terms_of_further (t.further s a t.no_further)) o
      index_access s hb hc None e h = absurd (true≢false (suits port (t.further s a t.no_further) p q o true false None None h).1)
      index_access s hb hc (Some i) e h =
          let g = suits port (t.further s a t.no_further) p q o true false (Some i) None h in
          let u = passes_of k told (term_of_assignment a) (of_assignment k a) whole (Some unsigned_int) i e in
          let same : u.0 ≡ unsigned_int = sym (inside u.2) in record {
            p = p;
            tys = unsigned_int ∷ [];
            es = i ∷ [];
            index = an_expr i;
            contents = no_expr;
            there = q;
            reaches = g.0;
            takes = an_index hb hc;
            brought = more u.3 (subst (λ (z : PlainType). IsPassed k.modes z u.1 i) same u.4) none;
            made_so = g.2;
          }

      value_access : (s : Spot) → form.indexed ≡ false → takes_value form ≡ true → (v : Option PlainExpr) → first_of false true a ≡ v
          → accessed_by false true p (operands None v) ≡ Some o → IsAccess k op port (terms_of_further (t.further s a t.no_further)) o
      value_access s hb hc None e h = absurd (true≢false (suits port (t.further s a t.no_further) p q o false true None None h).1)
      value_access s hb hc (Some v) e h =
          let g = suits port (t.further s a t.no_further) p q o false true None (Some v) h in
          let u = passes_of k told (term_of_assignment a) (of_assignment k a) whole (Some (port_value form)) v e in
          let same : u.0 ≡ port_value form = sym (inside u.2) in record {
            p = p;
            tys = port_value form ∷ [];
            es = v ∷ [];
            index = no_expr;
            contents = an_expr v;
            there = q;
            reaches = g.0;
            takes = a_value hb hc;
            brought = more u.3 (subst (λ (z : PlainType). IsPassed k.modes z u.1 v) same u.4) none;
            made_so = g.2;
          }

      module _ (d : t.Assignment) (next : IsOf k (term_of_assignment d) (of_assignment k d)) where
        both_access : (s r : Spot) → form.indexed ≡ true → takes_value form ≡ true → (i v : Option PlainExpr)
            → first_of true true a ≡ i → second_of true true d ≡ v → accessed_by true true p (operands i v) ≡ Some o
            → IsAccess k op port (terms_of_further (t.further s a (t.further r d t.no_further))) o
        both_access s r hb hc None v e f h =
            absurd (true≢false (suits port (t.further s a (t.further r d t.no_further)) p q o true true None v h).1)
        both_access s r hb hc (Some i) None e f h =
            absurd (true≢false (suits port (t.further s a (t.further r d t.no_further)) p q o true true (Some i) None h).1)
        both_access s r hb hc (Some i) (Some v) e f h =
            let g = suits port (t.further s a (t.further r d t.no_further)) p q o true true (Some i) (Some v) h in
            let u = passes_of k told (term_of_assignment a) (of_assignment k a) whole (Some unsigned_int) i e in
            let w = passes_of k told (term_of_assignment d) (of_assignment k d) next (Some (port_value form)) v f in
            let same : u.0 ≡ unsigned_int = sym (inside u.2) in
            let like : w.0 ≡ port_value form = sym (inside w.2) in record {
              p = p;
              tys = unsigned_int ∷ port_value form ∷ [];
              es = i ∷ v ∷ [];
              index = an_expr i;
              contents = an_expr v;
              there = q;
              reaches = g.0;
              takes = both hb hc;
              brought = more u.3 (subst (λ (z : PlainType). IsPassed k.modes z u.1 i) same u.4)
                  (more w.3 (subst (λ (z : PlainType). IsPassed k.modes z w.1 v) like w.4) none);
              made_so = g.2;
            }

    by_form : (x : t.Further) → AllOf k x → (b c : Bool) → form.indexed ≡ b → takes_value form ≡ c
        → further_count x ≡ one_if b + one_if c → accessed_by b c p (passed_by b c x) ≡ Some o → IsAccess k op port (terms_of_further x) o
    by_form t.no_further all false false hb hc n h = none_access hb hc h
    by_form t.no_further all false true hb hc n h = absurd (let z : 0 ≡ 1 = n in omega arith)
    by_form t.no_further all true false hb hc n h = absurd (let z : 0 ≡ 1 = n in omega arith)
    by_form t.no_further all true true hb hc n h = absurd (let z : 0 ≡ 2 = n in omega arith)
    by_form (t.further s a t.no_further) all false false hb hc n h = absurd (let z : 1 ≡ 0 = n in omega arith)
    by_form (t.further s a t.no_further) all true false hb hc n h = index_access a all.0 s hb hc (first_of true false a) refl h
    by_form (t.further s a t.no_further) all false true hb hc n h = value_access a all.0 s hb hc (first_of false true a) refl h
    by_form (t.further s a t.no_further) all true true hb hc n h = absurd (let z : 1 ≡ 2 = n in omega arith)
    by_form (t.further s a (t.further r d t.no_further)) all true true hb hc n h =
        both_access a all.0 d all.1.0 s r hb hc (first_of true true a) (second_of true true d) refl refl h
    by_form (t.further s a (t.further r d t.no_further)) all false c hb hc n h =
        let i = one_most c in absurd (let z : 2 ≡ 0 + one_if c = n in omega arith)
    by_form (t.further s a (t.further r d t.no_further)) all true false hb hc n h = absurd (let z : 2 ≡ 1 = n in omega arith)
    by_form (t.further s a (t.further r d (t.further g e others))) all b c hb hc n h =
        let i = one_most b in let j = one_most c in
        absurd (let z : further_count others + 1 + 1 + 1 ≡ one_if b + one_if c = n in omega arith)

  pub port_is : (port : Option NamedPort) → (x : t.Further) → AllOf k x → (o : Operand)
      → access_of k.modes op port (further_count x) (passed_further k (port_operands op) (operands None None) 1 x) ≡ Some o
      → IsAccess k op port (terms_of_further x) o
  port_is port x all o h = by_port port refl
    where
      args : Passed
      args = passed_further k (port_operands op) (operands None None) 1 x

      counted : (b : Bool) → (further_count x == one_if form.indexed + one_if (takes_value form)) ≡ b
          → (if b then access_by k.modes op port args else None) ≡ Some o
          → (further_count x ≡ one_if form.indexed + one_if (takes_value form)) × (access_by k.modes op port args ≡ Some o)
      counted true q z = ((Decides-eqb (further_count x) (one_if form.indexed + one_if (takes_value form))).0 q, z)
      counted false q z = absurd (nothing_there o z)

      whole : (further_count x ≡ one_if form.indexed + one_if (takes_value form)) × (access_by k.modes op port args ≡ Some o)
      whole = counted (further_count x == one_if form.indexed + one_if (takes_value form)) refl h

      by_port : (z : Option NamedPort) → port ≡ z → IsAccess k op port (terms_of_further x) o
      by_port None q =
          let gone : access_by k.modes op None args ≡ Some o =
          ap (λ (z : Option NamedPort). access_by k.modes op z args) (sym q) ∙ whole.1 in
          absurd (nothing_there o (sym (no_port args) ∙ gone))
      by_port (Some p) q =
          let there : access_by k.modes op (Some p) args ≡ Some o =
          ap (λ (z : Option NamedPort). access_by k.modes op z args) (sym q) ∙ whole.1 in
          by_form port p q o x all form.indexed (takes_value form) refl refl whole.0
          (ap (accessed_by form.indexed (takes_value form) p) (sym (passed_so x whole.0)) ∙ sym (access_so p args) ∙ there)

  -- ---- from the relation

  module _ (p : NamedPort) (reach : is_too_wide form p ≡ false) where
    abbrev outcome : Bool → OptionPlainExpr → OptionPlainExpr → Option Operand
    outcome wide i v = if wide || false then None else valued (node p i v)

    counts : (b c : Bool) → form.indexed ≡ b → takes_value form ≡ c → one_if b + one_if c ≡ one_if form.indexed + one_if (takes_value form)
    counts b c hb hc =
        ap (λ (z : Bool). one_if z + one_if c) (sym hb) ∙ ap (λ (z : Bool). one_if form.indexed + one_if z) (sym hc)

    at_form : (x : t.Further) (b c : Bool) → form.indexed ≡ b → takes_value form ≡ c
        → accessed_by form.indexed (takes_value form) p (passed_by form.indexed (takes_value form) x) ≡ accessed_by b c p (passed_by b c x)
    at_form x b c hb hc =
        ap (λ (z : Bool). accessed_by z (takes_value form) p (passed_by z (takes_value form) x)) hb
        ∙ ap (λ (z : Bool). accessed_by b z p (passed_by b z x)) hc

    abbrev IsTaken : t.Further → OptionPlainExpr → OptionPlainExpr → Type 0
    IsTaken x i v = (further_count x ≡ one_if form.indexed + one_if (takes_value form))
        × (accessed_by form.indexed (takes_value form) p (passed_by form.indexed (takes_value form) x) ≡ Some (value (node p i v) false))

    none_taken : (x : t.Further) → form.indexed ≡ false → takes_value form ≡ false → AreBrought k [] (terms_of_further x) []
        → IsTaken x no_expr no_expr
    none_taken t.no_further hb hc b =
        (counts false false hb hc, at_form t.no_further false false hb hc ∙ ap (λ (z : Bool). outcome z no_expr no_expr) reach)
    none_taken (t.further s a rest) hb hc b =
        let g = more_in k (term_of_assignment a) (terms_of_further rest) [] [] b in
        absurd (let z : ◌≡◌ {A = List PlainType} [] (g.ty ∷ g.others) = g.types in cc)

    -- what is brought for one type
    record IsFirst (a : t.Assignment) (rest : t.Further) (ty : PlainType) (tys : List PlainType) (e : PlainExpr)
        (es : List PlainExpr) : Type 0 where
      passes : passed k.modes (Some ty) (used (of_assignment k a)) ≡ Some e
      others : AreBrought k tys (terms_of_further rest) es

    first_in : (a : t.Assignment) (rest : t.Further) → IsOf k (term_of_assignment a) (of_assignment k a) → (ty : PlainType)
        (tys : List PlainType) (e : PlainExpr) (es : List PlainExpr)
        → AreBrought k (ty ∷ tys) (terms_of_further (t.further (record { index = 0; at = 0 }) a rest)) (e ∷ es) → IsFirst a rest ty tys e es
    first_in a rest whole ty tys e es b =
        let g = more_in k (term_of_assignment a) (terms_of_further rest) (ty ∷ tys) (e ∷ es) b in
        let z : ty ∷ tys ≡ g.ty ∷ g.others = g.types in
        let w : e ∷ es ≡ g.e ∷ g.rest = g.values in
        let same : g.ty ≡ ty = cc in
        let others : g.others ≡ tys = cc in
        let value_so : g.e ≡ e = cc in
        let rest_so : g.rest ≡ es = cc in record {
          passes = passes_to k told (term_of_assignment a) (of_assignment k a) whole (Some ty) g.ty g.operand g.e
              (ap (λ (v : PlainType). Some v) (sym same)) g.uses g.passes ∙ ap (λ (v : PlainExpr). Some v) value_so;
          others = subst (λ (v : List PlainExpr). AreBrought k tys (terms_of_further rest) v) rest_so
              (subst (λ (v : List PlainType). AreBrought k v (terms_of_further rest) g.rest) others g.brought);
        }

    -- nothing is brought but for types
    ended : (x : t.Further) (es : List PlainExpr) → AreBrought k [] (terms_of_further x) es → x ≡ t.no_further
    ended t.no_further es b = refl
    ended (t.further s a rest) es b =
        let g = more_in k (term_of_assignment a) (terms_of_further rest) [] es b in
        absurd (let z : ◌≡◌ {A = List PlainType} [] (g.ty ∷ g.others) = g.types in cc)

    missing : (ty : PlainType) (tys : List PlainType) (es : List PlainExpr) → AreBrought k (ty ∷ tys) (terms_of_further t.no_further) es → ⊥
    missing ty tys es b = let g = none_in k (ty ∷ tys) es b in let z : ty ∷ tys ≡ [] = g.0 in cc

    index_taken : (x : t.Further) → AllOf k x → (i : PlainExpr) → form.indexed ≡ true → takes_value form ≡ false
        → AreBrought k (unsigned_int ∷ []) (terms_of_further x) (i ∷ []) → IsTaken x (an_expr i) no_expr
    index_taken t.no_further all i hb hc b = absurd (missing unsigned_int [] (i ∷ []) b)
    index_taken (t.further s a rest) all i hb hc b =
        let g = first_in a rest all.0 unsigned_int [] i [] b in
        subst (λ (z : t.Further). IsTaken (t.further s a z) (an_expr i) no_expr) (sym (ended rest [] g.others)) (
          counts true false hb hc,
          at_form (t.further s a t.no_further) true false hb hc
              ∙ ap (λ (v : Option PlainExpr). accessed_by true false p (operands v None)) g.passes
              ∙ ap (λ (z : Bool). outcome z (an_expr i) no_expr) reach,
        )

    value_taken : (x : t.Further) → AllOf k x → (v : PlainExpr) → form.indexed ≡ false → takes_value form ≡ true
        → AreBrought k (port_value form ∷ []) (terms_of_further x) (v ∷ []) → IsTaken x no_expr (an_expr v)
    value_taken t.no_further all v hb hc b = absurd (missing (port_value form) [] (v ∷ []) b)
    value_taken (t.further s a rest) all v hb hc b =
        let g = first_in a rest all.0 (port_value form) [] v [] b in
        subst (λ (z : t.Further). IsTaken (t.further s a z) no_expr (an_expr v)) (sym (ended rest [] g.others)) (
          counts false true hb hc,
          at_form (t.further s a t.no_further) false true hb hc
              ∙ ap (λ (e : Option PlainExpr). accessed_by false true p (operands None e)) g.passes
              ∙ ap (λ (z : Bool). outcome z no_expr (an_expr v)) reach,
        )

    both_taken : (x : t.Further) → AllOf k x → (i v : PlainExpr) → form.indexed ≡ true → takes_value form ≡ true
        → AreBrought k (unsigned_int ∷ port_value form ∷ []) (terms_of_further x) (i ∷ v ∷ []) → IsTaken x (an_expr i) (an_expr v)
    both_taken t.no_further all i v hb hc b = absurd (missing unsigned_int (port_value form ∷ []) (i ∷ v ∷ []) b)
    both_taken (t.further s a t.no_further) all i v hb hc b =
        let g = first_in a t.no_further all.0 unsigned_int (port_value form ∷ []) i (v ∷ []) b in
        absurd (missing (port_value form) [] (v ∷ []) g.others)
    both_taken (t.further s a (t.further r d rest)) all i v hb hc b =
        let g = first_in a (t.further r d rest) all.0 unsigned_int (port_value form ∷ []) i (v ∷ []) b in
        let f = first_in d rest all.1.0 (port_value form) [] v [] g.others in
        subst (λ (z : t.Further). IsTaken (t.further s a (t.further r d z)) (an_expr i) (an_expr v)) (sym (ended rest [] f.others)) (
          counts true true hb hc,
          at_form (t.further s a (t.further r d t.no_further)) true true hb hc
              ∙ ap (λ (e : Option PlainExpr). accessed_by true true p (operands e (second_of true true d))) g.passes
              ∙ ap (λ (e : Option PlainExpr). accessed_by true true p (operands (Some i) e)) f.passes
              ∙ ap (λ (z : Bool). outcome z (an_expr i) (an_expr v)) reach,
        )

    taken : (x : t.Further) → AllOf k x → (tys : List PlainType) (es : List PlainExpr) (index contents : OptionPlainExpr)
        → Takes form tys es index contents → AreBrought k tys (terms_of_further x) es → IsTaken x index contents
    taken x all _ _ _ _ (neither hb hc) b = none_taken x hb hc b
    taken x all _ _ _ _ (an_index {i = i} hb hc) b = index_taken x all i hb hc b
    taken x all _ _ _ _ (a_value {v = v} hb hc) b = value_taken x all v hb hc b
    taken x all _ _ _ _ (both {i = i} {v = v} hb hc) b = both_taken x all i v hb hc b

  pub is_port : (port : Option NamedPort) (x : t.Further) → AllOf k x → (o : Operand) → IsAccess k op port (terms_of_further x) o
      → access_of k.modes op port (further_count x) (passed_further k (port_operands op) (operands None None) 1 x) ≡ Some o
  is_port port x all o h =
      let g = taken h.p (reached form h.p h.reaches) x all h.tys h.es h.index h.contents h.takes h.brought in
      let args = passed_further k (port_operands op) (operands None None) 1 x in
      ap (λ (z : Bool). if z then access_by k.modes op port args else None)
      ((Decides-eqb (further_count x) (one_if form.indexed + one_if (takes_value form))).1 g.0)
      ∙ ap (λ (z : Option NamedPort). access_by k.modes op z args) h.there
      ∙ access_so h.p args
      ∙ ap (accessed_by form.indexed (takes_value form) h.p) (passed_so x g.0)
      ∙ g.1 ∙ ap (λ (z : Operand). Some z) h.made_so
