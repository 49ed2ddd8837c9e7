-- Expressions of a function do no more work than their text tells, and leave objects that they do not touch as they are.
use Rattle.std.proofs.Common.{◌≡◌, ℕ, max, Bool, true, false, not, List, [], ◌∷◌, Option, Some, None}
use Rattle.std.proofs.Common.{Result, Ok, Err, refl, sym, subst, arith, pos, inl, inr, eq-eqb}
use Rattle.std.specs.Prelude.{⊤, ◌⊎◌, slice_get, option_map, IsSomeAnd, Contains}
use Rattle.std.specs.List.{AllByRecursion}
use Rattle.ec_fx.specs.declared.numbers.Mode.{Mode}
use Rattle.ec_iohw.specs.declared.table.IoTable.{IoTable}
use Rattle.ec_core.specs.declared.values.Undefined.{Undefined}
use Rattle.ec_core.specs.declared.values.Value.{Value}
use Rattle.ec_core.specs.declared.values.Value.TheVariants.{Number, Pointer}
use Rattle.ec_core.specs.Accesses.{pointer_to, referent_of, operand_of}
use Rattle.ec_core.specs.Expressions.{Calls, either, Update, compound_update, step_update, pointed_to, object_place, condition, truth_value}
use Rattle.ec_core.specs.Expressions.{updated_place, value_of, node_value, place_of, option_value, values_of}
use Rattle.ec_core.specs.Integers.{truth}
use Rattle.ec_core.specs.Meaning.{setting}
use Rattle.ec_core.specs.Needs.{expr_calls, node_calls, place_calls, option_calls, exprs_calls, stmt_calls}
use Rattle.ec_core.specs.Operators.{truth_result, compound_result}
use Rattle.ec_core.specs.Plain.{PlainType, PlainExpr, expression, PlainNode, number, null, load, address_of, unary, binary, convert, assign}
use Rattle.ec_core.specs.Plain.{compound, step, logical_not, logical_and, logical_or, conditional, comma, call, io, group, bind as binding}
use Rattle.ec_core.specs.Plain.{dynamic_group, PlainPlace, object, deref, member, OptionPlainExpr, no_expr, an_expr, PlainExprs, last_expr}
use Rattle.ec_core.specs.Plain.{next_expr, PlainStmt, PlainObject, PlainProgram}
use Rattle.ec_core.specs.Pointers.{Pointer as PointerValue}
use Rattle.ec_core.specs.PortAccesses.{no_value}
use Rattle.ec_core.specs.PortTable.{plain_table}
use Rattle.ec_core.specs.State.{Inputs, Setting, ObjectState, State, worked, Outcome}
use Rattle.ec_core.specs.Typing.{int, type_of_expr}
use Rattle.ec_core.specs.Valid.{IsNamedIn, ValidExpr, ValidParts, ValidPlace, ValidOption, ValidExprs, Reaches}
use Rattle.ec_core.specs.Words.{node_words, member_words}
use Rattle.ec_core_steps.specs.declared.touches.Touch.{Touch}
use Rattle.ec_core_steps.specs.declared.touches.Touch.TheVariants.{Address, Change}
use Rattle.ec_core_steps.specs.Touches.{lies_in, touches, node_touches, place_touches, option_touches, exprs_touch}
use Rattle.ec_core_steps.specs.Work.{expr_most, node_most, place_most, option_most, exprs_most}
use Rattle.ec_core_steps.proofs.Relation.{or_left, or_right, true_false, IsFree, Free, IsPointer, IsValue, IsWell, Holds, bind, here, stops}
use Rattle.ec_core_steps.proofs.Relation.{began, of_result, choosing, OnOk}
use Rattle.ec_core_steps.proofs.Values.{OnObject, moved_in, unary_ok, binary_ok, conversion_ok, compound_ok}
use Rattle.ec_core_steps.proofs.Accesses.{IsVal, IsApart, read_holds, write_holds, port_holds, group_holds, bind_holds, dynamic_holds}
use Rattle.ec_core_steps.proofs.Tails.{expr_tail, place_tail, option_tail}

abbrev pub IsAny : {X : Type 0} → X → State → Type 0
IsAny x t = ⊤

module _ (p : PlainProgram) (table : IoTable) (inputs : Inputs) where
  abbrev pub w : Setting
  w = setting p (plain_table table) inputs

  abbrev pub AreVals : List Value → State → Type 0
  AreVals xs t = AllByRecursion (IsValue p) xs

  any_ok : {X : Type 0} (r : Result X Undefined) → OnOk p (λ x. ⊤) r
  any_ok (Ok x) = tt
  any_ok (Err point) = tt

  pub condition_holds : {m : ℕ} {K : ℕ → Type 0} {s : State} (e : PlainExpr) (o : Outcome Value) → Holds p (IsVal p) m K s o
      → Holds p IsAny m K s (condition w e o)
  condition_holds e o h =
      bind p o _ h (λ x t hx a. of_result p {P = IsAny} (truth_result (operand_of p (type_of_expr e) x t)) t (any_ok _) a.well)
      (omega arith)

  truth_holds : {m : ℕ} {K : ℕ → Type 0} {s : State} (o : Outcome Bool) → Holds p IsAny m K s o → Holds p (IsVal p) m K s (truth_value o)
  truth_holds o h = bind p o _ h (λ b t hb a. here p (Number (truth b)) t tt a.well) (omega arith)

  either_value : (new : Bool) (x y : Value) → IsValue p x → IsValue p y → IsValue p (either new x y)
  either_value true x y h k = h
  either_value false x y h k = k

  updated_holds : {K : ℕ → Type 0} (u : Update) (at : PointerValue) (old : Value) (right : PlainType) (x : Value) (s : State)
      → IsValue p old
      → IsApart p K at → IsWell p s → Holds p (IsVal p) 0 K s (updated_place w u at old right x s)
  updated_holds {K} u at old right x s h apart well =
      bind p _ _ (of_result p {P = IsVal p} {K = K}
      (compound_result u.op u.operation_mode u.write_mode (operand_of p u.ty old s) (operand_of p right x s)) s
      (compound_ok p u.op u.operation_mode u.write_mode (operand_of p u.ty old s) old (operand_of p right x s) x h) well)
      (λ v t hv a. bind p {m = 0} _ _ (write_holds p u.ty _ at v t hv apart a.well)
      (λ y r hy b. here p (either u.new v old) r (either_value u.new v old hv h) b.well) (omega arith)) (omega arith)

  module _ (f : ℕ) (whole : PlainStmt) where
    -- a local of this function, or of one that reaches it, that no pointer leads to
    pub record Outer (o : ℕ) : Type 0 where
      pub owner : ℕ
      pub free : IsFree p o owner
      pub way : (owner ≡ f) ⊎ Reaches p f owner

    abbrev pub Own : (ℕ → Type 0) → Touch → ℕ → Type 0
    Own K Address o = IsFree p o f
    Own K Change o = K o × IsFree p o f

    -- a part applies & to no free local of the function, and changes none that is in K
    abbrev pub Spared : (ℕ → Type 0) → (Touch → ℕ → Bool) → Type 0
    Spared K touched = (t : Touch) (o : ℕ) → Own K t o → touched t o ≡ false

    abbrev pub May : ℕ → Type 0
    May g = Contains (stmt_calls whole []) g

    -- the object is that of a place, which the function may name, or pointers lead to it
    abbrev pub Lies : PlainPlace → ℕ → Type 0
    Lies place o = ((lies_in o place ≡ true) × IsSomeAnd (slice_get p.objects o) (λ x. IsNamedIn f x.storage)) ⊎ (¬ Free p o)

    abbrev pub IsAt : PlainPlace → PointerValue → State → Type 0
    IsAt place at t = OnObject p (Lies place) at

    pub owned : (o h : ℕ) → IsFree p o h → IsSomeAnd (slice_get p.objects o) (λ x. IsNamedIn f x.storage) → h ≡ f
    owned o h free named =
        let n : IsNamedIn f free.object.storage
        = subst (λ (z : Option PlainObject). IsSomeAnd z (λ x. IsNamedIn f x.storage)) free.is_object named in
        subst (IsNamedIn f) free.is_local n

    no_address : (place : PlainPlace) (at : PointerValue) → ((o : ℕ) → IsFree p o f → lies_in o place ≡ false)
        → OnObject p (Lies place) at → IsPointer p at
    no_address place None u h = tt
    no_address place (Some q) u (inr n) = n
    no_address place (Some q) u (inl l) = λ free.
        (let same : free.0 ≡ f = owned q.object free.0 free.1 l.1 in
        true_false (lies_in q.object place) l.0 (u q.object (subst (IsFree p q.object) same free.1)))

    pub apart : (K : ℕ → Type 0) (out : (o : ℕ) → K o → Outer o) (place : PlainPlace) (at : PointerValue)
        → ((o : ℕ) → K o → IsFree p o f → lies_in o place ≡ false) → OnObject p (Lies place) at → IsApart p K at
    apart K out place None u h = tt
    apart K out place (Some q) u (inr n) = λ o k same.
        (let x = out o k in n (x.owner, subst (λ z. IsFree p z x.owner) (sym same) x.free))
    apart K out place (Some q) u (inl l) = λ o k same.
        (let x = out o k in
        let named = subst (λ z. IsSomeAnd (slice_get p.objects z) (λ y. IsNamedIn f y.storage)) same l.1 in
        let mine = owned o x.owner x.free named in
        true_false (lies_in o place) (subst (λ z. lies_in z place ≡ true) same l.0) (u o k (subst (IsFree p o) mine x.free)))

    module _ (calls : Calls) (most : ℕ → ℕ)
        (calls_hold : (K : ℕ → Type 0) → ((o : ℕ) → K o → Outer o) → (g : ℕ) → May g → (xs : List Value) (s : State)
        → AllByRecursion (IsValue p) xs → IsWell p s → Holds p (IsVal p) (most g) K s (calls g xs s)) where
      abbrev E : PlainExpr → ℕ
      E e = expr_most (plain_table table) most e

      object_holds : {K : ℕ → Type 0} (o : ℕ) (s : State) → IsSomeAnd (slice_get p.objects o) (λ x. IsNamedIn f x.storage) → IsWell p s
          → Holds p (IsAt (object o)) 0 K s (object_place (pointer_to o s) s)
      object_holds {K} o s named well = by_state (slice_get s.objects o)
        where
          by_state : (x : Option ObjectState) → Holds p (IsAt (object o)) 0 K s
              (object_place (option_map (λ y. record { object = o; instance = y.serial; offset = 0 }) x) s)
          by_state None = stops p _ s
          by_state (Some x) =
              here p (Some (record { object = o; instance = x.serial; offset = 0 })) s (inl (eq-eqb o o refl, named)) well

      pointed_holds : {K : ℕ → Type 0} (e : PlainExpr) (v : Value) (s : State) → IsValue p v → IsWell p s
          → Holds p (IsAt (deref e)) 0 K s (pointed_to v s)
      pointed_holds e (Number n) s h well = stops p _ s
      pointed_holds e (Pointer None) s h well = here p None s tt well
      pointed_holds e (Pointer (Some q)) s h well = here p (Some q) s (inr h) well

      mutual
        pub expr_holds : (K : ℕ → Type 0) (out : (o : ℕ) → K o → Outer o) (e : PlainExpr) (s : State) (rest : List ℕ)
            → ValidExpr p table f e → Spared K (λ t o. touches t o e) → AllByRecursion May (expr_calls e rest) → IsWell p s
            → Holds p (IsVal p) (E e) K s (value_of w calls e s)
        expr_holds K out (expression ty mode node) s rest v u c well =
            began p (node_words (plain_table table) ty node) s _ well
            (node_holds K out ty mode node (worked (node_words (plain_table table) ty node) s) rest v.2 u c well) (omega arith)

        node_holds : (K : ℕ → Type 0) (out : (o : ℕ) → K o → Outer o) (ty : PlainType) (mode : Mode) (node : PlainNode) (s : State)
            (rest : List ℕ) → ValidParts p table f node → Spared K (λ t o. node_touches t o node)
            → AllByRecursion May (node_calls node rest) → IsWell p s
            → Holds p (IsVal p) (node_most (plain_table table) most node) K s (node_value w calls ty mode node s)
        node_holds K out ty mode (number n) s rest v u c well = here p (Number n) s tt well
        node_holds K out ty mode null s rest v u c well = here p (Pointer None) s tt well
        node_holds K out ty mode (load q) s rest v u c well =
            bind p _ _ (place_holds K out q s rest v u c well) (λ at t h a. read_holds p ty _ at t a.well) (omega arith)
        node_holds K out ty mode (address_of q) s rest v u c well =
            bind p _ _ (place_holds K out q s rest v.0 (λ t o k. or_right _ _ (u t o k)) c well)
            (λ at t h a. here p (Pointer at) t (no_address q at (λ o free. or_left _ _ (u Address o free)) h) a.well) (omega arith)
        node_holds K out ty mode (unary op a) s rest v u c well =
            bind p _ _ (expr_holds K out a s rest v u c well)
            (λ x t h b. of_result p {P = IsVal p} _ t (unary_ok p op ty mode x) b.well) (omega arith)
        node_holds K out ty mode (binary op a b) s rest v u c well =
            bind p _ _ (expr_holds K out a s (expr_calls b rest) v.0 (λ t o k. or_left _ _ (u t o k)) c well)
            (λ x t h d. bind p {m = E b} _ _ (expr_holds K out b t rest v.1 (λ t o k. or_right _ _ (u t o k)) (expr_tail May a _ c) d.well)
            (λ y r g d2. of_result p {P = IsVal p} _ r
            (binary_ok p op ty mode (operand_of p (type_of_expr a) x r) x (operand_of p (type_of_expr b) y r) y h g) d2.well)
            (omega arith)) (omega arith)
        node_holds K out ty mode (convert a) s rest v u c well =
            bind p _ _ (expr_holds K out a s rest v u c well)
            (λ x t h b. of_result p {P = IsVal p} _ t (conversion_ok p ty mode (operand_of p (type_of_expr a) x t) x h) b.well)
            (omega arith)
        node_holds K out ty mode (assign q a) s rest v u c well =
            bind p _ _ (place_holds K out q s (expr_calls a rest) v.0 (λ t o k. or_left _ _ (or_right _ _ (u t o k))) c well)
            (λ at t h d. bind p {m = E a} _ _
            (expr_holds K out a t rest v.1 (λ t o k. or_right _ _ (or_right _ _ (u t o k))) (place_tail May q _ c) d.well)
            (λ x r g d2. write_holds p ty _ at x r g (apart K out q at (λ o k free. or_left _ _ (u Change o (k, free))) h) d2.well)
            (omega arith)) (omega arith)
        node_holds K out ty mode (compound op operation_mode q a) s rest v u c well =
            bind p _ _ (place_holds K out q s (expr_calls a rest) v.0 (λ t o k. or_left _ _ (or_right _ _ (u t o k))) c well)
            (λ at t h d. bind p {m = E a} _ _ (read_holds p ty _ at t d.well)
            (λ old t2 g d2. bind p {m = E a} _ _
            (expr_holds K out a t2 rest v.1 (λ t o k. or_right _ _ (or_right _ _ (u t o k))) (place_tail May q _ c) d2.well)
            (λ x r g2 d3. updated_holds (compound_update op operation_mode ty mode q) at old (type_of_expr a) x r g
            (apart K out q at (λ o k free. or_left _ _ (u Change o (k, free))) h) d3.well)
            (omega arith)) (omega arith)) (omega arith)
        node_holds K out ty mode (step up prefix q) s rest v u c well =
            bind p _ _ (place_holds K out q s rest v (λ t o k. or_right _ _ (u t o k)) c well)
            (λ at t h d. bind p {m = 0} _ _ (read_holds p ty _ at t d.well)
            (λ old r g d2. updated_holds (step_update up ty mode prefix q) at old int (Number (pos 1)) r g
            (apart K out q at (λ o k free. or_left _ _ (u Change o (k, free))) h) d2.well)
            (omega arith)) (omega arith)
        node_holds K out ty mode (logical_not a) s rest v u c well =
            bind p _ _ (condition_holds a _ (expr_holds K out a s rest v u c well))
            (λ b t h d. here p (Number (truth (not b))) t tt d.well) (omega arith)
        node_holds K out ty mode (logical_and a b) s rest v u c well =
            bind p _ _ (condition_holds a _ (expr_holds K out a s (expr_calls b rest) v.0 (λ t o k. or_left _ _ (u t o k)) c well))
            (λ h t g d. choosing p {m = E b} h _ _ t d.well
            (truth_holds _ (condition_holds b _
            (expr_holds K out b t rest v.1 (λ t o k. or_right _ _ (u t o k)) (expr_tail May a _ c) d.well)))
            (here p (Number (truth false)) t tt d.well) (omega arith) (omega arith)) (omega arith)
        node_holds K out ty mode (logical_or a b) s rest v u c well =
            bind p _ _ (condition_holds a _ (expr_holds K out a s (expr_calls b rest) v.0 (λ t o k. or_left _ _ (u t o k)) c well))
            (λ h t g d. choosing p {m = E b} h _ _ t d.well (here p (Number (truth true)) t tt d.well)
            (truth_holds _ (condition_holds b _
            (expr_holds K out b t rest v.1 (λ t o k. or_right _ _ (u t o k)) (expr_tail May a _ c) d.well)))
            (omega arith) (omega arith)) (omega arith)
        node_holds K out ty mode (conditional x a b) s rest v u c well =
            let c1 = expr_tail May x (expr_calls a (expr_calls b rest)) c in
            bind p _ _ (condition_holds x _
            (expr_holds K out x s (expr_calls a (expr_calls b rest)) v.0 (λ t o k. or_left _ _ (u t o k)) c well))
            (λ h t g d. choosing p {m = max (E a) (E b)} h _ _ t d.well
            (expr_holds K out a t (expr_calls b rest) v.1 (λ t o k. or_left _ _ (or_right _ _ (u t o k))) c1 d.well)
            (expr_holds K out b t rest v.2 (λ t o k. or_right _ _ (or_right _ _ (u t o k))) (expr_tail May a _ c1) d.well)
            (omega arith) (omega arith)) (omega arith)
        node_holds K out ty mode (comma a b) s rest v u c well =
            bind p _ _ (expr_holds K out a s (expr_calls b rest) v.0 (λ t o k. or_left _ _ (u t o k)) c well)
            (λ x t h d. expr_holds K out b t rest v.1 (λ t o k. or_right _ _ (u t o k)) (expr_tail May a _ c) d.well) (omega arith)
        node_holds K out ty mode (call g args) s rest v u c well =
            bind p _ _ (values_hold K out args s rest v u c.1 well) (λ xs t h d. calls_hold K out g c.0 xs t h d.well) (omega arith)
        node_holds K out ty mode (io op port index value) s rest v u c well =
            bind p _ _ (option_holds K out index s (option_calls value rest) v.0 (λ t o k. or_left _ _ (u t o k)) c well)
            (λ i t h d. bind p {m = option_most (plain_table table) most value} _ _
            (option_holds K out value t rest v.1 (λ t o k. or_right _ _ (u t o k)) (option_tail May index _ c) d.well)
            (λ x r g d2. port_holds p inputs (plain_table table) op _ i x r d2.well) (omega arith)) (omega arith)
        node_holds K out ty mode (group acquire g) s rest v u c well = group_holds p acquire g _ s well
        node_holds K out ty mode (binding d choice) s rest v u c well = bind_holds p d choice s well
        node_holds K out ty mode (dynamic_group acquire d) s rest v u c well = dynamic_holds p (plain_table table) acquire d s well

        place_holds : (K : ℕ → Type 0) (out : (o : ℕ) → K o → Outer o) (q : PlainPlace) (s : State) (rest : List ℕ)
            → ValidPlace p table f q → Spared K (λ t o. place_touches t o q) → AllByRecursion May (place_calls q rest) → IsWell p s
            → Holds p (IsAt q) (place_most (plain_table table) most q) K s (place_of w calls q s)
        place_holds K out (object o) s rest v u c well = object_holds o s v well
        place_holds K out (deref e) s rest v u c well =
            bind p _ _ (expr_holds K out e s rest v u c well) (λ x t h d. pointed_holds e x t h d.well) (omega arith)
        place_holds K out (member q i) s rest v u c well =
            began p {m2 = place_most (plain_table table) most q} member_words s _ well
            (bind p _ _ (place_holds K out q (worked member_words s) rest v u c well)
            (λ at t h d. of_result p {P = IsAt (member q i)} _ t (moved_in p (Lies q) at (referent_of p at t) _ h) d.well) (omega arith))
            (omega arith)

        option_holds : (K : ℕ → Type 0) (out : (o : ℕ) → K o → Outer o) (e : OptionPlainExpr) (s : State) (rest : List ℕ)
            → ValidOption p table f e → Spared K (λ t o. option_touches t o e) → AllByRecursion May (option_calls e rest) → IsWell p s
            → Holds p (IsVal p) (option_most (plain_table table) most e) K s (option_value w calls e s)
        option_holds K out no_expr s rest v u c well = here p no_value s tt well
        option_holds K out (an_expr e) s rest v u c well = expr_holds K out e s rest v u c well

        values_hold : (K : ℕ → Type 0) (out : (o : ℕ) → K o → Outer o) (es : PlainExprs) (s : State) (rest : List ℕ)
            → ValidExprs p table f es → Spared K (λ t o. exprs_touch t o es) → AllByRecursion May (exprs_calls es rest) → IsWell p s
            → Holds p AreVals (exprs_most (plain_table table) most es) K s (values_of w calls es s)
        values_hold K out last_expr s rest v u c well = here p [] s tt well
        values_hold K out (next_expr e es) s rest v u c well =
            bind p _ _ (expr_holds K out e s (exprs_calls es rest) v.0 (λ t o k. or_left _ _ (u t o k)) c well)
            (λ x t h d. bind p {m = exprs_most (plain_table table) most es} _ _
            (values_hold K out es t rest v.1 (λ t o k. or_right _ _ (u t o k)) (expr_tail May e _ c) d.well)
            (λ xs r g d2. here p (x ∷ xs) r (h, g) d2.well) (omega arith)) (omega arith)
