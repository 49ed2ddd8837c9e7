-- From a part of a valid program to the parts in it: what a state and a part have where a run comes to them.
use Rattle.std.proofs.Common.{◌≡◌, ◌+◌, ◌<◌, ◌≤◌, drop, get_or, length, ◌++◌, pos, ℕ, zero, suc, Bool, true, false, List, [], ◌∷◌, Option, Some, None}
use Rattle.std.proofs.Common.{Result, Ok, Err, refl, sym, ap, ◌∙◌, subst, arith, inl, inr, ⊎_elim}
use Rattle.std.proofs.Math.Seq.{drop-cons}
use Rattle.std.specs.Prelude.{IsSomeAnd, slice_get}
use Rattle.std.proofs.lemmas.Int.{ints}
use Rattle.std.proofs.lemmas.List.{append_assoc, append-nil, drop_all}
use Rattle.ec_core.specs.declared.expressions.Expr.{Expr}
use Rattle.ec_core.specs.declared.statements.Stmt.{Stmt}
use Rattle.ec_core.specs.declared.values.Undefined.{Undefined}
use Rattle.ec_core.specs.declared.values.Value.{Value}
use Rattle.ec_core.specs.declared.values.Value.TheVariants.{Number, Pointer}
use Rattle.ec_core.specs.Accesses.{operand_of, begun, initialised, read}
use Rattle.ec_core.specs.Expressions.{Calls, accessed, condition, value_of, place_of, option_value, values_of}
use Rattle.ec_core.specs.Layout.{IsScalar, PlainLeaf, leaves_of_type}
use Rattle.ec_core.specs.Meaning.{initial_state}
use Rattle.ec_core.specs.Operators.{truth_result, step_operator}
use Rattle.ec_core.specs.Plain.{PlainType, void, integer, fixed, pointer, array, struct, PlainExpr, expression, PlainNode, PlainPlace}
use Rattle.ec_core.specs.Plain.{OptionPlainExpr, no_expr, an_expr, PlainExprs, last_expr, next_expr, call, PlainStmt, OptionPlainStmt}
use Rattle.ec_core.specs.Plain.{branch, a_stmt, next_stmt, plain_expr, plain_exprs, plain_stmt, plain_stmts, PlainObject, PlainFunction}
use Rattle.ec_core.specs.Plain.{PlainProgram, plain_program}
use Rattle.ec_core.specs.Pointers.{Pointer as PointerValue}
use Rattle.ec_core.specs.PortTable.{plain_table}
use Rattle.ec_core.specs.State.{Setting, State, worked, Outcome, got, more, undefined, next, given, choose}
use Rattle.ec_core.specs.Statements.{Exit, at_end, in_order, initialising, effects_of, kind_effect, option_effect, test_of, evaluated}
use Rattle.ec_core.specs.Statements.{going_on, effect_of, first_effect, parameters_written, calls_within}
use Rattle.ec_core.specs.Typing.{int, type_of_expr, HaveCompoundTypes, AreArguments}
use Rattle.ec_core.specs.Valid.{ValidExpr, ValidExprs, ValidPlace, ValidOptional, ValidCondition, AreLeafValues, IsDeclared, ValidStmt}
use Rattle.ec_core.specs.ValueTypes.{HasType, IsTypedState, IsSoundOutcome, AreArgumentValues, ValuesHaveTheirTypes}
use Rattle.ec_core.specs.Words.{leaf_words, branch_words}
use Rattle.ec_core.proofs.TypedRuns.{types_are_kept}
use Rattle.ec_interp.specs.declared.state.Context.{Context}
use Rattle.ec_interp.specs.Suits.{IsGiven, Runs, RunsNode, RunsExpr, RunsPlace, RunsOption, RunsExprs, RunsOptional, RunsCondition}
use Rattle.ec_interp.specs.Suits.{RunsLeaves, RunsStmt, RunsStmts, RunsTest, RunsLoop, AreArgumentsOf, IsOperand}
use Rattle.ec_interp.specs.Views.{setting_of, inputs_of}
use Rattle.ec_interp.proofs.Operands.{some_and}

pub list_next : {A : Type 0} (xs : List A) (i : ℕ) (x : A) → i < length xs → x ≡ get_or xs i x → drop i xs ≡ x ∷ drop (i + 1) xs
list_next xs i x l r =
    let n : suc i ≡ i + 1 = omega arith in
    drop-cons xs i x l ∙ (ap (λ y. y ∷ drop (suc i) xs) (sym r) ∙ ap (λ j. x ∷ drop j xs) n)

module _ (f : Context) where
  abbrev program : PlainProgram
  program = plain_program f.program.now

  abbrev w : Setting
  w = setting_of f.program.now f.io.now f.inputs.now

  law : IsGiven f → ValuesHaveTheirTypes program f.io.now (inputs_of f.inputs.now)
  law given = types_are_kept program f.io.now (inputs_of f.inputs.now) given.valid given.bytes

  -- a value with a property, in a typed state
  pub record IsReached {A : Type 0} (P : A → Type 0) (x : A) (s : State) : Type 0 where
    pub value : P x
    pub typed : IsTypedState program s

  reached : {A : Type 0} {P : A → Type 0} (o : Outcome A) (x : A) (s : State) → IsSoundOutcome program P o → o ≡ got x s → IsReached P x s
  reached {P = P} o x s h e = let k = subst (λ z. IsSoundOutcome program P z) e h in record { value = k.0; typed = k.1 }

  -- ---- parts

  -- a part of a part that a run has come to
  pub part : {K : ℕ → Type 0} (L : ℕ → Type 0) {s : State} → ((g : ℕ) → K g → L g) → Runs f s K → Runs f s L
  part L go h = record { given = h.given; typed = h.typed; function = h.function; keeps = go h.function h.keeps }

  -- and in a later state
  pub later : {K : ℕ → Type 0} (L : ℕ → Type 0) {s t : State} → ((g : ℕ) → K g → L g) → Runs f s K → IsTypedState program t → Runs f t L
  later L go h k = record { given = h.given; typed = k; function = h.function; keeps = go h.function h.keeps }

  -- what stands in a node, in a later state
  pub node_part : {s : State} {ty : PlainType} {node : PlainNode} (K : ℕ → Type 0) (t : State) (h : RunsNode f s ty node)
      → IsTypedState program t → K h.function → Runs f t K
  node_part K t h k v = record { given = h.given; typed = k; function = h.function; keeps = v }

  pub node_expr : {s : State} {ty : PlainType} {node : PlainNode} (e : PlainExpr) (t : State) (h : RunsNode f s ty node)
      → IsTypedState program t → ValidExpr program f.io.now h.function e → RunsExpr f t e
  node_expr e t h k v = record { given = h.given; typed = k; function = h.function; keeps = v }

  pub node_place : {s : State} {ty : PlainType} {node : PlainNode} (p : PlainPlace) (t : State) (h : RunsNode f s ty node)
      → IsTypedState program t → ValidPlace program f.io.now h.function p → RunsPlace f t p
  node_place p t h k v = record { given = h.given; typed = k; function = h.function; keeps = v }

  -- what stands in a statement, in a later state
  pub statement_expr : {s : State} {a : PlainStmt} (e : PlainExpr) (t : State) (h : RunsStmt f s a) → IsTypedState program t
      → ValidExpr program f.io.now h.function e → RunsExpr f t e
  statement_expr e t h k v = record { given = h.given; typed = k; function = h.function; keeps = v }

  pub statement_part : {s : State} {a : PlainStmt} (K : ℕ → Type 0) (t : State) (h : RunsStmt f s a) → IsTypedState program t
      → K h.function → Runs f t K
  statement_part K t h k v = record { given = h.given; typed = k; function = h.function; keeps = v }

  -- work changes no types
  pub worked_typed : (words : ℕ) (s t : State) → t ≡ worked words s → IsTypedState program s → IsTypedState program t
  worked_typed words s t e h = subst (IsTypedState program) (sym e) h

  -- ---- after parts of a body

  -- after an expression, with its value as an operand
  pub after_value : (turns depth : ℕ) (e : PlainExpr) (x : Value) (s t : State) → RunsExpr f s e
      → value_of w (calls_within w turns depth) e s ≡ got x t → IsReached (IsOperand f (type_of_expr e)) x t
  after_value turns depth (expression ty mode node) x s t h q =
      let r = reached (value_of w (calls_within w turns depth) (expression ty mode node) s) x t
      ((law h.given).expressions turns depth h.function (expression ty mode node) s h.keeps h.typed) q in
      record { value = record { known = h.keeps.0; typed = r.value }; typed = r.typed }

  pub after_place : (turns depth : ℕ) (p : PlainPlace) (at : PointerValue) (s t : State) → RunsPlace f s p
      → place_of w (calls_within w turns depth) p s ≡ got at t → IsTypedState program t
  after_place turns depth p at s t h q =
      (reached (place_of w (calls_within w turns depth) p s) at t ((law h.given).places turns depth h.function p s h.keeps h.typed) q).typed

  pub after_arguments : (turns depth : ℕ) (params : List ℕ) (es : PlainExprs) (xs : List Value) (s t : State)
      → RunsExprs f s es → AreArguments program params es → values_of w (calls_within w turns depth) es s ≡ got xs t
      → IsReached (AreArgumentValues program params) xs t
  after_arguments turns depth params es xs s t h a q = reached (values_of w (calls_within w turns depth) es s) xs t
      ((law h.given).arguments turns depth h.function params es s a h.keeps h.typed) q

  pub after_statement : (turns depth : ℕ) (a : PlainStmt) (x : Exit) (s t : State) → RunsStmt f s a
      → effect_of w (calls_within w turns depth) turns a s ≡ got x t → IsTypedState program t
  after_statement turns depth a x s t h q =
      (reached (effect_of w (calls_within w turns depth) turns a s) x t
      ((law h.given).statements turns depth h.function h.returns h.in_loop a s h.valid h.typed) q).typed

  pub after_first : (turns depth : ℕ) (a : PlainStmt) (x : Exit) (s t : State) → RunsStmt f s a
      → first_effect w (calls_within w turns depth) turns (a_stmt a) s ≡ got x t → IsTypedState program t
  after_first turns depth a x s t h q =
      (reached (first_effect w (calls_within w turns depth) turns (a_stmt a) s) x t
      ((law h.given).first_parts turns depth h.function h.returns h.in_loop (a_stmt a) s h.valid h.typed) q).typed

  pub after_read : (ty : PlainType) (p : PlainPlace) (at : PointerValue) (x : Value) (s t : State) → IsGiven f → IsTypedState program s
      → read program (accessed w ty p at s) s ≡ got x t → IsReached (HasType program ty) x t
  after_read ty p at x s t g h q = reached (read program (accessed w ty p at s) s) x t ((law g).states.read ty _ at s h) q

  pub after_begin : (o : ℕ) (s : State) → IsGiven f → IsTypedState program s → IsTypedState program (begun program o s)
  after_begin o s g h = (law g).states.begun o s h

  pub after_initialise : (o k : ℕ) (d : PlainObject) (ty : PlainType) (at : ℕ) (v x : Value) (s t : State) → IsGiven f
      → slice_get program.objects o ≡ Some d → slice_get (leaves_of_type program.structs d.ty) k ≡ Some (record { ty = ty; at = at })
      → HasType program ty v → IsTypedState program s → initialised program o k v s ≡ got x t → IsTypedState program t
  after_initialise o k d ty at v x s t g e l h i q =
      (reached (initialised program o k v s) x t ((law g).states.initialised o k d (record { ty = ty; at = at }) v s e l h i) q).typed

  pub after_parameters : (g : ℕ) (called : PlainFunction) (xs : List Value) (x : Value) (s t : State) → IsGiven f
      → slice_get program.functions g ≡ Some called → AreArgumentValues program called.params xs → IsTypedState program s
      → parameters_written w called.params xs s ≡ got x t → IsTypedState program t
  after_parameters g called xs x s t given e a h q =
      (reached (parameters_written w called.params xs s) x t ((law given).parameters g called xs s e a h) q).typed

  -- the condition of an expression is that of its value, in the state after it
  value_before : (e : PlainExpr) (o : Outcome Value) (b : Bool) (t : State) → condition w e o ≡ got b t → (x : Value) × (o ≡ got x t)
  value_before e (got x u) b t q = by_result (truth_result (operand_of program (type_of_expr e) x u)) q
    where
      by_result : (r : Result Bool Undefined) → given r u ≡ got b t → (y : Value) × (got x u ≡ got y t)
      by_result (Ok c) q = let k : u ≡ t = cc in (x, ap (got x) k)
      by_result (Err point) q = cc
  value_before e (more u) b t q = cc
  value_before e (undefined point u) b t q = cc

  pub after_condition : (turns depth : ℕ) (e : PlainExpr) (b : Bool) (s t : State) → RunsExpr f s e
      → condition w e (value_of w (calls_within w turns depth) e s) ≡ got b t → IsTypedState program t
  after_condition turns depth e b s t h q =
      let v = value_before e (value_of w (calls_within w turns depth) e s) b t q in
      (after_value turns depth e v.0 s t h v.1).typed

  pub after_option : (turns depth : ℕ) (e : OptionPlainExpr) (x : Value) (s t : State) → RunsOption f s e
      → option_value w (calls_within w turns depth) e s ≡ got x t → IsTypedState program t
  after_option turns depth no_expr x s t h q = let k : s ≡ t = cc in subst (IsTypedState program) k h.typed
  after_option turns depth (an_expr e) x s t h q = (after_value turns depth e x s t h q).typed

  pub after_test : (turns depth : ℕ) (c : Option PlainExpr) (b : Bool) (s t : State) → RunsCondition f s c
      → test_of w (calls_within w turns depth) c s ≡ got b t → IsTypedState program t
  after_test turns depth None b s t h q = let k : s ≡ t = cc in subst (IsTypedState program) k h.typed
  after_test turns depth (Some e) b s t h q =
      after_condition turns depth e b s t (part (λ g. ValidExpr program f.io.now g e) (λ g v. v.0) h) q

  pub after_evaluated : (turns depth : ℕ) (e : Option PlainExpr) (x : Exit) (s t : State) → RunsOptional f s e
      → evaluated w (calls_within w turns depth) e s ≡ got x t → IsTypedState program t
  after_evaluated turns depth None x s t h q = let k : s ≡ t = cc in subst (IsTypedState program) k h.typed
  after_evaluated turns depth (Some e) x s t h q = by_value (value_of w (calls_within w turns depth) e s) refl q
    where
      by_value : (o : Outcome Value) → value_of w (calls_within w turns depth) e s ≡ o → next o (λ y u. got at_end u) ≡ got x t
          → IsTypedState program t
      by_value (got y u) k q = let l : u ≡ t = cc in subst (IsTypedState program) l (after_value turns depth e y s u h k).typed
      by_value (more u) k q = cc
      by_value (undefined point u) k q = cc

  -- ---- operands

  -- the type of a value plays no part in what it tells as a condition
  pub truth_of_any : (ty other : PlainType) (x : Value) (s : State)
      → truth_result (operand_of program ty x s) ≡ truth_result (operand_of program other x s)
  truth_of_any ty other (Number n) s = refl
  truth_of_any ty other (Pointer p) s = refl

  -- `++` and `--` take a scalar and an int
  pub step_types : (up : Bool) (ty : PlainType) → IsScalar ty → HaveCompoundTypes (step_operator up) ty int
  step_types true void h = absurd h
  step_types true (integer s b) h = tt
  step_types true (fixed k z) h = tt
  step_types true (pointer s k t) h = tt
  step_types true (array t m) h = absurd h
  step_types true (struct i) h = absurd h
  step_types false void h = absurd h
  step_types false (integer s b) h = tt
  step_types false (fixed k z) h = tt
  step_types false (pointer s k t) h = tt
  step_types false (array t m) h = absurd h
  step_types false (struct i) h = absurd h

  pub one_operand : IsOperand f int (Number (pos 1))
  one_operand = record {
    known = inr (inl refl);
    typed = (inr (inl refl), record { low = omega (arith, ints); high = omega (arith, ints) });
  }

  -- the old value of the place of a node
  pub old_operand : (s : State) (ty : PlainType) (node : PlainNode) {x : Value} → RunsNode f s ty node → HasType program ty x
      → IsOperand f ty x
  old_operand s ty node h k = record { known = h.known; typed = k }

  -- ---- declarations

  pub declared_leaves : (o : ℕ) (es : PlainExprs) (t : State) (g : ℕ) → IsGiven f → IsTypedState program t
      → IsSomeAnd (slice_get program.objects o) (IsDeclared program f.io.now g es) → ValidExprs program f.io.now g es
      → RunsLeaves f t o 0 es
  declared_leaves o es t g given k d v =
      let c = some_and (slice_get program.objects o) (IsDeclared program f.io.now g es) d in
      record { given = given; typed = k; function = g; keeps = (c.0, c.1, c.2.1, v) }

  -- a leaf, and the list from it on
  record IsNext (ls : List PlainLeaf) (k : ℕ) (ty : PlainType) : Type 0 where
    at : ℕ
    leaf : slice_get ls k ≡ Some (record { ty = ty; at = at })

  leaf_next : (g : ℕ) (ls : List PlainLeaf) (k : ℕ) (e : PlainExpr) (es : PlainExprs)
      → AreLeafValues program f.io.now g (drop k ls) (next_expr e es)
      → IsNext ls k (type_of_expr e) × AreLeafValues program f.io.now g (drop (suc k) ls) es
  leaf_next g [] zero e es a = absurd a
  leaf_next g [] (suc k) e es a = absurd a
  leaf_next g (l ∷ ls) zero e es a = (
    record { at = l.at; leaf = ap (λ (t : PlainType). Some (record { ty = t; at = l.at })) (sym a.0) },
    a.1,
  )
  leaf_next g (l ∷ ls) (suc k) e es a = let r = leaf_next g ls k e es a in (record { at = r.0.at; leaf = r.0.leaf }, r.1)

  -- what an initialised leaf leaves for the next
  pub left_next : (turns depth words o k : ℕ) (e : PlainExpr) (es : PlainExprs) (v x : Value) (s t u r : State)
      → RunsLeaves f s o k (next_expr e es) → t ≡ worked words s → value_of w (calls_within w turns depth) e t ≡ got v u
      → initialised program o k v u ≡ got x r → RunsLeaves f r o (k + 1) es
  left_next turns depth words o k e es v x s t u r h q1 q2 q3 =
      let at = worked_typed words s t q1 h.typed in
      let m : suc k ≡ k + 1 = omega arith in
      let a = after_value turns depth e v t u (later (λ g. ValidExpr program f.io.now g e) (λ g k2. k2.3.0) h at) q2 in
      ⊎_elim (λ z. absurd (no_exprs z)) (λ z. (let n = leaf_next h.function (leaves_of_type program.structs h.keeps.0.ty) k e es z in
      let y = after_initialise o k h.keeps.0 (type_of_expr e) n.0.at v x u r h.given h.keeps.1 n.0.leaf a.value.typed a.typed q3 in
      record {
        given = h.given;
        typed = y;
        function = h.function;
        keeps = (
          h.keeps.0,
          h.keeps.1,
          inr (subst
              (λ (j : ℕ). AreLeafValues program f.io.now h.function (drop j (leaves_of_type program.structs h.keeps.0.ty)) es) m n.1),
          h.keeps.3.1,
        );
      })) h.keeps.2
    where
      no_exprs : next_expr e es ≡ last_expr → ⊥
      no_exprs z = cc

  -- ---- lists of expressions and statements

  pub exprs_next : (s : State) (es : List Expr) (i : ℕ) (e : Expr) → i < length es → e ≡ get_or es i e
      → RunsExprs f s (plain_exprs (drop i es)) → RunsExprs f s (next_expr (plain_expr e) (plain_exprs (drop (i + 1) es)))
  exprs_next s es i e l r h = subst (λ (xs : List Expr). RunsExprs f s (plain_exprs xs)) (list_next es i e l r) h

  pub stmts_next : (s : State) (ss : List Stmt) (i : ℕ) (a : Stmt) → i < length ss → a ≡ get_or ss i a
      → RunsStmts f s (plain_stmts (drop i ss)) → RunsStmts f s (next_stmt (plain_stmt a) (plain_stmts (drop (i + 1) ss)))
  stmts_next s ss i a l r h = subst (λ (xs : List Stmt). RunsStmts f s (plain_stmts xs)) (list_next ss i a l r) h

  pub leaves_next : (s : State) (o k : ℕ) (es : List Expr) (e : Expr) → k < length es → e ≡ get_or es k e
      → RunsLeaves f s o k (plain_exprs (drop k es)) → RunsLeaves f s o k (next_expr (plain_expr e) (plain_exprs (drop (k + 1) es)))
  leaves_next s o k es e l r h = subst (λ (xs : List Expr). RunsLeaves f s o k (plain_exprs xs)) (list_next es k e l r) h

  -- what is done first with the rest of a list
  pub exprs_step : (calls : Calls) (es : List Expr) (i : ℕ) (e : Expr) (s : State) → i < length es → e ≡ get_or es i e
      → values_of w calls (plain_exprs (drop i es)) s ≡ next (value_of w calls (plain_expr e)
      s) (λ x s1. next (values_of w calls (plain_exprs (drop (i + 1) es)) s1) (λ xs s2. got (x ∷ xs) s2))
  exprs_step calls es i e s l r = ap (λ xs. values_of w calls (plain_exprs xs) s) (list_next es i e l r)

  -- one value more in front of the rest
  pub values_more : (o rest all : Outcome (List Value)) (made : List Value) (x : Value) (new : List Value) → new ≡ made ++ x ∷ []
      → o ≡ next rest (λ xs s2. got (x ∷ xs) s2) → next o (λ xs s. got (made ++ xs) s) ≡ all → next rest (λ xs s. got (new ++ xs) s) ≡ all
  values_more o (got xs s) all made x new n e h =
      sym (ap (λ z. next z (λ ys t. got (made ++ ys) t)) e
      ∙ ap (λ (z : List Value). got z s) (sym (append_assoc made (x ∷ []) xs) ∙ ap (λ z. z ++ xs) (sym n))) ∙ h
  values_more o (more s) all made x new n e h = sym (ap (λ z. next z (λ ys t. got (made ++ ys) t)) e) ∙ h
  values_more o (undefined p s) all made x new n e h = sym (ap (λ z. next z (λ ys t. got (made ++ ys) t)) e) ∙ h

  -- none are left
  pub values_done : (calls : Calls) (es : List Expr) (i : ℕ) (made : List Value) (s : State) (all : Outcome (List Value)) → length es ≤ i
      → next (values_of w calls (plain_exprs (drop i es)) s) (λ xs t. got (made ++ xs) t) ≡ all → all ≡ got made s
  values_done calls es i made s all h e =
      sym e ∙ (ap (λ xs. next (values_of w calls (plain_exprs xs) s) (λ ys t. got (made ++ ys) t)) (drop_all i es h)
      ∙ ap (λ (z : List Value). got z s) (append-nil made))

  pub leaves_done : (calls : Calls) (o : ℕ) (es : List Expr) (k : ℕ) (s : State) (all : Outcome Exit) → length es ≤ k
      → initialising w calls o k (plain_exprs (drop k es)) s ≡ all → all ≡ got at_end s
  leaves_done calls o es k s all h e = sym e ∙ ap (λ xs. initialising w calls o k (plain_exprs xs) s) (drop_all k es h)

  pub leaves_step : (calls : Calls) (o k : ℕ) (es : List Expr) (e : Expr) (s t : State) → k < length es → e ≡ get_or es k e
      → t ≡ worked (leaf_words (plain_expr e)) s → initialising w calls o k (plain_exprs (drop k es)) s
      ≡ next (value_of w calls (plain_expr e) t) (λ x s1. next (initialised program o k x s1)
      (λ y s2. initialising w calls o (k + 1) (plain_exprs (drop (k + 1) es)) s2))
  leaves_step calls o k es e s t l r q =
      ap (λ xs. initialising w calls o k (plain_exprs xs) s) (list_next es k e l r)
      ∙ ap (λ (z : State). next (value_of w calls (plain_expr e) z) (λ x s1. next (initialised program o k x s1)
      (λ y s2. initialising w calls o (k + 1) (plain_exprs (drop (k + 1) es)) s2))) (sym q)

  pub stmts_step : (turns depth : ℕ) (ss : List Stmt) (i : ℕ) (a : Stmt) (s : State) → i < length ss → a ≡ get_or ss i a
      → effects_of w (calls_within w turns depth) turns (plain_stmts (drop i ss)) s ≡ next (effect_of w (calls_within w turns depth) turns
      (plain_stmt a) s) (λ x s1. in_order x s1 (λ s2. effects_of w (calls_within w turns depth) turns (plain_stmts (drop (i + 1) ss)) s2))
  stmts_step turns depth ss i a s l r = ap (λ xs. effects_of w (calls_within w turns depth) turns (plain_stmts xs) s) (list_next ss i a l r)

  -- the test of an `if`, after its work
  pub branch_is : (turns depth : ℕ) (e : PlainExpr) (a : PlainStmt) (b : OptionPlainStmt) (s t : State)
      → t ≡ worked branch_words s → kind_effect w (calls_within w turns depth) turns (branch e a b) s
      ≡ next (condition w e (value_of w (calls_within w turns depth) e t)) (λ h s1. choose h
      (λ s2. effect_of w (calls_within w turns depth) turns a s2) (λ s2. option_effect w (calls_within w turns depth) turns b s2) s1)
  branch_is turns depth e a b s t q = ap (λ (z : State). next (condition w e (value_of w (calls_within w turns depth) e z)) (λ h s1. choose
      h (λ s2. effect_of w (calls_within w turns depth) turns a s2) (λ s2. option_effect w (calls_within w turns depth) turns b s2) s1))
      (sym q)

  -- ---- calls and loops

  -- the arguments of a call, where its function is known
  pub called_arguments : (g : ℕ) (function : PlainFunction) (xs : List Value) → slice_get program.functions g ≡ Some function
      → AreArgumentsOf f g xs → AreArgumentValues program function.params xs
  called_arguments g function xs e a = subst (λ (z : Option PlainFunction). IsSomeAnd z (λ x. AreArgumentValues program x.params xs)) e a

  pub call_arguments : (turns depth g : ℕ) (ty : PlainType) (es : PlainExprs) (xs : List Value) (s t : State) → RunsNode f s ty (call g es)
      → values_of w (calls_within w turns depth) es s ≡ got xs t → IsReached (AreArgumentsOf f g) xs t
  call_arguments turns depth g ty es xs s t h q =
      let c = some_and (slice_get program.functions g) (λ x. (ty ≡ x.returns) × AreArguments program x.params es) h.types in
      let r =
      after_arguments turns depth c.0.params es xs s t (node_part (λ k. ValidExprs program f.io.now k es) s h h.typed h.parts) c.2.1 q in
      record {
        value = subst (λ (z : Option PlainFunction). IsSomeAnd z (λ x. AreArgumentValues program x.params xs)) (sym c.1) r.value;
        typed = r.typed;
      }

  pub after_going : (turns depth : ℕ) (last c : Option PlainExpr) (b : Bool) (s t : State) → RunsTest f s c last
      → going_on w (calls_within w turns depth) last c s ≡ got b t → IsTypedState program t
  after_going turns depth last c b s t h q = by_evaluated (evaluated w (calls_within w turns depth) last s) refl q
    where
      by_evaluated : (o : Outcome Exit) → evaluated w (calls_within w turns depth) last s ≡ o
          → next o (λ x u. test_of w (calls_within w turns depth) c u) ≡ got b t → IsTypedState program t
      by_evaluated (got x u) e k =
          let m =
          after_evaluated turns depth last x s u (record { given = h.given; typed = h.typed; function = h.function; keeps = h.done }) e in
          after_test turns depth c b u t (record { given = h.given; typed = m; function = h.function; keeps = h.tested }) k
      by_evaluated (more u) e k = cc
      by_evaluated (undefined point u) e k = cc

  -- the body of a called function
  pub body_runs : (g : ℕ) (called : PlainFunction) (t : State) → IsGiven f → slice_get program.functions g ≡ Some called
      → IsTypedState program t → RunsStmt f t called.body
  body_runs g called t given e k = record {
    given = given;
    typed = k;
    function = g;
    returns = called.returns;
    in_loop = false;
    valid = ((law given).functions g called e).body;
  }

  -- the body of a loop, its test, and the loop again
  pub loop_turn : {s : State} {c last : Option PlainExpr} {body : PlainStmt} (t : State) → RunsLoop f s c last body → IsTypedState program t
      → RunsStmt f t body
  loop_turn t h k = record {
    given = h.test.given;
    typed = k;
    function = h.test.function;
    returns = h.returns;
    in_loop = true;
    valid = h.turn;
  }

  pub test_later : {s : State} {c last : Option PlainExpr} (t : State) → RunsTest f s c last → IsTypedState program t → RunsTest f t c last
  test_later t h k = record { given = h.given; typed = k; function = h.function; tested = h.tested; done = h.done }

  pub loop_later : {s : State} {c last : Option PlainExpr} {body : PlainStmt} (t : State) → RunsLoop f s c last body
      → IsTypedState program t → RunsLoop f t c last body
  loop_later t h k = record {
    test = record { given = h.test.given; typed = k; function = h.test.function; tested = h.test.tested; done = h.test.done };
    returns = h.returns;
    turn = h.turn;
  }

  pub test_condition : {s : State} {c last : Option PlainExpr} → RunsTest f s c last → RunsCondition f s c
  test_condition h = record { given = h.given; typed = h.typed; function = h.function; keeps = h.tested }

  pub test_last : {s : State} {c last : Option PlainExpr} → RunsTest f s c last → RunsOptional f s last
  test_last h = record { given = h.given; typed = h.typed; function = h.function; keeps = h.done }

  -- a loop in a statement
  pub statement_loop : {s : State} {a : PlainStmt} (c last : Option PlainExpr) (body : PlainStmt) (t : State) (h : RunsStmt f s a)
      → IsTypedState program t → ValidCondition program f.io.now h.function c → ValidOptional program f.io.now h.function last
      → ValidStmt program f.io.now h.function h.returns true body → RunsLoop f t c last body
  statement_loop c last body t h k i l b = record {
    test = record { given = h.given; typed = k; function = h.function; tested = i; done = l };
    returns = h.returns;
    turn = b;
  }

  -- a statement in a statement
  pub statement_in : {s : State} {a : PlainStmt} (b : PlainStmt) (t : State) (h : RunsStmt f s a) → IsTypedState program t
      → ValidStmt program f.io.now h.function h.returns h.in_loop b → RunsStmt f t b
  statement_in b t h k v = record { given = h.given; typed = k; function = h.function; returns = h.returns; in_loop = h.in_loop; valid = v }

  -- ---- the beginning

  pub first_state : (s : State) → IsGiven f → s ≡ initial_state program (plain_table f.io.now) → IsTypedState program s
  first_state s given e = subst (IsTypedState program) (sym e) (law given).initial

  pub main_called : IsGiven f → AreArgumentsOf f program.main []
  main_called given =
      let c = some_and (slice_get program.functions program.main) (λ g. (g.params ≡ []) × (g.returns ≡ int)) given.valid.main in
      subst (λ (z : Option PlainFunction). IsSomeAnd z (λ x. AreArgumentValues program x.params [])) (sym c.1)
      (subst (λ (os : List ℕ). AreArgumentValues program os []) (sym c.2.0) tt)
