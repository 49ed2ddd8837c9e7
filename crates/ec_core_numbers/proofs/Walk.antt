-- Whatever is evaluated writes numbers of the types of their leaves.
use Rattle.std.proofs.Common.{◌≡◌, ℕ, zero, suc, ◌+◌, Bool, true, false, List, [], ◌∷◌, Option, Some, None, Result, Ok, Err, pos, refl, sym}
use Rattle.std.proofs.Common.{subst, arith, ⊎_elim, zero-add}
use Rattle.std.specs.Prelude.{◌==◌, IsSomeAnd, slice_get, length}
use Rattle.std.specs.List.{AllByRecursion}
use Rattle.ec_fx.specs.declared.numbers.Mode.{Mode}
use Rattle.ec_iohw.specs.declared.operations.IoOp.{IoOp}
use Rattle.ec_iohw.specs.declared.table.Choice.{Choice}
use Rattle.ec_iohw.specs.declared.table.IoTable.{IoTable}
use Rattle.ec_iohw.specs.declared.table.Pair.{Pair}
use Rattle.ec_core.specs.declared.values.Undefined.{Undefined}
use Rattle.ec_core.specs.declared.values.Value.{Value}
use Rattle.ec_core.specs.declared.values.Value.TheVariants.{Number, Pointer}
use Rattle.ec_core.specs.Accesses.{begun, all_ended, frame_ended, operand_of}
use Rattle.ec_core.specs.Expressions.{Calls, accessed, Update, compound_update, step_update, pointed_to, object_place, condition}
use Rattle.ec_core.specs.Expressions.{truth_value, updated_place, value_of, node_value, place_of, option_value, values_of}
use Rattle.ec_core.specs.Layout.{IsScalar, PlainLeaf, leaves_of_type}
use Rattle.ec_core.specs.Meaning.{setting, initial_state, run}
use Rattle.ec_core.specs.Operators.{compound_result, truth_result, step_operator}
use Rattle.ec_core.specs.Plain.{PlainType, void, integer, fixed, pointer, array, struct, PlainStorage, param, PlainExpr, expression}
use Rattle.ec_core.specs.Plain.{PlainNode, number, null, load, address_of, unary, binary, convert, assign, compound, step, logical_not}
use Rattle.ec_core.specs.Plain.{logical_and, logical_or, conditional, comma, call, io, group, bind, dynamic_group, PlainPlace, object}
use Rattle.ec_core.specs.Plain.{deref, member, OptionPlainExpr, no_expr, an_expr, PlainExprs, last_expr, next_expr, PlainStmt, statement}
use Rattle.ec_core.specs.Plain.{PlainKind, empty, evaluate, block, declare, branch, while_loop, do_loop, for_loop, break_loop}
use Rattle.ec_core.specs.Plain.{continue_loop, return_value, OptionPlainStmt, no_stmt, a_stmt, PlainStmts, last_stmt, next_stmt}
use Rattle.ec_core.specs.Plain.{PlainObject, PlainFunction, PlainProgram}
use Rattle.ec_core.specs.Pointers.{Pointer as PointerValue}
use Rattle.ec_core.specs.PortAccesses.{bytes_read, bytes_written, port_accessed, is_open, within, opened, port_effect, pairs_written}
use Rattle.ec_core.specs.PortAccesses.{pairs_of, group_effect, byte_read, bound, standing_port, accessed as port_at}
use Rattle.ec_core.specs.PortAccesses.{bind_effect, choice_effect}
use Rattle.ec_core.specs.PortOperations.{PortAction, reads, writes, updates, port_operation}
use Rattle.ec_core.specs.PortTable.{PlainPort, PlainGroup, plain_table}
use Rattle.ec_core.specs.State.{Inputs, Setting, Event, Out, State, with_event, worked, Outcome, got, more, undefined, next, given}
use Rattle.ec_core.specs.Statements.{Exit, at_end, by_break, by_continue, by_return, in_order, again, tested, turns, declared}
use Rattle.ec_core.specs.Statements.{declared_first, ending, test_of, evaluated, returned, going_on, initialising, effect_of, kind_effect}
use Rattle.ec_core.specs.Statements.{option_effect, first_effect, effects_of, parameters_written, unreturned, call_result, call_of}
use Rattle.ec_core.specs.Statements.{calls_within}
use Rattle.ec_core.specs.Typing.{int, type_of_expr, IsTyped}
use Rattle.ec_core.specs.Valid.{IsStored, IsObject, ValidExpr, ValidParts, ValidPlace, ValidOption, ValidExprs, ValidOptional}
use Rattle.ec_core.specs.Valid.{ValidCondition, AreLeafValues, IsDeclared, ValidStmt, ValidKind, ValidOptionStmt, ValidStmts, IsFunction}
use Rattle.ec_core.specs.Valid.{Valid, IsExprType}
use Rattle.ec_core.specs.Words.{loop_words}
use Rattle.ec_core.specs.ValueTypes.{HasType, IsTypedState, IsSoundOutcome, AreArgumentValues, IsExitOf, IsAny, IsPointerTo}
use Rattle.ec_core.specs.ValueTypes.{ValuesHaveTheirTypes, TypesAreKept}
use Rattle.ec_core.proofs.TypedValues.{OnValue, IsOperator, some_and, compound_value_typed}
use Rattle.ec_core_numbers.specs.Numbers.{WritesNumber, WritesHoldNumbers}
use Rattle.ec_core_numbers.proofs.Writes.{all_added, IsFine, Keeps, still, after, onward_beside, onward, sound_on, given_sound, given_kept}
use Rattle.ec_core_numbers.proofs.Writes.{choosing, read_kept, write_kept, inner_sound, first_kept}

each_at : {X : Type 0} (P : X → Type 0) (xs : List X) (k : ℕ) (x : X) → AllByRecursion P xs → slice_get xs k ≡ Some x → P x
each_at P [] k x h e = cc
each_at P (y ∷ xs) zero x h e = let g : y ≡ x = cc in subst P g h.0
each_at P (y ∷ xs) (suc k) x h e = each_at P xs k x h.1 e

module _ (program : PlainProgram) (table : IoTable) (inputs : Inputs) (valid : Valid program table)
    (types : ValuesHaveTheirTypes program table inputs) where
  abbrev w : Setting
  w = setting program (plain_table table) inputs

  abbrev Fine : State → Type 0
  Fine s = IsFine program s

  abbrev Typed : State → Type 0
  Typed s = IsTypedState program s

  -- ---- ports

  added : (e : Event) (s : State) → WritesNumber program e → Fine s → Fine (with_event e s)
  added e s one h = all_added (WritesNumber program) s.events e h one

  read_bytes : (n at : ℕ) (s : State) → Fine s → Fine (bytes_read inputs n at s)
  read_bytes zero at s h = h
  read_bytes (suc n) at s h = read_bytes n (at + 1) (byte_read inputs at s) (all_added (WritesNumber program) s.events _ h tt)

  written_bytes : (n at v : ℕ) (s : State) → Fine s → Fine (bytes_written n at v s)
  written_bytes zero at v s h = h
  written_bytes (suc n) at v s h = all_added (WritesNumber program) _ _ (written_bytes n (at + 1) _ s h) tt

  accessed_bytes : (action : PortAction) (op : IoOp) (width at v : ℕ) (s : State)
      → Keeps program s (port_accessed inputs action op width at v s)
  accessed_bytes reads op width at v s = still program (read_bytes width at s)
  accessed_bytes writes op width at v s = still program (written_bytes width at v s)
  accessed_bytes updates op width at v s =
      still program (λ h. written_bytes width at _ (bytes_read inputs width at s) (read_bytes width at s h))

  within_bytes : (port : PlainPort) (b : Bool) (op : IoOp) (i v : ℕ) (s : State) → Keeps program s (within inputs b op port i v s)
  within_bytes port true op i v s = accessed_bytes (port_operation op).action op port.width _ v s
  within_bytes port false op i v s = still program (λ h. h)

  opened_bytes : (port : PlainPort) (b : Bool) (op : IoOp) (i v : ℕ) (s : State) → Keeps program s (opened inputs b op port i v s)
  opened_bytes port true op i v s = within_bytes port _ op i v s
  opened_bytes port false op i v s = still program (λ h. h)

  standing_bytes : (port : Option PlainPort) (op : IoOp) (i v : ℕ) (s : State) → Keeps program s (port_at inputs op port i v s)
  standing_bytes None op i v s = still program (λ h. h)
  standing_bytes (Some port) op i v s = opened_bytes port (is_open port.group s) op i v s

  port_bytes : (port : Option PlainPort) (op : IoOp) (i v : Value) (s : State)
      → Keeps program s (port_effect inputs (plain_table table) op port i v s)
  port_bytes None op i v s = still program (λ h. h)
  port_bytes (Some port) op i v s = standing_bytes (standing_port (plain_table table) port port.dynamic s) op _ _ s

  written_pairs : (pairs : List Pair) (s : State) → Fine s → Fine (pairs_written pairs s)
  written_pairs [] s h = h
  written_pairs (pair ∷ pairs) s h =
      written_pairs pairs (with_event (Out pair.port pair.byte) s) (added (Out pair.port pair.byte) s tt h)

  group_bytes : (acquire : Bool) (g : ℕ) (x : Option PlainGroup) (s : State) → Keeps program s (group_effect acquire g x s)
  group_bytes acquire g None s = still program (λ h. h)
  group_bytes acquire g (Some x) s = still program (written_pairs (pairs_of acquire x) s)

  binding_bytes : (d choice : ℕ) (s : State) → Keeps program s (bind_effect d choice s)
  binding_bytes d choice s = still program (λ h. h)

  choice_bytes : (acquire : Bool) (c : Option Choice) (s : State) → Keeps program s (choice_effect acquire (plain_table table) c s)
  choice_bytes acquire None s = still program (λ h. h)
  choice_bytes acquire (Some c) s = group_bytes acquire c.group _ s

  -- ---- parts of expressions and statements

  -- where the values do not matter
  any_sound : {A : Type 0} (P : A → Type 0) (o : Outcome A) → IsSoundOutcome program P o → IsSoundOutcome program IsAny o
  any_sound P (got x t) h = (tt, h.1)
  any_sound P (more t) h = tt
  any_sound P (undefined point t) h = tt

  conditions : (e : PlainExpr) (s : State) (o : Outcome Value) → IsSoundOutcome program IsAny o → Keeps program s o
      → Keeps program s (condition w e o)
  conditions e s o f k = onward program {P = IsAny} f k (λ x t p h. given_kept program _ t)

  condition_sound : (e : PlainExpr) (o : Outcome Value) → IsSoundOutcome program IsAny o → IsSoundOutcome program IsAny (condition w e o)
  condition_sound e o f =
      sound_on program IsAny o _ f (λ x t p h. given_sound program (truth_result (operand_of program (type_of_expr e) x t)) t h)

  -- the second operand of `&&` and `||`
  truths : (e : PlainExpr) (s : State) (o : Outcome Value) → IsSoundOutcome program IsAny o → Keeps program s o
      → Keeps program s (truth_value (condition w e o))
  truths e s o f k = onward program {P = IsAny} (condition_sound e o f) (conditions e s o f k) (λ b t p h. still program (λ z. z))

  pointed_to_kept : (v : Value) (s : State) → Keeps program s (pointed_to v s)
  pointed_to_kept (Number n) s = still program (λ h. h)
  pointed_to_kept (Pointer p) s = still program (λ h. h)

  object_place_kept : (at : PointerValue) (s : State) → Keeps program s (object_place at s)
  object_place_kept None s = still program (λ h. h)
  object_place_kept (Some p) s = still program (λ h. h)

  -- an update whose own value is the new one
  abbrev renewing : Update → Update
  renewing u = record {
    op = u.op;
    operation_mode = u.operation_mode;
    write_mode = u.write_mode;
    ty = u.ty;
    place = u.place;
    new = true;
  }

  updated_kept : (u : Update) (at : PointerValue) (old : Value) (right : PlainType) (x : Value) (s : State) → Typed s
      → IsSoundOutcome program (HasType program u.ty) (updated_place w (renewing u) at old right x s)
      → Keeps program s (updated_place w u at old right x s)
  updated_kept u at old right x s typed sound =
      onward_beside program (HasType program u.ty) _ (given_sound program result s typed) (given_kept program result s) sound
      (λ v t p h q. onward program (inner_sound program (HasType program u.ty) v _ q)
      (write_kept program u.ty _ at v t (λ y. HasType program u.ty v) (λ z. z) (inner_sound program (HasType program u.ty) v _ q))
      (λ y z r m. still program (λ e. e)))
    where
      result : Result Value Undefined
      result = compound_result u.op u.operation_mode u.write_mode (operand_of program u.ty old s) (operand_of program right x s)

  step_operand : (up : Bool) (ty : PlainType) → IsOperator program (step_operator up) ty
  step_operand up void = tt
  step_operand up (integer g b) = tt
  step_operand up (fixed c z) = tt
  step_operand true (pointer l c t) = tt
  step_operand false (pointer l c t) = tt
  step_operand up (array t m) = tt
  step_operand up (struct i) = tt

  typed_sound : {A : Type 0} (P : A → Type 0) (r : Result A Undefined) (s : State) → OnValue P r → Typed s
      → IsSoundOutcome program P (given r s)
  typed_sound P (Ok x) s h k = (h, k)
  typed_sound P (Err point) s h k = tt

  stepped_kept : (u : Update) (at : PointerValue) (old : Value) (s : State) → IsOperator program u.op u.ty → IsScalar u.ty
      → HasType program u.ty old → Typed s → Keeps program s (updated_place w u at old int (Number (pos 1)) s)
  stepped_kept u at old s o c h typed =
      onward program {P = HasType program u.ty} (typed_sound (HasType program u.ty) result s
      (compound_value_typed program u.op u.operation_mode u.write_mode u.ty int old (pos 1) s o c h) typed) (given_kept program result s)
      (λ v t p k. onward program {P = HasType program u.ty} (types.states.write u.ty _ at v t p k)
      (write_kept program u.ty _ at v t (HasType program u.ty) (λ z. z) (types.states.write u.ty _ at v t p k))
      (λ y z r m. still program (λ e. e)))
    where
      result : Result Value Undefined
      result = compound_result u.op u.operation_mode u.write_mode (operand_of program u.ty old s) (operand_of program int (Number
          (pos 1)) s)

  in_order_kept : (x : Exit) (s : State) (go : State → Outcome Exit) → Keeps program s (go s) → Keeps program s (in_order x s go)
  in_order_kept at_end s go k = k
  in_order_kept by_break s go k = still program (λ h. h)
  in_order_kept by_continue s go k = still program (λ h. h)
  in_order_kept (by_return v) s go k = still program (λ h. h)

  again_kept : (x : Exit) (s : State) (go : State → Outcome Exit) → Keeps program s (go s) → Keeps program s (again x s go)
  again_kept at_end s go k = k
  again_kept by_break s go k = still program (λ h. h)
  again_kept by_continue s go k = k
  again_kept (by_return v) s go k = still program (λ h. h)

  -- a part that is sound and keeps the events fine, from every typed state
  abbrev IsKept : {A : Type 0} → (State → Outcome A) → Type 0
  IsKept part = (s : State) → Typed s → IsSoundOutcome program IsAny (part s) × Keeps program s (part s)

  tested_kept : (s : State) (o : Outcome Bool) (go : State → Outcome Exit) → IsSoundOutcome program IsAny o → Keeps program s o
      → ((t : State) → Typed t → Keeps program t (go t)) → Keeps program s (tested o go)
  tested_kept s o go f k g = onward program {P = IsAny} f k (λ b t p h. choosing program b _ _ t (g t h) (still program (λ z. z)))

  turns_kept : (n : ℕ) (body : State → Outcome Exit) (test : State → Outcome Bool) → IsKept body → IsKept test → (s : State) → Typed s
      → Keeps program s (turns n body test s)
  turns_kept zero body test b c s h = still program (λ z. z)
  turns_kept (suc n) body test b c s h =
      let first = b (worked loop_words s) h in
      after program (λ z. z) (onward program {P = IsAny} first.0 first.1 (λ x u p k. again_kept x u _
      (tested_kept u (test u) _ (c u k).0 (c u k).1 (λ z m. turns_kept n body test b c z m))))

  all_ended_kept : (os : List ℕ) (s : State) → Fine s → Fine (all_ended os s)
  all_ended_kept [] s h = h
  all_ended_kept (o ∷ os) s h = all_ended_kept os _ h

  ending_kept : (os : List ℕ) {s : State} (o : Outcome Exit) → Keeps program s o → Keeps program s (ending os o)
  ending_kept os (got x t) k = still program (λ h. all_ended_kept os t (k.kept h))
  ending_kept os (more t) k = still program k.kept
  ending_kept os (undefined point t) k = still program k.kept

  with_first : (x : Value) {s : State} (o : Outcome (List Value)) → Keeps program s o
      → Keeps program s (next o (λ xs t. got (x ∷ xs) t))
  with_first x (got xs t) k = still program k.kept
  with_first x (more t) k = still program k.kept
  with_first x (undefined point t) k = still program k.kept

  -- ---- expressions of the function f, where calls keep the events fine

  object_of : (o : ℕ) (d : PlainObject) → slice_get program.objects o ≡ Some d → IsObject program d
  object_of o d e = each_at (IsObject program) program.objects o d valid.objects e

  abbrev KeepFine : Calls → Type 0
  KeepFine calls =
      (g : ℕ) (f : PlainFunction) (xs : List Value) (s : State) → slice_get program.functions g ≡ Some f
      → AreArgumentValues program f.params xs → Typed s → Keeps program s (calls g xs s)

  module _ (n depth f : ℕ) (kept : KeepFine (calls_within w n depth)) where
    abbrev calls : Calls
    calls = calls_within w n depth

    -- a value comes in a typed state
    value_sound : (e : PlainExpr) (s : State) → ValidExpr program table f e → Typed s → IsSoundOutcome program IsAny (value_of w calls e s)
    value_sound e s v h = any_sound (HasType program (type_of_expr e)) (value_of w calls e s) (types.expressions n depth f e s v h)

    place_sound : (p : PlainPlace) (s : State) → ValidPlace program table f p → Typed s
        → IsSoundOutcome program IsAny (place_of w calls p s)
    place_sound p s v h = any_sound (IsPointerTo program p) (place_of w calls p s) (types.places n depth f p s v h)

    options_sound : (e : OptionPlainExpr) (s : State) → ValidOption program table f e → Typed s
        → IsSoundOutcome program IsAny (option_value w calls e s)
    options_sound no_expr s v h = (tt, h)
    options_sound (an_expr e) s v h = value_sound e s v h

    mutual
      values : (e : PlainExpr) (s : State) → ValidExpr program table f e → Typed s → Keeps program s (value_of w calls e s)
      values (expression ty mode node) s v h =
          after program (λ z. z) (nodes ty mode node _ v.0 v.1 v.2 h (types.expressions n depth f (expression ty mode node) s v h))

      nodes : (ty : PlainType) (mode : Mode) (node : PlainNode) (s : State) → IsExprType program ty → IsTyped program table ty node
          → ValidParts program table f node → Typed s → IsSoundOutcome program (HasType program ty) (node_value w calls ty mode node s)
          → Keeps program s (node_value w calls ty mode node s)
      nodes ty mode (number k) s x t v h q = still program (λ z. z)
      nodes ty mode null s x t v h q = still program (λ z. z)
      nodes ty mode (load p) s x t v h q =
          onward program {P = IsAny} (place_sound p s v h) (places p s v h) (λ at u c k. read_kept program (accessed w ty p at u) u)
      nodes ty mode (address_of p) s x t v h q =
          onward program {P = IsAny} (place_sound p s v.0 h) (places p s v.0 h) (λ at u c k. still program (λ z. z))
      nodes ty mode (unary op a) s x t v h q =
          onward program {P = IsAny} (value_sound a s v h) (values a s v h) (λ y u c k. given_kept program _ u)
      nodes ty mode (binary op a b) s x t v h q =
          onward program {P = IsAny} (value_sound a s v.0 h) (values a s v.0 h)
          (λ y u c k. onward program {P = IsAny} (value_sound b u v.1 k) (values b u v.1 k) (λ z r d l. given_kept program _ r))
      nodes ty mode (convert a) s x t v h q =
          onward program {P = IsAny} (value_sound a s v h) (values a s v h) (λ y u c k. given_kept program _ u)
      nodes ty mode (assign p a) s x t v h q =
          onward_beside program {P = IsAny} (HasType program ty) _ (place_sound p s v.0 h) (places p s v.0 h) q
          (λ at u c k r. onward_beside program {P = IsAny} (HasType program ty) _ (value_sound a u v.1 k) (values a u v.1 k) r
          (λ y z d l m. write_kept program ty _ at y z (HasType program ty) (λ g. g) m))
      nodes ty mode (compound op operation_mode p a) s x t v h q =
          onward_beside program {P = IsAny} (HasType program ty) _ (place_sound p s v.0 h) (places p s v.0 h) q
          (λ at u c k r. onward_beside program (HasType program ty) _ (types.states.read ty _ at u k) (read_kept program
          (accessed w ty p at u) u) r
          (λ old z d l m. onward_beside program {P = IsAny} (HasType program ty) _ (value_sound a z v.1 l) (values a z v.1 l) m
          (λ y b e g i. updated_kept (compound_update op operation_mode ty mode p) at old (type_of_expr a) y b g i)))
      nodes ty mode (step up prefix p) s x t v h q =
          onward program {P = IsAny} (place_sound p s v h) (places p s v h)
          (λ at u c k. onward program (types.states.read ty _ at u k) (read_kept program (accessed w ty p at u) u)
          (λ old z d l. stepped_kept (step_update up ty mode prefix p) at old z (step_operand up ty) t.0 d l))
      nodes ty mode (logical_not a) s x t v h q =
          onward program {P = IsAny} (condition_sound a (value_of w calls a s) (value_sound a s v h))
          (conditions a s (value_of w calls a s) (value_sound a s v h) (values a s v h)) (λ b u c k. still program (λ z. z))
      nodes ty mode (logical_and a b) s x t v h q =
          onward program {P = IsAny} (condition_sound a (value_of w calls a s) (value_sound a s v.0 h))
          (conditions a s (value_of w calls a s) (value_sound a s v.0 h) (values a s v.0 h))
          (λ c u d k. choosing program c _ _ u (truths b u (value_of w calls b u) (value_sound b u v.1 k) (values b u v.1 k))
          (still program (λ z. z)))
      nodes ty mode (logical_or a b) s x t v h q =
          onward program {P = IsAny} (condition_sound a (value_of w calls a s) (value_sound a s v.0 h))
          (conditions a s (value_of w calls a s) (value_sound a s v.0 h) (values a s v.0 h))
          (λ c u d k. choosing program c _ _ u (still program (λ z. z)) (truths b u (value_of w calls b u) (value_sound b u v.1 k)
          (values b u v.1 k)))
      nodes ty mode (conditional c a b) s x t v h q =
          onward program {P = IsAny} (condition_sound c (value_of w calls c s) (value_sound c s v.0 h))
          (conditions c s (value_of w calls c s) (value_sound c s v.0 h) (values c s v.0 h))
          (λ d u e k. choosing program d _ _ u (values a u v.1 k) (values b u v.2 k))
      nodes ty mode (comma a b) s x t v h q =
          onward program {P = IsAny} (value_sound a s v.0 h) (values a s v.0 h) (λ y u c k. values b u v.1 k)
      nodes ty mode (call g args) s x t v h q =
          let c = some_and (slice_get program.functions g) _ t in
          onward program (types.arguments n depth f c.0.params args s c.2.1 v h) (rows args s v h)
          (λ xs u a k. kept g c.0 xs u c.1 a k)
      nodes ty mode (io op port index value) s x t v h q =
          onward program {P = IsAny} (options_sound index s v.0 h) (options index s v.0 h)
          (λ i u a k. onward program {P = IsAny} (options_sound value u v.1 k) (options value u v.1 k) (λ y r b l. port_bytes _ op i y r))
      nodes ty mode (group acquire g) s x t v h q = group_bytes acquire g _ s
      nodes ty mode (bind d choice) s x t v h q = binding_bytes d choice s
      nodes ty mode (dynamic_group acquire d) s x t v h q = choice_bytes acquire (bound (plain_table table) d s) s

      places : (p : PlainPlace) (s : State) → ValidPlace program table f p → Typed s → Keeps program s (place_of w calls p s)
      places (object o) s v h = object_place_kept _ s
      places (deref e) s v h =
          onward program {P = IsAny} (value_sound e s v h) (values e s v h) (λ x t c k. pointed_to_kept x t)
      places (member p i) s v h =
          after program (λ z. z) (onward program {P = IsAny} (place_sound p _ v h) (places p _ v h) (λ at t c k. given_kept program _ t))

      options : (e : OptionPlainExpr) (s : State) → ValidOption program table f e → Typed s → Keeps program s (option_value w calls e s)
      options no_expr s v h = still program (λ z. z)
      options (an_expr e) s v h = values e s v h

      rows : (es : PlainExprs) (s : State) → ValidExprs program table f es → Typed s → Keeps program s (values_of w calls es s)
      rows last_expr s v h = still program (λ z. z)
      rows (next_expr e es) s v h =
          onward program {P = IsAny} (value_sound e s v.0 h) (values e s v.0 h) (λ x t c k. with_first x (values_of w calls es t)
          (rows es t v.1 k))

    -- ---- parts of statements

    tests : (c : Option PlainExpr) (s : State) → ValidCondition program table f c → Typed s → Keeps program s (test_of w calls c s)
    tests None s v h = still program (λ z. z)
    tests (Some e) s v h = conditions e s (value_of w calls e s) (value_sound e s v.0 h) (values e s v.0 h)

    tests_sound : (c : Option PlainExpr) (s : State) → ValidCondition program table f c → Typed s
        → IsSoundOutcome program IsAny (test_of w calls c s)
    tests_sound None s v h = (tt, h)
    tests_sound (Some e) s v h = condition_sound e (value_of w calls e s) (value_sound e s v.0 h)

    evaluations : (e : Option PlainExpr) (s : State) → ValidOptional program table f e → Typed s → Keeps program s (evaluated w calls e s)
    evaluations None s v h = still program (λ z. z)
    evaluations (Some e) s v h =
        onward program {P = IsAny} (value_sound e s v h) (values e s v h) (λ x t c k. still program (λ z. z))

    evaluations_sound : (e : Option PlainExpr) (s : State) → ValidOptional program table f e → Typed s
        → IsSoundOutcome program IsAny (evaluated w calls e s)
    evaluations_sound None s v h = (tt, h)
    evaluations_sound (Some e) s v h = sound_on program IsAny (value_of w calls e s) _ (value_sound e s v h) (λ x t c k. (tt, k))

    goings_on : (last c : Option PlainExpr) → ValidOptional program table f last → ValidCondition program table f c
        → IsKept (λ s. going_on w calls last c s)
    goings_on last c v u s h = (
      sound_on program IsAny (evaluated w calls last s) _ (evaluations_sound last s v h) (λ x t p k. tests_sound c t u k),
      onward program {P = IsAny} (evaluations_sound last s v h) (evaluations last s v h) (λ x t p k. tests c t u k),
    )

    tests_kept : (c : Option PlainExpr) → ValidCondition program table f c → IsKept (λ s. test_of w calls c s)
    tests_kept c v s h = (tests_sound c s v h, tests c s v h)

    returns : (e : Option PlainExpr) (s : State) → ValidOptional program table f e → Typed s → Keeps program s (returned w calls e s)
    returns None s v h = still program (λ z. z)
    returns (Some e) s v h =
        onward program {P = IsAny} (value_sound e s v h) (values e s v h) (λ x t c k. still program (λ z. z))

    -- the leaves from number k on
    abbrev AreFrom : ℕ → List PlainLeaf → List PlainLeaf → Type 0
    AreFrom k rest all = (j : ℕ) (leaf : PlainLeaf) → slice_get rest j ≡ Some leaf → slice_get all (k + j) ≡ Some leaf

    from_next : (k : ℕ) (l : PlainLeaf) (rest all : List PlainLeaf) → AreFrom k (l ∷ rest) all → AreFrom (k + 1) rest all
    from_next k l rest all h j leaf e =
        let m : k + suc j ≡ k + 1 + j = omega arith in subst (λ (i : ℕ). slice_get all i ≡ Some leaf) m (h (suc j) leaf e)

    first_from : (k : ℕ) (l : PlainLeaf) (rest all : List PlainLeaf) → AreFrom k (l ∷ rest) all → slice_get all k ≡ Some l
    first_from k l rest all h = let m : k + 0 ≡ k = omega arith in subst (λ (i : ℕ). slice_get all i ≡ Some l) m (h 0 l refl)

    leaves : (o k : ℕ) (d : PlainObject) (rest : List PlainLeaf) (es : PlainExprs) (s : State) → slice_get program.objects o ≡ Some d
        → AreFrom k rest (leaves_of_type program.structs d.ty) → AreLeafValues program table f rest es → ValidExprs program table f es
        → Typed s → Keeps program s (initialising w calls o k es s)
    leaves o k d [] last_expr s e r a v h = still program (λ z. z)
    leaves o k d [] (next_expr x es) s e r a v h = absurd a
    leaves o k d (l ∷ rest) last_expr s e r a v h = absurd a
    leaves o k d (l ∷ rest) (next_expr x es) s e r a v h =
        after program (λ z. z) (onward program {P = HasType program (type_of_expr x)} (types.expressions n depth f x _ v.0 h)
        (values x _ v.0 h) (λ y t q m.
        let is : slice_get (leaves_of_type program.structs d.ty) k ≡ Some l = first_from k l rest (leaves_of_type program.structs d.ty) r in
        let has : HasType program l.ty y = subst (λ (z : PlainType). HasType program z y) a.0 q in
        onward program (types.states.initialised o k d l y t e is has m) (first_kept program o k d l y t e is has)
        (λ z u c g. leaves o (k + 1) d rest es u e (from_next k l rest (leaves_of_type program.structs d.ty) r) a.1 v.1 g)))

    declarations : (o : ℕ) (es : PlainExprs) (s : State) → IsSomeAnd (slice_get program.objects o) (IsDeclared program table f es)
        → ValidExprs program table f es → Typed s → Keeps program s (initialising w calls o 0 es (begun program o s))
    declarations o es s c v h =
        let d = some_and (slice_get program.objects o) (IsDeclared program table f es) c in
        let b : Typed (begun program o s) = types.states.begun o s h in
        after program (λ z. z) (⊎_elim
        (λ e. subst (λ (z : PlainExprs). Keeps program (begun program o s) (initialising w calls o 0 z (begun program o s))) (sym e)
        (still program (λ z. z)))
        (λ a. leaves o 0 d.0 (leaves_of_type program.structs d.0.ty) es (begun program o s) d.1
        (λ j leaf e. subst (λ (i : ℕ). slice_get (leaves_of_type program.structs d.0.ty) i ≡ Some leaf) (sym (zero-add j)) e) a v b) d.2.1)

    -- ---- statements

    module _ (ty : PlainType) where
      effect_sound : (l : Bool) (a : PlainStmt) (s : State) → ValidStmt program table f ty l a → Typed s
          → IsSoundOutcome program IsAny (effect_of w calls n a s)
      effect_sound l a s v h = any_sound (IsExitOf program ty) (effect_of w calls n a s) (types.statements n depth f ty l a s v h)

      mutual
        effects : (l : Bool) (a : PlainStmt) (s : State) → ValidStmt program table f ty l a → Typed s
            → Keeps program s (effect_of w calls n a s)
        effects l (statement unit at kind) s v h = kinds l kind s v h

        kinds : (l : Bool) (kind : PlainKind) (s : State) → ValidKind program table f ty l kind → Typed s
            → Keeps program s (kind_effect w calls n kind s)
        kinds l empty s v h = still program (λ z. z)
        kinds l (evaluate e) s v h = evaluations (Some e) s v h
        kinds l (block ss) s v h = ending_kept (declared ss) (effects_of w calls n ss s) (blocks l ss s v h)
        kinds l (declare o es) s v h = declarations o es s v.0 v.1 h
        kinds l (branch c a b) s v h =
            after program (λ z. z) (onward program {P = IsAny} (tests_sound (Some c) _ v.0 h) (tests (Some c) _ v.0 h)
            (λ d t p k. choosing program d _ _ t (effects l a t v.1 k) (optional l b t v.2 k)))
        kinds l (while_loop c body) s v h =
            tested_kept s (test_of w calls (Some c) s) _ (tests_sound (Some c) s v.0 h) (tests (Some c) s v.0 h)
            (λ t k. turns_kept n _ _ (λ z m. (effect_sound true body z v.1 m, effects true body z v.1 m)) (tests_kept (Some c) v.0) t k)
        kinds l (do_loop body c) s v h = turns_kept n _ _ (λ z m. (effect_sound true body z v.0 m, effects true body z v.0 m))
            (tests_kept (Some c) v.1) s h
        kinds l (for_loop first c last body) s v h =
            ending_kept (declared_first first) _
            (onward program {P = IsExitOf program ty} (types.first_parts n depth f ty l first s v.0 h) (firsts l first s v.0 h)
            (λ x t p k. in_order_kept x t _
            (tested_kept t (test_of w calls c t) _ (tests_sound c t v.1 k) (tests c t v.1 k)
            (λ u m. turns_kept n _ _ (λ z m. (effect_sound true body z v.3 m, effects true body z v.3 m)) (goings_on last c v.2 v.1) u m))))
        kinds l break_loop s v h = still program (λ z. z)
        kinds l continue_loop s v h = still program (λ z. z)
        kinds l (return_value e) s v h = after program (λ z. z) (returns e _ v.1 h)

        optional : (l : Bool) (a : OptionPlainStmt) (s : State) → ValidOptionStmt program table f ty l a → Typed s
            → Keeps program s (option_effect w calls n a s)
        optional l no_stmt s v h = still program (λ z. z)
        optional l (a_stmt a) s v h = effects l a s v h

        firsts : (l : Bool) (a : OptionPlainStmt) (s : State) → ValidOptionStmt program table f ty l a → Typed s
            → Keeps program s (first_effect w calls n a s)
        firsts l no_stmt s v h = still program (λ z. z)
        firsts l (a_stmt (statement unit at (block ss))) s v h = blocks l ss s v h
        firsts l (a_stmt (statement unit at empty)) s v h = kinds l empty s v h
        firsts l (a_stmt (statement unit at (evaluate e))) s v h = kinds l (evaluate e) s v h
        firsts l (a_stmt (statement unit at (declare o es))) s v h = kinds l (declare o es) s v h
        firsts l (a_stmt (statement unit at (branch c x y))) s v h = kinds l (branch c x y) s v h
        firsts l (a_stmt (statement unit at (while_loop c body))) s v h = kinds l (while_loop c body) s v h
        firsts l (a_stmt (statement unit at (do_loop body c))) s v h = kinds l (do_loop body c) s v h
        firsts l (a_stmt (statement unit at (for_loop first c last body))) s v h = kinds l (for_loop first c last body) s v h
        firsts l (a_stmt (statement unit at break_loop)) s v h = kinds l break_loop s v h
        firsts l (a_stmt (statement unit at continue_loop)) s v h = kinds l continue_loop s v h
        firsts l (a_stmt (statement unit at (return_value e))) s v h = kinds l (return_value e) s v h

        blocks : (l : Bool) (ss : PlainStmts) (s : State) → ValidStmts program table f ty l ss → Typed s
            → Keeps program s (effects_of w calls n ss s)
        blocks l last_stmt s v h = still program (λ z. z)
        blocks l (next_stmt a ss) s v h =
            onward program {P = IsExitOf program ty} (types.statements n depth f ty l a s v.0 h) (effects l a s v.0 h)
            (λ x t p k. in_order_kept x t _ (blocks l ss t v.1 k))

  -- ---- calls

  scalar_leaf : (ty : PlainType) → IsScalar ty → slice_get (leaves_of_type program.structs ty) 0 ≡ Some (record { ty = ty; at = 0 })
  scalar_leaf void h = absurd h
  scalar_leaf (integer g b) h = refl
  scalar_leaf (fixed c z) h = refl
  scalar_leaf (pointer l c t) h = refl
  scalar_leaf (array t m) h = absurd h
  scalar_leaf (struct i) h = absurd h

  parameters_kept : (g : ℕ) (os : List ℕ) (xs : List Value) (s : State)
      → AllByRecursion (λ o. IsSomeAnd (slice_get program.objects o) (λ x. x.storage ≡ param g)) os → AreArgumentValues program os xs
      → Typed s → Keeps program s (parameters_written w os xs s)
  parameters_kept g [] xs s p a h = still program (λ z. z)
  parameters_kept g (o ∷ os) [] s p a h = absurd a
  parameters_kept g (o ∷ os) (x ∷ xs) s p a h =
      let d = some_and (slice_get program.objects o) (λ z. z.storage ≡ param g) p.0 in
      let t : HasType program d.0.ty x = subst (λ (z : Option PlainObject). IsSomeAnd z (λ y. HasType program y.ty x)) d.1 a.0 in
      let c : IsStored program d.0 (param g) =
      subst (λ (z : PlainStorage). IsStored program d.0 z) d.2 (object_of o d.0 d.1).storage in
      let l : PlainLeaf = record { ty = d.0.ty; at = 0 } in
      let b : Typed (begun program o s) = types.states.begun o s h in
      after program (λ z. z) (onward program
      (types.states.initialised o 0 d.0 l x (begun program o s) d.1 (scalar_leaf d.0.ty c.2) t b)
      (first_kept program o 0 d.0 l x (begun program o s) d.1 (scalar_leaf d.0.ty c.2) t) (λ y u q k. parameters_kept g os xs u p.1 a.1 k))

  unreturned_kept : (ty : PlainType) (main : Bool) (s : State) → Keeps program s (unreturned ty main s)
  unreturned_kept void main s = still program (λ h. h)
  unreturned_kept (integer signed bytes) true s = still program (λ h. h)
  unreturned_kept (integer signed bytes) false s = still program (λ h. h)
  unreturned_kept (fixed kind saturates) true s = still program (λ h. h)
  unreturned_kept (fixed kind saturates) false s = still program (λ h. h)
  unreturned_kept (pointer space const to) true s = still program (λ h. h)
  unreturned_kept (pointer space const to) false s = still program (λ h. h)
  unreturned_kept (array of len) true s = still program (λ h. h)
  unreturned_kept (array of len) false s = still program (λ h. h)
  unreturned_kept (struct index) true s = still program (λ h. h)
  unreturned_kept (struct index) false s = still program (λ h. h)

  result_kept : (ty : PlainType) (main : Bool) (x : Exit) (s : State) → Keeps program s (call_result ty main x s)
  result_kept ty main at_end s = unreturned_kept ty main s
  result_kept ty main by_break s = unreturned_kept ty main s
  result_kept ty main by_continue s = unreturned_kept ty main s
  result_kept ty main (by_return None) s = unreturned_kept ty main s
  result_kept ty main (by_return (Some v)) s = still program (λ h. h)

  call_kept : (n depth : ℕ) → KeepFine (calls_within w n depth) → (g : ℕ) (f : PlainFunction) (xs : List Value) (s : State)
      → slice_get program.functions g ≡ Some f → AreArgumentValues program f.params xs → Typed s
      → Keeps program s (call_of w (calls_within w n depth) n g (Some f) xs s)
  call_kept n depth kept g f xs s e a h =
      let is : IsFunction program table g f = types.functions g f e in
      after program (λ z. z) (onward program (types.parameters g f xs _ e a h) (parameters_kept g f.params xs _ is.params a h)
      (λ y t p k. onward program (types.statements n depth g f.returns false f.body t is.body k)
      (effects n depth g kept f.returns false f.body t is.body k)
      (λ x u q m. after program (λ z. z) (result_kept f.returns (g == program.main) x (frame_ended program g u)))))

  calls_kept : (n depth : ℕ) → KeepFine (calls_within w n depth)
  calls_kept n zero g f xs s e a h = still program (λ z. z)
  calls_kept n (suc depth) g f xs s e a h =
      subst (λ (z : Option PlainFunction). Keeps program s (call_of w (calls_within w n depth) n g z xs s)) (sym e)
      (call_kept n depth (calls_kept n depth) g f xs s e a h)

  run_kept : (n : ℕ) → Keeps program (initial_state program (plain_table table)) (run program (plain_table table) inputs n)
  run_kept n =
      let c = some_and (slice_get program.functions program.main) (λ z. (z.params ≡ []) × (z.returns ≡ int)) valid.main in
      let a : AreArgumentValues program c.0.params [] =
      subst (λ (z : List ℕ). AreArgumentValues program z []) (sym c.2.0) tt in
      calls_kept n (length program.functions) program.main c.0 [] (initial_state program (plain_table table)) c.1 a types.initial

pub writes_hold_numbers : TypesAreKept → WritesHoldNumbers
writes_hold_numbers kept program table inputs n valid bytes =
    (run_kept program table inputs valid (kept program table inputs valid bytes) n).kept tt
