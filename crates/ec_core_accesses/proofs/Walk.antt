-- Whatever is evaluated keeps the port accesses of a run at the ports of the table.
use Rattle.std.proofs.Common.{ℕ, zero, suc, ◌+◌, Bool, true, false, List, [], ◌∷◌, Option, Some, None, Result, Ok, Err, pos, refl}
use Rattle.std.specs.Prelude.{◌==◌, if◌then◌else◌, slice_get, length}
use Rattle.ec_fx.specs.declared.numbers.Mode.{Mode}
use Rattle.ec_core.specs.declared.values.Undefined.{Undefined}
use Rattle.ec_core.specs.declared.values.Undefined.TheVariants.{Unset, ConstWrite}
use Rattle.ec_core.specs.declared.values.Value.{Value}
use Rattle.ec_core.specs.declared.values.Value.TheVariants.{Number, Pointer}
use Rattle.ec_core.specs.Accesses.{is_readable, begun, all_ended, frame_ended, Access, recorded, leaf_of, read_value}
use Rattle.ec_core.specs.Accesses.{read, stored, is_fixed, write, first_write, operand_of}
use Rattle.ec_core.specs.Expressions.{Calls, either, accessed, Update, compound_update, step_update, pointed_to}
use Rattle.ec_core.specs.Expressions.{object_place, condition, truth_value, updated_place, value_of, node_value}
use Rattle.ec_core.specs.Expressions.{place_of, option_value, values_of}
use Rattle.ec_core.specs.Meaning.{setting, initial_state, run, behaviour_of, state_of}
use Rattle.ec_core.specs.Plain.{PlainType, void, integer, fixed, pointer, array, struct, PlainStorage, static, local}
use Rattle.ec_core.specs.Plain.{param, register, PlainExpr, expression, PlainNode, number, null, load, address_of}
use Rattle.ec_core.specs.Plain.{unary, binary, convert, assign, compound, step, logical_not, logical_and, logical_or}
use Rattle.ec_core.specs.Plain.{conditional, comma, call, io, group, bind, dynamic_group, PlainPlace, object, deref, member}
use Rattle.ec_core.specs.Plain.{OptionPlainExpr, no_expr, an_expr, PlainExprs, last_expr, next_expr, PlainStmt}
use Rattle.ec_core.specs.Plain.{statement, PlainKind, empty, evaluate, block, declare, branch, while_loop, do_loop}
use Rattle.ec_core.specs.Plain.{for_loop, break_loop, continue_loop, return_value, OptionPlainStmt, no_stmt, a_stmt}
use Rattle.ec_core.specs.Plain.{PlainStmts, last_stmt, next_stmt, PlainFunction}
use Rattle.ec_core.specs.Operators.{compound_result}
use Rattle.ec_core.specs.Pointers.{Pointer as PointerValue}
use Rattle.ec_core.specs.State.{Setting, Event, Read, Write, told, State, Outcome, got, more, undefined, next, given, choose}
use Rattle.ec_core.specs.Statements.{Exit, at_end, by_break, by_continue, by_return, in_order, again, tested, turns}
use Rattle.ec_core.specs.Statements.{declared, declared_first, ending, test_of, evaluated, returned, going_on}
use Rattle.ec_core.specs.Statements.{initialising, effect_of, kind_effect, option_effect, first_effect, effects_of}
use Rattle.ec_core.specs.Statements.{parameters_written, unreturned, call_result, call_of, calls_within}
use Rattle.ec_core.specs.Typing.{int, type_of_expr}
use Rattle.ec_core_accesses.specs.Ports.{AccessesPorts, ShowsPorts, RunsAccessPorts, SourcesAccessPorts}
use Rattle.ec_core_accesses.proofs.Bytes.{all_added, OnPorts, Keeps, port_bytes, group_bytes, binding_bytes, dynamic_bytes}

module _ (w : Setting) where
  -- ---- parts of outcomes

  -- an outcome whose state has the events of the state before it
  still : {A : Type 0} {s : State} {o : Outcome A} → (OnPorts w s → OnPorts w (state_of o)) → Keeps w s o
  still h = record { kept = h }

  onward : {A B : Type 0} {s : State} {o : Outcome A} {go : A → State → Outcome B} → Keeps w s o
      → ((x : A) (t : State) → Keeps w t (go x t)) → Keeps w s (next o go)
  onward {A} {B} {s} {o} {go} k h = by_outcome o k
    where
      by_outcome : (q : Outcome A) → Keeps w s q → Keeps w s (next q go)
      by_outcome (got x t) j = record { kept = λ e. (h x t).kept (j.kept e) }
      by_outcome (more t) j = record { kept = j.kept }
      by_outcome (undefined point t) j = record { kept = j.kept }

  after : {A : Type 0} {o : Outcome A} {s t : State} → (OnPorts w s → OnPorts w t) → Keeps w t o → Keeps w s o
  after f k = record { kept = λ h. k.kept (f h) }

  of_result : {A : Type 0} (r : Result A Undefined) (s : State) → Keeps w s (given r s)
  of_result (Ok x) s = still (λ h. h)
  of_result (Err point) s = still (λ h. h)

  choosing : {A : Type 0} (c : Bool) (a b : State → Outcome A) (s : State) → Keeps w s (a s) → Keeps w s (b s) → Keeps w s (choose c a b s)
  choosing true a b s k l = k
  choosing false a b s k l = l

  -- ---- accesses of leaves are not of ports

  recorded_kept : (storage : PlainStorage) (e : Event) (s : State) → AccessesPorts w.table e → OnPorts w s
      → OnPorts w (recorded storage e s)
  recorded_kept (static inits) e s a h = all_added (AccessesPorts w.table) s.events e h a
  recorded_kept (local f) e s a h = all_added (AccessesPorts w.table) s.events e h a
  recorded_kept (param f) e s a h = all_added (AccessesPorts w.table) s.events e h a
  recorded_kept (register r) e s a h = h

  leaf_read : (a : Access) (v : Option Value) (s : State) → Keeps w s (read_value w.program a v s)
  leaf_read a None s = still (λ h. h)
  leaf_read a (Some v) s = readable (is_readable w.program v s)
    where
      readable : (b : Bool)
          → Keeps w s (if b then got v (recorded a.declared.storage (Read a.object a.leaf a.space (told v)) s) else undefined Unset s)
      readable true = still (recorded_kept a.declared.storage _ s tt)
      readable false = still (λ h. h)

  read_kept : (o : Option Access) (s : State) → Keeps w s (read w.program o s)
  read_kept None s = still (λ h. h)
  read_kept (Some a) s = leaf_read a (leaf_of a.state a.leaf) s

  stored_kept : (a : Access) (v : Value) (s : State) → OnPorts w s → OnPorts w (stored a v s)
  stored_kept a v s = recorded_kept a.declared.storage (Write a.object a.leaf a.space (told v)) _ tt

  write_kept : (o : Option Access) (v : Value) (s : State) → Keeps w s (write o v s)
  write_kept None v s = still (λ h. h)
  write_kept (Some a) v s = fixed_or (is_fixed a.declared)
    where
      fixed_or : (b : Bool) → Keeps w s (if b then undefined ConstWrite s else got v (stored a v s))
      fixed_or true = still (λ h. h)
      fixed_or false = still (stored_kept a v s)

  first_kept : (o : Option Access) (v : Value) (s : State) → Keeps w s (first_write o v s)
  first_kept None v s = still (λ h. h)
  first_kept (Some a) v s = still (stored_kept a v s)

  all_ended_kept : (os : List ℕ) (s : State) → OnPorts w s → OnPorts w (all_ended os s)
  all_ended_kept [] s h = h
  all_ended_kept (o ∷ os) s h = all_ended_kept os _ h

  -- ---- parts of expressions and statements

  conditions : (e : PlainExpr) {s : State} {o : Outcome Value} → Keeps w s o → Keeps w s (condition w e o)
  conditions e k = onward k (λ x t. of_result _ t)

  truths : {s : State} {o : Outcome Bool} → Keeps w s o → Keeps w s (truth_value o)
  truths k = onward k (λ b t. still (λ h. h))

  pointed_to_kept : (v : Value) (s : State) → Keeps w s (pointed_to v s)
  pointed_to_kept (Number n) s = still (λ h. h)
  pointed_to_kept (Pointer p) s = still (λ h. h)

  object_place_kept : (at : PointerValue) (s : State) → Keeps w s (object_place at s)
  object_place_kept None s = still (λ h. h)
  object_place_kept (Some p) s = still (λ h. h)

  updated_kept : (u : Update) (at : PointerValue) (old : Value) (right : PlainType) (x : Value) (s : State)
      → Keeps w s (updated_place w u at old right x s)
  updated_kept u at old right x s =
      onward (of_result (compound_result u.op u.operation_mode u.write_mode (operand_of w.program u.ty old s)
      (operand_of w.program right x s)) s)
      (λ v t. onward {go = λ y z. got (either u.new v old) z} (write_kept (accessed w u.ty u.place at t) v t) (λ y z. still (λ h. h)))

  in_order_kept : (x : Exit) (s : State) (go : State → Outcome Exit) → Keeps w s (go s) → Keeps w s (in_order x s go)
  in_order_kept at_end s go k = k
  in_order_kept by_break s go k = still (λ h. h)
  in_order_kept by_continue s go k = still (λ h. h)
  in_order_kept (by_return v) s go k = still (λ h. h)

  again_kept : (x : Exit) (s : State) (go : State → Outcome Exit) → Keeps w s (go s) → Keeps w s (again x s go)
  again_kept at_end s go k = k
  again_kept by_break s go k = still (λ h. h)
  again_kept by_continue s go k = k
  again_kept (by_return v) s go k = still (λ h. h)

  tested_kept : {s : State} {o : Outcome Bool} {go : State → Outcome Exit} → Keeps w s o → ((t : State) → Keeps w t (go t))
      → Keeps w s (tested o go)
  tested_kept k f = onward k (λ b t. choosing b _ _ t (f t) (still (λ h. h)))

  turns_kept : (n : ℕ) (body : State → Outcome Exit) (test : State → Outcome Bool) → ((s : State) → Keeps w s (body s))
      → ((s : State) → Keeps w s (test s)) → (s : State) → Keeps w s (turns n body test s)
  turns_kept zero body test b t s = still (λ h. h)
  turns_kept (suc n) body test b t s =
      after (λ h. h) (onward (b _) (λ x u. again_kept x u _ (tested_kept (t u) (λ z. turns_kept n body test b t z))))

  ending_kept : (os : List ℕ) {s : State} {o : Outcome Exit} → Keeps w s o → Keeps w s (ending os o)
  ending_kept os k = onward k (λ x t. still (all_ended_kept os t))

  -- ---- expressions, where calls keep the ports

  module _ (calls : Calls) (kept : (f : ℕ) (xs : List Value) (s : State) → Keeps w s (calls f xs s)) where
    mutual
      values : (e : PlainExpr) (s : State) → Keeps w s (value_of w calls e s)
      values (expression ty mode node) s = after (λ h. h) (nodes ty mode node _)

      nodes : (ty : PlainType) (mode : Mode) (node : PlainNode) (s : State) → Keeps w s (node_value w calls ty mode node s)
      nodes ty mode (number n) s = still (λ h. h)
      nodes ty mode null s = still (λ h. h)
      nodes ty mode (load p) s = onward (places p s) (λ at t. read_kept (accessed w ty p at t) t)
      nodes ty mode (address_of p) s = onward (places p s) (λ at t. still (λ h. h))
      nodes ty mode (unary op a) s = onward (values a s) (λ x t. of_result _ t)
      nodes ty mode (binary op a b) s = onward (values a s) (λ x t. onward (values b t) (λ y u. of_result _ u))
      nodes ty mode (convert a) s = onward (values a s) (λ x t. of_result _ t)
      nodes ty mode (assign p a) s = onward (places p s) (λ at t. onward (values a t) (λ x u. write_kept (accessed w ty p at u) x u))
      nodes ty mode (compound op operation_mode p a) s =
          onward (places p s) (λ at t. onward (read_kept (accessed w ty p at t) t) (λ old u. onward (values a u)
          (λ x z. updated_kept (compound_update op operation_mode ty mode p) at old (type_of_expr a) x z)))
      nodes ty mode (step up prefix p) s =
          onward (places p s) (λ at t. onward (read_kept (accessed w ty p at t) t)
          (λ old u. updated_kept (step_update up ty mode prefix p) at old int (Number (pos 1)) u))
      nodes ty mode (logical_not a) s = onward (conditions a (values a s)) (λ b t. still (λ h. h))
      nodes ty mode (logical_and a b) s =
          onward (conditions a (values a s)) (λ c t. choosing c _ _ t (truths (conditions b (values b t))) (still (λ h. h)))
      nodes ty mode (logical_or a b) s =
          onward (conditions a (values a s)) (λ c t. choosing c _ _ t (still (λ h. h)) (truths (conditions b (values b t))))
      nodes ty mode (conditional c a b) s = onward (conditions c (values c s)) (λ d t. choosing d _ _ t (values a t) (values b t))
      nodes ty mode (comma a b) s = onward (values a s) (λ x t. values b t)
      nodes ty mode (call f args) s = onward (rows args s) (λ xs t. kept f xs t)
      nodes ty mode (io op port index value) s =
          onward (options index s) (λ i t. onward (options value t) (λ v u. port_bytes w port _ op i v u refl))
      nodes ty mode (group acquire g) s = group_bytes w acquire g _ s refl
      nodes ty mode (bind d choice) s = binding_bytes w d choice s
      nodes ty mode (dynamic_group acquire d) s = dynamic_bytes w acquire d s

      places : (p : PlainPlace) (s : State) → Keeps w s (place_of w calls p s)
      places (object o) s = object_place_kept _ s
      places (deref e) s = onward (values e s) (λ x t. pointed_to_kept x t)
      places (member p i) s = after (λ h. h) (onward (places p _) (λ at t. of_result _ t))

      options : (e : OptionPlainExpr) (s : State) → Keeps w s (option_value w calls e s)
      options no_expr s = still (λ h. h)
      options (an_expr e) s = values e s

      rows : (es : PlainExprs) (s : State) → Keeps w s (values_of w calls es s)
      rows last_expr s = still (λ h. h)
      rows (next_expr e es) s = onward (values e s) (λ x t. onward (rows es t) (λ xs u. still (λ h. h)))

    -- ---- parts of statements

    tests : (c : Option PlainExpr) (s : State) → Keeps w s (test_of w calls c s)
    tests None s = still (λ h. h)
    tests (Some e) s = conditions e (values e s)

    evaluations : (e : Option PlainExpr) (s : State) → Keeps w s (evaluated w calls e s)
    evaluations None s = still (λ h. h)
    evaluations (Some e) s = onward (values e s) (λ x t. still (λ h. h))

    goings_on : (last c : Option PlainExpr) (s : State) → Keeps w s (going_on w calls last c s)
    goings_on last c s = onward (evaluations last s) (λ x t. tests c t)

    returns : (e : Option PlainExpr) (s : State) → Keeps w s (returned w calls e s)
    returns None s = still (λ h. h)
    returns (Some e) s = onward (values e s) (λ x t. still (λ h. h))

    leaves : (o i : ℕ) (es : PlainExprs) (s : State) → Keeps w s (initialising w calls o i es s)
    leaves o i last_expr s = still (λ h. h)
    leaves o i (next_expr e es) s =
        after (λ h. h) (onward (values e _) (λ x t. onward (first_kept _ x t) (λ y u. leaves o (i + 1) es u)))

    -- ---- statements, with at most n turns of each execution of a loop

    module _ (n : ℕ) where
      mutual
        effects : (a : PlainStmt) (s : State) → Keeps w s (effect_of w calls n a s)
        effects (statement unit at kind) s = kinds kind s

        kinds : (kind : PlainKind) (s : State) → Keeps w s (kind_effect w calls n kind s)
        kinds empty s = still (λ h. h)
        kinds (evaluate e) s = evaluations (Some e) s
        kinds (block ss) s = ending_kept (declared ss) (blocks ss s)
        kinds (declare o es) s = after (λ h. h) (leaves o 0 es _)
        kinds (branch c a b) s =
            after (λ h. h) (onward (tests (Some c) _) (λ d t. choosing d _ _ t (effects a t) (optional b t)))
        kinds (while_loop c body) s =
            tested_kept (tests (Some c) s) (λ t. turns_kept n _ _ (λ u. effects body u) (λ u. tests (Some c) u) t)
        kinds (do_loop body c) s = turns_kept n _ _ (λ u. effects body u) (λ u. tests (Some c) u) s
        kinds (for_loop first c last body) s =
            ending_kept (declared_first first) (onward (firsts first s) (λ x t. in_order_kept x t _
            (tested_kept (tests c t) (λ u. turns_kept n _ _ (λ z. effects body z) (λ z. goings_on last c z) u))))
        kinds break_loop s = still (λ h. h)
        kinds continue_loop s = still (λ h. h)
        kinds (return_value e) s = after (λ h. h) (returns e _)

        optional : (a : OptionPlainStmt) (s : State) → Keeps w s (option_effect w calls n a s)
        optional no_stmt s = still (λ h. h)
        optional (a_stmt a) s = effects a s

        firsts : (a : OptionPlainStmt) (s : State) → Keeps w s (first_effect w calls n a s)
        firsts no_stmt s = still (λ h. h)
        firsts (a_stmt (statement unit at (block ss))) s = blocks ss s
        firsts (a_stmt (statement unit at empty)) s = kinds empty s
        firsts (a_stmt (statement unit at (evaluate e))) s = kinds (evaluate e) s
        firsts (a_stmt (statement unit at (declare o es))) s = kinds (declare o es) s
        firsts (a_stmt (statement unit at (branch c x y))) s = kinds (branch c x y) s
        firsts (a_stmt (statement unit at (while_loop c body))) s = kinds (while_loop c body) s
        firsts (a_stmt (statement unit at (do_loop body c))) s = kinds (do_loop body c) s
        firsts (a_stmt (statement unit at (for_loop first c last body))) s = kinds (for_loop first c last body) s
        firsts (a_stmt (statement unit at break_loop)) s = kinds break_loop s
        firsts (a_stmt (statement unit at continue_loop)) s = kinds continue_loop s
        firsts (a_stmt (statement unit at (return_value e))) s = kinds (return_value e) s

        blocks : (ss : PlainStmts) (s : State) → Keeps w s (effects_of w calls n ss s)
        blocks last_stmt s = still (λ h. h)
        blocks (next_stmt a ss) s = onward (effects a s) (λ x t. in_order_kept x t _ (blocks ss t))

  -- ---- calls

  parameters_kept : (os : List ℕ) (xs : List Value) (s : State) → Keeps w s (parameters_written w os xs s)
  parameters_kept [] xs s = still (λ h. h)
  parameters_kept (o ∷ os) [] s = still (λ h. h)
  parameters_kept (o ∷ os) (x ∷ xs) s = after (λ h. h) (onward (first_kept _ x (begun w.program o s)) (λ y t. parameters_kept os xs t))

  unreturned_kept : (ty : PlainType) (main : Bool) (s : State) → Keeps w s (unreturned ty main s)
  unreturned_kept void main s = still (λ h. h)
  unreturned_kept (integer signed bytes) true s = still (λ h. h)
  unreturned_kept (integer signed bytes) false s = still (λ h. h)
  unreturned_kept (fixed kind saturates) true s = still (λ h. h)
  unreturned_kept (fixed kind saturates) false s = still (λ h. h)
  unreturned_kept (pointer space const to) true s = still (λ h. h)
  unreturned_kept (pointer space const to) false s = still (λ h. h)
  unreturned_kept (array of len) true s = still (λ h. h)
  unreturned_kept (array of len) false s = still (λ h. h)
  unreturned_kept (struct index) true s = still (λ h. h)
  unreturned_kept (struct index) false s = still (λ h. h)

  result_kept : (ty : PlainType) (main : Bool) (x : Exit) (s : State) → Keeps w s (call_result ty main x s)
  result_kept ty main at_end s = unreturned_kept ty main s
  result_kept ty main by_break s = unreturned_kept ty main s
  result_kept ty main by_continue s = unreturned_kept ty main s
  result_kept ty main (by_return None) s = unreturned_kept ty main s
  result_kept ty main (by_return (Some v)) s = still (λ h. h)

  call_kept : (calls : Calls) → ((f : ℕ) (xs : List Value) (s : State) → Keeps w s (calls f xs s))
      → (n f : ℕ) (g : Option PlainFunction) (xs : List Value) (s : State) → Keeps w s (call_of w calls n f g xs s)
  call_kept calls kept n f None xs s = still (λ h. h)
  call_kept calls kept n f (Some g) xs s =
      after (λ h. h) (onward (parameters_kept g.params xs _) (λ y t. onward (effects calls kept n g.body t)
      (λ x u. after (λ h. h) (result_kept g.returns (f == w.program.main) x (frame_ended w.program f u)))))

  calls_kept : (n depth f : ℕ) (xs : List Value) (s : State) → Keeps w s (calls_within w n depth f xs s)
  calls_kept n zero f xs s = still (λ h. h)
  calls_kept n (suc depth) f xs s = call_kept (calls_within w n depth) (calls_kept n depth) n f (slice_get w.program.functions f) xs s

-- ---- runs

pub runs_access_ports : RunsAccessPorts
runs_access_ports program table inputs n =
    (calls_kept (setting program table inputs) n (length program.functions) program.main [] (initial_state program table)).kept tt

pub sources_access_ports : SourcesAccessPorts
sources_access_ports program table inputs n = shown (run program table inputs n) (runs_access_ports program table inputs n)
  where
    shown : (o : Outcome Value) → OnPorts (setting program table inputs) (state_of o) → ShowsPorts table (behaviour_of o)
    shown (got x s) h = h
    shown (more s) h = h
    shown (undefined point s) h = tt
