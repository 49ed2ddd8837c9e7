-- Whole programs.
use Rattle.std.proofs.Common.{◌≡◌, ℕ, zero, suc, ◌+◌, ◌*◌, Bool, true, false, not, ℤ, pos, List, [], ◌∷◌, length, map, Option, Some}
use Rattle.std.proofs.Common.{None, refl, sym, ap, ◌∙◌, subst, inl, inr, arith, eq-eqb}
use Rattle.std.specs.Prelude.{⊤, ◌==◌, ◌||◌, IsTrue, nat_le, slice_get, replicate, option_map, option_and_then, unwrap_or}
use Rattle.std.specs.List.{AllByRecursion}
use Rattle.std.proofs.lemmas.Option.{slice_get-map}
use Rattle.std.proofs.lemmas.Bool.{le-leb}
use Rattle.ec_runs.specs.Behaviours.{Running, Ended, Reached, Reaches}
use Rattle.ec_runs.proofs.Runs.{what_reaches_stays_within}
use Rattle.ec_iohw.specs.declared.table.Choice.{Choice}
use Rattle.ec_core.specs.declared.programs.LeafInit.{LeafInit}
use Rattle.ec_core.specs.declared.programs.LeafInit.TheVariants.{Number as TheNumber, Null as TheNull, Address}
use Rattle.ec_core.specs.declared.values.Undefined.{Undefined}
use Rattle.ec_core.specs.declared.values.Value.{Value}
use Rattle.ec_core.specs.declared.values.Value.TheVariants.{Number, Pointer}
use Rattle.ec_core.specs.Accesses.{leaf_count, frame_ended}
use Rattle.ec_core.specs.Layout.{IsScalar, PlainLeaf, leaves_of_type}
use Rattle.ec_core.specs.Meaning.{initial_value, initial_object, initial_state, run as source_run, number_of, behaviour_of}
use Rattle.ec_core.specs.Meaning.{source, state_of}
use Rattle.ec_core.specs.Plain.{PlainType, void, PlainStorage, static, local, param, register, PlainObject, PlainFunction, PlainProgram}
use Rattle.ec_core.specs.PortTable.{PlainTable, plain_table}
use Rattle.ec_core.specs.State.{Inputs, Event, State, worked, Outcome, got, more, undefined, next, given}
use Rattle.ec_core.specs.Statements.{Exit, at_end, by_break, by_continue, by_return, effect_of, parameters_written, call_result}
use Rattle.ec_core.specs.Statements.{call_of, calls_within}
use Rattle.ec_core.specs.Typing.{int}
use Rattle.ec_core.specs.Valid.{AreInitialValues, IsStored, IsObject, IsFunction, ValidStmt}
use Rattle.ec_core.specs.ValueTypes.{HasType, IsTypedState, GiveBytes}
use Rattle.ec_core.specs.Words.{function_words}
use Rattle.ec_core.proofs.Growth.{some_then}
use Rattle.ec_core.proofs.TypedValues.{some_and}
use Rattle.ec_ir.specs.Costs.{op_steps}
use Rattle.ec_ir.specs.Meaning.{Mach, machine, Place, enter, leave, standing, start, run, meaning, start_state}
use Rattle.ec_ir.specs.Operations.{PlainIr, label, return_from}
use Rattle.ec_ir.proofs.Runs.{operations_are_runs}
use Rattle.ec_lower_code.specs.Code.{temp, body_returns, end_code, function_code, lowered_function, lowered}
use Rattle.ec_lower_code.specs.Correct.{is_paid, LoweredFollows}
use Rattle.ec_lower_code.proofs.Callees.{run_parts}
use Rattle.ec_lower_code.proofs.Behind.{stmt_behind}
use Rattle.ec_lower_code.proofs.Bodies.{stmt_runs}
use Rattle.ec_lower_code.proofs.Calls.{frame_match, callee_runs}
use Rattle.ec_lower_code.proofs.Ends.{EndsBy, body_ends, end_is}
use Rattle.ec_lower_code.proofs.Expressions.{W}
use Rattle.ec_lower_code.proofs.Labels.{function_resolves}
use Rattle.ec_lower_code.proofs.Numbers.{typed_back}
use Rattle.ec_lower_code.proofs.Objects.{kept_shown}
use Rattle.ec_lower_code.proofs.Ops.{label_comes}
use Rattle.ec_lower_code.proofs.Scene.{World, ports, homes, set, calls_to, law, few, Scene}
use Rattle.ec_lower_code.proofs.Shown.{shown, held_of, IsShown, AreShown, choice_in, bound_in, Match, Stopped, stopped_at}
use Rattle.ec_lower_code.proofs.Statements.{Ends, Returns, Typed}
use Rattle.ec_lower_code.proofs.Steps.{held_is, Target, over, same, sooner, Stops, Stands, Spot, around, here, execs, Comes, Does}
use Rattle.ec_lower_code.proofs.Steps.{after, credited, spent_on, less}

-- ---- the beginning

initial_shown : (i : LeafInit) → shown (initial_value i) ≡ initial_value i
initial_shown (TheNumber n) = refl
initial_shown TheNull = refl
initial_shown (Address o offset) = refl

static_shown : (inits : List LeafInit) (k : ℕ) (v : Value) → option_and_then (λ x. x)
    (slice_get (map (λ init. Some (initial_value init)) inits) k) ≡ Some v → option_and_then (λ x. x)
    (slice_get (map (λ init. Some (initial_value init)) inits) k) ≡ Some (shown v)
static_shown [] k v e = cc
static_shown (i ∷ inits) zero v e = let f : initial_value i ≡ v = cc in ap Some (sym (initial_shown i) ∙ ap shown f)
static_shown (i ∷ inits) (suc k) v e = static_shown inits k v e

unset_shown : (n k : ℕ) (v : Value) → option_and_then (λ x. x) (slice_get (replicate n None) k) ≡ Some v → option_and_then (λ x. x)
    (slice_get (replicate n None) k) ≡ Some (shown v)
unset_shown zero k v e = cc
unset_shown (suc n) zero v e = cc
unset_shown (suc n) (suc k) v e = unset_shown n k v e

map_count : (program : PlainProgram) (leaves : List PlainLeaf) (inits : List LeafInit) → AreInitialValues program leaves inits
    → length (map (λ init. Some (initial_value init)) inits) ≡ length leaves
map_count program [] [] h = refl
map_count program [] (i ∷ inits) h = absurd h
map_count program (leaf ∷ leaves) [] h = absurd h
map_count program (leaf ∷ leaves) (i ∷ inits) h = ap suc (map_count program leaves inits h.1)

unset_count : (n : ℕ) → length (replicate {A = Option Value} n None) ≡ n
unset_count zero = refl
unset_count (suc n) = ap suc (unset_count n)

module _ (program : PlainProgram) (fs : List ℕ) where
  object_starts : (o : PlainObject) (storage : PlainStorage) → IsStored program o storage → IsShown fs (leaf_count program o.ty) storage
      (initial_object (leaf_count program o.ty) storage) (standing (initial_object (leaf_count program o.ty) storage))
  object_starts o (static inits) h = record {
    serial = refl;
    count = map_count program (leaves_of_type program.structs o.ty)
        inits h;
    kept = λ l. refl;
    stands = λ l. refl;
    values = λ l k v e. static_shown inits k v e;
  }
  object_starts o (local f) h = record {
    serial = refl;
    count = unset_count (leaf_count program o.ty);
    kept = λ l. cc;
    stands = λ l. refl;
    values = λ l k v e. unset_shown (leaf_count program o.ty) k v e;
  }
  object_starts o (param f) h = record {
    serial = refl;
    count = unset_count (leaf_count program o.ty);
    kept = λ l. cc;
    stands = λ l. refl;
    values = λ l k v e. unset_shown (leaf_count program o.ty) k v e;
  }
  object_starts o (register r) h = record {
    serial = refl;
    count = unset_count (leaf_count program o.ty);
    kept = λ l. refl;
    stands = λ l. refl;
    values = λ l k v e. unset_shown (leaf_count program o.ty) k v e;
  }

  objects_start : (os : List PlainObject) → AllByRecursion (IsObject program) os
      → AreShown program fs os (map (λ o. initial_object (leaf_count program o.ty) o.storage) os)
      (map (λ o. standing (initial_object (leaf_count program o.ty) o.storage)) os)
  objects_start [] h = tt
  objects_start (o ∷ os) h = (object_starts o o.storage h.0.storage, objects_start os h.1)

-- no dynamic group is bound at the beginning
none_chosen : {A : Type 0} (xs : List A) (d k : ℕ) → unwrap_or (slice_get (map (λ x. None) xs) d) None ≡ Some k → ⊥
none_chosen [] d k e = cc
none_chosen (x ∷ xs) zero k e = cc
none_chosen (x ∷ xs) (suc d) k e = none_chosen xs d k e

none_bound : (program : PlainProgram) (table : PlainTable) (d : ℕ) (c : Choice)
    → bound_in table (initial_state program table).groups d ≡ Some c → ⊥
none_bound program table d c e =
    let k = some_then (choice_in (initial_state program table).groups d) _ c e in none_chosen table.dynamics d k.0 k.1

-- ---- the end

number_shown : (v : Value) → number_of (shown v) ≡ number_of v
number_shown (Number n) = refl
number_shown (Pointer p) = refl

module _ (wd : World) (main : PlainFunction) (is : slice_get wd.program.functions wd.program.main ≡ Some main) (params : main.params ≡ [])
    (returns : main.returns ≡ int) where
  abbrev depth : ℕ
  depth = length wd.program.functions

  abbrev code : List PlainIr
  code = function_code wd.program (ports wd) main

  module _ (deep : ℕ) where
    abbrev inside : Scene wd
    inside = record {
      depth = deep;
      f = wd.program.main;
      code = code;
      resolves = function_resolves wd.program (ports wd) (few wd) main;
      stack = [];
      runs = ap (λ b. b || false) (eq-eqb wd.program.main wd.program.main refl);
      callee = callee_runs wd deep;
    }

    abbrev w : Spot
    w = W wd inside

    abbrev back : Option Value → Target
    back None = over (Number (pos 0))
    back (Some v) = over (shown v)

    returns_to : Returns wd inside
    returns_to = record {
      returns = int;
      scalar = λ e. inr (inl refl);
      outer = [];
      back = back;
      Back = λ v u. ⊤;
      none = λ e tail m. absurd (int_is e);
      some = λ v i vt tail m h. some v i vt tail m h;
    }
      where
        int_is : int ≡ void → ⊥
        int_is e = cc

        some : (v : Value) → IsScalar int → HasType (homes wd) int v → (tail : List PlainIr) (m : Mach) → m.temps 0 ≡ Some (held_of int v)
            → (u : Mach) × Ends wd inside [] m.temps (worked (op_steps (return_from (Some (temp 0 int)))) m.state) u × ⊤ × Comes w
            (here w (return_from (Some (temp 0 int)) ∷ tail)) m (over (shown v)) u
        some v i vt tail m h =
            let s1 : State = worked (op_steps (return_from (Some (temp 0 int)))) m.state in (
              machine m.temps s1,
              (λ d s q. frame_match wd wd.program.main d [] s m.temps s1 q m.temps),
              tt,
              record {
                by = λ k. (
                  suc k,
                  omega arith,
                  same (
                      ap (λ z. next (next z (λ content s. got (Some (record { bytes = 2; content = content })) s))
                      (λ result s2. leave (homes wd) [] result (λ q u. execs w k q u) s2)) (held_is int 0 v m.temps s1 h)
                      ∙ ap (λ r. given r s1) (typed_back (homes wd) int v i vt)),
                );
              },
            )

    abbrev Finishes : Place → Mach → Outcome Value → Type 0
    Finishes q m o = Does w wd.n q m (λ v. over (shown v)) (λ v s u. Match (homes wd) (ports wd) [] 0 s u) o

    -- a return without a value, where the body is left at its end
    falls : (s : State) (u : Mach) → Match (homes wd) (ports wd) (around w) 40 s u → Finishes (here w (return_from None ∷ [])) u
        (got (Number (pos 0)) (frame_ended wd.program wd.program.main s))
    falls s u h =
        let v : Mach = machine u.temps (worked (op_steps (return_from None)) u.state) in (
          v,
          frame_match wd wd.program.main 0 [] s u.temps v.state (spent_on (homes wd) (ports wd) 40 0 (return_from None) u.temps s u
              (omega arith) h)
              u.temps,
          record { by = λ k. (suc k, omega arith, same refl) },
        )

    -- the end is come to only where it is a return
    finishes : (q : List PlainIr) (m : Mach) (end : List PlainIr) (may : Bool) → (may ≡ true → end ≡ return_from None ∷ [])
        → (o : Outcome Exit) → EndsBy may o → Typed wd inside returns_to wd.n q m (label 0 ∷ end) end end 40 o
        → Finishes (here w q) m (next o (λ x s. call_result int true x (frame_ended wd.program wd.program.main s)))
    unfolding returns_to
    finishes q m end may is (got at_end s) by d =
        after w (λ v. over (shown v)) (λ v s u. Match (homes wd) (ports wd) [] 0 s u) wd.n (here w q) (here w (label 0 ∷ end)) m d.0
        (got (Number (pos 0)) (frame_ended wd.program wd.program.main s)) d.2
        (after w (λ v. over (shown v)) (λ v s u. Match (homes wd) (ports wd) [] 0 s u) wd.n (here w (label 0 ∷ end)) (here w end) d.0 d.0
        (got (Number (pos 0)) (frame_ended wd.program wd.program.main s)) (label_comes w 0 end d.0)
        (subst (λ (z : List PlainIr). Finishes (here w z) d.0 (got (Number (pos 0)) (frame_ended wd.program wd.program.main s))) (sym (is
        by))
        (falls s d.0 d.1.left.match)))
    finishes q m end may is (got by_break s) by d = absurd by
    finishes q m end may is (got by_continue s) by d = absurd by
    finishes q m end may is (got (by_return None) s) by d = (
      d.0,
      less (homes wd) (ports wd) 40 0 (frame_ended wd.program wd.program.main s) d.0 (omega arith)
          d.1.left.match,
      d.2,
    )
    finishes q m end may is (got (by_return (Some v)) s) by d = (
      d.0,
      less (homes wd) (ports wd) 40 0 (frame_ended wd.program wd.program.main s) d.0 (omega arith)
          d.1.left.match,
      d.2,
    )
    finishes q m end may is (more s) by d = d
    finishes q m end may is (undefined point s) by d = tt

    main_runs : (s : State) (m : Mach) → Match (homes wd) (ports wd) (around w) 0 s m → IsTypedState wd.program s
        → Finishes (here w code) m (call_of (set wd) (calls_to wd deep) wd.n wd.program.main (Some main) [] s)
    unfolding returns_to
    main_runs s m h st =
        let all : Stands code code = ([], refl) in
        let q = end_code main.body in
        let end = function_resolves wd.program (ports wd) (few wd) main 0 q (stmt_behind wd.program (ports wd) code main.body 1 0 0
        (label 0 ∷ q) all) in
        let function_is : IsFunction wd.program wd.io wd.program.main main = (law wd).functions wd.program.main main is in
        subst (λ (ps : List ℕ). Finishes (here w code) m (next (parameters_written (set wd) ps [] (worked function_words s))
        (λ y s1. next (effect_of (set wd) (calls_to wd deep) wd.n main.body s1)
        (λ x s2. call_result main.returns (wd.program.main == wd.program.main) x (frame_ended wd.program wd.program.main s2)))))
        (sym params)
        (subst (λ (ty : PlainType). Finishes (here w code) m (next (effect_of (set wd) (calls_to wd deep) wd.n main.body
        (worked function_words s)) (λ x s2. call_result ty (wd.program.main == wd.program.main) x
        (frame_ended wd.program wd.program.main s2)))) (sym returns)
        (subst (λ (b : Bool). Finishes (here w code) m (next (effect_of (set wd) (calls_to wd deep) wd.n main.body (worked function_words
        s))
        (λ x s2. call_result int b x (frame_ended wd.program wd.program.main s2)))) (sym (eq-eqb wd.program.main wd.program.main refl))
        (finishes code m q (not (body_returns main.body)) (λ e. end_is (body_returns main.body) e)
        (effect_of (set wd) (calls_to wd deep) wd.n main.body (worked function_words s))
        (body_ends (set wd) (calls_to wd deep) wd.n wd.program wd.io wd.program.main main.returns main.body (worked function_words s)
        function_is.body)
        (stmt_runs wd inside returns_to main.body false 1 0 0 40 (label 0 ∷ q) q q (omega arith)
        (run_parts wd.program wd.io wd.valid wd.program.main main is (inl refl))
        (subst (λ (ty : PlainType). ValidStmt wd.program wd.io wd.program.main ty false main.body) returns function_is.body) all end end
        (worked function_words s) m (credited (homes wd) (ports wd) 40 0 s m h) st))))

  abbrev w0 : Spot
  w0 = w 0

  abbrev first : Place
  first = here w0 code

  abbrev EndsAll : Outcome Value → Type 0
  EndsAll o = Does w0 wd.n first (start (homes wd)) (λ v. over (shown v)) (λ v s u. Match (homes wd) (ports wd) [] 0 s u) o

  -- what holds of one depth of calls holds of another
  any_depth : (deep : ℕ) (o : Outcome Value) → Finishes deep (here (w deep) code) (start (homes wd)) o → EndsAll o
  any_depth deep (got v s) r = (r.0, r.1, record { by = λ k. r.2.by k })
  any_depth deep (more s) r = r
  any_depth deep (undefined point s) r = tt

  starts : Match (homes wd) (ports wd) (around w0) 0 (initial_state wd.program (plain_table wd.io)) (start (homes wd))
  starts = record {
    objects = kept_shown (homes wd) (around w0) (around w0) (around w0) (λ f e. e) (λ f e. e) wd.program.objects
        (initial_state wd.program (plain_table wd.io)).objects (start_state (homes wd)).objects
        (objects_start wd.program (around w0) wd.program.objects wd.valid.objects);
    cells = record { room = refl; bases = λ d c e. absurd (none_bound wd.program (plain_table wd.io) d c e) };
    events = refl;
    spent = omega arith;
  }

  called : (deep : ℕ) → EndsAll (calls_within (set wd) wd.n deep wd.program.main [] (initial_state wd.program (plain_table wd.io)))
  called zero = tt
  called (suc deep) =
      subst (λ (f : Option PlainFunction). EndsAll (call_of (set wd) (calls_to wd deep) wd.n wd.program.main f []
      (initial_state wd.program (plain_table wd.io)))) (sym is)
      (any_depth deep (call_of (set wd) (calls_to wd deep) wd.n wd.program.main (Some main) []
      (initial_state wd.program (plain_table wd.io))) (main_runs deep (initial_state wd.program (plain_table wd.io))
      (start (homes wd)) starts (law wd).initial))

  runs : EndsAll (source_run wd.program (plain_table wd.io) wd.inputs wd.n)
  runs = called depth

  -- the run of the operations is that of main's
  entered : (m : ℕ) → run (lowered wd.program (ports wd)) wd.inputs m ≡ execs w0 m first (start (homes wd))
  entered m = ap (λ f. enter f (λ q u. execs w0 m q u) [] (start (homes wd)))
      (slice_get-map (lowered_function wd.program (ports wd)) wd.program.functions wd.program.main
      ∙ ap (option_map (lowered_function wd.program (ports wd))) is)

  paid : (m : ℕ) (s : State) (o : Outcome Value) (u : Mach) → execs w0 m first (start (homes wd)) ≡ o → u.state ≡ state_of o
      → Stopped s u → IsTrue (nat_le ((state_of (run (lowered wd.program (ports wd)) wd.inputs m)).work + 12_800) (64 * s.work))
  paid m s o u e f h =
      let a : (state_of (run (lowered wd.program (ports wd)) wd.inputs m)).work ≡ u.state.work = ap (λ z. (state_of z).work) (entered m ∙ e)
      ∙ ap (λ (z : State). z.work) (sym f) in
      let b = h.spent in le-leb _ _ (omega (arith, a, b))

  over_is : (m : ℕ) (v : Value) (s : State) → Stops (execs w0 m first (start (homes wd))) (got v s)
      → execs w0 m first (start (homes wd)) ≡ got v s
  over_is m v s (same e) = e
  over_is m v s (sooner t r e f o ev wk) = cc

  reached_of : (o : Outcome Value) → EndsAll o → Reached (λ m. nat_le
      ((state_of (run (lowered wd.program (ports wd)) wd.inputs m)).work + 12_800) (64 * (state_of o).work))
      (meaning (lowered wd.program (ports wd)) wd.inputs) wd.n (behaviour_of o)
  reached_of (got x s) d =
      let c = d.2.by 0 in
      let e = over_is c.0 (shown x) d.0.state c.2 in (
        c.0,
        paid c.0 s (got (shown x) d.0.state) d.0 e refl (stopped_at 0 s d.0 d.1),
        ap behaviour_of (entered c.0 ∙ e)
            ∙ ap (λ es. Ended es (number_of (shown x))) d.1.events ∙ ap (Ended s.events) (number_shown x),
      )
  reached_of (more s) d = (
    d.0,
    paid d.0 s (more d.1.state) d.1 d.4 refl d.3,
    d.2,
    ap behaviour_of (entered d.0 ∙ d.4)
        ∙ ap Running d.3.events,
  )
  reached_of (undefined point s) d = tt

pub follows : LoweredFollows
follows program table valid pairs = record {
  reaches = λ inputs bytes. reaches inputs bytes;
  within = λ inputs bytes m. what_reaches_stays_within Event ℤ Undefined Undefined
      (is_paid program table (lowered program (plain_table table)) inputs) (source program (plain_table table) inputs)
      (meaning (lowered program (plain_table table)) inputs) (operations_are_runs (lowered program (plain_table table)) inputs)
      (reaches inputs bytes) m;
}
  where
    reaches : (inputs : Inputs) → GiveBytes inputs → Reaches (is_paid program table (lowered program (plain_table table)) inputs)
        (source program (plain_table table) inputs) (meaning (lowered program (plain_table table)) inputs)
    reaches inputs bytes n =
        let wd : World = record { program = program; io = table; inputs = inputs; valid = valid; pairs = pairs; bytes = bytes; n = n } in
        let g = some_and (slice_get program.functions program.main) (λ g. (g.params ≡ []) × (g.returns ≡ int)) valid.main in
        reached_of wd g.0 g.1 g.2.0 g.2.1 (source_run program (plain_table table) inputs n) (runs wd g.0 g.1 g.2.0 g.2.1)
