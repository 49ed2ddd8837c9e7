-- The operations of a call do what it does.
use Rattle.std.proofs.Common.{◌≡◌, ◌≢◌, ℕ, zero, suc, ◌+◌, ◌*◌, ◌<◌, ◌≤◌, Bool, true, false, not, List, [], ◌∷◌, Option, Some, None}
use Rattle.std.proofs.Common.{refl, sym, ap, ◌∙◌, subst, inr, arith, eqb-true, eq-eqb}
use Rattle.std.specs.Prelude.{◌==◌, ◌||◌, IsSomeAnd, slice_get, option_map}
use Rattle.std.specs.List.{AllByRecursion}
use Rattle.std.proofs.lemmas.Option.{slice_get-map}
use Rattle.ec_core.specs.declared.values.Value.{Value}
use Rattle.ec_core.specs.Accesses.{begun, initialised, own_access, frame_ended, is_read_only}
use Rattle.ec_core.specs.Layout.{scalar_size, IsScalar, PlainLeaf, leaves_of_type}
use Rattle.ec_core.specs.Plain.{PlainType, void, integer, fixed, pointer, array, struct, PlainExprs, last_expr, next_expr}
use Rattle.ec_core.specs.Plain.{param, PlainObject, PlainFunction}
use Rattle.ec_core.specs.PortAccesses.{no_value}
use Rattle.ec_core.specs.State.{State, worked, Outcome, got, more, undefined, next}
use Rattle.ec_core.specs.Statements.{Exit, at_end, by_break, by_continue, by_return, effect_of, parameters_written, unreturned}
use Rattle.ec_core.specs.Statements.{call_result, call_of}
use Rattle.ec_core.specs.Typing.{type_of_expr, AreArguments}
use Rattle.ec_core.specs.Valid.{IsFunction}
use Rattle.ec_core.specs.ValueTypes.{HasType, IsTypedState, IsSoundOutcome}
use Rattle.ec_core.specs.Words.{function_words, total_size}
use Rattle.ec_core.proofs.TypedValues.{some_and}
use Rattle.ec_ir.specs.Costs.{op_steps, temp_bytes}
use Rattle.ec_ir.specs.Meaning.{is_among, is_kept, kept_for, before_store, Mach, machine, Frame, Place, place, enter, resulted, leave}
use Rattle.ec_ir.specs.Operations.{PlainIr, store_object, label, call_function, return_from}
use Rattle.ec_ir.specs.Temporaries.{Temps, no_temps, with_held}
use Rattle.ec_lower_code.specs.Code.{temp, result_temp, params_code, body_returns, end_code, function_code, lowered_function}
use Rattle.ec_lower_code.proofs.Callees.{IsOther, run_parts}
use Rattle.ec_lower_code.proofs.Behind.{stmt_behind}
use Rattle.ec_lower_code.proofs.Bodies.{stmt_runs}
use Rattle.ec_lower_code.proofs.Ends.{EndsBy, body_ends, end_is}
use Rattle.ec_lower_code.proofs.Expressions.{W}
use Rattle.ec_lower_code.proofs.Facts.{param_home, scalar_leaf, result_scalar}
use Rattle.ec_lower_code.proofs.Labels.{function_resolves}
use Rattle.ec_lower_code.proofs.Objects.{frame_one, AreAmong, among_more, kept_shown}
use Rattle.ec_lower_code.proofs.Ops.{to_rest, Below, HasValue, label_comes, storage_of, stored_in}
use Rattle.ec_lower_code.proofs.Scene.{World, ports, homes, set, calls_to, spot, law, few, apart, AreHeld, Callee, Scene}
use Rattle.ec_lower_code.proofs.Shown.{held_of, Match}
use Rattle.ec_lower_code.proofs.Statements.{Ends, Returns, begun_match, own_store, Typed}
use Rattle.ec_lower_code.proofs.Steps.{held_at, held_below, held_is, Target, at, over, Stands, Spot, around, here, goes, execs, Comes}
use Rattle.ec_lower_code.proofs.Steps.{Does, Runs, stays, counts, after, bind, credited, spent_on, less}

-- the end of a function, where the functions that are active are others
pub frame_match : (wd : World) (f d : ℕ) (fs : List ℕ) (s : State) (temps : Temps) (t : State)
    → Match (homes wd) (ports wd) (f ∷ fs) d s (machine temps t)
    → (temps1 : Temps) → Match (homes wd) (ports wd) fs d (frame_ended wd.program f s) (machine temps1 t)
frame_match wd f d fs s temps t h temps1 = record {
  objects = frame_one (homes wd) f fs wd.program.objects s.objects t.objects h.objects;
  cells = h.cells;
  events = h.events;
  spent = h.spent;
}

-- frames stand for more functions
kept_match : (wd : World) (fs gs : List ℕ) (d : ℕ) (s : State) (temps : Temps) (t : State) → AreAmong fs gs
    → Match (homes wd) (ports wd) fs d s (machine temps t) → Match (homes wd) (ports wd) gs d s (machine temps (kept_for (homes wd) gs t))
kept_match wd fs gs d s temps t l h = record {
  objects = kept_shown (homes wd) fs gs gs l (λ f e. e) wd.program.objects s.objects t.objects h.objects;
  cells = h.cells;
  events = h.events;
  spent = h.spent;
}

first_among : (g : ℕ) (fs : List ℕ) → is_among (g ∷ fs) g ≡ true
first_among g fs = ap (λ b. b || is_among fs g) (eq-eqb g g refl)

-- ---- parameters

module _ (wd : World) (code : List PlainIr) (stack : List Frame) (g : ℕ) where
  -- the function that is going to be called, and those that are active
  abbrev fs : List ℕ
  fs = g ∷ around (spot wd code stack)

  -- the machine is beside the program, once the frame of that function stands
  abbrev Beside : ℕ → State → Mach → Type 0
  Beside d s u = Match (homes wd) (ports wd) fs d s (machine u.temps (kept_for (homes wd) fs u.state))

  -- parameters were written
  record Written (d : ℕ) (temps : Temps) (y : Value) (s : State) (u : Mach) : Type 0 where
    match : Beside d s u
    state : IsTypedState wd.program s
    kept : u.temps ≡ temps

  param_store : (d o t : ℕ) (x : PlainObject) (ty : PlainType) (v : Value) (s : State) (u : Mach) (rest : List PlainIr)
      → slice_get wd.program.objects o ≡ Some x → x.storage ≡ param g → x.ty ≡ ty → HasType wd.program ty v
      → (IsScalar ty → u.temps t ≡ Some (held_of ty v)) → Beside (d + 5 * scalar_size ty) s u → IsTypedState wd.program s
      → Runs (spot wd code stack) wd.n (store_object o 0 (temp t ty) ∷ rest) u (to_rest (spot wd code stack) rest) (Written d u.temps)
      (initialised wd.program o 0 v (begun wd.program o s))
  param_store d o t x ty v s u rest e st same typed at_t h ts =
      sound (initialised wd.program o 0 v (begun wd.program o s)) ((law wd).states.initialised o 0 x leaf v (begun wd.program o s) e item
      (subst (λ (z : PlainType). HasType wd.program z v) (sym same) typed) ((law wd).states.begun o s ts))
      (own_store wd code stack wd.n d o 0 t x leaf ty v (begun wd.program o s) u rest e item same home.0 scalar typed stored (at_t scalar)
      (own_access wd.program o 0 (begun wd.program o s)) refl)
    where
      storage_is : (y : PlainObject) → slice_get wd.program.objects o ≡ Some y → y.storage ≡ param g
      storage_is y q =
          let a : Some x ≡ Some y = sym e ∙ q in
          let b : x ≡ y = cc in
          ap (λ (z : PlainObject). z.storage) (sym b) ∙ st

      kept : (y : PlainObject) → slice_get wd.program.objects o ≡ Some y → is_kept fs y.storage ≡ true
      kept y q = ap (is_kept fs) (storage_is y q) ∙ first_among g (around (spot wd code stack))

      storage_at : storage_of (spot wd code stack) o ≡ Some (param g)
      storage_at = ap (option_map (λ (z : PlainObject). z.storage)) e ∙ ap Some st

      i : PlainIr
      i = store_object o 0 (temp t ty)

      stored : Match (homes wd) (ports wd) fs d (begun wd.program o s)
          (machine u.temps (stored_in (spot wd code stack) (apart wd) o 0 (temp t ty) u))
      stored =
          subst (λ z. Match (homes wd) (ports wd) fs d (begun wd.program o s)
          (machine u.temps (before_store (homes wd) (around (spot wd code stack)) z (worked (op_steps i) u.state)))) (sym storage_at)
          (spent_on (homes wd) (ports wd) (d + 5 * scalar_size ty) d i u.temps (begun wd.program o s) (machine u.temps (kept_for (homes
          wd) fs
          u.state))
          (omega arith)
          (begun_match wd o (d + 5 * scalar_size ty) s (machine u.temps (kept_for (homes wd) fs u.state)) kept h))

      leaf : PlainLeaf
      leaf = record { ty = x.ty; at = 0 }

      home : (is_read_only x.home ≡ false) × IsScalar x.ty
      home = param_home wd.program wd.io wd.valid o g x e st

      scalar : IsScalar ty
      scalar = subst IsScalar same home.1

      item : slice_get (leaves_of_type wd.program.structs x.ty) 0 ≡ Some (record { ty = x.ty; at = 0 })
      item = scalar_leaf wd.program x.ty home.1

      sound : (z : Outcome Value) → IsSoundOutcome wd.program (HasType wd.program x.ty) z → Runs (spot wd code stack) wd.n
          (store_object o 0 (temp t ty) ∷ rest) u (to_rest (spot wd code stack) rest)
          (λ y s1 u1. Match (homes wd) (ports wd) fs d s1 u1 × (u1.temps ≡ u.temps)) z
          → Runs (spot wd code stack) wd.n (store_object o 0 (temp t ty)
          ∷ rest) u (to_rest (spot wd code stack) rest) (Written d u.temps) z
      sound (got y s1) q r = (
        r.0,
        record {
          match = kept_match wd fs fs d s1 r.0.temps r.0.state (λ f e. e) r.1.0;
          state = q.1;
          kept = r.1.1;
        },
        r.2,
      )
      sound (more s1) q r = r
      sound (undefined point s1) q r = tt

  abbrev AreParams : List ℕ → Type 0
  AreParams os = AllByRecursion (λ o. IsSomeAnd (slice_get wd.program.objects o) (λ x. x.storage ≡ param g)) os

  params_run : (d : ℕ) (os : List ℕ) (es : PlainExprs) (vs : List Value) (t : ℕ) (s : State) (u : Mach) (rest : List PlainIr)
      → AreParams os → AreArguments wd.program os es → AreHeld wd es vs t u.temps → Beside (d + 5 * total_size es) s u
      → IsTypedState wd.program s
      → Runs (spot wd code stack) wd.n (params_code os es t rest) u (to_rest (spot wd code stack) rest) (Written d u.temps)
      (parameters_written (set wd) os vs s)
  params_run d [] last_expr vs t s u rest ps args hd h st = (
    u,
    record {
      match = less (homes wd) (ports wd) (d + 5 * 0) d s (machine u.temps (kept_for (homes wd) fs u.state)) (omega arith) h;
      state = st;
      kept = refl;
    },
    stays_at,
  )
    where
      stays_at : Comes (spot wd code stack) (here (spot wd code stack) rest) u (at (here (spot wd code stack) rest)) u
      stays_at = stays (spot wd code stack) (here (spot wd code stack) rest) u
  params_run d [] (next_expr e es) vs t s u rest ps args hd h st = absurd args
  params_run d (o ∷ os) last_expr vs t s u rest ps args hd h st = absurd args
  params_run d (o ∷ os) (next_expr e es) [] t s u rest ps args hd h st = absurd hd
  params_run d (o ∷ os) (next_expr e es) (v ∷ vs) t s u rest ps args hd h st =
      let w = spot wd code stack in
      let x = some_and (slice_get wd.program.objects o) (λ x. x.storage ≡ param g) ps.0 in
      let same : Some x.0.ty ≡ Some (type_of_expr e) = sym (ap (option_map (λ (q : PlainObject). q.ty)) x.1) ∙ args.0 in
      let ty_is : x.0.ty ≡ type_of_expr e = cc in
      let d1 = d + 5 * total_size es in
      let more_code = params_code os es (t + 1) rest in
      bind w wd.n (here w (params_code (o ∷ os) (next_expr e es) t rest)) u (to_rest w more_code) (Written d1 u.temps) (to_rest w rest)
      (Written d u.temps) (here w more_code) (initialised wd.program o 0 v (begun wd.program o s)) _ (λ z. refl)
      (param_store d1 o t x.0 (type_of_expr e) v s u more_code x.1 x.2 ty_is hd.1 hd.0
      (less (homes wd) (ports wd) (d + 5 * (scalar_size (type_of_expr e) + total_size es)) (d1 + 5 * scalar_size (type_of_expr e)) s
      (machine u.temps (kept_for (homes wd) fs u.state)) (omega arith) h)
      st)
      (λ y s1 u1 r. subst (λ (q : Temps). Runs w wd.n more_code u1 (to_rest w rest) (Written d q) (parameters_written (set wd) os vs s1))
      r.kept
      (params_run d os es vs (t + 1) s1 u1 rest ps.1 args.1 (subst (AreHeld wd es vs (t + 1)) (sym r.kept) hd.2) r.match r.state))

-- ---- the called function

-- a frame that waits for the result
abbrev frame_of : List PlainIr → List PlainIr → Temps → ℕ → PlainType → ℕ → Frame
frame_of code rest temps t ty g = record { code = code; rest = rest; temps = temps; to = result_temp t ty; called = g }

scalar_temp : (t : ℕ) (ty : PlainType) → IsScalar ty → result_temp t ty ≡ Some (temp t ty)
scalar_temp t void i = absurd i
scalar_temp t (integer s b) i = refl
scalar_temp t (fixed k s) i = refl
scalar_temp t (pointer s c q) i = refl
scalar_temp t (array q n) i = absurd i
scalar_temp t (struct k) i = absurd i

-- the words of a call's operation
pub call_bytes : (t : ℕ) (ty : PlainType) → temp_bytes (result_temp t ty) ≤ scalar_size ty
call_bytes t void = omega arith
call_bytes t (integer s b) = omega arith
call_bytes t (fixed k s) = omega arith
call_bytes t (pointer s c q) = omega arith
call_bytes t (array q n) = omega arith
call_bytes t (struct k) = omega arith

not_main : (a b : ℕ) → a ≢ b → (a == b) ≡ false
not_main a b h = by_test (a == b) refl
  where
    by_test : (c : Bool) → (a == b) ≡ c → c ≡ false
    by_test true e = absurd (h (eqb-true a b e))
    by_test false e = refl

module _ (wd : World) (depth : ℕ) (callee : Callee wd depth) (g : ℕ) (f : PlainFunction) (is : slice_get wd.program.functions g ≡ Some f)
    (other : IsOther wd.program g) (code rest : List PlainIr) (temps : Temps) (t : ℕ) (stack : List Frame) where
  abbrev body_code : List PlainIr
  body_code = function_code wd.program (ports wd) f

  abbrev w0 : Spot
  w0 = spot wd code stack

  abbrev outer : List ℕ
  outer = around w0

  abbrev inside : Scene wd
  inside = record {
    depth = depth;
    f = g;
    code = body_code;
    resolves = function_resolves wd.program (ports wd) (few wd) f;
    stack = frame_of code rest temps t f.returns g ∷ stack;
    runs = first_among g outer;
    callee = callee;
  }

  abbrev w : Spot
  w = W wd inside

  function_is : IsFunction wd.program wd.io g f
  function_is = (law wd).functions g f is

  -- the result where it stands for the caller
  abbrev BackTo : Option Value → Mach → Type 0
  BackTo None u = Below w t temps u
  BackTo (Some v) u = (u.temps t ≡ Some (held_of f.returns v)) × Below w t temps u

  returns_to : Returns wd inside
  returns_to = record {
    returns = f.returns;
    scalar = result_scalar f.returns function_is.returns;
    outer = outer;
    back = λ v. at (place code stack rest);
    Back = BackTo;
    none = λ e tail m. none e tail m;
    some = λ v i vt tail m h. some v i tail m h;
  }
    where
      -- the state where the caller goes on
      kept : State → State
      kept t = kept_for (homes wd) outer t

      none_step : (tail : List PlainIr) (m : Mach) → f.returns ≡ void → (k : ℕ) → goes w (suc k) (return_from None ∷ tail) m ≡ execs w k
          (place code stack rest) (machine temps (kept (worked (op_steps (return_from None)) m.state)))
      none_step tail m e k = ap (λ (z : PlainType). leave (homes wd) (frame_of code rest temps t z g ∷ stack) None (λ q u. execs w k q u)
          (worked (op_steps (return_from None)) m.state)) e

      left : (temps0 temps1 : Temps) (t1 : State) → Ends wd inside outer temps0 t1 (machine temps1 (kept t1))
      left temps0 temps1 t1 d s h =
          kept_match wd outer outer d (frame_ended wd.program g s) temps1 t1 (λ f e. e) (frame_match wd g d outer s temps0 t1 h temps1)

      none : f.returns ≡ void → (tail : List PlainIr) (m : Mach)
          → (u : Mach) × Ends wd inside outer m.temps (worked (op_steps (return_from None)) m.state) u × BackTo None u × Comes w
          (here w (return_from None ∷ tail)) m (at (place code stack rest)) u
      none e tail m = let t1 : State = worked (op_steps (return_from None)) m.state in let u : Mach = machine temps (kept t1) in (
        u,
        left m.temps temps t1,
        (λ i lt. refl),
        counts w (return_from None ∷ tail) (place code stack rest) m u (none_step tail m e),
      )

      some_step : (v : Value) (tail : List PlainIr) (m : Mach) → IsScalar f.returns → m.temps 0 ≡ Some (held_of f.returns v) → (k : ℕ)
          → goes w (suc k) (return_from (Some (temp 0 f.returns)) ∷ tail) m ≡ execs w k (place code stack rest)
          (machine (with_held t (held_of f.returns v) temps) (kept (worked (op_steps (return_from (Some (temp 0 f.returns)))) m.state)))
      some_step v tail m i h k =
          let s1 : State = worked (op_steps (return_from (Some (temp 0 f.returns)))) m.state in
          ap (λ z. next (next z (λ content s. got (Some (record { bytes = scalar_size f.returns; content = content })) s))
          (λ result s2. leave (homes wd) (frame_of code rest temps t f.returns g ∷ stack) result (λ q u. execs w k q u) s2))
          (held_is f.returns 0 v m.temps s1 h)
          ∙ ap (λ z. next (resulted z (Some (held_of f.returns v)) temps s1) (λ temps s2. execs w k (place code stack rest)
          (machine temps (kept s2)))) (scalar_temp t f.returns i)

      some : (v : Value) → IsScalar f.returns → (tail : List PlainIr) (m : Mach) → m.temps 0 ≡ Some (held_of f.returns v)
          → (u : Mach) × Ends wd inside outer m.temps (worked (op_steps (return_from (Some (temp 0 f.returns)))) m.state) u
          × BackTo (Some v) u × Comes w (here w (return_from (Some (temp 0 f.returns)) ∷ tail)) m (at (place code stack rest)) u
      some v i tail m h =
          let t1 : State = worked (op_steps (return_from (Some (temp 0 f.returns)))) m.state in
          let u : Mach = machine (with_held t (held_of f.returns v) temps) (kept t1) in (
            u,
            left m.temps u.temps t1,
            (held_at t (held_of f.returns v) temps, λ j lt. held_below t (held_of f.returns v) temps j lt),
            counts w (return_from (Some (temp 0 f.returns)) ∷ tail) (place code stack rest) m u (some_step v tail m i h),
          )

  abbrev Result : ℕ → Value → State → Mach → Type 0
  Result d v s u = HasValue w0 f.returns t d temps v s u

  abbrev Finishes : ℕ → Place → Mach → Outcome Value → Type 0
  Finishes d q m o = Does w wd.n q m (λ v. at (place code stack rest)) (Result d) o

  -- a void result
  void_result : (d : ℕ) (s : State) (u : Mach) → f.returns ≡ void → Match (homes wd) (ports wd) outer d s u → Below w t temps u
      → Result d no_value s u
  void_result d s u e h b = record { match = h; value = λ i. absurd (subst IsScalar e i); same = b }

  -- the body ends without a return: only where there is no result
  falls : (d : ℕ) (r : PlainType) → f.returns ≡ r → (s : State) (u : Mach) → Match (homes wd) (ports wd) (around w) (d + 40) s u
      → Finishes d (here w (return_from None ∷ [])) u
      (unreturned r false (frame_ended wd.program g s))
  unfolding returns_to
  falls d void e s u h =
      let x = returns_to.none e [] u in (
        x.0,
        void_result d (frame_ended wd.program g s) x.0 e
            (x.1 d s (spent_on (homes wd) (ports wd) (d + 40) d (return_from None) u.temps s u (omega arith) h)) x.2,
        x.3,
      )
  falls d (integer s1 b) e s u h = tt
  falls d (fixed k s1) e s u h = tt
  falls d (pointer s1 c q) e s u h = tt
  falls d (array q n) e s u h = tt
  falls d (struct i) e s u h = tt

  -- a return without a value
  bare : (d : ℕ) (r : PlainType) → f.returns ≡ r → (s : State) (q : Place) (m u : Mach)
      → Match (homes wd) (ports wd) outer (d + 40) (frame_ended wd.program g s) u → Below w t temps u
      → Comes w q m (at (place code stack rest)) u → Finishes d q m (unreturned r false (frame_ended wd.program g s))
  bare d void e s q m u h b c = (
    u,
    void_result d (frame_ended wd.program g s) u e
        (less (homes wd) (ports wd) (d + 40) d (frame_ended wd.program g s) u (omega arith) h) b,
    c,
  )
  bare d (integer s1 b1) e s q m u h b c = tt
  bare d (fixed k s1) e s q m u h b c = tt
  bare d (pointer s1 c1 r) e s q m u h b c = tt
  bare d (array r n) e s q m u h b c = tt
  bare d (struct i) e s q m u h b c = tt

  -- the end is come to only where it is a return
  finishes : (d : ℕ) (q : List PlainIr) (m : Mach) (end : List PlainIr) (may : Bool) → (may ≡ true → end ≡ return_from None ∷ [])
      → (o : Outcome Exit) → EndsBy may o → Typed wd inside returns_to wd.n q m (label 0 ∷ end) end end (d + 40) o
      → Finishes d (here w q) m (next o (λ x s. call_result f.returns false x (frame_ended wd.program g s)))
  unfolding returns_to
  finishes d q m end may is (got at_end s) by h =
      after w (λ v. at (place code stack rest)) (Result d) wd.n (here w q) (here w (label 0 ∷ end)) m h.0
      (unreturned f.returns false (frame_ended wd.program g s)) h.2
      (after w (λ v. at (place code stack rest)) (Result d) wd.n (here w (label 0 ∷ end)) (here w end) h.0 h.0
      (unreturned f.returns false (frame_ended wd.program g s)) (label_comes w 0 end h.0)
      (subst (λ (z : List PlainIr). Finishes d (here w z) h.0 (unreturned f.returns false (frame_ended wd.program g s))) (sym (is by))
      (falls d f.returns refl s h.0 h.1.left.match)))
  finishes d q m end may is (got by_break s) by h = absurd by
  finishes d q m end may is (got by_continue s) by h = absurd by
  finishes d q m end may is (got (by_return None) s) by h = bare d f.returns refl s (here w q) m h.0 h.1.left.match h.1.left.back h.2
  finishes d q m end may is (got (by_return (Some v)) s) by h = (
    h.0,
    record {
      match = less (homes wd) (ports wd) (d + 40) d (frame_ended wd.program g s) h.0 (omega arith) h.1.left.match;
      value = λ i. h.1.left.back.0;
      same = h.1.left.back.1;
    },
    h.2,
  )
  finishes d q m end may is (more s) by h = h
  finishes d q m end may is (undefined point s) by h = tt

  -- the body, from the first operation on
  body_runs : (d : ℕ) (s : State) (m : Mach) → Match (homes wd) (ports wd) (around w) (d + 40) s m → IsTypedState wd.program s
      → Finishes d (here w body_code) m
      (next (effect_of (set wd) (calls_to wd depth) wd.n f.body s) (λ x s1. call_result f.returns false x (frame_ended wd.program g s1)))
  unfolding returns_to
  body_runs d s m h st =
      let all : Stands body_code body_code = ([], refl) in
      let q = end_code f.body in
      let end = function_resolves wd.program (ports wd) (few wd) f 0 q (stmt_behind wd.program (ports wd) body_code f.body 1 0 0
      (label 0 ∷ q) all) in
      finishes d body_code m q (not (body_returns f.body)) (λ e. end_is (body_returns f.body) e)
      (effect_of (set wd) (calls_to wd depth) wd.n f.body s)
      (body_ends (set wd) (calls_to wd depth) wd.n wd.program wd.io g f.returns f.body s function_is.body)
      (stmt_runs wd inside returns_to f.body false 1 0 0 (d + 40) (label 0 ∷ q) q q (omega arith)
      (run_parts wd.program wd.io wd.valid g f is (inr other.1)) function_is.body all end end s m h st)

-- ---- calls

-- what holds in a called function holds for its caller, above other temporaries
elsewhere : (wd : World) (code1 : List PlainIr) (stack1 : List Frame) (code2 : List PlainIr) (stack2 : List Frame) (n : ℕ) (p : Place)
    (m : Mach) (to : Value → Target) (ty : PlainType) (t d : ℕ) (b c : Temps) → ((i : ℕ) → i < t → b i ≡ c i) → (o : Outcome Value)
    → Does (spot wd code1 stack1) n p m to (HasValue (spot wd code2 stack2) ty t d b) o → Does (spot wd code2 stack2) n p m to
    (HasValue (spot wd code2 stack2) ty t d c) o
elsewhere wd code1 stack1 code2 stack2 n p m to ty t d b c e (got v s) r =
    (r.0, record { match = r.1.match; value = r.1.value; same = λ i lt. r.1.same i lt ∙ e i lt }, comes (to v) r.2)
  where
    comes : (z : Target) → Comes (spot wd code1 stack1) p m z r.0 → Comes (spot wd code2 stack2) p m z r.0
    comes (at q) h = record { by = λ k. h.by k }
    comes (over x) h = record { by = λ k. h.by k }
elsewhere wd code1 stack1 code2 stack2 n p m to ty t d b c e (more s) r = r
elsewhere wd code1 stack1 code2 stack2 n p m to ty t d b c e (undefined point s) r = tt

called_runs : (wd : World) (depth : ℕ) → Callee wd depth → Callee wd (suc depth)
called_runs wd depth callee g f is other code stack es vs t d b rest s m args hd h st below =
    subst (λ (z : Option PlainFunction). Runs w0 wd.n (params_code f.params es t calling) m (to_rest w0 rest) (HasValue w0 f.returns t d b)
    (call_of (set wd) (calls_to wd depth) wd.n g z vs s)) (sym is)
    (bind w0 wd.n (here w0 (params_code f.params es t calling)) m (to_rest w0 calling) (Written wd code stack g d1 m.temps) (to_rest w0
    rest)
    (HasValue w0 f.returns t d b) (here w0 calling) (parameters_written (set wd) f.params vs (worked function_words s)) _ (λ z. refl)
    (params_run wd code stack g d1 f.params es vs t (worked function_words s) m calling function_is.params args hd
    (kept_match wd (around w0) (g ∷ around w0) (d1 + 5 * total_size es) (worked function_words s) m.temps m.state (among_more g (around w0))
    (less (homes wd) (ports wd) (d + (60 + 10 * (total_size es + scalar_size f.returns)) + 40) (d1 + 5 * total_size es) (worked
    function_words s) m
    (omega arith) (credited (homes wd) (ports wd) function_words (d + (60 + 10 * (total_size es + scalar_size f.returns))) s m h))) st)
    (λ y s1 u r. entered y s1 u r))
  where
    w0 : Spot
    w0 = spot wd code stack

    calling : List PlainIr
    calling = call_function g (result_temp t f.returns) ∷ rest

    d1 : ℕ
    d1 = d + 40 + (60 + 5 * scalar_size f.returns)

    function_is : IsFunction wd.program wd.io g f
    function_is = (law wd).functions g f is

    o1 : State → Outcome Value
    o1 s1 = next (effect_of (set wd) (calls_to wd depth) wd.n f.body s1) (λ x s2. call_result f.returns false x
        (frame_ended wd.program g s2))

    frames : List Frame
    frames = frame_of code rest m.temps t f.returns g ∷ stack

    -- what the called function begins with
    kept : Mach → State
    kept u = kept_for (homes wd) (g ∷ around w0) (worked (op_steps (call_function g (result_temp t f.returns))) u.state)

    entered_step : (u : Mach) → u.temps ≡ m.temps → (k : ℕ) → goes w0 (suc k) calling u ≡ execs w0 k
        (place (function_code wd.program (ports wd) f) frames (function_code wd.program (ports wd) f))
        (machine no_temps (kept u))
    entered_step u e k =
        ap (λ z. enter z (λ q v. execs w0 k q v) (frame_of code rest u.temps t f.returns g ∷ stack)
        (machine no_temps (kept u)))
        (slice_get-map (lowered_function wd.program (ports wd)) wd.program.functions g
        ∙ ap (option_map (lowered_function wd.program (ports wd))) is)
        ∙ ap (λ (z : Temps). execs w0 k (place (function_code wd.program (ports wd) f) (frame_of code rest z t f.returns g ∷ stack)
        (function_code wd.program (ports wd) f)) (machine no_temps (kept u)))
        e

    entered : (y : Value) (s1 : State) (u : Mach) → Written wd code stack g d1 m.temps y s1 u → Runs w0 wd.n calling u (to_rest w0 rest)
        (HasValue w0 f.returns t d b) (next (effect_of (set wd) (calls_to wd depth) wd.n f.body s1)
        (λ x s2. call_result f.returns (g == wd.program.main) x (frame_ended wd.program g s2)))
    entered y s1 u r =
        let i = call_function g (result_temp t f.returns) in
        let u1 : Mach = machine no_temps (kept u) in
        let size = call_bytes t f.returns in
        let paid = spent_on (homes wd) (ports wd) d1 (d + 40) i no_temps s1 (machine u.temps (kept_for (homes wd) (g ∷ around w0) u.state))
        (omega (arith, size)) r.match in
        subst (λ (z : Bool). Runs w0 wd.n calling u (to_rest w0 rest) (HasValue w0 f.returns t d b)
        (next (effect_of (set wd) (calls_to wd depth) wd.n f.body s1) (λ x s2. call_result f.returns z x (frame_ended wd.program g s2))))
        (sym (not_main g wd.program.main other.0))
        (after w0 (to_rest w0 rest) (HasValue w0 f.returns t d b) wd.n (here w0 calling)
        (place (function_code wd.program (ports wd) f) frames (function_code wd.program (ports wd) f)) u u1 (o1 s1)
        (counts w0 calling (place (function_code wd.program (ports wd) f) frames (function_code wd.program (ports wd) f)) u u1
        (entered_step u r.kept))
        (elsewhere wd (function_code wd.program (ports wd) f) frames code stack wd.n (place (function_code wd.program (ports wd) f) frames
        (function_code wd.program (ports wd) f)) u1 (λ v. at (place code stack rest)) f.returns t d m.temps b below (o1 s1)
        (body_runs wd depth callee g f is other code rest m.temps t stack d s1 u1 paid r.state)))

pub callee_runs : (wd : World) (depth : ℕ) → Callee wd depth
callee_runs wd zero g f is other code stack es vs t d b rest s m args hd h st below = tt
callee_runs wd (suc depth) g f is other code stack es vs t d b rest s m args hd h st below = called_runs wd depth (callee_runs wd depth) g f
    is other code stack es vs t d b rest s m args hd h st below
