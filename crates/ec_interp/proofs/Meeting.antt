-- Where the points are met that statements tell.
use Rattle.std.proofs.Common.{◌≡◌, ◌∙◌, ◌⊎◌, [], ◌∷◌, Bool, true, false, ℕ, zero, suc, ◌+◌, ◌<◌, List, Option, Some, None, Result, Ok, Err}
use Rattle.std.proofs.Common.{refl, ap, sym, subst, inl, inr, ⊎_elim, arith, length, get_or, drop}
use Rattle.std.specs.Prelude.{◌==◌, slice_get}
use Rattle.std.specs.Result.{IsErrAnd}
use Rattle.ec_core.specs.declared.statements.Stmt.{Stmt}
use Rattle.ec_core.specs.declared.values.Undefined.{Undefined as Point}
use Rattle.ec_core.specs.declared.values.Value.{Value}
use Rattle.ec_core.specs.Accesses.{frame_ended}
use Rattle.ec_core.specs.Expressions.{Calls}
use Rattle.ec_core.specs.Plain.{PlainExpr, PlainStmt, statement, PlainKind, empty, evaluate, block, declare, branch, while_loop, do_loop}
use Rattle.ec_core.specs.Plain.{for_loop, break_loop, continue_loop, return_value, PlainStmts, PlainFunction, plain_stmt, plain_stmts}
use Rattle.ec_core.specs.Plain.{plain_program}
use Rattle.ec_core.specs.State.{Setting, State, Outcome, got, more, undefined, next}
use Rattle.ec_core.specs.Statements.{Exit, ending, effect_of, parameters_written, call_result, calls_within}
use Rattle.ec_interp.specs.declared.behaviour.Unanswered.TheVariants.{NoMemory as Full}
use Rattle.ec_interp.specs.declared.state.Context.{Context}
use Rattle.ec_interp.specs.declared.state.RunError.{RunError}
use Rattle.ec_interp.specs.declared.state.RunError.TheVariants.{Unanswered, OutOfTurns, Undefined, Met}
use Rattle.ec_interp.specs.Does.{Stops, ShowsWhere, Placed, StopsPart, ShowsPart, StopsAt, ShowsAt, Nothing}
use Rattle.ec_interp.specs.Loops.{block_items}
use Rattle.ec_interp.specs.Places.{calls_by, hushed, placed, Meets, MeetsAt, SomeIn, SomeInside, SomeAmong, StandsAt, LeftWithout}
use Rattle.ec_interp.specs.Places.{MetInFunction}
use Rattle.ec_interp.specs.Views.{setting_of}

abbrev pub Ones : Type 1
Ones = Point → State → Type 0

abbrev pub Places : Type 1
Places = Point → State → ℕ → ℕ → Type 0

-- ---- answers of statements

-- the same of a part that stands in more
pub widened : {A B P Q : Type 0} (f : Context) (Own More : Ones) (Within Wider : Places) (view : A → B) (r : Result A RunError) (s : State)
    (o : Outcome B) → ((p : Point) → Own p s → More p s) → ((p : Point) (u k : ℕ) → Within p s u k → Wider p s u k) → (Q → P)
    → ShowsAt f Own Within view P r s o → ShowsAt f More Wider view Q r s o
widened f Own More Within Wider view (Ok x) s o own within k h = h
widened f Own More Within Wider view (Err (Unanswered why)) s o own within k h = λ q. h (k q)
widened f Own More Within Wider view (Err OutOfTurns) s o own within k h = h
widened f Own More Within Wider view (Err (Undefined point)) s o own within k h = (h.0, own point h.1)
widened f Own More Within Wider view (Err (Met point unit at)) s o own within k h = (h.0, ⊎_elim (λ z. inl (within point unit at z)) (λ z. inr z) h.1)

-- a statement's own part, from its answers with calls as they are and with quiet ones
pub own_shown : {A B P Q : Type 0} (f : Context) (Own : Ones) (Within : Places) (view : A → B) (r : Result A RunError) (s : State)
    (o q : Outcome B) → ((p : Point) → q ≡ undefined p s → Own p s) → (Q → P) → ShowsPart f false view P r s o
    → ShowsPart f true view P r s q → ShowsAt f Own Within view Q r s o
own_shown f Own Within view (Ok x) s o q own k h g = h
own_shown f Own Within view (Err (Unanswered why)) s o q own k h g = λ z. h (k z)
own_shown f Own Within view (Err OutOfTurns) s o q own k h g = h
own_shown f Own Within view (Err (Undefined point)) s o q own k h g = (h, own point g)
own_shown f Own Within view (Err (Met point unit at)) s o q own k h g = (h.0, inr h.1)

got_no_point : {B : Type 0} (o : Outcome B) (x : B) (t s : State) (point : Point) → o ≡ got x t → o ≡ undefined point s → ⊥
got_no_point o x t s point e g = cc

-- a part without calls that meets nothing
pub left_shown : {A B P Q : Type 0} (f : Context) (Own : Ones) (Within : Places) (view : A → B) (r : Result A RunError) (s : State) (x : B)
    (t : State) → (Q → P) → ShowsWhere view P r s (got x t) → ShowsAt f Own Within view Q r s (got x t)
left_shown f Own Within view (Ok y) s x t k h = h
left_shown f Own Within view (Err (Unanswered why)) s x t k h = λ z. h (k z)
left_shown f Own Within view (Err OutOfTurns) s x t k h = h
left_shown f Own Within view (Err (Undefined point)) s x t k h = absurd (got_no_point (got x t) x t s point refl h)
left_shown f Own Within view (Err (Met point unit at)) s x t k h = absurd h

-- ---- errors of first parts

stops_at : {A B P Q : Type 0} (f : Context) (Own More : Ones) (Within Wider : Places) (e : RunError) (s : State) (o : Outcome A) (go : A
    → State → Outcome B) → ((p : Point) → Own p s → More p s) → ((p : Point) (u k : ℕ) → Within p s u k → Wider p s u k) → (Q → P)
    → StopsAt f Own Within P e s o → StopsAt f More Wider Q e s (next o go)
stops_at f Own More Within Wider (Unanswered why) s o go own within k h = λ q. h (k q)
stops_at f Own More Within Wider OutOfTurns s o go own within k h = ap (λ z. next z go) h
stops_at f Own More Within Wider (Undefined point) s o go own within k h = (ap (λ z. next z go) h.0, own point h.1)
stops_at f Own More Within Wider (Met point unit at) s o go own within k h =
    (ap (λ z. next z go) h.0, ⊎_elim (λ z. inl (within point unit at z)) (λ z. inr z) h.1)

own_stops : {A B P Q : Type 0} (f : Context) (Own : Ones) (Within : Places) (e : RunError) (s : State) (o q : Outcome A) (go : A → State
    → Outcome B) → ((p : Point) → q ≡ undefined p s → Own p s) → (Q → P) → StopsPart f false P e s o → StopsPart f true P e s q
    → StopsAt f Own Within Q e s (next o go)
own_stops f Own Within (Unanswered why) s o q go own k h g = λ z. h (k z)
own_stops f Own Within OutOfTurns s o q go own k h g = ap (λ z. next z go) h
own_stops f Own Within (Undefined point) s o q go own k h g = (ap (λ z. next z go) h, own point g)
own_stops f Own Within (Met point unit at) s o q go own k h g = (ap (λ z. next z go) h.0, inr h.1)

at_error : {X B : Type 0} (f : Context) (Own : Ones) (Within : Places) (Q : Type 0) (view : X → B) (r : Result X RunError) (e : RunError)
    (s : State) (o : Outcome B) → IsErrAnd r (λ y. y ≡ e) → StopsAt f Own Within Q e s o → ShowsAt f Own Within view Q r s o
at_error f Own Within Q view (Ok x) e s o i h = absurd i
at_error f Own Within Q view (Err y) e s o i h =
    subst (λ (z : RunError). StopsAt f Own Within Q z s o) (sym i) h

pub passes_at : {X A B P Q : Type 0} (f : Context) (Own More : Ones) (Within Wider : Places) (view : X → B) (r : Result X RunError)
    (e : RunError) (s : State) (o : Outcome A) (go : A → State → Outcome B) → IsErrAnd r (λ y. y ≡ e)
    → ((p : Point) → Own p s → More p s) → ((p : Point) (u k : ℕ) → Within p s u k → Wider p s u k) → (Q → P)
    → StopsAt f Own Within P e s o → ShowsAt f More Wider view Q r s (next o go)
passes_at {P = P} {Q = Q} f Own More Within Wider view r e s o go i own within k h =
    at_error f More Wider Q view r e s (next o go) i
    (stops_at {P = P} {Q = Q} f Own More Within Wider e s o go own within k h)

pub own_passes : {X A B P Q : Type 0} (f : Context) (Own : Ones) (Within : Places) (view : X → B) (r : Result X RunError) (e : RunError)
    (s : State) (o q : Outcome A) (go : A → State → Outcome B) → IsErrAnd r (λ y. y ≡ e) → ((p : Point) → q ≡ undefined p s → Own p s)
    → (Q → P) → StopsPart f false P e s o → StopsPart f true P e s q → ShowsAt f Own Within view Q r s (next o go)
own_passes {P = P} {Q = Q} f Own Within view r e s o q go i own k h g =
    at_error f Own Within Q view r e s (next o go) i
    (own_stops {P = P} {Q = Q} f Own Within e s o q go own k h g)

pub full_at : {X B : Type 0} (f : Context) (Own : Ones) (Within : Places) (Q : Type 0) (view : X → B) (r : Result X RunError) (s : State)
    (o : Outcome B) → IsErrAnd r (λ y. y ≡ Unanswered Full) → ShowsAt f Own Within view Q r s o
full_at f Own Within Q view r s o i =
    at_error f Own Within Q view r (Unanswered Full) s o i (λ q. tt)

-- nothing ends
ends_none : (o : Outcome Exit) → ending [] o ≡ o
ends_none (got x s) = refl
ends_none (more s) = refl
ends_none (undefined point s) = refl

pub ended_none : {X : Type 0} (f : Context) (Own : Ones) (Within : Places) (Q : Type 0) (view : X → Exit) (r : Result X RunError)
    (s : State) (o : Outcome Exit) → ShowsAt f Own Within view Q r s o → ShowsAt f Own Within view Q r s (ending [] o)
ended_none f Own Within Q view r s o h = rw (ends_none o) h

-- ---- statements and bodies

module _ (f : Context) where
  abbrev w : Setting
  w = setting_of f.program.now f.io.now f.inputs.now

  -- the error of a statement's own part, or of one in it, is one at the statement or in it
  pub placed_at : {P Q : Type 0} (unit at : ℕ) (kind : PlainKind) (e : RunError) (s : State) (o : Outcome Exit) → (Q → P)
      → StopsAt f (Meets w f.turns kind) (λ p t u k. SomeInside (MeetsAt w f.turns p t u k) kind) P e s o
      → StopsAt f Nothing (λ p t u k. SomeIn (MeetsAt w f.turns p t u k) (statement unit at kind)) Q (placed unit at e) s o
  placed_at unit at kind (Unanswered why) s o k h = λ q. h (k q)
  placed_at unit at kind OutOfTurns s o k h = h
  placed_at unit at kind (Undefined point) s o k h = (h.0, inl (inl ((refl, refl), h.1)))
  placed_at unit at kind (Met point u v) s o k h = (h.0, ⊎_elim (λ z. inl (inr z)) (λ z. inr z) h.1)

  -- the statements of a block that is the first part of a `for`
  pub in_block : (Has : PlainStmt → Type 0) (a : PlainStmt) (ss : PlainStmts) → Some ss ≡ block_items a → SomeAmong Has ss → SomeIn Has a
  in_block Has (statement unit at (block all)) ss e h =
      let g : ss ≡ all = cc in
      inr (subst (λ (z : PlainStmts). SomeAmong Has z) g h)
  in_block Has (statement unit at empty) ss e h = cc
  in_block Has (statement unit at (evaluate x)) ss e h = cc
  in_block Has (statement unit at (declare o es)) ss e h = cc
  in_block Has (statement unit at (branch c a b)) ss e h = cc
  in_block Has (statement unit at (while_loop c a)) ss e h = cc
  in_block Has (statement unit at (do_loop a c)) ss e h = cc
  in_block Has (statement unit at (for_loop i c l a)) ss e h = cc
  in_block Has (statement unit at break_loop) ss e h = cc
  in_block Has (statement unit at continue_loop) ss e h = cc
  in_block Has (statement unit at (return_value x)) ss e h = cc

  -- a statement of a list
  pub among : (Has : PlainStmt → Type 0) (ss : List Stmt) (i : ℕ) (a : Stmt) → i < length ss → a ≡ get_or ss i a
      → SomeIn Has (plain_stmt a) → SomeAmong Has (plain_stmts ss)
  among Has [] i a l e h = absurd (omega arith)
  among Has (b ∷ ss) zero a l e h = inl (subst (λ (z : Stmt). SomeIn Has (plain_stmt z)) e h)
  among Has (b ∷ ss) (suc i) a l e h = inr (among Has ss i a (omega arith) e h)

  -- ---- functions

  -- the parameters of a function have no arguments
  pub unbound : {A P Q : Type 0} (g : ℕ) (called : PlainFunction) (unit at : ℕ) (xs : List Value) (s0 : State) (e : RunError) (s : State)
      (go : Value → State → Outcome A) → StandsAt unit at called.body → (Q → P) → Stops P e s (parameters_written w called.params xs s0)
      → StopsAt f Nothing (MetInFunction w f.turns g called) Q (placed unit at e) s (next (parameters_written w called.params xs s0) go)
  unbound g called unit at xs s0 (Unanswered why) s go i k h = λ q. h (k q)
  unbound g called unit at xs s0 OutOfTurns s go i k h = ap (λ z. next z go) h
  unbound g called unit at xs s0 (Undefined point) s go i k h = (ap (λ z. next z go) h, inl (inr (i, inl (xs, s0, h))))
  unbound g called unit at xs s0 (Met point u v) s go i k h = absurd h

  -- or its end was reached without a result
  pub unreturned : {P Q : Type 0} (g : ℕ) (called : PlainFunction) (unit at depth : ℕ) (x : Exit) (s0 s1 : State) (e : RunError) (s : State)
      → StandsAt unit at called.body → effect_of w (calls_within w f.turns depth) f.turns called.body s0 ≡ got x s1 → (Q → P)
      → Stops P e s (call_result called.returns (g == (plain_program f.program.now).main) x
      (frame_ended (plain_program f.program.now) g s1))
      → StopsAt f Nothing (MetInFunction w f.turns g called) Q (placed unit at e) s
      (call_result called.returns (g == (plain_program f.program.now).main) x (frame_ended (plain_program f.program.now) g s1))
  unreturned g called unit at depth x s0 s1 (Unanswered why) s i b k h = λ q. h (k q)
  unreturned g called unit at depth x s0 s1 OutOfTurns s i b k h = h
  unreturned g called unit at depth x s0 s1 (Undefined point) s i b k h = (h, inl (inr (i, inr (depth, x, s0, s1, b, h))))
  unreturned g called unit at depth x s0 s1 (Met point u v) s i b k h = absurd h

  -- a call, from what its function does
  pub called_so : {P Q : Type 0} (quiet : Bool) (calls : Calls) (g : ℕ) (xs : List Value) (s0 : State) (called : PlainFunction)
      (r : Result Value RunError) (t : State) → slice_get (plain_program f.program.now).functions g ≡ Some called → (Q → P)
      → ShowsAt f Nothing (MetInFunction w f.turns g called) (λ x. x) P r t (calls g xs s0)
      → ShowsPart f quiet (λ x. x) Q r t (calls_by quiet calls g xs s0)
  called_so false calls g xs s0 called (Ok x) t d k h = h
  called_so false calls g xs s0 called (Err (Unanswered why)) t d k h = λ q. h (k q)
  called_so false calls g xs s0 called (Err OutOfTurns) t d k h = h
  called_so false calls g xs s0 called (Err (Undefined point)) t d k h = absurd h.1
  called_so false calls g xs s0 called (Err (Met point unit at)) t d k h =
      (h.0, ⊎_elim (λ z. inr (record { number = g; function = called; defined = d; met = z })) (λ z. z) h.1)
  called_so true calls g xs s0 called (Ok x) t d k h = ap hushed h
  called_so true calls g xs s0 called (Err (Unanswered why)) t d k h = λ q. h (k q)
  called_so true calls g xs s0 called (Err OutOfTurns) t d k h = ap hushed h
  called_so true calls g xs s0 called (Err (Undefined point)) t d k h = absurd h.1
  called_so true calls g xs s0 called (Err (Met point unit at)) t d k h =
      (ap hushed h.0, ⊎_elim (λ z. inr (record { number = g; function = called; defined = d; met = z })) (λ z. z) h.1)
