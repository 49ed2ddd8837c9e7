-- From what the parts of a run answer to what the whole of them does.
use Rattle.std.proofs.Common.{◌≡◌, ◌∙◌, Bool, true, false, ℕ, List, Some, Result, Ok, Err, refl, ap, sym, subst, inl, inr, ⊎_elim}
use Rattle.std.specs.Prelude.{slice_get}
use Rattle.std.specs.Result.{IsErrAnd}
use Rattle.ec_core.specs.declared.values.Undefined.{Undefined as Point}
use Rattle.ec_core.specs.declared.values.Undefined.TheVariants.{Invalid}
use Rattle.ec_core.specs.declared.values.Value.{Value}
use Rattle.ec_core.specs.Expressions.{Calls}
use Rattle.ec_core.specs.Plain.{PlainFunction, plain_program}
use Rattle.ec_core.specs.State.{State, Outcome, got, more, undefined, next, given}
use Rattle.ec_interp.specs.declared.behaviour.Unanswered.TheVariants.{NoMemory as Full}
use Rattle.ec_interp.specs.declared.state.Context.{Context}
use Rattle.ec_interp.specs.declared.state.RunError.{RunError}
use Rattle.ec_interp.specs.declared.state.RunError.TheVariants.{Unanswered, OutOfTurns, Undefined, Met}
use Rattle.ec_interp.specs.Does.{Stops, ShowsWhere, Placed, StopsPart, ShowsPart}
use Rattle.ec_interp.specs.Outcomes.{ShowsRun}
use Rattle.ec_interp.specs.Places.{calls_by, hushed, met_in_call}
use Rattle.ec_interp.specs.Shows.{ShowsAs, Tells}
use Rattle.ec_interp.specs.Suits.{IsAnswered}
use Rattle.ec_interp.specs.Views.{setting_of}

-- ---- what no calls are in

-- of a part whose answers are told apart from that there are some
pub shown_where : {A B Q : Type 0} (view : A → B) (r : Result A RunError) (s : State) (o : Outcome B) → ShowsAs view r s o
    → (Q → IsAnswered r) → ShowsWhere view Q r s o
shown_where view (Ok x) s o h k = h
shown_where view (Err (Unanswered why)) s o h k = k
shown_where view (Err OutOfTurns) s o h k = h
shown_where view (Err (Undefined point)) s o h k = h
shown_where view (Err (Met point unit at)) s o h k = absurd h

-- that memory ran out
pub full_where : {X B : Type 0} (Q : Type 0) (view : X → B) (r : Result X RunError) (s : State) (o : Outcome B)
    → IsErrAnd r (λ y. y ≡ Unanswered Full) → ShowsWhere view Q r s o
full_where Q view (Ok x) s o i = absurd i
full_where Q view (Err y) s o i = subst (λ (z : RunError). Stops Q z s o) (sym i) (λ q. tt)

-- ---- parts of expressions

-- the same of a part that suits more often
pub suited : {A B P Q : Type 0} (f : Context) (quiet : Bool) (view : A → B) (r : Result A RunError) (s : State) (o : Outcome B) → (Q → P)
    → ShowsPart f quiet view P r s o → ShowsPart f quiet view Q r s o
suited f quiet view (Ok x) s o k h = h
suited f quiet view (Err (Unanswered why)) s o k h = λ q. h (k q)
suited f quiet view (Err OutOfTurns) s o k h = h
suited f quiet view (Err (Undefined point)) s o k h = h
suited f quiet view (Err (Met point unit at)) s o k h = h

-- of a part without calls
pub shown : {A B Q : Type 0} (f : Context) (quiet : Bool) (view : A → B) (r : Result A RunError) (s : State) (o : Outcome B)
    → ShowsAs view r s o → (Q → IsAnswered r) → ShowsPart f quiet view Q r s o
shown f quiet view (Ok x) s o h k = h
shown f quiet view (Err (Unanswered why)) s o h k = k
shown f quiet view (Err OutOfTurns) s o h k = h
shown f quiet view (Err (Undefined point)) s o h k = h
shown f quiet view (Err (Met point unit at)) s o h k = absurd h

-- an operation that leaves the state as it is
pub told : {A Q : Type 0} (f : Context) (quiet : Bool) (r : Result A RunError) (s : State) (g : Result A Point) → Tells r g
    → (Q → IsAnswered r) → ShowsPart f quiet (λ x. x) Q r s (given g s)
told f quiet (Ok x) s g h k = ap (λ z. given z s) h
told f quiet (Err (Unanswered why)) s g h k = k
told f quiet (Err OutOfTurns) s g h k = absurd h
told f quiet (Err (Undefined point)) s g h k = ap (λ z. given z s) h
told f quiet (Err (Met point unit at)) s g h k = absurd h

met_next : {A B : Type 0} (quiet : Bool) (point : Point) (s : State) (go : A → State → Outcome B)
    → next (met_in_call quiet point s) go ≡ met_in_call quiet point s
met_next false point s go = refl
met_next true point s go = refl

-- the error of a first part
stops : {A B P Q : Type 0} (f : Context) (quiet : Bool) (e : RunError) (s : State) (o : Outcome A) (go : A → State → Outcome B) → (Q → P)
    → StopsPart f quiet P e s o → StopsPart f quiet Q e s (next o go)
stops f quiet (Unanswered why) s o go k h = λ q. h (k q)
stops f quiet OutOfTurns s o go k h = ap (λ z. next z go) h
stops f quiet (Undefined point) s o go k h = ap (λ z. next z go) h
stops f quiet (Met point unit at) s o go k h = (ap (λ z. next z go) h.0 ∙ met_next quiet point s go, h.1)

pub stops_of : {A B Q : Type 0} (f : Context) (quiet : Bool) (view : A → B) (e : RunError) (s : State) (o : Outcome B)
    → ShowsAs view (Err e) s o → (Q → IsAnswered {A = A} (Err e)) → StopsPart f quiet Q e s o
stops_of f quiet view (Unanswered why) s o h k = k
stops_of f quiet view OutOfTurns s o h k = h
stops_of f quiet view (Undefined point) s o h k = h
stops_of f quiet view (Met point unit at) s o h k = absurd h

-- an answer that is this error
at_error : {X B : Type 0} (f : Context) (quiet : Bool) (Q : Type 0) (view : X → B) (r : Result X RunError) (e : RunError) (s : State)
    (o : Outcome B) → IsErrAnd r (λ y. y ≡ e) → StopsPart f quiet Q e s o → ShowsPart f quiet view Q r s o
at_error f quiet Q view (Ok x) e s o i h = absurd i
at_error f quiet Q view (Err y) e s o i h = subst (λ (z : RunError). StopsPart f quiet Q z s o) (sym i) h

-- and that is the error of a first part
pub passes : {X A B P Q : Type 0} (f : Context) (quiet : Bool) (view : X → B) (r : Result X RunError) (e : RunError) (s : State)
    (o : Outcome A) (go : A → State → Outcome B) → IsErrAnd r (λ y. y ≡ e) → (Q → P) → StopsPart f quiet P e s o
    → ShowsPart f quiet view Q r s (next o go)
passes {Q = Q} f quiet view r e s o go i k h =
    at_error f quiet Q view r e s (next o go) i (stops f quiet e s o go k h)

-- or of the first part of a first part
pub passes_second : {X A B C P Q : Type 0} (f : Context) (quiet : Bool) (view : X → B) (r : Result X RunError) (e : RunError) (s : State)
    (o : Outcome C) (go : C → State → Outcome A) (further : A → State → Outcome B) → IsErrAnd r (λ y. y ≡ e) → (Q → P)
    → StopsPart f quiet P e s o → ShowsPart f quiet view Q r s (next (next o go) further)
passes_second {P = P} {Q = Q} f quiet view r e s o go further i k h =
    at_error f quiet Q view r e s (next (next o go) further) i (stops {P = P} f quiet e s (next o go)
    further k (stops {P = P} {Q = P} f quiet e s o go (λ q. q) h))

-- or that memory ran out
pub full : {X B : Type 0} (f : Context) (quiet : Bool) (Q : Type 0) (view : X → B) (r : Result X RunError) (s : State) (o : Outcome B)
    → IsErrAnd r (λ y. y ≡ Unanswered Full) → ShowsPart f quiet view Q r s o
full f quiet Q view r s o i = at_error f quiet Q view r (Unanswered Full) s o i (λ q. tt)

-- ---- calls

-- a call of no function
pub not_called : (f : Context) (quiet : Bool) (calls : Calls) (g : ℕ) (xs : List Value) (s : State) → calls g xs s ≡ undefined Invalid s
    → (calls_by quiet calls g xs s ≡ met_in_call quiet Invalid s) × Placed f Invalid s 0 0
not_called f false calls g xs s e = (e, inl refl)
not_called f true calls g xs s e = (rw e refl, inl refl)

-- the run of a whole program
pub run_shown : (f : Context) (Q : Type 0) (calls : Calls) (g : ℕ) (xs : List Value) (s : State) (r : Result Value RunError) (t : State)
    → ((quiet : Bool) → ShowsPart f quiet (λ x. x) Q r t (calls_by quiet calls g xs s))
    → ShowsRun (setting_of f.program.now f.io.now f.inputs.now) f.turns r t (calls g xs s)
run_shown f Q calls g xs s (Ok x) t h = h false
run_shown f Q calls g xs s (Err (Unanswered why)) t h = tt
run_shown f Q calls g xs s (Err OutOfTurns) t h = h false
run_shown f Q calls g xs s (Err (Undefined point)) t h = absurd (not_hushed (hushed (calls g xs s)) (ap hushed (h false)) (h true))
  where
    not_hushed : (o : Outcome Value) → o ≡ more t → o ≡ undefined point t → ⊥
    not_hushed o e k = cc
run_shown f Q calls g xs s (Err (Met point unit at)) t h = h false

pub answered : {A B Q : Type 0} (f : Context) (quiet : Bool) (view : A → B) (r : Result A RunError) (s : State) (o : Outcome B)
    → ShowsPart f quiet view Q r s o → Q → IsAnswered r
answered f quiet view (Ok x) s o h q = tt
answered f quiet view (Err (Unanswered why)) s o h q = h q
answered f quiet view (Err OutOfTurns) s o h q = tt
answered f quiet view (Err (Undefined point)) s o h q = tt
answered f quiet view (Err (Met point unit at)) s o h q = tt
