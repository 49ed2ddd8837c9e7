-- What the interpreter's functions do of the parts of a program, where calls nest at most so deep.
use Rattle.std.specs.Prelude.{◌≡◌, ◌⊎◌, ℕ, Bool, true, false, List, Option, Some, None, Result, Ok, Err}
use Rattle.ec_fx.specs.declared.numbers.Mode.{Mode}
use Rattle.ec_space.specs.Listed.{Listed}
use Rattle.ec_core.specs.declared.statements.Stmt.{Stmt}
use Rattle.ec_core.specs.declared.values.Undefined.{Undefined as Point}
use Rattle.ec_core.specs.declared.values.Value.{Value}
use Rattle.ec_core.specs.Expressions.{Calls, value_of, node_value, condition, place_of, option_value, values_of}
use Rattle.ec_core.specs.Plain.{PlainType, void, PlainExpr, PlainNode, PlainPlace, OptionPlainExpr, PlainExprs}
use Rattle.ec_core.specs.Plain.{PlainStmt, statement, PlainKind, for_loop, OptionPlainStmt, no_stmt, a_stmt, PlainStmts}
use Rattle.ec_core.specs.Plain.{PlainFunction, plain_stmt, plain_program}
use Rattle.ec_core.specs.Pointers.{Pointer}
use Rattle.ec_core.specs.State.{Setting, State, worked, Outcome, got, more, undefined}
use Rattle.ec_core.specs.Statements.{test_of, evaluated, returned, initialising, effect_of, kind_effect, effects_of}
use Rattle.ec_core.specs.Statements.{first_effect, tested, turns, going_on, call_of, calls_within}
use Rattle.ec_core.specs.ValueTypes.{IsTypedState}
use Rattle.ec_core.specs.Words.{return_of}
use Rattle.ec_interp.specs.declared.state.Context.{Context}
use Rattle.ec_interp.specs.declared.state.Exit.{Exit}
use Rattle.ec_interp.specs.declared.state.RunError.{RunError}
use Rattle.ec_interp.specs.declared.state.RunError.TheVariants.{Unanswered, OutOfTurns, Undefined, Met}
use Rattle.ec_interp.specs.Loops.{loop_after_first}
use Rattle.ec_interp.specs.Places.{calls_by, met_in_call, LoopMeets, Meets, MeetsAt, SomeIn, SomeInside, SomeAmong}
use Rattle.ec_interp.specs.Places.{MetInFunction, IsPlaced}
use Rattle.ec_interp.specs.Suits.{IsMemory, IsGiven, AreArgumentsOf, IsCalled}
use Rattle.ec_interp.specs.Suits.{RunsExpr, RunsNode, RunsPlace, RunsOption, RunsExprs, RunsOptional, RunsCondition}
use Rattle.ec_interp.specs.Suits.{RunsLeaves, RunsStmt, RunsStmts, RunsTest, RunsLoop}
use Rattle.ec_interp.specs.Views.{setting_of, seen_exit}

-- An error shows the outcome; that there is no answer has, where the part suits, no other reason than memory
abbrev pub Stops : {B : Type 0} → Type 0 → RunError → State → Outcome B → Type 0
Stops Suits (Unanswered why) s o = Suits → IsMemory why
Stops Suits OutOfTurns s o = o ≡ more s
Stops Suits (Undefined point) s o = o ≡ undefined point s
Stops Suits (Met point unit at) s o = ⊥

-- The answer and the state then are those of an outcome, unless there is no answer; where the part suits, only running
-- out of memory keeps it from one. The first argument says which value an answer stands for
abbrev pub ShowsWhere : {A B : Type 0} → (A → B) → Type 0 → Result A RunError → State → Outcome B → Type 0
ShowsWhere view Suits (Ok x) s o = o ≡ got (view x) s
ShowsWhere view Suits (Err e) s o = Stops Suits e s o

module _ (f : Context) where
  -- what is met in a called function has its place there
  abbrev pub Placed : Point → State → ℕ → ℕ → Type 0
  Placed point s unit at = IsPlaced (setting_of f.program.now f.io.now f.inputs.now) f.turns point s unit at

  -- So of a part with calls in it, as they are or quiet: a point that the part meets itself has no place yet, and one
  -- that a call meets has
  abbrev pub StopsPart : {B : Type 0} → Bool → Type 0 → RunError → State → Outcome B → Type 0
  StopsPart quiet Suits (Unanswered why) s o = Suits → IsMemory why
  StopsPart quiet Suits OutOfTurns s o = o ≡ more s
  StopsPart quiet Suits (Undefined point) s o = o ≡ undefined point s
  StopsPart quiet Suits (Met point unit at) s o = (o ≡ met_in_call quiet point s) × Placed point s unit at

  abbrev pub ShowsPart : {A B : Type 0} → Bool → (A → B) → Type 0 → Result A RunError → State → Outcome B → Type 0
  ShowsPart quiet view Suits (Ok x) s o = o ≡ got (view x) s
  ShowsPart quiet view Suits (Err e) s o = StopsPart quiet Suits e s o

  -- So of statements: which of their own parts meets a point that has no place yet, and in which statement of theirs
  -- one has its place that no call meets
  abbrev pub StopsAt : {B : Type 0} → (Point → State → Type 0) → (Point → State → ℕ → ℕ → Type 0) → Type 0 → RunError
      → State → Outcome B → Type 0
  StopsAt Own Within Suits (Unanswered why) s o = Suits → IsMemory why
  StopsAt Own Within Suits OutOfTurns s o = o ≡ more s
  StopsAt Own Within Suits (Undefined point) s o = (o ≡ undefined point s) × Own point s
  StopsAt Own Within Suits (Met point unit at) s o =
      (o ≡ undefined point s) × (Within point s unit at ⊎ Placed point s unit at)

  abbrev pub ShowsAt : {A B : Type 0} → (Point → State → Type 0) → (Point → State → ℕ → ℕ → Type 0) → (A → B) → Type 0
      → Result A RunError → State → Outcome B → Type 0
  ShowsAt Own Within view Suits (Ok x) s o = o ≡ got (view x) s
  ShowsAt Own Within view Suits (Err e) s o = StopsAt Own Within Suits e s o

-- none
abbrev pub Nothing : Point → State → Type 0
Nothing point s = ⊥

-- a statement that may be absent
abbrev pub plain_other : Option Stmt → OptionPlainStmt
plain_other None = no_stmt
plain_other (Some a) = a_stmt (plain_stmt a)

-- a call that a run comes to, by the function's number, and by the function
pub record RunsCall (f : Context) (s : State) (g : ℕ) (xs : List Value) : Type 0 where
  pub given : IsGiven f
  pub typed : IsTypedState (plain_program f.program.now) s
  pub arguments : AreArgumentsOf f g xs

pub record RunsCalled (f : Context) (s : State) (g : ℕ) (function : PlainFunction) (xs : List Value) : Type 0 where
  pub given : IsGiven f
  pub typed : IsTypedState (plain_program f.program.now) s
  pub called : IsCalled f g function xs

module _ (f : Context) (depth : ℕ) where
  abbrev w : Setting
  w = setting_of f.program.now f.io.now f.inputs.now

  abbrev calls : Bool → Calls
  calls quiet = calls_by quiet (calls_within w f.turns depth)

  -- the statement of a tree, of statements and of a kind where a point is met
  abbrev pub WithinStmt : PlainStmt → Point → State → ℕ → ℕ → Type 0
  WithinStmt a point s unit at = SomeIn (MeetsAt w f.turns point s unit at) a

  abbrev pub WithinStmts : PlainStmts → Point → State → ℕ → ℕ → Type 0
  WithinStmts ss point s unit at = SomeAmong (MeetsAt w f.turns point s unit at) ss

  abbrev pub WithinKind : PlainKind → Point → State → ℕ → ℕ → Type 0
  WithinKind kind point s unit at = SomeInside (MeetsAt w f.turns point s unit at) kind

  -- the conditions and the last part of a loop
  abbrev pub OwnOfLoop : Option PlainExpr → Option PlainExpr → Point → State → Type 0
  OwnOfLoop c last point t =
      (d : ℕ) × (s : State) × LoopMeets w f.turns (calls_by true (calls_within w f.turns d)) c last point s t

  -- ---- expressions

  abbrev pub DoesExpr : PlainExpr → Result Value RunError → State → State → Type 0
  DoesExpr e result s t =
      (quiet : Bool) → ShowsPart f quiet (λ x. x) (RunsExpr f s e) result t (value_of w (calls quiet) e s)

  abbrev pub DoesNode : PlainType → Mode → PlainNode → Result Value RunError → State → State → Type 0
  DoesNode ty mode node result s t =
      (quiet : Bool) → ShowsPart f quiet (λ x. x) (RunsNode f s ty node) result t (node_value w (calls quiet) ty mode node s)

  -- a node in which the mode plays no part
  abbrev pub DoesModeless : PlainType → PlainNode → Result Value RunError → State → State → Type 0
  DoesModeless ty node result s t = DoesNode ty (record { saturate = false }) node result s t

  -- a node in which neither its type nor the mode plays a part
  abbrev pub DoesTypeless : PlainNode → Result Value RunError → State → State → Type 0
  DoesTypeless node result s t =
      (quiet : Bool) → ShowsPart f quiet (λ x. x) ((ty : PlainType) × RunsNode f s ty node) result t
      (node_value w (calls quiet) void (record { saturate = false }) node s)

  -- what an expression tells as a condition
  abbrev pub DoesCondition : PlainExpr → Result Bool RunError → State → State → Type 0
  DoesCondition e result s t =
      (quiet : Bool) → ShowsPart f quiet (λ b. b) (RunsExpr f s e) result t (condition w e (value_of w (calls quiet) e s))

  abbrev pub DoesPlace : PlainPlace → Result Pointer RunError → State → State → Type 0
  DoesPlace p result s t =
      (quiet : Bool) → ShowsPart f quiet (λ to. to) (RunsPlace f s p) result t (place_of w (calls quiet) p s)

  abbrev pub DoesOption : OptionPlainExpr → Result Value RunError → State → State → Type 0
  DoesOption e result s t =
      (quiet : Bool) → ShowsPart f quiet (λ x. x) (RunsOption f s e) result t (option_value w (calls quiet) e s)

  abbrev pub DoesExprs : PlainExprs → Result (Listed Value) RunError → State → State → Type 0
  DoesExprs es result s t =
      (quiet : Bool) → ShowsPart f quiet (λ xs. xs.items) (RunsExprs f s es) result t (values_of w (calls quiet) es s)

  -- ---- statements

  abbrev pub DoesTest : Option PlainExpr → Result Bool RunError → State → State → Type 0
  DoesTest c result s t =
      (quiet : Bool) → ShowsPart f quiet (λ b. b) (RunsCondition f s c) result t (test_of w (calls quiet) c s)

  abbrev pub DoesOptional : Option PlainExpr → Result Exit RunError → State → State → Type 0
  DoesOptional e result s t =
      (quiet : Bool) → ShowsPart f quiet seen_exit (RunsOptional f s e) result t (evaluated w (calls quiet) e s)

  -- a return, with its own work
  abbrev pub DoesReturn : Option PlainExpr → Result Exit RunError → State → State → Type 0
  DoesReturn e result s t =
      (quiet : Bool) → ShowsPart f quiet seen_exit (RunsOptional f s e) result t (returned w (calls quiet) e (worked (return_of e) s))

  -- the leaves of an object, from the first on
  abbrev pub DoesLeaves : ℕ → PlainExprs → Result Exit RunError → State → State → Type 0
  DoesLeaves o values result s t =
      (quiet : Bool) → ShowsPart f quiet seen_exit (RunsLeaves f s o 0 values) result t (initialising w (calls quiet) o 0 values s)

  abbrev pub DoesStmt : PlainStmt → Result Exit RunError → State → State → Type 0
  DoesStmt a result s t =
      ShowsAt f Nothing (WithinStmt a) seen_exit (RunsStmt f s a) result t (effect_of w (calls false) f.turns a s)

  -- a statement that stands anywhere
  abbrev pub DoesKind : PlainKind → Result Exit RunError → State → State → Type 0
  DoesKind kind result s t =
      ShowsAt f (Meets w f.turns kind) (WithinKind kind) seen_exit (RunsStmt f s (statement 0 0 kind)) result t
      (kind_effect w (calls false) f.turns kind s)

  abbrev pub DoesStmts : PlainStmts → Result Exit RunError → State → State → Type 0
  DoesStmts all result s t =
      ShowsAt f Nothing (WithinStmts all) seen_exit (RunsStmts f s all) result t (effects_of w (calls false) f.turns all s)

  -- the first part of a `for`
  abbrev pub DoesFirst : PlainStmt → Result Exit RunError → State → State → Type 0
  DoesFirst a result s t =
      ShowsAt f Nothing (WithinStmt a) seen_exit (RunsStmt f s a) result t (first_effect w (calls false) f.turns (a_stmt a) s)

  -- ---- loops, of a condition, a last part and a body

  -- the last part and the condition
  abbrev pub DoesNext : Option PlainExpr → Option PlainExpr → Result Bool RunError → State → State → Type 0
  DoesNext c last result s t =
      (quiet : Bool) → ShowsPart f quiet (λ b. b) (RunsTest f s c last) result t (going_on w (calls quiet) last c s)

  -- the turns
  abbrev pub DoesTurns : Option PlainExpr → Option PlainExpr → PlainStmt → Result Exit RunError → State → State
      → Type 0
  DoesTurns c last body result s t =
      ShowsAt f (OwnOfLoop c last) (WithinStmt body) seen_exit (RunsLoop f s c last body) result t
      (turns f.turns (λ s2. effect_of w (calls false) f.turns body s2) (λ s2. going_on w (calls false) last c s2) s)

  -- a first test, and the turns
  abbrev pub DoesTested : Option PlainExpr → Option PlainExpr → PlainStmt → Result Exit RunError → State → State
      → Type 0
  DoesTested c last body result s t =
      ShowsAt f (OwnOfLoop c last) (WithinStmt body) seen_exit (RunsLoop f s c last body) result t
      (tested (test_of w (calls false) c s) (λ s2. turns f.turns (λ s3. effect_of w (calls false) f.turns body s3)
      (λ s3. going_on w (calls false) last c s3) s2))

  -- the first part of a `for`, a first test, and the turns
  abbrev pub DoesFirstAndLoop : PlainStmt → Option PlainExpr → Option PlainExpr → PlainStmt → Result Exit RunError
      → State → State → Type 0
  DoesFirstAndLoop first c last body result s t =
      ShowsAt f (OwnOfLoop c last) (WithinKind (for_loop (a_stmt first) c last body)) seen_exit
      (RunsStmt f s first × RunsLoop f s c last body) result t
      (loop_after_first w (calls false) f.turns first c last body s)

  -- ---- calls

  abbrev pub DoesCall : ℕ → List Value → Result Value RunError → State → State → Type 0
  DoesCall g xs result s t =
      (quiet : Bool) → ShowsPart f quiet (λ x. x) (RunsCall f s g xs) result t (calls quiet g xs s)

  -- a call of a function within which calls nest so deep
  abbrev pub DoesEntered : ℕ → PlainFunction → List Value → Result Value RunError → State → State → Type 0
  DoesEntered g called xs result s t =
      ShowsAt f Nothing (MetInFunction w f.turns g called) (λ x. x) (RunsCalled f s g called xs) result t
      (call_of w (calls false) f.turns g (Some called) xs s)
