-- Where an undefined point is met: at the innermost statement under execution. A condition is a part of its `if` or its
-- loop, an initialiser one of its declaration, and what a called function meets is met in that function.
use Rattle.std.specs.Prelude.{◌≡◌, ◌==◌, ◌⊎◌, ℕ, Bool, true, false, List, Option, Some, None, slice_get}
use Rattle.ec_core.specs.declared.values.Undefined.{Undefined as Point}
use Rattle.ec_core.specs.declared.values.Undefined.TheVariants.{Invalid}
use Rattle.ec_core.specs.declared.values.Value.{Value}
use Rattle.ec_core.specs.Accesses.{frame_ended}
use Rattle.ec_core.specs.Expressions.{Calls}
use Rattle.ec_core.specs.Plain.{PlainExpr, PlainStmt, statement, PlainKind, empty, evaluate, block, declare, branch}
use Rattle.ec_core.specs.Plain.{while_loop, do_loop, for_loop, break_loop, continue_loop, return_value, OptionPlainStmt}
use Rattle.ec_core.specs.Plain.{no_stmt, a_stmt, PlainStmts, last_stmt, next_stmt, PlainFunction}
use Rattle.ec_core.specs.State.{Setting, State, Outcome, got, more, undefined}
use Rattle.ec_core.specs.Statements.{Exit, test_of, evaluated, returned, initialising, going_on, effect_of}
use Rattle.ec_core.specs.Statements.{parameters_written, call_result, calls_within}
use Rattle.ec_interp.specs.declared.state.RunError.{RunError}
use Rattle.ec_interp.specs.declared.state.RunError.TheVariants.{Unanswered, OutOfTurns, Undefined, Met}

-- ---- calls of which none meets a point

-- a call in which a point is met counts as one that goes on
abbrev pub hushed : {A : Type 0} → Outcome A → Outcome A
hushed (got x s) = got x s
hushed (more s) = more s
hushed (undefined point s) = more s

-- calls as they are, or quiet
abbrev pub calls_by : Bool → Calls → Calls
calls_by false calls = calls
calls_by true calls = λ f xs s. hushed (calls f xs s)

-- what comes of a part where a call in it meets a point
abbrev pub met_in_call : {A : Type 0} → Bool → Point → State → Outcome A
met_in_call false point s = undefined point s
met_in_call true point s = more s

-- ---- statements of a tree

-- some statement of a tree, the tree itself too
module _ (Has : PlainStmt → Type 0) where
  abbrev mutual
    pub SomeIn : PlainStmt → Type 0
    SomeIn (statement unit at kind) = Has (statement unit at kind) ⊎ SomeInside kind

    pub SomeInside : PlainKind → Type 0
    SomeInside empty = ⊥
    SomeInside (evaluate e) = ⊥
    SomeInside (block ss) = SomeAmong ss
    SomeInside (declare o values) = ⊥
    SomeInside (branch c a b) = SomeIn a ⊎ SomeInOption b
    SomeInside (while_loop c body) = SomeIn body
    SomeInside (do_loop body c) = SomeIn body
    SomeInside (for_loop first c last body) = SomeInOption first ⊎ SomeIn body
    SomeInside break_loop = ⊥
    SomeInside continue_loop = ⊥
    SomeInside (return_value e) = ⊥

    pub SomeInOption : OptionPlainStmt → Type 0
    SomeInOption no_stmt = ⊥
    SomeInOption (a_stmt a) = SomeIn a

    pub SomeAmong : PlainStmts → Type 0
    SomeAmong last_stmt = ⊥
    SomeAmong (next_stmt a ss) = SomeIn a ⊎ SomeAmong ss

-- the unit and the first token of a statement
abbrev pub StandsAt : ℕ → ℕ → PlainStmt → Type 0
StandsAt unit at (statement u k kind) = (u ≡ unit) × (k ≡ at)

-- ---- what meets a point

module _ (w : Setting) (n : ℕ) where
  -- the conditions and the last part of a loop
  abbrev pub LoopMeets : Calls → Option PlainExpr → Option PlainExpr → Point → State → State → Type 0
  LoopMeets calls c last point s t =
      (test_of w calls c s ≡ undefined point t) ⊎ (going_on w calls last c s ≡ undefined point t)

  -- what a statement does itself, without the statements in it, leads from a state to a point and a state there
  abbrev pub PartMeets : Calls → PlainKind → Point → State → State → Type 0
  PartMeets calls empty point s t = ⊥
  PartMeets calls (evaluate e) point s t = evaluated w calls (Some e) s ≡ undefined point t
  PartMeets calls (block ss) point s t = ⊥
  PartMeets calls (declare o values) point s t = initialising w calls o 0 values s ≡ undefined point t
  PartMeets calls (branch c a b) point s t = test_of w calls (Some c) s ≡ undefined point t
  PartMeets calls (while_loop c body) point s t = LoopMeets calls (Some c) None point s t
  PartMeets calls (do_loop body c) point s t = LoopMeets calls (Some c) None point s t
  PartMeets calls (for_loop first c last body) point s t = LoopMeets calls c last point s t
  PartMeets calls break_loop point s t = ⊥
  PartMeets calls continue_loop point s t = ⊥
  PartMeets calls (return_value e) point s t = returned w calls e s ≡ undefined point t

  -- so it is where no call in it meets a point
  abbrev pub Meets : PlainKind → Point → State → Type 0
  Meets kind point t = (depth : ℕ) × (s : State) × PartMeets (calls_by true (calls_within w n depth)) kind point s t

  abbrev pub MeetsAt : Point → State → ℕ → ℕ → PlainStmt → Type 0
  MeetsAt point t unit at (statement u k kind) = StandsAt unit at (statement u k kind) × Meets kind point t

  -- the body of a function was left, and there is no result, or its parameters have no arguments
  abbrev pub LeftWithout : ℕ → PlainFunction → Point → State → Type 0
  LeftWithout f g point t =
      ((xs : List Value) × (s : State) × (parameters_written w g.params xs s ≡ undefined point t))
      ⊎ ((depth : ℕ) × (x : Exit) × (s s1 : State) × (effect_of w (calls_within w n depth) n g.body s ≡ got x s1)
      × (call_result g.returns (f == w.program.main) x (frame_ended w.program f s1) ≡ undefined point t))

  -- a statement of a function, or, where its end was reached, its body
  abbrev pub MetInFunction : ℕ → PlainFunction → Point → State → ℕ → ℕ → Type 0
  MetInFunction f g point t unit at =
      SomeIn (MeetsAt point t unit at) g.body ⊎ (StandsAt unit at g.body × LeftWithout f g point t)

  -- A point is met, with this state there, at the statement of the program with this unit and first token
  pub record IsMetAt (point : Point) (t : State) (unit at : ℕ) : Type 0 where
    pub number : ℕ
    pub function : PlainFunction
    pub defined : slice_get w.program.functions number ≡ Some function
    pub met : MetInFunction number function point t unit at

  -- the same, but that nothing is said of what no valid program meets
  abbrev pub IsPlaced : Point → State → ℕ → ℕ → Type 0
  IsPlaced point t unit at = (point ≡ Invalid) ⊎ IsMetAt point t unit at

-- the error of a part, at a statement: a point that has no place yet is met there
abbrev pub placed : ℕ → ℕ → RunError → RunError
placed unit at (Unanswered why) = Unanswered why
placed unit at OutOfTurns = OutOfTurns
placed unit at (Undefined point) = Met point unit at
placed unit at (Met point u k) = Met point u k
