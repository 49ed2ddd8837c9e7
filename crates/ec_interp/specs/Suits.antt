-- When the interpreter has an answer: where a program keeps the rules of types, only running out of memory keeps it
-- from one.
use Rattle.std.specs.Prelude.{⊤, ◌≡◌, ◌⊎◌, drop, IsSomeAnd, true, Some}
use Rattle.std.specs.Prelude.{slice_get, ℕ, ◌^◌, ℤ, pos, neg_ℤ, ◌≤ℤ◌, Bool}
use Rattle.std.specs.Prelude.{List, Option, Result, Ok, Err}
use Rattle.ec_core.specs.declared.values.Value.{Value}
use Rattle.ec_core.specs.declared.values.Value.TheVariants.{Number, Pointer}
use Rattle.ec_core.specs.ArithmeticValues.{HoldsNumber}
use Rattle.ec_core.specs.Layout.{leaves_of_type}
use Rattle.ec_core.specs.Operators.{number_type}
use Rattle.ec_core.specs.Plain.{PlainType, PlainExpr, PlainNode, PlainPlace, OptionPlainExpr, PlainExprs, last_expr}
use Rattle.ec_core.specs.Plain.{PlainStmt, PlainStmts, PlainObject, PlainFunction, PlainProgram, plain_program}
use Rattle.ec_core.specs.State.{State}
use Rattle.ec_core.specs.Typing.{IsTyped}
use Rattle.ec_core.specs.Valid.{Valid, IsExprType, ValidExpr, ValidParts, ValidPlace, ValidOption, ValidExprs}
use Rattle.ec_core.specs.Valid.{ValidOptional, ValidCondition, AreLeafValues, ValidStmt, ValidStmts}
use Rattle.ec_core.specs.ValueTypes.{HasType, IsTypedState, GiveBytes, AreArgumentValues}
use Rattle.ec_interp.specs.declared.behaviour.Unanswered.{Unanswered as Reason}
use Rattle.ec_interp.specs.declared.behaviour.Unanswered.TheVariants.{NoMemory, Unsuited}
use Rattle.ec_interp.specs.declared.state.Context.{Context}
use Rattle.ec_interp.specs.declared.state.RunError.{RunError}
use Rattle.ec_interp.specs.declared.state.RunError.TheVariants.{Unanswered, OutOfTurns, Undefined, Met}
use Rattle.ec_interp.specs.Views.{inputs_of}

-- ---- answers

-- the reason is that it ran out of memory
abbrev pub IsMemory : Reason → Type 0
IsMemory NoMemory = ⊤
IsMemory Unsuited = ⊥

-- an answer, but for running out of memory
abbrev pub IsAnswered : {A : Type 0} → Result A RunError → Type 0
IsAnswered (Ok x) = ⊤
IsAnswered (Err (Unanswered why)) = IsMemory why
IsAnswered (Err OutOfTurns) = ⊤
IsAnswered (Err (Undefined point)) = ⊤
IsAnswered (Err (Met point unit at)) = ⊤

-- ---- programs and their parts

-- a valid program, and ports that give bytes
pub record IsGiven (f : Context) : Type 0 where
  pub valid : Valid (plain_program f.program.now) f.io.now
  pub bytes : GiveBytes (inputs_of f.inputs.now)

-- a typed state, and a part of the body of some function, by whose number the part keeps the rules
pub record Runs (f : Context) (s : State) (Keeps : ℕ → Type 0) : Type 0 where
  pub given : IsGiven f
  pub typed : IsTypedState (plain_program f.program.now) s
  pub function : ℕ
  pub keeps : Keeps function

module _ (f : Context) where
  abbrev program : PlainProgram
  program = plain_program f.program.now

  abbrev pub RunsExpr : State → PlainExpr → Type 0
  RunsExpr s e = Runs f s (λ g. ValidExpr program f.io.now g e)

  pub record RunsNode (s : State) (ty : PlainType) (node : PlainNode) : Type 0 where
    pub given : IsGiven f
    pub typed : IsTypedState program s
    pub function : ℕ
    pub known : IsExprType program ty
    pub types : IsTyped program f.io.now ty node
    pub parts : ValidParts program f.io.now function node

  abbrev pub RunsPlace : State → PlainPlace → Type 0
  RunsPlace s p = Runs f s (λ g. ValidPlace program f.io.now g p)

  abbrev pub RunsOption : State → OptionPlainExpr → Type 0
  RunsOption s e = Runs f s (λ g. ValidOption program f.io.now g e)

  abbrev pub RunsExprs : State → PlainExprs → Type 0
  RunsExprs s es = Runs f s (λ g. ValidExprs program f.io.now g es)

  abbrev pub RunsOptional : State → Option PlainExpr → Type 0
  RunsOptional s e = Runs f s (λ g. ValidOptional program f.io.now g e)

  abbrev pub RunsCondition : State → Option PlainExpr → Type 0
  RunsCondition s c = Runs f s (λ g. ValidCondition program f.io.now g c)

  -- a statement of a function with some result, in a loop or not
  pub record RunsStmt (s : State) (a : PlainStmt) : Type 0 where
    pub given : IsGiven f
    pub typed : IsTypedState program s
    pub function : ℕ
    pub returns : PlainType
    pub in_loop : Bool
    pub valid : ValidStmt program f.io.now function returns in_loop a

  pub record RunsStmts (s : State) (all : PlainStmts) : Type 0 where
    pub given : IsGiven f
    pub typed : IsTypedState program s
    pub function : ℕ
    pub returns : PlainType
    pub in_loop : Bool
    pub valid : ValidStmts program f.io.now function returns in_loop all

  -- the values of a declared object's leaves from number k on, one for each, or none at all
  abbrev pub AreLeft : ℕ → ℕ → PlainExprs → ℕ → Type 0
  AreLeft o k es g =
      (d : PlainObject) × (slice_get program.objects o ≡ Some d)
      × ((es ≡ last_expr) ⊎ AreLeafValues program f.io.now g (drop k (leaves_of_type program.structs d.ty)) es)
      × ValidExprs program f.io.now g es

  abbrev pub RunsLeaves : State → ℕ → ℕ → PlainExprs → Type 0
  RunsLeaves s o k es = Runs f s (AreLeft o k es)

  -- what leads to the next turn of a loop: its last part and its test
  pub record RunsTest (s : State) (c last : Option PlainExpr) : Type 0 where
    pub given : IsGiven f
    pub typed : IsTypedState program s
    pub function : ℕ
    pub tested : ValidCondition program f.io.now function c
    pub done : ValidOptional program f.io.now function last

  pub record RunsLoop (s : State) (c last : Option PlainExpr) (body : PlainStmt) : Type 0 where
    pub test : RunsTest s c last
    pub returns : PlainType
    pub turn : ValidStmt program f.io.now test.function returns true body

  -- a function with these arguments, which have the types of its parameters
  abbrev pub IsCalled : ℕ → PlainFunction → List Value → Type 0
  IsCalled g function xs =
      (slice_get program.functions g ≡ Some function) × AreArgumentValues program function.params xs

  abbrev pub AreArgumentsOf : ℕ → List Value → Type 0
  AreArgumentsOf g xs =
      IsSomeAnd (slice_get program.functions g) (λ function. AreArgumentValues program function.params xs)

  -- an operand of an expression's type
  pub record IsOperand (ty : PlainType) (x : Value) : Type 0 where
    pub known : IsExprType program ty
    pub typed : HasType program ty x

-- a number of elements, or its opposite, whose distance in bytes can be computed
pub record IsNear (n : ℤ) : Type 0 where
  pub low : neg_ℤ (pos (2 ^ 40)) ≤ℤ n
  pub high : n ≤ℤ pos (2 ^ 40)

-- a number that the type holds, if it is one
abbrev pub IsNumberOf : PlainType → Value → Type 0
IsNumberOf ty (Number n) = HoldsNumber (number_type ty) n
IsNumberOf ty (Pointer p) = ⊤
