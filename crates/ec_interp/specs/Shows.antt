-- What the interpreter's answers say.
use Rattle.std.specs.Prelude.{◌≡◌, ⊤, Result, Ok, Err}
use Rattle.ec_core.specs.declared.values.Undefined.{Undefined as Point}
use Rattle.ec_core.specs.State.{State, Outcome, got, more, undefined}
use Rattle.ec_space.specs.declared.seq.NoMemory.{NoMemory}
use Rattle.ec_interp.specs.declared.state.RunError.{RunError}
use Rattle.ec_interp.specs.declared.state.RunError.TheVariants.{Unanswered, OutOfTurns, Undefined, Met}

-- The answer and the state then are those of an outcome, unless there is no answer. The first argument says which value
-- an answer stands for
abbrev pub ShowsAs : {A B : Type 0} → (A → B) → Result A RunError → State → Outcome B → Type 0
ShowsAs view (Ok x) s o = o ≡ got (view x) s
ShowsAs view (Err (Unanswered why)) s o = ⊤
ShowsAs view (Err OutOfTurns) s o = o ≡ more s
ShowsAs view (Err (Undefined point)) s o = o ≡ undefined point s
ShowsAs view (Err (Met point unit at)) s o = ⊥

abbrev pub Shows : {A : Type 0} → Result A RunError → State → Outcome A → Type 0
Shows result s o = ShowsAs (λ x. x) result s o

-- the same, of a part that only running out of memory stops
abbrev pub ShowsMemory : {A : Type 0} → Result A NoMemory → State → Outcome A → Type 0
ShowsMemory (Ok x) s o = o ≡ got x s
ShowsMemory (Err full) s o = ⊤

-- the answer is that of an operation, unless there is none
abbrev pub Tells : {A : Type 0} → Result A RunError → Result A Point → Type 0
Tells (Ok x) r = r ≡ Ok x
Tells (Err (Unanswered why)) r = ⊤
Tells (Err OutOfTurns) r = ⊥
Tells (Err (Undefined point)) r = r ≡ Err point
Tells (Err (Met point unit at)) r = ⊥
