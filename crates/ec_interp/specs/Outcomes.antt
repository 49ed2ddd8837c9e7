-- The outcome of a run, as an answer tells it.
use Rattle.std.specs.Prelude.{◌≡◌, ℕ, ⊤, map, Result, Ok, Err}
use Rattle.ec_core.specs.declared.values.Value.{Value}
use Rattle.ec_core.specs.Meaning.{number_of}
use Rattle.ec_core.specs.State.{Setting, State, Outcome, got, more, undefined}
use Rattle.ec_interp.specs.declared.behaviour.Behaviour.{Behaviour}
use Rattle.ec_interp.specs.declared.behaviour.Behaviour.TheVariants.{Ended, Running, MeetsUndefined}
use Rattle.ec_interp.specs.declared.state.RunError.{RunError}
use Rattle.ec_interp.specs.declared.state.RunError.TheVariants.{Unanswered, OutOfTurns, Undefined, Met}
use Rattle.ec_interp.specs.Places.{IsMetAt, IsPlaced}
use Rattle.ec_interp.specs.Views.{seen_event}

-- A behaviour tells an outcome: the events up to it, and the result of `main`, that a loop is out of turns, or the
-- undefined point that was met and where
abbrev pub TellsOutcome : Setting → ℕ → Behaviour → Outcome Value → Type 0
TellsOutcome w n (Ended events result) o =
    (x : Value) × (s : State) × (o ≡ got x s) × (s.events ≡ map seen_event events.items) × (result ≡ number_of x)
TellsOutcome w n (Running events) o = (s : State) × (o ≡ more s) × (s.events ≡ map seen_event events.items)
TellsOutcome w n (MeetsUndefined point unit at events) o =
    (s : State) × (o ≡ undefined point s) × (s.events ≡ map seen_event events.items) × IsPlaced w n point s unit at

-- and the point that it tells is met at the statement that it tells
abbrev pub TellsPlace : Setting → ℕ → Behaviour → Outcome Value → Type 0
TellsPlace w n (Ended events result) o = ⊤
TellsPlace w n (Running events) o = ⊤
TellsPlace w n (MeetsUndefined point unit at events) o =
    (s : State) × (o ≡ undefined point s) × IsMetAt w n point s unit at

-- the outcome that an answer with this state stands for, unless there is none
abbrev pub ShowsRun : Setting → ℕ → Result Value RunError → State → Outcome Value → Type 0
ShowsRun w n (Ok x) s o = o ≡ got x s
ShowsRun w n (Err (Unanswered why)) s o = ⊤
ShowsRun w n (Err OutOfTurns) s o = o ≡ more s
ShowsRun w n (Err (Undefined point)) s o = ⊥
ShowsRun w n (Err (Met point unit at)) s o = (o ≡ undefined point s) × IsPlaced w n point s unit at

-- a behaviour tells an answer with this state
abbrev pub TellsAnswer : Result Value RunError → State → Behaviour → Type 0
TellsAnswer (Ok x) s (Ended events result) = (s.events ≡ map seen_event events.items) × (result ≡ number_of x)
TellsAnswer (Err OutOfTurns) s (Running events) = s.events ≡ map seen_event events.items
TellsAnswer (Err (Met point unit at)) s (MeetsUndefined p u k events) =
    (p ≡ point) × (u ≡ unit) × (k ≡ at) × (s.events ≡ map seen_event events.items)
TellsAnswer r s b = ⊥
