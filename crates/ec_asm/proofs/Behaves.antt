-- What is noted of the machine's run is a run.
use Rattle.std.proofs.Common.{◌≡◌, ℕ, List, [], ◌∷◌, ◌++◌, refl, sym, ap, ◌∙◌, append_assoc, ℤ, Bool}
use Rattle.ec_runs.specs.Behaviours.{Behaviour, Running, Ended, IsRun, KeepsOrder, IsWithin, Reaches}
use Rattle.ec_avr.specs.declared.machine.Access.{Access}
use Rattle.ec_avr.specs.Machine.{State, Inputs, machine}
use Rattle.ec_avr.specs.Runs.{MachineFault, behaviour_of}
use Rattle.ec_avr.specs.Laws.{MachineIsRun}
use Rattle.ec_runs.proofs.Runs.{seen_runs_are_runs, what_reaches_stays_within}
use Rattle.std.specs.Int.{cast_signed, w16}
use Rattle.ec_asm.specs.View.{View, pair}
use Rattle.ec_asm.specs.Change.{Env}
use Rattle.ec_asm.specs.Shows.{noted, noted_all, GoesOn, Ends}
use Rattle.ec_asm.specs.Behaves.{noted_run}

noted-append : (e : Env) (a b : List Access) → noted_all e (a ++ b) ≡ noted_all e a ++ noted_all e b
noted-append e [] b = refl
noted-append e (x ∷ a) b =
    ap (λ l. noted e x ++ l) (noted-append e a b) ∙ sym (append_assoc (noted e x) (noted_all e a) (noted_all e b))

pub keeps_order : (e : Env) → KeepsOrder (noted_all e)
keeps_order e es fs h = record { added = noted_all e h.added; is = ap (noted_all e) h.is ∙ noted-append e es h.added }

pub noted_is_run : MachineIsRun → (e : Env) (inputs : Inputs) (s : State) → IsRun (noted_run e inputs s)
noted_is_run is_run e inputs s =
    seen_runs_are_runs Access Access ℤ MachineFault (noted_all e) (keeps_order e) (λ m. behaviour_of (machine m inputs s)) (is_run inputs s)

-- the second direction: what the machine does stays within what the upper level does
pub stays_within : {F : Type 0} → MachineIsRun
    → (e : Env) (inputs : Inputs) (s : State) (allowed : ℕ → ℕ → Bool) (upper : ℕ → Behaviour Access ℤ F)
    → Reaches allowed upper (noted_run e inputs s) → (m : ℕ) → IsWithin (upper m) (noted_run e inputs s m)
stays_within {F} is_run e inputs s allowed upper r =
    what_reaches_stays_within Access ℤ F MachineFault allowed upper (noted_run e inputs s) (noted_is_run is_run e inputs s) r

-- a run of the view tells what is noted of the machine's
pub goes_on_noted : (e : Env) (size m : ℕ) (v : View) (s : State) (pc : ℕ) (w : View) → v.seen ≡ []
    → GoesOn e size m v s pc w → noted_run e v.inputs s m ≡ Running w.seen
goes_on_noted e size m v s pc w p g = rw (g.ran, g.seen, p) refl

pub ends_noted : (e : Env) (size m : ℕ) (v : View) (s : State) (w : View) → v.seen ≡ [] → Ends e size m v s w
    → noted_run e v.inputs s m ≡ Ended w.seen (cast_signed w16 (pair w.at 24))
ends_noted e size m v s w p g = rw (g.ran, g.seen, p) refl
