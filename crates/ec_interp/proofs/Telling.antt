-- From the answer of a run to the outcome that it tells.
use Rattle.std.proofs.Common.{◌≡◌, ◌≢◌, ⊎_elim, ℕ, List, [], map, length, Result, Ok, Err, refl, ap, sym, ◌∙◌, subst}
use Rattle.std.proofs.lemmas.List.{length-map}
use Rattle.ec_iohw.specs.declared.table.IoTable.{IoTable}
use Rattle.ec_core.specs.declared.programs.Program.{Program}
use Rattle.ec_core.specs.declared.values.Undefined.TheVariants.{Invalid}
use Rattle.ec_core.specs.declared.values.Value.{Value}
use Rattle.ec_core.specs.Meaning.{behaviour_of, initial_state, run, state_of}
use Rattle.ec_core.specs.Plain.{plain_function, plain_program}
use Rattle.ec_core.specs.PortTable.{plain_table}
use Rattle.ec_core.specs.State.{Setting, State, Outcome, got, more, undefined}
use Rattle.ec_core.specs.Statements.{calls_within}
use Rattle.ec_runs.specs.Behaviours.{Ended as EndedWith, Running as RunningAt, Failed}
use Rattle.ec_interp.specs.declared.behaviour.Behaviour.{Behaviour}
use Rattle.ec_interp.specs.declared.behaviour.Behaviour.TheVariants.{Ended, Running, MeetsUndefined}
use Rattle.ec_interp.specs.declared.behaviour.PortInput.{PortInput}
use Rattle.ec_interp.specs.declared.state.RunError.{RunError}
use Rattle.ec_interp.specs.declared.state.RunError.TheVariants.{Unanswered, OutOfTurns, Undefined, Met}
use Rattle.ec_interp.specs.Outcomes.{TellsOutcome, TellsPlace, TellsAnswer, ShowsRun}
use Rattle.ec_interp.specs.Places.{IsPlaced}
use Rattle.ec_interp.specs.Views.{seen_behaviour, setting_of, inputs_of}

told : (w : Setting) (n : ℕ) (r : Result Value RunError) (s : State) (o : Outcome Value) (b : Behaviour) → TellsAnswer r s b
    → ShowsRun w n r s o → TellsOutcome w n b o × (state_of o ≡ s)
told w n (Ok x) s o (Ended events result) t h = ((x, s, h, t.0, t.1), ap state_of h)
told w n (Ok x) s o (Running events) t h = absurd t
told w n (Ok x) s o (MeetsUndefined p u k events) t h = absurd t
told w n (Err OutOfTurns) s o (Ended events result) t h = absurd t
told w n (Err OutOfTurns) s o (Running events) t h = ((s, h, t), ap state_of h)
told w n (Err OutOfTurns) s o (MeetsUndefined p u k events) t h = absurd t
told w n (Err (Met point unit at)) s o (Ended events result) t h = absurd t
told w n (Err (Met point unit at)) s o (Running events) t h = absurd t
told w n (Err (Met point unit at)) s o (MeetsUndefined p u k events) t h = (
  (
    s,
    h.0 ∙ ap (λ q. undefined q s) (sym t.0),
    t.3,
    subst (λ q. IsPlaced w n q s u k) (sym t.0) (subst (λ j. IsPlaced w n point s j k) (sym t.1)
        (subst (λ j. IsPlaced w n point s unit j) (sym t.2) h.1)),
  ),
  ap state_of h.0,
)
told w n (Err (Unanswered why)) s o b t h = absurd t
told w n (Err (Undefined point)) s o b t h = absurd h

run_is : (program : Program) (io : IoTable) (is : List PortInput) (turns depth : ℕ) (s : State) → depth ≡ length program.funcs.items
    → s ≡ initial_state (plain_program program) (plain_table io)
    → calls_within (setting_of program io is) turns depth program.main [] s
    ≡ run (plain_program program) (plain_table io) (inputs_of is) turns
run_is program io is turns depth s d e = rw (d, e, length-map program.funcs.items plain_function) refl

-- what an answer with a behaviour tells of the run of a program
pub interpreted : (program : Program) (io : IoTable) (is items : List PortInput) (turns depth : ℕ) (s0 : State) (r : Result Value RunError)
    (s : State) (b : Behaviour) → is ≡ items → depth ≡ length program.funcs.items
    → s0 ≡ initial_state (plain_program program) (plain_table io)
    → ShowsRun (setting_of program io is) turns r s (calls_within (setting_of program io is) turns depth program.main [] s0)
    → TellsAnswer r s b → TellsOutcome (setting_of program io items) turns b (run (plain_program program) (plain_table io) (inputs_of items)
    turns) × (state_of (run (plain_program program) (plain_table io) (inputs_of items) turns) ≡ s)
interpreted program io is items turns depth s0 r s b i d e h t =
    let here =
    subst (λ (o : Outcome Value). ShowsRun (setting_of program io is) turns r s o) (run_is program io is turns depth s0 d e) h in
    subst (λ (js : List PortInput). TellsOutcome (setting_of program io js) turns b (run (plain_program program) (plain_table io)
    (inputs_of js) turns) × (state_of (run (plain_program program) (plain_table io) (inputs_of js) turns) ≡ s)) i
    (told (setting_of program io is) turns r s (run (plain_program program) (plain_table io) (inputs_of is) turns) b t here)

-- the behaviour of an outcome
pub behaviour_told : (w : Setting) (n : ℕ) (b : Behaviour) (o : Outcome Value) → TellsOutcome w n b o → seen_behaviour b ≡ behaviour_of o
behaviour_told w n (Ended events result) o h =
    ap (λ es. EndedWith es result) (sym h.3) ∙ (ap (λ r. EndedWith (h.1).events r) h.4 ∙ sym (ap behaviour_of h.2))
behaviour_told w n (Running events) o h = ap RunningAt (sym h.2) ∙ sym (ap behaviour_of h.1)
behaviour_told w n (MeetsUndefined point unit at events) o h = sym (ap behaviour_of h.1)

-- and the place of a point that is met where no `Invalid` is
pub place_told : (w : Setting) (n : ℕ) (b : Behaviour) (o : Outcome Value) → TellsOutcome w n b o → behaviour_of o ≢ Failed Invalid
    → TellsPlace w n b o
place_told w n (Ended events result) o h never = tt
place_told w n (Running events) o h never = tt
place_told w n (MeetsUndefined point unit at events) o h never =
    (h.0, h.1, ⊎_elim (λ e. absurd (never (ap behaviour_of h.1 ∙ ap Failed e))) (λ z. z) h.3)
