-- A valid program never meets what no valid program has, and its calls nest no deeper than it has functions.
use Rattle.std.proofs.Common.{◌≡◌, ◌≢◌, ◌⊎◌, ◌+◌, ◌*◌, ◌≤◌, ℕ, zero, suc, Bool, List, [], length, refl, sym, ap, ◌∙◌, subst, inl, inr}
use Rattle.std.proofs.Common.{⊎_elim, arith}
use Rattle.std.specs.Prelude.{⊤, slice_get}
use Rattle.ec_iohw.specs.declared.table.IoTable.{IoTable}
use Rattle.ec_runs.specs.Behaviours.{Failed}
use Rattle.ec_core.specs.declared.values.Undefined.{Undefined}
use Rattle.ec_core.specs.declared.values.Undefined.TheVariants.{Invalid}
use Rattle.ec_core.specs.declared.values.Value.{Value}
use Rattle.ec_core.specs.Depth.{InvalidIsNeverMet, CallsNestNoDeeper}
use Rattle.ec_core.specs.Meaning.{setting, initial_state, run, behaviour_of}
use Rattle.ec_core.specs.Plain.{PlainProgram}
use Rattle.ec_core.specs.PortTable.{PlainTable, plain_table}
use Rattle.ec_core.specs.State.{Inputs, Setting, State, Outcome, got, more, undefined, next}
use Rattle.ec_core.specs.Statements.{Exit, turns, calls_within}
use Rattle.ec_core.specs.Valid.{Valid}
use Rattle.ec_core.specs.ValueTypes.{GiveBytes}
use Rattle.ec_core.proofs.Calling.{all_fit}
use Rattle.ec_core.proofs.Growth.{Grows}
use Rattle.ec_core.proofs.Points.{IsPoint}
use Rattle.ec_core.proofs.Runs.{calls_grow}
use Rattle.ec_core.proofs.TwoRuns.{Both, IsKept, rests, after_work, onwards, again_both, tested_both, call_both}
use Rattle.ec_core.proofs.TypedRuns.{run_sound}
use Rattle.ec_core.proofs.TypedStates.{IsMet}

never : (program : PlainProgram) (o : Outcome Value) → IsMet program ⊥ o → behaviour_of o ≢ Failed Invalid
never program (got x s) h e = cc
never program (more s) h e = cc
never program (undefined point s) h e =
    let f : point ≡ Invalid = cc in
    ⊎_elim (λ p. subst IsPoint f p) (λ i. i) h

pub invalid_is_never_met : InvalidIsNeverMet
invalid_is_never_met program io inputs valid bytes n =
    never program (run program (plain_table io) inputs n)
    (run_sound program ⊥ io valid inputs bytes (all_fit program valid.no_recursion program.main) n).met

-- ---- more depth

module _ (program : PlainProgram) (table : PlainTable) (inputs : Inputs) where
  abbrev own : Setting
  own = setting program table inputs

  -- what is met where calls nest too deep, or the same outcome
  abbrev Deepens : (A : Type 0) → Outcome A → Outcome A → Type 0
  Deepens A o q = ((s : State) × (o ≡ undefined Invalid s)) ⊎ (o ≡ q)

  deepens_onward : (A B : Type 0) (o q : Outcome A) (f g : A → State → Outcome B) → Deepens A o q
      → ((x : A) (s : State) → Both program table inputs inputs 0 Deepens s (f x s) (g x s)) → Deepens B (next o f) (next q g)
  deepens_onward A B o q f g (inl c) h = inl (c.0, ap (λ (p : Outcome A). next p f) c.1)
  deepens_onward A B (got x s) q f g (inr e) h = subst (λ (p : Outcome A). Deepens B (f x s) (next p g)) e (h x s).related
  deepens_onward A B (more s) q f g (inr e) h = inr (ap (λ (p : Outcome A). next p g) e)
  deepens_onward A B (undefined point s) q f g (inr e) h = inr (ap (λ (p : Outcome A). next p g) e)

  deepens_kept : IsKept program table inputs inputs 0 Deepens
  deepens_kept = record { same = λ A o. inr refl; onward = deepens_onward }

  turns_deepen : (n : ℕ) (body other : State → Outcome Exit) (test probe : State → Outcome Bool)
      → ((s : State) → Both program table inputs inputs 0 Deepens s (body s) (other s))
      → ((s : State) → Both program table inputs inputs 0 Deepens s (test s) (probe s)) → (s : State)
      → Both program table inputs inputs 0 Deepens s (turns n body test s) (turns n other probe s)
  turns_deepen zero body other test probe b t s = rests program table inputs inputs 0 Deepens deepens_kept s refl (omega arith)
  turns_deepen (suc n) body other test probe b t s =
      after_work program table inputs inputs 0 Deepens deepens_kept _ s
      (onwards program table inputs inputs 0 Deepens deepens_kept (b _) (λ x u.
      again_both program table inputs inputs 0 Deepens deepens_kept x u _ _
      (tested_both program table inputs inputs 0 Deepens deepens_kept (t u) (λ z. turns_deepen n body other test probe b t z))))

  calls_deepen : (n d e : ℕ) → d ≤ e → (f : ℕ) (xs : List Value) (s : State)
      → Both program table inputs inputs 0 Deepens s (calls_within own n d f xs s) (calls_within own n e f xs s)
  calls_deepen n zero e le f xs s = record {
    related = inl (s, refl);
    first = calls_grow program table inputs n 0 f xs s;
    second = calls_grow program table inputs n e f xs s;
  }
  calls_deepen n (suc d) zero le f xs s = absurd (omega arith)
  calls_deepen n (suc d) (suc e) le f xs s =
      call_both program table inputs inputs 0 Deepens deepens_kept (λ op port i x t. inr refl) (calls_within own n d) (calls_within own n e)
      (calls_deepen n d e (omega arith)) n n
      (turns_deepen n) f (slice_get program.functions f) xs s

pub calls_nest_no_deeper : CallsNestNoDeeper
calls_nest_no_deeper program io inputs valid bytes n depth le =
    ⊎_elim (λ c. absurd (invalid_is_never_met program io inputs valid bytes n (ap behaviour_of c.1))) (λ e. sym e)
    (calls_deepen program (plain_table io) inputs n (length program.functions) depth le program.main []
    (initial_state program (plain_table io))).related
