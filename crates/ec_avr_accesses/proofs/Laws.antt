-- The laws of a step, and of runs.
use Rattle.std.proofs.Common.{◌≡◌, ◌≢◌, ℕ, zero, suc, ◌≤◌, Bool, true, false, ◌==◌, List, [], ◌∷◌, refl, sym, ap, ◌∙◌, subst, arith}
use Rattle.std.proofs.Common.{length, nat_lt}
use Rattle.std.specs.Prelude.{IsTrue, if◌then◌else◌, All, nat_le}
use Rattle.std.proofs.lemmas.Bool.{and_parts, eqb-true, eq-eqb, leb-true}
use Rattle.ec_avr.specs.declared.machine.Access.{Access}
use Rattle.ec_avr.specs.declared.machine.Access.TheVariants.{Silent, In, Out, Read, Write, Stack}
use Rattle.ec_avr.specs.declared.machine.Stepped.{Stepped}
use Rattle.ec_avr.specs.declared.machine.Stepped.TheVariants.{Ran, Ended, Fault}
use Rattle.ec_avr.specs.Laws.{PushesThereAlone}
use Rattle.ec_avr.specs.Machine.{Inputs, Run, Running, EndedWith, FaultedAt, machine, step, continued, preceded, needs_port, answer_of}
use Rattle.ec_avr.specs.Machine.{inputs_after}
use Rattle.ec_avr.specs.Placed.{stack_bytes}
use Rattle.ec_avr.specs.State.{State, byte_at, is_sram}
use Rattle.ec_avr_accesses.specs.Sram.{NothingElseChanges, WrittenBytesStand, StackStepsHaveBytes, byte_after, IsOffTheStack}
use Rattle.ec_avr_accesses.specs.Sram.{RunsChangeAsTold}
use Rattle.ec_avr_accesses.proofs.Table.{Told, of_step}

-- ---- a step

told : (answer : ℕ) (s : State) (did : Stepped) → (step answer s).stepped ≡ did → Told s did (stack_bytes s) (step answer s).state
told answer s did e = subst (λ (x : Stepped). Told s x (stack_bytes s) (step answer s).state) e (of_step s answer)

-- the address of a list of one address
apart_of_one : (to at : ℕ) → All (λ byte. byte ≢ at) (to ∷ []) → at ≢ to
apart_of_one to at others e = others 0 0 (omega arith) (sym e)

pub nothing_else_changes : PushesThereAlone → NothingElseChanges
nothing_else_changes alone answer s Silent at ran high others = told answer s (Ran Silent) ran at high
nothing_else_changes alone answer s (In port byte) at ran high others = told answer s (Ran (In port byte)) ran at high
nothing_else_changes alone answer s (Out port byte) at ran high others = told answer s (Ran (Out port byte)) ran at high
nothing_else_changes alone answer s (Read bank from byte) at ran high others = told answer s (Ran (Read bank from byte)) ran at high
nothing_else_changes alone answer s (Write to byte) at ran high others =
    (told answer s (Ran (Write to byte)) ran).1.others at high (apart_of_one to at others)
nothing_else_changes alone answer s Stack at ran high others = alone answer s at ran high others

high_of : (s : State) (at : ℕ) → IsTrue (is_sram s at) → 256 ≤ at
high_of s at h = leb-true 256 at (and_parts (nat_le 256 at) (nat_lt at (length s.mem.data)) h).0

pub written_bytes_stand : WrittenBytesStand
written_bytes_stand answer s at byte ran =
    let h = told answer s (Ran (Write at byte)) ran in (h.0, h.1.here (high_of s at h.0))

pub stack_steps_have_bytes : StackStepsHaveBytes
stack_steps_have_bytes answer s ran = told answer s (Ran Stack) ran

-- ---- a run

no_addresses : (at : ℕ) → All (λ byte. byte ≢ at) []
no_addresses at k d inside = absurd (omega arith)

-- the byte after a step, where it pushes nothing there
after_step : PushesThereAlone → (answer : ℕ) (s : State) (a : Access) (at : ℕ) → 256 ≤ at → (step answer s).stepped ≡ Ran a
    → All (λ byte. byte ≢ at) (stack_bytes s) → byte_at (step answer s).state at ≡ byte_after at (byte_at s at) (a ∷ [])
after_step alone answer s Silent at high ran off = nothing_else_changes alone answer s Silent at ran high (no_addresses at)
after_step alone answer s (In port byte) at high ran off = nothing_else_changes alone answer s (In port byte) at ran high (no_addresses at)
after_step alone answer s (Out port byte) at high ran off = nothing_else_changes alone answer s (Out port byte) at ran high
    (no_addresses at)
after_step alone answer s (Read bank from byte) at high ran off =
    nothing_else_changes alone answer s (Read bank from byte) at ran high (no_addresses at)
after_step alone answer s (Write to byte) at high ran off = by_test (to == at) refl
  where
    by_test : (b : Bool) → (to == at) ≡ b → byte_at (step answer s).state at ≡ (if b then byte else byte_at s at)
    by_test true e =
        subst (λ n. byte_at (step answer s).state n ≡ byte) (eqb-true to at e) (written_bytes_stand answer s to byte ran).1
    by_test false e =
        (told answer s (Ran (Write to byte)) ran).1.others at high
        (λ same. let clash : true ≡ false = sym (eq-eqb to at (sym same)) ∙ e in cc)
after_step alone answer s Stack at high ran off = nothing_else_changes alone answer s Stack at ran high off

byte_after-then : (at byte : ℕ) (a : Access) (trace : List Access)
    → byte_after at byte (a ∷ trace) ≡ byte_after at (byte_after at byte (a ∷ [])) trace
byte_after-then at byte Silent trace = refl
byte_after-then at byte (In port b) trace = refl
byte_after-then at byte (Out port b) trace = refl
byte_after-then at byte (Read bank from b) trace = refl
byte_after-then at byte (Write to b) trace = refl
byte_after-then at byte Stack trace = refl

module _ (alone : PushesThereAlone) (at : ℕ) (high : 256 ≤ at) where
  -- what is to be shown of a run from a state
  abbrev Holds : State → Run → Type 0
  Holds s run = (trace : List Access) (t : State) → run ≡ Running trace t → byte_at t at ≡ byte_after at (byte_at s at) trace

  -- a first access and the run behind it
  by_access : (s next : State) (a : Access) (rest : Run) → byte_at next at ≡ byte_after at (byte_at s at) (a ∷ []) → Holds next rest
      → Holds s (preceded a rest)
  by_access s next a (Running more u) first h trace t e =
      let same : t ≡ u = cc in
      let parts : trace ≡ a ∷ more = cc in
      subst (λ (x : List Access). byte_at t at ≡ byte_after at (byte_at s at) x) (sym parts)
      (h more t (ap (λ (x : State). Running more x) (sym same)) ∙ ap (λ b. byte_after at b more) first
      ∙ sym (byte_after-then at (byte_at s at) a more))
  by_access s next a (EndedWith more result) first h trace t e = cc
  by_access s next a (FaultedAt more kind pc) first h trace t e = cc

  -- no step
  at_once : (s : State) → Holds s (Running [] s)
  at_once s trace t e =
      let same : t ≡ s = cc in
      let none : trace ≡ [] = cc in
      ap (λ (x : State). byte_at x at) same ∙ ap (λ (x : List Access). byte_after at (byte_at s at) x) (sym none)

  all_of : (m : ℕ) (inputs : Inputs) (s : State) → IsOffTheStack at m inputs s → Holds s (machine m inputs s)
  unfolding machine
  all_of zero inputs s off = at_once s
  all_of (suc m) inputs s off = by_did (step answer s).stepped refl (all_of m left (step answer s).state)
    where
      left : Inputs
      left = inputs_after inputs (needs_port s)

      answer : ℕ
      answer = answer_of inputs (needs_port s)

      by_did : (did : Stepped) → (step answer s).stepped ≡ did
          → (IsOffTheStack at m left (step answer s).state → Holds (step answer s).state (machine m left (step answer s).state))
          → Holds s (continued (machine m left) did (step answer s).state)
      by_did (Ran a) ran rest =
          by_access s (step answer s).state a (machine m left (step answer s).state)
          (after_step alone answer s a at high ran (off 0 [] s (omega arith) refl))
          (rest (λ k trace t below e. off (suc k) (a ∷ trace) t (omega arith)
          (ap (λ (d : Stepped). continued (machine k left) d (step answer s).state) ran ∙ ap (preceded a) e)))
      by_did Ended ran rest = λ trace t e. cc
      by_did (Fault kind pc) ran rest = λ trace t e. cc

pub runs_change_as_told : PushesThereAlone → RunsChangeAsTold
runs_change_as_told alone m inputs s t trace at high ran off = all_of alone at high m inputs s off trace t ran
