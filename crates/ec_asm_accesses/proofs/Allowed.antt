-- All accesses of a run are allowed.
use Rattle.std.proofs.Common.{◌≡◌, ℕ, zero, suc, ◌+◌, ◌%◌, Bool, true, false, List, [], ◌∷◌, ◌++◌, refl, sym, ap, ◌∙◌, subst, arith, Option}
use Rattle.std.proofs.Common.{Some, None, ℤ}
use Rattle.std.specs.Prelude.{if◌then◌else◌, IsTrue}
use Rattle.std.specs.List.{AllByRecursion}
use Rattle.std.proofs.lemmas.Bool.{false≢true}
use Rattle.ec_isa.specs.declared.instructions.Instr.{Instr}
use Rattle.ec_isa.specs.declared.instructions.Instr.TheVariants.{Cpse, Jmp, Call, Ret, Break, Rjmp, Rcall, Brbs, Brbc, Sbrc, Sbrs}
use Rattle.ec_avr.specs.declared.machine.Access.{Access}
use Rattle.ec_avr.specs.declared.machine.Stepped.{Stepped}
use Rattle.ec_avr.specs.declared.machine.Stepped.TheVariants.{Ran, Ended as MEnded, Fault}
use Rattle.ec_avr.specs.Effects.{effect, instruction_at, relative}
use Rattle.ec_avr.specs.Inputs.{trace_of}
use Rattle.ec_avr.specs.Laws.{StepsByInstruction}
use Rattle.ec_avr.specs.Machine.{State, Inputs, Run, Running as MRunning, EndedWith, FaultedAt, machine, preceded, continued, is_whole}
use Rattle.ec_avr.specs.Machine.{step as m_step, answer_of, inputs_after, needs_port}
use Rattle.ec_avr.specs.Runs.{preceded_by}
use Rattle.ec_asm.specs.View.{View}
use Rattle.ec_asm.specs.Change.{Env, change, goes_on, words}
use Rattle.ec_asm.specs.Laws.{MachineRunsAsView}
use Rattle.ec_asm.specs.Run.{Status, Running, Ended, Stuck, act, step, run, fetch, is_safe}
use Rattle.ec_asm.specs.Shows.{Shows, Fits, RunsAs}
use Rattle.ec_asm.proofs.Fetched.{fetched}
use Rattle.ec_asm_accesses.specs.Allowed.{IsAllowed, AccessesAreAllowed}
use Rattle.ec_asm_accesses.proofs.OneStep.{IsStepAllowed, call_allowed, return_allowed, change_allowed}
use Rattle.ec_asm_accesses.proofs.Unsafe.{safe_before, safe_within}

-- what this rests on
pub record GuardLaws : Type 0 where
  pub views : MachineRunsAsView
  pub steps : StepsByInstruction

taken_if : (b : Bool) (o : Option Instr) (i : Instr) → (if b then o else None) ≡ Some i → IsTrue b × (o ≡ Some i)
taken_if true o i p = (refl, p)
taken_if false o i p = cc

when_safe : (b : Bool) (pc : ℕ) (v : View) → is_safe (if b then Running pc v else Stuck) ≡ true → v.safe ≡ true
when_safe true pc v h = h
when_safe false pc v h = absurd (false≢true h)

-- ---- lists of accesses

all_append : {A : Type 0} (P : A → Type 0) (xs ys : List A) → AllByRecursion P xs → AllByRecursion P ys → AllByRecursion P (xs ++ ys)
all_append P [] ys a b = b
all_append P (x ∷ xs) ys a b = (a.0, all_append P xs ys a.1 b)

pub trace_preceded : (a : Access) (run : Run) → trace_of (preceded a run) ≡ a ∷ trace_of run
trace_preceded a (MRunning trace s) = refl
trace_preceded a (EndedWith trace result) = refl
trace_preceded a (FaultedAt trace kind pc) = refl

trace_behind : (trace : List Access) (run : Run) → trace_of (preceded_by trace run) ≡ trace ++ trace_of run
trace_behind [] run = refl
trace_behind (a ∷ trace) run = trace_preceded a (preceded_by trace run) ∙ ap (λ x. a ∷ x) (trace_behind trace run)

-- ---- one step

module _ (laws : GuardLaws) (e : Env) (size : ℕ) (fit : Fits e size) (s : State) (v : View) (h : Shows e size s.core s.mem v) where
  act_allowed : (i : Instr) (answer : ℕ) → is_safe (act e (Some i) s.pc v) ≡ true → IsStepAllowed e (effect (Some i) answer s).stepped
  unfolding effect
  act_allowed (Jmp k) answer safe = tt
  act_allowed (Rjmp k) answer safe = tt
  act_allowed (Brbs b k) answer safe = tt
  act_allowed (Brbc b k) answer safe = tt
  act_allowed (Cpse d r) answer safe = tt
  act_allowed (Sbrc r b) answer safe = tt
  act_allowed (Sbrs r b) answer safe = tt
  act_allowed (Rcall k) answer safe = call_allowed e size fit s v h _ _ (relative s.pc k) (s.pc + 1) safe
  act_allowed (Call k) answer safe = call_allowed e size fit s v h _ _ k (s.pc + 2) safe
  act_allowed Ret answer safe = return_allowed e size fit s v h safe
  act_allowed Break answer safe = tt
  act_allowed i answer safe =
      change_allowed e size fit s v h i answer (when_safe (goes_on i) ((s.pc + words i) % 65536) (change e i v) safe)

  by_fetch : (o : Option Instr) (answer : ℕ) → fetch e s.pc ≡ o → is_safe (act e o s.pc v) ≡ true
      → IsStepAllowed e (m_step answer s).stepped
  by_fetch None answer f safe = absurd (false≢true safe)
  by_fetch (Some i) answer f safe =
      let g : (if is_whole s then instruction_at s s.pc else None) ≡ Some i = rw h.flash (fetched e s.pc i f).0 in
      let t = taken_if (is_whole s) (instruction_at s s.pc) i g in
      subst (λ x. IsStepAllowed e x.stepped) (sym (laws.steps answer s i t.0 t.1)) (act_allowed i answer safe)

  step_allowed : (answer : ℕ) → is_safe (step e (Running s.pc v)) ≡ true → IsStepAllowed e (m_step answer s).stepped
  step_allowed answer safe = by_fetch (fetch e s.pc) answer refl safe

-- the accesses of a step and of what comes after it
abbrev AreAllowed : Env → List Access → Type 0
AreAllowed e trace = AllByRecursion (IsAllowed e) trace

first_allowed : (e : Env) (rest : State → Run) (did : Stepped) (t : State) → IsStepAllowed e did
    → ((a : Access) → did ≡ Ran a → AreAllowed e (trace_of (rest t)))
    → AreAllowed e (trace_of (continued rest did t))
first_allowed e rest (Ran a) t ok more = subst (AreAllowed e) (sym (trace_preceded a (rest t))) (ok, more a refl)
first_allowed e rest MEnded t ok more = tt
first_allowed e rest (Fault kind pc) t ok more = tt

-- ---- runs

module _ (laws : GuardLaws) (e : Env) (size : ℕ) (fit : Fits e size) where
  one_allowed : (s : State) (v : View) → Shows e size s.core s.mem v → is_safe (step e (Running s.pc v)) ≡ true
      → AreAllowed e (trace_of (machine 1 v.inputs s))
  unfolding machine
  one_allowed s v h safe =
      first_allowed e (λ t. MRunning [] t) (m_step (answer_of v.inputs (needs_port s)) s).stepped
      (m_step (answer_of v.inputs (needs_port s)) s).state
      (step_allowed laws e size fit s v h (answer_of v.inputs (needs_port s)) safe) (λ a q. tt)

  abbrev did : Inputs → State → Stepped
  did inputs s = (m_step (answer_of inputs (needs_port s)) s).stepped

  abbrev left : Inputs → State → State
  left inputs s = (m_step (answer_of inputs (needs_port s)) s).state

  -- a step that ends the run is its last
  last_allowed : (k : ℕ) (s : State) (v : View) → Shows e size s.core s.mem v → is_safe (step e (Running s.pc v)) ≡ true
      → (trace : List Access) (result : ℤ) → machine 1 v.inputs s ≡ EndedWith trace result
      → AreAllowed e (trace_of (machine (suc k) v.inputs s))
  unfolding machine
  last_allowed k s v h safe trace result ended =
      first_allowed e (machine k (inputs_after v.inputs (needs_port s))) (did v.inputs s) (left v.inputs s)
      (step_allowed laws e size fit s v h (answer_of v.inputs (needs_port s)) safe)
      (λ a q. absurd (none a (subst (λ d. continued (λ u. MRunning [] u) d (left v.inputs s) ≡ EndedWith trace result) q ended))) where
        none : (a : Access) → MRunning (a ∷ []) (left v.inputs s) ≡ EndedWith trace result → ⊥
        none a z = cc

  module _ (k : ℕ) (ih : (s : State) (v : View) → Shows e size s.core s.mem v → is_safe (run e k (Running s.pc v)) ≡ true
      → AreAllowed e (trace_of (machine k v.inputs s)))
      (s : State) (v : View) (h : Shows e size s.core s.mem v) (one : is_safe (step e (Running s.pc v)) ≡ true) where
    by_status : (st : Status) → RunsAs e size 1 v s st → is_safe (run e k st) ≡ true → AreAllowed e (trace_of (machine (suc k) v.inputs s))
    by_status (Running pc w) r safe =
        let g = r (safe_before e k (Running pc w) safe) in
        let first : AreAllowed e g.trace = subst (AreAllowed e) (ap trace_of g.ran) (one_allowed s v h one) in
        let rest = ih g.state w g.shows (subst (λ n. is_safe (run e k (Running n w)) ≡ true) (sym g.at) safe) in
        let n : 1 + k ≡ suc k = omega arith in
        let is : trace_of (machine (suc k) v.inputs s) ≡ g.trace ++ trace_of (machine k w.inputs g.state) =
        ap (λ j. trace_of (machine j v.inputs s)) (sym n) ∙ ap trace_of (g.on k) ∙ trace_behind g.trace (machine k w.inputs g.state) in
        subst (AreAllowed e) (sym is) (all_append (IsAllowed e) g.trace (trace_of (machine k w.inputs g.state)) first rest)
    by_status (Ended w) r safe =
        let g = r (safe_before e k (Ended w) safe) in last_allowed k s v h one g.trace _ g.ran
    by_status Stuck r safe = absurd (false≢true (safe_before e k Stuck safe))

  all_allowed : (k : ℕ) (s : State) (v : View) → Shows e size s.core s.mem v → is_safe (run e k (Running s.pc v)) ≡ true
      → AreAllowed e (trace_of (machine k v.inputs s))
  unfolding machine
  all_allowed zero s v h safe = tt
  all_allowed (suc k) s v h safe =
      by_status k (all_allowed k) s v h (safe_before e k (step e (Running s.pc v)) safe) (step e (Running s.pc v))
      (laws.views e size 1 s v fit h) safe

pub accesses_are_allowed : GuardLaws → AccessesAreAllowed
accesses_are_allowed laws e size m k s v fit h safe less =
    all_allowed laws e size fit k s v h (safe_within e m k (Running s.pc v) less safe)
