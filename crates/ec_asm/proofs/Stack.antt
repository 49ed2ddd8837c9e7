-- Every byte that is pushed or popped is one of the stack's.
use Rattle.std.proofs.Common.{◌≡◌, ℕ, zero, suc, ◌+◌, ◌-◌, ◌<◌, Bool, true, false, ◌&&◌, List, [], ◌∷◌, refl, sym, ap, ◌∙◌, subst, arith}
use Rattle.std.proofs.Common.{Option, Some, None}
use Rattle.std.specs.Prelude.{if◌then◌else◌, IsTrue, All}
use Rattle.std.proofs.lemmas.Bool.{and_parts, false≢true}
use Rattle.ec_isa.specs.declared.instructions.Instr.{Instr}
use Rattle.ec_isa.specs.declared.instructions.Instr.TheVariants.{Pop, Push, Ret, Call, Rcall, Icall}
use Rattle.ec_avr.specs.declared.machine.Access.{Access}
use Rattle.ec_avr.specs.Effects.{instruction_at}
use Rattle.ec_avr.specs.Machine.{State, Run, Running as MRunning, EndedWith, FaultedAt, machine, is_whole}
use Rattle.ec_avr.specs.Placed.{stack_bytes, stack_bytes_of}
use Rattle.ec_avr.specs.State.{raised, lowered, stack_pointer}
use Rattle.ec_asm.specs.View.{View}
use Rattle.ec_asm.specs.Change.{Env, Kind, Own, Object, Port, Stacked, Page, Barred, sp, push_by, pop_by}
use Rattle.ec_asm.specs.Run.{Status, Running, Ended, Stuck, act, step, run, fetch, on_stack, is_safe}
use Rattle.ec_asm.specs.Shows.{Shows, Fits, RunsAs}
use Rattle.ec_asm.proofs.Accesses.{sp_shown}
use Rattle.ec_asm.proofs.Fetched.{fetched}
use Rattle.ec_asm.proofs.Hoare.{run-add}
use Rattle.ec_asm.proofs.Machine.{IsUnsafe, run_unsafe, on_stack_is, taken_if, runs_as}
use Rattle.ec_asm.proofs.MachineLaws.{StepLaws}

push_stacked : (k : Kind) (x : ℕ) (v : View) → (push_by k x v).safe ≡ true → k ≡ Stacked
push_stacked Stacked x v h = refl
push_stacked Own x v h = absurd (false≢true h)
push_stacked Object x v h = absurd (false≢true h)
push_stacked Port x v h = absurd (false≢true h)
push_stacked Page x v h = absurd (false≢true h)
push_stacked Barred x v h = absurd (false≢true h)

pop_stacked : (k : Kind) (d : ℕ) (v : View) → (pop_by k d v).safe ≡ true → k ≡ Stacked
pop_stacked Stacked d v h = refl
pop_stacked Own d v h = absurd (false≢true h)
pop_stacked Object d v h = absurd (false≢true h)
pop_stacked Port d v h = absurd (false≢true h)
pop_stacked Page d v h = absurd (false≢true h)
pop_stacked Barred d v h = absurd (false≢true h)

where_safe : (b : Bool) (st : Status) → is_safe (if b then st else Stuck) ≡ true → IsTrue b
where_safe true st h = refl
where_safe false st h = absurd (false≢true h)

both_stacked : (a b : Kind) (st : Status) → is_safe (if on_stack a && on_stack b then st else Stuck) ≡ true
    → (a ≡ Stacked) × (b ≡ Stacked)
both_stacked a b st h =
    let p = and_parts (on_stack a) (on_stack b) (where_safe (on_stack a && on_stack b) st h) in
    (on_stack_is a p.0, on_stack_is b p.1)

abbrev AreStacked : Env → List ℕ → Type 0
AreStacked e bytes = All (λ at. e.kind at ≡ Stacked) bytes

none_stacked : (e : Env) → AreStacked e []
none_stacked e k d inside = absurd (omega arith)

one_stacked : (e : Env) (a : ℕ) → e.kind a ≡ Stacked → AreStacked e (a ∷ [])
one_stacked e a p zero d inside = p
one_stacked e a p (suc k) d inside = absurd (omega arith)

two_stacked : (e : Env) (a b : ℕ) → (e.kind a ≡ Stacked) × (e.kind b ≡ Stacked) → AreStacked e (a ∷ b ∷ [])
two_stacked e a b p zero d inside = p.0
two_stacked e a b p (suc zero) d inside = p.1
two_stacked e a b p (suc (suc k)) d inside = absurd (omega arith)

module _ (e : Env) (size : ℕ) (fit : Fits e size) (s : State) (v : View) (h : Shows e size s.core s.mem v) where
  pointer : sp v ≡ stack_pointer s
  pointer = sym (sp_shown e size fit s v h)

  -- what an instruction pushes and pops is the stack's, if it was allowed
  bytes_stacked : (i : Instr) (pc : ℕ) → is_safe (act e (Some i) pc v) ≡ true → AreStacked e (stack_bytes_of (Some i) s)
  bytes_stacked (Push r) pc safe =
      subst (λ n. AreStacked e (n ∷ [])) pointer (one_stacked e (sp v) (push_stacked (e.kind (sp v)) (v.at r) v safe))
  bytes_stacked (Pop d) pc safe =
      subst (λ n. AreStacked e (raised n ∷ [])) pointer (one_stacked e (raised (sp v)) (pop_stacked (e.kind (raised (sp v))) d v safe))
  bytes_stacked (Call k) pc safe =
      let b = both_stacked (e.kind (sp v)) (e.kind (lowered (sp v))) _ safe in
      subst (λ n. AreStacked e (n ∷ lowered n ∷ [])) pointer (two_stacked e (sp v) (lowered (sp v)) b)
  bytes_stacked (Rcall k) pc safe =
      let b = both_stacked (e.kind (sp v)) (e.kind (lowered (sp v))) _ safe in
      subst (λ n. AreStacked e (n ∷ lowered n ∷ [])) pointer (two_stacked e (sp v) (lowered (sp v)) b)
  bytes_stacked Ret pc safe =
      let b = both_stacked (e.kind (raised (sp v))) (e.kind (raised (raised (sp v)))) _ safe in
      subst (λ n. AreStacked e (raised n ∷ raised (raised n) ∷ [])) pointer (two_stacked e (raised (sp v)) (raised (raised (sp v))) b)
  bytes_stacked Icall pc safe = absurd (false≢true safe)
  bytes_stacked _ pc safe = none_stacked e

  by_fetch : (o : Option Instr) → fetch e s.pc ≡ o → is_safe (act e o s.pc v) ≡ true → AreStacked e (stack_bytes s)
  by_fetch None f safe = absurd (false≢true safe)
  by_fetch (Some i) f safe =
      let g : (if is_whole s then instruction_at s s.pc else None) ≡ Some i = rw h.flash (fetched e s.pc i f).0 in
      let t = taken_if (is_whole s) (instruction_at s s.pc) i g in
      rw (t.0, t.1) (bytes_stacked i s.pc safe)

  -- the bytes of the next step
  step_stacked : is_safe (step e (Running s.pc v)) ≡ true → AreStacked e (stack_bytes s)
  step_stacked safe = by_fetch (fetch e s.pc) refl safe

-- what was not safe stays so
unsafe_is : (st : Status) → is_safe st ≡ false → IsUnsafe st
unsafe_is (Running pc v) h = h
unsafe_is (Ended v) h = h
unsafe_is Stuck h = tt

is_unsafe : (st : Status) → IsUnsafe st → is_safe st ≡ false
is_unsafe (Running pc v) h = h
is_unsafe (Ended v) h = h
is_unsafe Stuck h = refl

pub safe_before : (e : Env) (j : ℕ) (st : Status) → is_safe (run e j st) ≡ true → is_safe st ≡ true
safe_before e j st h = by_case (is_safe st) refl
  where
    by_case : (b : Bool) → is_safe st ≡ b → b ≡ true
    by_case true q = refl
    by_case false q = absurd (false≢true (sym (is_unsafe (run e j st) (run_unsafe e j st (unsafe_is st q))) ∙ h))

abbrev state_of : Run → State → State
state_of (MRunning trace s) t = s
state_of (EndedWith trace result) t = t
state_of (FaultedAt trace kind pc) t = t

module _ (e : Env) (size : ℕ) (fit : Fits e size) (k j : ℕ) (s t : State) (v : View) (trace : List Access)
    (ran : machine k v.inputs s ≡ MRunning trace t) where
  by_status : (st : Status) → RunsAs e size k v s st → is_safe (run e j (step e st)) ≡ true
      → AreStacked e (stack_bytes t)
  by_status (Running pc w) r safe =
      let one = safe_before e j (step e (Running pc w)) safe in
      let g = r (safe_before e 1 (Running pc w) one) in
      let same : g.state ≡ t = ap (λ x. state_of x s) (sym g.ran ∙ ran) in
      subst (λ u. AreStacked e (stack_bytes u)) same
      (step_stacked e size fit g.state w g.shows (subst (λ n. is_safe (step e (Running n w)) ≡ true) (sym g.at) one))
  by_status (Ended w) r safe = let g = r (safe_before e j (Ended w) safe) in let q = sym g.ran ∙ ran in cc
  by_status Stuck r safe = absurd (false≢true (safe_before e j Stuck safe))

pub stack_stays_inside : StepLaws → (e : Env) (size m k : ℕ) (s t : State) (v : View) (trace : List Access) → Fits e size
    → Shows e size s.core s.mem v → is_safe (run e m (Running s.pc v)) ≡ true → k < m → machine k v.inputs s ≡ MRunning trace t
    → AreStacked e (stack_bytes t)
stack_stays_inside laws e size m k s t v trace fit h safe l ran =
    let j = m - k - 1 in
    let q : m ≡ k + suc j = omega arith in
    by_status e size fit k j s t v trace ran (run e k (Running s.pc v)) (runs_as laws e size fit k s v h)
    (subst (λ st. is_safe st ≡ true) (ap (λ n. run e n (Running s.pc v)) q ∙ run-add e k (suc j) (Running s.pc v)) safe)
