-- What the machine accesses up to where main begins.
use Rattle.std.proofs.Common.{◌≡◌, ⊎_elim, ℕ, ◌+◌, ◌%◌, Bool, true, false, ◌&&◌, ℤ, List, [], ◌∷◌, ◌++◌, Option, Some, None, All}
use Rattle.std.proofs.Common.{refl, sym, ap, ◌∙◌, subst, arith, ◌/◌}
use Rattle.std.specs.Prelude.{if◌then◌else◌, IsTrue}
use Rattle.std.specs.List.{AllPairs, AllByRecursion}
use Rattle.ec_isa.specs.declared.instructions.Instr.{Instr}
use Rattle.ec_isa.specs.declared.instructions.Instr.TheVariants.{Call, Rcall}
use Rattle.ec_avr.specs.declared.machine.Access.{Access}
use Rattle.ec_avr.specs.declared.machine.Access.TheVariants.{Stack}
use Rattle.ec_avr.specs.declared.machine.FaultKind.TheVariants.{StackOut}
use Rattle.ec_avr.specs.declared.machine.Stepped.{Stepped}
use Rattle.ec_avr.specs.declared.machine.Stepped.TheVariants.{Ran, Ended, Fault}
use Rattle.ec_avr.specs.Effects.{After, effect, faulted, instruction_at, call, relative}
use Rattle.ec_avr.specs.Inputs.{trace_of}
use Rattle.ec_avr.specs.Laws.{StepsByInstruction}
use Rattle.ec_avr.specs.Machine.{State, Running, EndedWith, FaultedAt, machine, preceded, continued, is_whole, step}
use Rattle.ec_avr.specs.Machine.{answer_of, needs_port}
use Rattle.ec_avr.specs.Runs.{preceded_by}
use Rattle.ec_avr.specs.State.{is_sram, stack_pointer, lowered, with_byte, with_pc, with_stack_pointer}
use Rattle.ec_asm.specs.View.{View}
use Rattle.ec_asm.specs.Change.{Env}
use Rattle.ec_asm.specs.Items.{CallsAt, HasAt}
use Rattle.ec_asm.specs.Laws.{MachineRunsAsView}
use Rattle.ec_asm.specs.Run.{fetch, is_safe}
use Rattle.ec_asm.specs.Shows.{Shows, Fits, RunsAs, GoesOn, noted_all}
use Rattle.ec_asm.proofs.Fetched.{fetched}
use Rattle.ec_asm_accesses.specs.Allowed.{IsAllowed, AccessesAreAllowed}
use Rattle.ec_select_startup.specs.declared.spans.Span.{Span}
use Rattle.ec_select_startup.specs.Laws.{StartupIsRight, Starts, CanBeSet, IsBeside, HasStack, startup_steps, all_accesses}
use Rattle.ec_select_startup.specs.Startup.{startup_code}
use Rattle.ec_select_reset.specs.Laws.{all_but_silent}
use Rattle.ec_select_reset.proofs.Bare.{bare, bare_fits, bare_stack, bare_set, bare_stands, all_are_noted, copies_are_noted}

-- ---- the access of a call

taken_if : (b : Bool) (o : Option Instr) (i : Instr) → (if b then o else None) ≡ Some i → IsTrue b × (o ≡ Some i)
taken_if true o i p = (refl, p)
taken_if false o i p = cc

one_of : (b : Bool) (x y : After) (a : Access) → x.stepped ≡ Ran Stack → ((other : Access) → y.stepped ≡ Ran other → ⊥)
    → (if b then x else y).stepped ≡ Ran a → a ≡ Stack
one_of true x y a is none q = let same : Ran a ≡ Ran Stack = sym q ∙ is in cc
one_of false x y a is none q = absurd (none a q)

called : (to back : ℕ) (t : State) (a : Access) → (call to back t).stepped ≡ Ran a → a ≡ Stack
called to back t a q =
    let first = stack_pointer t in
    let second = lowered first in
    let pushed = with_byte (with_byte t first (back % 256)) second (back / 256 % 256) in
    one_of (is_sram t first && is_sram t second)
    (record { stepped = Ran Stack; state = with_pc (with_stack_pointer pushed (lowered second)) to }) (faulted StackOut t) a refl
    (λ other z. cc) q

module _ (steps : StepsByInstruction) (e : Env) (t : State) (flash : t.mem.flash ≡ e.flash) where
  step_is : (i : Instr) (answer : ℕ) → fetch e t.pc ≡ Some i → step answer t ≡ effect (Some i) answer t
  step_is i answer f =
      let g : (if is_whole t then instruction_at t t.pc else None) ≡ Some i = rw flash (fetched e t.pc i f).0 in
      let h = taken_if (is_whole t) (instruction_at t t.pc) i g in
      steps answer t i h.0 h.1

  call_step : (l end answer : ℕ) (a : Access) → CallsAt e l t.pc end → (step answer t).stepped ≡ Ran a → a ≡ Stack
  unfolding effect
  call_step l end answer a at q =
      ⊎_elim
      (λ far. called (e.word_of l) (t.pc + 2) t a (sym (ap (λ x. x.stepped) (step_is (Call (e.word_of l)) answer far.0.is)) ∙ q))
      (λ near. called (relative t.pc near.0) (t.pc + 1) t a (sym (ap (λ x. x.stepped) (step_is (Rcall near.0) answer near.1.is)) ∙ q)) at

-- what comes of a step that goes on
went_on : (did : Stepped) (u main : State) (start : List Access) (before : List Access)
    → preceded_by before (continued (λ z. Running [] z) did u) ≡ Running start main
    → (a : Access) × (did ≡ Ran a) × (start ≡ before ++ a ∷ [])
went_on (Ran a) u main start before q = (a, refl, behind before start q) where
  shown_before : (xs : List Access) → preceded_by xs (Running (a ∷ []) u) ≡ Running (xs ++ a ∷ []) u
  shown_before [] = refl
  shown_before (x ∷ xs) = ap (preceded x) (shown_before xs)

  behind : (xs ys : List Access) → preceded_by xs (Running (a ∷ []) u) ≡ Running ys main → ys ≡ xs ++ a ∷ []
  behind xs ys h = let same : Running (xs ++ a ∷ []) u ≡ Running ys main = sym (shown_before xs) ∙ h in cc
went_on Ended u main start before q = absurd (never before q) where
  ended_before : (xs : List Access) (r : ℤ) → preceded_by xs (EndedWith [] r) ≡ EndedWith (xs ++ []) r
  ended_before [] r = refl
  ended_before (x ∷ xs) r = ap (preceded x) (ended_before xs r)

  never : (xs : List Access) → preceded_by xs (continued (λ z. Running [] z) Ended u) ≡ Running start main → ⊥
  never xs h = let no = sym (ended_before xs _) ∙ h in cc
went_on (Fault kind pc) u main start before q = absurd (never before q) where
  faulted_before : (xs : List Access) → preceded_by xs (FaultedAt [] kind pc) ≡ FaultedAt (xs ++ []) kind pc
  faulted_before [] = refl
  faulted_before (x ∷ xs) = ap (preceded x) (faulted_before xs)

  never : (xs : List Access) → preceded_by xs (FaultedAt [] kind pc) ≡ Running start main → ⊥
  never xs h = let no = sym (faulted_before xs) ∙ h in cc

-- ---- the whole

-- the call of main is the last of the steps to where main begins, and before it initial bytes are copied
pub record CallsMain (e : Env) (spans : List Span) (trace : List Access) : Type 0 where
  pub before : List Access
  pub calls : trace ≡ before ++ Stack ∷ []
  pub copies : all_but_silent before ≡ all_accesses e spans

-- what this rests on
pub record BeforeLaws : Type 0 where
  pub startup : StartupIsRight
  pub views : MachineRunsAsView
  pub allowed : AccessesAreAllowed
  pub steps : StepsByInstruction

module _ (laws : BeforeLaws) (e : Env) (spans : List Span) (size main end : ℕ) (s : State) (v : View) (fit : Fits e size)
    (shows : Shows e size s.core s.mem v) (stack : HasStack e) (can : All (CanBeSet e) spans) (beside : AllPairs (IsBeside e) spans)
    (stands : HasAt e (startup_code spans main) s.pc end) (none : v.seen ≡ []) (safe : v.safe ≡ true) where
  abbrev b : Env
  b = bare e size

  shows_b : Shows b size s.core s.mem v
  shows_b = record {
    same = shows.same;
    flash = shows.flash;
    sized = shows.sized;
    bytes = shows.bytes;
    at = shows.at;
    flags = shows.flags;
    page = shows.page;
    feeds = shows.feeds;
    base = shows.base;
  }

  starts : Starts b spans main s.pc v
  starts =
      laws.startup b spans main s.pc end v (bare_stack e size fit stack) (λ k d l. bare_set e size fit _ (can k d l)) beside
      (bare_stands e size fit (startup_code spans main) s.pc end stands)

  goes : GoesOn b size (startup_steps spans) v s starts.call starts.last
  goes =
      subst (RunsAs b size (startup_steps spans) v s) starts.goes.by
      (laws.views b size (startup_steps spans) s v (bare_fits e size fit) shows_b) (starts.safe ∙ safe)

  -- the accesses before the call
  are_allowed : AllByRecursion (IsAllowed b) goes.trace
  are_allowed =
      subst (λ run. AllByRecursion (IsAllowed b) (trace_of run)) goes.ran
      (laws.allowed b size (startup_steps spans) (startup_steps spans) s v (bare_fits e size fit) shows_b
      (ap is_safe starts.goes.by ∙ starts.safe ∙ safe) (omega arith))

  are_copies : all_but_silent goes.trace ≡ all_accesses e spans
  are_copies =
      let seen : noted_all b goes.trace ≡ noted_all b (all_accesses b spans) =
      ap (λ l. l ++ noted_all b goes.trace) (sym none) ∙ sym goes.seen ∙ starts.seen ∙ ap (λ l. l ++ noted_all b (all_accesses b spans)) none in
      sym (all_are_noted e size fit goes.trace are_allowed) ∙ seen ∙ copies_are_noted e size fit spans can

  pub calls_main : (trace : List Access) (t : State) → machine (startup_steps spans + 1) v.inputs s ≡ Running trace t
      → CallsMain e spans trace
  unfolding machine
  calls_main trace t ran =
      let u = goes.state in
      let given = starts.last.inputs in
      let did = step (answer_of given (needs_port u)) u in
      let w = went_on did.stepped did.state t trace goes.trace (sym (goes.on 1) ∙ ran) in
      let at : CallsAt b main u.pc starts.back = subst (λ n. CallsAt b main n starts.back) (sym goes.at) starts.calls in
      let is = call_step laws.steps b u goes.shows.flash main starts.back (answer_of given (needs_port u)) w.0 at w.1 in
      record { before = goes.trace; calls = w.2 ∙ ap (λ a. goes.trace ++ a ∷ []) is; copies = are_copies }
