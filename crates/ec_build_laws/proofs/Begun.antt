-- Up to where Y is as the code has it.
use Rattle.std.proofs.Common.{◌≡◌, ⊎_elim, ℕ, ◌+◌, ◌*◌, ◌/◌, ◌%◌, ◌≤◌, Bool, true, false, ℤ, List, [], ◌∷◌, ◌++◌, Option, Some, None}
use Rattle.std.proofs.Common.{refl, sym, ap, ◌∙◌, subst, arith, zero-add}
use Rattle.std.specs.Prelude.{if◌then◌else◌, IsTrue}
use Rattle.std.specs.List.{AllByRecursion}
use Rattle.ec_isa.specs.declared.instructions.Instr.{Instr}
use Rattle.ec_isa.specs.declared.instructions.Instr.TheVariants.{Ldi}
use Rattle.ec_avr.specs.declared.machine.Access.{Access}
use Rattle.ec_avr.specs.declared.machine.Access.TheVariants.{Silent}
use Rattle.ec_avr.specs.declared.machine.FaultKind.{FaultKind}
use Rattle.ec_avr.specs.Effects.{effect, instruction_at}
use Rattle.ec_avr.specs.Laws.{StepsByInstruction}
use Rattle.ec_avr.specs.Machine.{State, Inputs, Run, Running, EndedWith, FaultedAt, preceded, continued, machine, step, is_whole}
use Rattle.ec_avr.specs.Machine.{answer_of, needs_port}
use Rattle.ec_avr.specs.Runs.{preceded_by}
use Rattle.ec_asm.specs.Change.{Env, unbased, change}
use Rattle.ec_asm.specs.Items.{At}
use Rattle.ec_asm.specs.Laws.{MachineRunsAsView, StackStaysInside}
use Rattle.ec_asm.specs.Run.{is_safe, run}
use Rattle.ec_asm.specs.Shows.{Shows, Fits, RunsAs, GoesOn}
use Rattle.ec_asm.specs.Takes.{Goes}
use Rattle.ec_asm.specs.View.{View, pair}
use Rattle.ec_asm.proofs.Fetched.{fetched}
use Rattle.ec_asm.proofs.Hoare.{goes_on_to, one_goes}
use Rattle.ec_core.specs.ValueTypes.{GiveBytes}
use Rattle.ec_select_reset.specs.Laws.{all_but_silent}
use Rattle.ec_build_laws.specs.Laws.{SetsBase}
use Rattle.ec_build_laws.specs.Runs.{view_of, Begins}

-- ---- runs behind accesses

pub before_running : (start trace : List Access) (t : State) → preceded_by start (Running trace t) ≡ Running (start ++ trace) t
before_running [] trace t = refl
before_running (a ∷ start) trace t = ap (preceded a) (before_running start trace t)

pub before_ended : (start trace : List Access) (result : ℤ) → preceded_by start (EndedWith trace result)
    ≡ EndedWith (start ++ trace) result
before_ended [] trace result = refl
before_ended (a ∷ start) trace result = ap (preceded a) (before_ended start trace result)

before_faulted : (start trace : List Access) (kind : FaultKind) (pc : ℕ) → preceded_by start (FaultedAt trace kind pc)
    ≡ FaultedAt (start ++ trace) kind pc
before_faulted [] trace kind pc = refl
before_faulted (a ∷ start) trace kind pc = ap (preceded a) (before_faulted start trace kind pc)

pub preceded_twice : (a b : List Access) (run : Run) → preceded_by a (preceded_by b run) ≡ preceded_by (a ++ b) run
preceded_twice [] b run = refl
preceded_twice (x ∷ a) b run = ap (preceded x) (preceded_twice a b run)

-- what is behind accesses of a run that goes on
pub behind : (start : List Access) (run : Run) (trace : List Access) (t : State) → preceded_by start run ≡ Running trace t
    → (rest : List Access) × (run ≡ Running rest t)
behind start (Running rest u) trace t h =
    let same : Running (start ++ rest) u ≡ Running trace t = sym (before_running start rest u) ∙ h in
    let state : u ≡ t = cc in
    (rest, ap (Running rest) state)
behind start (EndedWith rest result) trace t h =
    let no : EndedWith (start ++ rest) result ≡ Running trace t = sym (before_ended start rest result) ∙ h in
    absurd cc
behind start (FaultedAt rest kind pc) trace t h =
    let no : FaultedAt (start ++ rest) kind pc ≡ Running trace t = sym (before_faulted start rest kind pc) ∙ h in
    absurd cc

pub silent_first : (start before : List Access) → AllByRecursion (λ a. a ≡ Silent) start
    → all_but_silent (start ++ before) ≡ all_but_silent before
silent_first [] before h = refl
silent_first (a ∷ start) before h =
    subst (λ x. all_but_silent (x ∷ (start ++ before)) ≡ all_but_silent before) (sym h.0) (silent_first start before h.1)

-- ---- one LDI

pub record BeginLaws : Type 0 where
  pub steps : StepsByInstruction
  pub views : MachineRunsAsView
  pub stack : StackStaysInside

taken_if : (b : Bool) (o : Option Instr) (i : Instr) → (if b then o else None) ≡ Some i → IsTrue b × (o ≡ Some i)
taken_if true o i p = (refl, p)
taken_if false o i p = cc

-- the machine loads a constant, silently, and goes on at a word
record Loads (e : Env) (size end : ℕ) (s : State) (v w : View) : Type 0 where
  state : State
  ran : (k : ℕ) → machine (1 + k) v.inputs s ≡ preceded_by (Silent ∷ []) (machine k v.inputs state)
  at : state.pc ≡ end
  shows : Shows e size state.core state.mem w

module _ (laws : BeginLaws) (e : Env) (size : ℕ) (fit : Fits e size) (d n end : ℕ) (s : State) (v : View)
    (at : At e (Ldi d n) s.pc end) (shows : Shows e size s.core s.mem v) where
  step_is : (answer : ℕ) → step answer s ≡ effect (Some (Ldi d n)) answer s
  step_is answer =
      let g : (if is_whole s then instruction_at s s.pc else None) ≡ Some (Ldi d n) = rw shows.flash (fetched e s.pc (Ldi d n) at.is).0 in
      let h = taken_if (is_whole s) (instruction_at s s.pc) (Ldi d n) g in
      laws.steps answer s (Ldi d n) h.0 h.1

  is_silent : (trace : List Access) (t : State) → machine 1 v.inputs s ≡ Running trace t → trace ≡ Silent ∷ []
  unfolding machine effect
  is_silent trace t ran =
      let answer = answer_of v.inputs (needs_port s) in
      let is : continued (λ z. Running [] z) (step answer s).stepped (step answer s).state
      ≡ continued (λ z. Running [] z) (effect (Some (Ldi d n)) answer s).stepped (effect (Some (Ldi d n)) answer s).state =
      ap (λ x. continued (λ z. Running [] z) x.stepped x.state) (step_is answer) in
      let same : Running (Silent ∷ []) (effect (Some (Ldi d n)) answer s).state ≡ Running trace t = sym is ∙ ran in
      cc

  pub goes : Goes e 1 s.pc v end (change e (Ldi d n) v)
  goes = one_goes e (Ldi d n) s.pc end v refl at

  loads : v.safe ≡ true → Loads e size end s v (change e (Ldi d n) v)
  loads safe =
      let on : GoesOn e size 1 v s end (change e (Ldi d n) v) =
      subst (RunsAs e size 1 v s) goes.by (laws.views e size 1 s v fit shows) safe in
      let trace = is_silent on.trace on.state on.ran in
      record {
        state = on.state;
        ran = λ k. on.on k ∙ ap (λ l. preceded_by l (machine k v.inputs on.state)) trace;
        at = on.at;
        shows = on.shows;
      }

-- ---- the whole

module _ (laws : BeginLaws) (e : Env) (size word : ℕ) (fit : Fits e size) (s : State) (inputs : Inputs) (give : GiveBytes inputs)
    (shows : Shows (unbased e) size s.core s.mem (view_of s inputs)) (pc : s.pc ≡ 0) where
  abbrev u : Env
  u = unbased e

  abbrev v : View
  v = view_of s inputs

  free_fit : Fits u size
  free_fit = record {
    ports = fit.ports;
    kinds = fit.kinds;
    table = fit.table;
    code = fit.code;
    base = λ l. absurd (omega (arith, l));
  }

  -- where Y is free
  at_once : 65536 ≤ e.base → word ≡ 0 → Begins e size word s inputs
  at_once free is = record {
    steps = 0;
    few = omega arith;
    trace = [];
    silent = tt;
    first = s;
    ran = λ k. ap (λ n. machine n inputs s) (zero-add k);
    at = pc ∙ sym is;
    shows = record {
      same = shows.same;
      flash = shows.flash;
      sized = shows.sized;
      bytes = shows.bytes;
      at = shows.at;
      flags = shows.flags;
      page = shows.page;
      feeds = shows.feeds;
      base = λ l. absurd (omega (arith, free, l));
    };
    stacked = λ k before t less ran. absurd (omega (arith, less));
  }

  -- where it is set
  module _ (low : At u (Ldi 28 (e.base % 256)) 0 1) (high : At u (Ldi 29 (e.base / 256)) 1 2) where
    low_at : At u (Ldi 28 (e.base % 256)) s.pc 1
    low_at = subst (λ n. At u (Ldi 28 (e.base % 256)) n 1) (sym pc) low

    abbrev v1 : View
    v1 = change u (Ldi 28 (e.base % 256)) v

    one : Loads u size 1 s v v1
    one = loads laws u size free_fit 28 (e.base % 256) 1 s v low_at shows refl

    high_at : At u (Ldi 29 (e.base / 256)) one.state.pc 2
    high_at = subst (λ n. At u (Ldi 29 (e.base / 256)) n 2) (sym one.at) high

    abbrev v2 : View
    v2 = change u (Ldi 29 (e.base / 256)) v1

    two : Loads u size 2 one.state v1 v2
    two = loads laws u size free_fit 29 (e.base / 256) 2 one.state v1 high_at one.shows refl

    both_go : Goes u (1 + 1) s.pc v 2 v2
    both_go =
        goes_on_to u 1 1 s.pc 1 2 v v1 v2 (goes laws u size free_fit 28 (e.base % 256) 1 s v low_at shows)
        (subst (λ n. Goes u 1 n v1 2 v2) one.at (goes laws u size free_fit 29 (e.base / 256) 2 one.state v1 high_at one.shows))

    held : pair v2.at 28 ≡ e.base
    held = let b = e.base in let same : b % 256 + 256 * (b / 256) ≡ b = omega arith in same

    after_both : word ≡ 2 → Begins e size word s inputs
    after_both is = record {
      steps = 2;
      few = omega arith;
      trace = Silent ∷ Silent ∷ [];
      silent = (refl, (refl, tt));
      first = two.state;
      ran = λ k.
          let sum : 2 + k ≡ 1 + (1 + k) = omega arith in
          ap (λ n. machine n inputs s) sum ∙ one.ran (1 + k) ∙ ap (preceded_by (Silent ∷ [])) (two.ran k);
      at = two.at ∙ sym is;
      shows = record {
        same = two.shows.same;
        flash = two.shows.flash;
        sized = two.shows.sized;
        bytes = two.shows.bytes;
        at = refl;
        flags = refl;
        page = refl;
        feeds = give;
        base = λ l. ap (λ f. pair f 28) (sym two.shows.at) ∙ held;
      };
      stacked = λ k before t less ran.
          laws.stack u size 2 k s t v before free_fit shows (ap is_safe both_go.by) less ran;
    }

  pub begins : SetsBase e word → Begins e size word s inputs
  begins sets = ⊎_elim (λ a. at_once a.0 a.1) (λ a. after_both a.2 a.3 a.1) sets
