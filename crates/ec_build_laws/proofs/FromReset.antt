-- What a machine shows from its reset on.
use Rattle.std.proofs.Common.{◌<◌, true, ◌≡◌, ◌≢◌, ◌⊎◌, inl, inr, ⊎_elim, ℕ, zero, suc, ◌+◌, ◌-◌, ◌≤◌, ℤ, List, [], ◌∷◌}
use Rattle.std.proofs.Common.{◌++◌, append_assoc, append-nil, refl, sym, ap, ◌∙◌, subst, arith}
use Rattle.std.specs.Prelude.{IsTrue}
use Rattle.std.proofs.lemmas.Bool.{leb-true, cases_lt}
use Rattle.ec_runs.specs.Behaviours.{Behaviour, Running as GoesOn, Ended as Ends, Failed, BeginWith, Continues}
use Rattle.ec_runs.specs.Behaviours.{Reached, IsWithin, seen_as}
use Rattle.ec_runs.proofs.Runs.{begin_onward}
use Rattle.ec_space.specs.Memory.{data_size}
use Rattle.ec_avr.specs.declared.machine.Access.{Access}
use Rattle.ec_avr.specs.declared.machine.Access.TheVariants.{Silent, In, Out, Read, Write, Stack}
use Rattle.ec_avr.specs.Inputs.{trace_of}
use Rattle.ec_avr.specs.Laws.{MachineIsRun}
use Rattle.ec_avr.specs.Machine.{State, Inputs, Run, Running, EndedWith, FaultedAt, machine}
use Rattle.ec_avr.specs.Runs.{preceded_by, behaviour_of}
use Rattle.ec_asm.specs.Behaves.{noted_run}
use Rattle.ec_asm.specs.Change.{Env, Stacked}
use Rattle.ec_asm.specs.Shows.{Fits, noted_all}
use Rattle.ec_core.specs.Laws.{MoreTurnsOnlyAdd}
use Rattle.ec_core.specs.Meaning.{source, work}
use Rattle.ec_core.specs.Plain.{PlainProgram}
use Rattle.ec_core.specs.PortTable.{plain_table}
use Rattle.ec_core.specs.State.{Event}
use Rattle.ec_core.specs.declared.values.Undefined.{Undefined}
use Rattle.ec_lower_code.specs.Code.{lowered}
use Rattle.ec_map.specs.declared.map.Map.{Map}
use Rattle.ec_locate.specs.declared.placing.Located.{Located}
use Rattle.ec_select_functions.specs.Relation.{event_accesses, accesses}
use Rattle.ec_select_startup.specs.declared.spans.Filling.{Filling}
use Rattle.ec_select_startup.specs.declared.spans.Filling.TheVariants.{Copied, Cleared}
use Rattle.ec_select_startup.specs.declared.spans.Span.{Span}
use Rattle.ec_select_startup.specs.Laws.{byte_accesses, accesses as copies_of, span_accesses, all_accesses}
use Rattle.ec_select_startup.specs.Laws.{source as source_of, target}
use Rattle.ec_select.specs.Program.{spans_of}
use Rattle.ec_avr.specs.Placed.{stack_bytes}
use Rattle.ec_asm.specs.Laws.{StackStaysInside}
use Rattle.ec_asm.specs.Run.{Running as AtWord, run, is_safe}
use Rattle.ec_map.specs.Regions.{end_of}
use Rattle.ec_select_functions.specs.Laws.{HoldsUnlessFailed}
use Rattle.std.specs.Prelude.{All}
use Rattle.std.proofs.lemmas.List.Elements.{All-weaker}
use Rattle.ec_build_laws.proofs.Guarded.{GuardLaws, are_kinds}
use Rattle.ec_build_laws.specs.Kinds.{placed, place_of}
use Rattle.ec_select_reset.specs.Laws.{all_but_silent}
use Rattle.ec_build_laws.specs.Runs.{start_steps, is_within_work, RunsAsSource, ImagesRunAsSources}
use Rattle.ec_build_laws.specs.Shown.{ports_of, ShowsFirst, StaysInStack, PushesInRegion, Comes, IsWithinSource}
use Rattle.ec_build_laws.proofs.Begun.{before_running, before_ended}
use Rattle.ec_build_laws.specs.Shown.{ImagesShowTheirSources}

-- ---- lists of accesses

accesses-append : (p : PlainProgram) (place : ℕ → ℕ) (a b : List Event) → accesses p place (a ++ b)
    ≡ accesses p place a ++ accesses p place b
accesses-append p place [] b = refl
accesses-append p place (x ∷ a) b =
    ap (λ z. event_accesses p place x ++ z) (accesses-append p place a b)
    ∙ sym (append_assoc (event_accesses p place x) (accesses p place a) (accesses p place b))

keeps : (p : PlainProgram) (place : ℕ → ℕ) (es fs : List Event) → BeginWith es fs → BeginWith (accesses p place es) (accesses p place fs)
keeps p place es fs h = record { added = accesses p place h.added; is = ap (accesses p place) h.is ∙ accesses-append p place es h.added }

-- ---- ports

ports-append : (a b : List Access) → ports_of (a ++ b) ≡ ports_of a ++ ports_of b
ports-append [] b = refl
ports-append (Silent ∷ a) b = ports-append a b
ports-append (In port byte ∷ a) b = ap (λ z. In port byte ∷ z) (ports-append a b)
ports-append (Out port byte ∷ a) b = ap (λ z. Out port byte ∷ z) (ports-append a b)
ports-append (Read bank at byte ∷ a) b = ports-append a b
ports-append (Write at byte ∷ a) b = ports-append a b
ports-append (Stack ∷ a) b = ports-append a b

-- no silent access is one
ports_aloud : (trace : List Access) → ports_of (all_but_silent trace) ≡ ports_of trace
ports_aloud [] = refl
ports_aloud (Silent ∷ trace) = ports_aloud trace
ports_aloud (In port byte ∷ trace) = ap (λ z. In port byte ∷ z) (ports_aloud trace)
ports_aloud (Out port byte ∷ trace) = ap (λ z. Out port byte ∷ z) (ports_aloud trace)
ports_aloud (Read bank at byte ∷ trace) = ports_aloud trace
ports_aloud (Write at byte ∷ trace) = ports_aloud trace
ports_aloud (Stack ∷ trace) = ports_aloud trace

-- what sets the bytes of spans are none
byte_is_none : (e : Env) (filling : Filling) (from to k : ℕ) → ports_of (byte_accesses e filling from to k) ≡ []
byte_is_none e Copied from to k = refl
byte_is_none e Cleared from to k = refl

copies_are_none : (e : Env) (filling : Filling) (from to n : ℕ) → ports_of (copies_of e filling from to n) ≡ []
copies_are_none e filling from to zero = refl
copies_are_none e filling from to (suc n) =
    ports-append (copies_of e filling from to n) (byte_accesses e filling from to n)
    ∙ ap (λ z. z ++ ports_of (byte_accesses e filling from to n)) (copies_are_none e filling from to n)
    ∙ byte_is_none e filling from to n

all_are_none : (e : Env) (spans : List Span) → ports_of (all_accesses e spans) ≡ []
all_are_none e [] = refl
all_are_none e (s ∷ spans) =
    ports-append (span_accesses e s) (all_accesses e spans)
    ∙ ap (λ z. z ++ ports_of (all_accesses e spans)) (copies_are_none e s.filling (source_of e s) (target e s) s.bytes)
    ∙ all_are_none e spans

pub quiet : (e : Env) (before start : List Access) (spans : List Span) → start ≡ before ++ Stack ∷ []
    → all_but_silent before ≡ all_accesses e spans → ports_of start ≡ []
quiet e before start spans calls copies =
    ap ports_of calls ∙ ports-append before (Stack ∷ [])
    ∙ ap (λ z. z ++ []) (sym (ports_aloud before) ∙ ap ports_of copies ∙ all_are_none e spans)

-- ---- the whole

-- where the source has a meaning after n turns, it has one after fewer
abbrev pub HasMeaning : PlainProgram → Map → Inputs → ℕ → Type 0
HasMeaning p m inputs n = (point : Undefined) → source p (plain_table m.io) inputs n ≢ Failed point

pub meaning_before : MoreTurnsOnlyAdd → (p : PlainProgram) (m : Map) (inputs : Inputs) (j k : ℕ) → j ≤ k → HasMeaning p m inputs k
    → HasMeaning p m inputs j
meaning_before turns p m inputs j k less later point failed =
    later point (by_shown (source p (plain_table m.io) inputs j) failed (turns p (plain_table m.io) inputs j k less)) where
      by_shown : (b : Behaviour Event ℤ Undefined) → b ≡ Failed point → Continues b (source p (plain_table m.io) inputs k)
          → source p (plain_table m.io) inputs k ≡ Failed point
      by_shown (Failed other) q c = c ∙ q
      by_shown (GoesOn es) q c = absurd cc
      by_shown (Ends es result) q c = absurd cc

-- a run is seen in one way as in another where its trace is
seen_alike : (f g : List Access → List Access) (run : Run) → f (trace_of run) ≡ g (trace_of run) → seen_as f (behaviour_of run)
    ≡ seen_as g (behaviour_of run)
seen_alike f g (Running trace t) h = ap GoesOn h
seen_alike f g (EndedWith trace result) h = ap (λ es. Ends es result) h
seen_alike f g (FaultedAt trace kind pc) h = refl

-- What is left of a trace is what is noted of it, after each number of steps that is `known` to be so
module _ (p : PlainProgram) (m : Map) (l : Located) (e : Env) (s : State) (inputs : Inputs) (r : RunsAsSource p m l e s inputs)
    (left : List Access → List Access) (known : ℕ → Type 0)
    (alike : (k : ℕ) → known k → noted_all e (trace_of (machine k inputs r.main)) ≡ left (trace_of (machine k inputs r.main))) where
  abbrev shown : ℕ → Behaviour Event ℤ Undefined
  shown n = source p (plain_table m.io) inputs n

  abbrev acc : List Event → List Access
  acc es = accesses p (place_of l) es

  -- ---- each part is reached

  abbrev most : ℕ → ℕ
  most n = start_steps p + work p (plain_table m.io) inputs n

  bound : (n k : ℕ) → IsTrue (is_within_work p m.io inputs n k) → r.steps + k ≤ most n
  bound n k h =
      let w = work p (plain_table m.io) inputs n in
      let a : k ≤ w = leb-true k w h in
      let few = r.few in
      omega (arith, a, few)

  comes_on : (n k : ℕ) (es : List Event) (run : Run) → machine k inputs r.main ≡ run → IsTrue (is_within_work p m.io inputs n k) → n ≤ k
      → seen_as left (behaviour_of run) ≡ GoesOn (acc es) → Comes p l left s inputs r.trace n (most n) (GoesOn es)
  comes_on n k es (Running trace t) q w least h =
      let same : left trace ≡ acc es = cc in
      let there : machine (r.steps + k) inputs s ≡ Running (r.trace ++ trace) t =
      r.on k ∙ ap (preceded_by r.trace) q ∙ before_running r.trace trace t in
      (r.steps + k, r.trace ++ trace, t, bound n k w, omega (arith, least), there, record { after = trace; is = refl; shown = same })
  comes_on n k es (EndedWith trace result) q w least h = absurd cc
  comes_on n k es (FaultedAt trace kind pc) q w least h = absurd cc

  comes_to_end : (n k : ℕ) (es : List Event) (result : ℤ) (run : Run) → machine k inputs r.main ≡ run
      → IsTrue (is_within_work p m.io inputs n k)
      → seen_as left (behaviour_of run) ≡ Ends (acc es) result → Comes p l left s inputs r.trace n (most n) (Ends es result)
  comes_to_end n k es result (Running trace t) q w h = absurd cc
  comes_to_end n k es result (EndedWith trace other) q w h =
      let same : left trace ≡ acc es = cc in
      let told : other ≡ result = cc in
      let there : machine (r.steps + k) inputs s ≡ EndedWith (r.trace ++ trace) other =
      r.on k ∙ ap (preceded_by r.trace) q ∙ before_ended r.trace trace other in (
        r.steps + k,
        r.trace ++ trace,
        bound n k w,
        there
            ∙ ap (λ z. EndedWith (r.trace ++ trace) z) told,
        record { after = trace; is = refl; shown = same },
      )
  comes_to_end n k es result (FaultedAt trace kind pc) q w h = absurd cc

  seen_left : (k : ℕ) → known k → noted_run e inputs r.main k ≡ seen_as left (behaviour_of (machine k inputs r.main))
  seen_left k ok = seen_alike (noted_all e) left (machine k inputs r.main) (alike k ok)

  pub reached : ((k : ℕ) → known k) → (n : ℕ) → Comes p l left s inputs r.trace n (most n) (shown n)
  reached all n = by_shown (shown n) (r.reaches n) where
    by_shown : (b : Behaviour Event ℤ Undefined)
        → Reached (is_within_work p m.io inputs n) (noted_run e inputs r.main) n (seen_as (accesses p (place_of l)) b)
        → Comes p l left s inputs r.trace n (most n) b
    by_shown (GoesOn es) x = comes_on n x.0 es (machine x.0 inputs r.main) refl x.1 x.2 (sym (seen_left x.0 (all x.0)) ∙ x.3)
    by_shown (Ends es result) x = comes_to_end n x.0 es result (machine x.0 inputs r.main) refl x.1 (sym (seen_left x.0 (all x.0)) ∙ x.2)
    by_shown (Failed point) x = tt

  -- ---- each step stays within the source

  abbrev Within : Behaviour Event ℤ Undefined → Run → Type 0
  Within b run = IsWithinSource p l left s inputs r.trace b run

  first : (es fs : List Event) (trace : List Access) (t : State) → BeginWith es fs → BeginWith (left trace) (acc es)
      → BeginWith (r.trace ++ trace) r.trace ⊎ ShowsFirst p l left r.trace fs (r.trace ++ trace)
  first es fs trace t more w =
      inr (record { after = trace; is = refl; shown = begin_onward (left trace) (acc es) (acc fs) w (keeps p (place_of l) es fs more) })

  same_events : (es : List Event) → BeginWith es es
  same_events es = record { added = []; is = sym (append-nil es) }

  in_main : (b c : Behaviour Event ℤ Undefined) (run : Run) → Continues b c
      → IsWithin (seen_as (accesses p (place_of l)) b) (seen_as left (behaviour_of run))
      → Within c (preceded_by r.trace run)
  in_main b (Failed point) run more w = tt
  in_main (GoesOn es) (GoesOn fs) (Running trace t) more w =
      subst (λ z. Within (GoesOn fs) z) (sym (before_running r.trace trace t)) (first es fs trace t more w)
  in_main (GoesOn es) (GoesOn fs) (EndedWith trace result) more w = absurd w
  in_main (GoesOn es) (GoesOn fs) (FaultedAt trace kind pc) more w = absurd w
  in_main (GoesOn es) (Ends fs other) (Running trace t) more w =
      subst (λ z. Within (Ends fs other) z) (sym (before_running r.trace trace t)) (first es fs trace t more w)
  in_main (GoesOn es) (Ends fs other) (EndedWith trace result) more w = absurd w
  in_main (GoesOn es) (Ends fs other) (FaultedAt trace kind pc) more w = absurd w
  in_main (Ends es result) (GoesOn fs) run more w = absurd cc
  in_main (Ends es result) (Ends fs other) (Running trace t) more w =
      let same : fs ≡ es = cc in
      subst (λ z. Within (Ends fs other) z) (sym (before_running r.trace trace t))
      (first es fs trace t (subst (λ z. BeginWith es z) (sym same) (same_events es)) w)
  in_main (Ends es result) (Ends fs other) (EndedWith trace told) more w =
      let same : fs ≡ es = cc in
      let number : other ≡ result = cc in
      subst (λ z. Within (Ends fs other) z) (sym (before_ended r.trace trace told))
      (record { after = trace; is = refl; shown = w.0 ∙ ap acc (sym same) }, w.1 ∙ sym number)
  in_main (Ends es result) (Ends fs other) (FaultedAt trace kind pc) more w = absurd w
  in_main (Failed point) (GoesOn fs) run more w = absurd cc
  in_main (Failed point) (Ends fs other) run more w = absurd cc

  before_main : (b : Behaviour Event ℤ Undefined) (run : Run) → Continues (behaviour_of run) (GoesOn r.trace) → Within b run
  before_main (Failed point) run h = tt
  before_main (GoesOn es) (Running trace t) h = inl h
  before_main (GoesOn es) (EndedWith trace result) h = absurd cc
  before_main (GoesOn es) (FaultedAt trace kind pc) h = absurd cc
  before_main (Ends es other) (Running trace t) h = inl h
  before_main (Ends es other) (EndedWith trace result) h = absurd cc
  before_main (Ends es other) (FaultedAt trace kind pc) h = absurd cc

  abbrev in_time : ℕ → ℕ
  in_time k = k - r.steps

  -- the steps in main
  main_steps : MoreTurnsOnlyAdd → (k : ℕ) → r.steps ≤ k → known (in_time k) → Within (shown k) (machine k inputs s)
  main_steps turns k late ok =
      let sum : r.steps + in_time k ≡ k = omega (arith, late) in
      let more = turns p (plain_table m.io) inputs (in_time k) k (omega arith) in
      let stays : IsWithin (seen_as acc (shown (in_time k))) (seen_as left (behaviour_of (machine (in_time k) inputs r.main))) =
      subst (λ b. IsWithin (seen_as acc (shown (in_time k))) b) (seen_left (in_time k) ok) (r.within (in_time k)) in
      let at : machine k inputs s ≡ preceded_by r.trace (machine (in_time k) inputs r.main) =
      ap (λ n. machine n inputs s) (sym sum) ∙ r.on (in_time k) in
      subst (λ z. Within (shown k) z) (sym at) (in_main (shown (in_time k)) (shown k) (machine (in_time k) inputs r.main) more stays)

  late_steps : MoreTurnsOnlyAdd → (k : ℕ) → r.steps ≤ k → (HasMeaning p m inputs k → known (in_time k)) → (b : Behaviour Event ℤ Undefined)
      → shown k ≡ b
      → Within (shown k) (machine k inputs s)
  late_steps turns k late told (Failed point) q = subst (λ b. Within b (machine k inputs s)) (sym q) tt
  late_steps turns k late told (GoesOn es) q =
      main_steps turns k late (told (λ point z. let no : GoesOn es ≡ Failed point = sym q ∙ z in cc))
  late_steps turns k late told (Ends es result) q =
      main_steps turns k late (told (λ point z. let no : Ends es result ≡ Failed point = sym q ∙ z in cc))

  pub within : MachineIsRun → MoreTurnsOnlyAdd → ((j k : ℕ) → j ≤ k → HasMeaning p m inputs k → known j) → (k : ℕ)
      → Within (shown k) (machine k inputs s)
  within is_run turns told k =
      ⊎_elim
      (λ early.
      let c = is_run inputs s k r.steps (omega (arith, early)) in
      before_main (shown k) (machine k inputs s) (subst (λ z. Continues (behaviour_of (machine k inputs s)) (behaviour_of z)) r.ran c))
      (λ late. late_steps turns k late (told (in_time k) k (omega arith)) (shown k) refl)
      (cases_lt k r.steps)

-- ---- the stack

module _ (p : PlainProgram) (m : Map) (l : Located) (e : Env) (s : State) (inputs : Inputs) (r : RunsAsSource p m l e s inputs)
    (inside : StackStaysInside) (fit : Fits e (data_size m.core))
    (told : (a : ℕ) → e.kind a ≡ Stacked → (m.stack.first ≤ a) × (a < end_of m.stack)) where
  told_stays : (t : State) → All (λ at. e.kind at ≡ Stacked) (stack_bytes t) → StaysInStack m t
  told_stays t h = All-weaker (λ at. e.kind at ≡ Stacked) (λ at. (m.stack.first ≤ at) × (at < end_of m.stack)) told (stack_bytes t) h

  -- up to the call of main
  pub start_pushes : (k : ℕ) (trace : List Access) (t : State) → k < r.steps → machine k inputs s ≡ Running trace t
      → StaysInStack m t
  start_pushes k trace t less ran = told_stays t (r.stacked k trace t less ran)

  -- and from main on
  pub pushes : (k : ℕ) (trace : List Access) (t : State) → machine k inputs r.main ≡ Running trace t
      → PushesInRegion m (source p (plain_table m.io) inputs (k + 1)) t
  pushes k trace t ran = by_shown (source p (plain_table m.io) inputs (k + 1)) (r.safe (k + 1)) where
    in_region : is_safe (run e (k + 1) (AtWord r.main.pc r.view)) ≡ true → StaysInStack m t
    in_region safe =
        told_stays t
        (inside e (data_size m.core) (k + 1) k r.main t r.view trace fit r.shown safe (omega arith)
        (subst (λ f. machine k f r.main ≡ Running trace t) (sym r.given) ran))

    by_shown : (b : Behaviour Event ℤ Undefined) → HoldsUnlessFailed b (is_safe (run e (k + 1) (AtWord r.main.pc r.view)))
        → PushesInRegion m b t
    by_shown (Failed point) h = tt
    by_shown (GoesOn es) h = in_region h
    by_shown (Ends es result) h = in_region h

-- ---- what is noted

pub images_show_their_sources : ImagesRunAsSources → MachineIsRun → MoreTurnsOnlyAdd → GuardLaws → StackStaysInside → ImagesShowTheirSources
images_show_their_sources runs is_run turns laws inside p m asm l s inputs h reset give =
    let e = placed p m asm l in
    let r = runs p m asm l s inputs h reset give in
    let fit = laws.fit p m asm l h.located h.bytes in
    let told = λ (a : ℕ) (q : e.kind a ≡ Stacked). (are_kinds laws p m asm l h).stack_told a q in
    record {
      view = r.view;
      shown = r.shown;
      initials = r.initials;
      start_stack = start_pushes p m l e s inputs r inside fit told;
      stack = pushes p m l e s inputs r inside fit told;
      steps = r.steps;
      few = r.few;
      before = r.before;
      start = r.trace;
      main = r.main;
      ran = r.ran;
      calls = r.calls;
      copies = r.copies;
      quiet = quiet e r.before r.trace (spans_of (lowered p (plain_table m.io))) r.calls r.copies;
      reached = reached p m l e s inputs r (noted_all e) (λ k. Unit {0}) (λ k ok. refl) (λ k. tt);
      within = within p m l e s inputs r (noted_all e) (λ k. Unit {0}) (λ k ok. refl) is_run turns (λ j k less later. tt);
    }
