-- Runs of the machine in parts, and as runs of a step function.
use Rattle.std.specs.Prelude.{Option, if◌then◌else◌, option_map, MatchOption, ℤ}
use Rattle.std.proofs.lemmas.Bool.{eqb-true, eq-eqb}
use Rattle.std.proofs.Math.Seq.{drop-nil}
use Rattle.std.proofs.Common.{◌≡◌, ◌+◌, ◌-◌, ◌<◌, ◌==◌, ℕ, zero, suc, Bool, true, false, List, [], ◌∷◌, ◌++◌, length, drop, Some, None}
use Rattle.std.proofs.Common.{refl, sym, ap, ◌∙◌, subst, arith, append_assoc, length-append, zero-add, add-zero}
use Rattle.ec_runs.specs.Behaviours.{On, steps, many, continued as continued_with, preceded as preceded_with, and_next, stepped_after}
use Rattle.ec_runs.proofs.Runs.{steps_are_runs}
use Rattle.ec_avr.specs.declared.machine.Access.{Access}
use Rattle.ec_avr.specs.declared.machine.Access.TheVariants.{Silent, In, Out, Read, Write, Stack}
use Rattle.ec_avr.specs.declared.machine.FaultKind.{FaultKind}
use Rattle.ec_avr.specs.declared.machine.Stepped.{Stepped}
use Rattle.ec_avr.specs.declared.machine.Stepped.TheVariants.{Ran, Ended, Fault}
use Rattle.ec_avr.specs.Machine.{State, Inputs, Run, Running, EndedWith, FaultedAt, machine, step, needs_port, read_access, answer_of}
use Rattle.ec_avr.specs.Machine.{inputs_after, continued, preceded, machine_result}
use Rattle.ec_avr.specs.Inputs.{reads_of}
use Rattle.ec_avr.specs.Runs.{answers, and_then, left_after, preceded_by, and_on, LeadsTo, Fed, MachineFault, fed, fed_after, fed_step}
use Rattle.ec_avr.specs.Runs.{behaviour_of, steps_of}
use Rattle.ec_avr.specs.Laws.{IsAnswer, MachineJoins, LeadsNowhere, LeadsOn, LeadsThrough, LeadsToWhereItStands, LeadsToItsEnd}
use Rattle.ec_avr.specs.Laws.{LeadsToItsFault, RunsLead, MachineIsSteps, MachineIsMany, MachineIsRun}
use Rattle.ec_avr.proofs.PortRead.{read_access-step}

-- ---- accesses before a run

preceded_by-append : (xs ys : List Access) (run : Run) → preceded_by (xs ++ ys) run ≡ preceded_by xs (preceded_by ys run)
preceded_by-append [] ys run = refl
preceded_by-append (x ∷ xs) ys run = ap (preceded x) (preceded_by-append xs ys run)

before-running : (trace : List Access) (s : State) → preceded_by trace (Running [] s) ≡ Running trace s
before-running [] s = refl
before-running (a ∷ trace) s = ap (preceded a) (before-running trace s)

before-ended : (trace : List Access) (result : ℤ) → preceded_by trace (EndedWith [] result) ≡ EndedWith trace result
before-ended [] result = refl
before-ended (a ∷ trace) result = ap (preceded a) (before-ended trace result)

before-faulted : (trace : List Access) (kind : FaultKind) (pc : ℕ) → preceded_by trace (FaultedAt [] kind pc) ≡ FaultedAt trace kind pc
before-faulted [] kind pc = refl
before-faulted (a ∷ trace) kind pc = ap (preceded a) (before-faulted trace kind pc)

-- ---- answers

pub answers-append : (xs ys : List Access) (port : ℕ) → answers (xs ++ ys) port ≡ answers xs port ++ answers ys port
answers-append [] ys port = refl
answers-append (Silent ∷ xs) ys port = answers-append xs ys port
answers-append (In p byte ∷ xs) ys port =
    more (p == port) (answers (xs ++ ys) port) (answers xs port) (answers ys port) (answers-append xs ys port)
  where
    more : (same : Bool) (n a b : List ℕ) → n ≡ a ++ b → (if same then byte ∷ n else n) ≡ (if same then byte ∷ a else a) ++ b
    more true n a b e = ap (λ (l : List ℕ). byte ∷ l) e
    more false n a b e = e
answers-append (Out p byte ∷ xs) ys port = answers-append xs ys port
answers-append (Read bank at byte ∷ xs) ys port = answers-append xs ys port
answers-append (Write at byte ∷ xs) ys port = answers-append xs ys port
answers-append (Stack ∷ xs) ys port = answers-append xs ys port

more_answers : (xs ys : List Access) (more : Inputs)
    → and_then (answers (xs ++ ys)) more ≡ and_then (answers xs) (and_then (answers ys) more)
more_answers xs ys more = λ i port. all port i
  where
    all : (port : ℕ) → answers (xs ++ ys) port ++ more port ≡ answers xs port ++ (answers ys port ++ more port)
    all port = ap (λ (l : List ℕ). l ++ more port) (answers-append xs ys port)
        ∙ append_assoc (answers xs port) (answers ys port) (more port)

-- the inputs after the one byte that was read, or none
after_read : (port byte : ℕ) (more : Inputs) → inputs_after (and_then (answers (In port byte ∷ [])) more) (Some port) ≡ more
after_read port byte more = λ i q. left q i
  where
    left : (q : ℕ) → (if q == port then drop 1 ((if port == q then byte ∷ [] else []) ++ more q)
        else (if port == q then byte ∷ [] else []) ++ more q) ≡ more q
    left q = both (q == port) (port == q) refl refl
      where
        both : (a b : Bool) → (q == port) ≡ a → (port == q) ≡ b
            → (if a then drop 1 ((if b then byte ∷ [] else []) ++ more q) else (if b then byte ∷ [] else []) ++ more q) ≡ more q
        both true true e f = refl
        both true false e f = cc (eq-eqb port q (sym (eqb-true q port e)), f)
        both false true e f = cc (eq-eqb q port (sym (eqb-true port q f)), e)
        both false false e f = refl

first_answer : (port byte : ℕ) (more : Inputs) → answer_of (and_then (answers (In port byte ∷ [])) more) (Some port) ≡ byte
first_answer port byte more = rw (eq-eqb port port refl) refl

-- ---- one step

-- what a step that ran says of the port that it read
data Reads (s : State) (byte : ℕ) : Access → Type 0 where
  none : (a : Access) → needs_port s ≡ None → byte ≡ 0 → ((more : Inputs) → and_then (answers (a ∷ [])) more ≡ more) → Reads s byte a
  one : (port : ℕ) → needs_port s ≡ Some port → Reads s byte (In port byte)

no_port : (a : Access) → read_access (Ran a) ≡ None → (more : Inputs) → and_then (answers (a ∷ [])) more ≡ more
no_port Silent e more = refl
no_port (In port byte) e more = cc
no_port (Out port byte) e more = refl
no_port (Read bank at byte) e more = refl
no_port (Write at byte) e more = refl
no_port Stack e more = refl

a_port : (s : State) (byte : ℕ) (a : Access) (port : ℕ) → read_access (Ran a) ≡ Some (In port byte) → needs_port s ≡ Some port
    → Reads s byte a
a_port s byte Silent port e needs = cc
a_port s byte (In p b) port e needs =
    let same : In port byte ≡ In p b = cc in
    subst (Reads s byte) same (one port needs)
a_port s byte (Out p b) port e needs = cc
a_port s byte (Read bank at b) port e needs = cc
a_port s byte (Write at b) port e needs = cc
a_port s byte Stack port e needs = cc

reads : (s : State) (byte : ℕ) (a : Access) → (step byte s).stepped ≡ Ran a → IsAnswer s byte → Reads s byte a
reads s byte a ran answered = by_port (needs_port s) refl answered
  where
    by_port : (port : Option ℕ) → needs_port s ≡ port → MatchOption port (byte ≡ 0) (λ _. Unit {0}) → Reads s byte a
    by_port None e zero_byte =
        none a e zero_byte (no_port a (sym (ap read_access ran) ∙ read_access-step byte s ∙ ap (option_map (λ (p : ℕ). In p byte)) e))
    by_port (Some port) e u =
        a_port s byte a port (sym (ap read_access ran) ∙ read_access-step byte s ∙ ap (option_map (λ (p : ℕ). In p byte)) e) e

-- the machine's step on the answer
one_step : (m : ℕ) (s : State) (byte : ℕ) (a : Access) (more : Inputs) → (step byte s).stepped ≡ Ran a → Reads s byte a
    → machine (suc m) (and_then (answers (a ∷ [])) more) s ≡ preceded a (machine m more (step byte s).state)
unfolding machine
one_step m s byte a more ran (none _ needs zero_byte nothing) =
    ap (λ (inputs : Inputs). machine (suc m) inputs s) (nothing more)
    ∙ ap (λ (port : Option ℕ).
    continued (machine m (inputs_after more port)) (step (answer_of more port) s).stepped (step (answer_of more port) s).state) needs
    ∙ ap (λ (b : ℕ). continued (machine m more) (step b s).stepped (step b s).state) (sym zero_byte)
    ∙ ap (λ (x : Stepped). continued (machine m more) x (step byte s).state) ran
one_step m s byte _ more ran (one port needs) =
    let inputs : Inputs = and_then (answers (In port byte ∷ [])) more in
    ap (λ (p : Option ℕ).
    continued (machine m (inputs_after inputs p)) (step (answer_of inputs p) s).stepped (step (answer_of inputs p) s).state) needs
    ∙ ap (λ (b : ℕ). continued (machine m (inputs_after inputs (Some port))) (step b s).stepped (step b s).state)
    (first_answer port byte more)
    ∙ ap (λ (left : Inputs). continued (machine m left) (step byte s).stepped (step byte s).state) (after_read port byte more)
    ∙ ap (λ (x : Stepped). continued (machine m more) x (step byte s).state) ran

-- ---- runs in parts

pub leads_nowhere : LeadsNowhere
leads_nowhere s m more = ap (λ (n : ℕ). machine n more s) (zero-add m)

pub leads_through : LeadsThrough
leads_through old mid new first second a b m more =
    ap (λ (n : ℕ). machine n (and_then (answers (first ++ second)) more) old) (omega (arith, length-append first second))
    ∙ ap (λ (inputs : Inputs). machine (length first + (length second + m)) inputs old) (more_answers first second more)
    ∙ a (length second + m) (and_then (answers second) more)
    ∙ ap (preceded_by first) (b m more)
    ∙ sym (preceded_by-append first second (machine m more new))

leads_one : (s : State) (byte : ℕ) (a : Access) → (step byte s).stepped ≡ Ran a → IsAnswer s byte → LeadsTo s (a ∷ []) (step byte s).state
leads_one s byte a ran answered m more =
    let one : 1 + m ≡ suc m = omega arith in
    ap (λ (n : ℕ). machine n (and_then (answers (a ∷ [])) more) s) one
    ∙ one_step m s byte a more ran (reads s byte a ran answered)

pub leads_on : LeadsOn
leads_on old cur trace byte a goes ran answered =
    leads_through old cur (step byte cur).state trace (a ∷ []) goes (leads_one cur byte a ran answered)

pub leads_to_where_it_stands : LeadsToWhereItStands
unfolding machine
leads_to_where_it_stands old new trace goes more =
    ap (λ (n : ℕ). machine n (and_then (answers trace) more) old) (sym (add-zero (length trace))) ∙ goes 0 more ∙ before-running trace new

-- a step that does not run reads no port
last_step : (m : ℕ) (s : State) (byte : ℕ) (more : Inputs) (x : Stepped) → (step byte s).stepped ≡ x → read_access x ≡ None
    → IsAnswer s byte
    → machine (suc m) more s ≡ continued (machine m more) x (step byte s).state
unfolding machine
last_step m s byte more x is unread answered = by_port (needs_port s) refl answered
  where
    by_port : (port : Option ℕ) → needs_port s ≡ port → MatchOption port (byte ≡ 0) (λ _. Unit {0})
        → machine (suc m) more s ≡ continued (machine m more) x (step byte s).state
    by_port None needs zero_byte =
        ap (λ (port : Option ℕ).
        continued (machine m (inputs_after more port)) (step (answer_of more port) s).stepped (step (answer_of more port) s).state) needs
        ∙ ap (λ (b : ℕ). continued (machine m more) (step b s).stepped (step b s).state) (sym zero_byte)
        ∙ ap (λ (y : Stepped). continued (machine m more) y (step byte s).state) is
    by_port (Some port) needs u =
        let none : None ≡ Some (In port byte) =
        sym unread ∙ sym (ap read_access is) ∙ read_access-step byte s ∙ ap (option_map (λ (p : ℕ). In p byte)) needs in
        cc

up_to : (old cur : State) (trace : List Access) (limit : ℕ) → length trace < limit → LeadsTo old trace cur → (more : Inputs)
    → machine limit (and_then (answers trace) more) old ≡ preceded_by trace (machine (suc (limit - length trace - 1)) more cur)
up_to old cur trace limit below goes more =
    ap (λ (n : ℕ). machine n (and_then (answers trace) more) old) (omega (arith, below)) ∙ goes (suc (limit - length trace - 1)) more

pub leads_to_its_end : LeadsToItsEnd
leads_to_its_end old cur trace limit byte goes below is answered more =
    up_to old cur trace limit below goes more
    ∙ ap (preceded_by trace) (last_step (limit - length trace - 1) cur byte more Ended is refl answered)
    ∙ before-ended trace (machine_result (step byte cur).state)

pub leads_to_its_fault : LeadsToItsFault
leads_to_its_fault old cur trace limit byte kind pc goes below is answered more =
    up_to old cur trace limit below goes more
    ∙ ap (preceded_by trace) (last_step (limit - length trace - 1) cur byte more (Fault kind pc) is refl answered)
    ∙ before-faulted trace kind pc

-- ---- a run that goes on leads to where it stands

-- the run before its first access
data Before (a : Access) (r : Run) (trace : List Access) (t : State) : Type 0 where
  before : (rest : List Access) → trace ≡ a ∷ rest → r ≡ Running rest t → Before a r trace t

before_first : (a : Access) (r : Run) (trace : List Access) (t : State) → preceded a r ≡ Running trace t → Before a r trace t
before_first a (Running rest u) trace t e =
    let same : a ∷ rest ≡ trace = cc in
    let there : u ≡ t = cc in
    before rest (sym same) (ap (Running rest) there)
before_first a (EndedWith rest result) trace t e = cc
before_first a (FaultedAt rest kind pc) trace t e = cc

is_answer : (inputs : Inputs) (s : State) → IsAnswer s (answer_of inputs (needs_port s))
is_answer inputs s = by_port (needs_port s)
  where
    by_port : (port : Option ℕ) → MatchOption port (answer_of inputs port ≡ 0) (λ _. Unit {0})
    by_port None = refl
    by_port (Some port) = tt

-- a first step, where shorter runs lead to where they stand
first_leads : (m : ℕ) (inputs : Inputs) (s t : State) (trace : List Access)
    → ((left : Inputs) (u : State) (rest : List Access) → machine m left u ≡ Running rest t → LeadsTo u rest t)
    → (x : Stepped) → (step (answer_of inputs (needs_port s)) s).stepped ≡ x
    → continued (machine m (inputs_after inputs (needs_port s))) x (step (answer_of inputs (needs_port s)) s).state ≡ Running trace t
    → LeadsTo s trace t
first_leads m inputs s t trace shorter (Ran a) ran e =
    on (before_first a (machine m (inputs_after inputs (needs_port s)) (step (answer_of inputs (needs_port s)) s).state) trace t e)
  where
    on : Before a (machine m (inputs_after inputs (needs_port s)) (step (answer_of inputs (needs_port s)) s).state) trace t
        → LeadsTo s trace t
    on (before rest parts first) =
        let byte = answer_of inputs (needs_port s) in
        let next = (step byte s).state in
        subst (λ (l : List Access). LeadsTo s l t) (sym parts)
        (leads_through s next t (a ∷ []) rest (leads_one s byte a ran (is_answer inputs s))
        (shorter (inputs_after inputs (needs_port s)) next rest first))
first_leads m inputs s t trace shorter Ended ran e = cc
first_leads m inputs s t trace shorter (Fault kind pc) ran e = cc

pub runs_lead : RunsLead
unfolding machine
runs_lead zero inputs s t trace e =
    let none : [] ≡ trace = cc in
    let there : s ≡ t = cc in
    subst (λ (l : List Access). LeadsTo s l t) none (subst (LeadsTo s []) there (leads_nowhere s))
runs_lead (suc m) inputs s t trace e =
    first_leads m inputs s t trace (λ left u rest. runs_lead m left u t rest) (step (answer_of inputs (needs_port s)) s).stepped refl e

-- ---- what is left of the inputs

drop-suc : (n : ℕ) (l : List ℕ) → drop (1 + n) l ≡ drop n (drop 1 l)
drop-suc n [] = drop-nil (1 + n) ∙ sym (drop-nil n)
drop-suc n (x ∷ l) = let more : 1 + n ≡ suc n = omega arith in ap (λ (k : ℕ). drop k (x ∷ l)) more

-- after one access more, by the port that its step read
left_on : (byte : ℕ) (a : Access) (port : Option ℕ) → read_access (Ran a) ≡ option_map (λ (p : ℕ). In p byte) port
    → (trace : List Access) (inputs : Inputs)
    → left_after (a ∷ trace) inputs ≡ left_after trace (inputs_after inputs port)
left_on byte Silent None e trace inputs = refl
left_on byte (Out p b) None e trace inputs = refl
left_on byte (Read bank at b) None e trace inputs = refl
left_on byte (Write at b) None e trace inputs = refl
left_on byte Stack None e trace inputs = refl
left_on byte (In p b) None e trace inputs = cc
left_on byte Silent (Some port) e trace inputs = cc
left_on byte (Out p b) (Some port) e trace inputs = cc
left_on byte (Read bank at b) (Some port) e trace inputs = cc
left_on byte (Write at b) (Some port) e trace inputs = cc
left_on byte Stack (Some port) e trace inputs = cc
left_on byte (In p b) (Some port) e trace inputs = λ i q. all q i
  where
    all : (q : ℕ) → left_after (In p b ∷ trace) inputs q ≡ left_after trace (inputs_after inputs (Some port)) q
    all q = both (p == q) (q == port) refl refl
      where
        same : p ≡ port
        same = cc

        both : (u v : Bool) → (p == q) ≡ u → (q == port) ≡ v
            → drop (if u then 1 + reads_of q trace else reads_of q trace) (inputs q)
            ≡ drop (reads_of q trace) (if v then drop 1 (inputs q) else inputs q)
        both true true f g = drop-suc (reads_of q trace) (inputs q)
        both false false f g = refl
        both true false f g = cc (eq-eqb q port (sym (eqb-true p q f) ∙ same), g)
        both false true f g = cc (eq-eqb p q (same ∙ sym (eqb-true q port g)), f)

step_left : (inputs : Inputs) (s : State) (a : Access) → (step (answer_of inputs (needs_port s)) s).stepped ≡ Ran a → (trace : List Access)
    → left_after (a ∷ trace) inputs ≡ left_after trace (inputs_after inputs (needs_port s))
step_left inputs s a ran trace =
    left_on (answer_of inputs (needs_port s)) a (needs_port s)
    (sym (ap read_access ran) ∙ read_access-step (answer_of inputs (needs_port s)) s) trace inputs

-- ---- j + k steps

and_on-preceded : (k : ℕ) (inputs left : Inputs) (a : Access) (r : Run)
    → ((trace : List Access) → left_after (a ∷ trace) inputs ≡ left_after trace left)
    → preceded a (and_on (λ trace t. machine k (left_after trace left) t) r)
    ≡ and_on (λ trace t. machine k (left_after trace inputs) t) (preceded a r)
and_on-preceded k inputs left a (Running trace t) h =
    ap (λ (rest : Inputs). preceded a (preceded_by trace (machine k rest t))) (sym (h trace))
and_on-preceded k inputs left a (EndedWith trace result) h = refl
and_on-preceded k inputs left a (FaultedAt trace kind pc) h = refl

-- a first step, where the shorter runs join
first_joins : (j k : ℕ) (inputs : Inputs) (s : State)
    → ((left : Inputs) (t : State) → machine (j + k) left t ≡ and_on (λ trace u. machine k (left_after trace left) u) (machine j left t))
    → (x : Stepped) → (step (answer_of inputs (needs_port s)) s).stepped ≡ x
    → continued (machine (j + k) (inputs_after inputs (needs_port s))) x (step (answer_of inputs (needs_port s)) s).state
    ≡ and_on (λ trace t. machine k (left_after trace inputs) t)
    (continued (machine j (inputs_after inputs (needs_port s))) x (step (answer_of inputs (needs_port s)) s).state)
first_joins j k inputs s shorter (Ran a) ran =
    let left = inputs_after inputs (needs_port s) in
    let next = (step (answer_of inputs (needs_port s)) s).state in
    ap (preceded a) (shorter left next) ∙ and_on-preceded k inputs left a (machine j left next) (step_left inputs s a ran)
first_joins j k inputs s shorter Ended ran = refl
first_joins j k inputs s shorter (Fault kind pc) ran = refl

pub machine_joins : MachineJoins
unfolding machine
machine_joins zero k inputs s = ap (λ (n : ℕ). machine n inputs s) (zero-add k)
machine_joins (suc j) k inputs s =
    let more : suc j + k ≡ suc (j + k) = omega arith in
    ap (λ (n : ℕ). machine n inputs s) more
    ∙ first_joins j k inputs s (machine_joins j k) (step (answer_of inputs (needs_port s)) s).stepped refl

-- ---- as runs of a step function

seen-preceded : (a : Access) (r : Run) → behaviour_of (preceded a r) ≡ preceded_with (a ∷ []) (behaviour_of r)
seen-preceded a (Running trace s) = refl
seen-preceded a (EndedWith trace result) = refl
seen-preceded a (FaultedAt trace kind pc) = refl

first_seen : (m : ℕ) (left : Inputs) (next : State)
    → ((inputs : Inputs) (t : State) → behaviour_of (machine m inputs t) ≡ steps fed_step (fed inputs t) m) → (x : Stepped)
    → behaviour_of (continued (machine m left) x next) ≡ continued_with (λ (f : Fed). steps fed_step f m) (fed_after left x next)
first_seen m left next shorter (Ran a) = seen-preceded a (machine m left next) ∙ ap (preceded_with (a ∷ [])) (shorter left next)
first_seen m left next shorter Ended = refl
first_seen m left next shorter (Fault kind pc) = refl

pub machine_is_steps : MachineIsSteps
unfolding machine
machine_is_steps zero inputs s = refl
machine_is_steps (suc m) inputs s =
    let next = step (answer_of inputs (needs_port s)) s in
    first_seen m (inputs_after inputs (needs_port s)) next.state (machine_is_steps m) next.stepped

pub machine_is_run : MachineIsRun
machine_is_run inputs s n k le =
    rw (machine_is_steps n inputs s, machine_is_steps k inputs s) (steps_are_runs Fed Access ℤ MachineFault fed_step (fed inputs s) n k le)

steps_of-preceded : (inputs left : Inputs) (a : Access) (r : Run)
    → ((trace : List Access) → left_after (a ∷ trace) inputs ≡ left_after trace left)
    → stepped_after (a ∷ []) (steps_of left r) ≡ steps_of inputs (preceded a r)
steps_of-preceded inputs left a (Running trace s) h = ap (λ (rest : Inputs). On (a ∷ trace) (fed rest s)) (sym (h trace))
steps_of-preceded inputs left a (EndedWith trace result) h = refl
steps_of-preceded inputs left a (FaultedAt trace kind pc) h = refl

first_many : (m : ℕ) (inputs : Inputs) (s : State)
    → ((left : Inputs) (t : State) → many fed_step m (fed left t) ≡ steps_of left (machine m left t))
    → (x : Stepped) → (step (answer_of inputs (needs_port s)) s).stepped ≡ x
    → and_next (λ (f : Fed). many fed_step m f)
    (fed_after (inputs_after inputs (needs_port s)) x (step (answer_of inputs (needs_port s)) s).state)
    ≡ steps_of inputs (continued (machine m (inputs_after inputs (needs_port s))) x (step (answer_of inputs (needs_port s)) s).state)
first_many m inputs s shorter (Ran a) ran =
    let left = inputs_after inputs (needs_port s) in
    let next = (step (answer_of inputs (needs_port s)) s).state in
    ap (stepped_after (a ∷ [])) (shorter left next) ∙ steps_of-preceded inputs left a (machine m left next) (step_left inputs s a ran)
first_many m inputs s shorter Ended ran = refl
first_many m inputs s shorter (Fault kind pc) ran = refl

pub machine_is_many : MachineIsMany
unfolding machine
machine_is_many zero inputs s = refl
machine_is_many (suc m) inputs s = first_many m inputs s (machine_is_many m) (step (answer_of inputs (needs_port s)) s).stepped refl
