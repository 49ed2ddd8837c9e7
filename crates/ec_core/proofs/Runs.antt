-- The laws of runs, from the one induction over two runs.
use Rattle.std.proofs.Common.{append-nil, append_assoc, ◌≡◌, ℕ, zero, suc, ◌+◌, ◌*◌, ◌≤◌, Bool, true, false, List, [], ◌∷◌, ◌++◌, Option}
use Rattle.std.proofs.Common.{Some, None, refl, sym, ap, ◌∙◌, subst, arith, zero-add, eq-eqb, eqb-true, drop, ◌≢◌}
use Rattle.ec_space.specs.Spaces.{holds}
use Rattle.ec_core.specs.Valid.{IsAddressable}
use Rattle.std.specs.Prelude.{⊤, IsTrue, IsSomeAnd, ◌==◌, if◌then◌else◌, length, slice_get, nat_lt, pos, slice_index}
use Rattle.std.specs.List.{AllByRecursion}
use Rattle.ec_iohw.specs.declared.operations.IoOp.{IoOp}
use Rattle.ec_runs.specs.Behaviours.{BeginWith, GoesOn, Continues}
use Rattle.ec_core.specs.declared.values.Undefined.TheVariants.{Unset, ConstWrite}
use Rattle.ec_core.specs.declared.values.Value.{Value}
use Rattle.ec_core.specs.declared.values.Value.TheVariants.{Number}
use Rattle.ec_core.specs.Accesses.{Access, begun, ended, frame_ended, is_readable, leaf_of, is_fixed, recorded, with_leaf, stored}
use Rattle.ec_core.specs.Accesses.{read_value, write}
use Rattle.ec_core.specs.Laws.{IsMade, Step, takes_work, reads_port, writes_port, changes_group, binds_group, reads_leaf, writes_leaf, begins_object}
use Rattle.ec_core.specs.Laws.{ends_object, ends_frame, Leads, here, onward, IsAtHome, RegistersAreSilent, RunsBySteps, EventsAreAtHome}
use Rattle.ec_core.specs.Laws.{MoreTurnsOnlyAdd, WorkNeverFalls, AgreeOn, DependsOnBytesRead, IsLater, HasLaterParts, PartsOnlyAdd}
use Rattle.ec_core.specs.Laws.{TurnsAreWork, left_of, IsTaken, BytesAreTakenInOrder}
use Rattle.ec_core.specs.Meaning.{setting, initial_state, run, behaviour_of, state_of}
use Rattle.ec_core.specs.Plain.{PlainStorage, static, local, param, register, PlainObject, PlainProgram}
use Rattle.ec_core.specs.PortAccesses.{next_byte, byte_read, bytes_read, number_read, bytes_written, updated, no_value, port_accessed}
use Rattle.ec_core.specs.PortAccesses.{is_open, within, opened, standing_port, accessed, port_effect}
use Rattle.ec_core.specs.PortOperations.{PortAction, reads, writes, updates, port_operation}
use Rattle.ec_core.specs.PortTable.{PlainPort, PlainTable}
use Rattle.ec_core.specs.State.{Inputs, Setting, Event, In, Out, Read, Write, reads_of, told, State, with_event, worked, with_object}
use Rattle.ec_core.specs.State.{with_group, Outcome, got, more, undefined, next}
use Rattle.ec_core.specs.Statements.{Exit, turns, calls_within}
use Rattle.ec_core.specs.Words.{loop_words}
use Rattle.ec_core.proofs.Growth.{IsSpent, Grows, still, turns_grow, bytes_read_leads, bytes_written_leads}
use Rattle.ec_core.proofs.Steps.{leads_on, itself, leads_add, leads_begin}
use Rattle.ec_core.proofs.TwoRuns.{Both, IsKept, rests, after_work, onwards, again_both, tested_both, values_both, places_both, rows_both}
use Rattle.ec_core.proofs.TwoRuns.{effects_both, firsts_both, call_both}

-- ---- one run

module _ (program : PlainProgram) (table : PlainTable) (inputs : Inputs) where
  abbrev Always : (A : Type 0) → Outcome A → Outcome A → Type 0
  Always A o q = ⊤

  abbrev own : Setting
  own = setting program table inputs

  -- what is out of turns has done the least work of n turns
  module _ (least n : ℕ) (le : least ≤ loop_words * n) where
    always_kept : IsKept program table inputs inputs least Always
    always_kept = record { same = λ A o. tt; onward = λ A B o q f g e h. tt }

    lead_turns : (body other : State → Outcome Exit) (test probe : State → Outcome Bool)
        → ((s : State) → Both program table inputs inputs least Always s (body s) (other s))
        → ((s : State) → Both program table inputs inputs least Always s (test s) (probe s)) → (s : State)
        → Both program table inputs inputs least Always s (turns n body test s) (turns n other probe s)
    lead_turns body other test probe b t u = record {
      related = tt;
      first = turns_grow own least n body test (λ z. (b z).first) (λ z. (t z).first) u (omega (arith, le));
      second = turns_grow own least n other probe (λ z. (b z).second) (λ z. (t z).second) u (omega (arith, le));
    }

    lead_calls : (depth f : ℕ) (xs : List Value) (s : State)
        → Both program table inputs inputs least Always s (calls_within own n depth f xs s) (calls_within own n depth f xs s)
    lead_calls zero f xs s = rests program table inputs inputs least Always always_kept s refl tt
    lead_calls (suc depth) f xs s =
        call_both program table inputs inputs least Always always_kept (λ op port i x t. tt) (calls_within own n depth)
        (calls_within own n depth) (lead_calls depth) n n lead_turns f (slice_get program.functions f) xs s

  pub calls_grow : (n depth f : ℕ) (xs : List Value) (s : State) → Grows own 0 s (calls_within own n depth f xs s)
  calls_grow n depth f xs s = (lead_calls 0 n (omega arith) depth f xs s).first

  later : {A : Type 0} {s : State} {o : Outcome A} → Grows own 0 s o → IsLater own s o
  later {A} {s} {o} g = let a = leads_add own s _ g.leads in record { steps = g.leads; events = leads_begin own s _ g.leads; work = a.work }

  pub parts_later : HasLaterParts own
  parts_later = record {
    values = λ n depth e s. later (values_both program table inputs inputs 0 Always (always_kept 0 n (omega arith)) (λ op port i x t. tt)
        (calls_within own n depth) (calls_within own n depth) (lead_calls 0 n (omega arith) depth) e s).first;
    places = λ n depth p s. later (places_both program table inputs inputs 0 Always (always_kept 0 n (omega arith)) (λ op port i x t. tt)
        (calls_within own n depth) (calls_within own n depth) (lead_calls 0 n (omega arith) depth) p s).first;
    arguments = λ n depth es s. later (rows_both program table inputs inputs 0 Always (always_kept 0 n (omega arith)) (λ op port i x t. tt)
        (calls_within own n depth) (calls_within own n depth) (lead_calls 0 n (omega arith) depth) es s).first;
    statements = λ n depth a s. later
        (effects_both program table inputs inputs 0 Always (always_kept 0 n (omega arith)) (λ op port i x t. tt) (calls_within own n depth)
        (calls_within own n depth) (lead_calls 0 n (omega arith) depth) n n (lead_turns 0 n (omega arith)) a s).first;
    first_parts = λ n depth a s. later
        (firsts_both program table inputs inputs 0 Always (always_kept 0 n (omega arith)) (λ op port i x t. tt) (calls_within own n depth)
        (calls_within own n depth) (lead_calls 0 n (omega arith) depth) n n (lead_turns 0 n (omega arith)) a s).first;
    calls = λ n depth f xs s. later (lead_calls 0 n (omega arith) depth f xs s).first;
  }

pub parts_only_add : PartsOnlyAdd
parts_only_add program table inputs = parts_later program table inputs

pub runs_lead : RunsBySteps
runs_lead program table inputs n =
    ((parts_later program table inputs).calls n (length program.functions) program.main [] (initial_state program table)).steps

pub turns_are_work : TurnsAreWork
turns_are_work program table inputs n s e =
    subst (IsSpent (loop_words * n)) e (lead_calls program table inputs (loop_words * n) n (omega arith)
    (length program.functions) program.main [] (initial_state program table)).first.spent

-- ---- more turns

module _ (program : PlainProgram) (table : PlainTable) (inputs : Inputs) where
  -- an outcome of more turns beside one of fewer
  abbrev Extends : (A : Type 0) → Outcome A → Outcome A → Type 0
  Extends A (got x s) q = q ≡ got x s
  Extends A (more s) q = Leads (setting program table inputs) s (state_of q)
  Extends A (undefined point s) q = q ≡ undefined point s

  extends_same : (A : Type 0) (o : Outcome A) → Extends A o o
  extends_same A (got x s) = refl
  extends_same A (more s) = itself s
  extends_same A (undefined point s) = refl

  leads_next : (A B : Type 0) (s : State) (q : Outcome A) (g : A → State → Outcome B)
      → Leads (setting program table inputs) s (state_of q) → ((x : A) (t : State) → Grows (setting program table inputs) 0 t (g x t))
      → Leads (setting program table inputs) s (state_of (next q g))
  leads_next A B s (got x t) g l h = leads_on l (h x t).leads
  leads_next A B s (more t) g l h = l
  leads_next A B s (undefined point t) g l h = l

  extends_onward : (A B : Type 0) (o q : Outcome A) (f g : A → State → Outcome B) → Extends A o q
      → ((x : A) (s : State) → Both program table inputs inputs 0 Extends s (f x s) (g x s)) → Extends B (next o f) (next q g)
  extends_onward A B (got x s) q f g e h = subst (λ (p : Outcome A). Extends B (f x s) (next p g)) (sym e) (h x s).related
  extends_onward A B (more s) q f g e h = leads_next A B s q g e (λ x t. (h x t).second)
  extends_onward A B (undefined point s) q f g e h = ap (λ (p : Outcome A). next p g) e

  extends_kept : IsKept program table inputs inputs 0 Extends
  extends_kept = record { same = extends_same; onward = extends_onward }

  abbrev Longer : {A : Type 0} → State → Outcome A → Outcome A → Type 0
  Longer s o q = Both program table inputs inputs 0 Extends s o q

  turns_extend : (n k : ℕ) → n ≤ k → (body other : State → Outcome Exit) (test probe : State → Outcome Bool)
      → ((s : State) → Both program table inputs inputs 0 Extends s (body s) (other s))
      → ((s : State) → Both program table inputs inputs 0 Extends s (test s) (probe s)) → (s : State)
      → Both program table inputs inputs 0 Extends s (turns n body test s) (turns k other probe s)
  turns_extend zero k le body other test probe b t s =
      let g : Grows (setting program table inputs) 0 s (turns k other probe s) =
      turns_grow (setting program table inputs) 0 k other probe (λ z. (b z).second) (λ z. (t z).second) s (omega arith) in
      record { related = g.leads; first = still (setting program table inputs) 0 s refl (omega arith); second = g }
  turns_extend (suc n) zero le body other test probe b t s = absurd (omega arith)
  turns_extend (suc n) (suc k) le body other test probe b t s =
      after_work program table inputs inputs 0 Extends extends_kept _ s
      (onwards program table inputs inputs 0 Extends extends_kept (b _) (λ x u.
      again_both program table inputs inputs 0 Extends extends_kept x u _ _ (tested_both program table inputs inputs 0 Extends extends_kept
      (t u) (λ z. turns_extend n k (omega arith) body other test probe b t z))))

  calls_extend : (n k : ℕ) → n ≤ k → (depth f : ℕ) (xs : List Value) (s : State) → Both program table inputs inputs 0 Extends s
      (calls_within (setting program table inputs) n depth f xs s) (calls_within (setting program table inputs) k depth f xs s)
  calls_extend n k le zero f xs s = rests program table inputs inputs 0 Extends extends_kept s refl tt
  calls_extend n k le (suc depth) f xs s =
      call_both program table inputs inputs 0 Extends extends_kept (λ op port i x t. extends_same Value _)
      (calls_within (setting program table inputs) n depth) (calls_within (setting program table inputs) k depth)
      (calls_extend n k le depth) n k
      (turns_extend n k le) f (slice_get program.functions f) xs s

  run_extends : (n k : ℕ) → n ≤ k → Extends Value (run program table inputs n) (run program table inputs k)
  run_extends n k le = (calls_extend n k le (length program.functions) program.main [] (initial_state program table)).related

  goes_on : (s : State) (q : Outcome Value) → Leads (setting program table inputs) s (state_of q) → GoesOn s.events (behaviour_of q)
  goes_on s (got x t) l = leads_begin _ s t l
  goes_on s (more t) l = leads_begin _ s t l
  goes_on s (undefined point t) l = tt

  continues : (o q : Outcome Value) → Extends Value o q → Continues (behaviour_of o) (behaviour_of q)
  continues (got x s) q e = ap behaviour_of e
  continues (more s) q l = goes_on s q l
  continues (undefined point s) q e = ap behaviour_of e

  work_grows : (o q : Outcome Value) → Extends Value o q → (state_of o).work ≤ (state_of q).work
  work_grows (got x s) q e = subst (λ (p : Outcome Value). s.work ≤ (state_of p).work) (sym e) (omega arith)
  work_grows (more s) q l = (leads_add _ s _ l).work
  work_grows (undefined point s) q e = subst (λ (p : Outcome Value). s.work ≤ (state_of p).work) (sym e) (omega arith)

pub more_turns_only_add : MoreTurnsOnlyAdd
more_turns_only_add program table inputs n k le = continues program table inputs _ _ (run_extends program table inputs n k le)

pub work_never_falls : WorkNeverFalls
work_never_falls program table inputs n k le =
    let h = work_grows program table inputs _ _ (run_extends program table inputs n k le) in
    omega (arith, h)

-- ---- events

pub events_are_at_home : EventsAreAtHome
events_are_at_home program table inputs n =
    let a = leads_add (setting program table inputs) (initial_state program table) _ (runs_lead program table inputs n) in
    subst (AllByRecursion (IsAtHome program)) (sym a.is) a.home

-- ---- named registers

silent_record : (storage : PlainStorage) (first : ℕ) (e : Event) (s : State) → storage ≡ register first
    → (recorded storage e s).events ≡ s.events
silent_record (static inits) first e s h = cc
silent_record (local f) first e s h = cc
silent_record (param f) first e s h = cc
silent_record (register r) first e s h = refl

silent_value : (program : PlainProgram) (a : Access) (v : Option Value) (s : State) (first : ℕ) → a.declared.storage ≡ register first
    → (state_of (read_value program a v s)).events ≡ s.events
silent_value program a None s first h = refl
silent_value program a (Some v) s first h = readable (is_readable program v s)
  where
    readable : (b : Bool) → (state_of
        (if b then got v (recorded a.declared.storage (Read a.object a.leaf a.space (told v)) s) else undefined Unset s)).events ≡ s.events
    readable true = silent_record a.declared.storage first _ s h
    readable false = refl

silent_write : (a : Access) (v : Value) (s : State) (first : ℕ) → a.declared.storage ≡ register first
    → (state_of (write (Some a) v s)).events ≡ s.events
silent_write a v s first h = fixed_or (is_fixed a.declared)
  where
    fixed_or : (b : Bool) → (state_of (if b then undefined ConstWrite s else got v (stored a v s))).events ≡ s.events
    fixed_or true = refl
    fixed_or false = silent_record a.declared.storage first _ _ h

pub registers_are_silent : RegistersAreSilent
registers_are_silent program a s first h = record {
  read = silent_value program a (leaf_of a.state a.leaf) s first h;
  write = λ v. silent_write a v s first h;
}

-- ---- inputs

reads_of-append : (port : ℕ) (es fs : List Event) → reads_of port (es ++ fs) ≡ reads_of port es + reads_of port fs
reads_of-append port [] fs = sym (zero-add (reads_of port fs))
reads_of-append port (In p byte ∷ es) fs =
    counted (p == port) (reads_of port (es ++ fs)) (reads_of port es) (reads_of port fs) (reads_of-append port es fs)
  where
    counted : (c : Bool) (l m n : ℕ) → l ≡ m + n → (if c then 1 + l else l) ≡ (if c then 1 + m else m) + n
    counted true l m n e = omega arith
    counted false l m n e = e
reads_of-append port (Out p byte ∷ es) fs = reads_of-append port es fs
reads_of-append port (Read o k space v ∷ es) fs = reads_of-append port es fs
reads_of-append port (Write o k space v ∷ es) fs = reads_of-append port es fs

reads_of-read : (port byte : ℕ) (es : List Event) → reads_of port (es ++ In port byte ∷ []) ≡ reads_of port es + 1
reads_of-read port byte es =
    reads_of-append port es (In port byte ∷ []) ∙ ap (λ c. reads_of port es + (if c then 1 + 0 else 0)) (eq-eqb port port refl)

module _ (program : PlainProgram) (table : PlainTable) (a b : Inputs) where
  agree_before : (es fs : List Event) → BeginWith es fs → AgreeOn fs a b → AgreeOn es a b
  agree_before es fs c h port k lt =
      let e : reads_of port fs ≡ reads_of port es + reads_of port c.added = ap (reads_of port) c.is ∙ reads_of-append port es c.added in
      h port k (omega arith)

  agree_in : (s t : State) → Leads (setting program table a) s t → AgreeOn t.events a b → AgreeOn s.events a b
  agree_in s t l h = agree_before s.events t.events (leads_begin _ s t l) h

  -- outcomes on two inputs that agree as far as the first reads
  abbrev Agrees : (A : Type 0) → Outcome A → Outcome A → Type 0
  Agrees A o q = AgreeOn (state_of o).events a b → o ≡ q

  agrees_onward : (A B : Type 0) (o q : Outcome A) (f g : A → State → Outcome B) → Agrees A o q
      → ((x : A) (s : State) → Both program table a b 0 Agrees s (f x s) (g x s)) → Agrees B (next o f) (next q g)
  agrees_onward A B (got x s) q f g e h agree =
      subst (λ (p : Outcome A). f x s ≡ next p g) (e (agree_in s _ (h x s).first.leads agree)) ((h x s).related agree)
  agrees_onward A B (more s) q f g e h agree = ap (λ (p : Outcome A). next p g) (e agree)
  agrees_onward A B (undefined point s) q f g e h agree = ap (λ (p : Outcome A). next p g) (e agree)

  agrees_kept : IsKept program table a b 0 Agrees
  agrees_kept = record { same = λ A o agree. refl; onward = agrees_onward }

  -- ports

  record IsReadAlike (n port : ℕ) (s : State) : Type 0 where
    state : bytes_read a n port s ≡ bytes_read b n port s
    number : number_read a n port s ≡ number_read b n port s

  reads_alike : (n port : ℕ) (s : State) → AgreeOn (bytes_read a n port s).events a b → IsReadAlike n port s
  reads_alike zero port s agree = record { state = refl; number = refl }
  reads_alike (suc n) port s agree =
      let before : AgreeOn (byte_read a port s).events a b =
      agree_in _ _ (bytes_read_leads (setting program table a) 0 n (port + 1) (byte_read a port s)) agree in
      let count : reads_of port (byte_read a port s).events ≡ reads_of port s.events + 1 =
      reads_of-read port (next_byte a port s) s.events in
      let byte : next_byte a port s ≡ next_byte b port s = before port (reads_of port s.events) (omega arith) in
      let after_one : byte_read a port s ≡ byte_read b port s = ap (λ x. with_event (In port x) s) byte in
      let rest = reads_alike n (port + 1) (byte_read a port s) agree in
      record {
        state = rest.state ∙ ap (bytes_read b n (port + 1)) after_one;
        number = ap (λ x. x + 256 * number_read a n (port + 1) (byte_read a port s)) byte
            ∙ ap (λ x. next_byte b port s + 256 * x) (rest.number ∙ ap (number_read b n (port + 1)) after_one);
      }

  accessed_alike : (action : PortAction) (op : IoOp) (width port x : ℕ) (s : State)
      → Agrees Value (port_accessed a action op width port x s) (port_accessed b action op width port x s)
  accessed_alike reads op width port x s agree =
      let r = reads_alike width port s agree in
      ap (λ m. got (Number (pos m)) (bytes_read a width port s)) r.number ∙ ap (got (Number (pos (number_read b width port s)))) r.state
  accessed_alike writes op width port x s agree = refl
  accessed_alike updates op width port x s agree =
      let r = reads_alike width port s
      (agree_in _ _ (bytes_written_leads (setting program table a) 0 width port _ (bytes_read a width port s)) agree) in
      ap (λ m. got no_value (bytes_written width port (updated op m x) (bytes_read a width port s))) r.number
      ∙ ap (λ t. got no_value (bytes_written width port (updated op (number_read b width port s) x) t)) r.state

  within_alike : (c : Bool) (op : IoOp) (port : PlainPort) (i x : ℕ) (s : State)
      → Agrees Value (within a c op port i x s) (within b c op port i x s)
  within_alike true op port i x s agree = accessed_alike (port_operation op).action op port.width _ x s agree
  within_alike false op port i x s agree = refl

  opened_alike : (c : Bool) (op : IoOp) (port : PlainPort) (i x : ℕ) (s : State)
      → Agrees Value (opened a c op port i x s) (opened b c op port i x s)
  opened_alike true op port i x s agree = within_alike (nat_lt i port.count) op port i x s agree
  opened_alike false op port i x s agree = refl

  accesses_alike : (op : IoOp) (port : Option PlainPort) (i x : ℕ) (s : State)
      → Agrees Value (accessed a op port i x s) (accessed b op port i x s)
  accesses_alike op None i x s agree = refl
  accesses_alike op (Some port) i x s agree = opened_alike (is_open port.group s) op port i x s agree

  effect_alike : (op : IoOp) (port : Option PlainPort) (i x : Value) (s : State)
      → Agrees Value (port_effect a table op port i x s) (port_effect b table op port i x s)
  effect_alike op None i x s agree = refl
  effect_alike op (Some port) i x s agree = accesses_alike op (standing_port table port port.dynamic s) _ _ s agree

  turns_agree : (n : ℕ) (body other : State → Outcome Exit) (test probe : State → Outcome Bool)
      → ((s : State) → Both program table a b 0 Agrees s (body s) (other s))
      → ((s : State) → Both program table a b 0 Agrees s (test s) (probe s)) → (s : State)
      → Both program table a b 0 Agrees s (turns n body test s) (turns n other probe s)
  turns_agree zero body other test probe c t s = rests program table a b 0 Agrees agrees_kept s refl (omega arith)
  turns_agree (suc n) body other test probe c t s =
      after_work program table a b 0 Agrees agrees_kept _ s (onwards program table a b 0 Agrees agrees_kept (c _) (λ x u.
      again_both program table a b 0 Agrees agrees_kept x u _ _
      (tested_both program table a b 0 Agrees agrees_kept (t u) (λ z. turns_agree n body other test probe c t z))))

  calls_agree : (n depth f : ℕ) (xs : List Value) (s : State) → Both program table a b 0 Agrees s
      (calls_within (setting program table a) n depth f xs s) (calls_within (setting program table b) n depth f xs s)
  calls_agree n zero f xs s = rests program table a b 0 Agrees agrees_kept s refl tt
  calls_agree n (suc depth) f xs s =
      call_both program table a b 0 Agrees agrees_kept effect_alike (calls_within (setting program table a) n depth)
      (calls_within (setting program table b) n depth) (calls_agree n depth) n n
      (turns_agree n) f (slice_get program.functions f) xs s

pub depends_on_bytes_read : DependsOnBytesRead
depends_on_bytes_read program table a b n =
    (calls_agree program table a b n (length program.functions) program.main [] (initial_state program table)).related

-- ---- the bytes that are left

reads_of-other : (port other byte : ℕ) (es : List Event) → other ≢ port → reads_of other (es ++ In port byte ∷ []) ≡ reads_of other es
reads_of-other port other byte es h = reads_of-append other es (In port byte ∷ []) ∙ by_test (port == other) refl
  where
    by_test : (c : Bool) → (port == other) ≡ c → reads_of other es + (if c then 1 + 0 else 0) ≡ reads_of other es
    by_test true e = absurd (h (sym (eqb-true port other e)))
    by_test false e = omega arith

first_left : (xs : List ℕ) (k : ℕ) → slice_index xs k ≡ slice_index (drop k xs) 0
first_left [] zero = refl
first_left [] (suc k) = refl
first_left (x ∷ xs) zero = refl
first_left (x ∷ xs) (suc k) = first_left xs k

rest_after : (xs : List ℕ) (k : ℕ) → drop (suc k) xs ≡ drop 1 (drop k xs)
rest_after [] zero = refl
rest_after [] (suc k) = refl
rest_after (x ∷ xs) zero = refl
rest_after (x ∷ xs) (suc k) = rest_after xs k

rest_left : (xs : List ℕ) (k : ℕ) → drop (k + 1) xs ≡ drop 1 (drop k xs)
rest_left xs k = let n : k + 1 ≡ suc k = omega arith in ap (λ j. drop j xs) n ∙ rest_after xs k

pub bytes_are_taken_in_order : BytesAreTakenInOrder
bytes_are_taken_in_order inputs port s = record {
  first = first_left (inputs port) (reads_of port s.events);
  rest = ap (λ k. drop k (inputs port)) (reads_of-read port (next_byte inputs port s) s.events)
      ∙ rest_left (inputs port) (reads_of port s.events);
  others = λ other h. ap (λ k. drop k (inputs other)) (reads_of-other port other (next_byte inputs port s) s.events h);
}
