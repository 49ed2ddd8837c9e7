-- What operations come to, one by one and after one another.
use Rattle.std.proofs.Common.{◌≡◌, ℕ, zero, suc, ◌+◌, ◌<◌, ◌≤◌, false, List, [], ◌∷◌, ◌++◌, Some, refl, sym, ap, ◌∙◌, subst}
use Rattle.std.proofs.Common.{arith, eq-eqb, append_assoc}
use Rattle.std.specs.Prelude.{⊤, ◌==◌, if◌then◌else◌}
use Rattle.std.proofs.lemmas.Grind.{common_steps}
use Rattle.ec_core.specs.declared.values.Undefined.TheVariants.{Unset}
use Rattle.ec_core.specs.declared.values.Value.{Value}
use Rattle.ec_core.specs.Accesses.{recorded}
use Rattle.ec_core.specs.Layout.{scalar_size, IsScalar}
use Rattle.ec_core.specs.Plain.{PlainType, PlainStorage, static, local, param, register, PlainProgram}
use Rattle.ec_core.specs.PortTable.{PlainTable}
use Rattle.ec_core.specs.State.{Inputs, Event, State, with_event, worked, Outcome, got, more, undefined, next, given}
use Rattle.ec_core.specs.ValueTypes.{HasType}
use Rattle.ec_ir.specs.Costs.{op_words, op_steps}
use Rattle.ec_ir.specs.Meaning.{Mach, machine, held_as, Frame, active, Place, place, find, exec_from, exec}
use Rattle.ec_ir.specs.Operations.{PlainIr, label, PlainIrFunction}
use Rattle.ec_ir.specs.Temporaries.{content_of, value_of_type, Held, Temps, with_held, read_held, held}
use Rattle.ec_lower_code.specs.Code.{temp}
use Rattle.ec_lower_code.proofs.Numbers.{typed_back}
use Rattle.ec_lower_code.proofs.Shown.{shown, held_of, Match, Stopped}

-- ---- temporaries

pub held_at : (t : ℕ) (h : Held) (temps : Temps) → with_held t h temps t ≡ Some h
held_at t h temps = ap (λ b. if b then Some h else temps t) (eq-eqb t t refl)

pub held_below : (t : ℕ) (h : Held) (temps : Temps) (i : ℕ) → i < t → with_held t h temps i ≡ temps i
held_below t h temps i lt = let e : (i == t) ≡ false = grind (arith, common_steps) in ap (λ b. if b then Some h else temps i) e

pub held_above : (t : ℕ) (h : Held) (temps : Temps) → with_held t h temps (t + 1) ≡ temps (t + 1)
held_above t h temps = let e : (t + 1 == t) ≡ false = grind (arith, common_steps) in ap (λ b. if b then Some h else temps (t + 1)) e

-- a temporary is read as it was written
pub held_is : (ty : PlainType) (t : ℕ) (v : Value) (temps : Temps) (s : State) → temps t ≡ Some (held_of ty v)
    → held (temp t ty) temps s ≡ got (content_of (scalar_size ty) (shown v)) s
held_is ty t v temps s e =
    ap (λ z. read_held (scalar_size ty) z s) e
    ∙ ap (λ b. if b then got (content_of (scalar_size ty) (shown v)) s else undefined Unset s)
    (eq-eqb (scalar_size ty) (scalar_size ty) refl)

pub held_as_is : (program : PlainProgram) (ty : PlainType) (t : ℕ) (v : Value) (temps : Temps) (s : State) → IsScalar ty
    → HasType program ty v → temps t ≡ Some (held_of ty v) → held_as program ty (temp t ty) temps s ≡ got (shown v) s
held_as_is program ty t v temps s i h e =
    ap (λ z. next z (λ content s1. given (value_of_type program ty content) s1)) (held_is ty t v temps s e)
    ∙ ap (λ r. given r s) (typed_back program ty v i h)

-- ---- places

-- where a run stands: at a place in the code, or at its end
pub data Target : Type 0 where
  at : Place → Target
  over : Value → Target

-- a place in the code
abbrev pub Stands : List PlainIr → List PlainIr → Type 0
Stands code rest = (pre : List PlainIr) × (code ≡ pre ++ rest)

-- each label is found where it stands
abbrev pub Resolves : List PlainIr → Type 0
Resolves code = (l : ℕ) (rest : List PlainIr) → Stands code (label l ∷ rest) → find l code ≡ Some rest

pub behind : (code : List PlainIr) (i : PlainIr) (rest : List PlainIr) → Stands code (i ∷ rest) → Stands code rest
behind code i rest h = (h.0 ++ i ∷ [], h.1 ∙ sym (append_assoc h.0 (i ∷ []) rest))

-- one outcome is another one, or stops where that one stops, with no more work
pub data Stops (a b : Outcome Value) : Type 0 where
  same : a ≡ b → Stops a b
  sooner : (s t : State) → a ≡ more s → b ≡ more t → s.objects ≡ t.objects → s.events ≡ t.events → s.work ≤ t.work → Stops a b

abbrev pub stop : State → Outcome Value
stop s = more s

state_same : (s t : State) → stop s ≡ stop t → s ≡ t
state_same s t e = cc

pub stops_on : (a b c : Outcome Value) → Stops a b → Stops b c → Stops a c
stops_on a b c (same p) (same q) = same (p ∙ q)
stops_on a b c (same p) (sooner s t e f o v w) = sooner s t (p ∙ e) f o v w
stops_on a b c (sooner s t e f o v w) (same q) = sooner s t e (sym q ∙ f) o v w
stops_on a b c (sooner s t e f o v w) (sooner s2 t2 e2 f2 o2 v2 w2) =
    let g : t ≡ s2 = state_same t s2 (sym f ∙ e2) in
    let x = ap (λ (q : State). q.objects) g in let y = ap (λ (q : State). q.events) g in let z = ap (λ (q : State). q.work) g in
    sooner s t2 e f2 (o ∙ x ∙ o2) (v ∙ y ∙ v2) (omega (arith, w, z, w2))

-- a machine's program: its functions, objects and structs, the table of its ports, and inputs; the operations of the
-- active function, and the calls that wait
pub record Spot : Type 0 where
  pub functions : List PlainIrFunction
  pub program : PlainProgram
  pub table : PlainTable
  pub inputs : Inputs
  pub code : List PlainIr
  pub stack : List Frame

module _ (w : Spot) where
  -- the functions that are active there
  abbrev pub around : List ℕ
  around = active w.program.main w.stack

  abbrev pub here : List PlainIr → Place
  here rest = place w.code w.stack rest

  abbrev pub goes : ℕ → List PlainIr → Mach → Outcome Value
  goes k rest m = exec_from w.functions w.program w.inputs k w.code w.stack rest m

  abbrev pub execs : ℕ → Place → Mach → Outcome Value
  execs k p m = exec w.functions w.program w.inputs k p m

  abbrev pub resume : ℕ → Target → Mach → Outcome Value
  resume k (at p) m = execs k p m
  resume k (over v) m = got v m.state

  -- the machine goes from one state to another
  pub record Comes (p : Place) (m : Mach) (to : Target) (u : Mach) : Type 0 where
    pub by : (k : ℕ) → (j : ℕ) × (k ≤ j) × Stops (execs j p m) (resume k to u)

  -- and makes an operation on its way that counts
  pub record Passes (p : Place) (m : Mach) (to : Target) (u : Mach) : Type 0 where
    pub by : (k : ℕ) → (j : ℕ) × (suc k ≤ j) × Stops (execs j p m) (resume k to u)

  -- what the operations do, of which the source tells an outcome: R holds where a value is, or they go on
  abbrev pub Does : {A : Type 0} → ℕ → Place → Mach → (A → Target) → (A → State → Mach → Type 0) → Outcome A → Type 0
  Does n p m to R (got a s) = (u : Mach) × R a s u × Comes p m (to a) u
  Does n p m to R (more s) = (j : ℕ) × (u : Mach) × (n ≤ j) × Stopped s u × (execs j p m ≡ more u.state)
  Does n p m to R (undefined point s) = ⊤

  abbrev pub Runs : {A : Type 0} → ℕ → List PlainIr → Mach → (A → Target) → (A → State → Mach → Type 0) → Outcome A → Type 0
  Runs n rest m to R o = Does n (here rest) m to R o

  pub stays : (p : Place) (m : Mach) → Comes p m (at p) m
  stays p m = record { by = λ k. (k, omega arith, same refl) }

  pub comes_on : (p q : Place) (m u v : Mach) (to : Target) → Comes p m (at q) u → Comes q u to v → Comes p m to v
  comes_on p q m u v to a b = record {
    by = λ k. let y = b.by k in let x = a.by y.0 in
        (x.0, omega (arith, x.1, y.1), stops_on _ _ _ x.2 y.2);
  }

  pub passes_on : (p q : Place) (m u v : Mach) (to : Target) → Passes p m (at q) u → Comes q u to v → Passes p m to v
  passes_on p q m u v to a b = record {
    by = λ k. let y = b.by k in let x = a.by y.0 in
        (x.0, omega (arith, x.1, y.1), stops_on _ _ _ x.2 y.2);
  }

  pub passes_come : (p : Place) (m : Mach) (to : Target) (u : Mach) → Passes p m to u → Comes p m to u
  passes_come p m to u a = record { by = λ k. let x = a.by k in (x.0, omega (arith, x.1), x.2) }

  -- an operation that computes, or a label
  pub computes : (i : PlainIr) (rest : List PlainIr) (m u : Mach) → ((k : ℕ) → goes (suc k) (i ∷ rest) m ≡ goes (suc k) rest u)
      → m.state.objects ≡ u.state.objects → m.state.events ≡ u.state.events → m.state.work ≤ u.state.work → Comes (here (i ∷ rest)) m
      (at (here rest)) u
  computes i rest m u c o e h = record { by = λ k. by_fuel k }
    where
      by_fuel : (k : ℕ) → (j : ℕ) × (k ≤ j) × Stops (execs j (here (i ∷ rest)) m) (execs k (here rest) u)
      by_fuel zero = (0, omega arith, sooner m.state u.state refl refl o e h)
      by_fuel (suc k) = (suc k, omega arith, same (c k))

  -- an operation that counts
  pub passes : (rest : List PlainIr) (q : Place) (m u : Mach) → ((k : ℕ) → goes (suc k) rest m ≡ execs k q u)
      → Passes (here rest) m (at q) u
  passes rest q m u c = record { by = λ k. (suc k, omega arith, same (c k)) }

  pub counts : (rest : List PlainIr) (q : Place) (m u : Mach) → ((k : ℕ) → goes (suc k) rest m ≡ execs k q u) → Comes (here rest) m (at q) u
  counts rest q m u c = passes_come (here rest) m (at q) u (passes rest q m u c)

  sooner_match : (s : State) (u : Mach) (t r : State) → stop u.state ≡ stop r → t.events ≡ r.events → t.work ≤ r.work
      → Stopped s u → Stopped s (machine u.temps t)
  sooner_match s u t r e v h m =
      let g : u.state ≡ r = state_same u.state r e in
      record {
        events = v ∙ sym (ap (λ (q : State). q.events) g) ∙ m.events;
        spent = let x = ap (λ (q : State). q.work) g in let y = m.spent in omega (arith, x, y, h);
      }

  module _ {A : Type 0} (to : A → Target) (R : A → State → Mach → Type 0) where
    -- where a run stops behind a step, it can be stopped before it
    stopped : (n : ℕ) (p : Place) (m : Mach) (s : State) (u : Mach) (i : ℕ) (o : Outcome Value) → n ≤ i → Stopped s u
        → Stops (execs i p m) o → o ≡ more u.state → (j : ℕ) × (u : Mach) × (n ≤ j) × Stopped s u × (execs j p m ≡ more u.state)
    stopped n p m s u i o le h (same e) f = (i, u, le, h, e ∙ f)
    stopped n p m s u i o le h (sooner t r e f2 ob ev wk) f = (i, machine u.temps t, le, sooner_match s u t r (sym f ∙ f2) ev wk h, e)

    pub after : (n : ℕ) (p q : Place) (m u : Mach) (o : Outcome A) → Comes p m (at q) u → Does n q u to R o → Does n p m to R o
    after n p q m u (got a s) c d = (d.0, d.1, comes_on p q m u d.0 (to a) c d.2)
    after n p q m u (more s) c d = let x = c.by d.0 in stopped n p m s d.1 x.0 (execs d.0 q u) (omega (arith, x.1, d.2)) d.3 x.2 d.4
    after n p q m u (undefined point s) c d = tt

    -- operations of which one counts
    pub after_pass : (n : ℕ) (p q : Place) (m u : Mach) (o : Outcome A) → Passes p m (at q) u → Does n q u to R o
        → Does (suc n) p m to R o
    after_pass n p q m u (got a s) c d = (d.0, d.1, comes_on p q m u d.0 (to a) (passes_come p m (at q) u c) d.2)
    after_pass n p q m u (more s) c d =
        let x = c.by d.0 in stopped (suc n) p m s d.1 x.0 (execs d.0 q u) (omega (arith, x.1, d.2)) d.3 x.2 d.4
    after_pass n p q m u (undefined point s) c d = tt

    pub fewer : (n k : ℕ) (p : Place) (m : Mach) (o : Outcome A) → k ≤ n → Does n p m to R o → Does k p m to R o
    fewer n k p m (got a s) le d = d
    fewer n k p m (more s) le d = (d.0, d.1, omega (arith, le, d.2), d.3, d.4)
    fewer n k p m (undefined point s) le d = tt

    pub ends : (n : ℕ) (p q : Place) (m u : Mach) (a : A) (s : State) → to a ≡ at q → Comes p m (at q) u → R a s u
        → Does n p m to R (got a s)
    ends n p q m u a s e c r = (u, r, subst (λ z. Comes p m z u) (sym e) c)

    -- what is known of an outcome besides
    pub strengthened : (S : A → State → Mach → Type 0) (n : ℕ) (p : Place) (m : Mach) (o : Outcome A)
        → ((a : A) (s : State) (u : Mach) → o ≡ got a s → R a s u → S a s u) → Does n p m to R o → Does n p m to S o
    strengthened S n p m (got a s) f d = (d.0, f a s d.0 refl d.1, d.2)
    strengthened S n p m (more s) f d = d
    strengthened S n p m (undefined point s) f d = tt

  pub bind : {A B : Type 0} (n : ℕ) (p : Place) (m : Mach) (via : A → Target) (R : A → State → Mach → Type 0) (to : B → Target)
      (Q : B → State → Mach → Type 0) (q : Place) (o : Outcome A) (go : A → State → Outcome B) → ((a : A) → via a ≡ at q)
      → Does n p m via R o → ((a : A) (s : State) (u : Mach) → R a s u → Does n q u to Q (go a s)) → Does n p m to Q (next o go)
  bind {A} {B} n p m via R to Q q (got a s) go e d f = after to Q n p q m d.0 (go a s) (subst (λ z. Comes p m z d.0) (e a) d.2)
      (f a s d.0 d.1)
  bind n p m via R to Q q (more s) go e d f = d
  bind n p m via R to Q q (undefined point s) go e d f = tt

  -- from where a value is on to another place
  pub onward : {A : Type 0} (n : ℕ) (p q : Place) (m : Mach) (via : A → Target) (R : A → State → Mach → Type 0) (to : A → Target)
      (Q : A → State → Mach → Type 0) (o : Outcome A) → ((a : A) → via a ≡ at q) → Does n p m via R o
      → ((a : A) (s : State) (u : Mach) → R a s u → Does n q u to Q (got a s)) → Does n p m to Q o
  onward {A} n p q m via R to Q (got a s) e d f = after to Q n p q m d.0 (got a s) (subst (λ z. Comes p m z d.0) (e a) d.2) (f a s d.0 d.1)
  onward n p q m via R to Q (more s) e d f = d
  onward n p q m via R to Q (undefined point s) e d f = tt

-- ---- work

module _ (program : PlainProgram) (table : PlainTable) {fs : List ℕ} where
  -- the work of a part comes first
  pub credited : (w d : ℕ) (s : State) (m : Mach) → Match program table fs d s m → Match program table fs (d + w) (worked w s) m
  credited w d s m h = record { objects = h.objects; cells = h.cells; events = h.events; spent = let e = h.spent in omega (arith, e) }

  -- an operation within it
  pub spent_on : (d e : ℕ) (i : PlainIr) (temps : Temps) (s : State) (m : Mach) → op_words i + e ≤ d → Match program table fs d s m
      → Match program table fs e s (machine temps (worked (op_steps i) m.state))
  spent_on d e i temps s m le h =
      record { objects = h.objects; cells = h.cells; events = h.events; spent = let k = h.spent in omega (arith, k, le) }

  pub less : (d e : ℕ) (s : State) (m : Mach) → e ≤ d → Match program table fs d s m → Match program table fs e s m
  less d e s m le h = record { objects = h.objects; cells = h.cells; events = h.events; spent = let k = h.spent in omega (arith, k, le) }

  -- the same event on both sides
  pub event_match : (e : Event) (d : ℕ) (s : State) (temps : Temps) (t : State) → Match program table fs d s (machine temps t)
      → Match program table fs d (with_event e s) (machine temps (with_event e t))
  event_match e d s temps t h =
      record { objects = h.objects; cells = h.cells; events = ap (λ es. es ++ e ∷ []) h.events; spent = h.spent }

  pub record_match : (storage : PlainStorage) (e : Event) (d : ℕ) (s : State) (temps : Temps) (t : State)
      → Match program table fs d s (machine temps t)
      → Match program table fs d (recorded storage e s) (machine temps (recorded storage e t))
  record_match (static inits) e d s temps t h = event_match e d s temps t h
  record_match (local f) e d s temps t h = event_match e d s temps t h
  record_match (param f) e d s temps t h = event_match e d s temps t h
  record_match (register r) e d s temps t h = h
