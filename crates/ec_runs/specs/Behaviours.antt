-- What is seen of a run: of a program, of intermediate code or of a machine.
use Rattle.std.specs.Prelude.{◌≡◌, ⊤, Bool, IsTrue, ℕ, zero, suc, ◌≤◌, List, [], ◌++◌}

-- ---- behaviours

-- After some steps, or some turns of loops, a run goes on with its events so far, or it ended with all its events and a
-- result, or it failed: it has no meaning there
pub data Behaviour (E R F : Type 0) : Type 0 where
  Running : List E → Behaviour E R F
  Ended : List E → R → Behaviour E R F
  Failed : F → Behaviour E R F

-- some events, and more after them
pub record BeginWith {E : Type 0} (es fs : List E) : Type 0 where
  pub added : List E
  pub is : fs ≡ es ++ added

-- ---- runs

-- how a run that goes on is seen later
abbrev pub GoesOn : {E R F : Type 0} → List E → Behaviour E R F → Type 0
GoesOn es (Running fs) = BeginWith es fs
GoesOn es (Ended fs result) = BeginWith es fs
GoesOn es (Failed reason) = ⊤

-- how a run is seen later: one that ended or failed stays as it is
abbrev pub Continues : {E R F : Type 0} → Behaviour E R F → Behaviour E R F → Type 0
Continues (Running es) b = GoesOn es b
Continues (Ended es result) b = b ≡ Ended es result
Continues (Failed reason) b = b ≡ Failed reason

-- behaviours by the number of steps: more steps only add
abbrev pub IsRun : {E R F : Type 0} → (ℕ → Behaviour E R F) → Type 0
IsRun run = (n k : ℕ) → n ≤ k → Continues (run n) (run k)

-- ---- runs of a step function

-- a step: it goes on in a state, ends, or fails
pub data Stepped (S E R F : Type 0) : Type 0 where
  On : List E → S → Stepped S E R F
  End : List E → R → Stepped S E R F
  Fail : F → Stepped S E R F

-- a behaviour after some events
abbrev pub preceded : {E R F : Type 0} → List E → Behaviour E R F → Behaviour E R F
preceded es (Running fs) = Running (es ++ fs)
preceded es (Ended fs result) = Ended (es ++ fs) result
preceded es (Failed reason) = Failed reason

abbrev pub continued : {S E R F : Type 0} → (S → Behaviour E R F) → Stepped S E R F → Behaviour E R F
continued rest (On es s) = preceded es (rest s)
continued rest (End es result) = Ended es result
continued rest (Fail reason) = Failed reason

-- at most so many steps
abbrev pub steps : {S E R F : Type 0} → (S → Stepped S E R F) → S → ℕ → Behaviour E R F
steps step s zero = Running []
steps step s (suc n) = continued (λ t. steps step t n) (step s)

-- ---- several steps as one

-- a step that comes after some events
abbrev pub stepped_after : {S E R F : Type 0} → List E → Stepped S E R F → Stepped S E R F
stepped_after es (On fs s) = On (es ++ fs) s
stepped_after es (End fs result) = End (es ++ fs) result
stepped_after es (Fail reason) = Fail reason

-- a step, and where it goes on what comes next
abbrev pub and_next : {S E R F : Type 0} → (S → Stepped S E R F) → Stepped S E R F → Stepped S E R F
and_next rest (On es s) = stepped_after es (rest s)
and_next rest (End es result) = End es result
and_next rest (Fail reason) = Fail reason

-- So many steps as one: all their events, and the state after them where none of them ended or failed
abbrev pub many : {S E R F : Type 0} → (S → Stepped S E R F) → ℕ → S → Stepped S E R F
many step zero s = On [] s
many step (suc n) s = and_next (λ t. many step n t) (step s)

-- ---- one run beside another

-- A run comes to what another one shows after n of its own steps: to its end, or, where that goes on, to a point where
-- it has the same events and made at least n steps. The number of steps is one of those that are allowed
abbrev pub Reached : {E R F G : Type 0} → (ℕ → Bool) → (ℕ → Behaviour E R G) → ℕ → Behaviour E R F → Type 0
Reached allowed run n (Running es) = (m : ℕ) × IsTrue (allowed m) × (n ≤ m) × (run m ≡ Running es)
Reached allowed run n (Ended es result) = (m : ℕ) × IsTrue (allowed m) × (run m ≡ Ended es result)
Reached allowed run n (Failed reason) = ⊤

abbrev pub Reaches : {E R F G : Type 0} → (ℕ → ℕ → Bool) → (ℕ → Behaviour E R F) → (ℕ → Behaviour E R G) → Type 0
Reaches allowed source run = (n : ℕ) → Reached (allowed n) run n (source n)

-- What a run shows, where another one shows this after as many steps: it never runs ahead, ends only where that one
-- ends, and never fails
abbrev pub IsWithin : {E R F G : Type 0} → Behaviour E R F → Behaviour E R G → Type 0
IsWithin (Running es) (Running fs) = BeginWith fs es
IsWithin (Running es) (Ended fs result) = ⊥
IsWithin (Running es) (Failed reason) = ⊥
IsWithin (Ended es result) (Running fs) = BeginWith fs es
IsWithin (Ended es result) (Ended fs other) = (fs ≡ es) × (other ≡ result)
IsWithin (Ended es result) (Failed reason) = ⊥
IsWithin (Failed reason) b = ⊤

-- ---- other events

-- the events seen in another way
abbrev pub seen_as : {D E R F : Type 0} → (List D → List E) → Behaviour D R F → Behaviour E R F
seen_as f (Running es) = Running (f es)
seen_as f (Ended es result) = Ended (f es) result
seen_as f (Failed reason) = Failed reason

-- more events are seen as more
abbrev pub KeepsOrder : {D E : Type 0} → (List D → List E) → Type 0
KeepsOrder {D} {E} f = (es fs : List D) → BeginWith es fs → BeginWith (f es) (f fs)
