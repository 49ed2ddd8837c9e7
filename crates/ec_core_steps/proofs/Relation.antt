-- What is known of a part of a run: how much work it does, which objects it leaves as they are, and into which objects no
-- pointer leads.
use Rattle.std.proofs.Common.{◌≡◌, ◌≤◌, ℕ, zero, suc, ◌+◌, Bool, true, false, ◌||◌, List, [], ◌∷◌, replicate, Option, Some, None}
use Rattle.std.proofs.Common.{Result, Ok, Err, refl, sym, subst, ap, ◌∙◌, arith}
use Rattle.std.specs.Prelude.{⊤, slice_get}
use Rattle.std.specs.List.{AllByRecursion}
use Rattle.ec_core.specs.declared.values.Undefined.{Undefined}
use Rattle.ec_core.specs.declared.values.Value.{Value}
use Rattle.ec_core.specs.declared.values.Value.TheVariants.{Number, Pointer}
use Rattle.ec_core.specs.Accesses.{recorded}
use Rattle.ec_core.specs.Plain.{PlainStorage, static, local, param, register, PlainObject, PlainFunction, PlainProgram}
use Rattle.ec_core.specs.Pointers.{Pointer as PointerValue}
use Rattle.ec_core.specs.State.{Event, ObjectState, State, worked, changed_at, with_object, Outcome, got, more, undefined, next}
use Rattle.ec_core.specs.State.{given, choose}
use Rattle.ec_core_steps.specs.declared.touches.Touch.TheVariants.{Address}
use Rattle.ec_core_steps.specs.Touches.{stmt_touches}

-- ---- booleans and lists

pub or_left : (a b : Bool) → (a || b) ≡ false → a ≡ false
or_left true b e = cc
or_left false b e = refl

pub or_right : (a b : Bool) → (a || b) ≡ false → b ≡ false
or_right true b e = cc
or_right false b e = e

pub true_false : (h : Bool) → h ≡ true → h ≡ false → ⊥
true_false true f g = cc
true_false false f g = cc

pub all_at : {X : Type 0} (P : X → Type 0) (xs : List X) (k : ℕ) (x : X) → AllByRecursion P xs → slice_get xs k ≡ Some x → P x
all_at P [] k x h e = cc
all_at P (y ∷ xs) zero x h e = let g : y ≡ x = cc in subst P g h.0
all_at P (y ∷ xs) (suc k) x h e = all_at P xs k x h.1 e

pub all_changed : {X : Type 0} (P : X → Type 0) (n : ℕ) (f : X → X) (xs : List X) → ((x : X) → P x → P (f x)) → AllByRecursion P xs
    → AllByRecursion P (changed_at n f xs)
all_changed P n f [] h a = tt
all_changed P zero f (x ∷ xs) h a = (h x a.0, a.1)
all_changed P (suc n) f (x ∷ xs) h a = (a.0, all_changed P n f xs h a.1)

pub all_replicate : {X : Type 0} (P : X → Type 0) (n : ℕ) (x : X) → P x → AllByRecursion P (replicate n x)
all_replicate P zero x h = tt
all_replicate P (suc n) x h = (h, all_replicate P n x h)

pub changed_apart : {X : Type 0} (q o : ℕ) (f : X → X) (xs : List X) → (q ≡ o → ⊥) → slice_get (changed_at q f xs) o ≡ slice_get xs o
changed_apart q o f [] e = refl
changed_apart zero zero f (x ∷ xs) e = absurd (e refl)
changed_apart zero (suc o) f (x ∷ xs) e = refl
changed_apart (suc q) zero f (x ∷ xs) e = refl
changed_apart (suc q) (suc o) f (x ∷ xs) e = changed_apart q o f xs (λ same. e (ap suc same))

pub changed_here : {X : Type 0} (q : ℕ) (f : X → X) (xs : List X) (y : X) → slice_get (changed_at q f xs) q ≡ Some y
    → (x : X) × (slice_get xs q ≡ Some x) × (y ≡ f x)
changed_here q f [] y e = cc
changed_here zero f (x ∷ xs) y e = (x, refl, cc)
changed_here (suc q) f (x ∷ xs) y e = changed_here q f xs y e

module _ (p : PlainProgram) where
  -- ---- pointers

  -- a local of the function h, whose body applies & nowhere to it
  pub record IsFree (o h : ℕ) : Type 0 where
    pub function : PlainFunction
    pub is_function : slice_get p.functions h ≡ Some function
    pub object : PlainObject
    pub is_object : slice_get p.objects o ≡ Some object
    pub is_local : object.storage ≡ local h
    pub unaddressed : stmt_touches Address o function.body ≡ false

  abbrev pub Free : ℕ → Type 0
  Free o = (h : ℕ) × IsFree o h

  -- no pointer is to a free object
  abbrev pub IsPointer : PointerValue → Type 0
  IsPointer None = ⊤
  IsPointer (Some q) = ¬ Free q.object

  abbrev pub IsValue : Value → Type 0
  IsValue (Number n) = ⊤
  IsValue (Pointer to) = IsPointer to

  abbrev pub IsLeaf : Option Value → Type 0
  IsLeaf None = ⊤
  IsLeaf (Some v) = IsValue v

  abbrev pub IsObjectWell : ObjectState → Type 0
  IsObjectWell x = AllByRecursion IsLeaf x.leaves

  abbrev pub IsWell : State → Type 0
  IsWell s = AllByRecursion IsObjectWell s.objects

  -- ---- parts of runs

  -- at most so much work, from a well state to a well one; the objects of K are left as they are
  pub record Sound (m : ℕ) (K : ℕ → Type 0) (s t : State) : Type 0 where
    pub work : t.work ≤ s.work + m
    pub well : IsWell t
    pub keeps : (o : ℕ) → K o → slice_get t.objects o ≡ slice_get s.objects o

  abbrev pub IsHeld : {X : Type 0} → (X → State → Type 0) → ℕ → (ℕ → Type 0) → State → Outcome X → Type 0
  IsHeld P m K s (got x t) = P x t × Sound m K s t
  IsHeld P m K s (more t) = ⊥
  IsHeld P m K s (undefined point t) = t.work ≤ s.work + m

  pub record Holds {X : Type 0} (P : X → State → Type 0) (m : ℕ) (K : ℕ → Type 0) (s : State) (o : Outcome X) : Type 0 where
    pub is : IsHeld P m K s o

  -- ---- composition

  pub on_sound : {m m1 m2 : ℕ} {K K1 : ℕ → Type 0} {s t u : State} → ((o : ℕ) → K o → K1 o) → Sound m1 K1 s t → Sound m2 K t u
      → m1 + m2 ≤ m → Sound m K s u
  on_sound {m} {m1} {m2} {K} {K1} {s} {t} {u} sub a b le = record {
    work = let w1 = a.work in let w2 = b.work in omega (arith, w1, w2, le);
    well = b.well;
    keeps = λ o k. b.keeps o k ∙ a.keeps o (sub o k);
  }

  pub after : {X : Type 0} {P : X → State → Type 0} {m m1 m2 : ℕ} {K K1 : ℕ → Type 0} {s t : State} (o : Outcome X)
      → ((q : ℕ) → K q → K1 q) → Sound m1 K1 s t → Holds P m2 K t o → m1 + m2 ≤ m → Holds P m K s o
  after {X} {P} {m} {m1} {m2} {K} {K1} {s} {t} (got x u) sub a h le = record { is = (h.is.0, on_sound sub a h.is.1 le) }
  after (more u) sub a h le = absurd h.is
  after {X} {P} {m} {m1} {m2} {K} {K1} {s} {t} (undefined point u) sub a h le =
      record { is = let w1 = a.work in let w2 : u.work ≤ t.work + m2 = h.is in omega (arith, w1, w2, le) }

  -- what goes on leaves less as it is
  pub bind_in : {X Y : Type 0} {P : X → State → Type 0} {Q : Y → State → Type 0} {m m1 m2 : ℕ} {K K1 : ℕ → Type 0} {s : State}
      (o : Outcome X) (go : X → State → Outcome Y) → ((q : ℕ) → K q → K1 q) → Holds P m1 K1 s o
      → ((x : X) (t : State) → P x t → Sound m1 K1 s t → Holds Q m2 K t (go x t)) → m1 + m2 ≤ m → Holds Q m K s (next o go)
  bind_in (got x t) go sub h k le = after (go x t) sub h.is.1 (k x t h.is.0 h.is.1) le
  bind_in (more t) go sub h k le = absurd h.is
  bind_in {X} {Y} {P} {Q} {m} {m1} {m2} {K} {K1} {s} (undefined point t) go sub h k le =
      record { is = let w1 : t.work ≤ s.work + m1 = h.is in omega (arith, w1, le) }

  pub bind : {X Y : Type 0} {P : X → State → Type 0} {Q : Y → State → Type 0} {m m1 m2 : ℕ} {K : ℕ → Type 0} {s : State} (o : Outcome X)
      (go : X → State → Outcome Y) → Holds P m1 K s o
      → ((x : X) (t : State) → P x t → Sound m1 K s t → Holds Q m2 K t (go x t)) → m1 + m2 ≤ m → Holds Q m K s (next o go)
  bind o go h k le = bind_in o go (λ q c. c) h k le

  pub unchanged : {m : ℕ} {K : ℕ → Type 0} {s t : State} → t.objects ≡ s.objects → t.work ≤ s.work + m → IsWell s → Sound m K s t
  unchanged {m} {K} {s} {t} e le well = record {
    work = le;
    well = subst (AllByRecursion IsObjectWell) (sym e) well;
    keeps = λ o k. ap (λ xs. slice_get xs o) e;
  }

  pub itself : {K : ℕ → Type 0} (s : State) → IsWell s → Sound 0 K s s
  itself s well = unchanged refl (omega arith) well

  pub worked_sound : {K : ℕ → Type 0} (words : ℕ) (s : State) → IsWell s → Sound words K s (worked words s)
  worked_sound words s well = unchanged refl (omega arith) well

  pub here : {X : Type 0} {P : X → State → Type 0} {K : ℕ → Type 0} (x : X) (s : State) → P x s → IsWell s → Holds P 0 K s (got x s)
  here x s h well = record { is = (h, itself s well) }

  pub stops : {X : Type 0} {P : X → State → Type 0} {K : ℕ → Type 0} (point : Undefined) (s : State) → Holds P 0 K s (undefined point s)
  stops point s = record { is = omega arith }

  pub began : {X : Type 0} {P : X → State → Type 0} {m m2 : ℕ} {K : ℕ → Type 0} (words : ℕ) (s : State) (o : Outcome X) → IsWell s
      → Holds P m2 K (worked words s) o → words + m2 ≤ m → Holds P m K s o
  began words s o well h le = after o (λ q c. c) (worked_sound words s well) h le

  pub within : {X : Type 0} {P : X → State → Type 0} {m m2 : ℕ} {K : ℕ → Type 0} (s : State) (o : Outcome X) → IsWell s → Holds P m2 K s o
      → m2 ≤ m → Holds P m K s o
  within {X} {P} {m} {m2} {K} s o well h le = after {m1 = 0} o (λ q c. c) (itself s well) h (omega (arith, le))

  -- a fact of the values beside
  abbrev pub OnGot : {X : Type 0} → (X → State → Type 0) → Outcome X → Type 0
  OnGot Q (got x t) = Q x t
  OnGot Q (more t) = ⊤
  OnGot Q (undefined point t) = ⊤

  pub both : {X : Type 0} {P Q : X → State → Type 0} {m : ℕ} {K : ℕ → Type 0} {s : State} (o : Outcome X) → Holds P m K s o → OnGot Q o
      → Holds (λ x t. P x t × Q x t) m K s o
  both (got x t) h q = record { is = ((h.is.0, q), h.is.1) }
  both (more t) h q = absurd h.is
  both (undefined point t) h q = record { is = h.is }

  -- another fact, that follows, with less left as it is
  pub weaker : {X : Type 0} {P Q : X → State → Type 0} {m : ℕ} {K K1 : ℕ → Type 0} {s : State} (o : Outcome X) → ((q : ℕ) → K q → K1 q)
      → ((x : X) (t : State) → P x t → Sound m K1 s t → Q x t) → Holds P m K1 s o → Holds Q m K s o
  weaker (got x t) sub f h =
      record { is = (f x t h.is.0 h.is.1, record { work = h.is.1.work; well = h.is.1.well; keeps = λ o k. h.is.1.keeps o (sub o k) }) }
  weaker (more t) sub f h = absurd h.is
  weaker (undefined point t) sub f h = record { is = h.is }

  -- ---- results

  abbrev pub OnOk : {X : Type 0} → (X → Type 0) → Result X Undefined → Type 0
  OnOk P (Ok x) = P x
  OnOk P (Err point) = ⊤

  pub of_result : {X : Type 0} {P : X → State → Type 0} {K : ℕ → Type 0} (r : Result X Undefined) (s : State) → OnOk (λ x. P x s) r
      → IsWell s
      → Holds P 0 K s (given r s)
  of_result (Ok x) s h well = here x s h well
  of_result (Err point) s h well = stops point s

  pub choosing : {X : Type 0} {P : X → State → Type 0} {m m1 m2 : ℕ} {K : ℕ → Type 0} (c : Bool) (a b : State → Outcome X) (s : State)
      → IsWell s → Holds P m1 K s (a s) → Holds P m2 K s (b s) → m1 ≤ m → m2 ≤ m → Holds P m K s (choose c a b s)
  choosing true a b s well h k le le2 = within s (a s) well h le
  choosing false a b s well h k le le2 = within s (b s) well k le2

  -- ---- objects

  pub recorded_objects : (storage : PlainStorage) (e : Event) (s : State) → (recorded storage e s).objects ≡ s.objects
  recorded_objects (static inits) e s = refl
  recorded_objects (local f) e s = refl
  recorded_objects (param f) e s = refl
  recorded_objects (register r) e s = refl

  pub recorded_work : (storage : PlainStorage) (e : Event) (s : State) → (recorded storage e s).work ≡ s.work
  recorded_work (static inits) e s = refl
  recorded_work (local f) e s = refl
  recorded_work (param f) e s = refl
  recorded_work (register r) e s = refl

  pub recorded_sound : {K : ℕ → Type 0} (storage : PlainStorage) (e : Event) (s : State) → IsWell s → Sound 0 K s (recorded storage e s)
  recorded_sound storage e s well =
      let w = recorded_work storage e s in
      unchanged (recorded_objects storage e s) (omega (arith, w)) well

  pub object_sound : {K : ℕ → Type 0} (q : ℕ) (f : ObjectState → ObjectState) (s : State) → ((x : ObjectState) → IsObjectWell x
      → IsObjectWell (f x))
      → ((o : ℕ) → K o → q ≡ o → ⊥) → IsWell s → Sound 0 K s (with_object q f s)
  object_sound q f s h other well = record {
    work = omega arith;
    well = all_changed IsObjectWell q f s.objects h well;
    keeps = λ o k. changed_apart q o f s.objects (other o k);
  }
