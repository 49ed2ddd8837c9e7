-- Writes of leaves, and what keeps the events of a run.
use Rattle.std.proofs.Common.{◌≡◌, ℕ, suc, ◌+◌, Bool, true, false, ◌&&◌, List, [], ◌∷◌, ◌++◌, Option, Some, None, Result, Ok, Err}
use Rattle.std.proofs.Common.{refl, sym, ap, ◌∙◌, subst, arith, cond}
use Rattle.std.specs.Prelude.{◌==◌, if◌then◌else◌, IsSomeAnd, slice_get}
use Rattle.std.specs.List.{AllByRecursion, position_from}
use Rattle.ec_space.specs.declared.space.SpaceId.{SpaceId}
use Rattle.ec_space.specs.Spaces.{holds}
use Rattle.ec_core.specs.declared.values.Undefined.{Undefined}
use Rattle.ec_core.specs.declared.values.Undefined.TheVariants.{Unset, ConstWrite}
use Rattle.ec_core.specs.declared.values.Value.{Value}
use Rattle.ec_core.specs.declared.values.Value.TheVariants.{Number, Pointer}
use Rattle.ec_core.specs.Accesses.{Access, access, leaf_at, is_live_in, is_readable, recorded, leaf_of, read_value, read, stored}
use Rattle.ec_core.specs.Accesses.{is_fixed, write, own_access, first_write}
use Rattle.ec_core.specs.Layout.{PlainLeaf, leaves_of_type}
use Rattle.ec_core.specs.Meaning.{state_of}
use Rattle.ec_core.specs.Operators.{same_type}
use Rattle.ec_core.specs.Plain.{PlainType, void, integer, fixed, pointer, array, struct, PlainStorage, static, local, param, register}
use Rattle.ec_core.specs.Plain.{PlainObject, PlainProgram}
use Rattle.ec_core.specs.Pointers.{Pointer as PointerValue}
use Rattle.ec_core.specs.State.{Event, Read, Write, told, State, Outcome, got, more, undefined, next, given, choose}
use Rattle.ec_core.specs.ValueTypes.{HasType, IsTypedState, IsSoundOutcome, IsAny}
use Rattle.ec_core.proofs.Growth.{and_true, some_if, some_then, some_map}
use Rattle.ec_core.proofs.Sameness.{type_true}
use Rattle.ec_core_numbers.specs.Numbers.{IsNumberOf, WritesNumber}

pub all_added : (P : Event → Type 0) (es : List Event) (e : Event) → AllByRecursion P es → P e → AllByRecursion P (es ++ e ∷ [])
all_added P [] e all one = (one, tt)
all_added P (x ∷ xs) e all one = (all.0, all_added P xs e all.1 one)

-- ---- the first item of a list that passes a test

record IsPlaced {X : Type 0} (q : X → Bool) (i : ℕ) (xs : List X) (k : ℕ) : Type 0 where
  item : X
  at : ℕ
  is : slice_get xs at ≡ Some item
  counted : k ≡ i + at
  passes : q item ≡ true

placed : {X : Type 0} (q : X → Bool) (i : ℕ) (xs : List X) (k : ℕ) → position_from q i xs ≡ Some k → IsPlaced q i xs k
placed q i [] k e = cc
placed {X} q i (x ∷ xs) k e = by_test (q x) refl e (λ f. placed q (i + 1) xs k f)
  where
    by_test : (b : Bool) → q x ≡ b → cond b (Some i) (position_from q (i + 1) xs) ≡ Some k
        → (position_from q (i + 1) xs ≡ Some k → IsPlaced q (i + 1) xs k) → IsPlaced q i (x ∷ xs) k
    by_test true t f go = let g : i ≡ k = cc in record { item = x; at = 0; is = refl; counted = omega arith; passes = t }
    by_test false t f go =
        let r = go f in
        record { item = r.item; at = suc r.at; is = r.is; counted = omega (arith, r.counted); passes = r.passes }

module _ (program : PlainProgram) where
  abbrev leaves : PlainType → List PlainLeaf
  leaves ty = leaves_of_type program.structs ty

  -- ---- what is written

  -- an access of a leaf of some type
  record IsOf (ty : PlainType) (a : Access) : Type 0 where
    declared : slice_get program.objects a.object ≡ Some a.declared
    leaf : PlainLeaf
    is : slice_get (leaves a.declared.ty) a.leaf ≡ Some leaf
    typed : leaf.ty ≡ ty

  leaf_found : (d : PlainObject) (ty : PlainType) (offset k : ℕ) → leaf_at program d ty offset ≡ Some k
      → (leaf : PlainLeaf) × (slice_get (leaves d.ty) k ≡ Some leaf) × (leaf.ty ≡ ty)
  leaf_found d ty offset k e =
      let r = placed (λ leaf. leaf.at == offset && same_type leaf.ty ty) 0 (leaves d.ty) k e in
      let n : r.at ≡ k = omega (arith, r.counted) in (
        r.item,
        ap (slice_get (leaves d.ty)) (sym n) ∙ r.is,
        type_true r.item.ty ty (and_true (r.item.at == offset) (same_type r.item.ty ty) r.passes).1,
      )

  of_access : (ty : PlainType) (space : Option SpaceId) (to : PointerValue) (s : State) (a : Access)
      → access program ty space to s ≡ Some a → IsOf ty a
  of_access ty space to s a h =
      let c = some_then space _ a h in
      let p = some_then to _ a c.2 in
      let d = some_then (slice_get program.objects p.0.object) _ a p.2 in
      let x = some_then (slice_get s.objects p.0.object) _ a d.2 in
      let i = some_if (is_live_in p.0 x.0 && holds c.0 d.0.home) _ a x.2 in
      let m = some_map (leaf_at program d.0 ty p.0.offset) _ a i.1 in
      let l = leaf_found d.0 ty p.0.offset m.0 m.1 in
      subst (IsOf ty) m.2 (record { declared = d.1; leaf = l.0; is = l.1; typed = l.2 })

  of_own : (o k : ℕ) (d : PlainObject) (leaf : PlainLeaf) (s : State) (a : Access) → slice_get program.objects o ≡ Some d
      → slice_get (leaves d.ty) k ≡ Some leaf → own_access program o k s ≡ Some a → IsOf leaf.ty a
  of_own o k d leaf s a e l h =
      let c = some_then (slice_get program.objects o) _ a h in
      let x = some_then (slice_get s.objects o) _ a c.2 in
      let i = some_if (x.0.live && holds c.0.space c.0.home) _ a x.2 in
      let f : record { object = o; leaf = k; space = c.0.space; declared = c.0; state = x.0 } ≡ a = cc in
      let g : d ≡ c.0 = cc in
      let m : slice_get (leaves c.0.ty) k ≡ Some leaf =
      subst (λ (z : PlainObject). slice_get (leaves z.ty) k ≡ Some leaf) g l in
      subst (IsOf leaf.ty) f (record { declared = c.1; leaf = leaf; is = m; typed = refl })

  -- a value of an arithmetic type tells a number of it
  told_number : (ty : PlainType) (v : Value) → HasType program ty v → IsNumberOf ty (told v)
  told_number void (Number n) h = tt
  told_number (integer signed bytes) (Number n) h = h
  told_number (fixed kind saturates) (Number n) h = h
  told_number (pointer space const to) (Number n) h = tt
  told_number void (Pointer None) h = refl
  told_number void (Pointer (Some p)) h = refl
  told_number (integer signed bytes) (Pointer p) h = absurd h
  told_number (fixed kind saturates) (Pointer p) h = absurd h
  told_number (pointer space const to) (Pointer None) h = refl
  told_number (pointer space const to) (Pointer (Some p)) h = refl
  told_number (array of len) v h = absurd h
  told_number (struct index) v h = absurd h

  writes_number : (ty : PlainType) (a : Access) (v : Value) → IsOf ty a → HasType program ty v
      → WritesNumber program (Write a.object a.leaf a.space (told v))
  writes_number ty a v o h =
      let n : IsNumberOf o.leaf.ty (told v) = subst (λ (z : PlainType). IsNumberOf z (told v)) (sym o.typed) (told_number ty v h) in
      subst (λ (z : Option PlainObject).
      IsSomeAnd z (λ d. IsSomeAnd (slice_get (leaves d.ty) a.leaf) (λ leaf. IsNumberOf leaf.ty (told v)))) (sym o.declared)
      (subst (λ (z : Option PlainLeaf). IsSomeAnd z (λ leaf. IsNumberOf leaf.ty (told v))) (sym o.is) n)

  -- ---- the events of states

  -- all writes so far are of numbers of their types
  abbrev pub IsFine : State → Type 0
  IsFine s = AllByRecursion (WritesNumber program) s.events

  -- so it is in an outcome, where it is in the state before it
  pub record Keeps {A : Type 0} (s : State) (o : Outcome A) : Type 0 where
    pub kept : IsFine s → IsFine (state_of o)

  pub still : {A : Type 0} {s : State} {o : Outcome A} → (IsFine s → IsFine (state_of o)) → Keeps s o
  still h = record { kept = h }

  pub after : {A : Type 0} {o : Outcome A} {s t : State} → (IsFine s → IsFine t) → Keeps t o → Keeps s o
  after f k = record { kept = λ h. k.kept (f h) }

  -- what goes on from a value with a property in a typed state; what goes on so beside it is sound with another
  pub onward_beside : {A B C : Type 0} {P : A → Type 0} (Q : C → Type 0) {s : State} {o : Outcome A} {go : A → State → Outcome B}
      (beside : A → State → Outcome C) → IsSoundOutcome program P o → Keeps s o → IsSoundOutcome program Q (next o beside)
      → ((x : A) (t : State) → P x → IsTypedState program t → IsSoundOutcome program Q (beside x t) → Keeps t (go x t))
      → Keeps s (next o go)
  onward_beside {A} {B} {C} {P} Q {s} {o} {go} beside sound k q h = by_outcome o sound k q
    where
      by_outcome : (z : Outcome A) → IsSoundOutcome program P z → Keeps s z → IsSoundOutcome program Q (next z beside) → Keeps s (next z go)
      by_outcome (got x t) f j r = record { kept = λ e. (h x t f.0 f.1 r).kept (j.kept e) }
      by_outcome (more t) f j r = record { kept = j.kept }
      by_outcome (undefined point t) f j r = record { kept = j.kept }

  pub onward : {A B : Type 0} {P : A → Type 0} {s : State} {o : Outcome A} {go : A → State → Outcome B}
      → IsSoundOutcome program P o → Keeps s o → ((x : A) (t : State) → P x → IsTypedState program t → Keeps t (go x t))
      → Keeps s (next o go)
  onward {A} {B} {P} {s} {o} {go} sound k h = by_outcome o sound k
    where
      by_outcome : (z : Outcome A) → IsSoundOutcome program P z → Keeps s z → Keeps s (next z go)
      by_outcome (got x t) f j = record { kept = λ e. (h x t f.0 f.1).kept (j.kept e) }
      by_outcome (more t) f j = record { kept = j.kept }
      by_outcome (undefined point t) f j = record { kept = j.kept }

  -- what goes on to an outcome with a typed state
  pub sound_on : {A B : Type 0} (P : A → Type 0) (o : Outcome A) (go : A → State → Outcome B) → IsSoundOutcome program P o
      → ((x : A) (t : State) → P x → IsTypedState program t → IsSoundOutcome program IsAny (go x t))
      → IsSoundOutcome program IsAny (next o go)
  sound_on {A} {B} P o go sound h = by_outcome o sound
    where
      by_outcome : (z : Outcome A) → IsSoundOutcome program P z → IsSoundOutcome program IsAny (next z go)
      by_outcome (got x t) f = h x t f.0 f.1
      by_outcome (more t) f = tt
      by_outcome (undefined point t) f = tt

  pub given_sound : {A : Type 0} (r : Result A Undefined) (s : State) → IsTypedState program s → IsSoundOutcome program IsAny (given r s)
  given_sound (Ok x) s h = (tt, h)
  given_sound (Err point) s h = tt

  pub given_kept : {A : Type 0} (r : Result A Undefined) (s : State) → Keeps s (given r s)
  given_kept (Ok x) s = still (λ h. h)
  given_kept (Err point) s = still (λ h. h)

  pub choosing : {A : Type 0} (c : Bool) (a b : State → Outcome A) (s : State) → Keeps s (a s) → Keeps s (b s) → Keeps s (choose c a b s)
  choosing true a b s k l = k
  choosing false a b s k l = l

  -- ---- accesses

  recorded_kept : (storage : PlainStorage) (e : Event) (s : State) → WritesNumber program e → IsFine s → IsFine (recorded storage e s)
  recorded_kept (static inits) e s a h = all_added (WritesNumber program) s.events e h a
  recorded_kept (local f) e s a h = all_added (WritesNumber program) s.events e h a
  recorded_kept (param f) e s a h = all_added (WritesNumber program) s.events e h a
  recorded_kept (register r) e s a h = h

  leaf_read : (a : Access) (v : Option Value) (s : State) → Keeps s (read_value program a v s)
  leaf_read a None s = still (λ h. h)
  leaf_read a (Some v) s = readable (is_readable program v s)
    where
      readable : (b : Bool)
          → Keeps s (if b then got v (recorded a.declared.storage (Read a.object a.leaf a.space (told v)) s) else undefined Unset s)
      readable true = still (recorded_kept a.declared.storage _ s tt)
      readable false = still (λ h. h)

  pub read_kept : (o : Option Access) (s : State) → Keeps s (read program o s)
  read_kept None s = still (λ h. h)
  read_kept (Some a) s = leaf_read a (leaf_of a.state a.leaf) s

  stored_kept : (ty : PlainType) (a : Access) (v : Value) (s : State) → IsOf ty a → HasType program ty v → IsFine s → IsFine (stored a v s)
  stored_kept ty a v s o h =
      recorded_kept a.declared.storage (Write a.object a.leaf a.space (told v)) _ (writes_number ty a v o h)

  -- a write whose value has its type where it is made
  pub write_kept : (ty : PlainType) (space : Option SpaceId) (to : PointerValue) (v : Value) (s : State) (P : Value → Type 0)
      → (P v → HasType program ty v) → IsSoundOutcome program P (write (access program ty space to s) v s)
      → Keeps s (write (access program ty space to s) v s)
  write_kept ty space to v s P back sound = by_access (access program ty space to s) refl sound
    where
      fixed_or : (a : Access) (b : Bool) → access program ty space to s ≡ Some a
          → IsSoundOutcome program P (if b then undefined ConstWrite s else got v (stored a v s))
          → Keeps s (if b then undefined ConstWrite s else got v (stored a v s))
      fixed_or a true e r = still (λ h. h)
      fixed_or a false e r = still (stored_kept ty a v s (of_access ty space to s a e) (back r.0))

      by_access : (o : Option Access) → access program ty space to s ≡ o → IsSoundOutcome program P (write o v s) → Keeps s (write o v s)
      by_access None e q = still (λ h. h)
      by_access (Some a) e q = fixed_or a (is_fixed a.declared) e q

  -- the write, where another value behind it has a property
  pub inner_sound : {A : Type 0} (P : A → Type 0) (x : A) (o : Outcome Value)
      → IsSoundOutcome program P (next o (λ y z. got x z)) → IsSoundOutcome program (λ y. P x) o
  inner_sound P x (got y t) h = h
  inner_sound P x (more t) h = tt
  inner_sound P x (undefined point t) h = tt

  pub first_kept : (o k : ℕ) (d : PlainObject) (leaf : PlainLeaf) (v : Value) (s : State) → slice_get program.objects o ≡ Some d
      → slice_get (leaves d.ty) k ≡ Some leaf → HasType program leaf.ty v → Keeps s (first_write (own_access program o k s) v s)
  first_kept o k d leaf v s e l h = by_access (own_access program o k s) refl
    where
      by_access : (z : Option Access) → own_access program o k s ≡ z → Keeps s (first_write z v s)
      by_access None f = still (λ h. h)
      by_access (Some a) f = still (stored_kept leaf.ty a v s (of_own o k d leaf s a e l f) h)
