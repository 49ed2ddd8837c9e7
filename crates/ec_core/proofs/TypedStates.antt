-- Reads and writes of typed states.
use Rattle.std.proofs.Common.{◌≡◌, ℕ, zero, suc, ◌+◌, Bool, true, false, ◌&&◌, List, [], ◌∷◌, length, Option, Some, None, refl, sym, ap}
use Rattle.std.proofs.Common.{◌∙◌, subst, arith, cond, inl, inr}
use Rattle.std.specs.Prelude.{⊤, ◌⊎◌, ◌==◌, if◌then◌else◌, option_and_then, option_map, unwrap_or, slice_get, replicate}
use Rattle.std.specs.List.{position_from}
use Rattle.ec_space.specs.declared.space.SpaceId.{SpaceId}
use Rattle.ec_space.specs.Spaces.{holds}
use Rattle.ec_core.specs.declared.values.ObjectPointer.{ObjectPointer}
use Rattle.ec_core.specs.declared.values.Undefined.{Undefined}
use Rattle.ec_core.specs.declared.values.Undefined.TheVariants.{Access as NoAccess, Unset, ConstWrite, Invalid}
use Rattle.ec_core.specs.declared.values.Value.{Value}
use Rattle.ec_core.specs.Accesses.{is_live_in, is_readable, renewed, ended, leaf_count, begun, all_ended, belongs_to, frame_ended_in}
use Rattle.ec_core.specs.Accesses.{frame_ended, Access, leaf_at, access_of, access, recorded, leaf_of, read_value, read, with_leaf, stored}
use Rattle.ec_core.specs.Accesses.{is_fixed, write, own_access, first_write, initialised}
use Rattle.ec_core.specs.Laws.{IsMade}
use Rattle.ec_core.specs.Layout.{PlainLeaf, leaves_of_type}
use Rattle.ec_core.specs.Operators.{same_type}
use Rattle.ec_core.specs.Plain.{PlainType, PlainStorage, static, local, param, register, PlainObject, PlainProgram}
use Rattle.ec_core.specs.Pointers.{Pointer as PointerValue}
use Rattle.ec_core.specs.State.{Event, Read, told, ObjectState, State, changed_at, with_object, Outcome, got, more, undefined, next, choose}
use Rattle.ec_core.specs.ValueTypes.{HasType, IsLeafValue, AreLeafStates, AreObjectStates, IsTypedState, IsSoundOutcome}
use Rattle.ec_core.proofs.Growth.{and_true, some_if, some_then, some_map, found_access, found_own}
use Rattle.ec_core.proofs.Points.{IsPoint}
use Rattle.ec_core.proofs.Sameness.{type_true}

module _ (program : PlainProgram) where
  abbrev pub leaves : PlainType → List PlainLeaf
  leaves ty = leaves_of_type program.structs ty

  -- ---- leaves of an object

  leaf_typed : (ls : List PlainLeaf) (vs : List (Option Value)) (k : ℕ) (leaf : PlainLeaf) (v : Value) → AreLeafStates program ls vs
      → slice_get ls k ≡ Some leaf → option_and_then (λ x. x) (slice_get vs k) ≡ Some v → HasType program leaf.ty v
  leaf_typed [] vs k leaf v h e f = cc
  leaf_typed (l ∷ ls) [] k leaf v h e f = absurd h
  leaf_typed (l ∷ ls) (x ∷ vs) zero leaf v h e f =
      let g : l ≡ leaf = cc in
      subst (λ (z : PlainLeaf). HasType program z.ty v) g (subst (λ (z : Option Value). IsLeafValue program l.ty z) f h.0)
  leaf_typed (l ∷ ls) (x ∷ vs) (suc k) leaf v h e f = leaf_typed ls vs k leaf v h.1 e f

  leaf_set : (ls : List PlainLeaf) (vs : List (Option Value)) (k : ℕ) (leaf : PlainLeaf) (v : Value) → AreLeafStates program ls vs
      → slice_get ls k ≡ Some leaf → HasType program leaf.ty v → AreLeafStates program ls (changed_at k (λ was. Some v) vs)
  leaf_set [] vs k leaf v h e t = cc
  leaf_set (l ∷ ls) [] k leaf v h e t = absurd h
  leaf_set (l ∷ ls) (x ∷ vs) zero leaf v h e t = let g : leaf ≡ l = cc in (subst (λ (z : PlainLeaf). HasType program z.ty v) g t, h.1)
  leaf_set (l ∷ ls) (x ∷ vs) (suc k) leaf v h e t = (h.0, leaf_set ls vs k leaf v h.1 e t)

  pub leaves_unset : (ls : List PlainLeaf) → AreLeafStates program ls (replicate (length ls) None)
  leaves_unset [] = tt
  leaves_unset (l ∷ ls) = (tt, leaves_unset ls)

  -- ---- objects of a state

  object_typed : (os : List PlainObject) (xs : List ObjectState) (o : ℕ) (d : PlainObject) (x : ObjectState) → AreObjectStates program os xs
      → slice_get os o ≡ Some d → slice_get xs o ≡ Some x → AreLeafStates program (leaves d.ty) x.leaves
  object_typed [] xs o d x h e f = cc
  object_typed (c ∷ os) [] o d x h e f = absurd h
  object_typed (c ∷ os) (y ∷ xs) zero d x h e f =
      let g : c ≡ d = cc in
      let k : y ≡ x = cc in
      subst (λ (z : PlainObject). AreLeafStates program (leaves z.ty) x.leaves) g
      (subst (λ (z : ObjectState). AreLeafStates program (leaves c.ty) z.leaves) k h.0)
  object_typed (c ∷ os) (y ∷ xs) (suc o) d x h e f = object_typed os xs o d x h.1 e f

  object_changed : (os : List PlainObject) (xs : List ObjectState) (o : ℕ) (d : PlainObject) (f : ObjectState → ObjectState)
      → AreObjectStates program os xs → slice_get os o ≡ Some d
      → ((x : ObjectState) → AreLeafStates program (leaves d.ty) x.leaves → AreLeafStates program (leaves d.ty) (f x).leaves)
      → AreObjectStates program os (changed_at o f xs)
  object_changed [] xs o d f h e k = cc
  object_changed (c ∷ os) [] o d f h e k = absurd h
  object_changed (c ∷ os) (y ∷ xs) zero d f h e k =
      let g : d ≡ c = cc in
      let b : AreLeafStates program (leaves d.ty) y.leaves =
      subst (λ (z : PlainObject). AreLeafStates program (leaves z.ty) y.leaves) (sym g) h.0 in
      (subst (λ (z : PlainObject). AreLeafStates program (leaves z.ty) (f y).leaves) g (k y b), h.1)
  object_changed (c ∷ os) (y ∷ xs) (suc o) d f h e k = (h.0, object_changed os xs o d f h.1 e k)

  -- a change that keeps all leaves
  object_kept : (os : List PlainObject) (xs : List ObjectState) (o : ℕ) → AreObjectStates program os xs
      → AreObjectStates program os (changed_at o ended xs)
  object_kept [] [] o h = tt
  object_kept [] (y ∷ xs) o h = absurd h
  object_kept (c ∷ os) [] o h = absurd h
  object_kept (c ∷ os) (y ∷ xs) zero h = h
  object_kept (c ∷ os) (y ∷ xs) (suc o) h = (h.0, object_kept os xs o h.1)

  pub all_ended_typed : (os : List ℕ) (s : State) → IsTypedState program s → IsTypedState program (all_ended os s)
  all_ended_typed [] s h = h
  all_ended_typed (o ∷ os) s h = all_ended_typed os (with_object o ended s) (object_kept program.objects s.objects o h)

  frame_typed : (f : ℕ) (os : List PlainObject) (xs : List ObjectState) → AreObjectStates program os xs
      → AreObjectStates program os (frame_ended_in f os xs)
  frame_typed f [] xs h = h
  frame_typed f (c ∷ os) [] h = absurd h
  frame_typed f (c ∷ os) (y ∷ xs) h = (either (belongs_to f c.storage), frame_typed f os xs h.1)
    where
      either : (b : Bool) → AreLeafStates program (leaves c.ty) (if b then ended y else y).leaves
      either true = h.0
      either false = h.0

  pub frame_ended_typed : (f : ℕ) (s : State) → IsTypedState program s → IsTypedState program (frame_ended program f s)
  frame_ended_typed f s h = frame_typed f program.objects s.objects h

  pub begun_typed : (o : ℕ) (d : PlainObject) (s : State) → slice_get program.objects o ≡ Some d → IsTypedState program s
      → IsTypedState program (begun program o s)
  begun_typed o d s e h =
      object_changed program.objects s.objects o d
      (renewed (unwrap_or (option_map (λ x. leaf_count program x.ty) (slice_get program.objects o)) 0)) h e
      (λ x k. subst (λ (n : ℕ). AreLeafStates program (leaves d.ty) (replicate n None))
      (sym (ap (λ z. unwrap_or (option_map (λ x. leaf_count program x.ty) z) 0) e)) (leaves_unset (leaves d.ty)))

  -- each object has a state
  pub state_of_object : (os : List PlainObject) (xs : List ObjectState) (o : ℕ) (d : PlainObject) → AreObjectStates program os xs
      → slice_get os o ≡ Some d → (x : ObjectState) × (slice_get xs o ≡ Some x)
  state_of_object [] xs o d h e = cc
  state_of_object (c ∷ os) [] o d h e = absurd h
  state_of_object (c ∷ os) (y ∷ xs) zero d h e = (y, refl)
  state_of_object (c ∷ os) (y ∷ xs) (suc o) d h e = state_of_object os xs o d h.1 e

  -- there is no state of an object that there is not
  object_none : (os : List PlainObject) (xs : List ObjectState) (o : ℕ) (f : ObjectState → ObjectState) → AreObjectStates program os xs
      → slice_get os o ≡ None → AreObjectStates program os (changed_at o f xs)
  object_none [] [] o f h e = tt
  object_none [] (y ∷ xs) o f h e = absurd h
  object_none (c ∷ os) [] o f h e = absurd h
  object_none (c ∷ os) (y ∷ xs) zero f h e = cc
  object_none (c ∷ os) (y ∷ xs) (suc o) f h e = (h.0, object_none os xs o f h.1 e)

  pub begun_kept : (o : ℕ) (s : State) → IsTypedState program s → IsTypedState program (begun program o s)
  begun_kept o s h = by_object (slice_get program.objects o) refl
    where
      by_object : (d : Option PlainObject) → slice_get program.objects o ≡ d → IsTypedState program (begun program o s)
      by_object None e = object_none program.objects s.objects o _ h e
      by_object (Some d) e = begun_typed o d s e h

  -- ---- accesses

  -- an access of a leaf of some type
  pub record IsOf (ty : PlainType) (a : Access) : Type 0 where
    pub leaf : PlainLeaf
    pub is : slice_get (leaves a.declared.ty) a.leaf ≡ Some leaf
    pub typed : leaf.ty ≡ ty

  pub record IsPlaced {X : Type 0} (q : X → Bool) (i : ℕ) (xs : List X) (k : ℕ) : Type 0 where
    pub item : X
    pub at : ℕ
    pub is : slice_get xs at ≡ Some item
    pub counted : k ≡ i + at
    pub passes : q item ≡ true

  pub placed : {X : Type 0} (q : X → Bool) (i : ℕ) (xs : List X) (k : ℕ) → position_from q i xs ≡ Some k → IsPlaced q i xs k
  placed q i [] k e = cc
  placed {X} q i (x ∷ xs) k e = by_test (q x) refl e (λ f. placed q (i + 1) xs k f)
    where
      first : q x ≡ true → Some i ≡ Some k → IsPlaced q i (x ∷ xs) k
      first t f = let g : i ≡ k = cc in record { item = x; at = 0; is = refl; counted = omega arith; passes = t }

      later : IsPlaced q (i + 1) xs k → IsPlaced q i (x ∷ xs) k
      later r = record { item = r.item; at = suc r.at; is = r.is; counted = omega (arith, r.counted); passes = r.passes }

      by_test : (b : Bool) → q x ≡ b → cond b (Some i) (position_from q (i + 1) xs) ≡ Some k
          → (position_from q (i + 1) xs ≡ Some k → IsPlaced q (i + 1) xs k) → IsPlaced q i (x ∷ xs) k
      by_test true t f go = first t f
      by_test false t f go = later (go f)

  pub leaf_found : (d : PlainObject) (ty : PlainType) (offset k : ℕ) → leaf_at program d ty offset ≡ Some k
      → (leaf : PlainLeaf) × (slice_get (leaves d.ty) k ≡ Some leaf) × (leaf.ty ≡ ty)
  leaf_found d ty offset k e =
      let r = placed (λ leaf. leaf.at == offset && same_type leaf.ty ty) 0 (leaves d.ty) k e in
      let n : r.at ≡ k = omega (arith, r.counted) in (
        r.item,
        ap (slice_get (leaves d.ty)) (sym n) ∙ r.is,
        type_true r.item.ty ty (and_true (r.item.at == offset) (same_type r.item.ty ty) r.passes).1,
      )

  of_access_of : (ty : PlainType) (sp : SpaceId) (p : ObjectPointer) (d : PlainObject) (x : ObjectState) (a : Access)
      → access_of program ty sp p d x ≡ Some a → IsOf ty a
  of_access_of ty sp p d x a h =
      let c = some_if (is_live_in p x && holds sp d.home) _ a h in
      let m = some_map (leaf_at program d ty p.offset) _ a c.1 in
      let l = leaf_found d ty p.offset m.0 m.1 in
      subst (IsOf ty) m.2 (record { leaf = l.0; is = l.1; typed = l.2 })

  pub of_access : (ty : PlainType) (space : Option SpaceId) (to : PointerValue) (s : State) (a : Access)
      → access program ty space to s ≡ Some a → IsOf ty a
  of_access ty space to s a h =
      let c = some_then space _ a h in
      let p = some_then to _ a c.2 in
      let d = some_then (slice_get program.objects p.0.object) _ a p.2 in
      let x = some_then (slice_get s.objects p.0.object) _ a d.2 in
      of_access_of ty c.0 p.0 d.0 x.0 a x.2

  -- ---- writes

  recorded_typed : (storage : PlainStorage) (e : Event) (s : State) → IsTypedState program s → IsTypedState program (recorded storage e s)
  recorded_typed (static inits) e s h = h
  recorded_typed (local f) e s h = h
  recorded_typed (param f) e s h = h
  recorded_typed (register r) e s h = h

  stored_typed : (ty : PlainType) (a : Access) (v : Value) (s : State) → IsMade program s a → IsOf ty a → HasType program ty v
      → IsTypedState program s → IsTypedState program (stored a v s)
  stored_typed ty a v s m o t h =
      let u : HasType program o.leaf.ty v = subst (λ (z : PlainType). HasType program z v) (sym o.typed) t in
      recorded_typed a.declared.storage _ (with_object a.object (with_leaf a.leaf v) s)
      (object_changed program.objects s.objects a.object a.declared (with_leaf a.leaf v) h m.declared
      (λ x l. leaf_set (leaves a.declared.ty) x.leaves a.leaf o.leaf v l o.is u))

  pub of_own : (o k : ℕ) (d : PlainObject) (leaf : PlainLeaf) (s : State) (a : Access) → slice_get program.objects o ≡ Some d
      → slice_get (leaves d.ty) k ≡ Some leaf → own_access program o k s ≡ Some a → IsOf leaf.ty a
  of_own o k d leaf s a e l h =
      let c = some_then (slice_get program.objects o) _ a h in
      let x = some_then (slice_get s.objects o) _ a c.2 in
      let i = some_if (x.0.live && holds c.0.space c.0.home) _ a x.2 in
      let f : record { object = o; leaf = k; space = c.0.space; declared = c.0; state = x.0 } ≡ a = cc in
      let g : c.0 ≡ d = same_item (slice_get program.objects o) c.0 d c.1 e in
      subst (IsOf leaf.ty) f (record { leaf = leaf; is = ap (λ (z : PlainObject). slice_get (leaves z.ty) k) g ∙ l; typed = refl })
    where
      same_item : (z : Option PlainObject) (p q : PlainObject) → z ≡ Some p → z ≡ Some q → p ≡ q
      same_item z p q e f = cc

module _ (program : PlainProgram) (invalid : Type 0) where
  -- ---- outcomes

  -- an undefined point is one of the fourteen, unless what no valid program has may be met
  abbrev pub IsMet : {A : Type 0} → Outcome A → Type 0
  IsMet (got x s) = ⊤
  IsMet (more s) = ⊤
  IsMet (undefined point s) = IsPoint point ⊎ invalid

  pub record IsSound {A : Type 0} (P : A → Type 0) (o : Outcome A) : Type 0 where
    pub is : IsSoundOutcome program P o
    pub met : IsMet o

  pub sound : {A : Type 0} {P : A → Type 0} (x : A) (s : State) → P x → IsTypedState program s → IsSound P (got x s)
  sound x s h t = record { is = (h, t); met = tt }

  pub no_value : {A : Type 0} {P : A → Type 0} (point : Undefined) (s : State) → IsPoint point → IsSound P (undefined point s)
  no_value point s h = record { is = tt; met = inl h }

  pub met_invalid : {A : Type 0} {P : A → Type 0} (s : State) → invalid → IsSound P (undefined Invalid s)
  met_invalid s h = record { is = tt; met = inr h }

  pub sound_next : {A B : Type 0} {P : A → Type 0} {Q : B → Type 0} {o : Outcome A} {go : A → State → Outcome B} → IsSound P o
      → ((x : A) (t : State) → P x → IsTypedState program t → IsSound Q (go x t)) → IsSound Q (next o go)
  sound_next {A} {B} {P} {Q} {o} {go} r h = by_outcome o r
    where
      by_outcome : (o : Outcome A) → IsSound P o → IsSound Q (next o go)
      by_outcome (got x t) r = h x t r.is.0 r.is.1
      by_outcome (more t) r = record { is = tt; met = tt }
      by_outcome (undefined point t) r = record { is = tt; met = r.met }

  pub sound_as : {A : Type 0} {P Q : A → Type 0} {o : Outcome A} → ((x : A) → P x → Q x) → IsSound P o → IsSound Q o
  sound_as {A} {P} {Q} {o} h r = by_outcome o r
    where
      by_outcome : (o : Outcome A) → IsSound P o → IsSound Q o
      by_outcome (got x t) r = record { is = (h x r.is.0, r.is.1); met = tt }
      by_outcome (more t) r = record { is = tt; met = tt }
      by_outcome (undefined point t) r = record { is = tt; met = r.met }

  pub sound_choose : {A : Type 0} {P : A → Type 0} (h : Bool) (a b : State → Outcome A) (s : State) → IsSound P (a s) → IsSound P (b s)
      → IsSound P (choose h a b s)
  sound_choose true a b s p q = p
  sound_choose false a b s p q = q

  -- ---- reads and writes

  read_value_sound : (ty : PlainType) (a : Access) (v : Option Value) (s : State) → leaf_of a.state a.leaf ≡ v → IsMade program s a
      → IsOf program ty a → IsTypedState program s → IsSound (HasType program ty) (read_value program a v s)
  read_value_sound ty a None s e m o h = no_value Unset s tt
  read_value_sound ty a (Some v) s e m o h =
      let l : AreLeafStates program (leaves program a.declared.ty) a.state.leaves =
      object_typed program program.objects s.objects a.object a.declared a.state h m.declared m.state in
      let t : HasType program o.leaf.ty v = leaf_typed program (leaves program a.declared.ty) a.state.leaves a.leaf o.leaf v l o.is e in
      readable (is_readable program v s) (subst (λ (z : PlainType). HasType program z v) o.typed t)
    where
      readable : (b : Bool) → HasType program ty v → IsSound (HasType program ty) (if b
          then got v (recorded a.declared.storage (Read a.object a.leaf a.space (told v)) s) else undefined Unset s)
      readable true t = sound v _ t (recorded_typed program a.declared.storage _ s h)
      readable false t = no_value Unset s tt

  read_of_sound : (ty : PlainType) (o : Option Access) (s : State) → ((a : Access) → o ≡ Some a → IsMade program s a)
      → ((a : Access) → o ≡ Some a → IsOf program ty a) → IsTypedState program s → IsSound (HasType program ty) (read program o s)
  read_of_sound ty None s m i h = no_value NoAccess s tt
  read_of_sound ty (Some a) s m i h = read_value_sound ty a (leaf_of a.state a.leaf) s refl (m a refl) (i a refl) h

  pub read_sound : (ty : PlainType) (space : Option SpaceId) (to : PointerValue) (s : State) → IsTypedState program s
      → IsSound (HasType program ty) (read program (access program ty space to s) s)
  read_sound ty space to s h =
      read_of_sound ty _ s (λ a e. found_access program ty space to s a e) (λ a e. of_access program ty space to s a e) h

  write_of_sound : (ty : PlainType) (o : Option Access) (v : Value) (s : State) → ((a : Access) → o ≡ Some a → IsMade program s a)
      → ((a : Access) → o ≡ Some a → IsOf program ty a) → HasType program ty v → IsTypedState program s
      → IsSound (HasType program ty) (write o v s)
  write_of_sound ty None v s m i t h = no_value NoAccess s tt
  write_of_sound ty (Some a) v s m i t h = fixed_or (is_fixed a.declared)
    where
      fixed_or : (b : Bool) → IsSound (HasType program ty) (if b then undefined ConstWrite s else got v (stored a v s))
      fixed_or true = no_value ConstWrite s tt
      fixed_or false = sound v _ t (stored_typed program ty a v s (m a refl) (i a refl) t h)

  pub write_sound : (ty : PlainType) (space : Option SpaceId) (to : PointerValue) (v : Value) (s : State) → HasType program ty v
      → IsTypedState program s → IsSound (HasType program ty) (write (access program ty space to s) v s)
  write_sound ty space to v s t h =
      write_of_sound ty _ v s (λ a e. found_access program ty space to s a e) (λ a e. of_access program ty space to s a e) t h

  -- ---- first writes

  first_write_sound : (ty : PlainType) (o : Option Access) (v : Value) (s : State) → ((a : Access) → o ≡ Some a → IsMade program s a)
      → ((a : Access) → o ≡ Some a → IsOf program ty a) → HasType program ty v → IsTypedState program s
      → IsSound (HasType program ty) (first_write o v s)
  first_write_sound ty None v s m i t h = no_value NoAccess s tt
  first_write_sound ty (Some a) v s m i t h = sound v _ t (stored_typed program ty a v s (m a refl) (i a refl) t h)

  pub initialised_sound : (o k : ℕ) (d : PlainObject) (leaf : PlainLeaf) (v : Value) (s : State) → slice_get program.objects o ≡ Some d
      → slice_get (leaves program d.ty) k ≡ Some leaf → HasType program leaf.ty v → IsTypedState program s
      → IsSound (HasType program leaf.ty) (initialised program o k v s)
  initialised_sound o k d leaf v s e l t h = first_write_sound leaf.ty (own_access program o k s) v s (λ a f. found_own program o k s a f)
      (λ a f. of_own program o k d leaf s a e l f) t h
