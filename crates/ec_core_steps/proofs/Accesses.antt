-- Accesses of leaves and of ports, and the life of objects.
use Rattle.std.proofs.Common.{◌≡◌, ℕ, zero, suc, ◌+◌, ◌/◌, Bool, true, false, ◌&&◌, List, [], ◌∷◌, Option, Some, None}
use Rattle.std.proofs.Common.{refl, sym, subst, ap, ◌∙◌, arith}
use Rattle.std.specs.Prelude.{⊤, if◌then◌else◌, slice_get, nat_lt}
use Rattle.std.specs.List.{AllByRecursion}
use Rattle.ec_iohw.specs.declared.operations.IoOp.{IoOp}
use Rattle.ec_iohw.specs.declared.table.Choice.{Choice}
use Rattle.ec_iohw.specs.declared.table.Pair.{Pair}
use Rattle.ec_space.specs.declared.space.SpaceId.{SpaceId}
use Rattle.ec_space.specs.Spaces.{holds}
use Rattle.ec_core.specs.declared.values.ObjectPointer.{ObjectPointer}
use Rattle.ec_core.specs.declared.values.Undefined.TheVariants.{Unset, ConstWrite}
use Rattle.ec_core.specs.declared.values.Value.{Value}
use Rattle.ec_core.specs.Accesses.{is_readable, renewed, ended, begun, all_ended, belongs_to, frame_ended_in, frame_ended, is_live_in}
use Rattle.ec_core.specs.Accesses.{Access}
use Rattle.ec_core.specs.Accesses.{leaf_at, access_of, access, recorded, leaf_of, read_value, read, with_leaf, stored, is_fixed, write}
use Rattle.ec_core.specs.Accesses.{own_access, first_write, initialised}
use Rattle.ec_core.specs.Plain.{PlainType, PlainObject, PlainProgram}
use Rattle.ec_core.specs.Pointers.{Pointer as PointerValue}
use Rattle.ec_core.specs.PortAccesses.{byte_read, bytes_read, bytes_written, port_accessed, is_open, within, opened, port_effect}
use Rattle.ec_core.specs.PortAccesses.{pairs_written, pairs_of, group_effect, standing_port, accessed, bound, bind_effect, choice_effect}
use Rattle.ec_core.specs.PortAccesses.{dynamic_effect}
use Rattle.ec_core.specs.PortOperations.{PortAction, reads, writes, updates, port_operation}
use Rattle.ec_core.specs.PortTable.{PlainPort, PlainGroup, PlainTable}
use Rattle.ec_core.specs.State.{Inputs, Out, Read, told, ObjectState, State, with_event, with_object, got, undefined}
use Rattle.ec_core.proofs.Growth.{some_if, some_then, some_map}
use Rattle.ec_core_steps.proofs.Relation.{all_at, all_changed, all_replicate, IsValue, IsLeaf, IsObjectWell, IsWell}
use Rattle.ec_core_steps.proofs.Relation.{Sound, Holds, stops, unchanged, itself, on_sound, recorded_sound, object_sound}

module _ (p : PlainProgram) where
  abbrev pub IsVal : Value → State → Type 0
  IsVal v t = IsValue p v

  -- ---- accesses

  -- an access is of a leaf of the pointer's object
  pub record IsFound (ty : PlainType) (to : PointerValue) (s : State) (a : Access) : Type 0 where
    pub q : ObjectPointer
    pub pointer : to ≡ Some q
    pub object : a.object ≡ q.object
    pub declared : slice_get p.objects q.object ≡ Some a.declared
    pub state : slice_get s.objects q.object ≡ Some a.state
    pub leaf : leaf_at p a.declared ty q.offset ≡ Some a.leaf

  found_of : (ty : PlainType) (s : State) (sp : SpaceId) (q : ObjectPointer) (d : PlainObject) (x : ObjectState) (a : Access)
      → slice_get p.objects q.object ≡ Some d → slice_get s.objects q.object ≡ Some x → access_of p ty sp q d x ≡ Some a
      → IsFound ty (Some q) s a
  found_of ty s sp q d x a e f h =
      let c = some_if (is_live_in q x && holds sp d.home) _ a h in
      let m = some_map (leaf_at p d ty q.offset) _ a c.1 in
      subst (IsFound ty (Some q) s) m.2
      (record { q = q; pointer = refl; object = refl; declared = e; state = f; leaf = m.1 })

  pub found : (ty : PlainType) (space : Option SpaceId) (to : PointerValue) (s : State) (a : Access) → access p ty space to s ≡ Some a
      → IsFound ty to s a
  found ty space to s a h =
      let c = some_then space _ a h in
      let q = some_then to _ a c.2 in
      let d = some_then (slice_get p.objects q.0.object) _ a q.2 in
      let x = some_then (slice_get s.objects q.0.object) _ a d.2 in
      subst (λ (to : PointerValue). IsFound ty to s a) (sym q.1) (found_of ty s c.0 q.0 d.0 x.0 a d.1 x.1 x.2)

  -- ---- reads

  leaf_well : (a : Access) (v : Value) → IsObjectWell p a.state → leaf_of a.state a.leaf ≡ Some v → IsValue p v
  leaf_well a v h e =
      let c = some_then (slice_get a.state.leaves a.leaf) _ v e in
      let k : IsLeaf p c.0 = all_at (IsLeaf p) a.state.leaves a.leaf c.0 h c.1 in
      subst (IsLeaf p) c.2 k

  read_value_holds : {K : ℕ → Type 0} (a : Access) (v : Option Value) (s : State) → leaf_of a.state a.leaf ≡ v → IsObjectWell p a.state
      → IsWell p s → Holds p IsVal 0 K s (read_value p a v s)
  read_value_holds a None s e o well = stops p Unset s
  read_value_holds {K} a (Some v) s e o well = readable (is_readable p v s)
    where
      readable : (b : Bool) → Holds p IsVal 0 K s
          (if b then got v (recorded a.declared.storage (Read a.object a.leaf a.space (told v)) s) else undefined Unset s)
      readable true = record { is = (leaf_well a v o e, recorded_sound p a.declared.storage _ s well) }
      readable false = stops p Unset s

  read_of_holds : {K : ℕ → Type 0} (o : Option Access) (s : State) → ((a : Access) → o ≡ Some a → IsObjectWell p a.state) → IsWell p s
      → Holds p IsVal 0 K s (read p o s)
  read_of_holds None s f well = stops p _ s
  read_of_holds (Some a) s f well = read_value_holds a (leaf_of a.state a.leaf) s refl (f a refl) well

  pub read_holds : {K : ℕ → Type 0} (ty : PlainType) (space : Option SpaceId) (to : PointerValue) (s : State) → IsWell p s
      → Holds p IsVal 0 K s (read p (access p ty space to s) s)
  read_holds ty space to s well =
      read_of_holds _ s (λ a h. (let f = found ty space to s a h in all_at (IsObjectWell p) s.objects f.q.object a.state well f.state)) well

  -- ---- writes

  with_leaf_well : (k : ℕ) (v : Value) → IsValue p v → (x : ObjectState) → IsObjectWell p x → IsObjectWell p (with_leaf k v x)
  with_leaf_well k v h x w = all_changed (IsLeaf p) k (λ was. Some v) x.leaves (λ was g. h) w

  stored_sound : {K : ℕ → Type 0} (a : Access) (v : Value) (s : State) → IsValue p v → ((o : ℕ) → K o → a.object ≡ o → ⊥) → IsWell p s
      → Sound p 0 K s (stored a v s)
  stored_sound {K} a v s h other well =
      let one = object_sound p {K = K} a.object (with_leaf a.leaf v) s (with_leaf_well a.leaf v h) other well in
      on_sound p (λ o k. k) one (recorded_sound p a.declared.storage _ _ one.well) (omega arith)

  write_of_holds : {K : ℕ → Type 0} (o : Option Access) (v : Value) (s : State) → IsValue p v
      → ((a : Access) → o ≡ Some a → (q : ℕ) → K q → a.object ≡ q → ⊥) → IsWell p s → Holds p IsVal 0 K s (write o v s)
  write_of_holds None v s h f well = stops p _ s
  write_of_holds {K} (Some a) v s h f well = fixed_or (is_fixed a.declared)
    where
      fixed_or : (b : Bool) → Holds p IsVal 0 K s (if b then undefined ConstWrite s else got v (stored a v s))
      fixed_or true = stops p ConstWrite s
      fixed_or false = record { is = (h, stored_sound a v s h (f a refl) well) }

  -- a pointer to none of some objects
  abbrev pub IsApart : (ℕ → Type 0) → PointerValue → Type 0
  IsApart K None = ⊤
  IsApart K (Some q) = (o : ℕ) → K o → q.object ≡ o → ⊥

  pub write_holds : {K : ℕ → Type 0} (ty : PlainType) (space : Option SpaceId) (to : PointerValue) (v : Value) (s : State) → IsValue p v
      → IsApart K to → IsWell p s → Holds p IsVal 0 K s (write (access p ty space to s) v s)
  write_holds {K} ty space to v s h apart well =
      write_of_holds _ v s h (λ a e. (let f = found ty space to s a e in
      λ o k same. subst (IsApart K) f.pointer apart o k (sym f.object ∙ same))) well

  pub initialised_holds : {K : ℕ → Type 0} (o k : ℕ) (v : Value) (s : State) → IsValue p v → ((q : ℕ) → K q → o ≡ q → ⊥) → IsWell p s
      → Holds p IsVal 0 K s (initialised p o k v s)
  initialised_holds {K} o k v s h other well = by_access (own_access p o k s) (λ a e. own a e)
    where
      own : (a : Access) → own_access p o k s ≡ Some a → a.object ≡ o
      own a e =
          let d = some_then (slice_get p.objects o) _ a e in
          let x = some_then (slice_get s.objects o) _ a d.2 in
          let c = some_if (x.0.live && holds d.0.space d.0.home) _ a x.2 in
          let same : record { object = o; leaf = k; space = d.0.space; declared = d.0; state = x.0 } ≡ a = cc in
          ap (λ (b : Access). b.object) (sym same)

      by_access : (z : Option Access) → ((a : Access) → z ≡ Some a → a.object ≡ o) → Holds p IsVal 0 K s (first_write z v s)
      by_access None f = stops p _ s
      by_access (Some a) f = record { is = (h, stored_sound a v s h (λ q c same. other q c (sym (f a refl) ∙ same)) well) }

  -- ---- the life of objects

  pub begun_sound : {K : ℕ → Type 0} (o : ℕ) (s : State) → ((q : ℕ) → K q → o ≡ q → ⊥) → IsWell p s → Sound p 0 K s (begun p o s)
  begun_sound o s other well =
      object_sound p o (renewed _) s (λ x h. all_replicate (IsLeaf p) _ None tt) other well

  pub all_ended_sound : {K : ℕ → Type 0} (os : List ℕ) (s : State) → AllByRecursion (λ o. (q : ℕ) → K q → o ≡ q → ⊥) os → IsWell p s
      → Sound p 0 K s (all_ended os s)
  all_ended_sound [] s other well = itself p s well
  all_ended_sound {K} (o ∷ os) s other well =
      let one = object_sound p {K = K} o ended s (λ x h. h) other.0 well in
      on_sound p (λ q k. k) one (all_ended_sound os (with_object o ended s) other.1 one.well) (omega arith)

  frame_well : (f : ℕ) (os : List PlainObject) (xs : List ObjectState) → AllByRecursion (IsObjectWell p) xs
      → AllByRecursion (IsObjectWell p) (frame_ended_in f os xs)
  frame_well f [] xs h = h
  frame_well f (o ∷ os) [] h = tt
  frame_well f (o ∷ os) (x ∷ xs) h = (one (belongs_to f o.storage), frame_well f os xs h.1)
    where
      one : (b : Bool) → IsObjectWell p (if b then ended x else x)
      one true = h.0
      one false = h.0

  frame_kept : (f o : ℕ) (d : PlainObject) (os : List PlainObject) (xs : List ObjectState) → slice_get os o ≡ Some d
      → belongs_to f d.storage ≡ false → slice_get (frame_ended_in f os xs) o ≡ slice_get xs o
  frame_kept f o d [] xs e b = cc
  frame_kept f zero d (c ∷ os) [] e b = refl
  frame_kept f (suc o) d (c ∷ os) [] e b = refl
  frame_kept f zero d (c ∷ os) (x ∷ xs) e b = let same : c ≡ d = cc in rw (same, b) refl
  frame_kept f (suc o) d (c ∷ os) (x ∷ xs) e b = frame_kept f o d os xs e b

  -- locals of other functions are left as they are
  pub frame_sound : {K : ℕ → Type 0} (f : ℕ) (s : State)
      → ((o : ℕ) → K o → (d : PlainObject) × (slice_get p.objects o ≡ Some d) × (belongs_to f d.storage ≡ false)) → IsWell p s
      → Sound p 0 K s (frame_ended p f s)
  frame_sound f s other well = record {
    work = omega arith;
    well = frame_well f p.objects s.objects well;
    keeps = λ o k. (let d = other o k in frame_kept f o d.0 p.objects s.objects d.1 d.2);
  }

  -- ---- ports, which hold no pointers

  module _ (inputs : Inputs) where
    read_objects : (n port : ℕ) (s : State) → (bytes_read inputs n port s).objects ≡ s.objects
    read_objects zero port s = refl
    read_objects (suc n) port s = read_objects n (port + 1) (byte_read inputs port s)

    read_work : (n port : ℕ) (s : State) → (bytes_read inputs n port s).work ≡ s.work
    read_work zero port s = refl
    read_work (suc n) port s = read_work n (port + 1) (byte_read inputs port s)

    written_objects : (n port v : ℕ) (s : State) → (bytes_written n port v s).objects ≡ s.objects
    written_objects zero port v s = refl
    written_objects (suc n) port v s = written_objects n (port + 1) (v / 256) s

    written_work : (n port v : ℕ) (s : State) → (bytes_written n port v s).work ≡ s.work
    written_work zero port v s = refl
    written_work (suc n) port v s = written_work n (port + 1) (v / 256) s

    alike : {K : ℕ → Type 0} (v : Value) (s t : State) → IsValue p v → t.objects ≡ s.objects → t.work ≡ s.work → IsWell p s
        → Holds p IsVal 0 K s (got v t)
    alike v s t h e w well = record { is = (h, unchanged p e (omega (arith, w)) well) }

    accessed_holds : {K : ℕ → Type 0} (action : PortAction) (op : IoOp) (width port v : ℕ) (s : State) → IsWell p s
        → Holds p IsVal 0 K s (port_accessed inputs action op width port v s)
    accessed_holds reads op width port v s well = alike _ s _ tt (read_objects width port s) (read_work width port s) well
    accessed_holds writes op width port v s well = alike _ s _ tt (written_objects width port v s) (written_work width port v s) well
    accessed_holds updates op width port v s well =
        let t = bytes_read inputs width port s in
        alike _ s _ tt (written_objects width port _ t ∙ read_objects width port s)
        (written_work width port _ t ∙ read_work width port s) well

    within_holds : {K : ℕ → Type 0} (b : Bool) (op : IoOp) (port : PlainPort) (i v : ℕ) (s : State) → IsWell p s
        → Holds p IsVal 0 K s (within inputs b op port i v s)
    within_holds true op port i v s well = accessed_holds (port_operation op).action op port.width _ v s well
    within_holds false op port i v s well = stops p _ s

    opened_holds : {K : ℕ → Type 0} (b : Bool) (op : IoOp) (port : PlainPort) (i v : ℕ) (s : State) → IsWell p s
        → Holds p IsVal 0 K s (opened inputs b op port i v s)
    opened_holds true op port i v s well = within_holds (nat_lt i port.count) op port i v s well
    opened_holds false op port i v s well = stops p _ s

    standing_holds : {K : ℕ → Type 0} (op : IoOp) (port : Option PlainPort) (i v : ℕ) (s : State) → IsWell p s
        → Holds p IsVal 0 K s (accessed inputs op port i v s)
    standing_holds op None i v s well = stops p _ s
    standing_holds op (Some port) i v s well = opened_holds (is_open port.group s) op port i v s well

    pub port_holds : {K : ℕ → Type 0} (table : PlainTable) (op : IoOp) (port : Option PlainPort) (i v : Value) (s : State) → IsWell p s
        → Holds p IsVal 0 K s (port_effect inputs table op port i v s)
    port_holds table op None i v s well = stops p _ s
    port_holds table op (Some port) i v s well = standing_holds op (standing_port table port port.dynamic s) _ _ s well

  pairs_objects : (pairs : List Pair) (s : State) → (pairs_written pairs s).objects ≡ s.objects
  pairs_objects [] s = refl
  pairs_objects (pair ∷ pairs) s = pairs_objects pairs (with_event (Out pair.port pair.byte) s)

  pairs_work : (pairs : List Pair) (s : State) → (pairs_written pairs s).work ≡ s.work
  pairs_work [] s = refl
  pairs_work (pair ∷ pairs) s = pairs_work pairs (with_event (Out pair.port pair.byte) s)

  pub group_holds : {K : ℕ → Type 0} (acquire : Bool) (g : ℕ) (x : Option PlainGroup) (s : State) → IsWell p s
      → Holds p IsVal 0 K s (group_effect acquire g x s)
  group_holds acquire g None s well = stops p _ s
  group_holds acquire g (Some x) s well =
      let e = pairs_objects (pairs_of acquire x) s in
      let w = pairs_work (pairs_of acquire x) s in
      record { is = (tt, unchanged p e (omega (arith, w)) well) }

  pub bind_holds : {K : ℕ → Type 0} (d choice : ℕ) (s : State) → IsWell p s → Holds p IsVal 0 K s (bind_effect d choice s)
  bind_holds d choice s well = record { is = (tt, unchanged p refl (omega arith) well) }

  module _ (table : PlainTable) (acquire : Bool) where
    choice_holds : {K : ℕ → Type 0} (c : Option Choice) (s : State) → IsWell p s
        → Holds p IsVal 0 K s (choice_effect acquire table c s)
    choice_holds None s well = stops p _ s
    choice_holds (Some c) s well = group_holds acquire c.group (slice_get table.groups c.group) s well

    pub dynamic_holds : {K : ℕ → Type 0} (d : ℕ) (s : State) → IsWell p s → Holds p IsVal 0 K s (dynamic_effect acquire table d s)
    dynamic_holds d s well = choice_holds (bound table d s) s well
