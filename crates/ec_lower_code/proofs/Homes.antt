-- Reads and writes of leaves, beside the operations for them.
use Rattle.std.proofs.Common.{◌≡◌, ℕ, suc, ◌+◌, ◌<◌, Bool, true, false, ◌&&◌, List, [], ◌∷◌, Option, Some, None, refl, sym, ap}
use Rattle.std.proofs.Common.{◌∙◌, arith, cond, subst, eqb-true, eq-eqb}
use Rattle.std.specs.Prelude.{◌==◌, if◌then◌else◌, slice_get, option_map, option_and_then, unwrap_or}
use Rattle.std.specs.List.{position_from}
use Rattle.std.proofs.lemmas.Option.{slice_get_within}
use Rattle.ec_space.specs.declared.space.SpaceId.{SpaceId}
use Rattle.ec_space.specs.Spaces.{holds}
use Rattle.ec_core.specs.declared.values.Undefined.TheVariants.{Unset, ConstWrite}
use Rattle.ec_core.specs.declared.values.ObjectPointer.{ObjectPointer}
use Rattle.ec_core.specs.declared.values.Value.{Value}
use Rattle.ec_core.specs.Accesses.{is_live_in, is_readable, leaf_at, Access, access, leaf_of, read_value, read, recorded}
use Rattle.ec_core.specs.Accesses.{with_leaf, leaf_count, first_write, is_read_only}
use Rattle.ec_core.specs.Layout.{PlainLeaf, IsScalar, scalar_size, leaves_of_type}
use Rattle.ec_core.specs.Operators.{same_type}
use Rattle.ec_core.specs.Plain.{PlainType, void, PlainObject, PlainProgram}
use Rattle.ec_core.specs.ValueTypes.{HasType}
use Rattle.ec_core.specs.State.{Read, Write, told, ObjectState, State, with_object, got, undefined, next}
use Rattle.ec_core.proofs.Growth.{some_if, some_then, some_map, and_true}
use Rattle.ec_core.proofs.Sameness.{type_true}
use Rattle.ec_ir.specs.Meaning.{held_as, leaf_from, access_at, object_access, accessed_type, is_access_of, pointer_access, put_leaf, put}
use Rattle.ec_ir.specs.Temporaries.{Temps}
use Rattle.ec_lower_code.specs.Code.{temp}
use Rattle.ec_lower_code.proofs.Objects.{shown_at}
use Rattle.ec_lower_code.proofs.Shown.{erased, shown, held_of, AreShown}
use Rattle.ec_lower_code.proofs.Steps.{held_as_is}
use Rattle.ec_lower_code.proofs.Values.{told_shown, readable_shown}

-- the leaves of an object begin at different offsets
abbrev pub AreApart : PlainProgram → Type 0
AreApart program = (o : ℕ) (d : PlainObject) (k : ℕ) (leaf : PlainLeaf) → slice_get program.objects o ≡ Some d
    → slice_get (leaves_of_type program.structs d.ty) k ≡ Some leaf → leaf_from program d leaf.at ≡ Some k

-- what a search found
record IsFound {X : Type 0} (q : X → Bool) (i : ℕ) (xs : List X) (k : ℕ) : Type 0 where
  item : X
  at : ℕ
  is : slice_get xs at ≡ Some item
  counted : k ≡ i + at
  passes : q item ≡ true

found : {X : Type 0} (q : X → Bool) (i : ℕ) (xs : List X) (k : ℕ) → position_from q i xs ≡ Some k → IsFound q i xs k
found q i [] k e = cc
found {X} q i (x ∷ xs) k e = by_test (q x) refl e (λ f. found q (i + 1) xs k f)
  where
    first : q x ≡ true → Some i ≡ Some k → IsFound q i (x ∷ xs) k
    first t f = let g : i ≡ k = cc in record { item = x; at = 0; is = refl; counted = omega (arith, g); passes = t }

    later : IsFound q (i + 1) xs k → IsFound q i (x ∷ xs) k
    later r = record { item = r.item; at = suc r.at; is = r.is; counted = omega (arith, r.counted); passes = r.passes }

    by_test : (b : Bool) → q x ≡ b → cond b (Some i) (position_from q (i + 1) xs) ≡ Some k → (position_from q (i + 1) xs ≡ Some k
        → IsFound q (i + 1) xs k) → IsFound q i (x ∷ xs) k
    by_test true t f go = first t f
    by_test false t f go = later (go f)

module _ (program : PlainProgram) (apart : AreApart program) where
  -- a leaf of a live object, found on both sides, through a space or that of the object's declaration
  pub record HasLeaf (via : Option SpaceId) (o offset : ℕ) (ty : PlainType) (s : State) (a : Access) : Type 0 where
    pub d : PlainObject
    pub x : ObjectState
    pub k : ℕ
    pub leaf : PlainLeaf
    pub declared : slice_get program.objects o ≡ Some d
    pub state : slice_get s.objects o ≡ Some x
    pub live : x.live ≡ true
    pub item : slice_get (leaves_of_type program.structs d.ty) k ≡ Some leaf
    pub begins : leaf_from program d offset ≡ Some k
    pub typed : leaf.ty ≡ ty
    pub is : access_at via o d x k ≡ a
    -- a pointer is into its space
    pub within : (space : SpaceId) → via ≡ Some space → holds space d.home ≡ true

  -- what a pointer points to
  pub pointed_found : (ty : PlainType) (space : SpaceId) (p : ObjectPointer) (s : State) (a : Access) → access program ty (Some space)
      (Some p) s ≡ Some a → HasLeaf (Some space) p.object p.offset ty s a
  pointed_found ty space p s a h =
      let d = some_then (slice_get program.objects p.object) _ a h in
      let x = some_then (slice_get s.objects p.object) _ a d.2 in
      let b = some_if (is_live_in p x.0 && holds space d.0.home) _ a x.2 in
      let m = some_map (leaf_at program d.0 ty p.offset) _ a b.1 in
      let l = found (λ (leaf : PlainLeaf). leaf.at == p.offset && same_type leaf.ty ty) 0 (leaves_of_type program.structs d.0.ty) m.0 m.1 in
      let n : l.at ≡ m.0 = omega (arith, l.counted) in
      let q = and_true (l.item.at == p.offset) (same_type l.item.ty ty) l.passes in
      let is : slice_get (leaves_of_type program.structs d.0.ty) m.0 ≡ Some l.item = ap (slice_get (leaves_of_type program.structs d.0.ty))
      (sym n) ∙ l.is in
      record {
        d = d.0;
        x = x.0;
        k = m.0;
        leaf = l.item;
        declared = d.1;
        state = x.1;
        live = (and_true x.0.live (x.0.serial == p.instance) (and_true (is_live_in p x.0) (holds space d.0.home) b.0).0).0;
        item = is;
        begins = ap (leaf_from program d.0) (sym (eqb-true l.item.at p.offset q.0)) ∙ apart p.object d.0 m.0 l.item d.1 is;
        typed = type_true l.item.ty ty q.1;
        is = m.2;
        within = λ c e. let g : space ≡ c = cc in
            subst (λ (z : SpaceId). holds z d.0.home ≡ true) g (and_true (is_live_in p x.0) (holds space d.0.home) b.0).1;
      }

  -- a place in an object that is named, whose space is that of its declaration
  pub named_found : (ty : PlainType) (sp : Option SpaceId) (p : ObjectPointer) (s : State) (a : Access)
      → sp ≡ option_map (λ (x : PlainObject). x.space) (slice_get program.objects p.object) → access program ty sp (Some p) s ≡ Some a
      → HasLeaf None p.object p.offset ty s a
  named_found ty sp p s a e h =
      let c = some_then sp _ a h in
      let l = pointed_found ty c.0 p s a c.2 in
      let f : option_map (λ (x : PlainObject). x.space) (slice_get program.objects p.object) ≡ Some c.0 = sym e ∙ c.1 in
      let g : Some l.d.space ≡ Some c.0 = sym (ap (option_map (λ (x : PlainObject). x.space)) l.declared) ∙ f in
      let i : l.d.space ≡ c.0 = cc in
      record {
        d = l.d;
        x = l.x;
        k = l.k;
        leaf = l.leaf;
        declared = l.declared;
        state = l.state;
        live = l.live;
        item = l.item;
        begins = l.begins;
        typed = l.typed;
        is = ap (λ sp. record { object = p.object; leaf = l.k; space = sp; declared = l.d; state = l.x }) i ∙ l.is;
        within = λ space e. cc;
      }

  -- the operations' access of it
  home_access : (via : Option SpaceId) (o offset : ℕ) (d : PlainObject) (y : ObjectState) (k : ℕ) (t : State)
      → slice_get program.objects o ≡ Some d → slice_get t.objects o ≡ Some y → leaf_from program d offset ≡ Some k
      → object_access program via o offset t ≡ Some (access_at via o d y k)
  home_access via o offset d y k t e f g =
      ap (λ z. option_and_then (λ d. option_and_then (λ x. option_map (access_at via o d x) (leaf_from program d offset))
      (slice_get t.objects o)) z) e
      ∙ ap (λ z. option_and_then (λ x. option_map (access_at via o d x) (leaf_from program d offset)) z) f
      ∙ ap (option_map (access_at via o d y)) g

  -- an access of it through a pointer
  pub pointed_home : (fs : List ℕ) (space : SpaceId) (p : ObjectPointer) (ty : PlainType) (s t : State) (a : Access)
      → HasLeaf (Some space) p.object p.offset ty s a → AreShown program fs program.objects s.objects t.objects
      → pointer_access program space (scalar_size ty) (Some (erased p)) t ≡ object_access program (Some space) p.object p.offset t
  pointed_home fs space p ty s t a l h =
      let z = shown_at program fs program.objects s.objects t.objects p.object l.d l.x h l.declared l.state in
      let b : Access = access_at (Some space) p.object l.d z.0 l.k in
      let typed : accessed_type program (Some b) ≡ ty =
      ap (λ q. unwrap_or (option_map (λ (leaf : PlainLeaf). leaf.ty) q) void) l.item ∙ l.typed in
      let found_at = home_access (Some space) p.object p.offset l.d z.0 l.k t l.declared z.1 l.begins in
      ap (option_and_then (λ c. if is_access_of program space (scalar_size ty) c then Some c else None)) found_at
      ∙ ap (λ c. if c && (holds space l.d.home && scalar_size (accessed_type program (Some b)) == scalar_size ty) then Some b else None)
      (z.2.stands (z.2.kept l.live))
      ∙ ap (λ c. if c && scalar_size (accessed_type program (Some b)) == scalar_size ty then Some b else None) (l.within space refl)
      ∙ ap (λ c. if c then Some b else None) (eq-eqb (scalar_size (accessed_type program (Some b))) (scalar_size ty) (ap scalar_size typed))
      ∙ sym found_at

  -- a value that is read is read at home
  pub read_home : (fs : List ℕ) (via : Option SpaceId) (o offset : ℕ) (ty : PlainType) (s t : State) (a : Access) (l : HasLeaf via o
      offset ty s a)
      (v : Value) → AreShown program fs program.objects s.objects t.objects → leaf_of l.x l.k ≡ Some v → is_readable program v s ≡ true
      → read program (object_access program via o offset t) t ≡ got (shown v)
      (recorded l.d.storage (Read o l.k (unwrap_or via l.d.space) (told v)) t)
  read_home fs via o offset ty s t a l v h e r =
      let z = shown_at program fs program.objects s.objects t.objects o l.d l.x h l.declared l.state in
      let b : Access = access_at via o l.d z.0 l.k in
      ap (λ q. read program q t) (home_access via o offset l.d z.0 l.k t l.declared z.1 l.begins)
      ∙ ap (λ q. read_value program b q t) (z.2.values l.live l.k v e)
      ∙ ap (λ c. if c then got (shown v) (recorded l.d.storage (Read o l.k (unwrap_or via l.d.space) (told (shown v))) t)
      else undefined Unset t) (readable_shown program fs s t h v r)
      ∙ ap (λ q. got (shown v) (recorded l.d.storage (Read o l.k (unwrap_or via l.d.space) q) t)) (told_shown v)

  -- a value that is written to an object that is not kept in flash
  pub put_home : (fs : List ℕ) (via : Option SpaceId) (o offset : ℕ) (ty : PlainType) (t0 : ℕ) (temps : Temps) (s t : State) (a : Access)
      (l : HasLeaf via o offset ty s a) (v : Value) → AreShown program fs program.objects s.objects t.objects → IsScalar ty
      → HasType program ty v → temps t0 ≡ Some (held_of ty v) → is_read_only l.d.home ≡ false
      → put program (object_access program via o offset t) (temp t0 ty) temps t ≡ got (shown v)
      (recorded l.d.storage (Write o l.k (unwrap_or via l.d.space) (told v)) (with_object o (with_leaf l.k (shown v)) t))
  put_home fs via o offset ty t0 temps s t a l v h i vt e f =
      let z = shown_at program fs program.objects s.objects t.objects o l.d l.x h l.declared l.state in
      let b : Access = access_at via o l.d z.0 l.k in
      let typed : accessed_type program (Some b) ≡ ty = ap (λ q. unwrap_or (option_map (λ (leaf : PlainLeaf). leaf.ty) q) void) l.item
      ∙ l.typed in
      ap (λ q. put program q (temp t0 ty) temps t) (home_access via o offset l.d z.0 l.k t l.declared z.1 l.begins)
      ∙ ap (λ q. next (held_as program q (temp t0 ty) temps t) (λ x s1. put_leaf (Some b) x s1)) typed
      ∙ ap (λ q. next q (λ x s1. put_leaf (Some b) x s1)) (held_as_is program ty t0 v temps t i vt e)
      ∙ ap (λ c. if c then undefined ConstWrite t else first_write (Some b) (shown v) t) f
      ∙ ap (λ q. got (shown v) (recorded l.d.storage (Write o l.k (unwrap_or via l.d.space) q) (with_object o (with_leaf l.k (shown v)) t)))
      (told_shown v)

  pub leaf_within : (via : Option SpaceId) (o offset : ℕ) (ty : PlainType) (s : State) (a : Access) (l : HasLeaf via o offset ty s a)
      → l.k < leaf_count program l.d.ty
  leaf_within via o offset ty s a l = slice_get_within (leaves_of_type program.structs l.d.ty) l.k l.leaf l.item
