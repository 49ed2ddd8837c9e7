-- Accesses of objects are of live ones.
use Rattle.std.proofs.Common.{◌≡◌, ℕ, Bool, true, false, ◌&&◌, Option, Some, None, refl, sym, ap, ◌∙◌}
use Rattle.std.specs.Prelude.{◌==◌, if◌then◌else◌, slice_get}
use Rattle.std.proofs.lemmas.Bool.{eqb-true}
use Rattle.ec_space.specs.Spaces.{holds}
use Rattle.ec_space.specs.declared.space.SpaceId.{SpaceId}
use Rattle.ec_core.specs.Accesses.{Access, access, own_access, is_live_in, is_readable, is_fixed, recorded, leaf_of, leaf_at}
use Rattle.ec_core.specs.Accesses.{read_value, read, stored, write, first_write}
use Rattle.ec_core.specs.Plain.{PlainType, PlainProgram}
use Rattle.ec_core.specs.Pointers.{Pointer as PointerValue}
use Rattle.ec_core.specs.State.{Read, told, State, got, undefined}
use Rattle.ec_core.specs.declared.values.Undefined.TheVariants.{Unset, ConstWrite}
use Rattle.ec_core.specs.declared.values.Value.{Value}
use Rattle.ec_core.proofs.Growth.{and_true, some_if, some_then, some_map, found_access, found_own}
use Rattle.ec_core_accesses.specs.Objects.{IsThrough, IsOwn, IsReadIn, IsWrittenIn, AccessesAreLive}

module _ (program : PlainProgram) where
  -- ---- which access is found

  found_through : (ty : PlainType) (space : Option SpaceId) (to : PointerValue) (s : State) (a : Access)
      → access program ty space to s ≡ Some a → IsThrough program space to s a
  found_through ty space to s a h =
      let c = some_then space _ a h in
      let p = some_then to _ a c.2 in
      let d = some_then (slice_get program.objects p.0.object) _ a p.2 in
      let x = some_then (slice_get s.objects p.0.object) _ a d.2 in
      let i = some_if (is_live_in p.0 x.0 && holds c.0 d.0.home) _ a x.2 in
      let b = and_true (is_live_in p.0 x.0) (holds c.0 d.0.home) i.0 in
      let l = and_true x.0.live (x.0.serial == p.0.instance) b.0 in
      let m = some_map (leaf_at program d.0 ty p.0.offset) _ a i.1 in
      record {
        made = found_access program ty space to s a h;
        into = c.1 ∙ ap (λ (z : Access). Some z.space) m.2;
        pointer = p.0;
        is = p.1;
        object = sym (ap (λ (z : Access). z.object) m.2);
        instance = sym (ap (λ (z : Access). z.state.serial) m.2) ∙ eqb-true x.0.serial p.0.instance l.1;
      }

  found_of_own : (o k : ℕ) (s : State) (a : Access) → own_access program o k s ≡ Some a → IsOwn program o k s a
  found_of_own o k s a h =
      let d = some_then (slice_get program.objects o) _ a h in
      let x = some_then (slice_get s.objects o) _ a d.2 in
      let c = some_if (x.0.live && holds d.0.space d.0.home) _ a x.2 in
      let e : record { object = o; leaf = k; space = d.0.space; declared = d.0; state = x.0 } ≡ a = cc in
      record {
        made = found_own program o k s a h;
        into = sym (ap (λ (z : Access). z.space) e) ∙ ap (λ (z : Access). z.declared.space) e;
        object = sym (ap (λ (z : Access). z.object) e);
        leaf = sym (ap (λ (z : Access). z.leaf) e);
      }

  -- ---- what is done by it

  module _ (s : State) (made : Access → Type 0) where
    read_by : (o : Option Access) → ((a : Access) → o ≡ Some a → made a) → IsReadIn s made (read program o s)
    read_by None f = refl
    read_by (Some a) f = by_leaf (leaf_of a.state a.leaf) refl where
      by_test : (v : Value) (b : Bool) → leaf_of a.state a.leaf ≡ Some v
          → IsReadIn s made (if b then got v (recorded a.declared.storage (Read a.object a.leaf a.space (told v)) s) else undefined Unset s)
      by_test v true q = (a, f a refl, q, refl)
      by_test v false q = refl

      by_leaf : (z : Option Value) → leaf_of a.state a.leaf ≡ z → IsReadIn s made (read_value program a z s)
      by_leaf None q = refl
      by_leaf (Some v) q = by_test v (is_readable program v s) q

    write_by : (o : Option Access) (v : Value) → ((a : Access) → o ≡ Some a → made a) → IsWrittenIn s made v (write o v s)
    write_by None v f = refl
    write_by (Some a) v f = by_test (is_fixed a.declared) where
      by_test : (b : Bool) → IsWrittenIn s made v (if b then undefined ConstWrite s else got v (stored a v s))
      by_test true = refl
      by_test false = (a, f a refl, refl, refl)

    first_by : (o : Option Access) (v : Value) → ((a : Access) → o ≡ Some a → made a) → IsWrittenIn s made v (first_write o v s)
    first_by None v f = refl
    first_by (Some a) v f = (a, f a refl, refl, refl)

pub accesses_are_live : AccessesAreLive
accesses_are_live program = record {
  reads = λ ty space to s.
      read_by program s (IsThrough program space to s) (access program ty space to s) (λ a h. found_through program ty space to s a h);
  writes = λ ty space to v s.
      write_by program s (IsThrough program space to s) (access program ty space to s) v (λ a h. found_through program ty space to s a h);
  initialises = λ o k v s.
      first_by program s (IsOwn program o k s) (own_access program o k s) v (λ a h. found_of_own program o k s a h);
}
