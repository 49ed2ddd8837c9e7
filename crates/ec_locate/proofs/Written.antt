-- What is written into a flash stays there, where nothing later is written over it.
use Rattle.std.proofs.Common.{◌≡◌, ◌⊎◌, inl, inr, ⊎_elim, ◌+◌, ◌<◌, ◌≤◌, ℕ, zero, suc, Bool, true, false, List, [], ◌∷◌, ◌++◌, length, map}
use Rattle.std.proofs.Common.{get_or, add-zero, Some, refl, sym, ap, ◌∙◌, subst, arith}
use Rattle.std.specs.Prelude.{slice_get}
use Rattle.std.proofs.lemmas.List.{length-append, length-map, get_or_append_left, get_or-append-add}
use Rattle.ec_space.specs.ByteLaws.{length-little_endian}
use Rattle.ec_space.specs.Bytes.{little_endian}
use Rattle.ec_space.specs.declared.space.Place.{Place}
use Rattle.ec_asm.specs.Placed.{HoldsFrom}
use Rattle.ec_core.specs.Layout.{PlainLeaf, scalar_size}
use Rattle.ec_core.specs.Plain.{PlainStruct, PlainObject, PlainStorage, static, local, param, register, PlainProgram}
use Rattle.ec_core.specs.TypeLaws.{FillFrom}
use Rattle.ec_core.specs.Valid.{AreInitialValues}
use Rattle.ec_core.specs.declared.programs.LeafInit.{LeafInit}
use Rattle.ec_locate.specs.Image.{FlashView, value_number, value_bytes, leaf_bytes, object_bytes, with_bytes, values_at, with_values}
use Rattle.ec_locate.specs.Image.{with_objects}
use Rattle.ec_locate.specs.Layout.{LayoutView}
use Rattle.ec_locate.proofs.Stand.{length_overwritten, overwritten_outside, overwritten_holds}

-- ---- bytes one after another

front_holds : (flash : List ℕ) (at : ℕ) (a b : List ℕ) → HoldsFrom flash at (a ++ b) → HoldsFrom flash at a
front_holds flash at a b h =
    let n = length-append a b in
    let w = h.within in
    record { within = omega (arith, n, w); bytes_there = λ k l. h.bytes_there k (omega (arith, n, l)) ∙ get_or_append_left a b 0 k l }

rest_holds : (flash : List ℕ) (at : ℕ) (a b : List ℕ) → HoldsFrom flash at (a ++ b) → HoldsFrom flash (at + length a) b
rest_holds flash at a b h =
    let n = length-append a b in
    let w = h.within in
    record {
      within = omega (arith, n, w);
      bytes_there = λ k l.
          let q : at + length a + k ≡ at + (length a + k) = omega arith in
          ap (λ j. get_or flash j 0) q ∙ h.bytes_there (length a + k) (omega (arith, n, l)) ∙ get_or-append-add a b k 0;
    }

pub at_index : (flash : List ℕ) (at to : ℕ) (bytes : List ℕ) → at ≡ to → HoldsFrom flash at bytes → HoldsFrom flash to bytes
at_index flash at to bytes q h = subst (λ n. HoldsFrom flash n bytes) q h

-- ---- the bytes of leaves

-- the initial values of which the first is number i among all
abbrev GoesOn : (all : List LeafInit) → ℕ → (rest : List LeafInit) → Type 0
GoesOn all i rest = (k : ℕ) → slice_get all (i + k) ≡ slice_get rest k

first_of_rest : (all : List LeafInit) (i : ℕ) (init : LeafInit) (rest : List LeafInit) → GoesOn all i (init ∷ rest)
    → slice_get all i ≡ Some init
first_of_rest all i init rest g = subst (λ n. slice_get all n ≡ Some init) (add-zero i) (g 0)

next_of_rest : (all : List LeafInit) (i : ℕ) (init : LeafInit) (rest : List LeafInit) → GoesOn all i (init ∷ rest) → GoesOn all (i + 1) rest
next_of_rest all i init rest g k =
    let q : i + suc k ≡ i + 1 + k = omega arith in
    subst (λ n. slice_get all n ≡ slice_get rest k) q (g (suc k))

pub leaf_length : (p : PlainProgram) (places : List Place) (at end i : ℕ) (leaves : List PlainLeaf) (rest all : List LeafInit)
    → FillFrom at end leaves → AreInitialValues p leaves rest → GoesOn all i rest
    → at + length (leaf_bytes places i leaves all) ≡ end
leaf_length p places at end i [] [] all f v g = add-zero at ∙ f
leaf_length p places at end i [] (init ∷ rest) all f v g = absurd v
leaf_length p places at end i (leaf ∷ leaves) [] all f v g = absurd v
leaf_length p places at end i (leaf ∷ leaves) (init ∷ rest) all f v g =
    let here = first_of_rest all i init rest g in
    let more = leaf_length p places (at + scalar_size leaf.ty) end (i + 1) leaves rest all f.2 v.1 (next_of_rest all i init rest g) in
    let value = little_endian (scalar_size leaf.ty) (value_number places leaf.ty init) in
    let n = length-append value (leaf_bytes places (i + 1) leaves all) in
    let m = length-little_endian (scalar_size leaf.ty) (value_number places leaf.ty init) in
    rw here (omega (arith, more, n, m))

abbrev leaf_value : List Place → PlainLeaf → LeafInit → List ℕ
leaf_value places leaf init = little_endian (scalar_size leaf.ty) (value_number places leaf.ty init)

in_row : (places : List Place) (flash : List ℕ) (base at i : ℕ) (x : PlainLeaf) (y : LeafInit) (leaves : List PlainLeaf)
    (rest all : List LeafInit)
    → GoesOn all i (y ∷ rest) → HoldsFrom flash (base + at) (leaf_bytes places i (x ∷ leaves) all)
    → HoldsFrom flash (base + at) (leaf_value places x y ++ leaf_bytes places (i + 1) leaves all)
in_row places flash base at i x y leaves rest all g h =
    subst (λ o. HoldsFrom flash (base + at) (value_bytes places x.ty o ++ leaf_bytes places (i + 1) leaves all))
    (first_of_rest all i y rest g) h

-- where they stand in a row, each stands at its offset
pub leaf_stands : (p : PlainProgram) (places : List Place) (flash : List ℕ) (base at end i : ℕ) (leaves : List PlainLeaf)
    (rest all : List LeafInit)
    → FillFrom at end leaves → AreInitialValues p leaves rest → GoesOn all i rest
    → HoldsFrom flash (base + at) (leaf_bytes places i leaves all)
    → (k : ℕ) (leaf : PlainLeaf) (init : LeafInit) → slice_get leaves k ≡ Some leaf → slice_get rest k ≡ Some init
    → HoldsFrom flash (base + leaf.at) (little_endian (scalar_size leaf.ty) (value_number places leaf.ty init))
leaf_stands p places flash base at end i [] rest all f v g h k leaf init q r = cc
leaf_stands p places flash base at end i (x ∷ leaves) [] all f v g h k leaf init q r = absurd v
leaf_stands p places flash base at end i (x ∷ leaves) (y ∷ rest) all f v g h zero leaf init q r =
    let same : x ≡ leaf = cc in
    let value : y ≡ init = cc in
    let row = in_row places flash base at i x y leaves rest all g h in
    let front = front_holds flash (base + at) (leaf_value places x y) (leaf_bytes places (i + 1) leaves all) row in
    let placed = at_index flash (base + at) (base + x.at) (leaf_value places x y) (ap (λ n. base + n) (sym f.0)) front in
    rw (← same, ← value) placed
leaf_stands p places flash base at end i (x ∷ leaves) (y ∷ rest) all f v g h (suc k) leaf init q r =
    let m = length-little_endian (scalar_size x.ty) (value_number places x.ty y) in
    let row = in_row places flash base at i x y leaves rest all g h in
    let more = rest_holds flash (base + at) (leaf_value places x y) (leaf_bytes places (i + 1) leaves all) row in
    let placed = at_index flash (base + at + length (leaf_value places x y)) (base + (at + scalar_size x.ty))
    (leaf_bytes places (i + 1) leaves all) (omega (arith, m)) more in
    leaf_stands p places flash base (at + scalar_size x.ty) end (i + 1) leaves rest all f.2 v.1
    (next_of_rest all i y rest g) placed k leaf init q r

-- ---- the initial values of objects, one after another

-- whether a byte is one of so many from an address on
abbrev pub Misses : (a at size : ℕ) → Type 0
Misses a at size = (a < at) ⊎ (at + size ≤ a)

module _ (structs : List PlainStruct) (y : LayoutView) where
  abbrev pub bytes_of : PlainObject → List LeafInit → List ℕ
  bytes_of o inits = object_bytes y.places structs o.ty inits

  -- no object of these, of which the first is number i, has its initial values there, from number n on
  abbrev pub Avoids : (n i : ℕ) → List PlainObject → ℕ → Type 0
  Avoids n i os a =
      (k : ℕ) (o : PlainObject) (inits : List LeafInit) → n ≤ k → slice_get os k ≡ Some o → o.storage ≡ static inits
      → Misses a (values_at y (i + k) o.home) (length (bytes_of o inits))

  next_avoids : (n i : ℕ) (x : PlainObject) (os : List PlainObject) (a : ℕ) → Avoids (suc n) i (x ∷ os) a → Avoids n (i + 1) os a
  next_avoids n i x os a h k o inits l q s =
      let e : i + suc k ≡ i + 1 + k = omega arith in
      subst (λ j. Misses a (values_at y j o.home) (length (bytes_of o inits))) e (h (suc k) o inits (omega arith) q s)

  -- ---- lengths

  values_length : (i : ℕ) (o : PlainObject) (s : PlainStorage) (f : FlashView)
      → (length (with_values structs y i o s f).bytes ≡ length f.bytes)
      × (length (with_values structs y i o s f).written ≡ length f.written)
  values_length i o (static inits) f = (
    length_overwritten f.bytes (values_at y i o.home) (bytes_of o inits),
    length_overwritten f.written (values_at y i o.home) (map (λ byte. true) (bytes_of o inits)),
  )
  values_length i o (local g) f = (refl, refl)
  values_length i o (param g) f = (refl, refl)
  values_length i o (register r) f = (refl, refl)

  pub objects_length : (i : ℕ) (os : List PlainObject) (f : FlashView)
      → (length (with_objects structs y i os f).bytes ≡ length f.bytes)
      × (length (with_objects structs y i os f).written ≡ length f.written)
  objects_length i [] f = (refl, refl)
  objects_length i (o ∷ os) f =
      let a = objects_length (i + 1) os (with_values structs y i o o.storage f) in
      let b = values_length i o o.storage f in
      (a.0 ∙ b.0, a.1 ∙ b.1)

  -- ---- what stands elsewhere stays

  abbrev pub AreSame : (f g : FlashView) → ℕ → Type 0
  AreSame f g a = (get_or f.bytes a 0 ≡ get_or g.bytes a 0) × (get_or f.written a false ≡ get_or g.written a false)

  pub bytes_outside : (f : FlashView) (at : ℕ) (bytes : List ℕ) (a : ℕ) → Misses a at (length bytes) → AreSame (with_bytes f at bytes) f a
  bytes_outside f at bytes a h =
      let n = length-map {B = Bool} bytes (λ byte. true) in
      let far : Misses a at (length {A = Bool} (map (λ byte. true) bytes)) = ⊎_elim (λ l. inl l) (λ l. inr (omega (arith, n, l))) h in
      (overwritten_outside f.bytes at bytes a 0 h, overwritten_outside f.written at (map (λ byte. true) bytes) a false far)

  values_outside : (i : ℕ) (o : PlainObject) (s : PlainStorage) (f : FlashView) (a : ℕ) → o.storage ≡ s
      → ((inits : List LeafInit) → o.storage ≡ static inits → Misses a (values_at y i o.home) (length (bytes_of o inits)))
      → AreSame (with_values structs y i o s f) f a
  values_outside i o (static inits) f a q h = bytes_outside f (values_at y i o.home) (bytes_of o inits) a (h inits q)
  values_outside i o (local g) f a q h = (refl, refl)
  values_outside i o (param g) f a q h = (refl, refl)
  values_outside i o (register r) f a q h = (refl, refl)

  pub objects_outside : (i : ℕ) (os : List PlainObject) (f : FlashView) (a : ℕ) → Avoids 0 i os a
      → AreSame (with_objects structs y i os f) f a
  objects_outside i [] f a h = (refl, refl)
  objects_outside i (o ∷ os) f a h =
      let later = objects_outside (i + 1) os (with_values structs y i o o.storage f) a
      (next_avoids 0 i o os a (λ k x inits l q s. h k x inits (omega arith) q s)) in
      let here = values_outside i o o.storage f a refl (λ inits s.
      subst (λ j. Misses a (values_at y j o.home) (length (bytes_of o inits))) (add-zero i) (h 0 o inits (omega arith) refl s)) in
      (later.0 ∙ here.0, later.1 ∙ here.1)

  -- ---- and what is put there stands there

  -- byte t of the bytes of an object
  abbrev pub IsByte : FlashView → (a byte : ℕ) → Type 0
  IsByte f a byte = (get_or f.bytes a 0 ≡ byte) × (get_or f.written a false ≡ true)

  all_true : (xs : List ℕ) (k : ℕ) → k < length xs → get_or (map (λ x. true) xs) k false ≡ true
  all_true [] k l = absurd (omega arith)
  all_true (x ∷ xs) zero l = refl
  all_true (x ∷ xs) (suc k) l = all_true xs k (omega arith)

  pub bytes_inside : (f : FlashView) (at : ℕ) (bytes : List ℕ) (t : ℕ) → at + length bytes ≤ length f.bytes
      → at + length bytes ≤ length f.written
      → t < length bytes → IsByte (with_bytes f at bytes) (at + t) (get_or bytes t 0)
  bytes_inside f at bytes t b w l =
      let n = length-map {B = Bool} bytes (λ byte. true) in (
        overwritten_holds f.bytes at bytes 0 b t l,
        overwritten_holds f.written at (map (λ byte. true) bytes) false (omega (arith, n, w)) t (omega (arith, n, l)) ∙ all_true bytes t l,
      )

  pub objects_inside : (i : ℕ) (os : List PlainObject) (f : FlashView) (k : ℕ) (o : PlainObject) (inits : List LeafInit) (t : ℕ)
      → slice_get os k ≡ Some o → o.storage ≡ static inits
      → values_at y (i + k) o.home + length (bytes_of o inits) ≤ length f.bytes
      → values_at y (i + k) o.home + length (bytes_of o inits) ≤ length f.written → t < length (bytes_of o inits)
      → Avoids (suc k) i os (values_at y (i + k) o.home + t)
      → IsByte (with_objects structs y i os f) (values_at y (i + k) o.home + t) (get_or (bytes_of o inits) t 0)
  objects_inside i [] f k o inits t q s b w l h = cc
  objects_inside i (x ∷ os) f zero o inits t q s b w l h =
      let same : x ≡ o = cc in
      let at = values_at y i o.home in
      let first = add-zero i in
      let later : Avoids 0 (i + 1) os (at + t) =
      subst (λ j. Avoids 0 (i + 1) os (values_at y j o.home + t)) first (next_avoids 0 i x os (values_at y (i + 0) o.home + t) h) in
      let put : with_values structs y i x x.storage f ≡ with_bytes f at (bytes_of o inits) = rw (same, s) refl in
      let b' : at + length (bytes_of o inits) ≤ length f.bytes =
      subst (λ j. values_at y j o.home + length (bytes_of o inits) ≤ length f.bytes) first b in
      let w' : at + length (bytes_of o inits) ≤ length f.written =
      subst (λ j. values_at y j o.home + length (bytes_of o inits) ≤ length f.written) first w in
      let inside = bytes_inside f at (bytes_of o inits) t b' w' l in
      let stays = objects_outside (i + 1) os (with_values structs y i x x.storage f) (at + t) later in
      let whole : IsByte (with_objects structs y i (x ∷ os) f) (at + t) (get_or (bytes_of o inits) t 0) =
      (stays.0 ∙ ap (λ g. get_or g.bytes (at + t) 0) put ∙ inside.0, stays.1 ∙ ap (λ g. get_or g.written (at + t) false) put ∙ inside.1) in
      subst (λ j. IsByte (with_objects structs y i (x ∷ os) f) (values_at y j o.home + t) (get_or (bytes_of o inits) t 0)) (sym first) whole
  objects_inside i (x ∷ os) f (suc k) o inits t q s b w l h =
      let e : i + suc k ≡ i + 1 + k = omega arith in
      let n = values_length i x x.storage f in
      let rest = objects_inside (i + 1) os (with_values structs y i x x.storage f) k o inits t q s
      (subst (λ j. values_at y j o.home + length (bytes_of o inits) ≤ length (with_values structs y i x x.storage f).bytes) e
      (omega (arith, n.0, b)))
      (subst (λ j. values_at y j o.home + length (bytes_of o inits) ≤ length (with_values structs y i x x.storage f).written) e
      (omega (arith, n.1, w)))
      l (subst (λ j. Avoids (suc k) (i + 1) os (values_at y j o.home + t)) e
      (next_avoids (suc k) i x os (values_at y (i + suc k) o.home + t) h)) in
      subst (λ j. IsByte (with_objects structs y i (x ∷ os) f) (values_at y j o.home + t) (get_or (bytes_of o inits) t 0)) (sym e) rest
