-- The one object that has a name, and the widths of numbers.
use Rattle.std.proofs.Common.{◌≡◌, ℕ, zero, suc, ◌+◌, ◌<◌, ◌≤◌, ◌⊎◌, inl, inr, ⊎_elim, Bool, true, false, ◌&&◌, List, [], ◌∷◌, length}
use Rattle.std.proofs.Common.{Some, None, refl, sym, ap, ◌∙◌, subst, arith}
use Rattle.std.specs.Prelude.{map, option_map, position, slice_get, slice_index_or, AllPairs}
use Rattle.std.specs.List.{AllByRecursion, position_from}
use Rattle.std.proofs.lemmas.Iterator.Adapters.{position_from-zero}
use Rattle.std.proofs.lemmas.List.Quantifiers.{position-Some}
use Rattle.std.proofs.lemmas.Option.{slice_get-map, slice_get-get_or, slice_get_within, get_or_from_slice_get}
use Rattle.std.proofs.lemmas.Bool.{and_parts, cases_Bool}
use Rattle.std.specs.Str.{bytes_eq}
use Rattle.std.proofs.lemmas.Slice.Eq.{bytes_eq-Decides}
use Rattle.ec_fx.specs.declared.formats.FxKind.TheVariants as kinds
use Rattle.ec_space.specs.declared.space.Place.{Place}
use Rattle.ec_core.specs.declared.arithmetic_types.Arithmetic.{Arithmetic}
use Rattle.ec_core.specs.declared.programs.Obj.{Obj}
use Rattle.ec_core.specs.ArithmeticTypes.{arithmetic_of}
use Rattle.ec_core.specs.Layout.{IsScalar, IsObjectType, PlainLeaf, scalar_size, leaves_of_type}
use Rattle.ec_core.specs.Plain.{PlainType, void, integer, fixed, pointer, array, struct, PlainObject, PlainProgram, plain_object}
use Rattle.ec_core.specs.TypeLaws.{LeavesFillTheirTypes, IsLeafAt}
use Rattle.ec_core.specs.Valid.{IsObject, HaveOwnNames}
use Rattle.ec_emu_watch.specs.Points.{IsWidth, is_data}
use Rattle.ec_space.specs.Spaces.{bank_of}
use Rattle.ec_watch_points.specs.Numbers.{IsValid, is_static, is_named, IsNumber, HavePlaces}

pub object_at : (objects : List Obj) (i : ℕ) (d : Obj) → i < length objects
    → slice_get (map plain_object objects) i ≡ Some (plain_object (slice_index_or objects i d))
object_at objects i d h = slice_get-map plain_object objects i ∙ ap (option_map plain_object) (slice_get-get_or objects i d h)

pub width_of : (t : PlainType) (ty : Arithmetic) → IsScalar t → arithmetic_of t ≡ Some ty → IsWidth (scalar_size t)
width_of void ty s e = absurd s
width_of (integer signed bytes) ty (inl h) e = inl h
width_of (integer signed bytes) ty (inr (inl h)) e = inr (inl h)
width_of (integer signed bytes) ty (inr (inr h)) e = inr (inr (inl h))
width_of (fixed kinds.ShortFract z) ty s e = inl refl
width_of (fixed kinds.Fract z) ty s e = inr (inl refl)
width_of (fixed kinds.LongFract z) ty s e = inr (inr (inl refl))
width_of (fixed kinds.ShortAccum z) ty s e = inr (inl refl)
width_of (fixed kinds.Accum z) ty s e = inr (inr (inl refl))
width_of (fixed kinds.LongAccum z) ty s e = inr (inr (inr refl))
width_of (fixed kinds.UnsignedShortFract z) ty s e = inl refl
width_of (fixed kinds.UnsignedFract z) ty s e = inr (inl refl)
width_of (fixed kinds.UnsignedLongFract z) ty s e = inr (inr (inl refl))
width_of (fixed kinds.UnsignedShortAccum z) ty s e = inr (inl refl)
width_of (fixed kinds.UnsignedAccum z) ty s e = inr (inr (inl refl))
width_of (fixed kinds.UnsignedLongAccum z) ty s e = inr (inr (inr refl))
width_of (pointer space const to) ty s e = cc
width_of (array of len) ty s e = absurd s
width_of (struct index) ty s e = absurd s

-- ---- the object with a name

none_from : {X : Type 0} (p : X → Bool) (n : ℕ) (xs : List X) (k : ℕ) (x : X) → position_from p n xs ≡ None
    → slice_get xs k ≡ Some x → p x ≡ false
none_from p n [] k x h q = cc
none_from p n (y ∷ xs) zero x h q =
    let same : y ≡ x = cc in
    rw (← same) (⊎_elim (λ (t : p y ≡ true). let none = rw t at h in cc) (λ f. f) (cases_Bool (p y)))
none_from p n (y ∷ xs) (suc k) x h q =
    ⊎_elim (λ (t : p y ≡ true). let none = rw t at h in cc) (λ (f : p y ≡ false). none_from p (n + 1) xs k x (rw f at h) q)
    (cases_Bool (p y))

plain_at : (objects : List Obj) (o : ℕ) (object : PlainObject) → slice_get (map plain_object objects) o ≡ Some object
    → (x : Obj) × ((slice_get objects o ≡ Some x) × (plain_object x ≡ object))
plain_at [] o object q = cc
plain_at (x ∷ objects) zero object q = let g : plain_object x ≡ object = cc in (x, (refl, g))
plain_at (x ∷ objects) (suc o) object q = plain_at objects o object q

pub none_named : (objects : List Obj) (name : List ℕ) → position (λ x. is_named name (plain_object x)) objects ≡ None
    → (o : ℕ) (object : PlainObject) → slice_get (map plain_object objects) o ≡ Some object → is_named name object ≡ true → ⊥
none_named objects name e o object q t =
    let test : Obj → Bool = λ x. is_named name (plain_object x) in
    let r = plain_at objects o object q in
    let passes : test r.0 ≡ true = subst (λ z. is_named name z ≡ true) (sym r.1.1) t in
    let fails = none_from test 0 objects o r.0 (sym (position_from-zero test objects) ∙ e) r.1.0 in
    let no : true ≡ false = sym passes ∙ fails in cc

-- what is known of the object at the place where the name was found
pub record IsFound (p : PlainProgram) (name : List ℕ) (i : ℕ) (object : PlainObject) : Type 0 where
  pub is : slice_get p.objects i ≡ Some object
  pub named : is_named name object ≡ true

pub found_at : (p : PlainProgram) (objects : List Obj) (name : List ℕ) (i : ℕ) (d : Obj) → p.objects ≡ map plain_object objects
    → position (λ x. is_named name (plain_object x)) objects ≡ Some i
    → IsFound p name i (plain_object (slice_index_or objects i d))
found_at p objects name i d same e =
    let r = position-Some (λ x. is_named name (plain_object x)) objects i d e in
    record {
      is = ap (λ z. slice_get z i) same ∙ object_at objects i d r.0;
      named = r.1;
    }

-- each part of it
pub record HasName (name : List ℕ) (object : PlainObject) : Type 0 where
  pub external : object.external ≡ true
  pub static : is_static object.storage ≡ true
  pub home : is_data (bank_of object.home) ≡ true
  pub is : object.name ≡ name

pub has_name : (name : List ℕ) (object : PlainObject) → is_named name object ≡ true → HasName name object
has_name name object t =
    let x = object.external in
    let s = is_static object.storage in
    let h = is_data (bank_of object.home) in
    let n = bytes_eq object.name name in
    let a = and_parts ((x && s) && h) n t in
    let b = and_parts (x && s) h a.0 in
    let c = and_parts x s b.0 in
    record { external = c.0; static = c.1; home = b.1; is = (bytes_eq-Decides object.name name).0 a.1 }

-- another object of that name is none
differ : (p : PlainProgram) (name : List ℕ) (i o : ℕ) (x y : PlainObject) → AllPairs HaveOwnNames p.objects → IsFound p name i x
    → IsFound p name o y → i < o → ⊥
differ p name i o x y own f g before =
    let there = slice_get_within p.objects o y g.is in
    let h = own i o x before there in
    let first : slice_index_or p.objects i x ≡ x = get_or_from_slice_get p.objects i x x f.is in
    let second : slice_index_or p.objects o x ≡ y = get_or_from_slice_get p.objects o y x g.is in
    let apart : HaveOwnNames x y =
    subst (λ z. HaveOwnNames z y) first (subst (λ z. HaveOwnNames (slice_index_or p.objects i x) z) second h) in
    let a = has_name name x f.named in
    let b = has_name name y g.named in
    apart a.external b.external (a.is ∙ sym b.is)

pub alone : (p : PlainProgram) (name : List ℕ) (i o : ℕ) (x y : PlainObject) → AllPairs HaveOwnNames p.objects → IsFound p name i x
    → IsFound p name o y → o ≡ i
alone p name i o x y own f g =
    ⊎_elim (λ h. absurd (differ p name i o x y own f g h))
    (λ h. ⊎_elim (λ e. e) (λ b. absurd (differ p name o i y x own g f b)) h) (three i o)
  where
    three : (i o : ℕ) → (i < o) ⊎ ((o ≡ i) ⊎ (o < i))
    three i o = grind arith

-- a leaf of the found object is one of the named object
pub same_leaves : (p : PlainProgram) (name : List ℕ) (i k o : ℕ) (x : PlainObject) (leaf : PlainLeaf) (ty : Arithmetic)
    → AllPairs HaveOwnNames p.objects → IsFound p name i x → IsNumber p name k o leaf ty
    → slice_get (leaves_of_type p.structs x.ty) k ≡ Some leaf
same_leaves p name i k o x leaf ty own f h =
    let e = alone p name i o x h.object own f (record { is = h.is_object; named = h.named }) in
    let same : slice_get p.objects i ≡ Some h.object = subst (λ z. slice_get p.objects z ≡ Some h.object) e h.is_object in
    let is : h.object ≡ x = injected (sym same ∙ f.is) in
    subst (λ z. slice_get (leaves_of_type p.structs z.ty) k ≡ Some leaf) is h.is_leaf
  where
    injected : {a b : PlainObject} → Some a ≡ Some b → a ≡ b
    injected e = cc

-- ---- what is known of it

module _ (p : PlainProgram) (valid : IsValid p) where
  type_of : (i : ℕ) (object : PlainObject) → slice_get p.objects i ≡ Some object → IsObject p object
  type_of i object e = each_at p.objects i object valid.1.objects e
    where
      each_at : (os : List PlainObject) (i : ℕ) (o : PlainObject) → AllByRecursion (IsObject p) os → slice_get os i ≡ Some o → IsObject p o
      each_at [] i o h q = cc
      each_at (x ∷ os) zero o h q = let same : x ≡ o = cc in subst (IsObject p) same h.0
      each_at (x ∷ os) (suc i) o h q = each_at os i o h.1 q

  pub object_type : (i : ℕ) (object : PlainObject) → slice_get p.objects i ≡ Some object → IsObjectType (length p.structs) object.ty
  object_type i object e = (type_of i object e).ty

  pub place_there : (places : List Place) (i : ℕ) (object : PlainObject) (d : Place) → HavePlaces p places
      → slice_get p.objects i ≡ Some object → slice_get places i ≡ Some (slice_index_or places i d)
  place_there places i object d h e =
      let b = slice_get_within p.objects i object e in let n = h.each in slice_get-get_or places i d (omega (arith, b, n))

  pub leaf_there : LeavesFillTheirTypes → (i k : ℕ) (object : PlainObject) (leaf : PlainLeaf) → slice_get p.objects i ≡ Some object
      → slice_get (leaves_of_type p.structs object.ty) k ≡ Some leaf → IsLeafAt p.structs object.ty k leaf
  leaf_there fill i k object leaf e q = (fill.objects p valid.0 i object valid.1 e).each k leaf q

  pub ends_low : LeavesFillTheirTypes → (places : List Place) (name : List ℕ) (i k : ℕ) (object : PlainObject) (leaf : PlainLeaf)
      (place : Place) → HavePlaces p places → IsFound p name i object → slice_get places i ≡ Some place
      → slice_get (leaves_of_type p.structs object.ty) k ≡ Some leaf → place.offset + leaf.at + scalar_size leaf.ty ≤ 65536
  ends_low fill places name i k object leaf place h f s q =
      let inside = (leaf_there fill i k object leaf f.is q).inside in
      let n = has_name name object f.named in
      let low = h.low i object place f.is n.static n.home s in
      omega (arith, inside, low)

  -- the number of a name, a leaf and a type, and the place of its object
  pub record IsThere (places : List Place) (name : List ℕ) (k i : ℕ) (object : PlainObject) (leaf : PlainLeaf) (ty : Arithmetic)
      (place : Place) : Type 0 where
    pub number : IsNumber p name k i leaf ty
    pub stands : slice_get places i ≡ Some place
    pub low : place.offset + leaf.at + scalar_size leaf.ty ≤ 65536
    pub width : IsWidth (scalar_size leaf.ty)

  pub is_there : LeavesFillTheirTypes → (places : List Place) (name : List ℕ) (k i : ℕ) (object : PlainObject) (leaf : PlainLeaf)
      (ty : Arithmetic) (place : Place) → HavePlaces p places → IsFound p name i object
      → slice_get (leaves_of_type p.structs object.ty) k ≡ Some leaf → arithmetic_of leaf.ty ≡ Some ty → slice_get places i ≡ Some place
      → IsThere places name k i object leaf ty place
  is_there fill places name k i object leaf ty place h f q a s = record {
    number = record { object = object; is_object = f.is; named = f.named; is_leaf = q; arithmetic = a };
    stands = s;
    low = ends_low fill places name i k object leaf place h f s q;
    width = width_of leaf.ty ty (leaf_there fill i k object leaf f.is q).scalar.scalar a;
  }
