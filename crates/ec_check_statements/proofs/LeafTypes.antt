-- The leaves of the type of a place are scalars that can be used.
use Rattle.std.proofs.Common.{◌≡◌, ◌∙◌, ◌<◌, ◌≤◌, ◌+◌, ◌++◌, ℕ, zero, suc, List, [], ◌∷◌, length, refl, sym, ap, subst, arith}
use Rattle.std.specs.Prelude.{Option, Some, None, option_map, option_and_then, slice_get}
use Rattle.std.specs.List.{AllByRecursion}
use Rattle.ec_core.specs.Layout.{PlainLeaf, Layout, followed_by, repeated, type_layout, members_layout, struct_layouts, leaves_of_type}
use Rattle.ec_core.specs.Layout.{NamesBelow, IsScalar, IsObjectType, AreStructs}
use Rattle.ec_core.specs.Plain.{PlainType, void, integer, fixed, pointer, array, struct, PlainMember, PlainStruct}
use Rattle.ec_core.specs.Typing.{type_of_member}
use Rattle.ec_core.specs.TypeLaws.{StructsAreLaidOut}
use Rattle.ec_check_forms.specs.Validity.{IsUsable, IsPlaceType, HaveMembers}
use Rattle.ec_check_initialisers.proofs.PartTypes.{element_object}
use Rattle.ec_check_statements.proofs.Choices.{stands_at}

-- ---- elements

some_more : (r s : ℕ) → (1 ≤ r → 1 ≤ s) → 1 ≤ r + s → 1 ≤ s
some_more r zero f h = f (omega arith)
some_more r (suc s) f h = omega arith

some_of_repeated : (n : ℕ) (a : Layout) → 1 ≤ (repeated n a).size → 1 ≤ a.size
some_of_repeated zero a h = absurd (omega (arith, h))
some_of_repeated (suc n) a h = some_more (repeated n a).size a.size (λ k. some_of_repeated n a k) h

pub element_known : (n : ℕ) (of : PlainType) (len : ℕ) → IsObjectType n (array of len) → IsObjectType n of
element_known n of len h = element_object n of h.names h.form.0

pub element_placed : (structs : List PlainStruct) (of : PlainType) (len : ℕ) → IsPlaceType structs (array of len) → IsPlaceType structs of
element_placed structs of len h = record {
  object = element_known (length structs) of len h.object;
  some = some_of_repeated len (type_layout (struct_layouts structs) of) h.some;
  usable = h.usable;
}

-- ---- lists

pub all_at : {X : Type 0} (P : X → Type 0) (xs : List X) → ((i : ℕ) (x : X) → slice_get xs i ≡ Some x → P x) → AllByRecursion P xs
all_at P [] f = tt
all_at P (x ∷ xs) f = (f 0 x refl, all_at P xs (λ i y e. f (suc i) y e))

pub all_append : {X : Type 0} (P : X → Type 0) (xs ys : List X) → AllByRecursion P xs → AllByRecursion P ys → AllByRecursion P (xs ++ ys)
all_append P [] ys h k = k
all_append P (x ∷ xs) ys h k = (h.0, all_append P xs ys h.1 k)

-- ---- leaves

abbrev pub IsLeafType : List PlainStruct → PlainType → Type 0
IsLeafType structs ty = IsScalar ty × IsUsable structs ty

module _ (law : StructsAreLaidOut) (structs : List PlainStruct) (h : AreStructs structs) (members : HaveMembers structs) where
  abbrev AreLeaves : List PlainLeaf → Type 0
  AreLeaves leaves = AllByRecursion (λ leaf. IsLeafType structs leaf.ty) leaves

  abbrev HasLeaves : Layout → Type 0
  HasLeaves a = (at : ℕ) → AreLeaves (a.leaves_at at)

  leaves_beside : (a b : Layout) → HasLeaves a → HasLeaves b → HasLeaves (followed_by a b)
  leaves_beside a b f g at =
      all_append (λ leaf. IsLeafType structs leaf.ty) (a.leaves_at at) (b.leaves_at (at + a.size)) (f at) (g (at + a.size))

  leaves_repeated : (n : ℕ) (a : Layout) → HasLeaves a → HasLeaves (repeated n a)
  leaves_repeated zero a f at = tt
  leaves_repeated (suc n) a f at = leaves_beside (repeated n a) a (leaves_repeated n a f) f at

  abbrev Below : ℕ → Type 0
  Below n = (i : ℕ) → i < n → IsPlaceType structs (struct i) → HasLeaves (struct_layouts structs i)

  type_leaves : (n : ℕ) → Below n → (ty : PlainType) → NamesBelow n ty → IsPlaceType structs ty
      → HasLeaves (type_layout (struct_layouts structs) ty)
  type_leaves n below void b k at = tt
  type_leaves n below (integer signed bytes) b k at = ((k.object.form, k.usable), tt)
  type_leaves n below (fixed kind saturates) b k at = ((tt, tt), tt)
  type_leaves n below (pointer space const to) b k at = ((tt, k.usable), tt)
  type_leaves n below (array of len) b k at =
      leaves_repeated len (type_layout (struct_layouts structs) of) (type_leaves n below of b (element_placed structs of len k)) at
  type_leaves n below (struct index) b k at = below index b k at

  members_leaves : (n : ℕ) → Below n → (ms : List PlainMember) → AllByRecursion (λ m. IsObjectType n m.ty) ms
      → AllByRecursion (λ m. IsPlaceType structs m.ty) ms
      → HasLeaves (members_layout (struct_layouts structs) ms)
  members_leaves n below [] b k at = tt
  members_leaves n below (m ∷ ms) b k at =
      leaves_beside (type_layout (struct_layouts structs) m.ty) (members_layout (struct_layouts structs) ms)
      (type_leaves n below m.ty b.0.names k.0) (members_leaves n below ms b.1 k.1) at

  member_type : (i j : ℕ) (s : PlainStruct) (m : PlainMember) → slice_get structs i ≡ Some s → slice_get s.members j ≡ Some m
      → type_of_member structs (struct i) j ≡ Some m.ty
  member_type i j s m e q =
      ap (λ (o : Option PlainStruct). option_and_then (λ s. option_map (λ m. m.ty) (slice_get s.members j)) o) e
      ∙ ap (λ (o : Option PlainMember). option_map (λ m. m.ty) o) q

  pub members_placed : (i : ℕ) (s : PlainStruct) → slice_get structs i ≡ Some s → AllByRecursion (λ m. IsPlaceType structs m.ty) s.members
  members_placed i s e = all_at (λ m. IsPlaceType structs m.ty) s.members (λ j m q. members i j m.ty (member_type i j s m e q))

  struct_by : (i : ℕ) → IsPlaceType structs (struct i) → Below i → (o : Option PlainStruct) → slice_get structs i ≡ o
      → HasLeaves (struct_layouts structs i)
  struct_by i k below None e = absurd (stands_at structs i k.object.names e)
  struct_by i k below (Some s) e =
      subst HasLeaves (sym (law.each structs i s h e).layout)
      (members_leaves i below s.members (law.each structs i s h e).earlier (members_placed i s e))

  struct_leaves : (n : ℕ) → Below n
  struct_leaves zero i below k = absurd (omega (arith, below))
  struct_leaves (suc n) i below k = struct_by i k (λ j b. struct_leaves n j (omega (arith, b, below))) (slice_get structs i) refl

  pub leaves_usable : (ty : PlainType) → IsPlaceType structs ty → AreLeaves (leaves_of_type structs ty)
  leaves_usable ty k = type_leaves (length structs) (struct_leaves (length structs)) ty k.object.names k 0
