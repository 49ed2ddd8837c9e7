-- The types of the leaves of a type, part by part.
use Rattle.std.proofs.Common.{◌≡◌, ◌∙◌, ℕ, zero, suc, ◌+◌, ◌-◌, ◌<◌, refl, sym, ap, Bool, true, false, if◌then◌else◌, Option, Some, None}
use Rattle.std.proofs.Common.{List, [], ◌∷◌, ◌++◌, append_assoc, map, drop, length, option_map, option_and_then, slice_get, nat_lt, arith}
use Rattle.std.specs.Prelude.{◌==◌}
use Rattle.std.proofs.Math.Numerals.{add-one}
use Rattle.std.proofs.lemmas.Bool.Decides.{nat_tests}
use Rattle.std.proofs.lemmas.List.{map-append}
use Rattle.ec_core.specs.Layout.{PlainLeaf, Layout, empty_layout, followed_by, repeated, type_layout, members_layout, layouts_from}
use Rattle.ec_core.specs.Layout.{struct_layouts, leaves_of_type, IsObjectType, AreStructs}
use Rattle.ec_core.specs.Plain.{PlainType, void, integer, fixed, pointer, array, struct, PlainMember, PlainStruct}
use Rattle.ec_core.specs.TypeLaws.{StructsAreLaidOut}
use Rattle.ec_check_operands.specs.Sorts.{is_aggregate}
use Rattle.ec_check_initialisers.specs.Parts.{part_type}

abbrev pub types_of : List PlainLeaf → List PlainType
types_of leaves = map (λ leaf. leaf.ty) leaves

-- the types of the leaves are the same wherever a layout stands
abbrev IsFree : Layout → Type 0
IsFree a = (i j : ℕ) → types_of (a.leaves_at i) ≡ types_of (a.leaves_at j)

free_nothing : IsFree empty_layout
free_nothing i j = refl

free_beside : (a b : Layout) → IsFree a → IsFree b → IsFree (followed_by a b)
free_beside a b f g i j =
    map-append (λ (leaf : PlainLeaf). leaf.ty) (a.leaves_at i) (b.leaves_at (i + a.size))
    ∙ ap (λ ts. ts ++ types_of (b.leaves_at (i + a.size))) (f i j)
    ∙ ap (λ ts. types_of (a.leaves_at j) ++ ts) (g (i + a.size) (j + a.size))
    ∙ sym (map-append (λ (leaf : PlainLeaf). leaf.ty) (a.leaves_at j) (b.leaves_at (j + a.size)))

free_repeated : (n : ℕ) (a : Layout) → IsFree a → IsFree (repeated n a)
free_repeated zero a f = free_nothing
free_repeated (suc n) a f = free_beside (repeated n a) a (free_repeated n a f) f

module _ (layouts : ℕ → Layout) (free : (i : ℕ) → IsFree (layouts i)) where
  free_type : (ty : PlainType) → IsFree (type_layout layouts ty)
  free_type void = free_nothing
  free_type (integer signed bytes) = λ i j. refl
  free_type (fixed kind saturates) = λ i j. refl
  free_type (pointer space const to) = λ i j. refl
  free_type (array of len) = free_repeated len (type_layout layouts of) (free_type of)
  free_type (struct index) = free index

  free_members : (ms : List PlainMember) → IsFree (members_layout layouts ms)
  free_members [] = free_nothing
  free_members (m ∷ ms) = free_beside (type_layout layouts m.ty) (members_layout layouts ms) (free_type m.ty) (free_members ms)

free_choice : (b : Bool) (x y : Layout) → IsFree x → IsFree y → IsFree (if b then x else y)
free_choice true x y f g = f
free_choice false x y f g = g

free_from : (earlier : ℕ → Layout) → ((i : ℕ) → IsFree (earlier i)) → (n : ℕ) (ss : List PlainStruct) (i : ℕ)
    → IsFree (layouts_from earlier n ss i)
free_from earlier free n [] i = free i
free_from earlier free n (s ∷ ss) i =
    free_from (λ j. if j == n then members_layout earlier s.members else earlier j)
    (λ j. free_choice (j == n) (members_layout earlier s.members) (earlier j) (free_members earlier free s.members) (free j)) (n + 1) ss i

free_structs : (structs : List PlainStruct) (i : ℕ) → IsFree (struct_layouts structs i)
free_structs structs i = free_from (λ j. empty_layout) (λ j. free_nothing) 0 structs i

-- ---- the rest of a type

abbrev types_at : Layout → List PlainType
types_at a = types_of (a.leaves_at 0)

types_beside : (a b : Layout) → IsFree b → types_at (followed_by a b) ≡ types_at a ++ types_at b
types_beside a b g =
    map-append (λ (leaf : PlainLeaf). leaf.ty) (a.leaves_at 0) (b.leaves_at (0 + a.size))
    ∙ ap (λ ts. types_at a ++ ts) (g (0 + a.size) 0)

-- one more of them stands in front as well as behind
types_more : (n : ℕ) (a : Layout) → IsFree a → types_at (repeated (suc n) a) ≡ types_at a ++ types_at (repeated n a)
types_more zero a f = types_beside empty_layout a f ∙ sym (append_nothing (types_at a))
  where
    append_nothing : (ts : List PlainType) → ts ++ [] ≡ ts
    append_nothing [] = refl
    append_nothing (t ∷ ts) = ap (λ us. t ∷ us) (append_nothing ts)
types_more (suc n) a f =
    types_beside (repeated (suc n) a) a f
    ∙ ap (λ ts. ts ++ types_at a) (types_more n a f)
    ∙ append_assoc (types_at a) (types_at (repeated n a)) (types_at a)
    ∙ ap (λ ts. types_at a ++ ts) (sym (types_beside (repeated n a) a f))

module _ (structs : List PlainStruct) where
  abbrev members_from : Option PlainStruct → ℕ → Layout
  members_from None i = empty_layout
  members_from (Some s) i = members_layout (struct_layouts structs) (drop i s.members)

  -- the parts of a type from one on
  abbrev rest_layout : PlainType → ℕ → Layout
  rest_layout void i = empty_layout
  rest_layout (integer signed bytes) i = empty_layout
  rest_layout (fixed kind saturates) i = empty_layout
  rest_layout (pointer space const to) i = empty_layout
  rest_layout (array of len) i = repeated (len - i) (type_layout (struct_layouts structs) of)
  rest_layout (struct index) i = members_from (slice_get structs index) i

  abbrev pub rest_types : PlainType → ℕ → List PlainType
  rest_types ty i = types_at (rest_layout ty i)

  abbrev pub leaf_types : PlainType → List PlainType
  leaf_types ty = types_of (leaves_of_type structs ty)

  element_rest : (b : Bool) (of p : PlainType) (len i : ℕ) → nat_lt i len ≡ b → (if b then Some of else None) ≡ Some p
      → rest_types (array of len) i ≡ leaf_types p ++ rest_types (array of len) (i + 1)
  element_rest true of p len i q e =
      let same : of ≡ p = cc in
      let a : Layout = type_layout (struct_layouts structs) of in
      let below : i < len = grind (arith, nat_tests, q) in
      let count : len - i ≡ suc (len - (i + 1)) = omega (arith, below) in
      ap (λ n. types_at (repeated n a)) count
      ∙ types_more (len - (i + 1)) a (free_type (struct_layouts structs) (free_structs structs) of)
      ∙ ap (λ ty. leaf_types ty ++ rest_types (array of len) (i + 1)) same
  element_rest false of p len i q e = cc

  members_rest : (ms : List PlainMember) (i : ℕ) (m : PlainMember) → slice_get ms i ≡ Some m
      → types_at (members_layout (struct_layouts structs) (drop i ms))
      ≡ leaf_types m.ty ++ types_at (members_layout (struct_layouts structs) (drop (suc i) ms))
  members_rest [] i m e = cc
  members_rest (x ∷ ms) zero m e =
      let same : x ≡ m = cc in
      types_beside (type_layout (struct_layouts structs) x.ty) (members_layout (struct_layouts structs) ms)
      (free_members (struct_layouts structs) (free_structs structs) ms)
      ∙ ap (λ (y : PlainMember). leaf_types y.ty ++ types_at (members_layout (struct_layouts structs) ms)) same
  members_rest (x ∷ ms) (suc i) m e = members_rest ms i m e

  member_rest : (s : Option PlainStruct) (i : ℕ) (p : PlainType)
      → option_and_then (λ s. option_map (λ m. m.ty) (slice_get s.members i)) s ≡ Some p
      → types_at (members_from s i) ≡ leaf_types p ++ types_at (members_from s (i + 1))
  member_rest None i p e = cc
  member_rest (Some s) i p e = found (slice_get s.members i) refl e
    where
      found : (m : Option PlainMember) → slice_get s.members i ≡ m → option_map (λ m. m.ty) m ≡ Some p
          → types_at (members_from (Some s) i) ≡ leaf_types p ++ types_at (members_from (Some s) (i + 1))
      found None q e = cc
      found (Some m) q e =
          let same : m.ty ≡ p = cc in
          members_rest s.members i m q
          ∙ ap (λ n. leaf_types m.ty ++ types_at (members_from (Some s) n)) (sym (add-one i))
          ∙ ap (λ ty. leaf_types ty ++ types_at (members_from (Some s) (i + 1))) same

  -- a part, and those behind it
  pub part_rest : (ty : PlainType) (i : ℕ) (p : PlainType) → part_type structs ty i ≡ Some p
      → rest_types ty i ≡ leaf_types p ++ rest_types ty (i + 1)
  part_rest void i p e = cc
  part_rest (integer signed bytes) i p e = cc
  part_rest (fixed kind saturates) i p e = cc
  part_rest (pointer space const to) i p e = cc
  part_rest (array of len) i p e = element_rest (nat_lt i len) of p len i refl e
  part_rest (struct index) i p e = member_rest (slice_get structs index) i p e

  struct_whole : StructsAreLaidOut → AreStructs structs → (index : ℕ) → index < length structs → (s : Option PlainStruct)
      → slice_get structs index ≡ s
      → types_at (members_from s 0) ≡ leaf_types (struct index)
  struct_whole law h index below None e = absurd (within structs index below e)
    where
      within : (ss : List PlainStruct) (i : ℕ) → i < length ss → slice_get ss i ≡ None → ⊥
      within [] i below e = omega (arith, below)
      within (s ∷ ss) zero below e = cc
      within (s ∷ ss) (suc i) below e = within ss i (omega (arith, below)) e
  struct_whole law h index below (Some s) e = ap types_at (sym (law.each structs index s h e).layout)

  -- all parts of an array or a struct
  pub whole_rest : StructsAreLaidOut → AreStructs structs → (ty : PlainType) → IsObjectType (length structs) ty → is_aggregate ty ≡ true
      → rest_types ty 0 ≡ leaf_types ty
  whole_rest law h void o e = cc
  whole_rest law h (integer signed bytes) o e = cc
  whole_rest law h (fixed kind saturates) o e = cc
  whole_rest law h (pointer space const to) o e = cc
  whole_rest law h (array of len) o e =
      let same : len - 0 ≡ len = omega arith in
      ap (λ n. types_at (repeated n (type_layout (struct_layouts structs) of))) same
  whole_rest law h (struct index) o e = struct_whole law h index o.names (slice_get structs index) refl
