-- The leaves of a type fill its bytes, from the first to the last.
use Rattle.std.proofs.Common.{◌≡◌, ℕ, zero, suc, ◌+◌, ◌/◌, ◌<◌, ◌≤◌, Bool, true, false, List, [], ◌∷◌, ◌++◌, Some, refl, sym, ap, ◌∙◌}
use Rattle.std.proofs.Common.{subst, inl, inr, arith, cond, eq-eqb}
use Rattle.std.specs.Prelude.{◌==◌, if◌then◌else◌, slice_get}
use Rattle.std.specs.List.{AllByRecursion, position_from}
use Rattle.std.proofs.lemmas.Grind.{common_steps}
use Rattle.ec_fx.specs.declared.formats.FxKind.{FxKind}
use Rattle.ec_fx.specs.declared.formats.FxKind.TheVariants.{ShortFract, Fract, LongFract, ShortAccum, Accum, LongAccum, UnsignedShortFract}
use Rattle.ec_fx.specs.declared.formats.FxKind.TheVariants.{UnsignedFract, UnsignedLongFract, UnsignedShortAccum, UnsignedAccum}
use Rattle.ec_fx.specs.declared.formats.FxKind.TheVariants.{UnsignedLongAccum}
use Rattle.ec_fx.specs.Formats.{format_of}
use Rattle.ec_space.specs.declared.space.SpaceId.{SpaceId}
use Rattle.ec_space.specs.declared.space.SpaceId.TheVariants.{Flash, FarFlash, Data, Generic}
use Rattle.ec_space.specs.Spaces.{width}
use Rattle.ec_core.specs.Layout.{PlainLeaf, Layout, empty_layout, followed_by, repeated, scalar_size, scalar_layout, type_layout}
use Rattle.ec_core.specs.Layout.{members_layout, layouts_from, struct_layouts, size_of_type, leaves_of_type, IsIntegerSize, IsElement}
use Rattle.ec_core.specs.Layout.{IsObjectForm, IsObjectType, NameEarlier, AreStructs}
use Rattle.ec_core.specs.Plain.{PlainType, void, integer, fixed, pointer, array, struct, PlainMember, PlainStruct}
use Rattle.ec_core.specs.TypeLaws.{IsSmallScalar, FillFrom, IsLeafAt, HasLeaves, LeavesFillTheirTypes}
use Rattle.ec_core.specs.Valid.{IsObject}

-- ---- layouts that are filled

-- what fills up to the middle, and from there to the end
filled_both : (at mid end : ℕ) (xs ys : List PlainLeaf) → FillFrom at mid xs → FillFrom mid end ys → FillFrom at end (xs ++ ys)
filled_both at mid end [] ys h k = let P : ℕ → Type 0 = λ n. FillFrom n end ys in subst P (sym h) k
filled_both at mid end (x ∷ xs) ys h k = (h.0, h.1, filled_both (at + scalar_size x.ty) mid end xs ys h.2 k)

-- wherever it stands
abbrev IsFilled : Layout → Type 0
IsFilled a = (at : ℕ) → FillFrom at (at + a.size) (a.leaves_at at)

filled_nothing : IsFilled empty_layout
filled_nothing at = omega arith

filled_scalar : (ty : PlainType) → IsSmallScalar ty → IsFilled (scalar_layout ty)
filled_scalar ty h at = (refl, h, refl)

filled_beside : (a b : Layout) → IsFilled a → IsFilled b → IsFilled (followed_by a b)
filled_beside a b f g at =
    let e : at + a.size + b.size ≡ at + (a.size + b.size) = omega arith in
    let P : ℕ → Type 0 = λ n. FillFrom at n (a.leaves_at at ++ b.leaves_at (at + a.size)) in
    subst P e (filled_both at (at + a.size) (at + a.size + b.size) (a.leaves_at at) (b.leaves_at (at + a.size)) (f at) (g (at + a.size)))

filled_repeated : (n : ℕ) (a : Layout) → IsFilled a → IsFilled (repeated n a)
filled_repeated zero a f = filled_nothing
filled_repeated (suc n) a f = filled_beside (repeated n a) a (filled_repeated n a f) f

-- ---- scalars

record IsSmall (n : ℕ) : Type 0 where
  some : 1 ≤ n
  most : n ≤ 8

kind_small : (kind : FxKind) → IsSmall ((format_of kind).bits / 8)
kind_small ShortFract = record { some = omega arith; most = omega arith }
kind_small Fract = record { some = omega arith; most = omega arith }
kind_small LongFract = record { some = omega arith; most = omega arith }
kind_small ShortAccum = record { some = omega arith; most = omega arith }
kind_small Accum = record { some = omega arith; most = omega arith }
kind_small LongAccum = record { some = omega arith; most = omega arith }
kind_small UnsignedShortFract = record { some = omega arith; most = omega arith }
kind_small UnsignedFract = record { some = omega arith; most = omega arith }
kind_small UnsignedLongFract = record { some = omega arith; most = omega arith }
kind_small UnsignedShortAccum = record { some = omega arith; most = omega arith }
kind_small UnsignedAccum = record { some = omega arith; most = omega arith }
kind_small UnsignedLongAccum = record { some = omega arith; most = omega arith }

width_small : (space : SpaceId) → IsSmall (width space)
width_small Flash = record { some = omega arith; most = omega arith }
width_small FarFlash = record { some = omega arith; most = omega arith }
width_small Data = record { some = omega arith; most = omega arith }
width_small Generic = record { some = omega arith; most = omega arith }

integer_small : (bytes : ℕ) → IsIntegerSize bytes → IsSmall bytes
integer_small bytes (inl e) = record { some = omega (arith, e); most = omega (arith, e) }
integer_small bytes (inr (inl e)) = record { some = omega (arith, e); most = omega (arith, e) }
integer_small bytes (inr (inr e)) = record { some = omega (arith, e); most = omega (arith, e) }

-- ---- types

element_form : (ty : PlainType) → IsElement ty → IsObjectForm ty
element_form void h = absurd h
element_form (integer s b) h = h
element_form (fixed k s) h = tt
element_form (pointer s c t) h = tt
element_form (array t n) h = absurd h
element_form (struct i) h = tt

module _ (structs : ℕ → Layout) (filled : (i : ℕ) → IsFilled (structs i)) where
  type_filled : (ty : PlainType) → IsObjectForm ty → IsFilled (type_layout structs ty)
  type_filled void h = absurd h
  type_filled (integer s b) h =
      let m = integer_small b h in
      filled_scalar (integer s b) (record { scalar = h; some = m.some; most = m.most })
  type_filled (fixed k s) h = let m = kind_small k in filled_scalar (fixed k s) (record { scalar = tt; some = m.some; most = m.most })
  type_filled (pointer s c t) h =
      let m = width_small s in
      filled_scalar (pointer s c t) (record { scalar = tt; some = m.some; most = m.most })
  type_filled (array t n) h = filled_repeated n (type_layout structs t) (type_filled t (element_form t h.0))
  type_filled (struct i) h = filled i

  members_filled : (n : ℕ) (ms : List PlainMember) → AllByRecursion (λ m. IsObjectType n m.ty) ms → IsFilled (members_layout structs ms)
  members_filled n [] h = filled_nothing
  members_filled n (m ∷ ms) h =
      filled_beside (type_layout structs m.ty) (members_layout structs ms) (type_filled m.ty h.0.form) (members_filled n ms h.1)

filled_choice : (b : Bool) (x y : Layout) → IsFilled x → IsFilled y → IsFilled (if b then x else y)
filled_choice true x y p q = p
filled_choice false x y p q = q

layouts_filled : (earlier : ℕ → Layout) → ((i : ℕ) → IsFilled (earlier i)) → (n : ℕ) (ss : List PlainStruct) → NameEarlier n ss → (i : ℕ)
    → IsFilled (layouts_from earlier n ss i)
layouts_filled earlier filled n [] h i = filled i
layouts_filled earlier filled n (s ∷ ss) h i =
    let new : Layout = members_layout earlier s.members in
    layouts_filled (λ j. if j == n then new else earlier j)
    (λ j. filled_choice (j == n) new (earlier j) (members_filled earlier filled n s.members h.0) (filled j)) (n + 1) ss h.1 i

-- ---- the leaf with a number

-- leaves that fill bytes lie between their ends
lies_in : (at end : ℕ) (xs : List PlainLeaf) (k : ℕ) (leaf : PlainLeaf) → FillFrom at end xs → slice_get xs k ≡ Some leaf
    → IsSmallScalar leaf.ty × (at ≤ leaf.at) × (leaf.at + scalar_size leaf.ty ≤ end)
lies_in at end [] k leaf h e = cc
lies_in at end (x ∷ xs) zero leaf h e =
    let is : x ≡ leaf = cc in
    let start : x.at ≡ at = h.0 in
    let rest : at + scalar_size x.ty ≤ end = ends_behind (at + scalar_size x.ty) end xs h.2 in
    let P : PlainLeaf → Type 0 = λ l. IsSmallScalar l.ty × (at ≤ l.at) × (l.at + scalar_size l.ty ≤ end) in
    subst P is (h.1, omega (arith, start), omega (arith, start, rest))
  where
    ends_behind : (at end : ℕ) (xs : List PlainLeaf) → FillFrom at end xs → at ≤ end
    ends_behind at end [] h = omega (arith, h)
    ends_behind at end (x ∷ xs) h =
        let rest : at + scalar_size x.ty ≤ end = ends_behind (at + scalar_size x.ty) end xs h.2 in
        omega (arith, rest)
lies_in at end (x ∷ xs) (suc k) leaf h e =
    let rest = lies_in (at + scalar_size x.ty) end xs k leaf h.2 e in
    let low : at + scalar_size x.ty ≤ leaf.at = rest.1 in
    (rest.0, omega (arith, low), rest.2)

-- a leaf is the first one that begins where it does
found_there : (at end : ℕ) (xs : List PlainLeaf) (i k : ℕ) (leaf : PlainLeaf) → FillFrom at end xs → slice_get xs k ≡ Some leaf
    → position_from (λ (z : PlainLeaf). z.at == leaf.at) i xs ≡ Some (i + k)
found_there at end [] i k leaf h e = cc
found_there at end (x ∷ xs) i zero leaf h e =
    let is : x ≡ leaf = cc in
    let t : (x.at == leaf.at) ≡ true = eq-eqb x.at leaf.at (ap (λ (z : PlainLeaf). z.at) is) in
    ap (λ b. cond b (Some i) (position_from (λ (z : PlainLeaf). z.at == leaf.at) (i + 1) xs)) t ∙ ap Some (omega arith)
found_there at end (x ∷ xs) i (suc k) leaf h e =
    let start : x.at ≡ at = h.0 in
    let some : 1 ≤ scalar_size x.ty = h.1.some in
    let low : at + scalar_size x.ty ≤ leaf.at = (lies_in (at + scalar_size x.ty) end xs k leaf h.2 e).1 in
    let below : x.at < leaf.at = omega (arith, start, some, low) in
    let f : (x.at == leaf.at) ≡ false = grind (arith, common_steps, below) in
    ap (λ b. cond b (Some i) (position_from (λ (z : PlainLeaf). z.at == leaf.at) (i + 1) xs)) f
    ∙ found_there (at + scalar_size x.ty) end xs (i + 1) k leaf h.2 e ∙ ap Some (omega arith)

-- the leaf behind one begins where it ends
next_there : (at end : ℕ) (xs : List PlainLeaf) (k : ℕ) (leaf after : PlainLeaf) → FillFrom at end xs → slice_get xs k ≡ Some leaf
    → slice_get xs (suc k) ≡ Some after → after.at ≡ leaf.at + scalar_size leaf.ty
next_there at end [] k leaf after h e f = cc
next_there at end (x ∷ []) zero leaf after h e f = cc
next_there at end (x ∷ y ∷ xs) zero leaf after h e f =
    let is : x ≡ leaf = cc in
    let second : y ≡ after = cc in
    sym (ap (λ (z : PlainLeaf). z.at) second) ∙ h.2.0 ∙ ap (λ (n : ℕ). n + scalar_size x.ty) (sym h.0)
    ∙ ap (λ (z : PlainLeaf). z.at + scalar_size z.ty) is
next_there at end (x ∷ xs) (suc k) leaf after h e f = next_there (at + scalar_size x.ty) end xs k leaf after h.2 e f

-- leaves behind one begin where it ends, or later
apart_there : (at end : ℕ) (xs : List PlainLeaf) (k j : ℕ) (leaf after : PlainLeaf) → FillFrom at end xs → k < j
    → slice_get xs k ≡ Some leaf → slice_get xs j ≡ Some after → leaf.at + scalar_size leaf.ty ≤ after.at
apart_there at end [] k j leaf after h l e f = cc
apart_there at end (x ∷ xs) zero zero leaf after h l e f = absurd (omega (arith, l))
apart_there at end (x ∷ xs) zero (suc j) leaf after h l e f =
    let is : x ≡ leaf = cc in
    let start : x.at ≡ at = h.0 in
    let low : at + scalar_size x.ty ≤ after.at = (lies_in (at + scalar_size x.ty) end xs j after h.2 f).1 in
    let P : PlainLeaf → Type 0 = λ l. l.at + scalar_size l.ty ≤ after.at in
    subst P is (omega (arith, start, low))
apart_there at end (x ∷ xs) (suc k) zero leaf after h l e f = absurd (omega (arith, l))
apart_there at end (x ∷ xs) (suc k) (suc j) leaf after h l e f =
    let b : k < j = omega (arith, l) in
    apart_there (at + scalar_size x.ty) end xs k j leaf after h.2 b e f

-- ---- the law

has_leaves : (structs : List PlainStruct) (ty : PlainType) → AreStructs structs → IsObjectForm ty → HasLeaves structs ty
has_leaves structs ty h form =
    let whole : FillFrom 0 (0 + size_of_type structs ty) (leaves_of_type structs ty) =
    type_filled (struct_layouts structs) (layouts_filled (λ i. empty_layout) (λ i. filled_nothing) 0 structs h.earlier) ty form 0 in
    let P : ℕ → Type 0 = λ n. FillFrom 0 n (leaves_of_type structs ty) in
    let all : FillFrom 0 (size_of_type structs ty) (leaves_of_type structs ty) = subst P (omega arith) whole in
    record { filled = all; each = λ k leaf e. leaf_there structs ty k leaf all e }
  where
    leaf_there : (structs : List PlainStruct) (ty : PlainType) (k : ℕ) (leaf : PlainLeaf)
        → FillFrom 0 (size_of_type structs ty) (leaves_of_type structs ty) → slice_get (leaves_of_type structs ty) k ≡ Some leaf
        → IsLeafAt structs ty k leaf
    leaf_there structs ty k leaf all e =
        let end : ℕ = size_of_type structs ty in
        let xs : List PlainLeaf = leaves_of_type structs ty in
        let lies = lies_in 0 end xs k leaf all e in
        record {
          scalar = lies.0;
          inside = lies.2;
          found = found_there 0 end xs 0 k leaf all e ∙ ap Some (omega arith);
          next = λ after f. next_there 0 end xs k leaf after all e f;
          apart = λ j after l f. apart_there 0 end xs k j leaf after all l e f;
        }

all_at : {X : Type 0} (P : X → Type 0) (xs : List X) (k : ℕ) (x : X) → AllByRecursion P xs → slice_get xs k ≡ Some x → P x
all_at P [] k x h e = cc
all_at P (y ∷ xs) zero x h e = let g : y ≡ x = cc in subst P g h.0
all_at P (y ∷ xs) (suc k) x h e = all_at P xs k x h.1 e

pub leaves_fill_their_types : LeavesFillTheirTypes
leaves_fill_their_types = record {
  types = λ structs ty h o. has_leaves structs ty h o.form;
  objects = λ program table o d v e.
      has_leaves program.structs d.ty v.structs (all_at (IsObject program) program.objects o d v.objects e).ty.form;
}
