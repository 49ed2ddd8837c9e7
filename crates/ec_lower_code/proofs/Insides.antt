-- Where a part lies in an object.
use Rattle.std.proofs.Common.{◌≡◌, ℕ, Bool, zero, suc, ◌+◌, ◌<◌, ◌≤◌, List, [], ◌∷◌, ◌++◌, Some, refl}
use Rattle.std.proofs.Common.{sym, ap, ◌∙◌, subst, arith}
use Rattle.std.specs.Prelude.{max, IsSomeAnd, slice_get, option_map, unwrap_or, take}
use Rattle.ec_iohw.specs.declared.table.IoTable.{IoTable}
use Rattle.ec_space.specs.declared.space.SpaceId.{SpaceId}
use Rattle.ec_core.specs.Accesses.{member_offset}
use Rattle.ec_core.specs.Layout.{PlainLeaf, Layout, followed_by, type_layout, members_layout, struct_layouts}
use Rattle.ec_core.specs.Layout.{size_of_type, leaves_of_type}
use Rattle.ec_core.specs.Needs.{greatest_from, expr_need, place_needs}
use Rattle.ec_core.specs.Plain.{PlainType, void, integer, fixed, pointer, array, struct, PlainMember, PlainStruct, expression}
use Rattle.ec_core.specs.Plain.{PlainPlace, object, deref, member, PlainObject, PlainProgram}
use Rattle.ec_core.specs.Typing.{type_of_member, place_type, place_space}
use Rattle.ec_core.specs.Valid.{IsAddressable, HasAddress, IsNamedIn, ValidPlace, Valid}
use Rattle.ec_core.proofs.Growth.{some_then, some_map}
use Rattle.ec_core.proofs.StructLists.{structs_are_laid_out}
use Rattle.ec_core.proofs.TypedValues.{some_and}
use Rattle.ec_lower_code.specs.Code.{temp, named, pointed, further, value_place, offset_of, site}

-- ---- lists

left_item : {A : Type 0} (xs ys : List A) (k : ℕ) (x : A) → slice_get xs k ≡ Some x → slice_get (xs ++ ys) k ≡ Some x
left_item [] ys k x e = cc
left_item (z ∷ xs) ys zero x e = e
left_item (z ∷ xs) ys (suc k) x e = left_item xs ys k x e

right_item : {A : Type 0} (xs ys : List A) (k : ℕ) (x : A) → slice_get ys k ≡ Some x → (j : ℕ) × (slice_get (xs ++ ys) j ≡ Some x)
right_item [] ys k x e = (k, e)
right_item (z ∷ xs) ys k x e = let r = right_item xs ys k x e in (suc r.0, r.1)

-- ---- layouts

-- what a layout has at an offset in another one: its bytes are in that one, and so are its leaves, wherever it stands
record IsInside (a : Layout) (offset : ℕ) (b : Layout) : Type 0 where
  pub bytes : offset + b.size ≤ a.size
  pub leaves : (at k : ℕ) (leaf : PlainLeaf) → slice_get (b.leaves_at (at + offset)) k ≡ Some leaf
      → (j : ℕ) × (slice_get (a.leaves_at at) j ≡ Some leaf)

inside_itself : (a : Layout) → IsInside a 0 a
inside_itself a =
    record {
      bytes = omega arith;
      leaves = λ at k leaf e. (k, ap (λ (z : ℕ). slice_get (a.leaves_at z) k) (let z : at ≡ at + 0 = omega arith in z) ∙ e);
    }

inside_on : (a b c : Layout) (m n : ℕ) → IsInside a m b → IsInside b n c → IsInside a (m + n) c
inside_on a b c m n h g =
    record {
      bytes = let x = h.bytes in let y = g.bytes in omega (arith, x, y);
      leaves = λ at k leaf e.
          let z = g.leaves (at + m) k leaf (ap (λ (z : ℕ). slice_get (c.leaves_at z) k) (let z : at + m + n ≡ at + (m + n) = omega arith in
          z) ∙ e) in
          h.leaves at z.0 leaf z.1;
    }

inside_first : (a b : Layout) → IsInside (followed_by a b) 0 a
inside_first a b =
    record {
      bytes = omega arith;
      leaves = λ at k leaf e. (
        k,
        left_item (a.leaves_at at) (b.leaves_at (at + a.size)) k leaf (ap (λ (z : ℕ). slice_get (a.leaves_at z) k)
            (let z : at ≡ at + 0 = omega arith in z) ∙ e),
      );
    }

inside_second : (a b : Layout) → IsInside (followed_by a b) a.size b
inside_second a b = record { bytes = omega arith; leaves = λ at k leaf e. right_item (a.leaves_at at) (b.leaves_at (at + a.size)) k leaf e }

-- a member lies behind those before it
member_inside : (structs : ℕ → Layout) (ms : List PlainMember) (i : ℕ) (m : PlainMember) → slice_get ms i ≡ Some m
    → IsInside (members_layout structs ms) (members_layout structs (take i ms)).size (type_layout structs m.ty)
member_inside structs [] i m e = cc
member_inside structs (x ∷ ms) zero m e =
    let g : x ≡ m = cc in
    subst (λ (z : PlainMember). IsInside (members_layout structs (x ∷ ms)) 0 (type_layout structs z.ty)) g
    (inside_first (type_layout structs x.ty) (members_layout structs ms))
member_inside structs (x ∷ ms) (suc i) m e =
    inside_on (members_layout structs (x ∷ ms)) (members_layout structs ms) (type_layout structs m.ty) (type_layout structs x.ty).size
    (members_layout structs (take i ms)).size
    (inside_second (type_layout structs x.ty) (members_layout structs ms)) (member_inside structs ms i m e)

-- ---- places

-- the places that the pointer of a place needs
abbrev pub place_need : PlainPlace → ℕ
place_need (object o) = 0
place_need (deref e) = expr_need e
place_need (member q i) = place_need q

module _ (program : PlainProgram) (table : IoTable) (valid : Valid program table) (f : ℕ) where
  abbrev pub layout_of : PlainType → Layout
  layout_of ty = type_layout (struct_layouts program.structs) ty

  -- a part of an object of a type, or what a pointer points to
  pub data Part (q : PlainPlace) (t : ℕ) (ty : PlainType) : Type 0 where
    of_object : (o offset : ℕ) (x : PlainObject) → site program q t ≡ named o offset → slice_get program.objects o ≡ Some x
        → IsNamedIn f x.storage → place_space program q ≡ Some x.space → (HasAddress program q → IsAddressable x.storage)
        → ((rest : List ℕ) → place_needs q rest ≡ rest) → place_need q ≡ 0
        → offset + size_of_type program.structs ty ≤ size_of_type program.structs x.ty
        → ((k : ℕ) (leaf : PlainLeaf) → slice_get ((layout_of ty).leaves_at (0 + offset)) k ≡ Some leaf
        → (j : ℕ) × (slice_get (leaves_of_type program.structs x.ty) j ≡ Some leaf)) → Part q t ty
    of_pointer : (space : SpaceId) (const : Bool) (to : PlainType) → site program q t ≡ pointed (temp t (pointer space const to)) space
        → ((rest : List ℕ) → place_needs q rest ≡ place_need q ∷ rest) → 1 ≤ place_need q → place_space program q ≡ Some space → Part q t ty

  -- the same, with where the part lies
  data Lies (q : PlainPlace) (t : ℕ) (ty : PlainType) : Type 0 where
    in_object : (o offset : ℕ) (x : PlainObject) → site program q t ≡ named o offset → slice_get program.objects o ≡ Some x
        → IsNamedIn f x.storage → place_space program q ≡ Some x.space → (HasAddress program q → IsAddressable x.storage)
        → ((rest : List ℕ) → place_needs q rest ≡ rest) → place_need q ≡ 0
        → IsInside (layout_of x.ty) offset (layout_of ty) → Lies q t ty
    at_pointer : (space : SpaceId) (const : Bool) (to : PlainType) → site program q t ≡ pointed (temp t (pointer space const to)) space
        → ((rest : List ℕ) → place_needs q rest ≡ place_need q ∷ rest) → 1 ≤ place_need q → place_space program q ≡ Some space → Lies q t ty

  -- a member of a struct
  member_lies : (ty to : PlainType) (i : ℕ) → type_of_member program.structs ty i ≡ Some to → IsInside (layout_of ty)
      (member_offset program ty i) (layout_of to)
  member_lies void to i e = cc
  member_lies (integer s b) to i e = cc
  member_lies (fixed k s) to i e = cc
  member_lies (pointer s k u) to i e = cc
  member_lies (array u n) to i e = cc
  member_lies (struct index) to i e =
      let s = some_then (slice_get program.structs index) _ to e in
      let m = some_map (slice_get s.0.members i) (λ (z : PlainMember). z.ty) to s.2 in
      let laid = structs_are_laid_out.each program.structs index s.0 valid.structs s.1 in
      let x = member_inside (struct_layouts program.structs) s.0.members i m.0 m.1 in
      let y = subst (λ (z : Layout). IsInside z (members_layout (struct_layouts program.structs) (take i s.0.members)).size
      (layout_of m.0.ty)) (sym laid.layout) x in
      let z = subst (λ (u : PlainType). IsInside (layout_of (struct index)) (members_layout (struct_layouts program.structs)
      (take i s.0.members)).size (layout_of u)) m.2 y in
      subst (λ (n : ℕ). IsInside (layout_of (struct index)) n (layout_of to))
      (sym (ap (λ z. unwrap_or (option_map (λ (s : PlainStruct). (members_layout (struct_layouts program.structs) (take i s.members)).size)
      z) 0) s.1)) z

  further_lies : (q : PlainPlace) (i t : ℕ) (ty to : PlainType) → place_type program q ≡ Some ty
      → type_of_member program.structs ty i ≡ Some to → Lies q t ty → Lies (member q i) t to
  further_lies q i t ty to e h (in_object o offset x is found mine space address needs none inside) =
      let k = member_offset program ty i in
      let same : offset_of program q i ≡ k = ap (λ z. member_offset program (unwrap_or z void) i) e in
      in_object o (offset + k) x (ap (further (offset_of program q i)) is ∙ ap (λ (z : ℕ). named o (offset + z)) same) found mine space
      address needs none
      (inside_on (layout_of x.ty) (layout_of ty) (layout_of to) offset k inside (member_lies ty to i h))
  further_lies q i t ty to e h (at_pointer space const u is needs some home) = at_pointer space const u
      (ap (further (offset_of program q i)) is) needs some home

  lies : (q : PlainPlace) (t : ℕ) (ty : PlainType) → place_type program q ≡ Some ty → ValidPlace program table f q → Lies q t ty
  lies (object o) t ty e v =
      let x = some_and (slice_get program.objects o) (λ x. IsNamedIn f x.storage) v in
      let g : Some x.0.ty ≡ Some ty = sym (ap (option_map (λ (z : PlainObject). z.ty)) x.1) ∙ e in
      let i : x.0.ty ≡ ty = cc in
      in_object o 0 x.0 refl x.1 x.2 (ap (option_map (λ (z : PlainObject). z.space)) x.1) (λ h. addressed x.0 h x.1) (λ rest. refl) refl
      (subst (λ (z : PlainType). IsInside (layout_of x.0.ty) 0 (layout_of z)) i (inside_itself (layout_of x.0.ty)))
    where
      addressed : (x : PlainObject) → IsSomeAnd (slice_get program.objects o) (λ z. IsAddressable z.storage)
          → slice_get program.objects o ≡ Some x → IsAddressable x.storage
      addressed x h is = subst (λ z. IsSomeAnd z (λ y. IsAddressable y.storage)) is h
  lies (deref (expression void mode node)) t ty e v = cc
  lies (deref (expression (integer s b) mode node)) t ty e v = cc
  lies (deref (expression (fixed k s) mode node)) t ty e v = cc
  lies (deref (expression (pointer space const to) mode node)) t ty e v = at_pointer space const to refl (λ rest. refl) (omega arith) refl
  lies (deref (expression (array u n) mode node)) t ty e v = cc
  lies (deref (expression (struct n) mode node)) t ty e v = cc
  lies (member q i) t ty e v =
      let g = some_then (place_type program q) _ ty e in
      further_lies q i t g.0 ty g.1 g.2 (lies q t g.0 g.1 v)

  told : (q : PlainPlace) (t : ℕ) (ty : PlainType) → Lies q t ty → Part q t ty
  told q t ty (in_object o offset x is found mine space address needs none inside) = of_object o offset x is found mine space address needs
      none inside.bytes (λ k leaf e. inside.leaves 0 k leaf e)
  told q t ty (at_pointer space const to is needs some home) = of_pointer space const to is needs some home

  pub part : (q : PlainPlace) (t : ℕ) (ty : PlainType) → place_type program q ≡ Some ty → ValidPlace program table f q → Part q t ty
  part q t ty e v = told q t ty (lies q t ty e v)

  -- ---- temporaries

  later : (n : ℕ) (xs : List ℕ) → greatest_from n xs + 1 ≤ max 1 (greatest_from (n + 1) xs)
  later n [] = omega arith
  later n (x ∷ xs) = let h = later (n + 1) xs in omega (arith, h)

  -- the places for the pointer, and behind it for what follows
  pub record HasRoom (q : PlainPlace) (t : ℕ) (rest : List ℕ) (slots : ℕ) : Type 0 where
    pub pointer : t + place_need q ≤ slots
    pub one : t < slots
    pub others : value_place (site program q t) t + greatest_from 0 rest ≤ slots

  pub room : (q : PlainPlace) (t : ℕ) (ty : PlainType) (rest : List ℕ) (slots : ℕ) → Part q t ty
      → t + max 1 (greatest_from 0 (place_needs q rest)) ≤ slots → HasRoom q t rest slots
  room q t ty rest slots (of_object o offset x is found mine space address needs none bytes leaves) le =
      let e : greatest_from 0 (place_needs q rest) ≡ greatest_from 0 rest = ap (greatest_from 0) (needs rest) in
      let v : value_place (site program q t) t ≡ t = ap (λ z. value_place z t) is in
      record { pointer = omega (arith, le, none); one = omega (arith, le); others = omega (arith, le, e, v) }
  room q t ty rest slots (of_pointer space const to is needs some home) le =
      let e : greatest_from 0 (place_needs q rest) ≡ max (place_need q + 0) (greatest_from 1 rest) = ap (greatest_from 0) (needs rest) in
      let v : value_place (site program q t) t ≡ t + 1 = ap (λ z. value_place z t) is in
      let h = later 0 rest in
      record { pointer = omega (arith, le, e); one = omega (arith, le); others = omega (arith, le, e, v, h) }
