-- Structs behind others, and the struct with a number of a list.
use Rattle.std.proofs.Common.{◌≡◌, ℕ, zero, suc, ◌+◌, ◌<◌, ◌≤◌, Bool, true, false, List, [], ◌∷◌, ◌++◌, length, Some, sym, ap, ◌∙◌, subst}
use Rattle.std.proofs.Common.{arith, ◌==◌, if◌then◌else◌, zero-add}
use Rattle.std.specs.Prelude.{slice_get}
use Rattle.std.specs.List.{AllByRecursion}
use Rattle.ec_core.specs.Layout.{Layout, empty_layout, members_layout, layouts_from, struct_layouts, IsObjectType, NameEarlier, AreStructs}
use Rattle.ec_core.specs.Plain.{PlainMember, PlainStruct}
use Rattle.ec_core.specs.TypeLaws.{IsLaidOut, IsAppended, StructsAreLaidOut}
use Rattle.ec_core.proofs.Layouts.{other, same, struct_at, named_earlier, object_more, type_agrees}

-- ---- the struct with a number

within : (ss : List PlainStruct) (i : ℕ) (s : PlainStruct) → slice_get ss i ≡ Some s → i < length ss
within [] i s e = cc
within (d ∷ ss) zero s e = omega arith
within (d ∷ ss) (suc i) s e = let h : i < length ss = within ss i s e in omega (arith, h)

members_more : (m n : ℕ) (ms : List PlainMember) → m ≤ n → AllByRecursion (λ x. IsObjectType m x.ty) ms
    → AllByRecursion (λ x. IsObjectType n x.ty) ms
members_more m n [] le h = tt
members_more m n (x ∷ ms) le h = (object_more m n x.ty le h.0, members_more m n ms le h.1)

laid_out : (structs : List PlainStruct) (i : ℕ) (s : PlainStruct) → AreStructs structs → slice_get structs i ≡ Some s
    → IsLaidOut structs i s
laid_out structs i s h e =
    let layout : struct_layouts structs i ≡ members_layout (struct_layouts structs) s.members =
    ap (struct_layouts structs) (sym (zero-add i)) ∙ struct_at (λ j. empty_layout) 0 structs i s h.earlier e in
    let P : ℕ → Type 0 = λ j. AllByRecursion (λ m. IsObjectType j m.ty) s.members in
    let earlier : P i = subst P (zero-add i) (named_earlier 0 structs i s h.earlier e) in
    let below : i < length structs = within structs i s e in
    let size : (struct_layouts structs i).size ≡ (members_layout (struct_layouts structs) s.members).size =
    ap (λ (x : Layout). x.size) layout in
    let small : (struct_layouts structs i).size ≤ 32_767 = h.small i in
    record {
      layout = layout;
      earlier = earlier;
      known = members_more i (length structs) s.members (omega (arith, below)) earlier;
      small = omega (arith, size, small);
    }

-- ---- one more struct

abbrev with_one : (ℕ → Layout) → ℕ → Layout → ℕ → Layout
with_one earlier n new i = if i == n then new else earlier i

appended : (earlier : ℕ → Layout) (n : ℕ) (ss : List PlainStruct) (s : PlainStruct) (i : ℕ) → layouts_from earlier n (ss ++ s ∷ []) i
    ≡ with_one (layouts_from earlier n ss) (n + length ss) (members_layout (layouts_from earlier n ss) s.members) i
appended earlier n [] s i = let e : n ≡ n + 0 = omega arith in ap (λ (k : ℕ). with_one earlier k (members_layout earlier s.members) i) e
appended earlier n (d ∷ ss) s i =
    let next : ℕ → Layout = with_one earlier n (members_layout earlier d.members) in
    let e : n + 1 + length ss ≡ n + length (d ∷ ss) = omega arith in
    appended next (n + 1) ss s i
    ∙ ap (λ (k : ℕ). with_one (layouts_from next (n + 1) ss) k (members_layout (layouts_from next (n + 1) ss) s.members) i) e

named_earlier_both : (n : ℕ) (ss : List PlainStruct) (s : PlainStruct) → NameEarlier n ss
    → AllByRecursion (λ m. IsObjectType (n + length ss) m.ty) s.members → NameEarlier n (ss ++ s ∷ [])
named_earlier_both n [] s h k =
    let e : n + 0 ≡ n = omega arith in
    let P : ℕ → Type 0 = λ j. AllByRecursion (λ m. IsObjectType j m.ty) s.members in
    (subst P e k, tt)
named_earlier_both n (d ∷ ss) s h k =
    let e : n + length (d ∷ ss) ≡ n + 1 + length ss = omega arith in
    let P : ℕ → Type 0 = λ j. AllByRecursion (λ m. IsObjectType j m.ty) s.members in
    (h.0, named_earlier_both (n + 1) ss s h.1 (subst P e k))

small_choice : (b : Bool) (x y : Layout) → x.size ≤ 32_767 → y.size ≤ 32_767 → (if b then x else y).size ≤ 32_767
small_choice true x y h k = h
small_choice false x y h k = k

one_more : (structs : List PlainStruct) (s : PlainStruct) → AreStructs structs
    → AllByRecursion (λ m. IsObjectType (length structs) m.ty) s.members → (members_layout (struct_layouts structs) s.members).size ≤ 32_767
    → IsAppended structs s
one_more structs s h k small = record {
  all = record { earlier = named_earlier_both 0 structs s h.earlier (subst P (sym (zero-add n)) k); small = each_small };
  added = at n ∙ same n new (old n);
  kept = kept;
  types = λ ty names. type_agrees n (struct_layouts (structs ++ s ∷ [])) old kept ty names;
}
  where
    n : ℕ
    n = length structs

    old : ℕ → Layout
    old = struct_layouts structs

    new : Layout
    new = members_layout old s.members

    P : ℕ → Type 0
    P j = AllByRecursion (λ m. IsObjectType j m.ty) s.members

    at : (i : ℕ) → struct_layouts (structs ++ s ∷ []) i ≡ (if i == n then new else old i)
    at i = appended (λ j. empty_layout) 0 structs s i ∙ ap (λ (m : ℕ). with_one old m new i) (zero-add n)

    kept : (i : ℕ) → i < n → struct_layouts (structs ++ s ∷ []) i ≡ old i
    kept i below = at i ∙ other i n new (old i) below

    each_small : (i : ℕ) → (struct_layouts (structs ++ s ∷ []) i).size ≤ 32_767
    each_small i =
        let e : (struct_layouts (structs ++ s ∷ []) i).size ≡ (if i == n then new else old i).size = ap (λ (x : Layout). x.size) (at i) in
        let b : (if i == n then new else old i).size ≤ 32_767 = small_choice (i == n) new (old i) small (h.small i) in
        omega (arith, e, b)

pub structs_are_laid_out : StructsAreLaidOut
structs_are_laid_out = record {
  none = record { earlier = tt; small = λ i. omega arith };
  each = laid_out;
  more = one_more;
}
