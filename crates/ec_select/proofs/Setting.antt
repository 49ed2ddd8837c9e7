-- Where the numbers of a program's items stand among sizes.
use Rattle.std.proofs.Common.{◌≡◌, ◌⊎◌, ℕ, zero, suc, ◌+◌, ◌-◌, ◌*◌, ◌<◌, ◌≤◌, ◌==◌, Bool, true, false, List, [], ◌∷◌}
use Rattle.std.proofs.Common.{refl, ◌∙◌, ap, subst, arith, inl, inr, map}
use Rattle.std.specs.Prelude.{nat_lt, nat_le, if◌then◌else◌, Some, option_map, slice_get, All}
use Rattle.std.specs.List.{AllByRecursion}
use Rattle.std.proofs.lemmas.Bool.{lt-ltb, le-leb}
use Rattle.std.proofs.lemmas.Bool.Decides.{nat_tests}
use Rattle.std.proofs.lemmas.Option.{slice_get-map, slice_get_within}
use Rattle.std.proofs.lemmas.List.Elements.{All-nil, All-cons, All-append}
use Rattle.ec_asm.specs.Valid.{Sizes, sizes_of, is_offset}
use Rattle.ec_core.specs.Layout.{size_of_type}
use Rattle.ec_core.specs.Plain.{PlainStorage, static, local, param, register, PlainObject}
use Rattle.ec_core.specs.TypeLaws.{LeavesFillTheirTypes}
use Rattle.ec_core.specs.Valid.{EachFrom, IsObject, IsStored}
use Rattle.ec_ir.specs.Operations.{PlainIrFunction, PlainIrProgram, data_of}
use Rattle.ec_ir.specs.Valid.{ValidIrFunction}
use Rattle.ec_select_functions.specs.Covered.{HasScalarAt}
use Rattle.ec_select_operations.specs.Places.{location_in, object_location}
use Rattle.ec_select_operations.specs.Ports.{first_cell}
use Rattle.ec_select_startup.specs.declared.spans.Span.{Span}
use Rattle.ec_select_startup.specs.Laws.{IsValidSpan}
use Rattle.ec_select.specs.Labels.{widest_temps, homes_of}
use Rattle.ec_select.specs.Laws.{object_sizes}
use Rattle.ec_select.specs.Program.{has_initial_bytes, filling_of, span_of, spans_from, spans_of}
use Rattle.ec_select.specs.Selected.{ValidWithCells}
use Rattle.ec_select.proofs.Fitting.{BytesFit}
use Rattle.ec_select.proofs.OneOperation.{HasRoom, ObjectsFit}

-- ---- lists

pub each_at : {A : Type 0} (P : ℕ → A → Type 0) (n : ℕ) (xs : List A) (i : ℕ) (x : A) → EachFrom n P xs
    → slice_get xs i ≡ Some x → P (n + i) x
each_at P n [] i x h e = absurd (cc)
each_at P n (y ∷ ys) zero x h e =
    let q : y ≡ x = cc in let z : n ≡ n + 0 = omega arith in subst (λ k. P k x) z (subst (λ w. P n w) q h.0)
each_at P n (y ∷ ys) (suc i) x h e =
    let r = each_at P (n + 1) ys i x h.1 e in let q : n + 1 + i ≡ n + suc i = omega arith in subst (λ k. P k x) q r

pub all_at : {A : Type 0} (P : A → Type 0) (xs : List A) (i : ℕ) (x : A) → AllByRecursion P xs → slice_get xs i ≡ Some x
    → P x
all_at P [] i x h e = absurd (cc)
all_at P (y ∷ ys) zero x h e = let q : y ≡ x = cc in subst (λ z. P z) q h.0
all_at P (y ∷ ys) (suc i) x h e = all_at P ys i x h.1 e

-- ---- numbers of items

not_below : (a b : ℕ) → b ≤ a → nat_lt a b ≡ false
not_below a b h = grind (arith, nat_tests)

not_equal : (a b : ℕ) → b < a → (a == b) ≡ false
not_equal a b h = grind (arith, nat_tests)

pub object_offset : (sizes : Sizes) (o k size : ℕ) → o < 1024 → slice_get sizes.objects o ≡ Some size → k ≤ size
    → is_offset sizes o k ≡ true
object_offset sizes o k size l e h = rw (lt-ltb o 1024 l, e, le-leb k size h) refl

pub scratch_offset : (sizes : Sizes) (f k frame : ℕ) → f < 256 → slice_get sizes.frames f ≡ Some frame
    → k ≤ 16 * frame → is_offset sizes (1024 + f) k ≡ true
scratch_offset sizes f k frame l e h =
    let q : 1024 + f - 1024 ≡ f = omega arith in
    rw (not_below (1024 + f) 1024 (omega arith), lt-ltb (1024 + f) 1280 (omega arith), q, e, le-leb k (16 * frame) h) refl

-- the work bytes
work_offset : (sizes : Sizes) (k : ℕ) → k ≤ sizes.work → is_offset sizes 1280 k ≡ true
work_offset sizes k h = le-leb k sizes.work h

pub initial_offset : (sizes : Sizes) (o size : ℕ) → slice_get sizes.objects o ≡ Some size
    → is_offset sizes (2048 + o) 0 ≡ true
initial_offset sizes o size e =
    let q : 2048 + o - 2048 ≡ o = omega arith in
    rw (
      not_below (2048 + o) 1024 (omega arith),
      not_below (2048 + o) 1280 (omega arith),
      not_equal (2048 + o) 1280 (omega arith),
      not_equal (2048 + o) 1281 (omega arith),
      not_below (2048 + o) 2048 (omega arith),
      q,
      e,
      le-leb 0 size (omega arith),
    ) refl

-- ---- what stands there, in a program

abbrev IsWidth : ℕ → Type 0
IsWidth w = (w ≡ 2) ⊎ (w ≡ 4)

module _ (p : PlainIrProgram) (valid : ValidWithCells p) where
  abbrev pub own_sizes : Sizes
  own_sizes = sizes_of (object_sizes p) (map (λ g. g.slots) p.functions) (64 + valid.0)

  pub function_few : (f : ℕ) (g : PlainIrFunction) → slice_get p.functions f ≡ Some g → f < 256
  function_few f g e = let l = slice_get_within p.functions f g e in let m = valid.1.function_count in omega arith

  pub function_valid : (f : ℕ) (g : PlainIrFunction) → slice_get p.functions f ≡ Some g
      → ValidIrFunction valid.0 p valid.1.results f g
  function_valid f g e =
      let q : 0 + f ≡ f = omega arith in
      subst (λ k. ValidIrFunction valid.0 p valid.1.results k g) q
      (each_at (ValidIrFunction valid.0 p valid.1.results) 0 p.functions f g valid.1.functions e)

  pub object_few : (o : ℕ) (d : PlainObject) → slice_get p.objects o ≡ Some d → o < 1024
  object_few o d e = let l = slice_get_within p.objects o d e in let m = valid.1.object_count in omega arith

  pub object_size : (o : ℕ) (d : PlainObject) → slice_get p.objects o ≡ Some d
      → slice_get (object_sizes p) o ≡ Some (size_of_type p.structs d.ty)
  object_size o d e =
      slice_get-map (λ x. size_of_type p.structs x.ty) p.objects o ∙ ap (option_map (λ x. size_of_type p.structs x.ty)) e

  pub has_room : (f : ℕ) (g : PlainIrFunction) → slice_get p.functions f ≡ Some g
      → HasRoom own_sizes valid.0 (homes_of f g.code) g.slots
  has_room f g e = record {
    width = by_width (nat_le (widest_temps g.code) 2);
    scratch = in_scratch;
    work = λ k l. work_offset own_sizes k (omega arith);
    cell = λ c l. work_offset own_sizes (first_cell + c) (omega arith);
  } where
    by_width : (narrow : Bool) → IsWidth (if narrow then 2 else 4)
    by_width true = inl refl
    by_width false = inr refl

    frame : slice_get (map (λ x. x.slots) p.functions) f ≡ Some g.slots
    frame = slice_get-map (λ x. x.slots) p.functions f ∙ ap (option_map (λ x. x.slots)) e

    in_scratch : (k : ℕ) → k ≤ 16 * g.slots → is_offset own_sizes (1024 + f) k ≡ true
    in_scratch k l = scratch_offset own_sizes f k g.slots (function_few f g e) frame l

  by_storage : (o offset bytes : ℕ) (d : PlainObject) (s : PlainStorage) → slice_get p.objects o ≡ Some d
      → IsStored (data_of p) d s → offset + bytes ≤ size_of_type p.structs d.ty
      → BytesFit own_sizes (location_in s o offset) bytes
  by_storage o offset bytes d (static inits) e k inside i l =
      object_offset own_sizes o (offset + i) (size_of_type p.structs d.ty) (object_few o d e) (object_size o d e) (omega arith)
  by_storage o offset bytes d (local f) e k inside i l =
      object_offset own_sizes o (offset + i) (size_of_type p.structs d.ty) (object_few o d e) (object_size o d e) (omega arith)
  by_storage o offset bytes d (param f) e k inside i l =
      object_offset own_sizes o (offset + i) (size_of_type p.structs d.ty) (object_few o d e) (object_size o d e) (omega arith)
  by_storage o offset bytes d (register first) e k inside i l = let h = k.high in omega arith

  pub leaf_inside : LeavesFillTheirTypes → (o offset bytes : ℕ) → (h : HasScalarAt (data_of p) o offset bytes)
      → offset + bytes ≤ size_of_type p.structs h.declared.ty
  leaf_inside leaves o offset bytes h =
      let d = all_at (IsObject (data_of p)) p.objects o h.declared valid.1.objects h.is_object in
      let all = leaves.types p.structs h.declared.ty valid.1.structs d.ty in
      subst (λ (n : ℕ). offset + n ≤ size_of_type p.structs h.declared.ty) h.size (all.each h.number _ h.is_leaf).inside

  inside_object : (o offset : ℕ) (d : PlainObject) → slice_get p.objects o ≡ Some d → offset ≤ size_of_type p.structs d.ty
      → is_offset own_sizes o offset ≡ true
  inside_object o offset d e l =
      object_offset own_sizes o offset (size_of_type p.structs d.ty) (object_few o d e) (object_size o d e) l

  scalar_stands : LeavesFillTheirTypes → (o offset bytes : ℕ) → HasScalarAt (data_of p) o offset bytes
      → BytesFit own_sizes (object_location p.objects o offset) bytes
  scalar_stands leaves o offset bytes h =
      let d = all_at (IsObject (data_of p)) p.objects o h.declared valid.1.objects h.is_object in
      rw h.is_object (by_storage o offset bytes h.declared h.declared.storage h.is_object d.storage (leaf_inside leaves o offset bytes h))

  pub objects_fit : LeavesFillTheirTypes → ObjectsFit own_sizes (data_of p)
  objects_fit leaves = record {
    offsets = inside_object;
    begins = λ o offset bytes h.
        let l = leaf_inside leaves o offset bytes h in inside_object o offset h.declared h.is_object (omega (arith, l));
    scalars = scalar_stands leaves;
  }

  -- ---- spans

  one_span : (o : ℕ) (d : PlainObject) → slice_get p.objects o ≡ Some d
      → All (IsValidSpan own_sizes) (span_of p.structs o d)
  one_span o d e = by_kind (has_initial_bytes d.storage d.home) where
    span : Span
    span = record { from = 2048 + o; to = o; bytes = size_of_type p.structs d.ty; filling = filling_of d.storage }

    is_valid : IsValidSpan own_sizes span
    is_valid =
        let k = all_at (IsObject (data_of p)) p.objects o d valid.1.objects e in
        let small = k.small in
        let size = size_of_type p.structs d.ty in
        let few : size < 65536 = omega arith in
        record {
          from = initial_offset own_sizes o size (object_size o d e);
          to = λ k l. object_offset own_sizes o k size (object_few o d e) (object_size o d e) l;
          bytes = few;
        }

    by_kind : (kept : Bool) → All (IsValidSpan own_sizes) (if kept then span ∷ [] else [])
    by_kind true = All-cons (IsValidSpan own_sizes) span [] is_valid (All-nil (IsValidSpan own_sizes))
    by_kind false = All-nil (IsValidSpan own_sizes)

  spans_valid_from : (o : ℕ) (ds : List PlainObject)
      → ((j : ℕ) (d : PlainObject) → slice_get ds j ≡ Some d → slice_get p.objects (o + j) ≡ Some d)
      → All (IsValidSpan own_sizes) (spans_from p.structs o ds)
  spans_valid_from o [] there = All-nil (IsValidSpan own_sizes)
  spans_valid_from o (d ∷ ds) there =
      let z : o + 0 ≡ o = omega arith in
      let here : slice_get p.objects o ≡ Some d = subst (λ k. slice_get p.objects k ≡ Some d) z (there 0 d refl) in
      let next : (j : ℕ) (x : PlainObject) → slice_get ds j ≡ Some x → slice_get p.objects (o + 1 + j) ≡ Some x =
      λ j x e. let q : o + suc j ≡ o + 1 + j = omega arith in subst (λ k. slice_get p.objects k ≡ Some x) q (there (suc j) x e) in
      All-append (IsValidSpan own_sizes) (span_of p.structs o d) (spans_from p.structs (o + 1) ds) (one_span o d here)
      (spans_valid_from (o + 1) ds next)

  pub spans_valid : All (IsValidSpan own_sizes) (spans_of p)
  spans_valid =
      spans_valid_from 0 p.objects (λ j d e. let q : j ≡ 0 + j = omega arith in subst (λ k. slice_get p.objects k ≡ Some d) q e)
