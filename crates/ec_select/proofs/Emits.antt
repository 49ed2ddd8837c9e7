-- What the emitters ask holds of covered operations.
use Rattle.std.proofs.Common.{◌≡◌, ◌⊎◌, ⊎_elim, ℕ, zero, suc, ◌+◌, ◌^◌, ◌<◌, ◌≤◌, Bool, true, false, List, [], ◌∷◌}
use Rattle.std.proofs.Common.{refl}
use Rattle.std.proofs.Common.{ap, subst, arith, length, inl, inr}
use Rattle.std.specs.Prelude.{◌||◌, Option, Some, None, slice_get, slice_index}
use Rattle.std.specs.List.{AllByRecursion}
use Rattle.std.proofs.lemmas.Bool.{false≢true}
use Rattle.ec_asm.specs.Pieces.{HasBytes}
use Rattle.ec_core.specs.Layout.{size_of_type}
use Rattle.ec_core.specs.declared.expressions.BinOp.{BinOp}
use Rattle.ec_core.specs.declared.expressions.BinOp.TheVariants.{Add, Sub, And, Or, Lt, Gt, Le, Ge, Eq, Ne, Shl, Shr}
use Rattle.ec_core.specs.Plain.{PlainType, PlainStorage, static, local, param, register, PlainObject}
use Rattle.ec_core.specs.TypeLaws.{LeavesFillTheirTypes}
use Rattle.ec_core.specs.Valid.{IsObject, IsStored}
use Rattle.ec_ir.specs.declared.operations.Temp.{Temp}
use Rattle.ec_ir.specs.Operations.{PlainIr, constant, copy, address, field, load_at, store_at, load_object}
use Rattle.ec_ir.specs.Operations.{store_object, binary_op, unary_op, conversion, label, jump, branch_zero}
use Rattle.ec_ir.specs.Operations.{call_function, return_from, port_in, port_out, load_cell, store_cell, cell_port}
use Rattle.ec_ir.specs.Operations.{PlainIrProgram, data_of}
use Rattle.ec_ir.specs.Valid.{ValidOperation, called_in}
use Rattle.ec_select_operations.specs.declared.calls.Linking.{Linking}
use Rattle.ec_select_operations.specs.declared.families.Family.{Family}
use Rattle.ec_select_operations.specs.declared.families.Family.TheVariants.{Combined, Compared, Multiplied, Shifted}
use Rattle.ec_select_operations.specs.declared.families.Family.TheVariants.{Divided}
use Rattle.ec_select_operations.specs.Code.{family_of, result_wanted, wanted_behind, wanted_bytes, HasResult}
use Rattle.ec_select_functions.specs.Covered.{HasIndex, HasScalarAt, IsBinary, IsResult, IsCovered, AreCovered}
use Rattle.ec_select_functions.specs.Covered.{IsFixedBinary, IsPointerBinary, IsUnary, IsFixedUnary, AreConverted}
use Rattle.ec_select_functions.specs.Covered.{IsFixedConversion, IsPointerConversion}
use Rattle.ec_select_operations.specs.Emitted.{BinaryHasBytes, TakesNumbers, FixedHasBytes, FixedOperandHasBytes}
use Rattle.ec_select_operations.specs.Emitted.{FixedConversionHasBytes, PointersHaveBytes, PointerHasBytes, OfKind}
use Rattle.ec_select_operations.specs.Emitted.{CanBeTaken}
use Rattle.ec_select_operations.specs.Emitted.{IndexHasByte, CanBeEmitted}
use Rattle.ec_select_operations.specs.Needs.{Need, Facts, wanted, wanted_result, needs, is_fixed}
use Rattle.ec_select_operations.specs.Places.{location_in, object_location}
use Rattle.ec_select_operations.specs.Pointers.{is_pointer}
use Rattle.ec_select_operations.specs.Written.{kept_rows}
use Rattle.ec_select.specs.Labels.{label_count}
use Rattle.ec_select.specs.Sharing.{is_shaped}
use Rattle.ec_select.specs.Selected.{ValidWithCells}
use Rattle.ec_select.proofs.PointerTypes.{some_width, pointers_only, pointer_converted, no_pointer, none_pointed}
use Rattle.ec_select.proofs.FixedTypes.{type_fixed, either_fixed, no_fixed, no_fixed_operand, none_converted}
use Rattle.ec_select.proofs.Setting.{all_at, leaf_inside}

pub wanted_length : (at : Facts) (code : List PlainIr) → length (wanted_bytes at code) ≡ length code
wanted_length at [] = refl
wanted_length at (i ∷ code) = ap suc (wanted_length at code)

pub kept_length : (slots : ℕ) (at : Facts) (code : List PlainIr) → length (kept_rows slots at code) ≡ length code
kept_length slots at [] = refl
kept_length slots at (i ∷ code) = ap suc (kept_length slots at code)

pub of_own : (k : Bool) (F I : Type 0) → k ≡ true → F → OfKind k F I
of_own k F I e h = rw e h

pub of_others : (k : Bool) (F I : Type 0) → k ≡ false → I → OfKind k F I
of_others k F I e h = rw e h

module _ (p : PlainIrProgram) (valid : ValidWithCells p) (leaves : LeavesFillTheirTypes) where
  by_storage : (o offset bytes : ℕ) (d : PlainObject) (s : PlainStorage) → IsStored (data_of p) d s
      → size_of_type p.structs d.ty ≤ 32767 → offset + bytes ≤ size_of_type p.structs d.ty
      → HasBytes (location_in s o offset) bytes
  by_storage o offset bytes d (static inits) k small inside = omega arith
  by_storage o offset bytes d (local f) k small inside = omega arith
  by_storage o offset bytes d (param f) k small inside = omega arith
  by_storage o offset bytes d (register first) k small inside = let h = k.high in omega arith

  object_has : (o offset bytes : ℕ) → HasScalarAt (data_of p) o offset bytes
      → HasBytes (object_location p.objects o offset) bytes
  object_has o offset bytes h =
      let d = all_at (IsObject (data_of p)) p.objects o h.declared valid.1.objects h.is_object in
      rw h.is_object
      (by_storage o offset bytes h.declared h.declared.storage d.storage d.small (leaf_inside p valid leaves o offset bytes h))

  binary_has : (family : Family) (slots : ℕ) (to a b : Temp) (ty aty bty : PlainType) (n : ℕ)
      → IsBinary family slots to a b ty aty bty → n ≤ to.bytes → BinaryHasBytes family n to a b
  binary_has (Combined op) slots to a b ty aty bty n h l =
      let x = h.left_bytes in let y = h.right_bytes in (l, omega arith, omega arith)
  binary_has (Compared r e) slots to a b ty aty bty n h l = let x = h.same_bytes in (l, omega arith)
  binary_has Multiplied slots to a b ty aty bty n h l =
      let x = h.left_bytes in let y = h.right_bytes in (l, omega arith, omega arith)
  binary_has (Shifted up) slots to a b ty aty bty n h l =
      let x = h.0.same_bytes in let y = h.0.count.some in (omega arith, omega arith, y)
  binary_has (Divided r) slots to a b ty aty bty n h l =
      let x = h.0.left_bytes in let y = h.0.right_bytes in let z = h.0.most in let w = h.0.left.some in
      (w, omega arith, omega arith, omega arith)

  module _ (results : ℕ → ℕ) (f slots : ℕ) (k : Linking) (all : List PlainIr) (bound : ℕ)
      (room : k.first_label + bound < 2 ^ 64) (entries : k.first_entry ≡ 1) where
    taken_has : (need : Need) (g : ℕ) (to : Option Temp) → IsResult results g slots to
        → CanBeTaken (wanted_result need to) to
    taken_has need g None h = tt
    taken_has need g (Some t) h = let m = h.0.most in (omega arith, m)

    result_has : (from : Option Temp) → IsResult results f slots from → HasResult from
    result_has None h = tt
    result_has (Some t) h = h.0.most

    index_has : (index : Option Temp) → HasIndex slots index → IndexHasByte index
    index_has None h = tt
    index_has (Some t) h = h.0.some

    port_some : (width : ℕ) → (width ≡ 1) ⊎ ((width ≡ 2) ⊎ (width ≡ 4)) → 1 ≤ width
    port_some width cases =
        ⊎_elim (λ (q : width ≡ 1). omega arith)
        (λ (r : (width ≡ 2) ⊎ (width ≡ 4)). ⊎_elim (λ (q : width ≡ 2). omega arith) (λ (q : width ≡ 4). omega arith) r) cases

    -- operands of which the second one may be taken as a number
    takes_has : (op : BinOp) (to a b : Temp) (ty aty bty : PlainType) → IsBinary (family_of op) slots to a b ty aty bty
        → TakesNumbers op a b
    takes_has Add to a b ty aty bty i q = let x = i.left_bytes in let z = i.right_bytes in let m = i.left.most in (omega arith, omega arith)
    takes_has Sub to a b ty aty bty i q = let x = i.left_bytes in let z = i.right_bytes in let m = i.left.most in (omega arith, omega arith)
    takes_has And to a b ty aty bty i q = let x = i.left_bytes in let z = i.right_bytes in let m = i.left.most in (omega arith, omega arith)
    takes_has Or to a b ty aty bty i q = let x = i.left_bytes in let z = i.right_bytes in let m = i.left.most in (omega arith, omega arith)
    takes_has Lt to a b ty aty bty i q = let x = i.same_bytes in let m = i.left.most in (omega arith, omega arith)
    takes_has Gt to a b ty aty bty i q = let x = i.same_bytes in let m = i.left.most in (omega arith, omega arith)
    takes_has Le to a b ty aty bty i q = let x = i.same_bytes in let m = i.left.most in (omega arith, omega arith)
    takes_has Ge to a b ty aty bty i q = let x = i.same_bytes in let m = i.left.most in (omega arith, omega arith)
    takes_has Eq to a b ty aty bty i q = let x = i.same_bytes in let m = i.left.most in (omega arith, omega arith)
    takes_has Ne to a b ty aty bty i q = let x = i.same_bytes in let m = i.left.most in (omega arith, omega arith)
    takes_has Shl to a b ty aty bty i q = let j = i.0 in let x = j.count.some in let m = j.left.most in (omega arith, omega arith)
    takes_has Shr to a b ty aty bty i q = let j = i.0 in let x = j.count.some in let m = j.left.most in (omega arith, omega arith)
    takes_has op to a b ty aty bty i q = absurd cc

    binary_emits : (op : BinOp) (to a b : Temp) (ty aty bty : PlainType) (n : ℕ)
        → IsBinary (family_of op) slots to a b ty aty bty
        ⊎ (IsFixedBinary slots op to a b ty aty bty ⊎ IsPointerBinary (data_of p) slots op to a b ty aty bty) → n ≤ to.bytes
        → OfKind (is_fixed aty || is_fixed bty) (FixedHasBytes op n to a b ty aty bty)
        (OfKind (is_pointer aty || is_pointer bty) (PointersHaveBytes (data_of p) op n to a b ty aty bty)
        (BinaryHasBytes (family_of op) n to a b × TakesNumbers op a b))
    binary_emits op to a b ty aty bty n (inl i) l =
        let Fixed = FixedHasBytes op n to a b ty aty bty in
        let Pointed = PointersHaveBytes (data_of p) op n to a b ty aty bty in
        let Usual = BinaryHasBytes (family_of op) n to a b × TakesNumbers op a b in
        of_others (is_fixed aty || is_fixed bty) Fixed (OfKind (is_pointer aty || is_pointer bty) Pointed Usual)
        (no_fixed (family_of op) slots to a b ty aty bty i)
        (of_others (is_pointer aty || is_pointer bty) Pointed Usual (no_pointer (family_of op) slots to a b ty aty bty i)
        (binary_has (family_of op) slots to a b ty aty bty n i l, takes_has op to a b ty aty bty i))
    binary_emits op to a b ty aty bty n (inr (inl i)) l =
        let Fixed = FixedHasBytes op n to a b ty aty bty in
        let Pointed = PointersHaveBytes (data_of p) op n to a b ty aty bty in
        let Usual = BinaryHasBytes (family_of op) n to a b × TakesNumbers op a b in
        of_own (is_fixed aty || is_fixed bty) Fixed (OfKind (is_pointer aty || is_pointer bty) Pointed Usual)
        (either_fixed aty bty i.types.fixed)
        (record { types = i.types; left = i.left_bytes; right = i.right_bytes; result = i.result_bytes; most = l })
    binary_emits op to a b ty aty bty n (inr (inr i)) l =
        let Fixed = FixedHasBytes op n to a b ty aty bty in
        let Pointed = PointersHaveBytes (data_of p) op n to a b ty aty bty in
        let Usual = BinaryHasBytes (family_of op) n to a b × TakesNumbers op a b in
        of_others (is_fixed aty || is_fixed bty) Fixed (OfKind (is_pointer aty || is_pointer bty) Pointed Usual)
        (pointers_only op ty aty bty i.pointer i.types).0
        (of_own (is_pointer aty || is_pointer bty) Pointed Usual i.pointer
        (record {
          types = i.types;
          structs = i.structs;
          left_known = i.left_known;
          right_known = i.right_known;
          left = i.left_bytes;
          right = i.right_bytes;
          result = i.result_bytes;
          most = l;
        }))

    conversion_emits : (to a : Temp) (ty aty : PlainType) (n : ℕ)
        → AreConverted slots to a ty aty ⊎ (IsFixedConversion slots to a ty aty ⊎ IsPointerConversion slots to a ty aty)
        → n ≤ to.bytes
        → OfKind (is_fixed ty || is_fixed aty) (FixedConversionHasBytes n to a ty aty)
        (OfKind (is_pointer aty) (PointerHasBytes n to a ty aty) ((n ≤ to.bytes) × (1 ≤ a.bytes)))
    conversion_emits to a ty aty n (inl i) l =
        of_others (is_fixed ty || is_fixed aty) (FixedConversionHasBytes n to a ty aty)
        (OfKind (is_pointer aty) (PointerHasBytes n to a ty aty) ((n ≤ to.bytes) × (1 ≤ a.bytes))) (none_converted slots to a ty aty i)
        (of_others (is_pointer aty) (PointerHasBytes n to a ty aty) ((n ≤ to.bytes) × (1 ≤ a.bytes))
        (none_pointed slots to a ty aty i) (l, i.from.some))
    conversion_emits to a ty aty n (inr (inl i)) l =
        of_own (is_fixed ty || is_fixed aty) (FixedConversionHasBytes n to a ty aty)
        (OfKind (is_pointer aty) (PointerHasBytes n to a ty aty) ((n ≤ to.bytes) × (1 ≤ a.bytes)))
        (either_fixed ty aty i.types.fixed)
        (record { types = i.types; from = i.from_bytes; result = i.result_bytes; most = l })
    conversion_emits to a ty aty n (inr (inr i)) l =
        of_others (is_fixed ty || is_fixed aty) (FixedConversionHasBytes n to a ty aty)
        (OfKind (is_pointer aty) (PointerHasBytes n to a ty aty) ((n ≤ to.bytes) × (1 ≤ a.bytes)))
        (pointer_converted ty aty i.pointer i.types).no_fixed
        (of_own (is_pointer aty) (PointerHasBytes n to a ty aty) ((n ≤ to.bytes) × (1 ≤ a.bytes)) i.pointer
        (record { types = i.types; from = i.from_bytes; result = i.result_bytes; most = l }))

    emits : (need : Need) (i : PlainIr) (code : List PlainIr) → IsCovered (data_of p) results f (called_in all) slots i
        → ValidOperation valid.0 p valid.1.results f slots all i → label_count (i ∷ code) ≤ bound
        → CanBeEmitted (data_of p) k (result_wanted need i) i
    emits need (constant t n) code h v l = let m = h.most in (omega arith, omega arith)
    emits need (copy to from) code h v l = let m = h.2 in (omega arith, omega arith)
    emits need (load_object t o offset) code h v l = object_has o offset t.bytes h.1
    emits need (store_object o offset t) code h v l = let m = h.0.most in (object_has o offset t.bytes h.1, omega (arith, m))
    emits need (binary_op op ty mode to a aty b bty) code h v l =
        binary_emits op to a b ty aty bty (wanted need to) h (omega arith)
    emits need (unary_op op ty mode to a) code h v l =
        ⊎_elim
        (λ (i : IsUnary slots to a ty).
        of_others (is_fixed ty) (FixedOperandHasBytes op (wanted need to) to a ty)
        ((wanted need to ≤ to.bytes) × (wanted need to ≤ a.bytes)) (no_fixed_operand slots to a ty i)
        (let m = i.same_bytes in (omega arith, omega arith)))
        (λ (i : IsFixedUnary slots op to a ty).
        of_own (is_fixed ty) (FixedOperandHasBytes op (wanted need to) to a ty)
        ((wanted need to ≤ to.bytes) × (wanted need to ≤ a.bytes)) (type_fixed ty i.types.fixed)
        (record { types = i.types; operand = i.operand_bytes; result = i.result_bytes; most = omega arith }))
        h
    emits need (conversion to ty mode a aty) code h v l =
        conversion_emits to a ty aty (wanted need to) h (omega arith)
    emits need (label m) code h v l = omega arith
    emits need (jump m) code h v l = omega arith
    emits need (branch_zero t m) code h v l = omega arith
    emits need (call_function g to) code h v l =
        let c = valid.1.function_count in let d = v.0 in (taken_has need g to h, omega arith)
    emits need (return_from from) code h v l = result_has from h
    emits need (address t o offset) code h v l = (h.size, omega arith)
    emits need (field ptr space offset) code h v l =
        let e = h.1 in let two = some_width space in omega (arith, e, two)
    emits need (load_at to ptr space) code h v l = h.1.1
    emits need (store_at ptr space from) code h v l =
        let e = h.1.1 in let two = some_width space in omega (arith, e, two)
    emits need (port_in to port index width) code h v l =
        let m = h.within in let w = port_some width h.one_two_four in (omega arith, w, m, index_has index h.index_has)
    emits need (port_out from port index width) code h v l = (h.within, index_has index h.index_has)
    emits need (load_cell to cell) code h v l = tt
    emits need (store_cell cell from) code h v l = tt
    emits need (cell_port true to cell offset index width) code h v l =
        let m = h.within in let w = port_some width h.one_two_four in (omega arith, w, m, index_has index h.index_has)
    emits need (cell_port false from cell offset index width) code h v l = (h.within, index_has index h.index_has)

    -- whose code may stand once
    pub shaped_emits : (need : Need) (i : PlainIr) → is_shaped i ≡ true → IsCovered (data_of p) results f (called_in all) slots i
        → ValidOperation valid.0 p valid.1.results f slots all i → CanBeEmitted (data_of p) k (result_wanted need i) i
    shaped_emits need (binary_op op ty mode to a aty b bty) s h v = emits need (binary_op op ty mode to a aty b bty) [] h v (omega arith)
    shaped_emits need (unary_op op ty mode to a) s h v = emits need (unary_op op ty mode to a) [] h v (omega arith)
    shaped_emits need (conversion to ty mode a aty) s h v = emits need (conversion to ty mode a aty) [] h v (omega arith)
    shaped_emits need i s h v = absurd (false≢true s)

    emits_behind : (labels : ℕ → Need) (need : Need) (i : PlainIr) (code : List PlainIr)
        → IsCovered (data_of p) results f (called_in all) slots i → ValidOperation valid.0 p valid.1.results f slots all i
        → label_count (i ∷ code) ≤ bound → CanBeEmitted (data_of p) k (wanted_behind labels need i) i
    emits_behind labels need (branch_zero t m) code h v l = omega arith
    emits_behind labels need i code h v l = emits need i code h v l

    pub all_emitted : (at : Facts) (code : List PlainIr) → AreCovered (data_of p) results f (called_in all) slots code
        → AllByRecursion (ValidOperation valid.0 p valid.1.results f slots all) code → label_count code ≤ bound
        → (j : ℕ) (i : PlainIr) → slice_get code j ≡ Some i → CanBeEmitted (data_of p) k (slice_index (wanted_bytes at code) j) i
    all_emitted at [] h v l j i e = absurd (cc)
    all_emitted at (x ∷ code) h v l zero i e =
        let q : x ≡ i = cc in
        subst (λ (y : PlainIr). CanBeEmitted (data_of p) k (wanted_behind at.needed (needs at code) x) y) q
        (emits_behind at.needed (needs at code) x code h.0 v.0 l)
    all_emitted at (x ∷ code) h v l (suc j) i e = all_emitted at code h.1 v.1 (omega arith) j i e
