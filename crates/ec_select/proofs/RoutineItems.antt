-- Operations whose code may stand once: each has a routine, and can call it.
use Rattle.std.proofs.Common.{◌≡◌, ◌⊎◌, ℕ, ◌+◌, ◌-◌, ◌*◌, ◌≤◌, Bool, true, false, List, [], ◌∷◌, Some, None}
use Rattle.std.proofs.Common.{refl, sym, ap, ◌∙◌, subst, arith, inl, inr}
use Rattle.std.specs.Prelude.{⊤, ◌||◌}
use Rattle.std.proofs.lemmas.Bool.{false≢true}
use Rattle.ec_fx.specs.declared.numbers.Mode.{Mode}
use Rattle.ec_asm.specs.declared.items.AsmItem.{AsmItem}
use Rattle.ec_core.specs.declared.expressions.BinOp.{BinOp}
use Rattle.ec_core.specs.declared.expressions.BinOp.TheVariants.{Add, Sub, Mul, Div, Rem, And, Or, Xor, Lt, Gt, Le, Ge}
use Rattle.ec_core.specs.declared.expressions.BinOp.TheVariants.{Eq, Ne, Shl, Shr}
use Rattle.ec_core.specs.declared.expressions.UnOp.{UnOp}
use Rattle.ec_core.specs.Layout.{scalar_size}
use Rattle.ec_core.specs.Plain.{PlainType, void, integer, fixed, pointer, array, struct, PlainProgram}
use Rattle.ec_core.specs.Typing.{HavePointerTypes, HaveOffsetTypes, IsAdd, HaveBinaryTypes}
use Rattle.ec_core.specs.Words.{widest}
use Rattle.ec_space.specs.declared.space.SpaceId.{SpaceId}
use Rattle.ec_ir.specs.declared.operations.Temp.{Temp}
use Rattle.ec_ir.specs.Operations.{PlainIr, constant, copy, address, field, load_at, store_at, load_object}
use Rattle.ec_ir.specs.Operations.{store_object, binary_op, unary_op, conversion, label, jump, branch_zero}
use Rattle.ec_ir.specs.Operations.{call_function, return_from, port_in, port_out, load_cell, store_cell, cell_port}
use Rattle.ec_ir.specs.Operations.{PlainIrProgram}
use Rattle.ec_ir.specs.Valid.{HaveOperationTypes, Results, ValidOperation}
use Rattle.ec_core_shapes.specs.Shapes.{Shape, unary_shape, binary_shape, conversion_shape}
use Rattle.ec_ir_shapes.specs.Costs.{Code, in_line, integer_code, shape_code, shapes_with, op_shapes, has_one_format}
use Rattle.ec_ir_shapes.specs.Costs.{is_fixed as counts_fixed, is_pointer as counts_pointer}
use Rattle.ec_select_fixed.specs.Types.{AreFixedOperands, IsFixedOperand, AreFixedConverted}
use Rattle.ec_select_routines.specs.Codes.{binary_body, unary_body, conversion_body, quotient_body}
use Rattle.ec_select_operations.specs.declared.families.Family.{Family}
use Rattle.ec_select_operations.specs.declared.families.Family.TheVariants.{Combined, Compared, Multiplied, Shifted}
use Rattle.ec_select_operations.specs.declared.families.Family.TheVariants.{Divided}
use Rattle.ec_select_operations.specs.Code.{family_of, is_signed}
use Rattle.ec_select_operations.specs.Emitted.{CanBeCalled, OfKind}
use Rattle.ec_select_operations.specs.Needs.{is_fixed}
use Rattle.ec_select_operations.specs.Pointers.{is_pointer}
use Rattle.ec_select_operations.specs.Routines.{body_by, division_body, routine_body, CanBeDivided, CanBeRoutine}
use Rattle.ec_select_functions.specs.Covered.{IsBinary, IsUnary, AreConverted, IsFixedBinary, IsFixedUnary, IsFixedConversion}
use Rattle.ec_select_functions.specs.Covered.{IsPointerBinary, IsPointerConversion, IsCovered}
use Rattle.ec_select.proofs.FixedTypes.{type_fixed, either_fixed, no_fixed, no_fixed_operand, none_converted}
use Rattle.ec_select.proofs.PointerTypes.{of_pointers, pointers_only, pointer_converted}
use Rattle.ec_select.proofs.OperationCode.{IsIntegerType, as_integer, both_false, result_integer}
use Rattle.ec_select.proofs.Emits.{of_own, of_others}

-- ---- the types that count

counted_fixed : (ty : PlainType) → counts_fixed ty ≡ is_fixed ty
counted_fixed (fixed k s) = refl
counted_fixed void = refl
counted_fixed (integer s n) = refl
counted_fixed (pointer s k t) = refl
counted_fixed (array of n) = refl
counted_fixed (struct n) = refl

-- what is not fixed-point has no format
no_format : (ty other : PlainType) → is_fixed ty ≡ false → has_one_format ty other ≡ false
no_format (fixed k s) other e = absurd (false≢true (sym e))
no_format void other e = refl
no_format (integer s n) other e = refl
no_format (pointer s k t) other e = refl
no_format (array of n) other e = refl
no_format (struct n) other e = refl

no_item : (s : Shape) → [] ≡ s ∷ [] → ⊥
no_item s q = cc

-- a shape whose code stands at each use is none that may stand once
alone : (c : Code) (s t : Shape) (own : ℕ) → c ≡ in_line own → shapes_with c s ≡ t ∷ [] → ⊥
alone c s t own e q = no_item t (sym (ap (λ d. shapes_with d s) e) ∙ q)

-- ---- operators on integers and pointers

divided_code : (op : BinOp) (n : ℕ) (s t : Shape) → shapes_with (integer_code op n) s ≡ t ∷ [] → (r : Bool) × (family_of op ≡ Divided r)
divided_code Div n s t q = (false, refl)
divided_code Rem n s t q = (true, refl)
divided_code Add n s t q = absurd (no_item t q)
divided_code Sub n s t q = absurd (no_item t q)
divided_code Mul n s t q = absurd (no_item t q)
divided_code And n s t q = absurd (no_item t q)
divided_code Or n s t q = absurd (no_item t q)
divided_code Xor n s t q = absurd (no_item t q)
divided_code Lt n s t q = absurd (no_item t q)
divided_code Gt n s t q = absurd (no_item t q)
divided_code Le n s t q = absurd (no_item t q)
divided_code Ge n s t q = absurd (no_item t q)
divided_code Eq n s t q = absurd (no_item t q)
divided_code Ne n s t q = absurd (no_item t q)
divided_code Shl n s t q = absurd (no_item t q)
divided_code Shr n s t q = absurd (no_item t q)

-- of those only quotients and remainders of integers may stand once
module _ (op : BinOp) (ty aty bty : PlainType) (mode : Mode) (result : is_fixed ty ≡ false) (left : is_fixed aty ≡ false)
    (right : is_fixed bty ≡ false) where
  abbrev bytes : ℕ
  bytes = widest (ty ∷ aty ∷ bty ∷ [])

  abbrev pointers : Bool
  pointers = counts_pointer ty || (counts_pointer aty || (counts_pointer bty || false))

  on_pointers : pointers ≡ true → shape_code (binary_shape op ty mode aty bty) ≡ in_line (64 + 5 * bytes)
  on_pointers e =
      let r = counted_fixed ty ∙ result in let l = counted_fixed aty ∙ left in let z = counted_fixed bty ∙ right in
      let f = no_format aty bty left in
      rw (f, r, l, z, e) refl

  on_integers : pointers ≡ false → shape_code (binary_shape op ty mode aty bty) ≡ integer_code op bytes
  on_integers e =
      let r = counted_fixed ty ∙ result in let l = counted_fixed aty ∙ left in let z = counted_fixed bty ∙ right in
      let f = no_format aty bty left in
      rw (f, r, l, z, e) refl

  -- one that may stand once is a quotient or a remainder
  is_divided : (s : Shape) → shapes_with (shape_code (binary_shape op ty mode aty bty)) (binary_shape op ty mode aty bty) ≡ s ∷ []
      → (r : Bool) × (family_of op ≡ Divided r)
  is_divided s q = by_kind pointers refl
    where
      by_kind : (k : Bool) → pointers ≡ k → (r : Bool) × (family_of op ≡ Divided r)
      by_kind true e = absurd (alone (shape_code (binary_shape op ty mode aty bty)) (binary_shape op ty mode aty bty) s
          (64 + 5 * bytes) (on_pointers e) q)
      by_kind false e =
          divided_code op bytes (binary_shape op ty mode aty bty) s
          (sym (ap (λ c. shapes_with c (binary_shape op ty mode aty bty)) (on_integers e)) ∙ q)

-- the quotient or the remainder has a routine
division_there : (x : Family) (r signed : Bool) (n : ℕ) → x ≡ Divided r → (body : List AsmItem) × (division_body x signed n ≡ Some body)
division_there x r signed n e = (quotient_body r signed (n - 1), ap (λ y. division_body y signed n) e)

-- ---- operators with a pointer

-- an operator with a pointer is no quotient, and its result is not fixed-point
abbrev PointerResult : BinOp → PlainType → Type 0
PointerResult op ty = (is_fixed ty ≡ false) × ((n : ℕ) → CanBeDivided (family_of op) n)

two_divide : (op : BinOp) (same : Type 0) → HavePointerTypes op same → (n : ℕ) → CanBeDivided (family_of op) n
two_divide Div same h n = absurd h
two_divide Rem same h n = absurd h
two_divide op same h n = tt

offsets_divide : (op : BinOp) (count : PlainType) → HaveOffsetTypes op count → (n : ℕ) → CanBeDivided (family_of op) n
offsets_divide Div count h n = absurd h
offsets_divide Rem count h n = absurd h
offsets_divide op count h n = tt

sums_divide : (op : BinOp) → IsAdd op → (n : ℕ) → CanBeDivided (family_of op) n
sums_divide Div h n = absurd h
sums_divide Rem h n = absurd h
sums_divide op h n = tt

first_result : (op : BinOp) (ty bty to : PlainType) (s : SpaceId) (k : Bool) → HaveOffsetTypes op bty → ty ≡ pointer s k to
    → PointerResult op ty
first_result op ty bty to s k h e = (ap is_fixed e, offsets_divide op bty h)

second_result : (op : BinOp) (ty to : PlainType) (s : SpaceId) (k : Bool) → IsAdd op → ty ≡ pointer s k to → PointerResult op ty
second_result op ty to s k a e = (ap is_fixed e, sums_divide op a)

pointer_result : (op : BinOp) (ty aty bty : PlainType) → (is_pointer aty || is_pointer bty) ≡ true → HaveBinaryTypes op ty aty bty
    → PointerResult op ty
pointer_result op ty (pointer s k t) (pointer r c u) x h =
    let same = (s ≡ r) × (t ≡ u) × (ty ≡ integer true 2) in
    (ap is_fixed (of_pointers op same h).0.2, two_divide op same h)
pointer_result op ty (pointer s k t) void x h = first_result op ty void t s k h.0 h.1
pointer_result op ty (pointer s k t) (integer g n) x h = first_result op ty (integer g n) t s k h.0 h.1
pointer_result op ty (pointer s k t) (fixed g n) x h = first_result op ty (fixed g n) t s k h.0 h.1
pointer_result op ty (pointer s k t) (array g n) x h = first_result op ty (array g n) t s k h.0 h.1
pointer_result op ty (pointer s k t) (struct n) x h = first_result op ty (struct n) t s k h.0 h.1
pointer_result op ty void (pointer s k t) x h = second_result op ty t s k h.0 h.2
pointer_result op ty (integer g n) (pointer s k t) x h = second_result op ty t s k h.0 h.2
pointer_result op ty (fixed g n) (pointer s k t) x h = second_result op ty t s k h.0 h.2
pointer_result op ty (array g n) (pointer s k t) x h = second_result op ty t s k h.0 h.2
pointer_result op ty (struct n) (pointer s k t) x h = second_result op ty t s k h.0 h.2
pointer_result op ty aty bty x h = absurd (false≢true x)

-- ---- operations

integers : (ty : PlainType) (signed : Bool) (n : ℕ) → ty ≡ integer signed n → IsIntegerType ty
integers ty signed n e = subst IsIntegerType (sym e) tt

integer_operands : (x : Family) (slots : ℕ) (to a b : Temp) (ty aty bty : PlainType) → IsBinary x slots to a b ty aty bty
    → IsIntegerType aty × IsIntegerType bty
integer_operands (Combined o) slots to a b ty aty bty i = (integers aty _ _ i.left_type, integers bty _ _ i.right_type)
integer_operands (Compared r exchanged) slots to a b ty aty bty i = (integers aty _ _ i.left_type, integers bty _ _ i.right_type)
integer_operands Multiplied slots to a b ty aty bty i = (integers aty _ _ i.left_type, integers bty _ _ i.right_type)
integer_operands (Shifted up) slots to a b ty aty bty i = (integers aty _ _ i.0.left_type, integers bty _ _ i.0.count_type)
integer_operands (Divided r) slots to a b ty aty bty i = (integers aty _ _ i.0.left_type, integers bty _ _ i.0.right_type)

-- a quotient of integers has one to four bytes
integers_divide : (x : Family) (slots : ℕ) (to a b : Temp) (ty aty bty : PlainType) → IsBinary x slots to a b ty aty bty
    → CanBeDivided x (scalar_size aty)
integers_divide (Combined o) slots to a b ty aty bty i = tt
integers_divide (Compared r exchanged) slots to a b ty aty bty i = tt
integers_divide Multiplied slots to a b ty aty bty i = tt
integers_divide (Shifted up) slots to a b ty aty bty i = tt
integers_divide (Divided r) slots to a b ty aty bty i =
    let d = i.0 in let same = d.left_bytes in let few = d.most in let some = d.left.some in
    let size : scalar_size aty ≡ a.bytes = ap scalar_size d.left_type in
    (omega arith, omega arith)

-- a binary operator has the types of a valid operation
abbrev pub HasTypes : PlainIr → Type 0
HasTypes (binary_op op ty mode to a aty b bty) = HaveOperationTypes op ty aty bty
HasTypes i = ⊤

-- so many bytes are no more than those of the result of an operator or a conversion
abbrev pub IsOfResult : ℕ → PlainIr → Type 0
IsOfResult n (binary_op op ty mode to a aty b bty) = n ≤ to.bytes
IsOfResult n (unary_op op ty mode to a) = n ≤ to.bytes
IsOfResult n (conversion to ty mode a aty) = n ≤ to.bytes
IsOfResult n i = ⊤

abbrev pub HasBody : PlainIr → Type 0
HasBody i = (body : List AsmItem) × (routine_body i ≡ Some body)

-- valid operations have these types
pub has_types : (cells : ℕ) (p : PlainIrProgram) (results : Results) (f slots : ℕ) (all : List PlainIr) (i : PlainIr)
    → ValidOperation cells p results f slots all i → HasTypes i
has_types cells p results f slots all (binary_op op ty mode to a aty b bty) v = v.3
has_types cells p results f slots all (unary_op op ty mode to a) v = tt
has_types cells p results f slots all (conversion to ty mode a aty) v = tt
has_types cells p results f slots all (constant t n) v = tt
has_types cells p results f slots all (copy to from) v = tt
has_types cells p results f slots all (address t o offset) v = tt
has_types cells p results f slots all (field ptr space offset) v = tt
has_types cells p results f slots all (load_at to ptr space) v = tt
has_types cells p results f slots all (store_at ptr space from) v = tt
has_types cells p results f slots all (load_object t o offset) v = tt
has_types cells p results f slots all (store_object o offset t) v = tt
has_types cells p results f slots all (label l) v = tt
has_types cells p results f slots all (jump l) v = tt
has_types cells p results f slots all (branch_zero t l) v = tt
has_types cells p results f slots all (call_function g to) v = tt
has_types cells p results f slots all (return_from from) v = tt
has_types cells p results f slots all (port_in to port index width) v = tt
has_types cells p results f slots all (port_out from port index width) v = tt
has_types cells p results f slots all (load_cell to cell) v = tt
has_types cells p results f slots all (store_cell cell from) v = tt
has_types cells p results f slots all (cell_port read t cell offset index width) v = tt

module _ (p : PlainProgram) (results : ℕ → ℕ) (f : ℕ) (called : List ℕ) (slots : ℕ) where
  -- ---- it has a routine

  divided_body : (op : BinOp) (ty aty bty : PlainType) (mode : Mode) (s : Shape) → is_fixed ty ≡ false
      → (is_fixed aty || is_fixed bty) ≡ false
      → shapes_with (shape_code (binary_shape op ty mode aty bty)) (binary_shape op ty mode aty bty) ≡ s ∷ []
      → (body : List AsmItem) × (body_by (is_fixed aty || is_fixed bty) (Some (binary_body op ty aty bty mode))
      (division_body (family_of op) (is_signed aty) (scalar_size aty)) ≡ Some body)
  divided_body op ty aty bty mode s result operands q =
      let both = both_false (is_fixed aty) (is_fixed bty) operands in
      let d = is_divided op ty aty bty mode result both.0 both.1 s q in
      let there = division_there (family_of op) d.0 (is_signed aty) (scalar_size aty) d.1 in (
        there.0,
        ap (λ k. body_by k (Some (binary_body op ty aty bty mode))
            (division_body (family_of op) (is_signed aty) (scalar_size aty))) operands ∙ there.1,
      )

  binary_routine : (op : BinOp) (ty aty bty : PlainType) (mode : Mode) (to a b : Temp) (s : Shape)
      → IsBinary (family_of op) slots to a b ty aty bty
      ⊎ (IsFixedBinary slots op to a b ty aty bty ⊎ IsPointerBinary p slots op to a b ty aty bty) → HaveOperationTypes op ty aty bty
      → shapes_with (shape_code (binary_shape op ty mode aty bty)) (binary_shape op ty mode aty bty) ≡ s ∷ []
      → (body : List AsmItem) × (body_by (is_fixed aty || is_fixed bty) (Some (binary_body op ty aty bty mode))
      (division_body (family_of op) (is_signed aty) (scalar_size aty)) ≡ Some body)
  binary_routine op ty aty bty mode to a b s (inl i) types q =
      let operands = integer_operands (family_of op) slots to a b ty aty bty i in
      divided_body op ty aty bty mode s (ap is_fixed (as_integer ty (result_integer op ty aty bty operands.0 operands.1 types)).2)
      (no_fixed (family_of op) slots to a b ty aty bty i) q
  binary_routine op ty aty bty mode to a b s (inr (inl i)) types q = (
    binary_body op ty aty bty mode,
    ap (λ k. body_by k (Some (binary_body op ty aty bty mode))
        (division_body (family_of op) (is_signed aty) (scalar_size aty))) (either_fixed aty bty i.types.fixed),
  )
  binary_routine op ty aty bty mode to a b s (inr (inr i)) types q =
      divided_body op ty aty bty mode s (pointer_result op ty aty bty i.pointer i.types).0
      (pointers_only op ty aty bty i.pointer i.types).0 q

  unary_routine : (op : UnOp) (ty : PlainType) (mode : Mode) (to a : Temp) (s : Shape)
      → IsUnary slots to a ty ⊎ IsFixedUnary slots op to a ty
      → shapes_with (shape_code (unary_shape op ty mode ty)) (unary_shape op ty mode ty) ≡ s ∷ []
      → (body : List AsmItem) × (body_by (is_fixed ty) (Some (unary_body op ty mode)) None ≡ Some body)
  unary_routine op ty mode to a s (inl i) q =
      let e = counted_fixed ty ∙ no_fixed_operand slots to a ty i in
      absurd (alone (shape_code (unary_shape op ty mode ty)) (unary_shape op ty mode ty) s (6 + 18 * widest (ty ∷ ty ∷ []))
      (rw e refl) q)
  unary_routine op ty mode to a s (inr i) q =
      (unary_body op ty mode, ap (λ k. body_by k (Some (unary_body op ty mode)) None) (type_fixed ty i.types.fixed))

  -- a conversion without a fixed-point type stands at each use
  conversion_alone : (ty aty : PlainType) (mode : Mode) (s : Shape) → (is_fixed ty || is_fixed aty) ≡ false
      → shapes_with (shape_code (conversion_shape ty mode aty)) (conversion_shape ty mode aty) ≡ s ∷ [] → ⊥
  conversion_alone ty aty mode s e q = by_kind (counts_pointer ty || (counts_pointer aty || false)) refl
    where
      both : (is_fixed ty ≡ false) × (is_fixed aty ≡ false)
      both = both_false (is_fixed ty) (is_fixed aty) e

      by_kind : (k : Bool) → (counts_pointer ty || (counts_pointer aty || false)) ≡ k → ⊥
      by_kind true d =
          let r = counted_fixed ty ∙ both.0 in let l = counted_fixed aty ∙ both.1 in
          alone (shape_code (conversion_shape ty mode aty)) (conversion_shape ty mode aty) s (10 * widest (ty ∷ aty ∷ []))
          (rw (r, l, d) refl) q
      by_kind false d =
          let r = counted_fixed ty ∙ both.0 in let l = counted_fixed aty ∙ both.1 in
          alone (shape_code (conversion_shape ty mode aty)) (conversion_shape ty mode aty) s (4 + 6 * scalar_size ty)
          (rw (r, l, d) refl) q

  conversion_routine : (ty aty : PlainType) (mode : Mode) (to a : Temp) (s : Shape)
      → AreConverted slots to a ty aty ⊎ (IsFixedConversion slots to a ty aty ⊎ IsPointerConversion slots to a ty aty)
      → shapes_with (shape_code (conversion_shape ty mode aty)) (conversion_shape ty mode aty) ≡ s ∷ []
      → (body : List AsmItem) × (body_by (is_fixed ty || is_fixed aty) (Some (conversion_body ty aty mode)) None ≡ Some body)
  conversion_routine ty aty mode to a s (inl i) q =
      absurd (conversion_alone ty aty mode s (none_converted slots to a ty aty i) q)
  conversion_routine ty aty mode to a s (inr (inl i)) q =
      (conversion_body ty aty mode, ap (λ k. body_by k (Some (conversion_body ty aty mode)) None) (either_fixed ty aty i.types.fixed))
  conversion_routine ty aty mode to a s (inr (inr i)) q =
      absurd (conversion_alone ty aty mode s (pointer_converted ty aty i.pointer i.types).no_fixed q)

  pub has_routine : (i : PlainIr) (s : Shape) → IsCovered p results f called slots i → HasTypes i → op_shapes i ≡ s ∷ [] → HasBody i
  has_routine (binary_op op ty mode to a aty b bty) s c types q = binary_routine op ty aty bty mode to a b s c types q
  has_routine (unary_op op ty mode to a) s c types q = unary_routine op ty mode to a s c q
  has_routine (conversion to ty mode a aty) s c types q = conversion_routine ty aty mode to a s c q
  has_routine (constant t n) s c types q = absurd (no_item s q)
  has_routine (copy to from) s c types q = absurd (no_item s q)
  has_routine (address t o offset) s c types q = absurd (no_item s q)
  has_routine (field ptr space offset) s c types q = absurd (no_item s q)
  has_routine (load_at to ptr space) s c types q = absurd (no_item s q)
  has_routine (store_at ptr space from) s c types q = absurd (no_item s q)
  has_routine (load_object t o offset) s c types q = absurd (no_item s q)
  has_routine (store_object o offset t) s c types q = absurd (no_item s q)
  has_routine (label l) s c types q = absurd (no_item s q)
  has_routine (jump l) s c types q = absurd (no_item s q)
  has_routine (branch_zero t l) s c types q = absurd (no_item s q)
  has_routine (call_function g to) s c types q = absurd (no_item s q)
  has_routine (return_from from) s c types q = absurd (no_item s q)
  has_routine (port_in to port index width) s c types q = absurd (no_item s q)
  has_routine (port_out from port index width) s c types q = absurd (no_item s q)
  has_routine (load_cell to cell) s c types q = absurd (no_item s q)
  has_routine (store_cell cell from) s c types q = absurd (no_item s q)
  has_routine (cell_port read t cell offset index width) s c types q = absurd (no_item s q)

  -- ---- the emitter may write it

  abbrev FixedTypes : BinOp → (ty aty bty : PlainType) → Type 0
  FixedTypes op ty aty bty = AreFixedOperands op ty aty bty × (scalar_size ty ≤ 8) × (scalar_size aty ≤ 8) × (scalar_size bty ≤ 8)

  binary_written : (op : BinOp) (ty aty bty : PlainType) (to a b : Temp)
      → IsBinary (family_of op) slots to a b ty aty bty
      ⊎ (IsFixedBinary slots op to a b ty aty bty ⊎ IsPointerBinary p slots op to a b ty aty bty)
      → OfKind (is_fixed aty || is_fixed bty) (FixedTypes op ty aty bty) (CanBeDivided (family_of op) (scalar_size aty))
  binary_written op ty aty bty to a b (inl i) =
      of_others (is_fixed aty || is_fixed bty) (FixedTypes op ty aty bty) (CanBeDivided (family_of op) (scalar_size aty))
      (no_fixed (family_of op) slots to a b ty aty bty i) (integers_divide (family_of op) slots to a b ty aty bty i)
  binary_written op ty aty bty to a b (inr (inl i)) =
      let x = i.result_bytes in let y = i.left_bytes in let z = i.right_bytes in
      let m = i.result.most in let n = i.left.most in let k = i.right.most in
      of_own (is_fixed aty || is_fixed bty) (FixedTypes op ty aty bty) (CanBeDivided (family_of op) (scalar_size aty))
      (either_fixed aty bty i.types.fixed) (i.types, omega arith, omega arith, omega arith)
  binary_written op ty aty bty to a b (inr (inr i)) =
      of_others (is_fixed aty || is_fixed bty) (FixedTypes op ty aty bty) (CanBeDivided (family_of op) (scalar_size aty))
      (pointers_only op ty aty bty i.pointer i.types).0 ((pointer_result op ty aty bty i.pointer i.types).1 (scalar_size aty))

  unary_written : (op : UnOp) (ty : PlainType) (to a : Temp) → IsUnary slots to a ty ⊎ IsFixedUnary slots op to a ty
      → OfKind (is_fixed ty) (IsFixedOperand op ty × (scalar_size ty ≤ 8)) ⊤
  unary_written op ty to a (inl i) =
      of_others (is_fixed ty) (IsFixedOperand op ty × (scalar_size ty ≤ 8)) ⊤ (no_fixed_operand slots to a ty i) tt
  unary_written op ty to a (inr i) =
      let x = i.result_bytes in let m = i.result.most in
      of_own (is_fixed ty) (IsFixedOperand op ty × (scalar_size ty ≤ 8)) ⊤ (type_fixed ty i.types.fixed) (i.types, omega arith)

  abbrev FixedConverted : (ty aty : PlainType) → Type 0
  FixedConverted ty aty = AreFixedConverted ty aty × (scalar_size ty ≤ 8) × (scalar_size aty ≤ 8)

  conversion_written : (ty aty : PlainType) (to a : Temp)
      → AreConverted slots to a ty aty ⊎ (IsFixedConversion slots to a ty aty ⊎ IsPointerConversion slots to a ty aty)
      → OfKind (is_fixed ty || is_fixed aty) (FixedConverted ty aty) ⊤
  conversion_written ty aty to a (inl i) =
      of_others (is_fixed ty || is_fixed aty) (FixedConverted ty aty) ⊤ (none_converted slots to a ty aty i) tt
  conversion_written ty aty to a (inr (inl i)) =
      let x = i.result_bytes in let y = i.from_bytes in let m = i.result.most in let n = i.from.most in
      of_own (is_fixed ty || is_fixed aty) (FixedConverted ty aty) ⊤ (either_fixed ty aty i.types.fixed)
      (i.types, omega arith, omega arith)
  conversion_written ty aty to a (inr (inr i)) =
      of_others (is_fixed ty || is_fixed aty) (FixedConverted ty aty) ⊤ (pointer_converted ty aty i.pointer i.types).no_fixed tt

  pub can_be_routine : (i : PlainIr) → IsCovered p results f called slots i → CanBeRoutine i
  can_be_routine (binary_op op ty mode to a aty b bty) c = binary_written op ty aty bty to a b c
  can_be_routine (unary_op op ty mode to a) c = unary_written op ty to a c
  can_be_routine (conversion to ty mode a aty) c = conversion_written ty aty to a c
  can_be_routine (constant t n) c = tt
  can_be_routine (copy to from) c = tt
  can_be_routine (address t o offset) c = tt
  can_be_routine (field ptr space offset) c = tt
  can_be_routine (load_at to ptr space) c = tt
  can_be_routine (store_at ptr space from) c = tt
  can_be_routine (load_object t o offset) c = tt
  can_be_routine (store_object o offset t) c = tt
  can_be_routine (label l) c = tt
  can_be_routine (jump l) c = tt
  can_be_routine (branch_zero t l) c = tt
  can_be_routine (call_function g to) c = tt
  can_be_routine (return_from from) c = tt
  can_be_routine (port_in to port index width) c = tt
  can_be_routine (port_out from port index width) c = tt
  can_be_routine (load_cell to cell) c = tt
  can_be_routine (store_cell cell from) c = tt
  can_be_routine (cell_port read t cell offset index width) c = tt

  -- ---- and a call of it

  binary_few : (x : Family) (to a b : Temp) (ty aty bty : PlainType) → IsBinary x slots to a b ty aty bty → (a.bytes ≤ 8) × (b.bytes ≤ 8)
  binary_few (Combined o) to a b ty aty bty i = (i.left.most, i.right.most)
  binary_few (Compared r exchanged) to a b ty aty bty i = (i.left.most, i.right.most)
  binary_few Multiplied to a b ty aty bty i = (i.left.most, i.right.most)
  binary_few (Shifted up) to a b ty aty bty i = (i.0.left.most, i.0.count.most)
  binary_few (Divided r) to a b ty aty bty i = (i.0.left.most, i.0.right.most)

  binary_called : (op : BinOp) (ty aty bty : PlainType) (to a b : Temp)
      → IsBinary (family_of op) slots to a b ty aty bty
      ⊎ (IsFixedBinary slots op to a b ty aty bty ⊎ IsPointerBinary p slots op to a b ty aty bty) → (a.bytes ≤ 8) × (b.bytes ≤ 8)
  binary_called op ty aty bty to a b (inl i) = binary_few (family_of op) to a b ty aty bty i
  binary_called op ty aty bty to a b (inr (inl i)) = (i.left.most, i.right.most)
  binary_called op ty aty bty to a b (inr (inr i)) = (i.left.most, i.right.most)

  unary_called : (op : UnOp) (ty : PlainType) (to a : Temp) → IsUnary slots to a ty ⊎ IsFixedUnary slots op to a ty → a.bytes ≤ 8
  unary_called op ty to a (inl i) = i.operand.most
  unary_called op ty to a (inr i) = i.operand.most

  conversion_called : (ty aty : PlainType) (to a : Temp)
      → AreConverted slots to a ty aty ⊎ (IsFixedConversion slots to a ty aty ⊎ IsPointerConversion slots to a ty aty) → a.bytes ≤ 8
  conversion_called ty aty to a (inl i) = i.from.most
  conversion_called ty aty to a (inr (inl i)) = i.from.most
  conversion_called ty aty to a (inr (inr i)) = i.from.most

  pub can_be_called : (wanted : ℕ) (i : PlainIr) → IsCovered p results f called slots i → IsOfResult wanted i → CanBeCalled wanted i
  can_be_called wanted (binary_op op ty mode to a aty b bty) c few = let o = binary_called op ty aty bty to a b c in (few, o.0, o.1)
  can_be_called wanted (unary_op op ty mode to a) c few = (few, unary_called op ty to a c)
  can_be_called wanted (conversion to ty mode a aty) c few = (few, conversion_called ty aty to a c)
  can_be_called wanted (constant t n) c few = tt
  can_be_called wanted (copy to from) c few = tt
  can_be_called wanted (address t o offset) c few = tt
  can_be_called wanted (field ptr space offset) c few = tt
  can_be_called wanted (load_at to ptr space) c few = tt
  can_be_called wanted (store_at ptr space from) c few = tt
  can_be_called wanted (load_object t o offset) c few = tt
  can_be_called wanted (store_object o offset t) c few = tt
  can_be_called wanted (label l) c few = tt
  can_be_called wanted (jump l) c few = tt
  can_be_called wanted (branch_zero t l) c few = tt
  can_be_called wanted (call_function g to) c few = tt
  can_be_called wanted (return_from from) c few = tt
  can_be_called wanted (port_in to port index width) c few = tt
  can_be_called wanted (port_out from port index width) c few = tt
  can_be_called wanted (load_cell to cell) c few = tt
  can_be_called wanted (store_cell cell from) c few = tt
  can_be_called wanted (cell_port read t cell offset index width) c few = tt
