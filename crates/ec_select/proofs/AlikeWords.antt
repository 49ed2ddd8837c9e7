-- Code of an operation that has a shape is alike wherever the same number is known: what the next operation is told does not make
-- it longer.
use Rattle.std.proofs.Common.{◌≡◌, ◌⊎◌, ℕ, ◌≤◌, Bool, true, false, not, List, [], ◌∷◌, ◌++◌, refl, sym, subst, arith, inl, inr}
use Rattle.std.specs.Prelude.{⊤, max, ◌==◌, ◌||◌, ◌&&◌, Option, Some, None, if◌then◌else◌}
use Rattle.std.proofs.lemmas.Bool.{and_parts, false≢true}
use Rattle.ec_asm.specs.declared.items.AsmItem.{AsmItem}
use Rattle.ec_asm.specs.declared.pieces.Location.{Location}
use Rattle.ec_asm.specs.Items.{code_words}
use Rattle.ec_asm.specs.Pieces.{compare_code}
use Rattle.ec_space.specs.declared.Core.{Core}
use Rattle.ec_core.specs.declared.expressions.BinOp.{BinOp}
use Rattle.ec_core.specs.declared.expressions.BinOp.TheVariants.{Add, Sub, Mul, Div, Rem, And, Or, Xor, Lt, Gt, Le, Ge}
use Rattle.ec_core.specs.declared.expressions.BinOp.TheVariants.{Eq, Ne, Shl, Shr}
use Rattle.ec_core.specs.Accesses.{element_size}
use Rattle.ec_core.specs.Plain.{PlainType, void, integer, fixed, pointer, array, struct, PlainProgram}
use Rattle.ec_core.specs.Words.{widest}
use Rattle.ec_core_shapes.specs.Shapes.{Shape, binary_shape}
use Rattle.ec_fx.specs.declared.formats.FxKind.{FxKind}
use Rattle.ec_fx.specs.declared.numbers.Mode.{Mode}
use Rattle.ec_ir.specs.declared.operations.Temp.{Temp}
use Rattle.ec_ir.specs.Operations.{PlainIr}
use Rattle.ec_ir.specs.Operations.{binary_op, unary_op, conversion}
use Rattle.ec_ir.specs.Operations.{PlainIrProgram}
use Rattle.ec_ir.specs.Valid.{ValidOperation, HaveOperationTypes}
use Rattle.ec_ir_known.specs.declared.known.RightNumber.{RightNumber}
use Rattle.ec_ir_shapes.specs.Costs.{integer_code, exact_code, are_exact, any_fixed, any_pointer, shapes_with}
use Rattle.ec_ir_shapes.specs.Costs.{op_shapes, binary_code as counted_binary, has_one_format as counts_format}
use Rattle.ec_ir_shapes.specs.Costs.{is_fixed as counts_fixed, is_pointer as counts_pointer}
use Rattle.ec_select_fixed.proofs.Suits.{operands_suit}
use Rattle.ec_select_fixed.specs.Codes.{fixed_binary_code}
use Rattle.ec_select_fixed.specs.Types.{AreFixedOperands}
use Rattle.ec_select_order.specs.declared.relations.Relation.{Relation}
use Rattle.ec_select_order.specs.Relations.{relation_in_code, truth_in_code}
use Rattle.ec_select_operations.specs.declared.families.Family.{Family}
use Rattle.ec_select_operations.specs.declared.families.Family.TheVariants.{Combined, Compared}
use Rattle.ec_select_operations.specs.declared.families.Told.{Told}
use Rattle.ec_select_operations.specs.Code.{own_telling}
use Rattle.ec_select_operations.specs.Code.{Linkage, operation_code, family_of, is_signed, is_on_integers, has_one_format, by_kind}
use Rattle.ec_select_operations.specs.declared.families.Family.TheVariants.{Divided}
use Rattle.ec_select_operations.specs.Code.{fixed_binary, pointer_binary, integer_binary, operator_code, is_placed, same_location}
use Rattle.ec_select_operations.specs.Code.{taking_code}
use Rattle.ec_select_functions.proofs.ByRoutine.{divided_number}
use Rattle.ec_select_places.specs.Steps.{z_pair}
use Rattle.ec_select_operations.specs.Code.{placed_binary, answer_code, answer_location, work_location}
use Rattle.ec_select_operations.specs.Code.{truth_register, truth_at_code, ordered_code, pointers_code, related_bytes}
use Rattle.ec_select_operations.specs.Code.{is_index, is_difference, offset_code}
use Rattle.ec_select_operations.specs.Needs.{Need, nothing, is_fixed, moves_pointer}
use Rattle.ec_select_operations.specs.Pointers.{is_pointer}
use Rattle.ec_select_functions.specs.Covered.{IsCovered, IsBinary, IsFixedBinary, IsPointerBinary, AreIntegers, AreCompared, AreShifted}
use Rattle.ec_select.proofs.CountedTypes.{same_format, never_exact}
use Rattle.ec_select.proofs.FixedTypes.{either_fixed, no_fixed}
use Rattle.ec_select.proofs.Indexed.{kind_words, moves_pointers, moved_shape}
use Rattle.ec_select.proofs.PointerTypes.{pointers_only, no_pointer}
use Rattle.ec_select.proofs.Words.{joined_words}

-- the types of a binary operator are those of a valid operation
abbrev pub HasOperandTypes : PlainIr → Type 0
HasOperandTypes (binary_op op ty mode to a aty b bty) = HaveOperationTypes op ty aty bty
HasOperandTypes i = ⊤

pub has_operand_types : (cells : ℕ) (p : PlainIrProgram) (results : ℕ → ℕ) (f slots : ℕ) (code : List PlainIr) (i : PlainIr)
    → ValidOperation cells p results f slots code i → HasOperandTypes i
has_operand_types cells p results f slots code (binary_op op ty mode to a aty b bty) h = h.3
has_operand_types cells p results f slots code i h = tt

-- ---- no operator on integers but a quotient and a remainder has a shape

abbrev IsOther : BinOp → Type 0
IsOther Div = ⊥
IsOther Rem = ⊥
IsOther op = ⊤

none_in : (op : BinOp) (w : ℕ) (r s : Shape) → IsOther op → shapes_with (integer_code op w) r ≡ s ∷ [] → ⊥
none_in Div w r s h e = h
none_in Rem w r s h e = h
none_in op w r s h e = cc

none_shaped : (op : BinOp) (exact on_fixed on_pointers : Bool) (w : ℕ) (r s : Shape) → exact ≡ false → on_fixed ≡ false → IsOther op
    → shapes_with (counted_binary op exact on_fixed on_pointers w) r ≡ s ∷ [] → ⊥
none_shaped op true f q w r s x y h e = false≢true (sym x)
none_shaped op false true q w r s x y h e = false≢true (sym y)
none_shaped op false false true w r s x y h e = cc
none_shaped op false false false w r s x y h e = none_in op w r s h e

exact_in : (op : BinOp) (w : ℕ) (r s : Shape) → shapes_with (exact_code op w) r ≡ s ∷ [] → ⊥
exact_in Add w r s e = cc
exact_in Sub w r s e = cc
exact_in op w r s e = cc

-- one with a fixed-point operand that has a shape is none on integers
pub not_exact : (op : BinOp) (exact on_fixed on_pointers : Bool) (w : ℕ) (r s : Shape)
    → shapes_with (counted_binary op exact on_fixed on_pointers w) r ≡ s ∷ [] → exact ≡ false
not_exact op true f q w r s e = absurd (exact_in op w r s e)
not_exact op false f q w r s e = refl

pub not_on_integers : (op : BinOp) (mode : Mode) (ty aty bty : PlainType) → AreFixedOperands op ty aty bty
    → are_exact op mode ty (aty ∷ bty ∷ []) ≡ false → is_on_integers (family_of op) mode ty aty bty ≡ false
not_on_integers op mode ty aty bty types e = by_op op types e (same_format aty bty) (same_format ty aty)
  where
    by_op : (op : BinOp) → AreFixedOperands op ty aty bty → are_exact op mode ty (aty ∷ bty ∷ []) ≡ false
        → counts_format aty bty ≡ has_one_format aty bty → counts_format ty aty ≡ has_one_format ty aty
        → is_on_integers (family_of op) mode ty aty bty ≡ false
    by_op And types e x y = absurd (operands_suit And ty aty bty types).formats
    by_op Or types e x y = absurd (operands_suit Or ty aty bty types).formats
    by_op Xor types e x y = absurd (operands_suit Xor ty aty bty types).formats
    by_op Add types e x y = rw (← x, ← y) e
    by_op Sub types e x y = rw (← x, ← y) e
    by_op op types e x y = rw (← x) e

-- ---- the result of a comparison of integers is no fixed-point number

abbrev IsComparison : BinOp → Type 0
IsComparison Lt = ⊤
IsComparison Gt = ⊤
IsComparison Le = ⊤
IsComparison Ge = ⊤
IsComparison Eq = ⊤
IsComparison Ne = ⊤
IsComparison op = ⊥

no_fixed_result : (op : BinOp) (k : FxKind) (u s t : Bool) (m n : ℕ) → IsComparison op
    → HaveOperationTypes op (fixed k u) (integer s m) (integer t n) → ⊥
no_fixed_result Lt k u s t m n c (inl h) = let q : fixed k u ≡ integer true 2 = h.value in cc
no_fixed_result Gt k u s t m n c (inl h) = let q : fixed k u ≡ integer true 2 = h.value in cc
no_fixed_result Le k u s t m n c (inl h) = let q : fixed k u ≡ integer true 2 = h.value in cc
no_fixed_result Ge k u s t m n c (inl h) = let q : fixed k u ≡ integer true 2 = h.value in cc
no_fixed_result Eq k u s t m n c (inl h) = let q : fixed k u ≡ integer true 2 = h.value in cc
no_fixed_result Ne k u s t m n c (inl h) = let q : fixed k u ≡ integer true 2 = h.value in cc
no_fixed_result Lt k u s t m n c (inr (inl h)) = h.shift
no_fixed_result Lt k u s t m n c (inr (inr h)) = false≢true h.bitwise
no_fixed_result Gt k u s t m n c (inr (inl h)) = h.shift
no_fixed_result Gt k u s t m n c (inr (inr h)) = false≢true h.bitwise
no_fixed_result Le k u s t m n c (inr (inl h)) = h.shift
no_fixed_result Le k u s t m n c (inr (inr h)) = false≢true h.bitwise
no_fixed_result Ge k u s t m n c (inr (inl h)) = h.shift
no_fixed_result Ge k u s t m n c (inr (inr h)) = false≢true h.bitwise
no_fixed_result Eq k u s t m n c (inr (inl h)) = h.shift
no_fixed_result Eq k u s t m n c (inr (inr h)) = false≢true h.bitwise
no_fixed_result Ne k u s t m n c (inr (inl h)) = h.shift
no_fixed_result Ne k u s t m n c (inr (inr h)) = false≢true h.bitwise
no_fixed_result op k u s t m n c h = c

compared_type : (op : BinOp) (ty : PlainType) (s t : Bool) (m n : ℕ) → IsComparison op
    → HaveOperationTypes op ty (integer s m) (integer t n) → counts_fixed ty ≡ false
compared_type op (fixed k u) s t m n c h = absurd (no_fixed_result op k u s t m n c h)
compared_type op void s t m n c h = refl
compared_type op (integer u j) s t m n c h = refl
compared_type op (pointer u c z) s t m n d h = refl
compared_type op (array z j) s t m n c h = refl
compared_type op (struct j) s t m n c h = refl

module _ (slots : ℕ) (to a b : Temp) (ty aty bty : PlainType) where
  abbrev some_fixed : Bool
  some_fixed = counts_fixed ty || any_fixed (aty ∷ bty ∷ [])

  order_fixed : (op : BinOp) → IsComparison op → AreCompared slots to a b aty bty → HaveOperationTypes op ty aty bty
      → some_fixed ≡ false
  order_fixed op c i h =
      let g = subst (λ z. HaveOperationTypes op ty z bty) i.left_type h in
      let k = subst (λ z. HaveOperationTypes op ty (integer i.signed a.bytes) z) i.right_type g in
      rw (compared_type op ty i.signed i.signed a.bytes b.bytes c k, i.left_type, i.right_type) refl

  sum_fixed : AreIntegers slots to a b ty aty bty → some_fixed ≡ false
  sum_fixed i = rw (i.result_type, i.left_type, i.right_type) refl

  shift_fixed : AreShifted slots to a b ty aty bty → some_fixed ≡ false
  shift_fixed i = rw (i.result_type, i.left_type, i.count_type) refl

  none_fixed : (op : BinOp) → IsBinary (family_of op) slots to a b ty aty bty → HaveOperationTypes op ty aty bty → IsOther op
      → some_fixed ≡ false
  none_fixed Div i h o = absurd o
  none_fixed Rem i h o = absurd o
  none_fixed Add i h o = sum_fixed i
  none_fixed Sub i h o = sum_fixed i
  none_fixed And i h o = sum_fixed i
  none_fixed Or i h o = sum_fixed i
  none_fixed Xor i h o = sum_fixed i
  none_fixed Mul i h o = rw (i.result_type, i.left_type, i.right_type) refl
  none_fixed Shl i h o = shift_fixed i.0
  none_fixed Shr i h o = shift_fixed i.0
  none_fixed Lt i h o = order_fixed Lt tt i h
  none_fixed Gt i h o = order_fixed Gt tt i h
  none_fixed Le i h o = order_fixed Le tt i h
  none_fixed Ge i h o = order_fixed Ge tt i h
  none_fixed Eq i h o = order_fixed Eq tt i h
  none_fixed Ne i h o = order_fixed Ne tt i h

  -- so an operator on integers that has a shape is a quotient or a remainder
  other_op : (op : BinOp) (mode : Mode) (s : Shape) → IsBinary (family_of op) slots to a b ty aty bty
      → HaveOperationTypes op ty aty bty → IsOther op → op_shapes (binary_op op ty mode to a aty b bty) ≡ s ∷ [] → ⊥
  other_op op mode s i h o e =
      none_shaped op (are_exact op mode ty (aty ∷ bty ∷ [])) some_fixed (counts_pointer ty || any_pointer (aty ∷ bty ∷ []))
      (widest (ty ∷ aty ∷ bty ∷ [])) (binary_shape op ty mode aty bty) s
      (never_exact op mode ty aty bty (no_fixed (family_of op) slots to a b ty aty bty i)) (none_fixed op i h o) o e

-- ---- code

divided_alike : (known : Option RightNumber) (telling : Option Told) (left right : Bool) (p q to : Location) (bytes n : ℕ)
    → code_words (integer_binary known telling Div left right p q to bytes n)
    ≤ code_words (integer_binary known None Div left right p q to bytes n)
divided_alike known telling left right p q to bytes n =
    subst (λ x. code_words (taking_code x telling (Divided false) left right p q to bytes n)
    ≤ code_words (taking_code x None (Divided false) left right p q to bytes n)) (sym (divided_number Div false refl known)) (alone telling)
  where
    alone : (telling : Option Told) → code_words (operator_code telling (Divided false) left right p q to bytes n)
        ≤ code_words (operator_code None (Divided false) left right p q to bytes n)
    alone None = omega arith
    alone (Some told) = omega arith

remainder_alike : (known : Option RightNumber) (telling : Option Told) (left right : Bool) (p q to : Location) (bytes n : ℕ)
    → code_words (integer_binary known telling Rem left right p q to bytes n)
    ≤ code_words (integer_binary known None Rem left right p q to bytes n)
remainder_alike known telling left right p q to bytes n =
    subst (λ x. code_words (taking_code x telling (Divided true) left right p q to bytes n)
    ≤ code_words (taking_code x None (Divided true) left right p q to bytes n)) (sym (divided_number Rem true refl known)) (alone telling)
  where
    alone : (telling : Option Told) → code_words (operator_code telling (Divided true) left right p q to bytes n)
        ≤ code_words (operator_code None (Divided true) left right p q to bytes n)
    alone None = omega arith
    alone (Some told) = omega arith

integer_alike : (slots : ℕ) (to a b : Temp) (ty aty bty : PlainType) (known : Option RightNumber) (telling : Option Told)
    (left right : Bool) (p q r : Location) (n : ℕ) (op : BinOp) (mode : Mode) (s : Shape)
    → IsBinary (family_of op) slots to a b ty aty bty → HaveOperationTypes op ty aty bty
    → op_shapes (binary_op op ty mode to a aty b bty) ≡ s ∷ []
    → code_words (integer_binary known telling op left right p q r a.bytes n)
    ≤ code_words (integer_binary known None op left right p q r a.bytes n)
integer_alike slots to a b ty aty bty known telling left right p q r n Div mode s i h e =
    divided_alike known telling left right p q r a.bytes n
integer_alike slots to a b ty aty bty known telling left right p q r n Rem mode s i h e =
    remainder_alike known telling left right p q r a.bytes n
integer_alike slots to a b ty aty bty known telling left right p q r n op mode s i h e =
    absurd (other_op slots to a b ty aty bty op mode s i h tt e)

-- a comparison of pointers alone is a part of the code of one that is told otherwise
ordered_alike : (telling : Option Told) (r : Relation) (left right to : Location) (bytes n : ℕ)
    → code_words (ordered_code telling r left right to bytes n) ≤ code_words (ordered_code None r left right to bytes n)
ordered_alike None r left right to bytes n = omega arith
ordered_alike (Some told) r left right to bytes n = by_need (n == 0)
  where
    by_need : (x : Bool) → code_words (if x then [] else compare_code right left bytes)
        ≤ code_words (if x then [] else relation_in_code (truth_register to) r false left right bytes ++ truth_at_code to n)
    by_need true = omega arith
    by_need false =
        omega (
          arith,
          joined_words (relation_in_code (truth_register to) r false left right bytes) (truth_at_code to n),
          joined_words (compare_code right left bytes) (truth_in_code (truth_register to) r false),
        )

pointers_alike : (telling : Option Told) (core : Core) (f : Family) (p q r : Location) (bytes size n : ℕ)
    → code_words (pointers_code telling core f p q r bytes size n) ≤ code_words (pointers_code None core f p q r bytes size n)
pointers_alike telling core (Combined op) p q r bytes size n = omega arith
pointers_alike telling core (Compared o false) p q r bytes size n = ordered_alike telling o p q r (related_bytes core o bytes) n
pointers_alike telling core (Compared o true) p q r bytes size n = ordered_alike telling o q p r (related_bytes core o bytes) n
pointers_alike telling core f p q r bytes size n = omega arith

pointed_alike : (known : Option RightNumber) (telling : Option Told) (core : Core) (left right : Bool) (p : PlainProgram) (op : BinOp)
    (aty bty : PlainType) (a b to : Location) (bytes index_bytes n : ℕ)
    → code_words (pointer_binary known telling core left right p op aty bty a b to bytes index_bytes n)
    ≤ code_words (pointer_binary known None core left right p op aty bty a b to bytes index_bytes n)
pointed_alike known telling core true true p op aty bty a b to bytes index_bytes n =
    pointers_alike telling core (family_of op) a b to bytes (element_size p aty) n
pointed_alike known telling core true false p op aty bty a b to bytes index_bytes n = omega arith
pointed_alike known telling core false true p op aty bty a b to bytes index_bytes n = omega arith
pointed_alike known telling core false false p op aty bty a b to bytes index_bytes n = omega arith

other_code : (x : Bool) (a b c : List AsmItem) → x ≡ false → code_words (if x then a else c) ≤ code_words (if x then b else c)
other_code x a b c e = rw e (omega arith)

none_kind : (x y : Bool) (a b c d g e : List AsmItem) → x ≡ false → y ≡ false → code_words c ≤ code_words e
    → code_words (by_kind x a (by_kind y b c)) ≤ code_words (by_kind x d (by_kind y g e))
none_kind x y a b c d g e n m h = rw (n, m) h

first_kind : (x : Bool) (a b c d : List AsmItem) → x ≡ true → code_words a ≤ code_words c
    → code_words (by_kind x a b) ≤ code_words (by_kind x c d)
first_kind x a b c d e h = rw e h

second_kind : (x y : Bool) (a b c d g e : List AsmItem) → x ≡ false → y ≡ true → code_words b ≤ code_words g
    → code_words (by_kind x a (by_kind y b c)) ≤ code_words (by_kind x d (by_kind y g e))
second_kind x y a b c d g e n m h = rw (n, m) h

-- a binary operator that has not been told an index
binary_alike : (p : PlainProgram) (slots : ℕ) (at : Temp → Location) (k l : Linkage) (telling : Option Told)
    (known : Option RightNumber) (n : ℕ) (op : BinOp) (ty : PlainType) (mode : Mode) (to a : Temp) (aty : PlainType) (b : Temp)
    (bty : PlainType) (s : Shape) → k.core ≡ l.core
    → IsBinary (family_of op) slots to a b ty aty bty
    ⊎ (IsFixedBinary slots op to a b ty aty bty ⊎ IsPointerBinary p slots op to a b ty aty bty)
    → HaveOperationTypes op ty aty bty → op_shapes (binary_op op ty mode to a aty b bty) ≡ s ∷ []
    → code_words (operation_code p at k None telling known n nothing (binary_op op ty mode to a aty b bty))
    ≤ code_words (operation_code p at l None None known n nothing (binary_op op ty mode to a aty b bty))
binary_alike p slots at k l telling known n op ty mode to a aty b bty s c (inl i) h e =
    let pointed = λ (core : Core) (y : Option Told). pointer_binary known y core (is_pointer aty) (is_pointer bty) p op aty bty (at a)
    (at b) (at to) a.bytes b.bytes n in
    none_kind (is_fixed aty || is_fixed bty) (is_pointer aty || is_pointer bty)
    (fixed_binary known telling op ty aty bty mode (at a) (at b) (at to) a.bytes n) (pointed k.core telling)
    (integer_binary known telling op (is_signed aty) (is_signed bty) (at a) (at b) (at to) a.bytes n)
    (fixed_binary known None op ty aty bty mode (at a) (at b) (at to) a.bytes n) (pointed l.core None)
    (integer_binary known None op (is_signed aty) (is_signed bty) (at a) (at b) (at to) a.bytes n)
    (no_fixed (family_of op) slots to a b ty aty bty i) (no_pointer (family_of op) slots to a b ty aty bty i)
    (integer_alike slots to a b ty aty bty known telling (is_signed aty) (is_signed bty) (at a) (at b) (at to) n op mode s i h e)
binary_alike p slots at k l telling known n op ty mode to a aty b bty s c (inr (inl i)) h e =
    let rest = λ (core : Core) (y : Option Told). by_kind (is_pointer aty || is_pointer bty)
    (pointer_binary known y core (is_pointer aty) (is_pointer bty) p op aty bty (at a) (at b) (at to) a.bytes b.bytes n)
    (integer_binary known y op (is_signed aty) (is_signed bty) (at a) (at b) (at to) a.bytes n) in
    let whole = λ (y : Option Told). integer_binary known y op (is_signed aty) (is_signed bty) (at a) (at b) (at to) a.bytes n in
    let other = if is_placed op mode ty aty bty && not (same_location (at b) (at to))
    then placed_binary known op (is_signed aty) (at a) (at b) (at to) a.bytes n
    else answer_code (fixed_binary_code op ty aty bty mode (at a) (at b) answer_location work_location) (at to) n in
    first_kind (is_fixed aty || is_fixed bty) (fixed_binary known telling op ty aty bty mode (at a) (at b) (at to) a.bytes n)
    (rest k.core telling) (fixed_binary known None op ty aty bty mode (at a) (at b) (at to) a.bytes n) (rest l.core None)
    (either_fixed aty bty i.types.fixed)
    (other_code (is_on_integers (family_of op) mode ty aty bty) (whole telling) (whole None) other
    (not_on_integers op mode ty aty bty i.types
    (not_exact op (are_exact op mode ty (aty ∷ bty ∷ [])) (counts_fixed ty || any_fixed (aty ∷ bty ∷ []))
    (counts_pointer ty || any_pointer (aty ∷ bty ∷ [])) (widest (ty ∷ aty ∷ bty ∷ [])) (binary_shape op ty mode aty bty) s e)))
binary_alike p slots at k l telling known n op ty mode to a aty b bty s c (inr (inr i)) h e =
    let pointed = λ (core : Core) (y : Option Told). pointer_binary known y core (is_pointer aty) (is_pointer bty) p op aty bty (at a)
    (at b) (at to) a.bytes b.bytes n in
    second_kind (is_fixed aty || is_fixed bty) (is_pointer aty || is_pointer bty)
    (fixed_binary known telling op ty aty bty mode (at a) (at b) (at to) a.bytes n) (pointed k.core telling)
    (integer_binary known telling op (is_signed aty) (is_signed bty) (at a) (at b) (at to) a.bytes n)
    (fixed_binary known None op ty aty bty mode (at a) (at b) (at to) a.bytes n) (pointed l.core None)
    (integer_binary known None op (is_signed aty) (is_signed bty) (at a) (at b) (at to) a.bytes n)
    (pointers_only op ty aty bty i.pointer i.types).0 i.pointer
    (subst (λ core. code_words (pointed k.core telling) ≤ code_words (pointed core None)) c
    (pointed_alike known telling k.core (is_pointer aty) (is_pointer bty) p op aty bty (at a) (at b) (at to) a.bytes b.bytes n))

-- for one core
pub alike : (p : PlainProgram) (results : ℕ → ℕ) (f : ℕ) (called : List ℕ) (slots : ℕ) (at : Temp → Location) (k l : Linkage)
    (told telling : Option Told) (known : Option RightNumber) (n : ℕ) (kept others : Need) (i : PlainIr) (s : Shape)
    → k.core ≡ l.core → IsCovered p results f called slots i → HasOperandTypes i → op_shapes i ≡ s ∷ []
    → code_words (operation_code p at k told telling known n kept i) ≤ code_words (operation_code p at l None None known n others i)
alike p results f called slots at k l told telling known n kept others (binary_op op ty mode to a aty b bty) s c i h e =
    kind_words (is_index told b.bytes && moves_pointer op aty bty)
    (offset_code k.core (is_difference op) (is_signed bty) (at a) z_pair (at to) (max 2 n) b.bytes (element_size p aty) n) _
    (code_words (operation_code p at l None None known n others (binary_op op ty mode to a aty b bty)))
    (λ q.
    let moves = (and_parts (is_index told b.bytes) (moves_pointer op aty bty) q).1 in
    absurd (moved_shape p slots op mode to a b ty aty bty s (moves_pointers p slots op to a b ty aty bty i moves) moves e))
    (binary_alike p slots at k l (own_telling told telling) known n op ty mode to a aty b bty s c i h e)
alike p results f called slots at k l told telling known n kept others (unary_op op ty mode to a) s c i h e = omega arith
alike p results f called slots at k l told telling known n kept others (conversion to ty mode a aty) s c i h e = omega arith
alike p results f called slots at k l told telling known n kept others i s c j h e = absurd cc
