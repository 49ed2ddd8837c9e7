-- The words of operations that have a shape: of the routine of a shape, of its calls, and of code of their own.
use Rattle.std.proofs.Common.{◌≡◌, ◌⊎◌, ℕ, suc, ◌+◌, ◌-◌, ◌≤◌, Bool, true, false, List, [], ◌∷◌, ◌++◌, refl, sym, ap, ◌∙◌}
use Rattle.std.proofs.Common.{arith, inl, inr}
use Rattle.std.specs.Prelude.{◌||◌, Option, Some, None, if◌then◌else◌}
use Rattle.std.specs.List.{AllByRecursion}
use Rattle.ec_asm.specs.declared.items.AsmItem.{AsmItem}
use Rattle.ec_asm.specs.declared.pieces.Location.{Location}
use Rattle.ec_asm.specs.Items.{code_words}
use Rattle.ec_core.specs.declared.expressions.BinOp.{BinOp}
use Rattle.ec_core.specs.declared.expressions.BinOp.TheVariants.{Div, Rem}
use Rattle.ec_core.specs.Layout.{scalar_size}
use Rattle.ec_core.specs.Plain.{PlainType, PlainProgram}
use Rattle.ec_core.specs.Words.{widest}
use Rattle.ec_core_shapes.specs.Shapes.{Shape, unary_shape, binary_shape, conversion_shape, same_shape}
use Rattle.ec_shapes.specs.Shapes.{total, has, uses, shapes_of, by_shapes, least_row, all_made}
use Rattle.ec_ir.specs.declared.operations.Temp.{Temp}
use Rattle.ec_ir.specs.Costs.{op_words, binary_words}
use Rattle.ec_ir.specs.Operations.{PlainIr}
use Rattle.ec_ir.specs.Operations.{binary_op, unary_op, conversion}
use Rattle.ec_ir_known.specs.declared.known.RightNumber.{RightNumber}
use Rattle.ec_ir_shapes.specs.Costs.{Code, in_line, callable, code_row, shape_code, shapes_with, op_shapes, op_row}
use Rattle.ec_select_routines.specs.Codes.{first_place, second_place, answer_place, binary_body, unary_body, conversion_body}
use Rattle.ec_select_routines.specs.Codes.{call_with_one, call_with_two}
use Rattle.ec_select_routines.specs.Laws.{BinaryRoutinesHave, UnaryRoutinesHave, ConversionRoutinesHave, CallsHave}
use Rattle.ec_select_operations.specs.declared.families.Family.{Family}
use Rattle.ec_select_operations.specs.declared.families.Family.TheVariants.{Combined, Compared, Multiplied, Shifted, Divided}
use Rattle.ec_select_operations.specs.declared.families.Told.{Told}
use Rattle.ec_select_operations.specs.Code.{Linkage, family_of, is_signed, result_wanted, kept_need, own_code, called_code}
use Rattle.ec_select_operations.specs.Homes.{home}
use Rattle.ec_select_operations.specs.Needs.{Need, is_fixed}
use Rattle.ec_select_operations.specs.Routines.{body_by, division_body, routine_with, routine_for}
use Rattle.ec_select_functions.specs.Covered.{IsCovered, IsBinary}
use Rattle.ec_select.specs.InPlace.{IsInPlace}
use Rattle.ec_select.proofs.CalledWords.{result_bytes, of_shape, called_most, routine_most, quotient_routine_words}
use Rattle.ec_select.proofs.CalledWords.{quotient_within}
use Rattle.ec_select.proofs.FixedTypes.{type_fixed, either_fixed, no_fixed, no_fixed_operand, none_converted}
use Rattle.ec_select.proofs.OperationWords.{WordLaws}
use Rattle.ec_select.proofs.OwnWords.{most_in}
use Rattle.ec_select.proofs.PointerTypes.{pointers_only, pointer_converted}
use Rattle.ec_select.proofs.UseWords.{HasTypeBytes, shape_most, shape_own_most}

-- the words of routines and of their calls, by the crate below
pub record RoutineLaws : Type 0 where
  pub binary : BinaryRoutinesHave
  pub unary : UnaryRoutinesHave
  pub conversion : ConversionRoutinesHave
  pub calls : CallsHave

-- ---- the shape of an operation may stand once

abbrev pub call_in : Code → ℕ
call_in (in_line own) = 0
call_in (callable own call) = call

-- what a further use of a shape may have
abbrev pub shape_call : Shape → ℕ
shape_call s = call_in (shape_code s)

abbrev pub IsCallable : Shape → Type 0
IsCallable s = shape_code s ≡ callable (shape_most s) (shape_call s)

callable_in : (c : Code) (r s : Shape) → shape_code r ≡ c → shapes_with c r ≡ s ∷ [] → IsCallable s
callable_in (in_line own) r s q e = absurd cc
callable_in (callable own call) r s q e =
    let same : shape_code s ≡ callable own call = sym (ap shape_code (of_shape (callable own call) r s e)) ∙ q in
    same ∙ ap (λ c. callable (most_in c) (call_in c)) (sym same)

pub is_callable : (i : PlainIr) (s : Shape) → op_shapes i ≡ s ∷ [] → IsCallable s
is_callable (binary_op op ty mode to a aty b bty) s e =
    let r = binary_shape op ty mode aty bty in callable_in (shape_code r) r s refl e
is_callable (unary_op op ty mode to a) s e = let r = unary_shape op ty mode ty in callable_in (shape_code r) r s refl e
is_callable (conversion to ty mode a aty) s e =
    let r = conversion_shape ty mode aty in callable_in (shape_code r) r s refl e
is_callable i s e = absurd cc

-- an operation has one shape at most
two_in : (c : Code) (r s t : Shape) (ss : List Shape) → shapes_with c r ≡ s ∷ (t ∷ ss) → ⊥
two_in (in_line own) r s t ss e = cc
two_in (callable own call) r s t ss e = cc

pub one_at_most : (i : PlainIr) (s t : Shape) (ss : List Shape) → op_shapes i ≡ s ∷ (t ∷ ss) → ⊥
one_at_most (binary_op op ty mode to a aty b bty) s t ss e =
    let r = binary_shape op ty mode aty bty in two_in (shape_code r) r s t ss e
one_at_most (unary_op op ty mode to a) s t ss e = let r = unary_shape op ty mode ty in two_in (shape_code r) r s t ss e
one_at_most (conversion to ty mode a aty) s t ss e =
    let r = conversion_shape ty mode aty in two_in (shape_code r) r s t ss e
one_at_most i s t ss e = cc

-- ---- rows

-- where all of some shapes may stand once, each row is that of its own words, a routine with one word more, and its calls
pub row_is : (s : Shape) (u : ℕ) → IsCallable s
    → op_row s u ≡ least_row (shape_most s) (shape_most s + 1) (shape_call s) u
row_is s u e = ap (λ c. code_row c u) e

total_same : (f g : Shape → ℕ) (ss : List Shape) → AllByRecursion (λ s. f s ≡ g s) ss → total f ss ≡ total g ss
total_same f g [] h = refl
total_same f g (s ∷ ss) h = let a = h.0 in let b = total_same f g ss h.1 in omega (arith, a, b)

all_once : (P : Shape → Type 0) (ss : List Shape) → AllByRecursion P ss → AllByRecursion P (shapes_of same_shape ss)
all_once P [] h = tt
all_once P (s ∷ ss) h = by_place (has same_shape ss s) (all_once P ss h.1) where
  by_place : (there : Bool) → AllByRecursion P (shapes_of same_shape ss)
      → AllByRecursion P (if there then shapes_of same_shape ss else s ∷ shapes_of same_shape ss)
  by_place true r = r
  by_place false r = (h.0, r)

each : (P Q : Shape → Type 0) → ((s : Shape) → P s → Q s) → (ss : List Shape) → AllByRecursion P ss → AllByRecursion Q ss
each P Q f [] h = tt
each P Q f (s ∷ ss) h = (f s h.0, each P Q f ss h.1)

pub rows_are : (ss : List Shape) → AllByRecursion IsCallable ss
    → by_shapes same_shape op_row ss
    ≡ by_shapes same_shape (λ s u. least_row (shape_most s) (shape_most s + 1) (shape_call s) u) ss
rows_are ss h =
    total_same (λ s. op_row s (uses same_shape ss s))
    (λ s. least_row (shape_most s) (shape_most s + 1) (shape_call s) (uses same_shape ss s)) (shapes_of same_shape ss)
    (each IsCallable (λ s. op_row s (uses same_shape ss s)
    ≡ least_row (shape_most s) (shape_most s + 1) (shape_call s) (uses same_shape ss s))
    (λ s e. row_is s (uses same_shape ss s) e) (shapes_of same_shape ss) (all_once IsCallable ss h))

-- the shapes of operations may all stand once
joined_all : (ss ts : List Shape) → AllByRecursion IsCallable ss → AllByRecursion IsCallable ts
    → AllByRecursion IsCallable (ss ++ ts)
joined_all [] ts h k = k
joined_all (s ∷ ss) ts h k = (h.0, joined_all ss ts h.1 k)

own_callable : (i : PlainIr) → AllByRecursion IsCallable (op_shapes i)
own_callable i = by_shapes_of (op_shapes i) refl where
  by_shapes_of : (ss : List Shape) → op_shapes i ≡ ss → AllByRecursion IsCallable ss
  by_shapes_of [] e = tt
  by_shapes_of (s ∷ []) e = (is_callable i s e, tt)
  by_shapes_of (s ∷ (t ∷ ss)) e = absurd (one_at_most i s t ss e)

pub all_callable : (code : List PlainIr) → AllByRecursion IsCallable (all_made op_shapes code)
all_callable [] = tt
all_callable (i ∷ code) = joined_all (op_shapes i) (all_made op_shapes code) (own_callable i) (all_callable code)

-- ---- calls

pub wanted_few : (need : Need) (i : PlainIr) (s : Shape) → op_shapes i ≡ s ∷ [] → result_wanted need i ≤ result_bytes i
wanted_few need (binary_op op ty mode to a aty b bty) s e = omega arith
wanted_few need (unary_op op ty mode to a) s e = omega arith
wanted_few need (conversion to ty mode a aty) s e = omega arith
wanted_few need i s e = absurd cc

-- a call of the routine with a label, of whose result so many bytes are needed
pub call_within : CallsHave → (at : Temp → Location) (l n : ℕ) (i : PlainIr) (s : Shape) → HasTypeBytes i → op_shapes i ≡ s ∷ []
    → n ≤ result_bytes i → code_words (called_code at l n i) ≤ shape_call s
call_within calls at l n (binary_op op ty mode to a aty b bty) s h e few =
    let i = binary_op op ty mode to a aty b bty in
    called_most i s (shape_most s) (shape_call s) (call_with_two (at a) (at b) a.bytes b.bytes l) (at to) n h e (is_callable i s e)
    (calls.two (at a) (at b) a.bytes b.bytes l) few
call_within calls at l n (unary_op op ty mode to a) s h e few =
    let i = unary_op op ty mode to a in
    called_most i s (shape_most s) (shape_call s) (call_with_one (at a) a.bytes l) (at to) n h e (is_callable i s e)
    (calls.one (at a) a.bytes l) few
call_within calls at l n (conversion to ty mode a aty) s h e few =
    let i = conversion to ty mode a aty in
    called_most i s (shape_most s) (shape_call s) (call_with_one (at a) a.bytes l) (at to) n h e (is_callable i s e)
    (calls.one (at a) a.bytes l) few
call_within calls at l n i s h e few = absurd cc

-- ---- routines

top_is : (n : ℕ) → 1 ≤ n → suc (n - 1) ≤ n
top_is n some = omega (arith, some)

-- that of a quotient or a remainder
division_most : (op : BinOp) (ty aty bty : PlainType) (signed : Bool) (l : ℕ) → 1 ≤ scalar_size aty
    → code_words (routine_with l (division_body (family_of op) signed (scalar_size aty))) ≤ binary_words op ty aty bty + 1
division_most Div ty aty bty signed l some =
    let top = scalar_size aty - 1 in
    let code = routine_with l (division_body (family_of Div) signed (scalar_size aty)) in
    quotient_within (widest (ty ∷ aty ∷ bty ∷ [])) top (code_words code)
    (let x = top_is (scalar_size aty) some in omega (arith, x))
    (quotient_routine_words false signed first_place answer_place second_place top l)
division_most Rem ty aty bty signed l some =
    let top = scalar_size aty - 1 in
    let code = routine_with l (division_body (family_of Rem) signed (scalar_size aty)) in
    quotient_within (widest (ty ∷ aty ∷ bty ∷ [])) top (code_words code)
    (let x = top_is (scalar_size aty) some in omega (arith, x))
    (quotient_routine_words true signed first_place answer_place second_place top l)
division_most op ty aty bty signed l some = omega arith

own_body : (x : Bool) (a b : Option (List AsmItem)) (l most : ℕ) → x ≡ true → code_words (routine_with l a) ≤ most
    → code_words (routine_with l (body_by x a b)) ≤ most
own_body x a b l most e h = rw e h

other_body : (x : Bool) (a b : Option (List AsmItem)) (l most : ℕ) → x ≡ false → code_words (routine_with l b) ≤ most
    → code_words (routine_with l (body_by x a b)) ≤ most
other_body x a b l most e h = rw e h

left_home : (family : Family) (slots : ℕ) (to a b : Temp) (ty aty bty : PlainType) → IsBinary family slots to a b ty aty bty
    → 1 ≤ a.bytes
left_home (Combined op) slots to a b ty aty bty i = i.left.some
left_home (Compared r exchanged) slots to a b ty aty bty i = i.left.some
left_home Multiplied slots to a b ty aty bty i = i.left.some
left_home (Shifted up) slots to a b ty aty bty i = i.0.left.some
left_home (Divided r) slots to a b ty aty bty i = i.0.left.some

module _ (laws : RoutineLaws) (p : PlainProgram) (results : ℕ → ℕ) (f : ℕ) (called : List ℕ) (slots : ℕ) where
  routine_few : (l : ℕ) (i : PlainIr) (s : Shape) → IsCovered p results f called slots i → HasTypeBytes i → op_shapes i ≡ s ∷ []
      → code_words (routine_for l i) ≤ op_words i + 1
  routine_few l (binary_op op ty mode to a aty b bty) s (inl i) h e =
      other_body (is_fixed aty || is_fixed bty) (Some (binary_body op ty aty bty mode))
      (division_body (family_of op) (is_signed aty) (scalar_size aty)) l (binary_words op ty aty bty + 1)
      (no_fixed (family_of op) slots to a b ty aty bty i)
      (division_most op ty aty bty (is_signed aty) l
      (let x = left_home (family_of op) slots to a b ty aty bty i in let y = h.1 in omega (arith, x, y)))
  routine_few l (binary_op op ty mode to a aty b bty) s (inr (inl i)) h e =
      own_body (is_fixed aty || is_fixed bty) (Some (binary_body op ty aty bty mode))
      (division_body (family_of op) (is_signed aty) (scalar_size aty)) l (binary_words op ty aty bty + 1)
      (either_fixed aty bty i.types.fixed)
      (let x = laws.binary op ty aty bty mode l i.types in omega (arith, x))
  routine_few l (binary_op op ty mode to a aty b bty) s (inr (inr i)) h e =
      other_body (is_fixed aty || is_fixed bty) (Some (binary_body op ty aty bty mode))
      (division_body (family_of op) (is_signed aty) (scalar_size aty)) l (binary_words op ty aty bty + 1)
      (pointers_only op ty aty bty i.pointer i.types).0
      (division_most op ty aty bty (is_signed aty) l (let x = i.left.some in let y = i.left_bytes in omega (arith, x, y)))
  routine_few l (unary_op op ty mode to a) s (inl i) h e =
      other_body (is_fixed ty) (Some (unary_body op ty mode)) None l (op_words (unary_op op ty mode to a) + 1)
      (no_fixed_operand slots to a ty i) (omega arith)
  routine_few l (unary_op op ty mode to a) s (inr i) h e =
      own_body (is_fixed ty) (Some (unary_body op ty mode)) None l (op_words (unary_op op ty mode to a) + 1)
      (type_fixed ty i.types.fixed) (let x = laws.unary op ty mode l i.types in omega (arith, x))
  routine_few l (conversion to ty mode a aty) s (inl i) h e =
      other_body (is_fixed ty || is_fixed aty) (Some (conversion_body ty aty mode)) None l
      (op_words (conversion to ty mode a aty) + 1) (none_converted slots to a ty aty i) (omega arith)
  routine_few l (conversion to ty mode a aty) s (inr (inl i)) h e =
      own_body (is_fixed ty || is_fixed aty) (Some (conversion_body ty aty mode)) None l
      (op_words (conversion to ty mode a aty) + 1) (either_fixed ty aty i.types.fixed)
      (let x = laws.conversion ty aty mode l i.types in omega (arith, x))
  routine_few l (conversion to ty mode a aty) s (inr (inr i)) h e =
      other_body (is_fixed ty || is_fixed aty) (Some (conversion_body ty aty mode)) None l
      (op_words (conversion to ty mode a aty) + 1) (pointer_converted ty aty i.pointer i.types).no_fixed (omega arith)
  routine_few l i s c h e = absurd cc

  -- the routine of an operation has at most one word more than its shape may have at a use
  pub routine_within : (l : ℕ) (i : PlainIr) (s : Shape) → IsCovered p results f called slots i → HasTypeBytes i
      → op_shapes i ≡ s ∷ [] → code_words (routine_for l i) ≤ shape_most s + 1
  routine_within l i s c h e =
      routine_most i s (shape_most s) (shape_call s) (code_words (routine_for l i)) h e (is_callable i s e) (routine_few l i s c h e)

-- ---- code of its own

module _ (laws : WordLaws) (p : PlainProgram) (results : ℕ → ℕ) (f : ℕ) (called : List ℕ) (k : Linkage)
    (width_is : (k.homes.width ≡ 2) ⊎ (k.homes.width ≡ 4)) where
  pub own_within : (told telling : Option Told) (known : Option RightNumber) (need : Need) (i : PlainIr) (s : Shape)
      → IsCovered p results f called k.slots i → IsInPlace i → HasTypeBytes i → op_shapes i ≡ s ∷ []
      → code_words (own_code p (home k.homes) k told telling known need i) ≤ shape_most s
  own_within told telling known need i s h q b e =
      shape_own_most laws p results f called k width_is told telling known need (kept_need need i) i s (shape_most s) (shape_call s)
      h q b e (is_callable i s e)
