-- The words of calls of routines, and of routines, by the numbers that operations count by shapes.
use Rattle.std.proofs.Common.{◌≡◌, ℕ, suc, ◌+◌, ◌*◌, ◌≤◌, Bool, true, false, List, [], ◌∷◌, ◌++◌, ap, ◌∙◌, subst, arith}
use Rattle.std.specs.Prelude.{⊤, ◌||◌}
use Rattle.ec_isa.specs.declared.instructions.Instr.TheVariants.{Ret}
use Rattle.ec_asm.specs.declared.items.AsmItem.{AsmItem}
use Rattle.ec_asm.specs.declared.items.AsmItem.TheVariants.{Plain, Label}
use Rattle.ec_asm.specs.declared.pieces.Location.{Location}
use Rattle.ec_asm.specs.Items.{code_words}
use Rattle.ec_asm.specs.Pieces.{copy_code}
use Rattle.ec_core.specs.declared.expressions.BinOp.{BinOp}
use Rattle.ec_core.specs.declared.expressions.BinOp.TheVariants.{Add, Sub, Div, Rem}
use Rattle.ec_core.specs.Layout.{scalar_size}
use Rattle.ec_core.specs.Plain.{PlainType}
use Rattle.ec_core.specs.Words.{widest, operation_words}
use Rattle.ec_core_shapes.specs.Shapes.{Shape, unary_shape, binary_shape, conversion_shape}
use Rattle.ec_fx.specs.declared.numbers.Mode.{Mode}
use Rattle.ec_ir.specs.declared.operations.Temp.{Temp}
use Rattle.ec_ir.specs.Costs.{op_words}
use Rattle.ec_ir.specs.Operations.{PlainIr, constant, copy, address, field, load_at, store_at, load_object}
use Rattle.ec_ir.specs.Operations.{store_object, binary_op, unary_op, conversion, label, jump, branch_zero}
use Rattle.ec_ir.specs.Operations.{call_function, return_from, port_in, port_out, load_cell, store_cell, cell_port}
use Rattle.ec_ir_shapes.specs.Costs.{Code, in_line, callable, integer_code, exact_code, shape_code, shapes_with, op_shapes}
use Rattle.ec_ir_shapes.specs.Costs.{are_exact, any_fixed, any_pointer, any_same, is_fixed, is_pointer}
use Rattle.ec_ir_shapes.specs.Costs.{binary_code, unary_code, conversion_code}
use Rattle.ec_routines.specs.Routines.{routine_code}
use Rattle.ec_select_quotients.specs.Signs.{quotient_code}
use Rattle.ec_select_operations.specs.Code.{answer_code}
use Rattle.ec_select.proofs.FixedItems.{answer_words}
use Rattle.ec_select.proofs.OwnWords.{wide_binary, wide_conversion}
use Rattle.ec_select.proofs.UseWords.{HasTypeBytes}
use Rattle.ec_select.proofs.Words.{joined_words, copy_words_most, quotient_words}

-- ---- shapes that may stand once: so many words are within their own code, and so many within a call

abbrev pub AreWithin : Code → (most further : ℕ) → Type 0
AreWithin (in_line own) most further = ⊤
AreWithin (callable own call) most further = (most ≤ own) × (further ≤ call)

exact_within : (op : BinOp) (w : ℕ) → AreWithin (exact_code op w) (operation_words w) (2 + 12 * w)
exact_within Add w = tt
exact_within Sub w = tt
exact_within op w = tt

integer_within : (op : BinOp) (w : ℕ) → AreWithin (integer_code op w) (operation_words w) (2 + 12 * w)
integer_within Div w = (omega arith, omega arith)
integer_within Rem w = (omega arith, omega arith)
integer_within op w = tt

binary_within : (op : BinOp) (exact on_fixed on_pointers : Bool) (w : ℕ)
    → AreWithin (binary_code op exact on_fixed on_pointers w) (operation_words w) (2 + 12 * w)
binary_within op true f q w = exact_within op w
binary_within op false true q w = (omega arith, omega arith)
binary_within op false false true w = tt
binary_within op false false false w = integer_within op w

unary_within : (on_fixed : Bool) (w : ℕ) → AreWithin (unary_code on_fixed w) (60 + 40 * w) (2 + 8 * w)
unary_within true w = (omega arith, omega arith)
unary_within false w = tt

conversion_within : (on_fixed on_pointers same : Bool) (bytes w : ℕ)
    → AreWithin (conversion_code on_fixed on_pointers same bytes w) (100 + 40 * w) (2 + 8 * w)
conversion_within true q true bytes w = tt
conversion_within true q false bytes w = (omega arith, omega arith)
conversion_within false true same bytes w = tt
conversion_within false false same bytes w = tt

pub of_shape : (c : Code) (r s : Shape) → shapes_with c r ≡ s ∷ [] → r ≡ s
of_shape (in_line own) r s e = absurd cc
of_shape (callable own call) r s e = cc

-- what is within the code of a shape that an operation has
within_shape : (r s : Shape) (own call most further : ℕ) → shapes_with (shape_code r) r ≡ s ∷ [] → shape_code s ≡ callable own call
    → AreWithin (shape_code r) most further → (most ≤ own) × (further ≤ call)
within_shape r s own call most further e c h =
    let same : shape_code r ≡ callable own call = ap shape_code (of_shape (shape_code r) r s e) ∙ c in
    subst (λ x. AreWithin x most further) same h

-- ---- operations

-- the bytes of the operands of an operation that may call a routine, and of its result
abbrev pub operand_bytes : PlainIr → ℕ
operand_bytes (binary_op op ty mode to a aty b bty) = a.bytes + b.bytes
operand_bytes (unary_op op ty mode to a) = a.bytes
operand_bytes (conversion to ty mode a aty) = a.bytes
operand_bytes i = 0

abbrev pub result_bytes : PlainIr → ℕ
result_bytes (binary_op op ty mode to a aty b bty) = to.bytes
result_bytes (unary_op op ty mode to a) = to.bytes
result_bytes (conversion to ty mode a aty) = to.bytes
result_bytes i = 0

-- code by itself has at most the own words of the shape, and a call whose result is brought to its place at most those of a call
both_within : (i : PlainIr) (s : Shape) (own call : ℕ) → HasTypeBytes i → op_shapes i ≡ s ∷ [] → shape_code s ≡ callable own call
    → (op_words i ≤ own) × (2 + 4 * operand_bytes i + 4 * result_bytes i ≤ call)
both_within (binary_op op ty mode to a aty b bty) s own call h e c =
    let w = widest (ty ∷ aty ∷ bty ∷ []) in
    let x = within_shape (binary_shape op ty mode aty bty) s own call (operation_words w) (2 + 12 * w) e c
    (binary_within op (are_exact op mode ty (aty ∷ bty ∷ [])) (is_fixed ty || any_fixed (aty ∷ bty ∷ []))
    (is_pointer ty || any_pointer (aty ∷ bty ∷ [])) w) in
    let y = wide_binary op ty aty bty in
    let u = x.0 in let v = x.1 in let i = h.0 in let j = h.1 in let k = h.2 in
    (omega (arith, u, y), omega (arith, v, i, j, k))
both_within (unary_op op ty mode to a) s own call h e c =
    let w = widest (ty ∷ ty ∷ []) in
    let x = within_shape (unary_shape op ty mode ty) s own call (60 + 40 * w) (2 + 8 * w) e c (unary_within (is_fixed ty) w) in
    let u = x.0 in let v = x.1 in let i = h.0 in let j = h.1 in
    (omega (arith, u), omega (arith, v, i, j))
both_within (conversion to ty mode a aty) s own call h e c =
    let w = widest (ty ∷ aty ∷ []) in
    let x = within_shape (conversion_shape ty mode aty) s own call (100 + 40 * w) (2 + 8 * w) e c
    (conversion_within (is_fixed ty || any_fixed (aty ∷ [])) (is_pointer ty || any_pointer (aty ∷ [])) (any_same ty (aty ∷ []))
    (scalar_size ty) w) in
    let y = wide_conversion ty aty in
    let u = x.0 in let v = x.1 in let i = h.0 in let j = h.1 in
    (omega (arith, u, y), omega (arith, v, i, j))
both_within (constant t n) s own call h e c = absurd cc
both_within (copy to from) s own call h e c = absurd cc
both_within (address t o offset) s own call h e c = absurd cc
both_within (field ptr space offset) s own call h e c = absurd cc
both_within (load_at to ptr space) s own call h e c = absurd cc
both_within (store_at ptr space from) s own call h e c = absurd cc
both_within (load_object t o offset) s own call h e c = absurd cc
both_within (store_object o offset t) s own call h e c = absurd cc
both_within (label l) s own call h e c = absurd cc
both_within (jump l) s own call h e c = absurd cc
both_within (branch_zero t l) s own call h e c = absurd cc
both_within (call_function g to) s own call h e c = absurd cc
both_within (return_from from) s own call h e c = absurd cc
both_within (port_in to port index width) s own call h e c = absurd cc
both_within (port_out from port index width) s own call h e c = absurd cc
both_within (load_cell to cell) s own call h e c = absurd cc
both_within (store_cell cell from) s own call h e c = absurd cc
both_within (cell_port read t cell offset index width) s own call h e c = absurd cc

-- A call with at most four words for each byte of the operands and two more, whose result is brought to its place
pub called_most : (i : PlainIr) (s : Shape) (own call : ℕ) (code : List AsmItem) (to : Location) (n : ℕ) → HasTypeBytes i
    → op_shapes i ≡ s ∷ [] → shape_code s ≡ callable own call → code_words code ≤ 4 * operand_bytes i + 2 → n ≤ result_bytes i
    → code_words (answer_code code to n) ≤ call
called_most i s own call code to n h e c few l =
    let x = (both_within i s own call h e c).1 in
    answer_words code to n (result_bytes i) call l
    (sums (code_words code) (operand_bytes i) (result_bytes i) call few x)
  where
    sums : (w a b call : ℕ) → w ≤ 4 * a + 2 → 2 + 4 * a + 4 * b ≤ call → w + 4 * b ≤ call
    sums w a b call few x = omega (arith, few, x)

-- A routine with at most one word more than the operation may have by itself
pub routine_most : (i : PlainIr) (s : Shape) (own call words : ℕ) → HasTypeBytes i → op_shapes i ≡ s ∷ []
    → shape_code s ≡ callable own call → words ≤ op_words i + 1 → words ≤ own + 1
routine_most i s own call words h e c few = sums (op_words i) own words (both_within i s own call h e c).0 few where
  sums : (most own words : ℕ) → most ≤ own → words ≤ most + 1 → words ≤ own + 1
  sums most own words x few = omega (arith, x, few)

-- ---- the routine of a quotient or a remainder of integers

pub quotient_routine_words : (r signed : Bool) (p to q : Location) (top l : ℕ)
    → code_words (routine_code l (copy_code p to (suc top) ++ quotient_code r signed to q top)) ≤ 35 * suc top + 18
quotient_routine_words r signed p to q top l =
    let body = copy_code p to (suc top) ++ quotient_code r signed to q top in
    let x = copy_words_most p to (suc top) in
    let y = quotient_words r signed to q top in
    let a = joined_words (copy_code p to (suc top)) (quotient_code r signed to q top) in
    let b = joined_words body (Plain Ret ∷ []) in
    let c = joined_words (Label l ∷ []) (body ++ Plain Ret ∷ []) in
    omega (arith, x, y, a, b, c)

-- of operands with at least so many bytes
pub quotient_within : (w top words : ℕ) → suc top ≤ w → words ≤ 35 * suc top + 18 → words ≤ operation_words w + 1
quotient_within w top words l few = omega (arith, l, few)

pub quotient_most : (ty aty bty : PlainType) (mode : Mode) (to a b : Temp) (top words : ℕ) → a.bytes ≡ scalar_size aty
    → suc top ≤ a.bytes → words ≤ 35 * suc top + 18 → words ≤ op_words (binary_op Div ty mode to a aty b bty) + 1
quotient_most ty aty bty mode to a b top words h l few =
    quotient_within (widest (ty ∷ aty ∷ bty ∷ [])) top words (omega (arith, h, l)) few

pub remainder_most : (ty aty bty : PlainType) (mode : Mode) (to a b : Temp) (top words : ℕ) → a.bytes ≡ scalar_size aty
    → suc top ≤ a.bytes → words ≤ 35 * suc top + 18 → words ≤ op_words (binary_op Rem ty mode to a aty b bty) + 1
remainder_most ty aty bty mode to a b top words h l few =
    quotient_within (widest (ty ∷ aty ∷ bty ∷ [])) top words (omega (arith, h, l)) few
