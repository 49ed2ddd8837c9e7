-- What the uses of a shape count is a row.
use Rattle.std.proofs.Common.{◌≡◌, ℕ, ◌+◌, ◌*◌, ◌≤◌, Bool, true, false, arith}
use Rattle.std.specs.Prelude.{⊤, List}
use Rattle.std.proofs.lemmas.Nat.{mul-le}
use Rattle.ec_fx.specs.declared.numbers.Mode.{Mode}
use Rattle.ec_core.specs.declared.expressions.BinOp.{BinOp}
use Rattle.ec_core.specs.declared.expressions.BinOp.TheVariants.{Add, Sub, Mul, Div, Rem, Shl, Shr, And, Or, Xor, Lt, Gt, Le, Ge, Eq, Ne}
use Rattle.ec_core.specs.Plain.{PlainType}
use Rattle.ec_shapes.specs.Laws.{IsRow}
use Rattle.ec_shapes.proofs.Rows.{least-rows-are-rows}
use Rattle.ec_core_shapes.specs.Shapes.{Form, unary_form, binary_form, conversion_form, compound_form, step_form}
use Rattle.ec_ir_shapes.specs.Costs.{Code, in_line, callable, code_row, integer_code, exact_code, binary_code, unary_code, conversion_code}
use Rattle.ec_ir_shapes.specs.Costs.{form_code, shape_code, CodesAreRows}

-- a call is no longer than the code
abbrev IsShorter : Code → Type 0
IsShorter (in_line own) = ⊤
IsShorter (callable own call) = call ≤ own

integer_shorter : (op : BinOp) (b : ℕ) → IsShorter (integer_code op b)
integer_shorter Add b = tt
integer_shorter Sub b = tt
integer_shorter Mul b = tt
integer_shorter Div b = omega arith
integer_shorter Rem b = omega arith
integer_shorter Shl b = tt
integer_shorter Shr b = tt
integer_shorter And b = tt
integer_shorter Or b = tt
integer_shorter Xor b = tt
integer_shorter Lt b = tt
integer_shorter Gt b = tt
integer_shorter Le b = tt
integer_shorter Ge b = tt
integer_shorter Eq b = tt
integer_shorter Ne b = tt

exact_shorter : (op : BinOp) (b : ℕ) → IsShorter (exact_code op b)
exact_shorter Add b = tt
exact_shorter Sub b = tt
exact_shorter Mul b = tt
exact_shorter Div b = tt
exact_shorter Rem b = tt
exact_shorter Shl b = tt
exact_shorter Shr b = tt
exact_shorter And b = tt
exact_shorter Or b = tt
exact_shorter Xor b = tt
exact_shorter Lt b = tt
exact_shorter Gt b = tt
exact_shorter Le b = tt
exact_shorter Ge b = tt
exact_shorter Eq b = tt
exact_shorter Ne b = tt

binary_shorter : (op : BinOp) (e x y : Bool) (b : ℕ) → IsShorter (binary_code op e x y b)
binary_shorter op true x y b = exact_shorter op b
binary_shorter op false true y b = omega arith
binary_shorter op false false true b = tt
binary_shorter op false false false b = integer_shorter op b

unary_shorter : (x : Bool) (b : ℕ) → IsShorter (unary_code x b)
unary_shorter true b = omega arith
unary_shorter false b = tt

conversion_shorter : (x y z : Bool) (n b : ℕ) → IsShorter (conversion_code x y z n b)
conversion_shorter true y true n b = tt
conversion_shorter true y false n b = omega arith
conversion_shorter false true z n b = tt
conversion_shorter false false z n b = tt

form_shorter : (f : Form) (mode : Mode) (ty : PlainType) (tys : List PlainType) (b : ℕ) → IsShorter (form_code f mode ty tys b)
form_shorter (unary_form op) mode ty tys b = unary_shorter _ b
form_shorter (binary_form op) mode ty tys b = binary_shorter op _ _ _ b
form_shorter conversion_form mode ty tys b = conversion_shorter _ _ _ _ b
form_shorter (compound_form op own) mode ty tys b = tt
form_shorter (step_form up) mode ty tys b = tt

times_sum : (a b n : ℕ) → (a + b) * n ≡ a * n + b * n
times_sum a b n = omega arith

code_is_row : (c : Code) → IsShorter c → IsRow (code_row c)
code_is_row (in_line own) h = record {
  none = omega arith;
  grows = λ a b q. mul-le a own b own q (omega arith);
  joins = λ a b. let e = times_sum a b own in omega (arith, e);
}
code_is_row (callable own call) h = least-rows-are-rows own (own + 1) call h

pub codes_are_rows : CodesAreRows
codes_are_rows s = code_is_row (shape_code s) (form_shorter s.form s.mode s.ty s.operands s.bytes)
