-- The operations that a part with a shape is made of, by their shapes, and that its row pays for them.
use Rattle.std.proofs.Common.{◌≡◌, ℕ, ◌+◌, ◌*◌, ◌≤◌, Bool, true, false, ◌||◌, List, [], ◌∷◌, ap, arith}
use Rattle.std.specs.Prelude.{nat_le, if◌then◌else◌}
use Rattle.std.proofs.lemmas.Bool.{lt-leb}
use Rattle.ec_fx.specs.declared.numbers.Mode.{Mode}
use Rattle.ec_core.specs.declared.expressions.BinOp.{BinOp}
use Rattle.ec_core.specs.declared.expressions.BinOp.TheVariants.{Add, Sub, Mul, Div, Rem, Shl, Shr, And, Or, Xor, Lt, Gt, Le, Ge, Eq, Ne}
use Rattle.ec_core.specs.ArithmeticTypes.{type_of}
use Rattle.ec_core.specs.Layout.{scalar_size}
use Rattle.ec_core.specs.Operators.{number_type, OperationTypes, step_operator}
use Rattle.ec_core.specs.Plain.{PlainType, pointer}
use Rattle.ec_core.specs.Typing.{int}
use Rattle.ec_core.specs.Words.{widest, operation_words}
use Rattle.ec_shapes.specs.Laws.{IsPaid}
use Rattle.ec_shapes.specs.Shapes.{total, least_row}
use Rattle.ec_core_shapes.specs.Shapes.{Form, compound_form, step_form, Shape, unary_shape}
use Rattle.ec_core_shapes.specs.Shapes.{binary_shape, conversion_shape, shape_row}
use Rattle.ec_ir_shapes.specs.Costs.{Code, integer_code, binary_code, unary_code, conversion_code, shape_code, op_row}
use Rattle.ec_ir_shapes.specs.Costs.{is_fixed, is_pointer, are_exact, any_fixed, any_pointer, any_same}
use Rattle.ec_lower_code.specs.Code.{update_types}
use Rattle.ec_lower_shapes.proofs.Bounds.{own_of, once_of, each_of, paid, none, and_more, exact_cost}

-- ---- what parts are made of

abbrev pub update_made : BinOp → OperationTypes → (own mode : Mode) → (ty right : PlainType) → List Shape
update_made op ts own mode ty right =
    conversion_shape (type_of ts.left) own ty ∷ conversion_shape (type_of ts.right) own right
    ∷ binary_shape op (type_of ts.result) own (type_of ts.left) (type_of ts.right) ∷ conversion_shape ty mode (type_of ts.result) ∷ []

abbrev pub change_made : BinOp → (own mode : Mode) → (ty right : PlainType) → List Shape
change_made op own mode (pointer space const to) right =
    binary_shape op (pointer space const to) own (pointer space const to) right ∷ []
change_made op own mode ty right = update_made op (update_types op (number_type ty) (number_type right)) own mode ty right

-- a step behind its operand has a conversion more
abbrev pub step_made : Bool → Mode → PlainType → List Shape
step_made up mode (pointer space const to) =
    binary_shape (step_operator up) (pointer space const to) mode (pointer space const to) int ∷ []
step_made up mode ty =
    conversion_shape ty mode (type_of (update_types (step_operator up) (number_type ty) (number_type int)).left)
    ∷ update_made (step_operator up) (update_types (step_operator up) (number_type ty) (number_type int)) mode mode ty int

abbrev pub compound_made : BinOp → (own mode : Mode) → PlainType → List PlainType → List Shape
compound_made op own mode ty (right ∷ []) = change_made op own mode ty right
compound_made op own mode ty rights = []

abbrev pub form_made : Form → Shape → List Shape
form_made (compound_form op own) s = compound_made op own s.mode s.ty s.operands
form_made (step_form up) s = step_made up s.mode s.ty
form_made f s = s ∷ []

abbrev pub made : Shape → List Shape
made s = form_made s.form s

-- a load, a store and a copy, in an object or where a pointer of at most so many bytes leads to
abbrev pub place_words : ℕ → ℕ
place_words b = if nat_le b 1 then 10 * b + 2 else 15 + 14 * b

abbrev pub form_own : Form → ℕ → ℕ
form_own (compound_form op own) b = place_words b
form_own (step_form up) b = place_words b + 10
form_own f b = 0

abbrev pub own : Shape → ℕ
own s = form_own s.form s.bytes

abbrev pub Pays : Shape → Type 0
Pays s = IsPaid made own op_row shape_row s

pub one_place : (b : ℕ) → b ≡ 1 → place_words b ≡ 12
one_place b e = ap place_words e

pub more_place : (b : ℕ) → 2 ≤ b → place_words b ≡ 15 + 14 * b
more_place b h = ap (λ c. if c then 10 * b + 2 else 15 + 14 * b) (lt-leb b 1 (omega (arith, h)))

-- ---- one operation for each

alone_paid : (s : Shape) (words routine call u : ℕ) → own_of (shape_code s) ≤ words → once_of (shape_code s) ≤ routine
    → each_of (shape_code s) ≤ call → u * 0 + total (λ k. op_row k u) (s ∷ []) ≤ least_row words routine call u
alone_paid s words routine call u a o e =
    paid (s ∷ []) (own_of (shape_code s) + 0) (once_of (shape_code s) + 0) (each_of (shape_code s) + 0) 0 words routine call u
    (and_more s [] _ _ _ 0 0 0 (record { own_most = omega arith; once_most = omega arith; each_most = omega arith }) none)
    (omega (arith, a)) (omega (arith, o)) (omega (arith, e))

abbrev IsWithin : Code → ℕ → Type 0
IsWithin c b = (own_of c ≤ operation_words b) × (once_of c ≤ operation_words b + 20) × (each_of c ≤ 60 + 20 * b)

integer_within : (op : BinOp) (b : ℕ) → 1 ≤ b → b ≤ 8 → IsWithin (integer_code op b) b
integer_within Add b l m = (omega arith, omega arith, omega arith)
integer_within Sub b l m = (omega arith, omega arith, omega arith)
integer_within Mul b l m = (omega arith, omega arith, omega arith)
integer_within Div b l m = (omega arith, omega arith, omega arith)
integer_within Rem b l m = (omega arith, omega arith, omega arith)
integer_within Shl b l m = (omega arith, omega arith, omega arith)
integer_within Shr b l m = (omega arith, omega arith, omega arith)
integer_within And b l m = (omega arith, omega arith, omega arith)
integer_within Or b l m = (omega arith, omega arith, omega arith)
integer_within Xor b l m = (omega arith, omega arith, omega arith)
integer_within Lt b l m = (omega arith, omega arith, omega arith)
integer_within Gt b l m = (omega arith, omega arith, omega arith)
integer_within Le b l m = (omega arith, omega arith, omega arith)
integer_within Ge b l m = (omega arith, omega arith, omega arith)
integer_within Eq b l m = (omega arith, omega arith, omega arith)
integer_within Ne b l m = (omega arith, omega arith, omega arith)

binary_within : (op : BinOp) (e x y : Bool) (b : ℕ) → 1 ≤ b → b ≤ 8 → IsWithin (binary_code op e x y b) b
binary_within op true x y b l m =
    let c = exact_cost op b b l (omega arith) in
    let a = c.own_most in let o = c.once_most in let f = c.each_most in
    (omega (arith, a), omega (arith, o), omega (arith, f))
binary_within op false true y b l m = (omega arith, omega arith, omega arith)
binary_within op false false true b l m = (omega (arith, l), omega arith, omega (arith, l))
binary_within op false false false b l m = integer_within op b l m

unary_within : (x : Bool) (b : ℕ) → 1 ≤ b → b ≤ 8 → IsWithin (unary_code x b) b
unary_within true b l m = (omega arith, omega arith, omega arith)
unary_within false b l m = (omega arith, omega arith, omega arith)

conversion_within : (x y z : Bool) (n b : ℕ) → n ≤ b → IsWithin (conversion_code x y z n b) b
conversion_within true y true n b l = (omega arith, omega arith, omega arith)
conversion_within true y false n b l = (omega arith, omega arith, omega arith)
conversion_within false true z n b l = (omega arith, omega arith, omega arith)
conversion_within false false z n b l = (omega (arith, l), omega arith, omega (arith, l))

pub unary_paid : (op : _) (ty a : PlainType) (mode : Mode) → scalar_size ty ≤ 8 → scalar_size a ≤ 8 → Pays (unary_shape op ty mode a)
unary_paid op ty a mode x y u =
    let w = unary_within (is_fixed ty) (widest (ty ∷ a ∷ [])) (omega arith) (omega (arith, x, y)) in
    alone_paid (unary_shape op ty mode a) _ _ _ u w.0 w.1 w.2

pub binary_paid : (op : BinOp) (ty a b : PlainType) (mode : Mode) → scalar_size ty ≤ 8 → scalar_size a ≤ 8 → scalar_size b ≤ 8
    → Pays (binary_shape op ty mode a b)
binary_paid op ty a b mode x y z u =
    let w = binary_within op (are_exact op mode ty (a ∷ b ∷ [])) (is_fixed ty || any_fixed (a ∷ b ∷ [])) (is_pointer ty || any_pointer (a ∷ b ∷ []))
    (widest (ty ∷ a ∷ b ∷ [])) (omega arith) (omega (arith, x, y, z)) in
    alone_paid (binary_shape op ty mode a b) _ _ _ u w.0 w.1 w.2

pub conversion_paid : (ty a : PlainType) (mode : Mode) → Pays (conversion_shape ty mode a)
conversion_paid ty a mode u =
    let w = conversion_within (is_fixed ty || any_fixed (a ∷ [])) (is_pointer ty || any_pointer (a ∷ [])) (any_same ty (a ∷ []))
    (scalar_size ty) (widest (ty ∷ a ∷ [])) (omega arith) in
    alone_paid (conversion_shape ty mode a) _ _ _ u w.0 w.1 w.2
