-- Shapes of operators and conversions: what uses have in common that may share code.
use Rattle.std.specs.Prelude.{ℕ, ◌+◌, ◌*◌, ◌==◌, Bool, true, false, ◌&&◌, List, [], ◌∷◌}
use Rattle.ec_fx.specs.declared.numbers.Mode.{Mode}
use Rattle.ec_core.specs.declared.expressions.BinOp.{BinOp}
use Rattle.ec_core.specs.declared.expressions.BinOp.TheVariants.{Add, Sub, Mul, Div, Rem, Shl, Shr, And, Or, Xor, Lt}
use Rattle.ec_core.specs.declared.expressions.BinOp.TheVariants.{Gt, Le, Ge, Eq, Ne}
use Rattle.ec_core.specs.declared.expressions.UnOp.{UnOp}
use Rattle.ec_core.specs.declared.expressions.UnOp.TheVariants.{Minus, Invert}
use Rattle.ec_core.specs.Operators.{same_bool, same_type}
use Rattle.ec_core.specs.Plain.{PlainType}
use Rattle.ec_core.specs.Words.{widest, operation_words, update_words}
use Rattle.ec_shapes.specs.Shapes.{least_row}

-- ---- shapes

-- the operator. A compound assignment has the mode of its operation besides that of the assignment; a step is one
-- operator before its operand and behind it
pub data Form : Type 0 where
  unary_form : UnOp → Form
  binary_form : BinOp → Form
  conversion_form : Form
  compound_form : BinOp → (own : Mode) → Form
  step_form : (up : Bool) → Form

-- with the type of the result, those of the operands, the mode, and the greatest number of bytes among these types and
-- the pointers in the place
pub record Shape : Type 0 where
  pub form : Form
  pub ty : PlainType
  pub operands : List PlainType
  pub mode : Mode
  pub bytes : ℕ

abbrev pub unary_shape : UnOp → PlainType → Mode → (operand : PlainType) → Shape
unary_shape op ty mode a = record {
  form = unary_form op;
  ty = ty;
  operands = a ∷ [];
  mode = mode;
  bytes = widest (ty ∷ a ∷ []);
}

abbrev pub binary_shape : BinOp → PlainType → Mode → (left right : PlainType) → Shape
binary_shape op ty mode a b = record {
  form = binary_form op;
  ty = ty;
  operands = a ∷ b ∷ [];
  mode = mode;
  bytes = widest (ty ∷ a ∷ b ∷ []);
}

abbrev pub conversion_shape : PlainType → Mode → (from : PlainType) → Shape
conversion_shape ty mode a = record {
  form = conversion_form;
  ty = ty;
  operands = a ∷ [];
  mode = mode;
  bytes = widest (ty ∷ a ∷ []);
}

abbrev pub compound_shape : BinOp → (own mode : Mode) → PlainType → (right : PlainType) → (bytes : ℕ) → Shape
compound_shape op own mode ty right bytes = record {
  form = compound_form op own;
  ty = ty;
  operands = right ∷ [];
  mode = mode;
  bytes = bytes;
}

abbrev pub step_shape : Bool → Mode → PlainType → (bytes : ℕ) → Shape
step_shape up mode ty bytes = record {
  form = step_form up;
  ty = ty;
  operands = [];
  mode = mode;
  bytes = bytes;
}

-- ---- whether two are one

abbrev pub unary_number : UnOp → ℕ
unary_number Minus = 0
unary_number Invert = 1

abbrev pub binary_number : BinOp → ℕ
binary_number Add = 0
binary_number Sub = 1
binary_number Mul = 2
binary_number Div = 3
binary_number Rem = 4
binary_number Shl = 5
binary_number Shr = 6
binary_number And = 7
binary_number Or = 8
binary_number Xor = 9
binary_number Lt = 10
binary_number Gt = 11
binary_number Le = 12
binary_number Ge = 13
binary_number Eq = 14
binary_number Ne = 15

abbrev pub same_mode : Mode → Mode → Bool
same_mode m n = same_bool m.saturate n.saturate

abbrev pub same_types : List PlainType → List PlainType → Bool
same_types [] [] = true
same_types (a ∷ rest) (b ∷ others) = same_type a b && same_types rest others
same_types rest others = false

abbrev pub same_form : Form → Form → Bool
same_form (unary_form a) (unary_form b) = unary_number a == unary_number b
same_form (binary_form a) (binary_form b) = binary_number a == binary_number b
same_form conversion_form conversion_form = true
same_form (compound_form a m) (compound_form b n) = binary_number a == binary_number b && same_mode m n
same_form (step_form a) (step_form b) = same_bool a b
same_form a b = false

abbrev pub same_shape : Shape → Shape → Bool
same_shape s t =
    same_form s.form t.form && same_type s.ty t.ty && same_types s.operands t.operands && same_mode s.mode t.mode
    && s.bytes == t.bytes

-- ---- rows

-- the words of one use, for b bytes
abbrev pub form_words : Form → ℕ → ℕ
form_words (unary_form op) b = operation_words b
form_words (binary_form op) b = operation_words b
form_words conversion_form b = operation_words b
form_words (compound_form op own) b = update_words b
form_words (step_form up) b = update_words b

-- those of a further use
abbrev pub call_words : Form → ℕ → ℕ
call_words (unary_form op) b = 60 + 20 * b
call_words (binary_form op) b = 60 + 20 * b
call_words conversion_form b = 60 + 20 * b
call_words (compound_form op own) b = 120 + 40 * b
call_words (step_form up) b = 120 + 40 * b

abbrev pub shape_words : Shape → ℕ
shape_words s = form_words s.form s.bytes

-- u uses: each by itself, or one whole with 20 words besides, and a call for each
abbrev pub shape_row : Shape → ℕ → ℕ
shape_row s u = least_row (shape_words s) (shape_words s + 20) (call_words s.form s.bytes) u
