-- What operations may cost in words of code where those of one shape share it (our own profile). The steps of an
-- operation are told beside, by the words that it may have alone.
use Rattle.std.specs.Prelude.{ℕ, ◌+◌, ◌*◌, max, Bool, true, false, ◌&&◌, ◌||◌, not, if◌then◌else◌, List, [], ◌∷◌, ◌++◌}
use Rattle.ec_fx.specs.declared.numbers.Mode.{Mode}
use Rattle.ec_space.specs.Spaces.{width}
use Rattle.ec_core.specs.declared.expressions.BinOp.{BinOp}
use Rattle.ec_core.specs.declared.expressions.BinOp.TheVariants.{Add, Sub, Div, Rem, And, Or, Xor, Lt, Gt, Le, Ge, Eq, Ne}
use Rattle.ec_core.specs.Layout.{scalar_size}
use Rattle.ec_core.specs.Operators.{same_kind, same_type}
use Rattle.ec_core.specs.Plain.{PlainType, fixed, pointer}
use Rattle.ec_core.specs.Words.{operation_words}
use Rattle.ec_ir.specs.Costs.{op_words}
use Rattle.ec_ir.specs.Operations.{PlainIr, load_at, store_at, binary_op, unary_op, conversion, PlainIrFunction}
use Rattle.ec_shapes.specs.Laws.{IsRow}
use Rattle.ec_shapes.specs.Shapes.{total, by_shapes, all_made, least_row}
use Rattle.ec_core_shapes.specs.Shapes.{Form, Shape, unary_form, binary_form, conversion_form, unary_shape}
use Rattle.ec_core_shapes.specs.Shapes.{binary_shape, conversion_shape, same_shape}

-- ---- how the code of a shape stands

-- at each use; or either so, or once as a routine, with a return, that each use calls
pub data Code : Type 0 where
  in_line : (own : ℕ) → Code
  callable : (own call : ℕ) → Code

-- what u uses count
abbrev pub code_row : Code → ℕ → ℕ
code_row (in_line own) u = u * own
code_row (callable own call) u = least_row own (own + 1) call u

abbrev pub is_fixed : PlainType → Bool
is_fixed (fixed kind saturates) = true
is_fixed ty = false

abbrev pub is_pointer : PlainType → Bool
is_pointer (pointer space const to) = true
is_pointer ty = false

-- ---- rows, for b bytes

-- `&`, `|` and `^` take each byte by itself; a quotient or a remainder takes a loop
abbrev pub integer_code : BinOp → ℕ → Code
integer_code Div b = callable (operation_words b) (40 + 20 * b)
integer_code Rem b = callable (operation_words b) (40 + 20 * b)
integer_code And b = in_line (10 * b)
integer_code Or b = in_line (10 * b)
integer_code Xor b = in_line (10 * b)
integer_code op b = in_line (6 + 18 * b)

-- fixed-point operands of one format, which are combined or compared as the integers that their bytes stand for
abbrev pub exact_code : BinOp → ℕ → Code
exact_code Add b = in_line (1 + 17 * b)
exact_code Sub b = in_line (1 + 17 * b)
exact_code op b = in_line (19 + 5 * b)

-- a further use of an operator on other fixed-point operands is a call, or a shift by a known number
abbrev pub binary_code : BinOp → (exact on_fixed on_pointers : Bool) → ℕ → Code
binary_code op exact on_fixed on_pointers b =
    if exact then exact_code op b
    else (if on_fixed then callable (operation_words b) (12 + 14 * b)
    else (if on_pointers then in_line (64 + 5 * b) else integer_code op b))

abbrev pub unary_code : (on_fixed : Bool) → ℕ → Code
unary_code on_fixed b = if on_fixed then callable (60 + 40 * b) (4 + 8 * b) else in_line (6 + 18 * b)

-- to so many bytes. A number of the same type is copied at most
abbrev pub conversion_code : (on_fixed on_pointers same : Bool) → (bytes b : ℕ) → Code
conversion_code on_fixed on_pointers same bytes b =
    if on_fixed then (if same then in_line (4 * b) else callable (100 + 40 * b) (4 + 8 * b))
    else (if on_pointers then in_line (10 * b) else in_line (4 + 6 * bytes))

-- ---- shapes

-- two fixed-point types whose numbers have one format
abbrev pub has_one_format : PlainType → PlainType → Bool
has_one_format (fixed kind saturates) (fixed other also) = same_kind kind other
has_one_format ty other = false

-- an operator that gives for numbers of one format what it gives for the integers that their bytes stand for: a comparison,
-- and where it does not saturate a sum or a difference in that format
abbrev pub is_as_exact : BinOp → Mode → (in_format : Bool) → Bool
is_as_exact Add mode in_format = in_format && not mode.saturate
is_as_exact Sub mode in_format = in_format && not mode.saturate
is_as_exact Lt mode in_format = true
is_as_exact Gt mode in_format = true
is_as_exact Le mode in_format = true
is_as_exact Ge mode in_format = true
is_as_exact Eq mode in_format = true
is_as_exact Ne mode in_format = true
is_as_exact op mode in_format = false

abbrev pub are_exact : BinOp → Mode → PlainType → List PlainType → Bool
are_exact op mode ty (a ∷ b ∷ []) = has_one_format a b && is_as_exact op mode (has_one_format ty a)
are_exact op mode ty operands = false

abbrev pub any_fixed : List PlainType → Bool
any_fixed [] = false
any_fixed (ty ∷ tys) = is_fixed ty || any_fixed tys

abbrev pub any_pointer : List PlainType → Bool
any_pointer [] = false
any_pointer (ty ∷ tys) = is_pointer ty || any_pointer tys

abbrev pub any_same : PlainType → List PlainType → Bool
any_same ty [] = false
any_same ty (other ∷ tys) = same_type ty other || any_same ty tys

-- that of an operation; compound assignments and steps are made of others
abbrev pub form_code : Form → Mode → PlainType → List PlainType → ℕ → Code
form_code (unary_form op) mode ty operands b = unary_code (is_fixed ty) b
form_code (binary_form op) mode ty operands b =
    binary_code op (are_exact op mode ty operands) (is_fixed ty || any_fixed operands) (is_pointer ty || any_pointer operands) b
form_code conversion_form mode ty operands b =
    conversion_code (is_fixed ty || any_fixed operands) (is_pointer ty || any_pointer operands) (any_same ty operands)
    (scalar_size ty) b
form_code form mode ty operands b = in_line 0

abbrev pub shape_code : Shape → Code
shape_code s = form_code s.form s.mode s.ty s.operands s.bytes

abbrev pub op_row : Shape → ℕ → ℕ
op_row s u = code_row (shape_code s) u

-- ---- operations

-- what an operation counts by itself, where its code stands at each use
abbrev pub own_in : Code → ℕ
own_in (in_line own) = own
own_in (callable own call) = 0

-- and its shape, where its code may stand once
abbrev pub shapes_with : Code → Shape → List Shape
shapes_with (in_line own) s = []
shapes_with (callable own call) s = s ∷ []

abbrev pub own_words : PlainIr → ℕ
own_words (load_at to ptr space) = 10 + 6 * max to.bytes (width space)
own_words (store_at ptr space from) = 5 + 3 * max from.bytes (width space)
own_words (binary_op op ty mode to a aty b bty) = own_in (shape_code (binary_shape op ty mode aty bty))
own_words (unary_op op ty mode to a) = own_in (shape_code (unary_shape op ty mode ty))
own_words (conversion to ty mode a aty) = own_in (shape_code (conversion_shape ty mode aty))
own_words i = op_words i

abbrev pub op_shapes : PlainIr → List Shape
op_shapes (binary_op op ty mode to a aty b bty) =
    shapes_with (shape_code (binary_shape op ty mode aty bty)) (binary_shape op ty mode aty bty)
op_shapes (unary_op op ty mode to a) = shapes_with (shape_code (unary_shape op ty mode ty)) (unary_shape op ty mode ty)
op_shapes (conversion to ty mode a aty) =
    shapes_with (shape_code (conversion_shape ty mode aty)) (conversion_shape ty mode aty)
op_shapes i = []

-- operations whose code may stand once count by their shapes, and all others by themselves
abbrev pub code_words_by_shapes : List PlainIr → ℕ
code_words_by_shapes code = total own_words code + by_shapes same_shape op_row (all_made op_shapes code)

abbrev pub all_code : List PlainIrFunction → List PlainIr
all_code [] = []
all_code (f ∷ fs) = f.code ++ all_code fs

-- the operations of all functions share code
abbrev pub functions_words_by_shapes : List PlainIrFunction → ℕ
functions_words_by_shapes fs = code_words_by_shapes (all_code fs)

-- ---- laws

abbrev pub CodesAreRows : Type 0
CodesAreRows = (s : Shape) → IsRow (op_row s)
