-- What each operation may cost: words of code, and steps (our own profile). The words of the operations that a part of
-- a program is made of are within the work of that part.
use Rattle.std.specs.Prelude.{ℕ, ◌+◌, ◌*◌, max, Bool, true, false, ◌||◌, ◌&&◌, if◌then◌else◌, List, [], ◌∷◌, Option}
use Rattle.std.specs.Prelude.{None, Some}
use Rattle.ec_space.specs.Spaces.{width}
use Rattle.ec_core.specs.declared.expressions.BinOp.{BinOp}
use Rattle.ec_core.specs.declared.expressions.BinOp.TheVariants.{And, Or, Xor}
use Rattle.ec_core.specs.Layout.{scalar_size}
use Rattle.ec_core.specs.Operators.{same_type}
use Rattle.ec_core.specs.Plain.{PlainType, integer}
use Rattle.ec_core.specs.Words.{widest, simple_words, operation_words, member_words}
use Rattle.ec_ir.specs.Operations.{PlainIr, constant, copy, address, field, load_at, store_at, load_object}
use Rattle.ec_ir.specs.Operations.{store_object, binary_op, unary_op, conversion, label, jump, branch_zero}
use Rattle.ec_ir.specs.Operations.{call_function, return_from, port_in, port_out, load_cell, store_cell, cell_port}
use Rattle.ec_ir.specs.Operations.{PlainIrFunction}
use Rattle.ec_ir.specs.declared.operations.Temp.{Temp}

-- ---- rows

-- so many bytes brought from one place to another
abbrev pub copy_words : ℕ → ℕ
copy_words bytes = 5 * bytes

-- so many bytes brought from a known place, which may lie in flash past the first 65,536 bytes
abbrev pub load_words : ℕ → ℕ
load_words bytes = 2 + copy_words bytes

-- an address in a work register, and so many bytes stored there
abbrev pub store_words : ℕ → ℕ
store_words bytes = 30 + 5 * bytes

abbrev pub branch_zero_words : ℕ → ℕ
branch_zero_words bytes = 6 + 3 * bytes

abbrev pub is_integer : PlainType → Bool
is_integer (integer signed bytes) = true
is_integer ty = false

-- integers are extended or cut, and a value of the same type stays
abbrev pub conversion_words : PlainType → PlainType → ℕ
conversion_words ty from =
    if same_type ty from || (is_integer ty && is_integer from) then 10 * widest (ty ∷ from ∷ [])
    else 100 + 40 * widest (ty ∷ from ∷ [])

-- `&`, `|` and `^`, which take each byte by itself
abbrev pub is_bitwise : BinOp → Bool
is_bitwise And = true
is_bitwise Or = true
is_bitwise Xor = true
is_bitwise op = false

abbrev pub binary_words : BinOp → PlainType → PlainType → PlainType → ℕ
binary_words op ty aty bty =
    if is_bitwise op && is_integer ty then 10 * widest (ty ∷ aty ∷ bty ∷ [])
    else operation_words (widest (ty ∷ aty ∷ bty ∷ []))

abbrev pub unary_words : PlainType → ℕ
unary_words ty = 60 + 40 * scalar_size ty

abbrev pub index_words : Option Temp → ℕ
index_words None = 0
index_words (Some t) = 40

-- the address of a port in Z, from a cell and maybe an index, and so many bytes read or written there
abbrev pub cell_port_words : (width bytes : ℕ) → ℕ
cell_port_words width bytes = 40 + 10 * width + 5 * bytes

abbrev pub temp_bytes : Option Temp → ℕ
temp_bytes None = 0
temp_bytes (Some t) = t.bytes

-- ---- operations

abbrev pub op_words : PlainIr → ℕ
op_words (constant t n) = copy_words t.bytes
op_words (copy to from) = copy_words to.bytes
op_words (address t o offset) = copy_words t.bytes
op_words (field ptr space offset) = member_words
op_words (load_at to ptr space) = simple_words (max to.bytes (width space))
op_words (store_at ptr space from) = store_words (max from.bytes (width space))
op_words (load_object t o offset) = load_words t.bytes
op_words (store_object o offset t) = copy_words t.bytes
op_words (binary_op op ty mode to a aty b bty) = binary_words op ty aty bty
op_words (unary_op op ty mode to a) = unary_words ty
op_words (conversion to ty mode a aty) = conversion_words ty aty
op_words (label l) = 0
op_words (jump l) = 5
op_words (branch_zero t l) = branch_zero_words t.bytes
op_words (call_function f to) = 60 + 5 * temp_bytes to
op_words (return_from from) = 40 + 5 * temp_bytes from
op_words (port_in to port index width) = index_words index + 10 * width + 5 * to.bytes
op_words (port_out from port index width) = index_words index + 5 * width
op_words (load_cell to cell) = copy_words to.bytes
op_words (store_cell cell from) = copy_words from.bytes
op_words (cell_port read t cell offset index width) = cell_port_words width t.bytes

-- the steps that it takes at most
abbrev pub op_steps : PlainIr → ℕ
op_steps i = 64 * op_words i

-- ---- programs

abbrev pub code_words : List PlainIr → ℕ
code_words [] = 0
code_words (i ∷ code) = op_words i + code_words code

abbrev pub functions_words : List PlainIrFunction → ℕ
functions_words [] = 0
functions_words (f ∷ fs) = code_words f.code + functions_words fs
