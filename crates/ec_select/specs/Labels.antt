-- The homes of a function's temporaries, and the labels of items. The entry of the program and the functions have
-- labels of their own, and behind them the labels of each function follow those of the one before it.
use Rattle.std.specs.Prelude.{ℕ, zero, suc, ◌+◌, nat_le, max, if◌then◌else◌, List, [], ◌∷◌, length, slice_get}
use Rattle.std.specs.Prelude.{Option, Some, None}
use Rattle.ec_ir.specs.Costs.{temp_bytes}
use Rattle.ec_ir.specs.Operations.{PlainIr, constant, copy, address, field, load_at, store_at, load_object}
use Rattle.ec_ir.specs.Operations.{store_object, binary_op, unary_op, conversion, label, jump, branch_zero}
use Rattle.ec_ir.specs.Operations.{call_function, return_from, port_in, port_out, load_cell, store_cell, cell_port}
use Rattle.ec_ir.specs.Operations.{PlainIrFunction}
use Rattle.ec_select_operations.specs.declared.homes.Homes.{Homes}

-- ---- homes

-- the bytes of the widest temporary of an operation
abbrev pub widest_temp : PlainIr → ℕ
widest_temp (constant t n) = t.bytes
widest_temp (copy to from) = max to.bytes from.bytes
widest_temp (address t o offset) = t.bytes
widest_temp (field ptr space offset) = ptr.bytes
widest_temp (load_at to ptr space) = max to.bytes ptr.bytes
widest_temp (store_at ptr space from) = max ptr.bytes from.bytes
widest_temp (load_object t o offset) = t.bytes
widest_temp (store_object o offset t) = t.bytes
widest_temp (binary_op op ty mode to a aty b bty) = max to.bytes (max a.bytes b.bytes)
widest_temp (unary_op op ty mode to a) = max to.bytes a.bytes
widest_temp (conversion to ty mode a aty) = max to.bytes a.bytes
widest_temp (label l) = 0
widest_temp (jump l) = 0
widest_temp (branch_zero t l) = t.bytes
widest_temp (call_function f to) = temp_bytes to
widest_temp (return_from from) = temp_bytes from
widest_temp (port_in to port index width) = max to.bytes (temp_bytes index)
widest_temp (port_out from port index width) = max from.bytes (temp_bytes index)
widest_temp (load_cell to cell) = to.bytes
widest_temp (store_cell cell from) = from.bytes
widest_temp (cell_port read t cell offset index width) = max t.bytes (temp_bytes index)

abbrev pub widest_temps : List PlainIr → ℕ
widest_temps [] = 0
widest_temps (i ∷ code) = max (widest_temp i) (widest_temps code)

-- a place in registers has two bytes where no temporary has more, and else four. The scratch memory of the function
-- with number f is object 1,024 + f
abbrev pub homes_of : ℕ → List PlainIr → Homes
homes_of f code = record { width = if nat_le (widest_temps code) 2 then 2 else 4; scratch = 1024 + f }

-- ---- labels

-- a number above the label that an operation names, 0 where it names none
abbrev pub label_bound : PlainIr → ℕ
label_bound (label l) = l + 1
label_bound (jump l) = l + 1
label_bound (branch_zero t l) = l + 1
label_bound i = 0

-- one above all labels of some operations
abbrev pub label_count : List PlainIr → ℕ
label_count [] = 0
label_count (i ∷ code) = max (label_bound i) (label_count code)

abbrev pub labels_in : Option PlainIrFunction → ℕ
labels_in None = 0
labels_in (Some g) = label_count g.code

-- The program's entry is label 0, and the function with number f begins at label 1 + f
abbrev pub entry_label : ℕ
entry_label = 0

abbrev pub function_label : ℕ → ℕ
function_label f = 1 + f

-- the label of items for label 0 of the function with number f
abbrev pub first_label : List PlainIrFunction → ℕ → ℕ
first_label functions zero = function_label (length functions)
first_label functions (suc f) = first_label functions f + labels_in (slice_get functions f)
