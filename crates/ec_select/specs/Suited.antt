-- Valid operations that have code.
use Rattle.std.specs.Prelude.{◌≡◌, ◌≢◌, ◌⊎◌, ℕ, ◌+◌, ◌<◌, ◌≤◌, ◌||◌, Bool, true, false, ⊤}
use Rattle.std.specs.List.{AllByRecursion}
use Rattle.ec_core.specs.declared.expressions.BinOp.{BinOp}
use Rattle.ec_core.specs.declared.expressions.BinOp.TheVariants.{Add, Sub}
use Rattle.ec_ir.specs.Costs.{temp_bytes}
use Rattle.ec_ir.specs.Operations.{PlainIr, constant, copy, address, field, load_at, store_at, load_object}
use Rattle.ec_ir.specs.Operations.{store_object, binary_op, unary_op, conversion, label, jump, branch_zero}
use Rattle.ec_ir.specs.Operations.{call_function, return_from, port_in, port_out, load_cell, store_cell, cell_port}
use Rattle.ec_ir.specs.Operations.{PlainIrProgram}
use Rattle.ec_select_operations.specs.Needs.{is_fixed}
use Rattle.ec_select_operations.specs.Pointers.{is_pointer}

-- sums and differences
abbrev pub IsAdditive : BinOp → Type 0
IsAdditive Add = ⊤
IsAdditive Sub = ⊤
IsAdditive op = ⊥

-- The result of a binary operator on integers comes to the place of its first operand, and the second one has another
-- place, but for sums and differences. Operands of which one is fixed-point have two places, and of those of which one
-- is a pointer nothing is asked
abbrev pub ArePlacesSuited : BinOp → (to a b : ℕ) → (is_fixed is_pointer : Bool) → Type 0
ArePlacesSuited op to a b true pointers = a ≢ b
ArePlacesSuited op to a b false true = ⊤
ArePlacesSuited op to a b false false = ((to ≡ a) × (b ≢ a)) ⊎ IsAdditive op

-- a temporary has at most 8 bytes, as every scalar
abbrev pub IsSuited : PlainIr → Type 0
IsSuited (constant t n) = t.bytes ≤ 8
IsSuited (copy to from) = to.bytes ≤ 8
IsSuited (address t o offset) = ⊤
IsSuited (field ptr space offset) = ⊤
IsSuited (load_at to ptr space) = to.bytes ≤ 8
IsSuited (store_at ptr space from) = from.bytes ≤ 8
IsSuited (load_object t o offset) = t.bytes ≤ 8
IsSuited (store_object o offset t) = t.bytes ≤ 8
IsSuited (binary_op op ty mode to a aty b bty) =
    ArePlacesSuited op to.at a.at b.at (is_fixed aty || is_fixed bty) (is_pointer aty || is_pointer bty)
IsSuited (unary_op op ty mode to a) = ⊤
IsSuited (conversion to ty mode a aty) = ⊤
IsSuited (label l) = ⊤
IsSuited (jump l) = ⊤
IsSuited (branch_zero t l) = t.bytes ≤ 8
IsSuited (call_function f to) = temp_bytes to ≤ 8
IsSuited (return_from from) = temp_bytes from ≤ 8
IsSuited (port_in to port index width) = to.bytes ≤ 8
IsSuited (port_out from port index width) = from.bytes ≤ 8
IsSuited (load_cell to cell) = ⊤
IsSuited (store_cell cell from) = ⊤
IsSuited (cell_port read t cell offset index width) = t.bytes ≤ 8

abbrev pub AreSuited : PlainIrProgram → Type 0
AreSuited p = AllByRecursion (λ g. AllByRecursion IsSuited g.code) p.functions

-- the bytes of a port are at 0xFF or below, and one whose address is behind what a cell holds is less than 0x100 behind it
abbrev pub IsOnPorts : PlainIr → Type 0
IsOnPorts (port_in to port index width) = port + width ≤ 0x100
IsOnPorts (port_out from port index width) = port + width ≤ 0x100
IsOnPorts (cell_port read t cell offset index width) = offset < 0x100
IsOnPorts i = ⊤

abbrev pub AreOnPorts : PlainIrProgram → Type 0
AreOnPorts p = AllByRecursion (λ g. AllByRecursion IsOnPorts g.code) p.functions
