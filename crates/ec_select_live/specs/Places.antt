-- Operations whose temporaries stand at places of their function.
use Rattle.std.specs.Prelude.{ℕ, ◌<◌, ◌≤◌, ⊤, List, Option, Some, None}
use Rattle.std.specs.List.{AllByRecursion}
use Rattle.ec_ir.specs.declared.operations.Temp.{Temp}
use Rattle.ec_ir.specs.Operations.{PlainIr, constant, copy, address, field, load_at, store_at, load_object}
use Rattle.ec_ir.specs.Operations.{store_object, binary_op, unary_op, conversion, label, jump, branch_zero}
use Rattle.ec_ir.specs.Operations.{call_function, return_from, port_in, port_out, load_cell, store_cell, cell_port}

-- one of so many places, and no more bytes than a place has
abbrev pub HasPlace : ℕ → Temp → Type 0
HasPlace slots t = (t.at < slots) × (t.bytes ≤ 16)

abbrev pub MayHavePlace : ℕ → Option Temp → Type 0
MayHavePlace slots None = ⊤
MayHavePlace slots (Some t) = HasPlace slots t

-- the temporaries of an operation
abbrev pub HasPlaces : ℕ → PlainIr → Type 0
HasPlaces slots (constant t n) = HasPlace slots t
HasPlaces slots (copy to from) = HasPlace slots to × HasPlace slots from
HasPlaces slots (address t o offset) = HasPlace slots t
HasPlaces slots (field ptr space offset) = HasPlace slots ptr
HasPlaces slots (load_at to ptr space) = HasPlace slots to × HasPlace slots ptr
HasPlaces slots (store_at ptr space from) = HasPlace slots ptr × HasPlace slots from
HasPlaces slots (load_object t o offset) = HasPlace slots t
HasPlaces slots (store_object o offset t) = HasPlace slots t
HasPlaces slots (binary_op op ty mode to a aty b bty) = HasPlace slots to × HasPlace slots a × HasPlace slots b
HasPlaces slots (unary_op op ty mode to a) = HasPlace slots to × HasPlace slots a
HasPlaces slots (conversion to ty mode a aty) = HasPlace slots to × HasPlace slots a
HasPlaces slots (branch_zero t l) = HasPlace slots t
HasPlaces slots (return_from from) = MayHavePlace slots from
HasPlaces slots (label l) = ⊤
HasPlaces slots (jump l) = ⊤
HasPlaces slots (call_function f to) = MayHavePlace slots to
HasPlaces slots (port_in to port index width) = HasPlace slots to × MayHavePlace slots index
HasPlaces slots (port_out from port index width) = HasPlace slots from × MayHavePlace slots index × (width ≤ 16)
HasPlaces slots (load_cell to cell) = HasPlace slots to
HasPlaces slots (store_cell cell from) = HasPlace slots from
HasPlaces slots (cell_port read t cell offset index width) =
    HasPlace slots t × MayHavePlace slots index × (width ≤ 16)

abbrev pub HavePlaces : ℕ → List PlainIr → Type 0
HavePlaces slots code = AllByRecursion (HasPlaces slots) code
