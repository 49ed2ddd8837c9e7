-- The laws of needs.
use Rattle.std.specs.Prelude.{ℕ}
use Rattle.ec_ir.specs.Operations.{PlainIrFunction, PlainIrProgram}
use Rattle.ec_ir.specs.Valid.{Results, ValidIrFunction}
use Rattle.ec_select_live.specs.Places.{HavePlaces}

-- the temporaries of a valid function's operations stand at its places
abbrev pub ValidOperationsHavePlaces : Type 0
ValidOperationsHavePlaces =
    (cells : ℕ) (p : PlainIrProgram) (results : Results) (f : ℕ) (g : PlainIrFunction) → ValidIrFunction cells p results f g
    → HavePlaces g.slots g.code
