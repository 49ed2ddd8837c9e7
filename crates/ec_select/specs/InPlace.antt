-- Operations that put the result of a bitwise operator on integers to the place of its first operand, as code does.
-- Then nothing has to be brought there.
use Rattle.std.specs.Prelude.{◌≡◌, true, ◌||◌, ⊤}
use Rattle.std.specs.List.{AllByRecursion}
use Rattle.ec_ir.specs.Costs.{is_bitwise}
use Rattle.ec_ir.specs.Operations.{PlainIr, binary_op, PlainIrProgram}
use Rattle.ec_select_operations.specs.Emitted.{OfKind}
use Rattle.ec_select_operations.specs.Needs.{is_fixed}

abbrev pub IsInPlace : PlainIr → Type 0
IsInPlace (binary_op op ty mode to a aty b bty) =
    OfKind (is_fixed aty || is_fixed bty) ⊤ (is_bitwise op ≡ true → to.at ≡ a.at)
IsInPlace i = ⊤

abbrev pub AreInPlace : PlainIrProgram → Type 0
AreInPlace p = AllByRecursion (λ g. AllByRecursion IsInPlace g.code) p.functions
