-- The code of an operator whose second operand stands at the place of the result.
use Rattle.std.specs.Prelude.{ℕ, List, ◌++◌}
use Rattle.ec_asm.specs.declared.items.AsmItem.{AsmItem}
use Rattle.ec_asm.specs.declared.pieces.Location.{Location}
use Rattle.ec_asm.specs.declared.pieces.Operator.{Operator}
use Rattle.ec_asm.specs.declared.pieces.Operator.TheVariants.{Sum, Difference, BitAnd, BitOr, BitXor}
use Rattle.ec_asm.specs.Pieces.{operate_code}
use Rattle.ec_select_bytes.specs.Complements.{negation_code}

-- the first operand is combined with it there the other way round
abbrev pub reversed_code : Operator → (a to : Location) → ℕ → List AsmItem
reversed_code Sum a to n = operate_code Sum a to n
reversed_code Difference a to n = operate_code Difference a to n ++ negation_code to n
reversed_code BitAnd a to n = operate_code BitAnd a to n
reversed_code BitOr a to n = operate_code BitOr a to n
reversed_code BitXor a to n = operate_code BitXor a to n
