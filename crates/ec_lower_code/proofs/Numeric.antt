-- Integer and fixed-point types.
use Rattle.std.specs.Prelude.{⊤}
use Rattle.ec_core.specs.Plain.{PlainType, integer, fixed}

abbrev pub IsNumeric : PlainType → Type 0
IsNumeric (integer signed bytes) = ⊤
IsNumeric (fixed kind saturates) = ⊤
IsNumeric ty = ⊥
