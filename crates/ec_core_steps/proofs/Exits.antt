-- How a statement is left: the value of a return leads to no free object.
use Rattle.std.proofs.Common.{Some, None}
use Rattle.std.specs.Prelude.{⊤}
use Rattle.ec_core.specs.Plain.{PlainProgram}
use Rattle.ec_core.specs.State.{State}
use Rattle.ec_core.specs.Statements.{Exit, at_end, by_break, by_continue, by_return}
use Rattle.ec_core_steps.proofs.Relation.{IsValue}

abbrev pub IsExit : PlainProgram → Exit → State → Type 0
IsExit p at_end t = ⊤
IsExit p by_break t = ⊤
IsExit p by_continue t = ⊤
IsExit p (by_return None) t = ⊤
IsExit p (by_return (Some v)) t = IsValue p v
