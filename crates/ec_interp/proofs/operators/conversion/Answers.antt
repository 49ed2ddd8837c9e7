use Rattle.std.proofs.Common.{rules, arith}
use Rattle.std.proofs.lemmas.Grind.{common_steps}
use Rattle.ec_interp.proofs.Operands.{converted_number}
use Rattle.ec_interp.proofs.operators.conversion.Goals as goal

pub returns-in_err-r-in-Number-clause-answered : goal.returns-in_err-r-in-Number-clause-answered
returns-in_err-r-in-Number-clause-answered c = first_of (search (rules, converted_number), grind (arith, common_steps, converted_number))
