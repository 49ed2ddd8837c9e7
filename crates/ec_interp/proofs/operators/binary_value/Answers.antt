use Rattle.std.proofs.Common.{rules, arith}
use Rattle.std.proofs.lemmas.Grind.{common_steps}
use Rattle.ec_interp.proofs.Operands.{binary_numbers, left_count}
use Rattle.ec_interp.proofs.operators.binary_value.Goals as goal

pub returns-in_err-r-in-Number-value-clause-answered : goal.returns-in_err-r-in-Number-value-clause-answered
returns-in_err-r-in-Number-value-clause-answered c = first_of (search (rules, binary_numbers), grind (arith, common_steps, binary_numbers))

pub returns-in-Number-value-2-clause-answered : goal.returns-in-Number-value-2-clause-answered
returns-in-Number-value-2-clause-answered c = first_of (search (rules, left_count), grind (arith, common_steps, left_count))
