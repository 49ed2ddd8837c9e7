use Rattle.std.proofs.Common.{rules, arith}
use Rattle.std.proofs.lemmas.Grind.{common_steps}
use Rattle.ec_interp.proofs.Operands.{compound_numbers}
use Rattle.ec_interp.proofs.operators.compound_value.Goals as goal

pub returns-in_err-r-in-Number-value-clause-answered : goal.returns-in_err-r-in-Number-value-clause-answered
returns-in_err-r-in-Number-value-clause-answered c =
    first_of (search (rules, compound_numbers), grind (arith, common_steps, compound_numbers))
