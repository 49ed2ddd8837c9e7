use Rattle.std.proofs.Common.{rules, arith}
use Rattle.std.proofs.lemmas.Grind.{common_steps}
use Rattle.ec_interp.proofs.Parts.{number_read_one}
use Rattle.ec_interp.proofs.ports.+read_number.Goals as goal

pub returns-clause-number : goal.returns-clause-number
returns-clause-number t c = first_of (grind (arith, common_steps, number_read_one), search (rules, number_read_one))
