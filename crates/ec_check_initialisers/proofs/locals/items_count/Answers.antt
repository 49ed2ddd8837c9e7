use Rattle.std.proofs.Common.{rules, arith}
use Rattle.std.proofs.lemmas.Grind.{common_steps}
use Rattle.ec_check_initialisers.proofs.Counts.{counted}
use Rattle.ec_check_initialisers.proofs.locals.items_count.Goals as goal

pub returns-clause-value : goal.returns-clause-value
returns-clause-value c = first_of (search (rules, counted), grind (arith, common_steps, counted))
