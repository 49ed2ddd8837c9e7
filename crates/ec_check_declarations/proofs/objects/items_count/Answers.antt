use Rattle.std.proofs.Common.{rules, arith}
use Rattle.std.proofs.lemmas.Grind.{common_steps}
use Rattle.ec_check_declarations.proofs.Lists.{counted}
use Rattle.ec_check_declarations.proofs.objects.items_count.Goals as goal

pub returns-clause-value : goal.returns-clause-value
returns-clause-value c = first_of (search (rules, counted), grind (arith, common_steps, counted))
