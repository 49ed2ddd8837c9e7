use Rattle.ec_check_expression_laws.proofs.Declarations.{declarations_keep_suiting}
use Rattle.ec_check_expression_laws.proofs.laws.declarations_keep_suiting.Goals as goal

pub returns : goal.returns
returns c = declarations_keep_suiting c.inner_names_hide.ensures c.outer_names_are_known.ensures
