use Rattle.ec_check_expression_laws.proofs.Definitions.{definitions_keep_suiting}
use Rattle.ec_check_expression_laws.proofs.laws.definitions_keep_suiting.Goals as goal

pub returns : goal.returns
returns c = definitions_keep_suiting c.outer_names_are_known.ensures
