use Rattle.ec_check_statements.proofs.InnerObjects.{inner_objects_keep_suiting}
use Rattle.ec_check_statements.proofs.laws.inner_objects_keep_suiting.Goals as goal

pub returns : goal.returns
returns c = inner_objects_keep_suiting c.declarations_keep_suiting.ensures
