use Rattle.ec_check_expression_laws.proofs.Unbroken.{sites_are_kept}
use Rattle.ec_check_expression_laws.proofs.laws.sites_are_kept.Goals as goal

pub returns : goal.returns
returns c = sites_are_kept
