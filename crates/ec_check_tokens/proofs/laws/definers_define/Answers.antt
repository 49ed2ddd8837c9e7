use Rattle.ec_check_tokens.proofs.Definers.{definers_define}
use Rattle.ec_check_tokens.proofs.laws.definers_define.Goals as goal

pub returns : goal.returns
returns c = definers_define
