use Rattle.ec_core.proofs.Depths.{calls_nest_no_deeper}
use Rattle.ec_core.proofs.laws.calls_nest_no_deeper.Goals as goal

pub returns : goal.returns
returns c = calls_nest_no_deeper
