use Rattle.ec_core.proofs.Runs.{events_are_at_home}
use Rattle.ec_core.proofs.laws.events_are_at_home.Goals as goal

pub returns : goal.returns
returns c = events_are_at_home
