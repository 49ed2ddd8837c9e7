use Rattle.ec_core_accesses.proofs.Walk.{runs_access_ports}
use Rattle.ec_core_accesses.proofs.runs_access_ports.Goals as goal

pub returns : goal.returns
returns c = runs_access_ports
