use Rattle.ec_core_accesses.proofs.Walk.{sources_access_ports}
use Rattle.ec_core_accesses.proofs.sources_access_ports.Goals as goal

pub returns : goal.returns
returns c = sources_access_ports
