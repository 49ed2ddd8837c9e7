use Rattle.ec_lower_code.proofs.OnPorts.{on_ports}
use Rattle.ec_lower_code.proofs.laws.operations_stay_on_ports.Goals as goal

pub returns : goal.returns
returns c = on_ports
