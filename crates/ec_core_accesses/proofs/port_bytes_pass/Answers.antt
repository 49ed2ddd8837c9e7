use Rattle.ec_core_accesses.proofs.Tables.{port_bytes_pass}
use Rattle.ec_core_accesses.proofs.port_bytes_pass.Goals as goal

pub returns : goal.returns
returns c = port_bytes_pass
