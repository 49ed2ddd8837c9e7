use Rattle.ec_core.proofs.Runs.{depends_on_bytes_read}
use Rattle.ec_core.proofs.laws.depends_on_bytes_read.Goals as goal

pub returns : goal.returns
returns c = depends_on_bytes_read
