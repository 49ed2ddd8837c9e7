use Rattle.ec_check_ports.proofs.Programs.{programs_go_by_names}
use Rattle.ec_check_ports.proofs.programs_go_by_names.Goals as goal

pub returns : goal.returns
returns c = programs_go_by_names
