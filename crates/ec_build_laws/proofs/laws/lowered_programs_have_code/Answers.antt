use Rattle.ec_build_laws.proofs.Suited.{have_code}
use Rattle.ec_build_laws.proofs.laws.lowered_programs_have_code.Goals as goal

pub returns : goal.returns
returns c =
    have_code c.lowered_is_made_of_its_program.ensures c.operations_stay_on_ports.ensures c.operations_have_code.ensures
