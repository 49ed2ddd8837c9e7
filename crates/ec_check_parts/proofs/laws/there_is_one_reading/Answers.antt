use Rattle.ec_check_parts.proofs.Readings.{one_reads}
use Rattle.ec_check_parts.proofs.laws.there_is_one_reading.Goals as goal

pub returns : goal.returns
returns c =
    one_reads c.declarators_are_said.ensures c.structs_are_declared.ensures c.linkages_are_found.ensures
