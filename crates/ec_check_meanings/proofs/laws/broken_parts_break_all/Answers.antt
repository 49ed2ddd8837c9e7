use Rattle.ec_check_meanings.proofs.Around.{broken_parts_break_all}
use Rattle.ec_check_meanings.proofs.laws.broken_parts_break_all.Goals as goal

pub returns : goal.returns
returns c = broken_parts_break_all c.types_are_told.ensures
