use Rattle.ec_steps.proofs.Ends.{end_in_time}
use Rattle.ec_steps.proofs.laws.counted_programs_end_in_time.Goals as goal

pub returns : goal.returns
returns c = end_in_time c.programs_show_their_sources.ensures c.counted_programs_are_bounded.ensures
