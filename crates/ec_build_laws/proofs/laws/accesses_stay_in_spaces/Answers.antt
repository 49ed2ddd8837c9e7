use Rattle.ec_build_laws.proofs.Guarded.{noted_are_of_objects, events_stay_in_spaces}
use Rattle.ec_build_laws.proofs.laws.accesses_stay_in_spaces.Goals as goal

pub returns-clause-noted : goal.returns-clause-noted
returns-clause-noted c = noted_are_of_objects (record {
  told = c.kinds_are_told.ensures.told;
  fit = c.kinds_are_told.ensures.fit;
  made = c.lowered_is_made_of_its_program.ensures;
  selections = c.selections_are_valid.ensures;
  short = c.shortened_code_is_valid.ensures;
})

pub returns-clause-events : goal.returns-clause-events
returns-clause-events c = events_stay_in_spaces c.events_are_at_home.ensures
