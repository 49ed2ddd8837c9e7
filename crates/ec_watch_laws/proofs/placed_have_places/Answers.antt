use Rattle.ec_watch_laws.proofs.Apart.{have_places}
use Rattle.ec_watch_laws.proofs.placed_have_places.Goals as goal

pub returns : goal.returns
returns c = have_places (record {
  apart = c.data_stands_apart.ensures;
  made = c.lowered_is_made_of_its_program.ensures;
  selections = c.selections_are_valid.ensures;
  short = c.shortened_code_is_valid.ensures;
})
