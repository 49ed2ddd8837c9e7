use Rattle.ec_watch_laws.proofs.Kept.{watched_runs_keep_sources}
use Rattle.ec_watch_laws.proofs.watched_runs_keep_sources.Goals as goal

pub returns : goal.returns
returns c = watched_runs_keep_sources (record {
  separate = record {
    apart = c.data_stands_apart.ensures;
    made = c.lowered_is_made_of_its_program.ensures;
    selections = c.selections_are_valid.ensures;
    short = c.shortened_code_is_valid.ensures;
  };
  machine = record { changes = c.runs_change_as_told.ensures; keeps = c.steps_are_of_instructions.ensures.keeps };
  fill = c.leaves_fill_their_types.ensures;
  numbers = c.writes_hold_numbers.ensures;
  shows = c.programs_show_their_sources.ensures;
})
