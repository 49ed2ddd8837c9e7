use Rattle.ec_build_laws.proofs.FromReset.{images_show_their_sources}
use Rattle.ec_build_laws.proofs.laws.images_show_their_sources.Goals as goal

pub returns : goal.returns
returns c =
    images_show_their_sources c.images_run_as_sources.ensures c.runs_are_steps.ensures.run c.more_turns_only_add.ensures (record {
      told = c.kinds_are_told.ensures.told;
      fit = c.kinds_are_told.ensures.fit;
      made = c.lowered_is_made_of_its_program.ensures;
      selections = c.selections_are_valid.ensures;
      short = c.shortened_code_is_valid.ensures;
    }) c.stack_stays_inside.ensures
