use Rattle.ec_build_laws.proofs.Laid.{placed_are_laid_out}
use Rattle.ec_build_laws.proofs.laws.placed_are_laid_out.Goals as goal

pub returns : goal.returns
returns c = placed_are_laid_out (record {
  items = c.placed_items_stand.ensures;
  code = c.code_stands.ensures;
  apart = c.data_stands_apart.ensures;
  flash = c.flash_stands_apart.ensures;
  separate = c.placed_stand_apart.ensures;
  initials = c.initial_values_stand.ensures;
  made = c.lowered_is_made_of_its_program.ensures;
  selections = c.selections_are_valid.ensures;
  short = c.shortened_code_is_valid.ensures;
  long = record {
    near = c.near_code_stands.ensures.code;
    used = c.near_code_stands.ensures.words;
    based = c.based_code_stands.ensures;
    valid = c.based_items_are_valid.ensures.program;
  };
})
