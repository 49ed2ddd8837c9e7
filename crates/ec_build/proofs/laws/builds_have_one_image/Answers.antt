use Rattle.ec_build.proofs.OneImage.{builds_have_one_image}
use Rattle.ec_build.proofs.laws.builds_have_one_image.Goals as goal

pub returns : goal.returns
returns c =
    builds_have_one_image (record {
      typed = c.programs_are_typed.ensures;
      programs = c.programs_go_by_names.ensures;
      lowered = c.lowered_is_made_of_its_program.ensures;
      places = c.valid_operations_have_places.ensures;
      written = c.needed_functions_are_written.ensures;
    })
