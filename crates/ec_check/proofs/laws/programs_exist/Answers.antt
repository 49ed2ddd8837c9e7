use Rattle.ec_check.proofs.Programs.{programs_exist}
use Rattle.ec_check.proofs.laws.programs_exist.Goals as goal

pub returns : goal.returns
returns c =
    programs_exist (record {
      laid_out = c.structs_are_laid_out.ensures;
      sizes = c.sizes_are_values.ensures;
      said = c.kept_types_are_said.ensures;
      forms = c.kept_forms_have_meanings.ensures;
      meanings = c.kept_expressions_have_meanings.ensures;
      names = c.declarations_keep_suiting.ensures;
      tags = c.definitions_keep_suiting.ensures;
      objects = c.kept_objects_have_types.ensures.objects;
      members = c.kept_objects_have_types.ensures.members;
      functions = c.kept_functions_have_types.ensures;
      inner = c.inner_objects_keep_suiting.ensures;
      stay = c.objects_stay.ensures;
      ends = c.scopes_end.ensures;
      bodies = c.kept_bodies_have_meanings.ensures;
    })
