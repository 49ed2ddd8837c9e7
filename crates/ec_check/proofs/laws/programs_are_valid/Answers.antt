use Rattle.ec_check.proofs.ProgramsAreValid.{programs_are_valid}
use Rattle.ec_check.proofs.laws.programs_are_valid.Goals as goal

pub returns : goal.returns
returns c =
    programs_are_valid
    (record {
      laid_out = c.structs_are_laid_out.ensures;
      sizes = c.sizes_are_values.ensures;
      said = c.kept_types_are_said.ensures;
      forms = c.kept_forms_have_meanings.ensures;
      meanings = c.kept_expressions_have_meanings.ensures;
      names = c.declarations_keep_suiting.ensures;
      tags = c.definitions_keep_suiting.ensures;
      objects = c.kept_objects_have_types.ensures.objects;
      members = c.kept_objects_have_types.ensures.members;
      functions = c.kept_functions_have_types.ensures;
      inner = c.inner_objects_keep_suiting.ensures;
      stay = c.objects_stay.ensures;
      ends = c.scopes_end.ensures;
      bodies = c.kept_bodies_have_meanings.ensures;
    })
    (record {
      layouts = c.structs_are_laid_out.ensures;
      said = c.said_types_are_placed.ensures;
      sizes = c.sizes_are_values.ensures;
      usable = c.function_types_are_usable.ensures;
      one = c.equal_structs_are_one.ensures;
      inner = c.inner_objects_keep_suiting.ensures;
      stay = c.objects_stay.ensures;
      append = c.objects_are_appended.ensures;
      bodies = c.bodies_are_valid.ensures;
      needs = c.bodies_need_their_tokens.ensures;
      values = c.initial_values_suit.ensures;
    })
