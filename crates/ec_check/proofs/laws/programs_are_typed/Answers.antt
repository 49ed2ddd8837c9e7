use Rattle.ec_check.proofs.Typed.{programs_are_typed}
use Rattle.ec_check.proofs.laws.programs_are_typed.Goals as goal

pub returns : goal.returns
returns c =
    programs_are_typed
    (record {
      functions = c.functions_are_judged.ensures;
      names = c.file_names_are_judged.ensures;
      bodies = c.bodies_are_judged.ensures;
      file = c.file_scope_is_judged.ensures;
      one = c.there_is_one_reading.ensures;
      scopes = c.scopes_end.ensures;
      blocks = c.blocks_end.ensures;
    })
    c.file_scope_is_said.ensures
    (record { statements = c.statements_are_said.ensures; declarators = c.declarators_are_said.ensures })
    c.the_least_is_found.ensures c.programs_exist.ensures
