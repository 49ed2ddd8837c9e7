use Rattle.ec_check.proofs.Found.{least_is_found}
use Rattle.ec_check.proofs.laws.the_least_is_found.Goals as goal

pub returns : goal.returns
returns c =
    least_is_found c.the_least_is_told.ensures
    (record {
      functions = c.functions_are_judged.ensures;
      names = c.file_names_are_judged.ensures;
      bodies = c.bodies_are_judged.ensures;
      file = c.file_scope_is_judged.ensures;
      one = c.there_is_one_reading.ensures;
      scopes = c.scopes_end.ensures;
      blocks = c.blocks_end.ensures;
    })
