use Rattle.ec_check_typed.proofs.FileScope.{file_scope_is_said}
use Rattle.ec_check_typed.proofs.laws.file_scope_is_said.Goals as goal

pub returns : goal.returns
returns c =
    file_scope_is_said
    (record {
      initialisers = c.initialisers_are_said.ensures;
      declarators = c.declarators_are_said.ensures;
      linkages = c.linkages_are_found.ensures;
      structs = c.structs_are_declared.ensures;
      judged = c.file_scope_is_judged.ensures;
    })
    c.equal_structs_are_one.ensures
