use Rattle.ec_check_parts.proofs.FileScope.{file_scope_is_judged}
use Rattle.ec_check_parts.proofs.laws.file_scope_is_judged.Goals as goal

pub returns : goal.returns
returns c =
    file_scope_is_judged
    (record {
      functions = c.functions_are_judged.ensures;
      structures = c.structures_are_judged.ensures;
      objects = c.objects_are_judged.ensures;
      initialisers = c.initialisers_are_judged.ensures;
      names = c.file_names_are_judged.ensures;
    })
