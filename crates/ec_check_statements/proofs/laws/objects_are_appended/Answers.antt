use Rattle.ec_check_statements.proofs.Scopes.{objects_are_appended}
use Rattle.ec_check_statements.proofs.laws.objects_are_appended.Goals as goal

pub returns : goal.returns
returns c =
    objects_are_appended c.structs_are_laid_out.ensures c.said_types_are_placed.ensures c.sizes_are_values.ensures c.blocks_end.ensures
