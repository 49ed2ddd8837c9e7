use Rattle.ec_check_statements.proofs.ValidStatements.{bodies_are_valid}
use Rattle.ec_check_statements.proofs.laws.bodies_are_valid.Goals as goal

pub returns : goal.returns
returns c =
    bodies_are_valid c.structs_are_laid_out.ensures c.said_types_are_placed.ensures c.sizes_are_values.ensures
    c.values_have_leaf_types.ensures
    c.blocks_end.ensures c.expressions_are_valid.ensures c.forms_stay_valid.ensures c.declarations_keep_suiting.ensures
    c.values_are_valid.ensures
