use Rattle.ec_check_statements.proofs.KeptStatements.{kept_bodies_have_meanings}
use Rattle.ec_check_statements.proofs.laws.kept_bodies_have_meanings.Goals as goal

pub returns : goal.returns
returns c =
    kept_bodies_have_meanings c.blocks_end.ensures c.kept_expressions_have_meanings.ensures c.kept_forms_have_meanings.ensures
    c.kept_types_are_said.ensures
    c.sizes_are_values.ensures c.declarations_keep_suiting.ensures
