use Rattle.ec_check_expression_laws.proofs.KeptExpressions.{kept_expressions_have_meanings}
use Rattle.ec_check_expression_laws.proofs.laws.kept_expressions_have_meanings.Goals as goal

pub returns : goal.returns
returns c =
    kept_expressions_have_meanings c.types_are_told.ensures c.kept_forms_have_meanings.ensures c.kept_members_have_meanings.ensures
