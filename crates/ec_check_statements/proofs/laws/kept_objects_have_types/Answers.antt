use Rattle.ec_check_statements.proofs.KeptTypes.{kept_objects_have_types, kept_members_have_types}
use Rattle.ec_check_statements.proofs.laws.kept_objects_have_types.Goals as goal

pub returns-clause-objects : goal.returns-clause-objects
returns-clause-objects c =
    kept_objects_have_types c.kept_expressions_have_meanings.ensures c.sizes_are_values.ensures c.kept_types_are_said.ensures

pub returns-clause-members : goal.returns-clause-members
returns-clause-members c =
    kept_members_have_types c.kept_expressions_have_meanings.ensures c.sizes_are_values.ensures c.kept_types_are_said.ensures
