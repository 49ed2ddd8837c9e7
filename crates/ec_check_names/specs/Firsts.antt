-- The index of the first token of a part of a tree, passed on.
pub use Rattle.ec_check_trees.specs.Firsts.{first_identifier, first_primary, first_postfix, first_unary, first_cast}
pub use Rattle.ec_check_trees.specs.Firsts.{first_binary, first_conditional, first_assignment, first_expression}
pub use Rattle.ec_check_trees.specs.Firsts.{first_spec, first_specs, first_type_name, first_param, first_initialiser}
pub use Rattle.ec_check_trees.specs.Firsts.{first_declaration, first_optional, first_compound, first_statement}
pub use Rattle.ec_check_trees.specs.Firsts.{first_item}
