-- How many objects and functions the units of a program declare, passed on.
pub use Rattle.ec_check_trees.specs.Counts.{most_objects, most_functions, is_function, objects_in_shape}
pub use Rattle.ec_check_trees.specs.Counts.{objects_in_declarator, objects_in_more, objects_in_declaration}
pub use Rattle.ec_check_trees.specs.Counts.{objects_in_params, objects_in_first, objects_in_heading}
pub use Rattle.ec_check_trees.specs.Counts.{objects_in_statement, objects_in_item, objects_in_items}
pub use Rattle.ec_check_trees.specs.Counts.{objects_in_function, objects_in_external, objects_in_externals}
pub use Rattle.ec_check_trees.specs.Counts.{objects_in_unit, objects_declared, functions_in_external}
pub use Rattle.ec_check_trees.specs.Counts.{functions_in_externals, functions_in_unit, functions_defined}
