use Rattle.ec_check_statements.proofs.DeclaredTypes.{declared_types_are_placed}
use Rattle.ec_check_statements.proofs.laws.declared_types_are_placed.Goals as goal

pub returns : goal.returns
returns c = declared_types_are_placed c.structs_are_laid_out.ensures c.said_types_are_placed.ensures c.sizes_are_values.ensures
