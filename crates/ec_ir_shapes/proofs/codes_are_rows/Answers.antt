use Rattle.ec_ir_shapes.proofs.Rows.{codes_are_rows}
use Rattle.ec_ir_shapes.proofs.codes_are_rows.Goals as goal

pub returns : goal.returns
returns c = codes_are_rows
