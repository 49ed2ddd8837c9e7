-- What the operations of a program count by shapes.
use Rattle.std.specs.Prelude.{◌+◌, ◌≤◌}
use Rattle.ec_iohw.specs.declared.table.IoTable.{IoTable}
use Rattle.ec_core.specs.Plain.{PlainProgram}
use Rattle.ec_core.specs.PortTable.{plain_table}
use Rattle.ec_core.specs.Valid.{Valid}
use Rattle.ec_core.specs.Weight.{objects_weight}
use Rattle.ec_core.specs.Words.{program_words}
use Rattle.ec_ir.specs.Operations.{PlainIrProgram}
use Rattle.ec_lower_code.specs.Code.{lowered}
use Rattle.ec_core_shapes.specs.SharedWeight.{shared_weight}
use Rattle.ec_ir_shapes.specs.Costs.{functions_words_by_shapes}

-- the words of the operations by shapes, with the rows of the program and its objects, are within the weight by shapes
abbrev pub CountsByShapes : PlainProgram → IoTable → PlainIrProgram → Type 0
CountsByShapes program io ir =
    program_words + objects_weight program.objects + functions_words_by_shapes ir.functions
    ≤ shared_weight program (plain_table io)

abbrev pub LoweredCountsByShapes : Type 0
LoweredCountsByShapes =
    (program : PlainProgram) (io : IoTable) → Valid program io → CountsByShapes program io (lowered program (plain_table io))
