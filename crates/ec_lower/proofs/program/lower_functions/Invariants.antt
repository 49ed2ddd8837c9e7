use Rattle.std.proofs.Common.{◌≡◌, map, take}
use Rattle.ec_core.specs.PortTable.{plain_table}
use Rattle.ec_core.specs.Plain.{plain_function, plain_program}
use Rattle.ec_ir.specs.Operations.{plain_ir_function}
use Rattle.ec_lower_code.specs.Code.{lowered_function}
use Rattle.ec_lower.proofs.program.lower_functions.Given as goal

abbrev pub invariant-loop-f : goal.invariant-loop-f
invariant-loop-f l =
    map plain_ir_function l.funcs.items ≡ map (lowered_function (plain_program l.program) (plain_table l.io))
    (map plain_function (take l.f-index l.program.funcs.items))
