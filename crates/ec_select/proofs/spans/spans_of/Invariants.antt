use Rattle.std.proofs.Common.{◌≡◌, ◌++◌, map, drop}
use Rattle.ec_core.specs.Plain.{plain_object, plain_struct}
use Rattle.ec_ir.specs.Operations.{plain_ir_program}
use Rattle.ec_select.specs.Program.{spans_from, spans_of}
use Rattle.ec_select.proofs.spans.spans_of.Given as goal

abbrev pub invariant-loop-o : goal.invariant-loop-o
invariant-loop-o l =
    l.spans.items ++ spans_from (map plain_struct l.ir.structs.items) l.o (drop l.o (map plain_object l.ir.objs.items))
    ≡ spans_of (plain_ir_program l.ir)
