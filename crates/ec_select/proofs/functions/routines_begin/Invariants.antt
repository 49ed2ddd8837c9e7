use Rattle.std.proofs.Common.{◌≡◌}
use Rattle.ec_ir.specs.Operations.{plain_ir_program}
use Rattle.ec_select.specs.Labels.{first_label}
use Rattle.ec_select.proofs.functions.routines_begin.Given as goal

abbrev pub invariant-loop-g : goal.invariant-loop-g
invariant-loop-g l = l.begin ≡ first_label (plain_ir_program l.ir).functions l.g-index
