use Rattle.std.proofs.Common.{◌≡◌, ◌++◌, map}
use Rattle.ec_ir.specs.Operations.{plain_ir_program}
use Rattle.ec_select.specs.Labels.{first_label}
use Rattle.ec_select.specs.Program.{functions_with}
use Rattle.ec_select.specs.Seen.{plain_row, tables_in}
use Rattle.ec_select.specs.Sharing.{routine_among}
use Rattle.ec_select.proofs.functions.add_functions.Given as goal

abbrev pub invariant-loop-f : goal.invariant-loop-f
invariant-loop-f l = record {
  first : l.first ≡ first_label (plain_ir_program l.ir).functions l.f;
  written : l.out.items ≡ l.fn.out.items ++ functions_with l.core (plain_ir_program l.ir)
      (routine_among l.routines (map plain_row l.rows)) (tables_in l.tables) l.f;
}
