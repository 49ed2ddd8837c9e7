use Rattle.std.proofs.Common.{◌≡◌, length}
use Rattle.ec_ir.specs.Operations.{plain_ir_program}
use Rattle.ec_select.specs.Seen.{tables_in}
use Rattle.ec_select.specs.Selected.{AreTables}
use Rattle.ec_select.proofs.tables.tables_of.Given as goal

abbrev pub invariant-loop-f : goal.invariant-loop-f
invariant-loop-f l = record {
  are : AreTables (plain_ir_program l.ir) (tables_in l.tables.items) l.f;
  count : length l.tables.items ≡ l.f;
}
