use Rattle.std.proofs.Common.{◌≡◌, ◌+◌, ◌++◌, List, drop, map}
use Rattle.ec_core.specs.Layout.{plain_leaf}
use Rattle.ec_core.specs.PortTable.{plain_table}
use Rattle.ec_core.specs.Plain.{plain_exprs, plain_program}
use Rattle.ec_ir.specs.Operations.{PlainIr, plain_ir}
use Rattle.ec_lower_code.specs.Code.{exprs_labels, init_code}
use Rattle.ec_lower.proofs.statements.lower_values.Given as goal

abbrev pub invariant-loop-i : goal.invariant-loop-i
invariant-loop-i l =
    let program = plain_program l.program in
    (l.k + exprs_labels (plain_exprs (drop l.i l.values)) ≡ l.fn.l + exprs_labels (plain_exprs l.values))
    × ((rest : List PlainIr) → map plain_ir l.code.items ++ init_code program (plain_table l.io)
    (map plain_leaf (drop l.i l.leaves.items)) l.o (plain_exprs (drop l.i l.values)) l.k rest
    ≡ map plain_ir l.fn.code.items ++ init_code program (plain_table l.io) (map plain_leaf l.leaves.items) l.o
    (plain_exprs l.values) l.fn.l rest)
