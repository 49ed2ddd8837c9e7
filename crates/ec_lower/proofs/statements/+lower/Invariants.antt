use Rattle.std.proofs.Common.{◌≡◌, ◌+◌, ◌++◌, List, drop, map}
use Rattle.ec_core.specs.PortTable.{plain_table}
use Rattle.ec_core.specs.Plain.{plain_stmt, plain_stmts, plain_program}
use Rattle.ec_ir.specs.Operations.{PlainIr, plain_ir}
use Rattle.ec_lower.specs.Sizes.{stmt_size, stmts_size}
use Rattle.ec_lower_code.specs.Code.{stmts_labels, stmts_code}
use Rattle.ec_lower.proofs.statements.+lower.Given as goal

abbrev pub decreases-lower_stmt : goal.decreases-lower_stmt
decreases-lower_stmt l = stmt_size (plain_stmt l.s.now)

abbrev pub decreases-lower_stmts : goal.decreases-lower_stmts
decreases-lower_stmts l = stmts_size (plain_stmts l.ss.now)

abbrev pub decreases-lower_if : goal.decreases-lower_if
decreases-lower_if l = stmt_size (plain_stmt l.a.now) + 1

abbrev pub decreases-lower_if_else : goal.decreases-lower_if_else
decreases-lower_if_else l = stmt_size (plain_stmt l.a.now) + stmt_size (plain_stmt l.b.now) + 1

abbrev pub decreases-lower_loop : goal.decreases-lower_loop
decreases-lower_loop l = stmt_size (plain_stmt l.body.now) + 2

abbrev pub decreases-lower_turns : goal.decreases-lower_turns
decreases-lower_turns l = stmt_size (plain_stmt l.body.now) + 1

abbrev pub invariant-lower_stmts-loop-s : goal.invariant-lower_stmts-loop-s
invariant-lower_stmts-loop-s l =
    let program = plain_program l.program in
    (l.k + stmts_labels (plain_stmts (drop l.s-index l.ss)) ≡ l.fn.l + stmts_labels (plain_stmts l.ss))
    × ((rest : List PlainIr) → map plain_ir l.code.items ++ stmts_code program (plain_table l.io)
    (plain_stmts (drop l.s-index l.ss)) l.k l.out l.on rest
    ≡ map plain_ir l.fn.code.items ++ stmts_code program (plain_table l.io) (plain_stmts l.ss) l.fn.l l.out l.on rest)

abbrev pub decreases-lower_for : goal.decreases-lower_for
decreases-lower_for l = stmt_size (plain_stmt l.first.now) + stmt_size (plain_stmt l.body.now) + 3
