use Rattle.std.proofs.Common.{◌≡◌, drop}
use Rattle.ec_core.specs.Plain.{plain_program, plain_stmt, plain_stmts}
use Rattle.ec_core_steps.specs.Laws.{first_site, stmts_uncounted}
use Rattle.ec_core_steps.proofs.uncounted.+statements.Given as goal

-- what was found, or else the first loop of the statements that are left, is the first of all
abbrev pub invariant-in_stmts-loop-stmt : goal.invariant-in_stmts-loop-stmt
invariant-in_stmts-loop-stmt l =
    first_site l.first (stmts_uncounted (plain_program l.within.program.now) l.within.function (plain_stmt l.within.body.now)
    (plain_stmts (drop l.stmt-index l.stmts)))
    ≡ stmts_uncounted (plain_program l.within.program.now) l.within.function (plain_stmt l.within.body.now) (plain_stmts l.stmts)
