use Rattle.std.proofs.Common.{◌≡◌, ◌+◌, drop}
use Rattle.std.specs.Prelude.{max}
use Rattle.std.specs.Option.{option_copied}
use Rattle.ec_core.specs.Needs.{stmts_need}
use Rattle.ec_core.specs.Plain.{plain_stmt, plain_stmts}
use Rattle.ec_lower.specs.Emits.{plain_other}
use Rattle.ec_lower.specs.Sizes.{stmt_size, option_stmt_size, stmts_size}
use Rattle.ec_lower.proofs.extents.+places.Given as goal

abbrev pub decreases-stmt_places : goal.decreases-stmt_places
decreases-stmt_places l = stmt_size (plain_stmt l.s.now)

abbrev pub decreases-branch_places : goal.decreases-branch_places
decreases-branch_places l = stmt_size (plain_stmt l.a.now) + option_stmt_size (plain_other (option_copied l.b)) + 1

abbrev pub decreases-loop_places : goal.decreases-loop_places
decreases-loop_places l = stmt_size (plain_stmt l.body.now) + 1

abbrev pub decreases-for_places : goal.decreases-for_places
decreases-for_places l = stmt_size (plain_stmt l.first.now) + stmt_size (plain_stmt l.body.now) + 2

abbrev pub decreases-other_places : goal.decreases-other_places
decreases-other_places l = option_stmt_size (plain_other (option_copied l.s))

abbrev pub decreases-stmts_places : goal.decreases-stmts_places
decreases-stmts_places l = stmts_size (plain_stmts l.ss.now)

abbrev pub invariant-stmts_places-loop-s : goal.invariant-stmts_places-loop-s
invariant-stmts_places-loop-s l = max l.most (stmts_need (plain_stmts (drop l.s-index l.ss))) ≡ stmts_need (plain_stmts l.ss)
