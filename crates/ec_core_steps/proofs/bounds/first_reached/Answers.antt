use Rattle.std.proofs.Common.{refl, arith}
use Rattle.ec_core.specs.Plain.{plain_program}
use Rattle.ec_core_steps.proofs.Firsts.{answers_first}
use Rattle.ec_core_steps.proofs.Marks.{rows_counted}
use Rattle.ec_core_steps.proofs.bounds.first_reached.Goals as goal

pub first_marked-requires : goal.first_marked-requires
first_marked-requires c =
    let p = plain_program c.args.program.now in
    let marked = c.mark_reached.ensures p c.requires.rows refl in
    let rows = rows_counted p c.args.rows.now c.requires.rows in
    omega (arith, marked.count, rows, c.requires.few)

pub returns-clause-found : goal.returns-clause-found
returns-clause-found c =
    let p = plain_program c.args.program.now in
    (answers_first p c.mark_reached.new.marks (c.mark_reached.ensures p c.requires.rows refl) c.first_marked.result
    c.first_marked.ensures).found

pub returns-clause-none : goal.returns-clause-none
returns-clause-none c =
    let p = plain_program c.args.program.now in
    (answers_first p c.mark_reached.new.marks (c.mark_reached.ensures p c.requires.rows refl) c.first_marked.result
    c.first_marked.ensures).none
