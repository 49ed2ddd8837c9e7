use Rattle.std.proofs.Common.{◌∙◌, ap}
use Rattle.ec_core.specs.Plain.{plain_program}
use Rattle.ec_check_recursion.specs.Rows.{plain_rows}
use Rattle.ec_check_recursion.proofs.Callers.{answers}
use Rattle.ec_check_recursion.proofs.recursion.first_recursive.Goals as goal

pub returns-clause-found : goal.returns-clause-found
returns-clause-found c =
    let rows = ap plain_rows c.as_slice.ensures ∙ c.in_ok-rows.ensures in
    let told = answers (plain_program c.args.program.now) c.in_ok-place.place (rw rows at c.in_ok-place.ensures.found)
    (rw rows at c.in_ok-place.ensures.none) in
    rw c.number_of.ensures told.found

pub returns-clause-none : goal.returns-clause-none
returns-clause-none c =
    let rows = ap plain_rows c.as_slice.ensures ∙ c.in_ok-rows.ensures in
    let told = answers (plain_program c.args.program.now) c.in_ok-place.place (rw rows at c.in_ok-place.ensures.found)
    (rw rows at c.in_ok-place.ensures.none) in
    rw c.number_of.ensures told.none
