use Rattle.std.proofs.Common.{◌∙◌, ap, arith}
use Rattle.std.proofs.lemmas.List.{length-map}
use Rattle.ec_core.specs.Plain.{plain_function, plain_program}
use Rattle.ec_check_recursion.specs.Rows.{plain_rows}
use Rattle.ec_core_steps.proofs.Marks.{rows_counted}
use Rattle.ec_core_steps.proofs.bounds.first_uncounted.Goals as goal

pub first_reached-requires-clause-rows : goal.first_reached-requires-clause-rows
first_reached-requires-clause-rows c = ap plain_rows c.as_slice.ensures ∙ c.in_ok-rows.ensures

pub first_reached-requires-clause-few : goal.first_reached-requires-clause-few
first_reached-requires-clause-few c =
    let rows = rows_counted (plain_program c.args.program.now) c.in_ok-rows.rows.items c.in_ok-rows.ensures in
    let funcs = length-map c.args.program.now.funcs.items plain_function in
    rw c.as_slice.ensures (omega (arith, rows, funcs, c.requires))
