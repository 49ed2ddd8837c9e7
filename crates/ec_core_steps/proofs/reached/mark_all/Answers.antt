use Rattle.std.proofs.Common.{[], ◌∷◌, take, get_or}
use Rattle.std.proofs.lemmas.List.{take_more}
use Rattle.ec_core_steps.proofs.Marks.{none_marked, marked_joined}
use Rattle.ec_core_steps.proofs.reached.mark_all.Goals as goal

pub loop-function-init : goal.loop-function-init
loop-function-init c = none_marked c.args.marks.now

pub loop-function-preserved : goal.loop-function-preserved
loop-function-preserved c =
    let row = c.args.row.now in
    let i = c.loop-function.function-index in
    let more = take_more row i 0 c.loop-function-test.true in
    rw more
    (marked_joined (take i row) (get_or row i 0 ∷ []) c.args.marks.now c.loop-function.marks c.mark-more.new.marks
    c.loop-function.grown c.mark-more.result c.either-grown.result c.loop-function.invariant c.mark-more.ensures
    c.either-grown.ensures)
