use Rattle.std.proofs.Common.{[], ◌∷◌, take, get_or}
use Rattle.std.proofs.lemmas.List.{take_more}
use Rattle.ec_check_recursion.proofs.Marks.{noted_joined}
use Rattle.ec_check_recursion.proofs.search.note_all.Goals as goal

pub loop-function-preserved : goal.loop-function-preserved
loop-function-preserved c =
    let row = c.args.row.now in
    let i = c.loop-function.function-index in
    let more = take_more row i 0 c.loop-function-test.true in
    rw more
    (noted_joined (take i row) (get_or row i 0 ∷ []) c.args.marks.now c.loop-function.marks c.note.new.marks c.args.waiting.now.items
    c.loop-function.waiting.items c.note.new.waiting.items c.loop-function.invariant c.in_ok-note.ensures)
