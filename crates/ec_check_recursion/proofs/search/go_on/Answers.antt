use Rattle.std.proofs.Common.{◌≡◌, []}
use Rattle.ec_check_recursion.specs.Rows.{plain_rows}
use Rattle.ec_check_recursion.proofs.Marks.{search_goes_on, search_ends, none_popped}
use Rattle.ec_check_recursion.proofs.search.go_on.Goals as goal

pub loop-function-preserved : goal.loop-function-preserved
loop-function-preserved c f s =
    let rows = plain_rows c.args.rows.now in
    let h = c.in-Some.function in
    search_goes_on rows f h c.loop-function.marks c.note_all.new.marks c.pop.new.self.items c.note_all.new.waiting.items
    (rw c.in-Some.ensures.items at (c.loop-function.invariant f s)) (rw c.calls_by_number.ensures at c.in_ok-note_all.ensures)

pub returns : goal.returns
returns c f s =
    let popped = c.in_default.ensures in
    let none : c.loop-function.waiting.items ≡ [] =
    none_popped c.loop-function.waiting.items c.pop.new.self.items c.loop-function.waiting.len popped.items popped.rest popped.cases.0 in
    search_ends (plain_rows c.args.rows.now) f c.loop-function.marks (rw none at (c.loop-function.invariant f s))
