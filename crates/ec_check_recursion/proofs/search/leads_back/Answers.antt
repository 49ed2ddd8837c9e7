use Rattle.std.proofs.Common.{◌∙◌, false, length}
use Rattle.std.proofs.lemmas.List.{length-replicate}
use Rattle.ec_check_recursion.proofs.Marks.{leads_back, begun}
use Rattle.ec_check_recursion.proofs.search.leads_back.Goals as goal

pub returns : goal.returns
returns c =
    let rows = c.args.rows.now in
    let f = c.args.function in
    let noted = rw (c.calls_at.ensures, c.new-waiting.ensures.items, c.requires.unmarked) at c.in_ok-note_all.ensures in
    let search =
    begun rows f c.note_all.new.marks c.note_all.new.waiting.items (noted.count ∙ length-replicate (length rows) false) noted in
    leads_back rows f c.go_on.new.marks c.requires.within (c.in_ok-go_on.ensures f search)
