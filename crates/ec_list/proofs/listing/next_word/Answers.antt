use Rattle.std.proofs.Common.{◌∙◌, ap}
use Rattle.ec_list.specs.Walking.{word_in}
use Rattle.ec_list.proofs.Walk.{behind_both}
use Rattle.ec_list.proofs.listing.next_word.Goals as goal

pub returns : goal.returns
returns c =
    c.word_in.ensures
    ∙ ap word_in (behind_both c.args.bytes.now c.args.written.now 2 c.behind.result.now c.behind-2.result.now c.behind.ensures
    c.behind-2.ensures)
