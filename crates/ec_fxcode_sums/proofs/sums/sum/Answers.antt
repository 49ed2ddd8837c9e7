use Rattle.ec_fxcode_quotients.proofs.Begun.{still_begins}
use Rattle.ec_fxcode_sums.specs.Sums.{align_code}
use Rattle.ec_fxcode_sums.proofs.sums.sum.Goals as goal

pub returns-clause-err : goal.returns-clause-err
returns-clause-err c =
    let first = c.args.first in
    let second = c.args.second in
    still_begins c.combine.result c.args.out.now.items c.align.new.out.items c.combine.new.out.items
    (align_code first.format second.format first.at second.at c.args.work first.bytes second.bytes c.sum_bytes-wide.result)
    c.in_ok-align.ensures.ok c.combine.ensures.err
