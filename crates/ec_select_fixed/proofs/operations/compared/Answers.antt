use Rattle.ec_fxcode_quotients.proofs.Begun.{still_begins}
use Rattle.ec_fxcode_sums.specs.Orders.{order_code}
use Rattle.ec_select_fixed.proofs.operations.compared.Goals as goal

pub returns-clause-err : goal.returns-clause-err
returns-clause-err c =
    let x = c.args.first in
    let y = c.args.second in
    still_begins c.truth.result c.args.out.now.items c.order.new.out.items c.truth.new.out.items
    (order_code c.args.relation x.format y.format x.at y.at c.args.work x.bytes y.bytes) c.in_ok-order.ensures.ok
    c.truth.ensures.err
