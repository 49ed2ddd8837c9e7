use Rattle.std.proofs.Common.{◌-◌}
use Rattle.ec_fxcode_quotients.specs.Quotients.{ready_code}
use Rattle.ec_fxcode_quotients.proofs.Begun.{still_begins}
use Rattle.ec_fxcode_quotients.proofs.quotients.divide.Goals as goal

pub returns-clause-err : goal.returns-clause-err
returns-clause-err c =
    let of = c.args.of in
    let low = c.max-bytes.result - of.bytes in
    still_begins c.solve.result c.args.out.now.items c.ready.new.out.items c.solve.new.out.items
    (ready_code of.signed of.divisor_signed of.number of.divisor c.args.work of.bytes of.divisor_bytes low c.args.bits)
    c.in_ok-ready.ensures.ok c.solve.ensures.err
