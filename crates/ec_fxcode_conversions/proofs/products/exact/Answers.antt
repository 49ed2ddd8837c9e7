use Rattle.ec_fxcode_quotients.proofs.Begun.{still_begins}
use Rattle.ec_fxcode_conversions.proofs.products.exact.Goals as goal

pub returns-clause-err : goal.returns-clause-err
returns-clause-err c =
    still_begins c.units.result c.args.out.now.items c.multiply.new.out.items c.units.new.out.items _
    c.in_ok-multiply.ensures.ok c.units.ensures.err
