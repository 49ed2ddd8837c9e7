use Rattle.ec_fxcode_quotients.proofs.Begun.{still_begins}
use Rattle.ec_fxcode_conversions.proofs.conversions.whole.Goals as goal

pub returns-clause-err : goal.returns-clause-err
returns-clause-err c =
    still_begins c.clamp.result c.args.out.now.items c.units.new.out.items c.clamp.new.out.items _ c.in_ok-units.ensures.ok
    c.clamp.ensures.err
