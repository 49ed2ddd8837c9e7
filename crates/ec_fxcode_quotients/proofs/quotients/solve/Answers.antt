use Rattle.ec_fxcode_quotients.specs.Quotients.{turns_code}
use Rattle.ec_fxcode_quotients.proofs.Begun.{still_begins}
use Rattle.ec_fxcode_quotients.proofs.quotients.solve.Goals as goal

pub returns-clause-err : goal.returns-clause-err
returns-clause-err c =
    still_begins c.finish_quotient.result c.args.out.now.items c.turns.new.out.items c.finish_quotient.new.out.items
    (turns_code c.args.work c.args.divisor_bytes c.args.bytes) c.in_ok-turns.ensures.ok c.finish_quotient.ensures.err
