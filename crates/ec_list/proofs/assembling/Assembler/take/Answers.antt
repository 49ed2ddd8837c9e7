use Rattle.std.proofs.Common.{◌+◌, ap, refl}
use Rattle.ec_list.proofs.Taking.{taken_more}
use Rattle.ec_list.proofs.assembling.Assembler.take.Goals as goal

pub returns-clause-takes : goal.returns-clause-takes
returns-clause-takes c = λ lines taken. (
  c.in-Ok.line,
  (
    c.in-Ok.ensures.is_line,
    taken_more lines c.in-Ok.line c.args.text.now c.args.self.now _ taken c.in-Ok.ensures c.write_item.ensures.core
        c.write_item.ensures.bytes c.write_item.ensures.written refl (ap (λ n. c.in-Ok.line.at + n) c.size.ensures),
  ),
)
