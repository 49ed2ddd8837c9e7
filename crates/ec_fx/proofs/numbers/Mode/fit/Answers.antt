use Rattle.std.proofs.Common.{rules}
use Rattle.ec_fx.specs.Ranges.{least, greatest}
use Rattle.ec_fx.proofs.Accuracy.{clamped_format, greatest_fixed, least_fixed}
use Rattle.ec_fx.proofs.numbers.Mode.fit.Goals as goal

pub returns-then-n-greatest-clause-format : goal.returns-then-n-greatest-clause-format
returns-then-n-greatest-clause-format c = clamped_format c.args.to c.args.self (greatest c.args.to.signed c.args.to.bits) c.clamped.result
    (greatest_fixed c.args.to c.requires) (search rules)

pub returns-then-n-least-clause-format : goal.returns-then-n-least-clause-format
returns-then-n-least-clause-format c = clamped_format c.args.to c.args.self
    (least c.args.to.signed c.args.to.bits) c.clamped-then-n-least.result (least_fixed c.args.to c.requires) (search rules)
