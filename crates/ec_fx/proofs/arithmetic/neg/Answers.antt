use Rattle.std.proofs.Common.{rules, lit<}
use Rattle.ec_fx.specs.Arithmetic.{exact_negation}
use Rattle.ec_fx.proofs.Accuracy.{accurate_as}
use Rattle.ec_fx.proofs.arithmetic.neg.Goals as goal

pub returns-clause-accurate : goal.returns-clause-accurate
returns-clause-accurate c = accurate_as (exact_negation c.args.a.n) c.args.a.format c.args.mode c.fit.result (lit< tt) (search rules)
