use Rattle.std.proofs.Common.{◌+◌, rules}
use Rattle.std.proofs.lemmas.Nat.{pow_pos}
use Rattle.ec_fx.specs.Arithmetic.{difference_in}
use Rattle.ec_fx.specs.Numbers.{fraction_bits}
use Rattle.ec_fx.proofs.Accuracy.{accurate_as}
use Rattle.ec_fx.proofs.arithmetic.sub.Goals as goal

pub returns-clause-accurate : goal.returns-clause-accurate
returns-clause-accurate c = accurate_as (difference_in c.args.a c.args.b c.args.to) c.args.to c.args.mode c.fit.result
    (pow_pos (fraction_bits c.args.a + fraction_bits c.args.b)) (search rules)
