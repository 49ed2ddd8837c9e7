use Rattle.ec_fx.specs.Conversions.{conversion_in}
use Rattle.ec_fx.specs.Numbers.{fraction_bits}
use Rattle.std.proofs.Common.{rules}
use Rattle.std.proofs.lemmas.Nat.{pow_pos}
use Rattle.ec_fx.proofs.Accuracy.{accurate_as}
use Rattle.ec_fx.proofs.conversions.convert.Goals as goal

pub returns-clause-accurate : goal.returns-clause-accurate
returns-clause-accurate c =
    accurate_as (conversion_in c.args.a c.args.to) c.args.to c.args.mode c.fit.result (pow_pos (fraction_bits c.args.a)) (search rules)
