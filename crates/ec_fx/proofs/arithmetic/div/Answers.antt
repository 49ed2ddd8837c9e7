use Rattle.std.proofs.Common.{rules}
use Rattle.ec_fx.specs.Arithmetic.{quotient_in}
use Rattle.ec_fx.specs.Numbers.{scaled, fraction_bits}
use Rattle.ec_fx.proofs.Accuracy.{accurate_as}
use Rattle.ec_fx.proofs.Bounds.{result_format, divisor_positive}
use Rattle.ec_fx.proofs.arithmetic.div.Goals as goal

pub quotient-requires-clause-known : goal.quotient-requires-clause-known
quotient-requires-clause-known c = (result_format c.args.a c.args.b c.args.to c.requires.a_in c.requires.b_in c.requires.permitted).0

pub fit-requires : goal.fit-requires
fit-requires c = (result_format c.args.a c.args.b c.args.to c.requires.a_in c.requires.b_in c.requires.permitted).0

pub returns-clause-accurate : goal.returns-clause-accurate
returns-clause-accurate c = λ nonzero. accurate_as (quotient_in c.args.a c.args.b c.args.to) c.args.to c.args.mode c.fit.result
    (divisor_positive (scaled c.args.b) (fraction_bits c.args.a) nonzero) (search rules)
