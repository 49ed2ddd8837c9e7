use Rattle.std.proofs.Common.{◌∙◌, sym, false, rules, lit<}
use Rattle.std.proofs.Math.Nat.{one-le-pow}
use Rattle.ec_fx.specs.Constants.{exact_constant}
use Rattle.ec_fx.proofs.Accuracy.{accurate_as, one_accurate}
use Rattle.ec_fx.proofs.constants.constant.Goals as goal

pub returns-then-is_exactly_one-clause-accurate : goal.returns-then-is_exactly_one-clause-accurate
returns-then-is_exactly_one-clause-accurate c =
    one_accurate c.args.digits c.args.places c.args.to _ (sym c.is_exactly_one.ensures ∙ c.if-is_exactly_one.true)

pub returns-clause-accurate : goal.returns-clause-accurate
returns-clause-accurate c = accurate_as (exact_constant c.args.digits c.args.places c.args.to) c.args.to
    (record { saturate = false }) c.fit.result (one-le-pow c.args.places 10 (lit< tt)) (search rules)
