use Rattle.std.proofs.Common.{ℕ, ℤ, ◌<◌, Bool, true, false, rules, lit<}
use Rattle.std.proofs.lemmas.Nat.{pow_pos}
use Rattle.ec_fx.specs.Arithmetic.{exact_shift}
use Rattle.ec_fx.proofs.Accuracy.{accurate_as}
use Rattle.ec_fx.proofs.arithmetic.shift.Goals as goal

positive : (x : ℤ) (count : ℕ) (left : Bool) → 0 < (exact_shift x count left).denominator
positive x count true = lit< tt
positive x count false = pow_pos count

pub returns-clause-accurate : goal.returns-clause-accurate
returns-clause-accurate c = accurate_as (exact_shift c.args.a.n c.args.count c.args.left) c.args.a.format c.args.mode c.fit.result
    (positive c.args.a.n c.args.count c.args.left) (search rules)
