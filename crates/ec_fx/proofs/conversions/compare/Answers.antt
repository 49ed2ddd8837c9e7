use Rattle.std.proofs.Common.{arith}
use Rattle.ec_fx.specs.Numbers.{scaled, fraction_bits}
use Rattle.ec_fx.proofs.Bounds.{IsBounded, number_bounded, back_as, left_fits}
use Rattle.ec_fx.proofs.conversions.compare.Goals as goal

pub shifted_left-left-requires-clause-fits : goal.shifted_left-left-requires-clause-fits
shifted_left-left-requires-clause-fits c =
    let p : IsBounded (scaled c.args.a) (fraction_bits c.args.a) = number_bounded c.args.a c.requires.a_in in
    let q : IsBounded (scaled c.args.b) (fraction_bits c.args.b) = number_bounded c.args.b c.requires.b_in in
    rw (back_as c.scaled.result (scaled c.args.a) c.scaled.ensures (omega (arith, p.size)))
    (left_fits (scaled c.args.a) c.fraction_bits.result p.size (omega (arith, q.frac)))

pub shifted_left-right-requires-clause-fits : goal.shifted_left-right-requires-clause-fits
shifted_left-right-requires-clause-fits c =
    let p : IsBounded (scaled c.args.a) (fraction_bits c.args.a) = number_bounded c.args.a c.requires.a_in in
    let q : IsBounded (scaled c.args.b) (fraction_bits c.args.b) = number_bounded c.args.b c.requires.b_in in
    rw (back_as c.scaled-2.result (scaled c.args.b) c.scaled-2.ensures (omega (arith, q.size)))
    (left_fits (scaled c.args.b) c.fraction_bits-2.result q.size (omega (arith, p.frac)))
