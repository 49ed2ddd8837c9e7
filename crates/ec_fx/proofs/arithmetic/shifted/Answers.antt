use Rattle.std.proofs.Common.{arith}
use Rattle.ec_fx.proofs.Bounds.{IsBounded, HasBits, format_bits, fixed_bounded, back, left_fits}
use Rattle.ec_fx.proofs.arithmetic.shifted.Goals as goal

pub shifted_left-requires-clause-fits : goal.shifted_left-requires-clause-fits
shifted_left-requires-clause-fits c =
    let f : HasBits c.args.a.format = format_bits c.args.a.format c.requires.a_in.known in
    let p : IsBounded c.args.a.n c.args.a.format.frac = fixed_bounded c.args.a c.requires.a_in in
    rw (back c.args.a.n (omega (arith, p.size))) (left_fits c.args.a.n c.args.count p.size (omega (arith, f.most)))
