use Rattle.std.proofs.Common.{◌^◌, ◌∙◌, ap, ℤ, pos, ◌*ℤ◌, arith}
use Rattle.ec_fx.specs.Numbers.{scaled, fraction_bits}
use Rattle.ec_fx.proofs.Bounds.{IsBounded, HasBits, format_bits, number_bounded, back_as, left_fits, size_shifted}
use Rattle.ec_fx.proofs.conversions.converted.Goals as goal

pub shifted_left-scaled-requires-clause-fits : goal.shifted_left-scaled-requires-clause-fits
shifted_left-scaled-requires-clause-fits c =
    let p : IsBounded (scaled c.args.a) (fraction_bits c.args.a) = number_bounded c.args.a c.requires.a_in in
    let f : HasBits c.args.to = format_bits c.args.to c.requires.known in
    rw (back_as c.scaled.result (scaled c.args.a) c.scaled.ensures (omega (arith, p.size)))
    (left_fits (scaled c.args.a) c.args.to.frac p.size (omega (arith, f.frac)))

pub shifted_right-requires-clause-fits : goal.shifted_right-requires-clause-fits
shifted_right-requires-clause-fits c =
    let p : IsBounded (scaled c.args.a) (fraction_bits c.args.a) = number_bounded c.args.a c.requires.a_in in
    let f : HasBits c.args.to = format_bits c.args.to c.requires.known in
    let s = (size_shifted (scaled c.args.a) c.args.to.frac p.size f.frac).1 in
    let e = back_as c.scaled.result (scaled c.args.a) c.scaled.ensures (omega (arith, p.size)) in
    let r = c.shifted_left-scaled.ensures ∙ ap (λ (z : ℤ). z *ℤ pos (2 ^ c.args.to.frac)) e in
    rw (back_as c.shifted_left-scaled.result _ r (omega (arith, s))) (omega (arith, s))
