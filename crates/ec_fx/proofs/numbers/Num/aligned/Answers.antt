use Rattle.std.proofs.Common.{◌-◌, ◌^◌, ℤ, pos, ◌*ℤ◌, arith, ap, ◌∙◌}
use Rattle.ec_fx.specs.Numbers.{scaled, fraction_bits}
use Rattle.ec_fx.proofs.Bounds.{IsBounded, number_bounded, back_as, size_shifted}
use Rattle.ec_fx.proofs.numbers.Num.aligned.Goals as goal

pub shifted_left-requires-clause-fits : goal.shifted_left-requires-clause-fits
shifted_left-requires-clause-fits c =
    let b : IsBounded (scaled c.args.self) (fraction_bits c.args.self) = number_bounded c.args.self c.requires.self_in in
    let e = back_as c.scaled.result (scaled c.args.self) c.scaled.ensures (omega (arith, b.size)) in
    rw e (omega (arith, (size_shifted (scaled c.args.self) (c.args.frac - c.fraction_bits.result) b.size (omega arith)).0))

pub returns-clause-bound : goal.returns-clause-bound
returns-clause-bound c =
    let b : IsBounded (scaled c.args.self) (fraction_bits c.args.self) = number_bounded c.args.self c.requires.self_in in
    let s = (size_shifted (scaled c.args.self) (c.args.frac - c.fraction_bits.result) b.size (omega arith)).1 in
    let e = back_as c.scaled.result (scaled c.args.self) c.scaled.ensures (omega (arith, b.size)) in
    let r = c.shifted_left.ensures ∙ ap (λ (z : ℤ). z *ℤ pos (2 ^ (c.args.frac - c.fraction_bits.result))) e in
    rw (back_as c.shifted_left.result _ r (omega (arith, s))) s
