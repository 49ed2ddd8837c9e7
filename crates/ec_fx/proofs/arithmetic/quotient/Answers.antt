use Rattle.std.proofs.Common.{◌≡◌, ℕ, ◌+◌, ◌-◌, ◌*◌, ◌^◌, ◌≤◌, ◌∙◌, ap, min, ℤ, pos, ◌*ℤ◌, unsigned_abs, to_z, of_z, arith}
use Rattle.std.specs.Int.{w128}
use Rattle.std.proofs.lemmas.Int.{unsigned_abs-mul}
use Rattle.ec_fx.specs.Arithmetic.{turned}
use Rattle.ec_fx.specs.Numbers.{scaled, fraction_bits}
use Rattle.ec_fx.specs.Rounding.{trunc}
use Rattle.ec_fx.proofs.Bounds.{IsBounded, HasBits, number_bounded, format_bits, back_as, returned, left_fits, numerator_fits, size_shifted}
use Rattle.ec_fx.proofs.Bounds.{shifted_back, divisor_positive}
use Rattle.ec_fx.proofs.Scaling.{quotient_reduced}
use Rattle.ec_fx.proofs.arithmetic.quotient.Goals as goal

pub shifted_left-numerator-requires-clause-fits : goal.shifted_left-numerator-requires-clause-fits
shifted_left-numerator-requires-clause-fits c =
    let p : IsBounded (scaled c.args.a) (fraction_bits c.args.a) = number_bounded c.args.a c.requires.a_in in
    let q : IsBounded (scaled c.args.b) (fraction_bits c.args.b) = number_bounded c.args.b c.requires.b_in in
    let t : HasBits c.args.to = format_bits c.args.to c.requires.known in
    let up : ℕ = c.fraction_bits.result + c.args.to.frac in
    let few : up ≤ 64 = omega (arith, c.fraction_bits.ensures, q.frac, t.frac) in
    let least : c.min-common.result ≡ min up (fraction_bits c.args.a) = omega (arith, c.min-common.ensures, c.fraction_bits-down.ensures) in
    rw (back_as c.scaled.result (scaled c.args.a) c.scaled.ensures (omega (arith, p.size)))
    (omega (arith, numerator_fits (scaled c.args.a) (fraction_bits c.args.a) up c.min-common.result p few least))

pub shifted_left-denominator-requires-clause-fits : goal.shifted_left-denominator-requires-clause-fits
shifted_left-denominator-requires-clause-fits c =
    let p : IsBounded (scaled c.args.a) (fraction_bits c.args.a) = number_bounded c.args.a c.requires.a_in in
    let q : IsBounded (scaled c.args.b) (fraction_bits c.args.b) = number_bounded c.args.b c.requires.b_in in
    let few : c.fraction_bits-down.result - c.min-common.result ≤ 63 = omega (arith, c.fraction_bits-down.ensures, p.frac) in
    rw (back_as c.scaled-2.result (scaled c.args.b) c.scaled-2.ensures (omega (arith, q.size)))
    (left_fits (scaled c.args.b) (c.fraction_bits-down.result - c.min-common.result) q.size few)

pub turned-requires : goal.turned-requires
turned-requires c =
    let p : IsBounded (scaled c.args.a) (fraction_bits c.args.a) = number_bounded c.args.a c.requires.a_in in
    let q : IsBounded (scaled c.args.b) (fraction_bits c.args.b) = number_bounded c.args.b c.requires.b_in in
    let t : HasBits c.args.to = format_bits c.args.to c.requires.known in
    let up : ℕ = c.fraction_bits.result + c.args.to.frac in
    let few : up ≤ 64 = omega (arith, c.fraction_bits.ensures, q.frac, t.frac) in
    let least : c.min-common.result ≡ min up (fraction_bits c.args.a) = omega (arith, c.min-common.ensures, c.fraction_bits-down.ensures) in
    let k : ℕ = up - c.min-common.result in
    let e = shifted_back c.shifted_left-numerator.result c.scaled.result
    (scaled c.args.a) k c.shifted_left-numerator.type_inv p.size c.scaled.ensures c.shifted_left-numerator.ensures in
    rw (e, unsigned_abs-mul (scaled c.args.a) (pos (2 ^ k)))
    (omega (arith, numerator_fits (scaled c.args.a) (fraction_bits c.args.a) up c.min-common.result p few least))

pub round-requires-clause-positive : goal.round-requires-clause-positive
round-requires-clause-positive c =
    let q : IsBounded (scaled c.args.b) (fraction_bits c.args.b) = number_bounded c.args.b c.requires.b_in in
    let k : ℕ = c.fraction_bits-down.result - c.min-common.result in
    let e = shifted_back c.shifted_left-denominator.result c.scaled-2.result
    (scaled c.args.b) k c.shifted_left-denominator.type_inv q.size c.scaled-2.ensures c.shifted_left-denominator.ensures in
    rw (c.unsigned_abs.ensures.value, e, unsigned_abs-mul (scaled c.args.b) (pos (2 ^ k)))
    (divisor_positive (scaled c.args.b) k c.requires.nonzero)

pub round-requires-clause-small : goal.round-requires-clause-small
round-requires-clause-small c =
    let p : IsBounded (scaled c.args.a) (fraction_bits c.args.a) = number_bounded c.args.a c.requires.a_in in
    let q : IsBounded (scaled c.args.b) (fraction_bits c.args.b) = number_bounded c.args.b c.requires.b_in in
    let k : ℕ = c.fraction_bits-down.result - c.min-common.result in
    let few : k ≤ 32 = omega (arith, c.fraction_bits-down.ensures, p.frac) in
    let e = shifted_back c.shifted_left-denominator.result c.scaled-2.result
    (scaled c.args.b) k c.shifted_left-denominator.type_inv q.size c.scaled-2.ensures c.shifted_left-denominator.ensures in
    rw (c.unsigned_abs.ensures.value, e) (omega (arith, (size_shifted (scaled c.args.b) k q.size few).1))

pub returns : goal.returns
returns c =
    let x : ℤ = scaled c.args.a in
    let y : ℤ = scaled c.args.b in
    let p : IsBounded x (fraction_bits c.args.a) = number_bounded c.args.a c.requires.a_in in
    let q : IsBounded y (fraction_bits c.args.b) = number_bounded c.args.b c.requires.b_in in
    let up : ℕ = c.fraction_bits.result + c.args.to.frac in
    let down : ℕ = c.fraction_bits-down.result in
    let k : ℕ = c.min-common.result in
    let left = shifted_back c.shifted_left-numerator.result c.scaled.result x
    (up - k) c.shifted_left-numerator.type_inv p.size c.scaled.ensures c.shifted_left-numerator.ensures in
    let right = shifted_back c.shifted_left-denominator.result c.scaled-2.result y
    (down - k) c.shifted_left-denominator.type_inv q.size c.scaled-2.ensures c.shifted_left-denominator.ensures in
    let numerator : to_z w128 (of_z w128 c.turned.result) ≡ turned (y *ℤ pos (2 ^ (down - k))) (x *ℤ pos (2 ^ (up - k))) =
    returned c.turned.result _ c.turned.type_inv
    (c.turned.ensures ∙ ap (λ (z : ℤ). turned z (to_z w128 (of_z w128 c.shifted_left-numerator.result))) right
    ∙ ap (turned (y *ℤ pos (2 ^ (down - k)))) left) in
    let denominator : c.unsigned_abs.result ≡ unsigned_abs (y *ℤ pos (2 ^ (down - k))) =
    c.unsigned_abs.ensures.value ∙ ap unsigned_abs right in
    returned c.round.result _ c.round.type_inv
    (c.round.ensures.value ∙ ap (λ (z : ℤ). trunc z c.unsigned_abs.result) numerator ∙ ap (trunc _) denominator)
    ∙ quotient_reduced x y up down k (omega (arith, c.min-common.ensures)) (omega (arith, c.min-common.ensures))
    ∙ ap (λ (g : ℕ). trunc (turned y (x *ℤ pos (2 ^ (g + c.args.to.frac)))) (unsigned_abs y * 2 ^ down)) c.fraction_bits.ensures
    ∙ ap (λ (f : ℕ). trunc (turned y (x *ℤ pos (2 ^ (fraction_bits c.args.b + c.args.to.frac)))) (unsigned_abs y * 2 ^ f))
    c.fraction_bits-down.ensures
