use Rattle.std.proofs.Common.{◌≡◌, ℕ, ◌-◌, ◌^◌, ◌≤◌, ◌∙◌, ap, ℤ, pos, ◌*ℤ◌, max, arith}
use Rattle.ec_fx.specs.Numbers.{scaled, fraction_bits}
use Rattle.ec_fx.specs.Rounding.{trunc}
use Rattle.ec_fx.proofs.Bounds.{returned, difference_back, result_format}
use Rattle.ec_fx.proofs.Scaling.{difference_aligned}
use Rattle.ec_fx.proofs.arithmetic.difference.Goals as goal

pub returns : goal.returns
returns c =
    let x : ℤ = scaled c.args.a in
    let y : ℤ = scaled c.args.b in
    let f : ℕ = fraction_bits c.args.a in
    let g : ℕ = fraction_bits c.args.b in
    let m : ℕ = c.max-frac.result in
    let r : ℕ = c.args.to.frac in
    let is_max : m ≡ max f g = omega (arith, c.max-frac.ensures, c.fraction_bits.ensures, c.fraction_bits-2.ensures) in
    let enough : r ≤ m =
    omega (arith, is_max, (result_format c.args.a c.args.b c.args.to c.requires.a_in c.requires.b_in c.requires.permitted).1) in
    let whole = difference_back c.aligned.result c.aligned-2.result (x *ℤ pos (2 ^ (m - f)))
    (y *ℤ pos (2 ^ (m - g))) c.aligned.ensures.bound c.aligned-2.ensures.bound c.aligned.ensures.value c.aligned-2.ensures.value in
    returned c.shifted_right.result _ c.shifted_right.type_inv (c.shifted_right.ensures ∙ ap (λ (z : ℤ). trunc z (2 ^ (m - r))) whole)
    ∙ difference_aligned x y f g r m is_max enough
