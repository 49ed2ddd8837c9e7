use Rattle.std.proofs.Common.{◌≡◌, ℕ, ◌+◌, ◌-◌, ◌^◌, ◌∙◌, ap, ℤ, ◌*ℤ◌, arith}
use Rattle.std.specs.Int.{w128}
use Rattle.std.proofs.lemmas.Int.{fits_signed_from_abs}
use Rattle.ec_fx.specs.Numbers.{scaled, fraction_bits}
use Rattle.ec_fx.specs.Rounding.{trunc}
use Rattle.ec_fx.proofs.Bounds.{back_as, returned, byte_size, product_size, product_back}
use Rattle.ec_fx.proofs.arithmetic.product.Goals as goal

pub overflow_mul-scaled : goal.overflow_mul-scaled
overflow_mul-scaled c =
    let p = byte_size c.args.a c.requires.a_in c.requires.a_byte in
    let q = byte_size c.args.b c.requires.b_in c.requires.b_byte in
    let left = back_as c.scaled.result (scaled c.args.a) c.scaled.ensures (omega (arith, p)) in
    let right = back_as c.scaled-2.result (scaled c.args.b) c.scaled-2.ensures (omega (arith, q)) in
    rw (left, right)
    (fits_signed_from_abs w128 (scaled c.args.a *ℤ scaled c.args.b) (omega (arith, product_size (scaled c.args.a) (scaled c.args.b) p q)))

pub shifted_right-requires-clause-fits : goal.shifted_right-requires-clause-fits
shifted_right-requires-clause-fits c =
    let p = byte_size c.args.a c.requires.a_in c.requires.a_byte in
    let q = byte_size c.args.b c.requires.b_in c.requires.b_byte in
    let whole =
    product_back c.scaled.result c.scaled-2.result (scaled c.args.a) (scaled c.args.b) p q c.scaled.ensures c.scaled-2.ensures in
    rw whole (omega (arith, product_size (scaled c.args.a) (scaled c.args.b) p q))

pub returns : goal.returns
returns c =
    let x : ℤ = scaled c.args.a in
    let y : ℤ = scaled c.args.b in
    let r : ℕ = c.args.to.frac in
    let p = byte_size c.args.a c.requires.a_in c.requires.a_byte in
    let q = byte_size c.args.b c.requires.b_in c.requires.b_byte in
    let count : ℕ = c.fraction_bits.result + c.fraction_bits-2.result - r in
    let same : count ≡ fraction_bits c.args.a + fraction_bits c.args.b - r =
    omega (arith, c.fraction_bits.ensures, c.fraction_bits-2.ensures) in
    let whole = product_back c.scaled.result c.scaled-2.result x y p q c.scaled.ensures c.scaled-2.ensures in
    returned c.shifted_right.result _ c.shifted_right.type_inv
    (c.shifted_right.ensures ∙ ap (λ (z : ℤ). trunc z (2 ^ count)) whole ∙ ap (λ (n : ℕ). trunc (x *ℤ y) (2 ^ n)) same)
