use Rattle.std.proofs.Common.{◌≤◌, ◌^◌, arith}
use Rattle.std.proofs.Math.Nat.{pow-le-pow_right}
use Rattle.ec_interp.proofs.ports.number_of.Goals as goal

-- seven bytes hold no more
pub overflow_mul-result : goal.overflow_mul-result
overflow_mul-result c =
    let most : 256 ^ c.args.bytes ≤ 256 ^ 7 =
    (let few : c.args.bytes ≤ 7 = omega (arith, c.requires.few) in pow-le-pow_right (omega arith) few) in
    omega (arith, most, c.requires.above)

pub overflow_add-result : goal.overflow_add-result
overflow_add-result c =
    let most : 256 ^ c.args.bytes ≤ 256 ^ 7 =
    (let few : c.args.bytes ≤ 7 = omega (arith, c.requires.few) in pow-le-pow_right (omega arith) few) in
    omega (arith, most, c.requires.above, c.ranges.byte.fits)
