use Rattle.std.proofs.Common.{ℕ, ◌^◌, ◌<◌, ◌≤◌, arith}
use Rattle.std.proofs.Math.Nat.{pow-le-pow_right}
use Rattle.ec_asm.proofs.Numbers.{pow_pos}
use Rattle.ec_select_operations.proofs.stores.byte_of.Goals as goal

power_fits : (i : ℕ) → i < 16 → 256 ^ i < 340282366920938463463374607431768211456
power_fits i l =
    let h : 256 ^ i ≤ 256 ^ 15 = pow-le-pow_right {n = 256} (omega arith) {i = i} {j = 15} (omega arith) in
    omega (arith, h)

pub pow-requires : goal.pow-requires
pow-requires c = grind (arith, power_fits, c.from.ensures, c.requires)

pub nonzero_div-result : goal.nonzero_div-result
nonzero_div-result c = grind (arith, pow_pos, c.pow.ensures)
