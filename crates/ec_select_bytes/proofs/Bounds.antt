-- Powers of 256 that a number has.
use Rattle.std.proofs.Common.{ℕ, ◌^◌, ◌<◌, ◌≤◌, arith}
use Rattle.std.proofs.Math.Nat.{pow-le-pow_right}

pub power_fits : (i : ℕ) → i < 16 → 256 ^ i < 340282366920938463463374607431768211456
power_fits i l =
    let h : 256 ^ i ≤ 256 ^ 15 = pow-le-pow_right {n = 256} (omega arith) {i = i} {j = 15} (omega arith) in
    omega (arith, h)
