-- The powers of 256.
use Rattle.std.proofs.Common.{ℕ, ◌≤◌, ◌^◌, arith}
use Rattle.std.proofs.Math.Nat.{pow-le-pow_right}
use Rattle.ec_asm.proofs.Numbers.{pow_pos}

pub power_some : (n : ℕ) → 1 ≤ 256 ^ n
power_some n = let some = pow_pos n in omega (arith, some)

-- of 8 at most
pub power_few : (n : ℕ) → n ≤ 8 → 256 ^ n ≤ 18446744073709551616
power_few n l =
    let h : 256 ^ n ≤ 256 ^ 8 = pow-le-pow_right {n = 256} (omega arith) {i = n} {j = 8} (omega arith) in
    omega (arith, h)
