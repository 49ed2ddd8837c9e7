-- Powers of ten and of two.
use Rattle.std.proofs.Common.{◌≡◌, ℕ, ◌+◌, ◌*◌, ◌^◌, ◌≤◌, add-one, lit<}
use Rattle.std.proofs.Math.Nat.{pow-le-pow_right, pow-suc, one-le-pow}

-- one power more of ten, and all up to 10^24 fit in 128 bits
pub ten_step : (k : ℕ) → 10 ^ (k + 1) ≡ 10 ^ k * 10
ten_step k = rw (add-one k, pow-suc 10 k)

pub ten_bound : (k : ℕ) → k ≤ 24 → (1 ≤ 10 ^ k) × (10 ^ k ≤ 10 ^ 24)
ten_bound k h = (one-le-pow k 10 (lit< tt), pow-le-pow_right (lit< tt) h)
