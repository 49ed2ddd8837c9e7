-- The bound of the steps.
use Rattle.std.proofs.Common.{ℕ, ◌+◌, ◌*◌, ◌≤◌, arith}
use Rattle.std.proofs.lemmas.Nat.{mul-le}
use Rattle.ec_fxcode_shifts.specs.ShiftLaws.{most_words}
use Rattle.ec_fxcode_shifts.proofs.Steps.{enough}

-- before the loop, so many turns of a loop over n bytes, and after it
pub steps_bound : (k b c n before loop after : ℕ) → 1 ≤ k → k ≤ b → c ≤ 8 * k → n ≤ 2 * k → before ≤ 3 + (3 + 4 * k)
    → loop ≤ 3 + c * (3 + 4 * n) → after ≤ 60 + 40 * k → before + loop + after ≤ 64 * most_words b
steps_bound k b c n before loop after some l lc ln h1 h2 h3 =
    let a : c * (3 + 4 * n) ≤ 8 * k * (3 + 4 * (2 * k)) = mul-le c (3 + 4 * n) (8 * k) (3 + 4 * (2 * k)) lc (omega arith) in
    let t = enough k b some l in
    omega (arith, a, t, h1, h2, h3)
