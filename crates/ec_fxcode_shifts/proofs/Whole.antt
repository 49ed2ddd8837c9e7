-- The whole code of a shift.
use Rattle.std.proofs.Common.{◌≡◌, ℕ, zero, suc, ◌*◌, ◌≤◌, ◌⊎◌, inl, inr, true, false, arith}
use Rattle.ec_fxcode_shifts.specs.ShiftLaws.{ShiftsAreRight}
use Rattle.ec_fxcode_shifts.proofs.Entered.{format_width}
use Rattle.ec_fxcode_shifts.proofs.Left.{left_runs}
use Rattle.ec_fxcode_shifts.proofs.Right.{right_runs}

-- a whole number has at least one byte
some_byte : (bits m : ℕ) → (bits ≡ 8) ⊎ ((bits ≡ 16) ⊎ (bits ≡ 32)) → bits ≡ 8 * m → 1 ≤ m
some_byte bits m (inl x) e = omega (arith, x, e)
some_byte bits m (inr (inl x)) e = omega (arith, x, e)
some_byte bits m (inr (inr x)) e = omega (arith, x, e)

pub shifts_are_right : ShiftsAreRight
shifts_are_right f g left mode e p c q w zero m a d b s pc end v is bits whole wide slots numbers at =
    let k = format_width f zero is bits in
    absurd (let l = k.some in omega (arith, l))
shifts_are_right f g true mode e p c q w (suc n) m a d b s pc end v is bits whole wide slots numbers at =
    left_runs f g mode e p c q w n m a d b s pc end v is bits (some_byte g.bits m whole.width wide)
    (format_width f (suc n) is bits) slots numbers at
shifts_are_right f g false mode e p c q w (suc n) m a d b s pc end v is bits whole wide slots numbers at =
    right_runs f g mode e p c q w n m a d b s pc end v bits (some_byte g.bits m whole.width wide)
    (format_width f (suc n) is bits) slots numbers at
