-- What the turns of a counted loop are.
use Rattle.std.specs.Prelude.{◌≡◌, ℕ, nat_lt, true, ℤ, pos, ◌+ℤ◌, ◌*ℤ◌, unsigned_abs}
use Rattle.std.specs.Ordering.{int_cmp}
use Rattle.ec_core.specs.declared.expressions.BinOp.{BinOp}
use Rattle.ec_core.specs.Integers.{accepts}
use Rattle.ec_core_steps.specs.Counted.{turns, leads_to}

-- from the first value on, each so far from the one before, those are in order with the bound whose number, from 0, is
-- less than the turns
abbrev pub TurnsAreValuesInOrder : Type 0
TurnsAreValuesInOrder =
    (op : BinOp) (first bound by : ℤ) → leads_to op by ≡ true → (j : ℕ)
    → accepts op (int_cmp (first +ℤ pos j *ℤ by) bound) ≡ nat_lt j (turns op first bound (unsigned_abs by))
